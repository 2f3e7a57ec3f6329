-- `shapes::shape_of` meets its contract, arm by arm. Assumes nothing.
use borrow.Author.Rules.{rules}
use mathlib.Core.Path.{refl, ap, sym}
use mathlib.Core.List.{[], ◌∷◌, map}
use Rattle.names.specs.declared.ActionName.TheVariants as A
use Rattle.actions.specs.Numbers.{number_of}
use Rattle.shapes.specs.Shapes.{Row, rows, shape_of}
use Rattle.shapes.specs.declared.Shape.TheVariants as S
use Rattle.actions.proofs.Arms.{arm, others}
use borrow.Enum.Refused.{opened}
use Rattle.shapes.proofs.shape_of.Goals as goal

pub enum_told-1 : goal.enum_told-1
unfolding shape_of number_of
enum_told-1 c =
    search rules

pub enum_told-in-ConstantPool : goal.enum_told-in-ConstantPool
unfolding shape_of number_of
enum_told-in-ConstantPool c =
    search rules

pub enum_told-in-GetUrl : goal.enum_told-in-GetUrl
unfolding shape_of number_of
enum_told-in-GetUrl c =
    search rules

pub enum_told-in-GetUrl2 : goal.enum_told-in-GetUrl2
unfolding shape_of number_of
enum_told-in-GetUrl2 c =
    search rules

pub enum_told-in-GotoFrame : goal.enum_told-in-GotoFrame
unfolding shape_of number_of
enum_told-in-GotoFrame c =
    search rules

pub enum_told-in-GotoFrame2 : goal.enum_told-in-GotoFrame2
unfolding shape_of number_of
enum_told-in-GotoFrame2 c =
    search rules

pub enum_told-in-WaitForFrame : goal.enum_told-in-WaitForFrame
unfolding shape_of number_of
enum_told-in-WaitForFrame c =
    search rules

pub enum_told-in-DefineFunction : goal.enum_told-in-DefineFunction
unfolding shape_of number_of
enum_told-in-DefineFunction c =
    search rules

pub enum_told-in-DefineFunction2 : goal.enum_told-in-DefineFunction2
unfolding shape_of number_of
enum_told-in-DefineFunction2 c =
    search rules

pub enum_told-in-With : goal.enum_told-in-With
unfolding shape_of number_of
enum_told-in-With c =
    search rules

pub enum_told-in-Try : goal.enum_told-in-Try
unfolding shape_of number_of
enum_told-in-Try c =
    search rules

pub returns-in-Push : goal.returns-in-Push
unfolding shape_of number_of
returns-in-Push c =
    ap shape_of (sym c.in-Push.is)

pub returns-in-ConstantPool : goal.returns-in-ConstantPool
unfolding shape_of number_of
returns-in-ConstantPool c =
    ap shape_of (sym c.in-ConstantPool.is)

pub returns-in-GetUrl : goal.returns-in-GetUrl
unfolding shape_of number_of
returns-in-GetUrl c =
    ap shape_of (sym c.in-GetUrl.is)

pub returns-in-GetUrl2 : goal.returns-in-GetUrl2
unfolding shape_of number_of
returns-in-GetUrl2 c =
    ap shape_of (sym c.in-GetUrl2.is)

pub returns-in-GotoFrame : goal.returns-in-GotoFrame
unfolding shape_of number_of
returns-in-GotoFrame c =
    ap shape_of (sym c.in-GotoFrame.is)

pub returns-in-GotoFrame2 : goal.returns-in-GotoFrame2
unfolding shape_of number_of
returns-in-GotoFrame2 c =
    ap shape_of (sym c.in-GotoFrame2.is)

pub returns-in-GotoLabel : goal.returns-in-GotoLabel
unfolding shape_of number_of
returns-in-GotoLabel c = arm shape_of S.String c.args.a (A.GotoLabel ∷ A.SetTarget ∷ []) refl c.in-GotoLabel.in-GotoLabel-own.keys7

pub returns-in-If : goal.returns-in-If
unfolding shape_of number_of
returns-in-If c = arm shape_of S.Identifier c.args.a (A.If ∷ A.Jump ∷ []) refl c.in-If.in-If-own.keys8

pub returns-in-StoreRegister : goal.returns-in-StoreRegister
unfolding shape_of number_of
returns-in-StoreRegister c = arm shape_of S.U8 c.args.a (A.StoreRegister ∷ A.WaitForFrame2 ∷ []) refl c.in-StoreRegister.in-StoreRegister-own.keys9

pub returns-in-WaitForFrame : goal.returns-in-WaitForFrame
unfolding shape_of number_of
returns-in-WaitForFrame c =
    ap shape_of (sym c.in-WaitForFrame.is)

pub returns-in-DefineFunction : goal.returns-in-DefineFunction
unfolding shape_of number_of
returns-in-DefineFunction c =
    ap shape_of (sym c.in-DefineFunction.is)

pub returns-in-DefineFunction2 : goal.returns-in-DefineFunction2
unfolding shape_of number_of
returns-in-DefineFunction2 c =
    ap shape_of (sym c.in-DefineFunction2.is)

pub returns-in-With : goal.returns-in-With
unfolding shape_of number_of
returns-in-With c =
    ap shape_of (sym c.in-With.is)

pub returns-in-Try : goal.returns-in-Try
unfolding shape_of number_of
returns-in-Try c =
    ap shape_of (sym c.in-Try.is)

pub returns-in_default : goal.returns-in_default
unfolding shape_of number_of
returns-in_default c = arm shape_of S.Nothing c.args.a (others (map (λ (r : Row). r.action) rows)) refl (opened c.in_default.in_default-own.keys15)
