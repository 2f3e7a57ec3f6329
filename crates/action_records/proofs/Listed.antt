-- The table of codes: an action whose record has fields has a code of 0x80 or more. Assumes nothing.
use mathlib.Core.Path.{◌≡◌, refl, sym, ap, ◌∙◌, subst}
use mathlib.Core.Bool.{Bool, true, false, cond}
use lib.Dec.{leb}
use Rattle.laws.proofs.Tabulate.{agree, tabulate}
use Rattle.names.specs.declared.ActionName.{ActionName}
use Rattle.actions.specs.Numbers.{number_of, action_at}
use Rattle.actions.proofs.Numbers.{number_below, action-number}
use Rattle.shapes.specs.declared.Shape.{Shape}
use Rattle.shapes.specs.declared.Shape.TheVariants as S
use Rattle.shapes.specs.Shapes.{shape_of}
use Rattle.action_records.specs.Codes.{listed}

-- a code below 0x80 has no fields
shorts : tabulate (λ n. cond (leb 0x80 (listed (action_at n)).code) S.Nothing (shape_of (action_at n))) 0 100 ≡ tabulate (λ n. S.Nothing) 0 100
unfolding shape_of number_of
shorts = refl

pub short-nothing : (a : ActionName) → leb 0x80 (listed a).code ≡ false → shape_of a ≡ S.Nothing
short-nothing a h =
    ap (λ (t : Bool). cond t S.Nothing (shape_of a)) (sym h)
    ∙ ap (λ (b : ActionName). cond (leb 0x80 (listed b).code) S.Nothing (shape_of b)) (sym (action-number a))
    ∙ agree (λ n. cond (leb 0x80 (listed (action_at n)).code) S.Nothing (shape_of (action_at n))) (λ n. S.Nothing) 100 (number_of a) shorts (number_below a)

abbrev pub Empty : Shape → Type 0
Empty S.Nothing = Unit {0}
Empty S.Values = ⊥
Empty S.Strings = ⊥
Empty S.StringString = ⊥
Empty S.BoolBoolU8 = ⊥
Empty S.U16 = ⊥
Empty S.BoolBoolMaybeU16 = ⊥
Empty S.String = ⊥
Empty S.Identifier = ⊥
Empty S.U8 = ⊥
Empty S.U16U8 = ⊥
Empty S.Function = ⊥
Empty S.Function2 = ⊥
Empty S.Block = ⊥
Empty S.Try = ⊥

pub long-code : (a : ActionName) → (Empty (shape_of a) → ⊥) → leb 0x80 (listed a).code ≡ true
long-code a h = by (leb 0x80 (listed a).code) refl
  where
    by : (t : Bool) → leb 0x80 (listed a).code ≡ t → t ≡ true
    by true e = refl
    by false e = absurd (h (subst Empty (sym (short-nothing a e)) tt))
