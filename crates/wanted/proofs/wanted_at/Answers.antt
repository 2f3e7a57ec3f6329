-- `wanted::wanted_at` meets its contract, arm by arm. Assumes nothing.
use borrow.Author.Rules.{rules}
use mathlib.Core.Path.{◌∙◌}
use Rattle.wanted.proofs.Numbered.{of-shape}
use Rattle.wanted.specs.Wanted.{wanted_at}
use Rattle.wanted.proofs.wanted_at.Goals as goal

pub enum_told-1 : goal.enum_told-1
unfolding wanted_at
enum_told-1 c =
    search rules

pub enum_told-in-Values : goal.enum_told-in-Values
unfolding wanted_at
enum_told-in-Values c =
    search rules

pub enum_told-in-Strings : goal.enum_told-in-Strings
unfolding wanted_at
enum_told-in-Strings c =
    search rules

pub enum_told-in-StringString : goal.enum_told-in-StringString
unfolding wanted_at
enum_told-in-StringString c =
    search rules

pub of_two-requires : goal.of_two-requires
unfolding wanted_at
of_two-requires c =
    search rules

pub enum_told-in-BoolBoolU8 : goal.enum_told-in-BoolBoolU8
unfolding wanted_at
enum_told-in-BoolBoolU8 c =
    search rules

pub of_three-requires : goal.of_three-requires
unfolding wanted_at
of_three-requires c =
    search rules

pub enum_told-in-U16 : goal.enum_told-in-U16
unfolding wanted_at
enum_told-in-U16 c =
    search rules

pub only_first-requires : goal.only_first-requires
unfolding wanted_at
only_first-requires c =
    search rules

pub enum_told-in-BoolBoolMaybeU16 : goal.enum_told-in-BoolBoolMaybeU16
unfolding wanted_at
enum_told-in-BoolBoolMaybeU16 c =
    search rules

pub wanted_of_frame-requires : goal.wanted_of_frame-requires
unfolding wanted_at
wanted_of_frame-requires c =
    search rules

pub enum_told-in-String : goal.enum_told-in-String
unfolding wanted_at
enum_told-in-String c =
    search rules

pub only_first-requires-in-String : goal.only_first-requires-in-String
unfolding wanted_at
only_first-requires-in-String c =
    search rules

pub enum_told-in-Identifier : goal.enum_told-in-Identifier
unfolding wanted_at
enum_told-in-Identifier c =
    search rules

pub only_first-requires-in-Identifier : goal.only_first-requires-in-Identifier
unfolding wanted_at
only_first-requires-in-Identifier c =
    search rules

pub enum_told-in-U8 : goal.enum_told-in-U8
unfolding wanted_at
enum_told-in-U8 c =
    search rules

pub only_first-requires-in-U8 : goal.only_first-requires-in-U8
unfolding wanted_at
only_first-requires-in-U8 c =
    search rules

pub enum_told-in-U16U8 : goal.enum_told-in-U16U8
unfolding wanted_at
enum_told-in-U16U8 c =
    search rules

pub of_two-requires-in-U16U8 : goal.of_two-requires-in-U16U8
unfolding wanted_at
of_two-requires-in-U16U8 c =
    search rules

pub enum_told-in-Function : goal.enum_told-in-Function
unfolding wanted_at
enum_told-in-Function c =
    search rules

pub wanted_of_function-requires : goal.wanted_of_function-requires
unfolding wanted_at
wanted_of_function-requires c =
    search rules

pub enum_told-in-Function2 : goal.enum_told-in-Function2
unfolding wanted_at
enum_told-in-Function2 c =
    search rules

pub wanted_of_function2-requires : goal.wanted_of_function2-requires
unfolding wanted_at
wanted_of_function2-requires c =
    search rules

pub enum_told-in-Block : goal.enum_told-in-Block
unfolding wanted_at
enum_told-in-Block c =
    search rules

pub enum_told-in-Try : goal.enum_told-in-Try
unfolding wanted_at
enum_told-in-Try c =
    search rules

pub only_first-requires-in-Try : goal.only_first-requires-in-Try
unfolding wanted_at
only_first-requires-in-Try c =
    search rules

pub returns-in-Nothing : goal.returns-in-Nothing
unfolding wanted_at
returns-in-Nothing c =
    of-shape _ _ _ _ c.in-Nothing.is

pub returns-in-Values : goal.returns-in-Values
unfolding wanted_at
returns-in-Values c =
    of-shape _ _ _ _ c.in-Values.is

pub returns-in-Strings : goal.returns-in-Strings
unfolding wanted_at
returns-in-Strings c =
    of-shape _ _ _ _ c.in-Strings.is

pub returns-in-StringString : goal.returns-in-StringString
unfolding wanted_at
returns-in-StringString c =
    c.of_two.ensures ∙ of-shape _ _ _ _ c.in-StringString.is

pub returns-in-BoolBoolU8 : goal.returns-in-BoolBoolU8
unfolding wanted_at
returns-in-BoolBoolU8 c =
    c.of_three.ensures ∙ of-shape _ _ _ _ c.in-BoolBoolU8.is

pub returns-in-U16 : goal.returns-in-U16
unfolding wanted_at
returns-in-U16 c =
    c.only_first.ensures ∙ of-shape _ _ _ _ c.in-U16.is

pub returns-in-BoolBoolMaybeU16 : goal.returns-in-BoolBoolMaybeU16
unfolding wanted_at
returns-in-BoolBoolMaybeU16 c =
    c.wanted_of_frame.ensures ∙ of-shape _ _ _ _ c.in-BoolBoolMaybeU16.is

pub returns-in-String : goal.returns-in-String
unfolding wanted_at
returns-in-String c =
    c.only_first-in-String.ensures ∙ of-shape _ _ _ _ c.in-String.is

pub returns-in-Identifier : goal.returns-in-Identifier
unfolding wanted_at
returns-in-Identifier c =
    c.only_first-in-Identifier.ensures ∙ of-shape _ _ _ _ c.in-Identifier.is

pub returns-in-U8 : goal.returns-in-U8
unfolding wanted_at
returns-in-U8 c =
    c.only_first-in-U8.ensures ∙ of-shape _ _ _ _ c.in-U8.is

pub returns-in-U16U8 : goal.returns-in-U16U8
unfolding wanted_at
returns-in-U16U8 c =
    c.of_two-in-U16U8.ensures ∙ of-shape _ _ _ _ c.in-U16U8.is

pub returns-in-Function : goal.returns-in-Function
unfolding wanted_at
returns-in-Function c =
    c.wanted_of_function.ensures ∙ of-shape _ _ _ _ c.in-Function.is

pub returns-in-Function2 : goal.returns-in-Function2
unfolding wanted_at
returns-in-Function2 c =
    c.wanted_of_function2.ensures ∙ of-shape _ _ _ _ c.in-Function2.is

pub returns-in-Block : goal.returns-in-Block
unfolding wanted_at
returns-in-Block c =
    of-shape _ _ _ _ c.in-Block.is

pub returns-in-Try : goal.returns-in-Try
unfolding wanted_at
returns-in-Try c =
    c.only_first-in-Try.ensures ∙ of-shape _ _ _ _ c.in-Try.is
