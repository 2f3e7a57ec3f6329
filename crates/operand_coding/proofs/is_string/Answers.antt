-- `operand_coding::is_string` meets its contract. Assumes nothing.
use mathlib.Core.Path.{refl, sym, ap}
use mathlib.Core.Bool.{true}
use mathlib.Core.List.{[], ◌∷◌}
use Rattle.tokens.specs.declared.TokenKind.TheVariants as K
use Rattle.tokens.specs.Kinds.{is_kind}
use Rattle.tokens.proofs.Arms.{other_kind}
use borrow.Enum.Refused.{opened}
use Rattle.operand_coding.proofs.is_string.Goals as goal

pub returns-in-String : goal.returns-in-String
returns-in-String c = sym (ap (λ k. is_kind k (K.String true)) c.in-String.is)

pub returns-in_default : goal.returns-in_default
returns-in_default c = other_kind (0 ∷ 2 ∷ 3 ∷ 4 ∷ 5 ∷ 6 ∷ 7 ∷ 8 ∷ 9 ∷ 10 ∷ 11 ∷ 12 ∷ 13 ∷ 14 ∷ 15 ∷ 16 ∷ 17 ∷ 18 ∷ []) c.args.kind (K.String true) (opened c.in_default.in_default-own.keys2) refl
