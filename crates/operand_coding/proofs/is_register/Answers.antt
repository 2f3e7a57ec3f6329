-- `operand_coding::is_register` meets its contract. Assumes nothing.
use mathlib.Core.Path.{refl, sym, ap}
use mathlib.Core.List.{[], ◌∷◌}
use Rattle.tokens.specs.declared.TokenKind.TheVariants as K
use Rattle.tokens.specs.Kinds.{is_kind}
use Rattle.tokens.proofs.Arms.{other_kind}
use borrow.Enum.Refused.{opened}
use Rattle.operand_coding.proofs.is_register.Goals as goal

pub returns-in-Register : goal.returns-in-Register
returns-in-Register c = sym (ap (λ k. is_kind k (K.Register 0)) c.in-Register.is)

pub returns-in_default : goal.returns-in_default
returns-in_default c = other_kind (0 ∷ 1 ∷ 2 ∷ 3 ∷ 5 ∷ 6 ∷ 7 ∷ 8 ∷ 9 ∷ 10 ∷ 11 ∷ 12 ∷ 13 ∷ 14 ∷ 15 ∷ 16 ∷ 17 ∷ 18 ∷ []) c.args.kind (K.Register 0) (opened c.in_default.in_default-own.keys2) refl
