-- `tokens::token_of` meets its contract: a string's raw bounds are one byte in from each end. Assumes nothing.
use borrow.Author.Tests.{eq-eqb, ne_eqb}
use mathlib.Core.Path.{ap}
use Prim.Native.Nat.{ℕ, ◌+◌, ◌/◌, ◌%◌}
use Rattle.tokens.specs.Tokens.{span}
use Rattle.tokens.proofs.Words.{token-is}
use Rattle.tokens.proofs.token_of.Goals as goal

pub returns-then-number-eq1 : goal.returns-then-number-eq1
returns-then-number-eq1 c =
    let w = c.args.word in
    token-is w c.kind_of-kind.result _ c.kind_of-kind.ensures
    (simp (eq-eqb _ _ c.if-number-eq1.true) (ap (λ (e : ℕ). span (w / 1048576 % 1048576 + 1) e) c.saturating_sub.ensures))

pub returns-else-number-eq1 : goal.returns-else-number-eq1
returns-else-number-eq1 c =
    token-is c.args.word c.kind_of-kind.result _ c.kind_of-kind.ensures (simp (ne_eqb _ _ c.if-number-eq1.false))
