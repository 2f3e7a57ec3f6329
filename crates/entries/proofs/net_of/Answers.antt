-- `entries::net_of` meets its contract. Assumes nothing.
use Prim.Native.Nat.{◌-◌}
use native.Mathlib.Omega.{arith}
use Rattle.entries.proofs.Words.{neg_fits, negative, positive, undetermined}
use Rattle.entries.proofs.net_of.Goals as goal

pub overflow_sub-result-then-number-lt196608 : goal.overflow_sub-result-then-number-lt196608
overflow_sub-result-then-number-lt196608 c =
    neg_fits (196608 - c.args.number) (omega arith)

pub returns-then-number-lt196608 : goal.returns-then-number-lt196608
returns-then-number-lt196608 c =
    negative _ c.if-number-lt196608.true

pub returns-then-number-lt524288 : goal.returns-then-number-lt524288
returns-then-number-lt524288 c =
    positive _ c.if-number-lt196608.false c.if-number-lt524288.true

pub returns : goal.returns
returns c =
    undetermined _ c.if-number-lt524288.false
