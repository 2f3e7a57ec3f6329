-- `tokens::kind_place` meets its contract. Assumes nothing.
use Rattle.tokens.proofs.Places.{known, unknown}
use Rattle.tokens.proofs.kind_place.Goals as goal

pub returns-then-place-lt18 : goal.returns-then-place-lt18
returns-then-place-lt18 c =
    known _ c.if-place-lt18.true

pub returns-else-place-lt18 : goal.returns-else-place-lt18
returns-else-place-lt18 c =
    unknown _ c.if-place-lt18.false
