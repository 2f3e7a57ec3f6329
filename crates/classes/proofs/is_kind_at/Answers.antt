-- `classes::is_kind_at` meets its contract. Assumes nothing.
use Rattle.classes.proofs.OneToken.{kind_same, no-kind}
use Rattle.classes.proofs.is_kind_at.Goals as goal

pub returns-then-at-s : goal.returns-then-at-s
returns-then-at-s c =
    kind_same _ _ c.args.kind _ _ c.if-at-s.true c.kind_place.ensures c.kind_number-place.ensures.0

pub returns-else-at-s : goal.returns-else-at-s
returns-else-at-s c =
    no-kind _ _ c.args.kind _ c.if-at-s.false c.kind_number-place.ensures.0 c.kind_number-place.ensures.1
