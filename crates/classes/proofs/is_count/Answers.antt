-- `classes::is_count` meets its contract. Assumes nothing.
use Rattle.classes.proofs.OneToken.{is-count_past, is-count-is}
use Rattle.classes.proofs.is_count.Goals as goal

pub returns-then-at-s : goal.returns-then-at-s
returns-then-at-s c =
    search is-count_past

pub returns : goal.returns
returns c =
    search is-count-is
