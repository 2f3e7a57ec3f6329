-- `classes::count_at` meets its contract. Assumes nothing.
use Rattle.classes.proofs.OneToken.{count_past, count-is, count-is-none}
use Rattle.classes.proofs.count_at.Goals as goal

pub returns-then-at-s : goal.returns-then-at-s
returns-then-at-s c =
    search count_past

pub returns-in-Some : goal.returns-in-Some
returns-in-Some c =
    search count-is

pub returns-in-None : goal.returns-in-None
returns-in-None c =
    search count-is-none
