-- `entries::add_action` meets its contract. Assumes nothing.
use mathlib.Core.Path.{ap, ◌∙◌}
use Prim.Native.Nat.{◌*◌}
use lib.Seq.{sets}
use Rattle.entries.proofs.Levels.{added}
use Rattle.entries.proofs.add_action.Goals as goal

pub returns : goal.returns
returns c =
    let a = c.args in
    c.put_level.ensures
    ∙ ap (sets a.table.now (2 * a.at)) (added a.table.now a.at _ _ _ _ a.net c.word_at.ensures c.word_at-before.ensures c.net_number-number.ensures.0)
