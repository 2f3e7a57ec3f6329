-- `writing::move_level` meets its contract. Assumes nothing.
use native.Mathlib.Omega.{arith}
use Rattle.writing.proofs.Turns.{moved-is}
use Rattle.writing.proofs.move_level.Goals as goal

pub add_action-requires : goal.add_action-requires
add_action-requires c =
    (c.requires.1.0, (c.next_net-net.ensures.net_fits, omega (arith, c.requires.1.1.0, c.requires.1.1.1)))

pub returns : goal.returns
returns c =
    let a = c.args in
    moved-is _ _ _ a.first a.given _ _ _ _ c.level_at-held.result c.first_is_empty-empty.result c.next_net-net.result _
    c.level_at-held.ensures.value c.first_is_empty-empty.ensures c.next_net-net.ensures.value c.add_action.ensures
