-- `filling::aim_jump` meets its contract. Assumes nothing.
use Rattle.filling.proofs.Offsets.{jump-aimed, jump_far}
use Rattle.filling.proofs.aim_jump.Goals as goal

pub returns : goal.returns
returns c =
    let a = c.args in
    let some = c.if-aim-eq0.false in
    let from = c.byte_at-from in
    let at = c.min in
    let to = c.byte_at-to in
    let put = c.put_16 in
    let start = c.byte_at in
    let number = c.offset_16-number in
    let near = c.is_near-near in
    let its = c.action_at in record {
      out_after = jump-aimed a.place.now a.n a.k a.aim from.result at.result to.result start.result number.result a.out.now put.new.out
          some from.ensures.value at.ensures to.ensures.value number.ensures start.ensures.value put.ensures;
      value = jump_far a.place.now a.n a.k a.aim from.result at.result to.result its.result c.unless_holds.result near.result
          some from.ensures.value at.ensures to.ensures.value near.ensures its.ensures c.unless_holds.ensures;
    }
