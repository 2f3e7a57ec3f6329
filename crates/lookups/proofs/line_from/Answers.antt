-- `lookups::line_from` meets its contract: the line ends up to a byte and those from it on. Assumes nothing.
use Prim.Native.Nat.{◌-◌}
use native.Mathlib.Omega.{arith}
use lib.ListN.{length, drop, length-drop}
use lib.Seq.{take_all}
use Rattle.lookups.proofs.Lines as laws
use Rattle.lookups.proofs.line_from.Goals as goal

pub overflow_add-result : goal.overflow_add-result
overflow_add-result c =
    let a = c.args in
    let s = a.text.now in
    let rest = take_all (length s - a.from) (drop a.from s) (omega (arith, length-drop a.from s)) in
    omega (arith, laws.fits s a.from a.line a.to c.requires (omega arith) (omega arith) _ _ rest c.line_at-more.ensures)

pub returns : goal.returns
returns c =
    let a = c.args in
    let s = a.text.now in
    let rest = take_all (length s - a.from) (drop a.from s) (omega (arith, length-drop a.from s)) in
    laws.reached s a.from a.line a.to c.requires (omega arith) (omega arith) _ _ rest c.line_at-more.ensures
