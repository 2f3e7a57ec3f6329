-- `numbers::number_up_to` meets its contract. The invariant: the bytes that are left decide. Assumes nothing.
use Rattle.std.proofs.Common.{◌≡◌, ◌≤◌, drop}
use Rattle.numbers.specs.Integers.{value_of, value_from}
use Rattle.numbers.proofs.number_up_to.Given as goal

abbrev pub invariant-loop-b : goal.invariant-loop-b
invariant-loop-b l = (l.n ≤ l.top) × (value_of l.s ≡ value_from l.n (drop l.b-index l.s))
