-- `numbers::power_of_ten` meets its contract: the table is the powers of ten. Assumes nothing.
use native.Mathlib.Omega.{arith}
use lib.Ieee.{nan, of_bits, of_int}
use Rattle.numbers.specs.Doubles.{ten}
use Rattle.laws.proofs.Tabulate.{entry}
use Rattle.numbers.proofs.power_of_ten.Goals as goal

pub returns : goal.returns
unfolding of_bits of_int
returns c = entry ten nan 23 c.args.p (omega (arith, c.requires))
