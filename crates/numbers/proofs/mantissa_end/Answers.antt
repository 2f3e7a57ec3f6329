-- `numbers::mantissa_end` meets its contract. Assumes nothing.
use mathlib.Core.Path.{ap, ◌∙◌}
use native.Mathlib.Omega.{arith}
use Rattle.scanner.specs.Ends.{point_end}
use Rattle.numbers.specs.Doubles.{mantissa_end}
use Rattle.numbers.proofs.Doubles.{whole-within}
use Rattle.numbers.proofs.mantissa_end.Goals as goal

pub point_end-requires : goal.point_end-requires
point_end-requires c =
    omega (arith, c.whole_end.ensures, (whole-within c.args.s.now).to)

pub returns : goal.returns
unfolding mantissa_end
returns c = c.point_end.ensures ∙ ap (point_end c.args.s.now) c.whole_end.ensures
