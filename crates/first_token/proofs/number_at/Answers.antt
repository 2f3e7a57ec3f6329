-- `first_token::number_at` meets its contract. Assumes nothing.
use native.Mathlib.Omega.{arith}
use Rattle.scanner.proofs.Ends.{digits_within, point_within}
use Rattle.first_token.proofs.number_at.Goals as goal

pub point_end-requires : goal.point_end-requires
point_end-requires c = omega (arith, c.digits_end-i.ensures, digits_within c.args.s.now 1 c.requires)

pub exponent_end-e-requires : goal.exponent_end-e-requires
exponent_end-e-requires c =
    let s = c.args.s.now in
    let d = digits_within s 1 c.requires in
    omega (arith, c.point_end.ensures, point_within s c.digits_end-i.result (omega (arith, c.digits_end-i.ensures, d)))
