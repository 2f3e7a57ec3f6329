-- `numbers::known_double` meets its contract. Assumes nothing.
use Prim.Native.Nat.{◌≤◌}
use native.Mathlib.Omega.{arith}
use Rattle.numbers.proofs.Doubles as laws
use Rattle.numbers.proofs.known_double.Goals as goal

pub overflow_add-end : goal.overflow_add-end
overflow_add-end c =
    let p = c.requires in
    let s = c.args.s.now in
    omega (arith, p.s_len_bound.0, p.s_len_bound.1, (laws.mantissa_within s).to)

pub overflow_add-x : goal.overflow_add-x
overflow_add-x c =
    let fraction_small : c.fraction_digits-fraction.result ≤ 65536 = let p = c.requires in
    omega (arith, p.s_len_bound.0, c.fraction_digits-fraction.ensures, laws.fraction_fits c.args.s.now) in
    omega (arith, fraction_small, c.requires.n_bound.1.0)

pub short_double-requires : goal.short_double-requires
short_double-requires c =
    let fraction_small : c.fraction_digits-fraction.result ≤ 65536 = let p = c.requires in
    omega (arith, p.s_len_bound.0, c.fraction_digits-fraction.ensures, laws.fraction_fits c.args.s.now) in
    (c.requires.n_bound.0, (omega arith, omega (arith, fraction_small, c.requires.n_bound.1.0)))

pub short_double-requires-2 : goal.short_double-requires-2
short_double-requires-2 c =
    let fraction_small : c.fraction_digits-fraction.result ≤ 65536 = let p = c.requires in
    omega (arith, p.s_len_bound.0, c.fraction_digits-fraction.ensures, laws.fraction_fits c.args.s.now) in
    (c.requires.n_bound.0, (omega (arith, c.requires.n_bound.1.0), omega (arith, fraction_small)))
