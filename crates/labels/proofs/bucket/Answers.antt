-- `labels::bucket` meets its contract. Assumes nothing.
use mathlib.Core.Path.{ap}
use Prim.Native.Nat.{ℕ, ◌*◌, ◌/◌}
use native.Mathlib.Omega.{arith}
use Rattle.labels.proofs.Hashing.{product_fits}
use Rattle.labels.proofs.bucket.Goals as goal

pub overflow_mul-result : goal.overflow_mul-result
overflow_mul-result c =
    let p = c in
    omega (arith, product_fits c.hash_of-h.result p.args.n (omega (arith, c.hash_of-h.ensures)) p.requires.0)

pub returns : goal.returns
returns c = ap (λ (h : ℕ). h * c.args.n / 4294967296) c.hash_of-h.ensures
