-- `values::bits_of` meets its contract. Assumes nothing.
use mathlib.Core.Path.{◌≡◌, ◌∙◌, sym, subst, ap, refl}
use mathlib.Core.Bool.{false, not}
use lib.Dec.{T}
use lib.Ieee as Ieee
use lib.Ieee.{Float, nan, inf, fin}
use lib.Ieee.Compare.{differs_from_itself, nan_differs}
use Rattle.values.specs.Values.{bits_of}
use Rattle.values.proofs.bits_of.Goals as goal

not_nan : (x : Float) → Ieee.ne x x ≡ false → T (not (Ieee.is_nan x))
unfolding Ieee.is_nan
not_nan nan e = absurd (subst T (sym nan_differs ∙ e) tt)
not_nan (inf s) e = tt
not_nan (fin s m x) e = tt

pub returns-then-x : goal.returns-then-x
unfolding Ieee.to_bits
returns-then-x c = ap bits_of (sym (differs_from_itself c.args.x (subst T (sym c.if-x.true) tt)))

pub float_to_bits-result : goal.float_to_bits-result
float_to_bits-result c =
    not_nan c.args.x c.if-x.false

pub returns : goal.returns
returns c =
    refl
