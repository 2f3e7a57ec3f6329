-- A place that is not past the end of a text. Assumes nothing.
use mathlib.Core.Path.{◌≡◌}
use mathlib.Core.List.{List}
use Prim.Native.Nat.{ℕ, ◌≤◌}
use lib.ListN.{length}
use borrow.Author.Tests.{le-ltb}
use Rattle.places.specs.Places.{place_in}

pub inside : (s : List ℕ) (at : ℕ) → at ≤ length s → at ≡ place_in s at
unfolding place_in
inside s at h = simp (le-ltb (length s) at h)
