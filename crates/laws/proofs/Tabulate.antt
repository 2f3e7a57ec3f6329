-- A table that lists a function's values, of any element type. Assumes nothing.
use mathlib.Core.Path.{◌≡◌, sym, ap, ◌∙◌}
use mathlib.Core.List.{List, [], ◌∷◌}
use Prim.Native.Nat.{ℕ, zero, suc, ◌+◌, ◌<◌}
use native.Mathlib.Nat.{add-zero, zero-add, add-suc, suc-add, le_of_suc-le-suc, not-suc-le-zero}
use lib.ListN.{get_or}

module _ {E : Type 0} where
  -- f i, f (i + 1), ..: n of them
  abbrev pub tabulate : (ℕ → E) → ℕ → ℕ → List E
  tabulate f i zero = []
  tabulate f i (suc n) = f i ∷ tabulate f (suc i) n

  from : (f : ℕ → E) (d : E) (n i k : ℕ) → k < n → get_or (tabulate f i n) k d ≡ f (i + k)
  from f d zero i k h = absurd (not-suc-le-zero h)
  from f d (suc n) i zero h = rw add-zero
  from f d (suc n) i (suc k) h = from f d n (suc i) k (le_of_suc-le-suc h) ∙ rw (add-suc, suc-add)

  pub entry : (f : ℕ → E) (d : E) (n k : ℕ) → k < n → get_or (tabulate f 0 n) k d ≡ f k
  entry f d n k h = from f d n 0 k h ∙ rw zero-add

  -- two functions with one table agree on it
  pub agree : (f g : ℕ → E) (n k : ℕ) → tabulate f 0 n ≡ tabulate g 0 n → k < n → f k ≡ g k
  agree f g n k e h = sym (entry f (f k) n k h) ∙ ap (λ (l : List E). get_or l k (f k)) e ∙ entry g (f k) n k h
