-- Runs of stores: put together, read, and put at the front. Assumes nothing.
use mathlib.Core.Path.{◌≡◌, refl, ap, ◌∙◌}
use mathlib.Core.List.{List, [], ◌∷◌, ◌++◌}
use Prim.Native.Nat.{ℕ, suc, ◌+◌, ◌≤◌, ◌<◌}
use native.Mathlib.Omega.{arith}
use lib.ListN.{length, drop, get_or, set}
use lib.Seq.{sets, sets-eq, get_or-set_same, get_or-set_other, set_comm}
use Rattle.reading.specs.Tables.{front}

pub joined : (u l v : List ℕ) (i j : ℕ) → j ≡ i + length u → sets (sets l i u) j v ≡ sets l i (u ++ v)
joined [] l v i j e = let z : j ≡ i = omega arith in ap (λ k. sets l k v) z
joined (x ∷ u) l v i j e = joined u (set l i x) v (suc i) j (omega arith)

-- a place before the run
pub get_d_before : (u l : List ℕ) (i k : ℕ) → k < i → get_or (sets l i u) k 0 ≡ get_or l k 0
get_d_before [] l i k h = refl
get_d_before (x ∷ u) l i k h = get_d_before u (set l i x) (suc i) k (omega arith) ∙ get_or-set_other l i k x 0 (λ e. omega arith)

pub get_d_first : (u l : List ℕ) (i x : ℕ) → i < length l → get_or (sets l i (x ∷ u)) i 0 ≡ x
get_d_first u l i x h = get_d_before u (set l i x) (suc i) i (omega arith) ∙ get_or-set_same l i x 0 h

pub set_before : (u l : List ℕ) (i k v : ℕ) → k < i → set (sets l i u) k v ≡ sets (set l k v) i u
set_before [] l i k v h = refl
set_before (x ∷ u) l i k v h =
    set_before u (set l i x) (suc i) k v (omega arith) ∙ ap (λ m. sets m (suc i) u) (set_comm l i k x v (λ e. omega arith))

pub at_front : (u l : List ℕ) → length u ≤ length l → sets l 0 u ≡ front u l
at_front u l h = let z : 0 + length u ≡ length u = omega arith in sets-eq u l 0 (omega arith) ∙ ap (λ k. u ++ drop k l) z
