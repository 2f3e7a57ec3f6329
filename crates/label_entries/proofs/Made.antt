-- The labels of the first words of a table, and behind them what was there: one more of them is one store more. Assumes nothing.
use mathlib.Core.Path.{◌≡◌, refl, ap}
use mathlib.Core.List.{List, [], ◌∷◌, ◌++◌, map}
use Prim.Native.Nat.{ℕ, zero, suc, ◌≤◌, ◌<◌}
use native.Mathlib.Nat.{not-suc-le-zero, le_of_suc-le-suc}
use lib.ListN.{length, take, drop, get_or, set}
use Rattle.entries.specs.declared.Label.{Label}
use Rattle.entries.specs.Entries.{label_of}

abbrev pub made : List ℕ → List Label → ℕ → List Label
made ws ys i = map label_of (take i ws) ++ drop i ys

pub made_length : (ws : List ℕ) (ys : List Label) (i : ℕ) → i ≤ length ws → i ≤ length ys → length (made ws ys i) ≡ length ys
made_length ws ys zero h g = refl
made_length [] ys (suc i) h g = absurd (not-suc-le-zero h)
made_length (w ∷ ws) [] (suc i) h g = absurd (not-suc-le-zero g)
made_length (w ∷ ws) (y ∷ ys) (suc i) h g = ap suc (made_length ws ys i (le_of_suc-le-suc h) (le_of_suc-le-suc g))

pub made_more : (ws : List ℕ) (ys : List Label) (i : ℕ) → i < length ws → i < length ys → set (made ws ys i) i (label_of (get_or ws i 0)) ≡ made ws ys (suc i)
made_more [] ys i h g = absurd (not-suc-le-zero h)
made_more (w ∷ ws) [] i h g = absurd (not-suc-le-zero g)
made_more (w ∷ ws) (y ∷ ys) zero h g = refl
made_more (w ∷ ws) (y ∷ ys) (suc i) h g = ap (λ (l : List Label). label_of w ∷ l) (made_more ws ys i (le_of_suc-le-suc h) (le_of_suc-le-suc g))
