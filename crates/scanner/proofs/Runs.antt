-- How a run and a string go on by one byte, and that they end within the text. Assumes nothing.
use mathlib.Core.Path.{◌≡◌}
use mathlib.Core.Bool.{Bool, true, false, cond}
use mathlib.Core.List.{List, [], ◌∷◌}
use Prim.Native.Nat.{ℕ, zero, suc, ◌+◌, ◌≤◌, ◌<◌, max}
use native.Mathlib.Numerals.{add-one}
use native.Mathlib.Omega.{arith}
use lib.ListN.{length, drop, get_or, drop_of_length-le, length-drop, get_or-eq_default}
use lib.Seq.{drop-cons}
use Rattle.scanner.specs.Bytes.{run_of}
use Rattle.scanner.specs.Ends.{run_end, stops, protects_next, until_stop}

module _ (p : ℕ → Bool) (s : List ℕ) (i : ℕ) where
  run_more : i < length s → run_of p (drop i s) ≡ cond (p (get_or s i 0)) (suc (run_of p (drop (i + 1) s))) 0
  unfolding run_of
  run_more h = rw (add-one i, drop-cons s i 0)

  pub run-stop : i < length s → p (get_or s i 0) ≡ false → i ≡ run_end p s i
  run-stop h e = simp (run_more h, e) (omega arith)

  pub run_on : i < length s → p (get_or s i 0) ≡ true → run_end p s i ≡ run_end p s (i + 1)
  run_on h e = simp (run_more h, e) (omega arith)

  pub run-last : length s ≤ i → i ≡ run_end p s i
  unfolding run_of
  run-last h = simp (drop_of_length-le s h) (omega arith)

module _ (p : ℕ → Bool) where
  run_short : (s : List ℕ) → run_of p s ≤ length s
  unfolding run_of
  run_short [] = omega arith
  run_short (b ∷ s) = step (p b) (run_of p s) (length s) (run_short s)
    where
      step : (t : Bool) (a n : ℕ) → a ≤ n → cond t (suc a) 0 ≤ suc n
      step true a n h = omega arith
      step false a n h = omega arith

  pub run_fits : (s : List ℕ) (i : ℕ) → i ≤ length s → run_end p s i ≤ length s
  run_fits s i h = omega (arith, run_short (drop i s), length-drop i s)

module _ (s : List ℕ) (i : ℕ) (q : Bool) where
  stop-more :
      i < length s
      → until_stop q (drop i s) ≡ cond (stops q (get_or s i 0)) 0 (suc (until_stop (protects_next q (get_or s i 0)) (drop (i + 1) s)))
  unfolding until_stop
  stop-more h = rw (add-one i, drop-cons s i 0)

  pub stop-here : i < length s → true ≡ stops q (get_or s i 0) → i ≡ i + until_stop q (drop i s)
  stop-here h e = simp (stop-more h, ← e) (omega arith)

  pub stop_on : (p : Bool) → i < length s → false ≡ stops q (get_or s i 0) → p ≡ protects_next q (get_or s i 0)
      → i + until_stop q (drop i s) ≡ i + 1 + until_stop p (drop (i + 1) s)
  stop_on p h e f = simp (stop-more h, ← e, f) (omega arith)

  pub stop-last : length s ≤ i → i ≡ i + until_stop q (drop i s)
  unfolding until_stop
  stop-last h = simp (drop_of_length-le s h) (omega arith)

stop-short : (q : Bool) (s : List ℕ) → until_stop q s ≤ length s
unfolding until_stop
stop-short q [] = omega arith
stop-short q (b ∷ s) = step (stops q b) _ (length s) (stop-short (protects_next q b) s)
  where
    step : (t : Bool) (a n : ℕ) → a ≤ n → cond t 0 (suc a) ≤ suc n
    step true a n h = omega arith
    step false a n h = omega arith

pub stop-fits : (q : Bool) (s : List ℕ) (i : ℕ) → i ≤ length s → i + until_stop q (drop i s) ≤ length s
stop-fits q s i h = omega (arith, stop-short q (drop i s), length-drop i s)

-- a byte that is not 0 stands within the text
pub inside : (s : List ℕ) (i : ℕ) → 0 < get_or s i 0 → i < length s
inside [] i h = omega (arith, get_or-eq_default {A = ℕ} [] 0 {n = i} (omega arith))
inside (b ∷ s) zero h = omega arith
inside (b ∷ s) (suc i) h = omega (arith, inside s i h)

-- where a loop from i on has passed all n bytes, what it found is the larger of i and n
pub at_last : (i n j m v : ℕ) → m ≡ max i n → n ≤ j → (i ≤ n → j ≤ n) → (n ≤ i → i ≡ v) → j ≡ v → m ≡ v
at_last i n j m v e h f g k = grind arith
