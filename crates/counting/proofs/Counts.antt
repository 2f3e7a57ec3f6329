-- `count_log`: what is counted and what is left are all. Assumes nothing.
use mathlib.Core.Path.{◌≡◌, sym, ap, ◌∙◌}
use mathlib.Core.List.{List, ◌∷◌}
use Prim.Native.Nat.{ℕ, suc, ◌+◌, ◌≤◌, ◌<◌}
use native.Mathlib.Numerals.{add-one}
use native.Mathlib.Omega.{arith}
use lib.ListN.{length, drop, get_or, drop_of_length-le}
use lib.Seq.{drop-cons}
use borrow.Author.Tests.{eq-eqb, ne_eqb}
use Rattle.events.specs.Log.{kind_of}
use Rattle.counting.specs.Counting.{one_if, count_of, Counted}

pub one : (w k : ℕ) {q : ℕ} → q ≡ kind_of w → q ≡ k → 1 ≡ one_if k w
one w k f e = simp (eq-eqb (kind_of w) k (sym f ∙ e))

pub zero_if : (w k : ℕ) {q : ℕ} → q ≡ kind_of w → (q ≡ k → ⊥) → 0 ≡ one_if k w
zero_if w k f n = simp (ne_eqb (kind_of w) k (λ e. n (f ∙ e)))

pub record Done (log : List ℕ) (a n o l i : ℕ) : Type 0 where
  pub inside : i ≤ length log
  pub actions-few : a ≤ i
  pub labels-few : n ≤ i
  pub operands-few : o ≤ i
  pub levels-few : l ≤ suc i
  pub actions : a + count_of 0 (drop i log) ≡ count_of 0 log
  pub labels : n + count_of 1 (drop i log) ≡ count_of 1 log
  pub operands : o + count_of 2 (drop i log) ≡ count_of 2 log
  pub levels : l + count_of 3 (drop i log) ≡ suc (count_of 3 log)

pub begins : (log : List ℕ) → Done log 0 0 0 1 0
begins log =
    record {
      inside = omega arith;
      actions-few = omega arith;
      labels-few = omega arith;
      operands-few = omega arith;
      levels-few = omega arith;
      actions = omega arith;
      labels = omega arith;
      operands = omega arith;
      levels = omega arith;
    }

pub again : (log : List ℕ) (a n o l i : ℕ) → Done log a n o l i → i < length log → (a' n' o' l' : ℕ)
    → (a' ≡ one_if 0 (get_or log i 0)) × (a' ≤ 1) → (n' ≡ one_if 1 (get_or log i 0)) × (n' ≤ 1) → (o' ≡ one_if 2 (get_or log i 0)) × (o' ≤ 1) → (l' ≡ one_if 3 (get_or log i 0)) × (l' ≤ 1)
    → Done log (a + a') (n + n') (o + o') (l + l') (i + 1)
again log a n o l i d h a' n' o' l' ea en eo el =
    let next : drop i log ≡ get_or log i 0 ∷ drop (i + 1) log = drop-cons log i 0 h ∙ ap (λ k. get_or log i 0 ∷ drop k log) (sym (add-one i)) in
    let more : (k : ℕ) → count_of k (drop i log) ≡ one_if k (get_or log i 0) + count_of k (drop (i + 1) log) = λ k. ap (count_of k) next in
    record {
      inside = omega arith;
      actions-few = omega (arith, d.actions-few, ea.1);
      labels-few = omega (arith, d.labels-few, en.1);
      operands-few = omega (arith, d.operands-few, eo.1);
      levels-few = omega (arith, d.levels-few, el.1);
      actions = omega (arith, d.actions, ea.0, more 0);
      labels = omega (arith, d.labels, en.0, more 1);
      operands = omega (arith, d.operands, eo.0, more 2);
      levels = omega (arith, d.levels, el.0, more 3);
    }

pub ended : (log : List ℕ) (a n o l i : ℕ) → Done log a n o l i → length log ≤ i → Counted log (record { actions = a; labels = n; operands = o; levels = l })
ended log a n o l i d h =
    let none : (k : ℕ) → count_of k (drop i log) ≡ 0 = λ k. ap (count_of k) (drop_of_length-le log h) in
    record {
      actions = omega (arith, d.actions, none 0);
      labels = omega (arith, d.labels, none 1);
      operands = omega (arith, d.operands, none 2);
      levels = omega (arith, d.levels, none 3);
    }
