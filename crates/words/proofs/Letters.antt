-- A name whose first letter has another number than the word's is not the word: the names of its letter are enough to search.
-- Assumes nothing.
use mathlib.Core.Path.{◌≡◌, refl, ap, sym, subst, ◌∙◌}
use mathlib.Core.Bool.{Bool, true, false, cond, not, ◌&&◌, and-eq-true_iff}
use mathlib.Core.List.{List, [], ◌∷◌}
use Prim.Native.Nat.{ℕ, zero, suc, ◌+◌, ◌%◌, ◌<◌, ◌≤◌}
use native.Mathlib.Nat.{not-suc-le-zero, le_of_suc-le-suc}
use native.Mathlib.Omega.{arith}
use lib.Dec.{eqb, leb}
use lib.ListN.{length, take, drop, get_or}
use lib.Seq.{slice, length-take-le}
use borrow.Author.Tests.{eqb-false, leb-true, ne_eqb, not-true}
use Rattle.laws.proofs.Tabulate.{agree, tabulate}
use Rattle.words.specs.Spellings.{bytes, spellings}
use Rattle.words.specs.Tables.{Lent, cut, firsts_from}
use Rattle.words.specs.Words.{lower, same_word, index_in, find_in}
use Rattle.words.proofs.Words.{found-in, missing-in}
use Rattle.std.specs.Prelude.{Some, None}

-- no name has the letter j
abbrev clear : ℕ → List (List ℕ) → Bool
clear j [] = true
clear j ([] ∷ ns) = clear j ns
clear j ((y ∷ n) ∷ ns) = not (eqb (y % 32) j) && clear j ns

lower_letter : (b : ℕ) → lower b % 32 ≡ b % 32
unfolding lower
lower_letter b = by (leb 65 b && leb b 90)
  where
    by : (t : Bool) → cond t (b + 32) b % 32 ≡ b % 32
    by true = omega arith
    by false = refl

module _ (x : ℕ) (w : List ℕ) where
  other : (n : List ℕ) (ns : List (List ℕ)) → clear (x % 32) (n ∷ ns) ≡ true
      → (same_word (x ∷ w) n ≡ false) × (clear (x % 32) ns ≡ true)
  unfolding same_word
  other [] ns e = (refl, e)
  other (y ∷ n) ns e =
      let p = (and-eq-true_iff (not (eqb (y % 32) (x % 32))) (clear (x % 32) ns)).0 e in
      let d : lower x ≡ lower y → ⊥ =
      λ q. eqb-false (y % 32) (x % 32) (not-true _ p.0) (omega (arith, lower_letter x, lower_letter y)) in
      (simp (ne_eqb (lower x) (lower y) d), p.1)

  none : (ns : List (List ℕ)) → clear (x % 32) ns ≡ true → index_in (x ∷ w) ns ≡ length ns
  unfolding index_in
  none [] e = refl
  none (n ∷ ns) e = let p = other n ns e in simp p.0 (ap suc (none ns p.1))

  front : (k : ℕ) (ns : List (List ℕ)) → clear (x % 32) (take k ns) ≡ true → k ≤ length ns
      → index_in (x ∷ w) ns ≡ k + index_in (x ∷ w) (drop k ns)
  unfolding index_in
  front zero ns e h = omega arith
  front (suc k) [] e h = absurd (not-suc-le-zero h)
  front (suc k) (n ∷ ns) e h =
      let p = other n (take k ns) e in
      simp p.0 (omega (arith, front k ns p.1 (le_of_suc-le-suc h)))

  found : (k : ℕ) (ns : List (List ℕ)) → index_in (x ∷ w) (take k ns) < k → index_in (x ∷ w) (take k ns) ≡ index_in (x ∷ w) ns
  unfolding index_in
  found zero ns h = absurd (not-suc-le-zero h)
  found (suc k) [] h = refl
  found (suc k) (n ∷ ns) h = by (same_word (x ∷ w) n) h (found k ns)
    where
      by : (t : Bool) {i m : ℕ} → cond t 0 (suc i) < suc k → (i < k → i ≡ m) → cond t 0 (suc i) ≡ cond t 0 (suc m)
      by true h f = refl
      by false h f = ap suc (f (le_of_suc-le-suc h))

  missing : (k : ℕ) (ns : List (List ℕ)) → clear (x % 32) (drop k ns) ≡ true → k ≤ index_in (x ∷ w) (take k ns)
      → length ns ≡ index_in (x ∷ w) ns
  unfolding index_in
  missing zero ns e h = sym (none ns e)
  missing (suc k) [] e h = refl
  missing (suc k) (n ∷ ns) e h = by (same_word (x ∷ w) n) h (missing k ns e)
    where
      by : (t : Bool) {i m l : ℕ} → suc k ≤ cond t 0 (suc i) → (k ≤ i → l ≡ m) → suc l ≡ cond t 0 (suc m)
      by true h f = absurd (not-suc-le-zero h)
      by false h f = ap suc (f (le_of_suc-le-suc h))

-- the names with the letter j stand from l up to h
pub record Range (j l h : ℕ) : Type 0 where
  pub ordered : l ≤ h
  pub inside : h ≤ 100
  pub before : clear j (take l (take h spellings)) ≡ true
  pub after : clear j (drop h spellings) ≡ true

-- the same as one test
abbrev apart : ℕ → ℕ → ℕ → Bool
apart j l h = leb l h && leb h 100 && clear j (take l (take h spellings)) && clear j (drop h spellings)

-- two entries of a table that passes the test at each letter
range : (fs : List ℕ) (j : ℕ) → j < 32 → tabulate (λ k. apart k (get_or fs k 0) (get_or fs (k + 1) 0)) 0 32 ≡ tabulate (λ k. true) 0 32
    → Range j (get_or fs j 0) (get_or fs (j + 1) 0)
range fs j s e =
    let l = get_or fs j 0 in
    let h = get_or fs (j + 1) 0 in
    let t : apart j l h ≡ true = agree (λ k. apart k (get_or fs k 0) (get_or fs (k + 1) 0)) (λ k. true) 32 j e s in
    let p = (and-eq-true_iff _ (clear j (drop h spellings))).0 t in
    let q = (and-eq-true_iff _ (clear j (take l (take h spellings)))).0 p.0 in
    let r = (and-eq-true_iff (leb l h) (leb h 100)).0 q.0 in
    record { ordered = leb-true l h r.0; inside = leb-true h 100 r.1; before = q.1; after = p.1 }

module _ (l h i : ℕ) where
  in_range : (x : ℕ) (w : List ℕ) → Range (x % 32) l h → i ≡ l + index_in (x ∷ w) (slice l h spellings)
      → i ≡ index_in (x ∷ w) (take h spellings)
  unfolding spellings
  in_range x w q e =
      let n = length-take-le h spellings q.inside in
      e ∙ sym (front x w l (take h spellings) q.before (omega (arith, q.ordered)))

  found_word : (w : List ℕ) → 0 < length w → Range (get_or w 0 0 % 32) l h → i ≡ l + index_in w (slice l h spellings)
      → i < h → i ≡ index_in w spellings
  found_word [] s q e g = absurd (not-suc-le-zero s)
  found_word (x ∷ w) s q e g = let p = in_range x w q e in p ∙ found x w h spellings (omega arith)

  missing_word : (w : List ℕ) → 0 < length w → Range (get_or w 0 0 % 32) l h → i ≡ l + index_in w (slice l h spellings)
      → h ≤ i → 100 ≡ index_in w spellings
  unfolding spellings
  missing_word [] s q e g = absurd (not-suc-le-zero s)
  missing_word (x ∷ w) s q e g = let p = in_range x w q e in missing x w h spellings q.after (omega arith)

-- ---- what a search among the names of its letter says of a word

pub empty_word : (w : List ℕ) → length w ≡ 0 → None ≡ find_in w spellings
unfolding bytes index_in same_word spellings
empty_word [] h = refl
empty_word (x ∷ w) h = absurd (omega arith)

module _ {letters starts firsts : List ℕ} (t : Lent letters starts firsts) where
  pub letter_range : (j : ℕ) → j < 32 → Range j (get_or firsts j 0) (get_or firsts (j + 1) 0)
  unfolding bytes spellings
  letter_range j s =
      subst (λ (f : List ℕ). Range j (get_or f j 0) (get_or f (j + 1) 0)) (sym t.first) (range (firsts_from 0 32 spellings) j s refl)

  module _ (w : List ℕ) (some : length w ≡ 0 → ⊥) {j : ℕ} (ej : j ≡ get_or w 0 0 % 32) (l h i : ℕ)
      (q : Range j l h) (e : i ≡ l + index_in w (slice l h (cut starts letters))) where
    abbrev searched : i ≡ l + index_in w (slice l h spellings)
    searched = e ∙ ap (λ (ns : List (List ℕ)). l + index_in w (slice l h ns)) t.names

    abbrev letter : Range (get_or w 0 0 % 32) l h
    letter = subst (λ (k : ℕ). Range k l h) ej q

    pub names_it : i < h → Some i ≡ find_in w spellings
    unfolding spellings
    names_it g = found-in w spellings (found_word l h i w (omega arith) letter searched g) (omega (arith, q.inside))

    pub names-none : h ≤ i → None ≡ find_in w spellings
    unfolding spellings
    names-none g = missing-in w spellings (missing_word l h i w (omega arith) letter searched g) (omega arith)
