-- The line ends of a text are those up to a byte and those from it on. Assumes nothing.
use mathlib.Core.Path.{◌≡◌, sym, ap, ◌∙◌}
use mathlib.Core.Bool.{Bool, true, false, cond}
use mathlib.Core.List.{List}
use Prim.Native.Nat.{ℕ, zero, suc, ◌+◌, ◌-◌, ◌≤◌}
use native.Mathlib.Omega.{arith}
use lib.ListN.{length, drop, length-drop}
use lib.Seq.{get_or-drop}
use Rattle.places.specs.Places.{ends_at, line_ends, line_at}
use Rattle.places.proofs.Lines.{inside}

ends-from : (s : List ℕ) (a i : ℕ) → ends_at (drop a s) i ≡ ends_at s (a + i)
unfolding ends_at
ends-from s a i =
    let next : a + (i + 1) ≡ a + i + 1 = omega arith in
    simp (get_or-drop, next)

abbrev one_if_lem : Bool → ℕ
one_if_lem b = cond b 1 0

one_or_none : (b : Bool) → one_if_lem b ≤ 1
one_or_none true = omega arith
one_or_none false = omega arith

at_most : (s : List ℕ) (n : ℕ) → line_ends s n ≤ n
unfolding line_ends
at_most s zero = omega arith
at_most s (suc n) = omega (arith, at_most s n, one_or_none (ends_at s n))

counts : (s : List ℕ) (a k : ℕ) → line_ends s a + line_ends (drop a s) k ≡ line_ends s (a + k)
unfolding line_ends
counts s a zero = let none : a + 0 ≡ a = omega arith in simp none (omega arith)
counts s a (suc k) =
    let next : a + suc k ≡ suc (a + k) = omega arith in
    let last : one_if_lem (ends_at (drop a s) k) ≡ one_if_lem (ends_at s (a + k)) = ap one_if_lem (ends-from s a k) in
    simp next (omega (arith, counts s a k, last))

module _ (s : List ℕ) (from line to : ℕ) (so : line ≡ line_at s from) (p : from ≤ to) (q : to ≤ length s) where
  module _ (rest : List ℕ) (more : ℕ) (e : rest ≡ drop from s) (m : more ≡ line_at rest (to - from)) where
    counted : more ≡ line_ends (drop from s) (to - from) + 1
    counted =
        let h : to - from ≤ length (drop from s) = omega (arith, length-drop from s) in
        m ∙ ap (λ (l : List ℕ). line_at l (to - from)) e ∙ ap (λ (n : ℕ). line_ends (drop from s) n + 1) (sym (inside (drop from s) (to - from) h))

    before : line ≡ line_ends s from + 1
    before = let h : from ≤ length s = omega arith in so ∙ ap (λ (n : ℕ). line_ends s n + 1) (sym (inside s from h))

    whole : line_ends s from + line_ends (drop from s) (to - from) ≡ line_ends s to
    whole = let h : from + (to - from) ≡ to = omega arith in counts s from (to - from) ∙ ap (line_ends s) h

    pub some_line : 1 ≤ more
    some_line = omega (arith, counted)

    pub fits : line + (more - 1) ≤ to + 1
    fits = omega (arith, counted, before, whole, at_most s to)

    pub reached : line + (more - 1) ≡ line_at s to
    reached = let h : line + (more - 1) ≡ line_ends s to + 1 = omega (arith, counted, before, whole) in h ∙ ap (λ (n : ℕ). line_ends s n + 1) (inside s to q)

-- the first byte stands in line 1
pub first_line : (s : List ℕ) → 1 ≡ line_at s 0
unfolding line_ends
first_line s = ap (λ (n : ℕ). line_ends s n + 1) (inside s 0 (omega arith))
