-- How the count of valid bytes goes on by a character. Assumes nothing.
use mathlib.Core.Path.{◌≡◌, refl, ap, sym, ◌∙◌}
use mathlib.Core.List.{List, [], ◌∷◌}
use Prim.Native.Nat.{ℕ, zero, suc, ◌+◌, ◌-◌, ◌≤◌, ◌<◌}
use native.Mathlib.Omega.{arith}
use lib.ListN.{length, take, drop, drop_of_length-le, length-drop}
use lib.Seq.{drop-drop}
use Rattle.laws.proofs.Lists.{to_the_end}
use Rattle.utf8.specs.Utf8.{char_len, rows, valid_from, valid_up_to}
use Rattle.utf8.proofs.Starts.{char_fits}

-- the bytes that end a character are valid
skip : (s : List ℕ) (k : ℕ) → k ≤ length s → valid_from s k ≡ k + valid_up_to (drop k s)
unfolding valid_from
skip s zero h = omega arith
skip [] (suc k) h = absurd (omega arith)
skip (b ∷ s) (suc k) h = ap suc (skip s k (omega arith)) ∙ omega arith

none : (s : List ℕ) → char_len s ≡ 0 → valid_up_to s ≡ 0
unfolding valid_from
none [] e = refl
none (b ∷ s) e = simp e

some : (s : List ℕ) (n : ℕ) → char_len s ≡ n → 0 < n → n ≤ length s → valid_up_to s ≡ n + valid_up_to (drop n s)
unfolding valid_from
some s zero e p h = absurd (omega arith)
some [] (suc n) e p h = absurd (omega arith)
some (b ∷ s) (suc n) e p h = simp e (ap suc (skip s n (omega arith)) ∙ omega arith)

module _ (s : List ℕ) (i : ℕ) (so : valid_up_to s ≡ i + valid_up_to (drop i s)) where
  pub stop : char_len (drop i s) ≡ 0 → i ≡ valid_up_to s
  stop e = omega (arith, none (drop i s) e)

  pub on : (n : ℕ) → char_len (drop i s) ≡ n → 0 < n → valid_up_to s ≡ i + n + valid_up_to (drop (i + n) s)
  on n e p =
      let h : n ≤ length (drop i s) = omega (arith, e, char_fits rows (drop i s)) in
      simp drop-drop at (so ∙ ap (λ (x : ℕ). i + x) (some (drop i s) n e p h)) ∙ omega arith

  pub end : length s ≤ i → i ≡ valid_up_to s
  unfolding valid_from
  end h = sym (so ∙ simp (drop_of_length-le s h) (omega arith))

  -- the same from the length that the code finds
  module _ (n : ℕ) (e : n ≡ char_len (take (length s - i) (drop i s))) where
    here : char_len (drop i s) ≡ n
    here = ap char_len (sym (to_the_end s i)) ∙ sym e

    pub none-here : n ≡ 0 → i ≡ valid_up_to s
    none-here z = stop (here ∙ z)

    pub inside : i ≤ length s → i + n ≤ length s
    inside h = omega (arith, here, char_fits rows (drop i s), length-drop i s)

    pub some-here : 0 < n → valid_up_to s ≡ i + n + valid_up_to (drop (i + n) s)
    some-here p = on n here p
