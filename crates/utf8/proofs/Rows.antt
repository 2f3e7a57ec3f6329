-- The row of a character is told by its first byte. Assumes nothing.
use mathlib.Core.Path.{◌≡◌, refl, ap, sym, ◌∙◌}
use mathlib.Core.Bool.{Bool, true, false, cond, ◌&&◌}
use mathlib.Core.List.{List, [], ◌∷◌}
use Prim.Native.Nat.{ℕ, suc, ◌+◌, ◌≤◌, ◌<◌}
use native.Mathlib.Omega.{arith}
use lib.ListN.{length, drop, get_or}
use Rattle.laws.proofs.Ranges.{range}
use Rattle.laws.proofs.Tabulate.{tabulate}
use Rattle.utf8.specs.Utf8.{◌to◌, Range, holds, tail, starts, rows, char_in, char_len}

-- what may follow a first byte: the other ranges of each row that it begins
abbrev pub after : ℕ → List (List Range) → List (List Range)
after b [] = []
after b ([] ∷ l) = []
after b ((r ∷ rs) ∷ l) = cond (holds r b) (rs ∷ after b l) (after b l)

abbrev pub len_after : List (List Range) → List ℕ → ℕ
len_after [] s = 0
len_after (rs ∷ l) s = cond (starts rs s) (suc (length rs)) (len_after l s)

by_first : (l : List (List Range)) (b : ℕ) (s : List ℕ) → char_in l (b ∷ s) ≡ len_after (after b l) s
unfolding char_in starts
by_first [] b s = refl
by_first ([] ∷ l) b s = refl
by_first ((r ∷ rs) ∷ l) b s = by (holds r b) (by_first l b s)
  where
    by : (t : Bool) → char_in l (b ∷ s) ≡ len_after (after b l) s
        → cond (t && starts rs s) (suc (length rs)) (char_in l (b ∷ s)) ≡ len_after (cond t (rs ∷ after b l) (after b l)) s
    by true e = ap (λ (n : ℕ). cond (starts rs s) (suc (length rs)) n) e
    by false e = e

-- a run of n first bytes from a on with one answer, which a computed test shows
pub by_row : (s : List ℕ) (a n : ℕ) (v : List (List Range)) → tabulate (λ k. after (a + k) rows) 0 n ≡ tabulate (λ k. v) 0 n
    → 0 < length s → a ≤ get_or s 0 0 → get_or s 0 0 < a + n → char_len s ≡ len_after v (drop 1 s)
by_row [] a n v e p h k = absurd (omega arith)
by_row (b ∷ s) a n v e p h k =
    by_first rows b s ∙ ap (λ (l : List (List Range)). len_after l s) (sym (range (λ x. after x rows) v b a n e h k))

-- the same, from what the code tests: that the bytes after the first are in their ranges
row : (s : List ℕ) (a n : ℕ) (rs : List Range) → tabulate (λ k. after (a + k) rows) 0 n ≡ tabulate (λ k. rs ∷ []) 0 n
    → 0 < length s → a ≤ get_or s 0 0 → get_or s 0 0 < a + n
    → (r : ℕ) (t : Bool) → r ≡ cond t (suc (length rs)) 0 → t ≡ starts rs (drop 1 s) → r ≡ char_len s
row s a n rs e p h k r t f g =
    f ∙ ap (λ (u : Bool). cond u (suc (length rs)) 0) g ∙ sym (by_row s a n (rs ∷ []) e p h k)

-- ---- the rows, one after another

module _ (s : List ℕ) (some : 0 < length s) where
  pub ascii : get_or s 0 0 ≤ 127 → 1 ≡ char_len s
  unfolding starts
  ascii h = sym (by_row s 0 128 ([] ∷ []) refl some (omega arith) (omega arith))

  pub no_first : 128 ≤ get_or s 0 0 → get_or s 0 0 ≤ 193 → 0 ≡ char_len s
  no_first g h = sym (by_row s 128 66 [] refl some g (omega arith))

  pub none : 245 ≤ get_or s 0 0 → get_or s 0 0 < 256 → 0 ≡ char_len s
  none g h = sym (by_row s 245 11 [] refl some g h)

  module _ {r : ℕ} {t : Bool} where
    pub two : 194 ≤ get_or s 0 0 → get_or s 0 0 ≤ 223 → r ≡ cond t 2 0 → t ≡ starts (tail ∷ []) (drop 1 s) → r ≡ char_len s
    two g h e f = row s 194 30 (tail ∷ []) refl some g (omega arith) r t e f

    pub three_224 : get_or s 0 0 ≡ 224 → r ≡ cond t 3 0 → t ≡ starts (160 to 191 ∷ tail ∷ []) (drop 1 s) → r ≡ char_len s
    three_224 h e f = row s 224 1 (160 to 191 ∷ tail ∷ []) refl some (omega arith) (omega arith) r t e f

    pub three_225 : 225 ≤ get_or s 0 0 → get_or s 0 0 ≤ 236 → r ≡ cond t 3 0 → t ≡ starts (tail ∷ tail ∷ []) (drop 1 s) → r ≡ char_len s
    three_225 g h e f = row s 225 12 (tail ∷ tail ∷ []) refl some g (omega arith) r t e f

    pub three_237 : get_or s 0 0 ≡ 237 → r ≡ cond t 3 0 → t ≡ starts (128 to 159 ∷ tail ∷ []) (drop 1 s) → r ≡ char_len s
    three_237 h e f = row s 237 1 (128 to 159 ∷ tail ∷ []) refl some (omega arith) (omega arith) r t e f

    pub three_238 : 238 ≤ get_or s 0 0 → get_or s 0 0 ≤ 239 → r ≡ cond t 3 0 → t ≡ starts (tail ∷ tail ∷ []) (drop 1 s) → r ≡ char_len s
    three_238 g h e f = row s 238 2 (tail ∷ tail ∷ []) refl some g (omega arith) r t e f

    pub four_240 : get_or s 0 0 ≡ 240 → r ≡ cond t 4 0 → t ≡ starts (144 to 191 ∷ tail ∷ tail ∷ []) (drop 1 s) → r ≡ char_len s
    four_240 h e f = row s 240 1 (144 to 191 ∷ tail ∷ tail ∷ []) refl some (omega arith) (omega arith) r t e f

    pub four_241 : 241 ≤ get_or s 0 0 → get_or s 0 0 ≤ 243 → r ≡ cond t 4 0 → t ≡ starts (tail ∷ tail ∷ tail ∷ []) (drop 1 s) → r ≡ char_len s
    four_241 g h e f = row s 241 3 (tail ∷ tail ∷ tail ∷ []) refl some g (omega arith) r t e f

    pub four_244 : get_or s 0 0 ≡ 244 → r ≡ cond t 4 0 → t ≡ starts (128 to 143 ∷ tail ∷ tail ∷ []) (drop 1 s) → r ≡ char_len s
    four_244 h e f = row s 244 1 (128 to 143 ∷ tail ∷ tail ∷ []) refl some (omega arith) (omega arith) r t e f
