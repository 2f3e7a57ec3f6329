-- A text that starts with bytes in given ranges, byte by byte. Assumes nothing.
use mathlib.Core.Path.{◌≡◌, refl}
use mathlib.Core.Bool.{Bool, true, false, cond, ◌&&◌, false≢true, and-true}
use mathlib.Core.List.{List, [], ◌∷◌, ◌++◌}
use Prim.Native.Nat.{ℕ, suc, ◌+◌, ◌≤◌, ◌<◌}
use native.Mathlib.Omega.{arith}
use lib.ListN.{length, drop, get_or, drop_of_length-le}
use lib.Seq.{drop-cons, drop-drop}
use Rattle.utf8.specs.Utf8.{Range, holds, starts, char_in}

pub at : (r : Range) (s : List ℕ) (i : ℕ) → i < length s → starts (r ∷ []) (drop i s) ≡ holds r (get_or s i 0)
unfolding starts
at r s i h = rw (drop-cons s i 0) (and-true (holds r (get_or s i 0)))

pub past : (r : Range) (s : List ℕ) (i : ℕ) → length s ≤ i → starts (r ∷ []) (drop i s) ≡ false
unfolding starts
past r s i h = rw (drop_of_length-le s h)

-- some bytes, and then others
split : (rs ts : List Range) (s : List ℕ) → (starts rs s && starts ts (drop (length rs) s)) ≡ starts (rs ++ ts) s
unfolding starts
split [] ts s = refl
split (r ∷ rs) ts [] = refl
split (r ∷ rs) ts (b ∷ s) = by (holds r b) (split rs ts s)
  where
    by : (t : Bool) → (starts rs s && starts ts (drop (length rs) s)) ≡ starts (rs ++ ts) s
        → ((t && starts rs s) && starts ts (drop (length rs) s)) ≡ (t && starts (rs ++ ts) s)
    by true e = e
    by false e = refl

pub both : (rs ts : List Range) (s : List ℕ) (i : ℕ) {x y : Bool} → x ≡ starts rs (drop i s) → y ≡ starts ts (drop (i + length rs) s)
    → (x && y) ≡ starts (rs ++ ts) (drop i s)
both rs ts s i e f = simp (e, f, ← drop-drop (length rs) i s) (split rs ts (drop i s))

length-fits : (rs : List Range) (s : List ℕ) → starts rs s ≡ true → length rs ≤ length s
unfolding starts
length-fits [] s e = omega arith
length-fits (r ∷ rs) [] e = absurd (false≢true e)
length-fits (r ∷ rs) (b ∷ s) e = by (holds r b) e (length-fits rs s)
  where
    by : (t : Bool) → (t && starts rs s) ≡ true → (starts rs s ≡ true → length rs ≤ length s) → suc (length rs) ≤ suc (length s)
    by true e f = let h = f e in omega arith
    by false e f = absurd (false≢true e)

-- a character ends within the text
pub char_fits : (l : List (List Range)) (s : List ℕ) → char_in l s ≤ length s
unfolding char_in
char_fits [] s = omega arith
char_fits (rs ∷ l) s = by (starts rs s) (length-fits rs s) (char_fits l s)
  where
    by : (t : Bool) → (t ≡ true → length rs ≤ length s) → char_in l s ≤ length s → cond t (length rs) (char_in l s) ≤ length s
    by true f g = f refl
    by false f g = g
