-- In a text that is UTF-8 a column counts its characters: a byte starts one exactly if it is no later byte of one. Closed texts
-- and their lines and columns, by computation. Assumes nothing.
use mathlib.Core.Path.{◌≡◌, refl, ap, sym, ◌∙◌}
use mathlib.Core.Bool.{Bool, true, false, cond, not, ◌&&◌, ◌||◌, false≢true}
use mathlib.Core.List.{List, [], ◌∷◌, map}
use Prim.Native.Nat.{ℕ, zero, suc, ◌+◌, ◌-◌, ◌≤◌, ◌<◌}
use native.Mathlib.Omega.{arith}
use lib.Dec.{leb}
use lib.ListN.{length}
use borrow.Author.Tests.{leb-true, le-leb, lt-leb}
use Rattle.utf8.specs.Utf8.{Range, holds, starts, rows, char_in, char_len, more, valid_from, valid_up_to}
use Rattle.places.specs.Places.{is_tail, code_points, ends_at, line_ends, line_start, place_in, line_at, column_at}
use Rattle.places.specs.Characters.{characters_from}

-- the first k bytes are later bytes of a character
tails : ℕ → List ℕ → Bool
tails zero s = true
tails (suc k) [] = false
tails (suc k) (b ∷ s) = is_tail b && tails k s

-- a range of later bytes, a range of first bytes, and a row of the table
within : Range → Bool
within r = leb 128 r.low && leb r.high 191

apart : Range → Bool
apart r = leb r.high 127 || leb 192 r.low

all-within : List Range → Bool
all-within [] = true
all-within (r ∷ rs) = within r && all-within rs

sound : List (List Range) → Bool
sound [] = true
sound ([] ∷ l) = false
sound ((r ∷ rs) ∷ l) = apart r && (all-within rs && sound l)

table : sound rows ≡ true
unfolding sound all-within apart within
table = refl

both : (a e : Bool) → (a && e) ≡ true → (a ≡ true) × (e ≡ true)
both true e h = (refl, h)
both false e h = absurd (false≢true h)

-- what a range holds lies between its ends
bounds : (r : Range) (b : ℕ) → holds r b ≡ true → (r.low ≤ b) × (b ≤ r.high)
bounds r b h =
    let p = both (leb r.low b) (leb b r.high) h in
    (leb-true r.low b p.0, leb-true b r.high p.1)

later : (r : Range) (b : ℕ) → within r ≡ true → holds r b ≡ true → is_tail b ≡ true
unfolding within
later r b w h =
    let p = both (leb 128 r.low) (leb r.high 191) w in
    let low : 128 ≤ b = omega (arith, leb-true 128 r.low p.0, bounds r b h) in
    let high : b ≤ 191 = omega (arith, leb-true r.high 191 p.1, bounds r b h) in
    simp (le-leb 128 b low, le-leb b 191 high)

below : (b : ℕ) → b < 128 → is_tail b ≡ false
below b h = simp (lt-leb 128 b h)

above : (b : ℕ) → 191 < b → is_tail b ≡ false
above b h = let low : 128 ≤ b = omega arith in simp (le-leb 128 b low, lt-leb b 191 h)

first : (r : Range) (b : ℕ) → apart r ≡ true → holds r b ≡ true → is_tail b ≡ false
unfolding apart
first r b w h = by (leb r.high 127) refl w
  where
    by : (t : Bool) → leb r.high 127 ≡ t → (t || leb 192 r.low) ≡ true → is_tail b ≡ false
    by true e w = below b (omega (arith, leb-true r.high 127 e, bounds r b h))
    by false e w = above b (omega (arith, leb-true 192 r.low w, bounds r b h))

-- the bytes that a row has after the first
after_first : (rs : List Range) (s : List ℕ) → all-within rs ≡ true → starts rs s ≡ true → tails (length rs) s ≡ true
unfolding all-within starts tails
after_first [] s w h = refl
after_first (r ∷ rs) [] w h = absurd (false≢true h)
after_first (r ∷ rs) (b ∷ s) w h =
    let p = both (within r) (all-within rs) w in
    let q = both (holds r b) (starts rs s) h in
    simp (later r b p.0 q.0, after_first rs s p.1 q.1)

-- a character's first byte starts it, and the others do not
character : (l : List (List Range)) (b : ℕ) (s : List ℕ) (n : ℕ) → sound l ≡ true → char_in l (b ∷ s) ≡ suc n
    → (is_tail b ≡ false) × (tails n s ≡ true)
unfolding sound char_in starts
character [] b s n w e = absurd (omega (arith, e))
character ([] ∷ l) b s n w e = absurd (false≢true w)
character ((r ∷ rs) ∷ l) b s n w e = by (holds r b && starts rs s) refl e (character l b s n)
  where
    p : (apart r ≡ true) × ((all-within rs && sound l) ≡ true)
    p = both (apart r) (all-within rs && sound l) w

    q : (all-within rs ≡ true) × (sound l ≡ true)
    q = both (all-within rs) (sound l) p.1

    by : (t : Bool) → (holds r b && starts rs s) ≡ t → cond t (suc (length rs)) (char_in l (b ∷ s)) ≡ suc n
        → (sound l ≡ true → char_in l (b ∷ s) ≡ suc n → (is_tail b ≡ false) × (tails n s ≡ true))
        → (is_tail b ≡ false) × (tails n s ≡ true)
    by true h e rest =
        let k = both (holds r b) (starts rs s) h in
        let same : length rs ≡ n = omega (arith, e) in
        (first r b p.0 k.0, ap (λ (x : ℕ). tails x s) (sym same) ∙ after_first rs s q.0 k.1)
    by false h e rest = rest q.1 e

from : (s : List ℕ) (k : ℕ) → tails k s ≡ true → length s ≤ valid_from s k → code_points s ≡ characters_from s k
unfolding tails code_points characters_from valid_from
from [] k w h = refl
from (b ∷ s) zero w h = by (char_len (b ∷ s)) refl h (λ n. from s n)
  where
    by : (m : ℕ) → char_len (b ∷ s) ≡ m → suc (length s) ≤ more m (λ n. valid_from s n)
        → ((n : ℕ) → tails n s ≡ true → length s ≤ valid_from s n → code_points s ≡ characters_from s n)
        → cond (not (is_tail b)) 1 0 + code_points s ≡ suc (characters_from s (char_len (b ∷ s) - 1))
    by zero e h go = absurd (omega arith)
    by (suc n) e h go =
        let c = character rows b s n table e in
        let rest = go n c.1 (omega arith) in
        let less : suc n - 1 ≡ n = omega arith in
        simp (c.0, e, rest) (omega (arith, ap (characters_from s) less))
from (b ∷ s) (suc k) w h =
    let p = both (is_tail b) (tails k s) w in
    let rest = from s k p.1 (omega arith) in
    simp p.0 (omega arith)

-- in a text that is UTF-8, the bytes that start a character are as many as its characters
pub characters : (s : List ℕ) → length s ≤ valid_up_to s → code_points s ≡ characters_from s 0
unfolding tails
characters s h = from s 0 refl h

-- ---- closed texts

-- a carriage return with its line feed, é and a quote
text : List ℕ
text = 97 ∷ 13 ∷ 10 ∷ 195 ∷ 169 ∷ 34 ∷ []

lines : map (line_at text) (0 ∷ 1 ∷ 2 ∷ 3 ∷ 5 ∷ 6 ∷ 99 ∷ []) ≡ 1 ∷ 1 ∷ 1 ∷ 2 ∷ 2 ∷ 2 ∷ 2 ∷ []
unfolding text ends_at line_ends place_in
lines = refl

columns : map (column_at text) (0 ∷ 1 ∷ 2 ∷ 3 ∷ 5 ∷ 6 ∷ 99 ∷ []) ≡ 1 ∷ 2 ∷ 3 ∷ 1 ∷ 2 ∷ 3 ∷ 3 ∷ []
unfolding text ends_at line_start place_in code_points
columns = refl

-- each of the three line ends
ends : line_at (13 ∷ 13 ∷ 10 ∷ 10 ∷ []) 4 ≡ 4
unfolding ends_at line_ends place_in
ends = refl
