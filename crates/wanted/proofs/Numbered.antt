-- The operand of a number in a list of operands: past the end there is none, and pairs by turns. Assumes nothing.
use mathlib.Core.Path.{◌≡◌, refl, ap, sym, ◌∙◌}
use mathlib.Core.List.{List, [], ◌∷◌, ◌++◌}
use Prim.Native.Nat.{ℕ, zero, suc, ◌≤◌, ◌<◌, ◌-◌, ◌/◌, ◌%◌}
use native.Mathlib.Omega.{arith}
use lib.ListN.{length, get_or, replicate, get_or-replicate, length-replicate}
use Rattle.laws.proofs.Rest.{rest, NoneBelow}
use Rattle.shapes.specs.declared.Shape.{Shape}
use Rattle.wanted.specs.declared.Wanted.{Wanted}
use Rattle.wanted.specs.declared.Wanted.TheVariants as W
use Rattle.wanted.specs.Wanted.{nth, pairs, bias, wanted_at}

pub past : (l : List Wanted) (n : ℕ) → length l ≤ n → nth l n ≡ W.Nothing
past [] n h = refl
past (w ∷ l) zero h = absurd (omega (arith, h))
past (w ∷ l) (suc n) h = past l n (omega (arith, h))

-- behind the last of a few arms
pub past_one : (a : Wanted) (n : ℕ) → (n ≡ 0 → ⊥) → nth (a ∷ []) n ≡ W.Nothing
past_one a n d = past (a ∷ []) n (rest n 1 (tt, d))

pub past_two : (a b : Wanted) (n : ℕ) → NoneBelow n 2 → nth (a ∷ b ∷ []) n ≡ W.Nothing
past_two a b n d = past (a ∷ b ∷ []) n (rest n 2 d)

pub past_three : (a b e : Wanted) (n : ℕ) → NoneBelow n 3 → nth (a ∷ b ∷ e ∷ []) n ≡ W.Nothing
past_three a b e n d = past (a ∷ b ∷ e ∷ []) n (rest n 3 d)

pub first_of : (a b e : Wanted) (n : ℕ) → n ≡ 0 → a ≡ nth (a ∷ b ∷ e ∷ []) n
first_of a b e n h = ap (nth (a ∷ b ∷ e ∷ [])) (sym h)

pub second_of_lem : (a b e : Wanted) (n : ℕ) → n ≡ 1 → b ≡ nth (a ∷ b ∷ e ∷ []) n
second_of_lem a b e n h = ap (nth (a ∷ b ∷ e ∷ [])) (sym h)

pub third_of : (a b e : Wanted) (n : ℕ) → n ≡ 2 → e ≡ nth (a ∷ b ∷ e ∷ []) n
third_of a b e n h = ap (nth (a ∷ b ∷ e ∷ [])) (sym h)

pub inside : (k i : ℕ) (w : Wanted) → i < k → w ≡ nth (replicate k w) i
inside k i w h = sym (get_or-replicate k i w W.Nothing h)

pub outside : (k i : ℕ) (w : Wanted) → k ≤ i → W.Nothing ≡ nth (replicate k w) i
outside k i w h = sym (past (replicate k w) i (simp length-replicate h))

half : (i : ℕ) → suc (suc i) / 2 ≡ suc (i / 2)
half i = omega arith

pub register : (k i : ℕ) → i % 2 ≡ 0 → nth (pairs k) i ≡ nth (replicate k W.Register) (i / 2)
register zero i h = refl
register (suc k) zero h = refl
register (suc k) (suc zero) h = absurd (omega (arith, h))
register (suc k) (suc (suc i)) h = register k i (omega (arith, h)) ∙ ap (nth (replicate (suc k) W.Register)) (sym (half i))

pub parameter : (k i : ℕ) → (i % 2 ≡ 0 → ⊥) → nth (pairs k) i ≡ nth (replicate k W.Parameter) (i / 2)
parameter zero i h = refl
parameter (suc k) zero h = absurd (h refl)
parameter (suc k) (suc zero) h = refl
parameter (suc k) (suc (suc i)) h = parameter k i (λ e. h (omega (arith, e))) ∙ ap (nth (replicate (suc k) W.Parameter)) (sym (half i))

-- past the front of a list, and in it
pub behind : (l m : List Wanted) (n : ℕ) → length l ≤ n → nth (l ++ m) n ≡ nth m (n - length l)
behind [] m n h = ap (nth m) (omega arith)
behind (w ∷ l) m zero h = absurd (omega (arith, h))
behind (w ∷ l) m (suc n) h = behind l m n (omega (arith, h)) ∙ ap (nth m) (omega arith)

pub front : (l m : List Wanted) (n : ℕ) → n < length l → nth (l ++ m) n ≡ nth l n
front [] m n h = absurd (omega (arith, h))
front (w ∷ l) m zero h = refl
front (w ∷ l) m (suc n) h = front l m n (omega (arith, h))

-- GotoFrame2's third operand
pub no_bias : (n g : ℕ) → g ≡ 0 → nth (W.Bool ∷ W.Bool ∷ W.Nothing ∷ []) n ≡ nth (W.Bool ∷ W.Bool ∷ bias g ∷ []) n
no_bias n zero h = refl
no_bias n (suc g) h = absurd (omega (arith, h))

pub some-bias : (n g : ℕ) → (g ≡ 0 → ⊥) → nth (W.Bool ∷ W.Bool ∷ W.U16 ∷ []) n ≡ nth (W.Bool ∷ W.Bool ∷ bias g ∷ []) n
some-bias n zero h = absurd (h refl)
some-bias n (suc g) h = refl

-- the operands of a DefineFunction2 before its pairs
abbrev pub before-pairs : List Wanted
before-pairs = W.String ∷ W.Count ∷ W.U8 ∷ replicate 9 W.Flag

flag_in : (n : ℕ) → 3 ≤ n → n < 12 → nth before-pairs n ≡ W.Flag
flag_in zero a b = absurd (omega (arith, a))
flag_in (suc zero) a b = absurd (omega (arith, a))
flag_in (suc (suc zero)) a b = absurd (omega (arith, a))
flag_in (suc (suc (suc m))) a b = get_or-replicate 9 m W.Flag W.Nothing (omega (arith, b))

pub flag : (n g : ℕ) → 3 ≤ n → n < 12 → nth (before-pairs ++ pairs g) n ≡ W.Flag
flag n g a b = front before-pairs (pairs g) n b ∙ flag_in n a b

-- an arm of a match on the shape
pub of-shape : (s t : Shape) (n g : ℕ) → s ≡ t → wanted_at t n g ≡ wanted_at s n g
of-shape s t n g e = ap (λ (x : Shape). wanted_at x n g) (sym e)
