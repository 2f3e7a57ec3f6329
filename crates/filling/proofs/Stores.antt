-- Stores into an output that may be shorter than what is stored. Assumes nothing.
use mathlib.Core.Path.{◌≡◌, refl, sym, ap, ◌∙◌}
use mathlib.Core.Bool.{Bool, true, false}
use mathlib.Core.List.{List, [], ◌∷◌, ◌++◌, append-nil}
use Prim.Native.Nat.{ℕ, zero, suc, ◌+◌, ◌-◌, ◌≤◌, ◌<◌, min}
use native.Mathlib.Omega.{arith}
use lib.Dec.{ltb}
use lib.ListN.{length, take, drop, get_or, set, length-set, length-drop, take-append-drop, get_or-append}
use lib.Seq.{sets, set-set, set_out, set-append_left, length-sets, length-take-le, drop-length, get_or-take}
use borrow.Author.Tests.{ltb-true, ltb-false}
use Rattle.laws.proofs.Lists.{to_the_end}
use Rattle.reading.proofs.Sets.{set_before, get_d_first}

pub sets-out : (u l : List ℕ) (i : ℕ) → length l ≤ i → sets l i u ≡ l
sets-out [] l i h = refl
sets-out (x ∷ u) l i h = ap (λ m. sets m (suc i) u) (set_out l i x h) ∙ sets-out u l (suc i) (omega arith)

-- ---- stored inside what was stored

set-inside : (l x : List ℕ) (i j k v : ℕ) → k ≡ i + j → j < length l → set (sets x i l) k v ≡ sets x i (set l j v)
set-inside [] x i j k v e h = absurd (omega arith)
set-inside (y ∷ l) x i zero k v e h =
    let z : k ≡ i = omega arith in
    ap (λ (p : ℕ). set (sets (set x i y) (suc i) l) p v) z
    ∙ set_before l (set x i y) (suc i) i v (omega arith) ∙ ap (λ (m : List ℕ). sets m (suc i) l) (set-set x i y v)
set-inside (y ∷ l) x i (suc j) k v e h = set-inside l (set x i y) (suc i) j k v (omega arith) (omega arith)

pub set_in : (l x : List ℕ) (j v : ℕ) → j < length l → set (sets x 0 l) j v ≡ sets x 0 (set l j v)
set_in l x j v h = set-inside l x 0 j j v (omega arith) h

pub sets_in : (u l x : List ℕ) (j : ℕ) → j + length u ≤ length l → sets (sets x 0 l) j u ≡ sets x 0 (sets l j u)
sets_in [] l x j h = refl
sets_in (y ∷ u) l x j h =
    ap (λ (m : List ℕ). sets m (suc j) u) (set_in l x j y (omega arith)) ∙ sets_in u (set l j y) x (suc j) (omega (arith, length-set l j y))

get_d_inside : (l x : List ℕ) (i j k : ℕ) → k ≡ i + j → j < length l → k < length x → get_or (sets x i l) k 0 ≡ get_or l j 0
get_d_inside [] x i j k e h g = absurd (omega arith)
get_d_inside (y ∷ l) x i zero k e h g =
    let z : k ≡ i = omega arith in
    ap (λ (p : ℕ). get_or (sets (set x i y) (suc i) l) p 0) z ∙ first
  where
    first : get_or (sets (set x i y) (suc i) l) i 0 ≡ y
    first = get_d_first l x i y (omega arith)
get_d_inside (y ∷ l) x i (suc j) k e h g = get_d_inside l (set x i y) (suc i) j k (omega arith) (omega arith) (omega (arith, length-set x i y))

-- a byte of what was stored goes into another store; where the output ends before it, none is stored
pub set-by : (f : ℕ → ℕ) (l x : List ℕ) (j : ℕ) → j < length l → set (sets x 0 l) j (f (get_or (sets x 0 l) j 0)) ≡ sets x 0 (set l j (f (get_or l j 0)))
set-by f l x j h = by (ltb j (length x)) refl
  where
    by : (t : Bool) → ltb j (length x) ≡ t → set (sets x 0 l) j (f (get_or (sets x 0 l) j 0)) ≡ sets x 0 (set l j (f (get_or l j 0)))
    by true e =
        ap (λ (v : ℕ). set (sets x 0 l) j (f v)) (get_d_inside l x 0 j j (omega arith) h (ltb-true j (length x) e)) ∙ set_in l x j (f (get_or l j 0)) h
    by false e =
        let o : length (sets x 0 l) ≤ j = omega (arith, length-sets x 0 l, ltb-false j (length x) e) in
        set_out (sets x 0 l) j (f (get_or (sets x 0 l) j 0)) o ∙ sym (set_out (sets x 0 l) j (f (get_or l j 0)) o) ∙ set_in l x j (f (get_or l j 0)) h

-- ---- stored into one of two parts

sets-cons : (u l : List ℕ) (x i : ℕ) → sets (x ∷ l) (suc i) u ≡ x ∷ sets l i u
sets-cons [] l x i = refl
sets-cons (y ∷ u) l x i = sets-cons u (set l i y) x (suc i)

pub sets_right : (p l u : List ℕ) (j k : ℕ) → k ≡ length p + j → sets (p ++ l) k u ≡ p ++ sets l j u
sets_right [] l u j k e = ap (λ (i : ℕ). sets l i u) (omega arith)
sets_right (x ∷ p) l u j zero e = absurd (omega arith)
sets_right (x ∷ p) l u j (suc k) e = sets-cons u (p ++ l) x k ∙ ap (λ (m : List ℕ). x ∷ m) (sets_right p l u j k (omega arith))

pub sets-left : (u p l : List ℕ) (j : ℕ) → j + length u ≤ length p → sets (p ++ l) j u ≡ sets p j u ++ l
sets-left [] p l j h = refl
sets-left (y ∷ u) p l j h =
    ap (λ (m : List ℕ). sets m (suc j) u) (set-append_left p l j y (omega arith)) ∙ sets-left u (set p j y) l (suc j) (omega (arith, length-set p j y))

-- ---- a part that was lent from place s on

pub put_back : (y z : List ℕ) (s : ℕ) → take s y ++ (z ++ drop (length y - s) (drop s y)) ≡ take s y ++ z
put_back y z s =
    ap (λ (l : List ℕ). take s y ++ (z ++ l)) (ap (λ (n : ℕ). drop n (drop s y)) (sym (length-drop s y)) ∙ drop-length (drop s y))
    ∙ ap (λ (l : List ℕ). take s y ++ l) (append-nil z)

at-end : (y w : List ℕ) (b s : ℕ) → s ≡ min b (length y) → sets y s w ≡ sets y b w
at-end y w b s e = by (ltb b (length y)) refl
  where
    by : (t : Bool) → ltb b (length y) ≡ t → sets y s w ≡ sets y b w
    by true h = let g = ltb-true b (length y) h in ap (λ (i : ℕ). sets y i w) (omega (arith, g, e))
    by false h = let g = ltb-false b (length y) h in sets-out w y s (omega (arith, g, e)) ∙ sym (sets-out w y b g)

pub lent_back : (y z w : List ℕ) (b s : ℕ) → s ≡ min b (length y) → z ≡ sets (take (length y - s) (drop s y)) 0 w
    → take s y ++ (z ++ drop (length y - s) (drop s y)) ≡ sets y b w
lent_back y z w b s e f =
    put_back y z s
    ∙ ap (λ (l : List ℕ). take s y ++ l) (f ∙ ap (λ (l : List ℕ). sets l 0 w) (to_the_end y s))
    ∙ sym (sets_right (take s y) (drop s y) w 0 s (omega (arith, length-take-le s y (omega (arith, e)))))
    ∙ ap (λ (l : List ℕ). sets l s w) (take-append-drop s y)
    ∙ at-end y w b s e

-- what stands before the part is as it was
pub before-part : (y z : List ℕ) (s j : ℕ) → j < s → s ≤ length y → get_or (take s y ++ (z ++ drop (length y - s) (drop s y))) j 0 ≡ get_or y j 0
before-part y z s j h g =
    get_or-append (take s y) (z ++ drop (length y - s) (drop s y)) 0 j (omega (arith, length-take-le s y g)) ∙ get_or-take s y j 0 h
