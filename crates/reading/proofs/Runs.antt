-- Runs of entries, one run for each key in order: grouped they stay as they are. Assumes nothing.
use mathlib.Core.Path.{◌≡◌, refl, sym, ap, ◌∙◌}
use mathlib.Core.List.{List, [], ◌∷◌, ◌++◌, append-nil, append_assoc}
use mathlib.Core.Logic.{◌⊎◌, inl, inr}
use Prim.Native.Nat.{ℕ, zero, suc, ◌+◌, ◌≤◌, ◌<◌}
use native.Mathlib.Decide.{ℕ_discrete, dec_lt}
use native.Mathlib.Nat.{add-zero, zero-add, not-suc-le-zero}
use native.Mathlib.Omega.{arith}
use lib.ListN.{length, take, get_or}
use lib.Seq.{take-suc, take-length, length-take-le}
use Rattle.grouping.specs.Grouping.{key_of, Below, having, grouped}
use Rattle.grouping.proofs.Keys.{with_key, without_key}

-- ---- the entries of one key

pub having-none : (k : ℕ) → having k [] ≡ []
unfolding having
having-none k = refl

pub having-append : (k : ℕ) (l r : List ℕ) → having k (l ++ r) ≡ having k l ++ having k r
having-append k [] r = ap (λ (q : List ℕ). q ++ having k r) (sym (having-none k))
having-append k (w ∷ l) r =
    elim (ℕ_discrete (key_of w) k) [
      | yes e ↦ with_key k w (l ++ r) e ∙ ap (λ (q : List ℕ). w ∷ q) (having-append k l r) ∙ ap (λ (q : List ℕ). q ++ having k r) (sym (with_key k w l e))
      | no e ↦ without_key k w (l ++ r) e ∙ having-append k l r ∙ ap (λ (q : List ℕ). q ++ having k r) (sym (without_key k w l e))
    ]

-- every entry has the key k
abbrev pub OfKey : ℕ → List ℕ → Type 0
OfKey k [] = Unit {0}
OfKey k (w ∷ l) = (key_of w ≡ k) × OfKey k l

pub having-own : (k : ℕ) (l : List ℕ) → OfKey k l → having k l ≡ l
having-own k [] h = having-none k
having-own k (w ∷ l) h = with_key k w l h.0 ∙ ap (λ (q : List ℕ). w ∷ q) (having-own k l h.1)

pub having_other : (j k : ℕ) (l : List ℕ) → OfKey j l → (j ≡ k → ⊥) → having k l ≡ []
having_other j k [] h e = having-none k
having_other j k (w ∷ l) h e = without_key k w l (λ q. e (sym h.0 ∙ q)) ∙ having_other j k l h.1 e

-- lists that agree on every key are grouped alike
pub grouped-same : (l r : List ℕ) → ((k : ℕ) → having k l ≡ having k r) → (n : ℕ) → grouped n l ≡ grouped n r
grouped-same l r h zero = refl
grouped-same l r h (suc n) = ap (λ (q : List ℕ). q ++ having n l) (grouped-same l r h n) ∙ ap (λ (q : List ℕ). grouped n r ++ q) (h n)

-- where no key from n on has an entry, every key is below n
pub all_below : (n : ℕ) (l : List ℕ) → ((k : ℕ) → n ≤ k → having k l ≡ []) → Below n l
all_below n [] h i g = absurd (not-suc-le-zero g)
all_below n (w ∷ l) h zero g =
    elim (dec_lt (key_of w) n) [
      | yes e ↦ e
      | no e ↦ let z = ap length (sym (with_key (key_of w) w l refl) ∙ h (key_of w) (omega (arith, e))) in absurd (omega (arith, z))
    ]
all_below n (w ∷ l) h (suc i) g = all_below n l behind i (omega (arith, g))
  where
    behind : (k : ℕ) → n ≤ k → having k l ≡ []
    behind k e =
        elim (ℕ_discrete (key_of w) k) [
          | yes q ↦ let z = ap length (sym (with_key k w l q) ∙ h k e) in absurd (omega (arith, z))
          | no q ↦ sym (without_key k w l q) ∙ h k e
        ]

-- two lists of which one has nothing change places
pub swap : (a b c : List ℕ) → (a ≡ []) ⊎ (b ≡ []) → a ++ (b ++ c) ≡ b ++ (a ++ c)
swap a b c (inl e) = rw e refl
swap a b c (inr e) = rw e refl

-- ---- runs

abbrev pub Every : {X : Type 0} → (X → Type 0) → List X → Type 0
Every P [] = Unit {0}
Every P (x ∷ xs) = P x × Every P xs

module _ {X : Type 0} (P : X → Type 0) where
  pub every_append : (l k : List X) → Every P l → Every P k → Every P (l ++ k)
  every_append [] k h g = g
  every_append (x ∷ l) k h g = (h.0, every_append l k h.1 g)

module _ {X : Type 0} (f : ℕ → X → List ℕ) where
  -- what x, x .. give with the keys a, a + 1 ..
  abbrev pub runs : ℕ → List X → List ℕ
  runs a [] = []
  runs a (x ∷ xs) = f a x ++ runs (suc a) xs

  pub runs_append : (a : ℕ) (l k : List X) → runs a (l ++ k) ≡ runs a l ++ runs (a + length l) k
  runs_append a [] k = ap (λ (q : ℕ). runs q k) (sym (add-zero a))
  runs_append a (x ∷ l) k =
      let e : suc a + length l ≡ a + suc (length l) = omega arith in
      ap (λ (q : List ℕ). f a x ++ q) (runs_append (suc a) l k)
      ∙ ap (λ (q : ℕ). f a x ++ (runs (suc a) l ++ runs q k)) e
      ∙ sym (append_assoc (f a x) (runs (suc a) l) (runs (a + suc (length l)) k))

  module _ {P : X → Type 0} (own : (a : ℕ) (x : X) → P x → OfKey a (f a x)) where
    pub runs_low : (k a : ℕ) (l : List X) → Every P l → k < a → having k (runs a l) ≡ []
    runs_low k a [] h g = having-none k
    runs_low k a (x ∷ l) h g =
        having-append k (f a x) (runs (suc a) l)
        ∙ ap (λ (q : List ℕ). q ++ having k (runs (suc a) l)) (having_other a k (f a x) (own a x h.0) (λ e. omega (arith, e, g)))
        ∙ runs_low k (suc a) l h.1 (omega (arith, g))

    pub runs_high : (k a : ℕ) (l : List X) → Every P l → a + length l ≤ k → having k (runs a l) ≡ []
    runs_high k a [] h g = having-none k
    runs_high k a (x ∷ l) h g =
        having-append k (f a x) (runs (suc a) l)
        ∙ ap (λ (q : List ℕ). q ++ having k (runs (suc a) l)) (having_other a k (f a x) (own a x h.0) (λ e. omega (arith, e, g)))
        ∙ runs_high k (suc a) l h.1 (omega (arith, g))

    pub run_at : (l : List X) (a j : ℕ) (d : X) → Every P l → j < length l → having (a + j) (runs a l) ≡ f (a + j) (get_or l j d)
    run_at [] a j d h g = absurd (not-suc-le-zero g)
    run_at (x ∷ l) a zero d h g =
        let e : a + zero ≡ a = omega arith in
        ap (λ (q : ℕ). having q (f a x ++ runs (suc a) l)) e
        ∙ having-append a (f a x) (runs (suc a) l)
        ∙ ap (λ (q : List ℕ). q ++ having a (runs (suc a) l)) (having-own a (f a x) (own a x h.0))
        ∙ ap (λ (q : List ℕ). f a x ++ q) (runs_low a (suc a) l h.1 (omega arith))
        ∙ append-nil (f a x)
        ∙ ap (λ (q : ℕ). f q x) (sym e)
    run_at (x ∷ l) a (suc j) d h g =
        let e : a + suc j ≡ suc a + j = omega arith in
        ap (λ (q : ℕ). having q (f a x ++ runs (suc a) l)) e
        ∙ having-append (suc a + j) (f a x) (runs (suc a) l)
        ∙ ap (λ (q : List ℕ). q ++ having (suc a + j) (runs (suc a) l)) (having_other a (suc a + j) (f a x) (own a x h.0) (λ e. omega (arith, e)))
        ∙ run_at l (suc a) j d h.1 (omega (arith, g))
        ∙ ap (λ (q : ℕ). f q (get_or l j d)) (sym e)

    -- the entries with keys below j are the first j runs
    pub grouped_runs : (l : List X) (d : X) → Every P l → (j : ℕ) → j ≤ length l → grouped j (runs 0 l) ≡ runs 0 (take j l)
    grouped_runs l d h zero g = refl
    grouped_runs l d h (suc j) g =
        let z = zero-add j in
        let i : j < length l = omega (arith, g) in
        let t = length-take-le j l (omega (arith, g)) in
        ap (λ (q : List ℕ). q ++ having j (runs 0 l)) (grouped_runs l d h j (omega (arith, g)))
        ∙ ap (λ (q : ℕ). runs 0 (take j l) ++ having q (runs 0 l)) (sym z)
        ∙ ap (λ (q : List ℕ). runs 0 (take j l) ++ q) (run_at l 0 j d h i)
        ∙ ap (λ (q : ℕ). runs 0 (take j l) ++ f q (get_or l j d)) (ap (λ (q : ℕ). 0 + q) (sym t))
        ∙ ap (λ (q : List ℕ). runs 0 (take j l) ++ q) (sym (append-nil (f (0 + length (take j l)) (get_or l j d))))
        ∙ sym (runs_append 0 (take j l) (get_or l j d ∷ []))
        ∙ ap (runs 0) (sym (take-suc l j d i))

    pub grouped-all : (l : List X) (d : X) → Every P l → grouped (length l) (runs 0 l) ≡ runs 0 l
    grouped-all l d h = grouped_runs l d h (length l) (omega arith) ∙ ap (runs 0) (take-length l)
