-- Operand after operand: what is put of the rest completes the whole. Assumes nothing.
use mathlib.Core.Path.{◌≡◌, refl, sym, ap, subst, ◌∙◌}
use mathlib.Core.List.{List, [], ◌∷◌, ◌++◌, map}
use Prim.Native.Nat.{ℕ, ◌+◌, ◌*◌, ◌≤◌, ◌<◌}
use native.Mathlib.Numerals.{add-one}
use native.Mathlib.Omega.{arith}
use lib.ListN.{length, drop, drop_of_length-le, length-drop}
use lib.Seq.{drop-cons}
use Rattle.movies.specs.Movie.{Value, null, ◌!◌, number_in}
use Rattle.action_records.specs.Fields.{Field, UI8}
use Rattle.action_records.specs.Operands.{pushed_as, pushed, text, parameters}
use Rattle.field_coding.specs.declared.Coder.{Coder}
use Rattle.field_coding.specs.Coding.{Codes, Adds}
use Rattle.field_coding.proofs.Putting.{also, none, coded}

-- the operands of vs from `from` to k are put, g being the fields of a rest of them
pub record Taken (g : List Value → List Field) (vs : List Value) (from : ℕ) (c d : Coder) (k : ℕ) : Type 0 where
  pub inside : k ≤ from + length vs
  pub near : d.end + 131075 * from ≤ c.end + 131075 * k
  pub finish : (r : Coder) → Codes (g (drop k vs)) d r → Codes (g (drop from vs)) c r

pub begin : {g : List Value → List Field} {vs : List Value} {from : ℕ} {c : Coder} → Taken g vs from c c from
begin = record { inside = omega arith; near = omega arith; finish = λ r s. s }

module _ {g : List Value → List Field} {vs : List Value} {from : ℕ} {c d : Coder} {k : ℕ} (t : Taken g vs from c d k) where
  -- n operands more, whose fields are fs
  pub step : (n : ℕ) {fs : List Field} {e : Coder} → fs ++ g (drop (k + n) vs) ≡ g (drop k vs) → (1 ≤ n) × (k + n ≤ length vs)
      → Codes fs d e → Adds 131075 d e → Taken g vs from c e (k + n)
  step n {fs} {e} q h s a =
      record {
        inside = omega (arith, h.1);
        near = omega (arith, t.near, a, h.0);
        finish = λ r u. t.finish r (coded q (also s u));
      }

  pub ended : [] ≡ g (drop k vs) → Codes (g (drop from vs)) c d
  ended e = t.finish d (coded e none)

-- ---- one by one

rest_from : (vs : List Value) (k : ℕ) → k < length vs → drop k vs ≡ (vs ! k) ∷ drop (k + 1) vs
rest_from vs k h = drop-cons vs k null h ∙ ap (λ j. (vs ! k) ∷ drop j vs) (sym (add-one k))

module _ (f : Value → List Field) where
  abbrev pub each : List Value → List Field
  each [] = []
  each (v ∷ vs) = f v ++ each vs

  pub one_more : (vs : List Value) (k : ℕ) → k < length vs → {v : Value} → v ≡ vs ! k → f v ++ each (drop (k + 1) vs) ≡ each (drop k vs)
  one_more vs k h e = ap (λ (w : Value). f w ++ each (drop (k + 1) vs)) e ∙ ap each (sym (rest_from vs k h))

  pub none_left : (vs : List Value) (k : ℕ) → length vs ≤ k → [] ≡ each (drop k vs)
  none_left vs k h = ap each (sym (drop_of_length-le vs h))

  pub one_by_one : {vs : List Value} {from : ℕ} {c d e : Coder} {k n : ℕ} → Taken each vs from c d k → length vs ≡ n → k < n → Codes (f (vs ! k)) d e → Adds 131075 d e
      → Taken each vs from c e (k + 1)
  one_by_one {vs} {k = k} t l h s a =
      let g : k < length vs = omega (arith, l, h) in
      step t 1 (one_more vs k g refl) (omega arith, omega (arith, g)) s a

  pub all_taken : {vs : List Value} {from : ℕ} {c d : Coder} {k n : ℕ} → Taken each vs from c d k → length vs ≡ n → n ≤ k → Codes (each (drop from vs)) c d
  all_taken {vs} {k = k} t l h = ended t (none_left vs k (omega (arith, l, h)))

pub pushed_each : (vs : List Value) → each pushed_as vs ≡ pushed vs
pushed_each [] = refl
pushed_each (v ∷ vs) = ap (λ (l : List Field). pushed_as v ++ l) (pushed_each vs)

pub text_each : (vs : List Value) → each (λ (v : Value). text v ∷ []) vs ≡ map text vs
text_each [] = refl
text_each (v ∷ vs) = ap (λ (l : List Field). text v ∷ l) (text_each vs)

-- ---- two by two

pub two_more : (vs : List Value) (k : ℕ) → k + 1 < length vs → {n : ℕ} → n ≡ number_in (vs ! k)
    → UI8 n ∷ text (vs ! (k + 1)) ∷ parameters (drop (k + 2) vs) ≡ parameters (drop k vs)
two_more vs k h {n} e =
    ap (λ (m : ℕ). UI8 m ∷ text (vs ! (k + 1)) ∷ parameters (drop (k + 2) vs)) e
    ∙ ap parameters (sym (rest_from vs k (omega arith) ∙ ap (λ (l : List Value). (vs ! k) ∷ l) (rest_from vs (k + 1) h ∙ ap (λ j. (vs ! (k + 1)) ∷ drop j vs) two)))
  where
    two : k + 1 + 1 ≡ k + 2
    two = omega arith

pub two_by_two : {vs : List Value} {c d g e : Coder} {k j n m : ℕ} → Taken parameters vs 12 c d k → length vs ≡ n → k + 1 < n → m ≡ number_in (vs ! k)
    → Codes (UI8 m ∷ []) d g → Codes (text (vs ! (k + 1)) ∷ []) g e → Adds 131075 d e → j ≡ k + 2 → Taken parameters vs 12 c e j
two_by_two {vs} {c} {e = e} {k = k} t l h f s u a w =
    let b : k + 1 < length vs = omega (arith, l, h) in
    subst (λ (i : ℕ). Taken parameters vs 12 c e i) (sym w) (step t 2 (two_more vs k b f) (omega arith, omega (arith, b)) (also s u) a)

pub no_two_left : (vs : List Value) (k : ℕ) → length vs ≤ k + 1 → [] ≡ parameters (drop k vs)
no_two_left vs k h = by (drop k vs) (omega (arith, length-drop k vs))
  where
    by : (l : List Value) → length l ≤ 1 → [] ≡ parameters l
    by [] g = refl
    by (v ∷ []) g = refl
    by (v ∷ w ∷ l) g = absurd (omega arith)
