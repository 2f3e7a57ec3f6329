-- The first token by what the code tests, and that it ends within the text. Assumes nothing.
use mathlib.Core.Path.{◌≡◌, refl, ap, sym, ◌∙◌, subst}
use mathlib.Core.Bool.{Bool, true, false, cond, ◌||◌}
use mathlib.Core.List.{List}
use Prim.Native.Nat.{ℕ, ◌+◌, ◌-◌, ◌≤◌, ◌<◌}
use native.Mathlib.Omega.{arith}
use lib.Dec.{eqb, ltb}
use lib.ListN.{length, take, drop, get_or, length-drop}
use borrow.Author.Tests.{lt-ltb, le-ltb, eq-eqb, ne_eqb, eqb-true}
use Rattle.laws.proofs.Lists.{to_the_end}
use Rattle.tokens.specs.declared.TokenKind.{TokenKind}
use Rattle.tokens.specs.declared.TokenKind.TheVariants as K
use Rattle.scanner.specs.Bytes.{between, is_digit, is_word_byte}
use Rattle.scanner.specs.Ends.{digits_end, exponent_end, point_end, string_stop}
use Rattle.scanner.proofs.Runs.{inside, run_fits, stop-fits}
use Rattle.scanner.proofs.Ends.{digits_within, exponent-within, point_within}
use Rattle.keywords.proofs.Range.{Plain}
use Rattle.first_token.specs.First.{first, first_of, number_at, return_at, string_at, word_at}
use Rattle.first_token.specs.Fitting.{Fitting}
use Rattle.first_token.specs.declared.Found.{Found}
use Rattle.first_token.specs.declared.Found.TheVariants as F

-- ---- by the byte that a test looked at

module _ (s : List ℕ) (b : ℕ) (at : b ≡ get_or s 1 0) where
  pub pair : b ≡ 10 → F.Token K.Newline 2 ≡ return_at s
  unfolding return_at
  pair h = simp (← at, eq-eqb b 10 h)

  pub single : (b ≡ 10 → ⊥) → F.Token K.Newline 1 ≡ return_at s
  unfolding return_at
  single h = simp (← at, ne_eqb b 10 h)

module _ (s : List ℕ) (i b p e : ℕ) (ei : i ≡ digits_end s 1) (at : b ≡ get_or s i 0) (ep : p ≡ point_end s i) (ee : e ≡ exponent_end s p) where
  pub float : b ≡ 46 → F.Token K.Float e ≡ number_at s
  unfolding number_at
  float h = simp (← ei, ← at, eq-eqb b 46 h, ← ep, ← ee)

  pub integer : (b ≡ 46 → ⊥) → F.Token K.Integer e ≡ number_at s
  unfolding number_at
  integer h = simp (← ei, ← at, ne_eqb b 46 h, ← ep, ← ee)

module _ (s : List ℕ) (e b : ℕ) (ee : e ≡ string_stop s 1) (at : b ≡ get_or s e 0) where
  pub closed : b ≡ 34 → F.Token (K.String true) (e + 1) ≡ string_at s
  unfolding string_at
  closed h = simp (← ee, ← at, eq-eqb b 34 h)

  module _ (n : b ≡ 34 → ⊥) where
    pub lone : e ≡ 1 → F.LoneQuote ≡ string_at s
    unfolding string_at
    lone h = simp (← ee, ← at, ne_eqb b 34 n, eq-eqb e 1 h)

    module _ (m : e ≡ 1 → ⊥) (d : ℕ) (last : d ≡ get_or s (e - 1) 0) where
      pub unclosed : d < 128 → F.Token (K.String false) e ≡ string_at s
      unfolding string_at
      unclosed h = simp (← ee, ← at, ne_eqb b 34 n, ne_eqb e 1 m, ← last, lt-ltb d 128 h)

      pub cut : 128 ≤ d → F.CutCharacter ≡ string_at s
      unfolding string_at
      cut h = simp (← ee, ← at, ne_eqb b 34 n, ne_eqb e 1 m, ← last, le-ltb d 128 h)

-- ---- by the first byte

-- both cases of a choice
pub either : (P : Found → Type 0) (t : Bool) (x y : Found) → (t ≡ true → P x) → (t ≡ false → P y) → P (cond t x y)
either P true x y f g = f refl
either P false x y f g = g refl

-- what holds of each answer holds of the first token
pub by_byte : (P : Found → Type 0) (s : List ℕ) (b : ℕ)
    → ((eqb b 32 || eqb b 9) ≡ true → P F.Blank)
    → ((k : TokenKind) → Plain k → P (F.Token k 1))
    → P (return_at s) → P (word_at s) → P (number_at s) → P (string_at s) → P (F.Token K.Unknown (length s))
    → P (first_of s b)
unfolding first_of
by_byte P s b blank one return word number string unknown =
    either P (eqb b 32 || eqb b 9) _ _ blank (λ e.
    either P (eqb b 44) _ _ (λ e. one K.Comma (omega arith, refl)) (λ e.
    either P (eqb b 123) _ _ (λ e. one K.OpenBrace (omega arith, refl)) (λ e.
    either P (eqb b 125) _ _ (λ e. one K.CloseBrace (omega arith, refl)) (λ e.
    either P (eqb b 58) _ _ (λ e. one K.Colon (omega arith, refl)) (λ e.
    either P (eqb b 10) _ _ (λ e. one K.Newline (omega arith, refl)) (λ e.
    either P (eqb b 13) _ _ (λ e. return) (λ e.
    either P (between 97 122 b || (between 65 90 b || (eqb b 95 || eqb b 36))) _ _ (λ e. word) (λ e.
    either P (is_digit b || eqb b 45) _ _ (λ e. number) (λ e.
    either P (eqb b 34) _ _ (λ e. string) (λ e. unknown))))))))))

-- ---- a token ends within the text

return_fits : (s : List ℕ) → 0 < length s → Fitting (length s) (return_at s)
unfolding return_at
return_fits s h = by (eqb (get_or s 1 0) 10) refl
  where
    by : (t : Bool) → eqb (get_or s 1 0) 10 ≡ t → Fitting (length s) (F.Token K.Newline (cond t 2 1))
    by true e = let g : 1 < length s = inside s 1 (omega (arith, eqb-true (get_or s 1 0) 10 e)) in (omega arith, omega arith)
    by false e = (omega arith, h)

number_fits : (s : List ℕ) → 0 < length s → Fitting (length s) (number_at s)
unfolding number_at
number_fits s h =
    let d = digits_within s 1 h in
    let p = point_within s (digits_end s 1) d.to in
    let e = exponent-within s (point_end s (digits_end s 1)) p.to in
    (omega (arith, p.from, e.from), e.to)

string-fits : (s : List ℕ) → 0 < length s → Fitting (length s) (string_at s)
unfolding string_at
string-fits s h =
    let e = string_stop s 1 in
    let w : e ≤ length s = stop-fits false s 1 h in
    either (Fitting (length s)) (eqb (get_or s e 0) 34) _ _
    (λ q. let g : e < length s = inside s e (omega (arith, eqb-true (get_or s e 0) 34 q)) in (omega arith, omega arith)) (λ q.
    either (Fitting (length s)) (eqb e 1) _ _ (λ q. tt) (λ q.
    either (Fitting (length s)) (ltb (get_or s (e - 1) 0) 128) _ _ (λ q. (omega arith, w)) (λ q. tt)))

word_fits : (s : List ℕ) → 0 < length s → Fitting (length s) (word_at s)
unfolding word_at
word_fits s h = (omega arith, run_fits is_word_byte s 1 h)

pub first_fits : (s : List ℕ) → 0 < length s → Fitting (length s) (first s)
first_fits s h =
    by_byte (Fitting (length s)) s (get_or s 0 0) (λ e. tt) (λ k p. (omega arith, h)) (return_fits s h) (word_fits s h) (number_fits s h) (string-fits s h)
    (h, omega arith)

-- the same at a byte of a text, for a part that was lent
module _ (s : List ℕ) (i : ℕ) (h : i < length s) (r : Found) (e : r ≡ first (take (length s - i) (drop i s))) where
  pub at_byte : r ≡ first (drop i s)
  at_byte = e ∙ ap first (to_the_end s i)

  pub at-byte-fits : Fitting (length s - i) r
  at-byte-fits =
      subst (λ (n : ℕ). Fitting n r) (length-drop i s)
      (subst (λ (q : Found). Fitting (length (drop i s)) q) (sym at_byte) (first_fits (drop i s) (omega (arith, length-drop i s))))
