-- Which numbers are those of a string without its closing quote. Assumes nothing.
use mathlib.Core.Path.{◌≡◌, refl, ap, sym, ◌∙◌}
use mathlib.Core.Bool.{Bool, true, false, not, ◌&&◌}
use Prim.Native.Nat.{ℕ, ◌/◌, ◌%◌}
use native.Mathlib.Omega.{arith}
use lib.Dec.{eqb}
use borrow.Author.Tests.{eqb-true, eqb-false, eq-eqb, ne_eqb}
use Rattle.tokens.specs.declared.TokenKind.TheVariants as K
use Rattle.tokens.specs.Kinds.{◌carrying◌, code_of, kind_in, kind_of, is_unclosed}
use Rattle.tokens.specs.Tokens.{token_of}
use Rattle.tokens.proofs.Words.{is-string}

-- 'true of exactly the strings that lack their quote'
pub of-string : (c : Bool) → is_unclosed (K.String c) ≡ not c
of-string true = refl
of-string false = refl

at_one : (n : ℕ) → n / 65536 ≡ 1 → kind_of n ≡ K.String (not (eqb (n % 65536) 1))
unfolding kind_of
at_one n h = ap (λ p. kind_in (p carrying n % 65536)) h

elsewhere : (n : ℕ) → ¬ (n / 65536 ≡ 1) → is_unclosed (kind_of n) ≡ false
elsewhere n h = ap (λ b. b && eqb (code_of (kind_of n)).carried 1) (is-string n ∙ ne_eqb (n / 65536) 1 h)

number-told : (n : ℕ) → eqb n 65537 ≡ is_unclosed (kind_of n)
number-told n = by (eqb (n / 65536) 1) refl
  where
    at : (b : Bool) → eqb (n % 65536) 1 ≡ b → n / 65536 ≡ 1 → eqb n 65537 ≡ is_unclosed (kind_of n)
    at true e h =
        let l = eqb-true (n % 65536) 1 e in
        eq-eqb n 65537 (omega arith) ∙ sym (ap is_unclosed (at_one n h ∙ ap (λ b. K.String (not b)) e))
    at false e h =
        ne_eqb n 65537 (λ q. eqb-false (n % 65536) 1 e (omega arith)) ∙ sym (ap is_unclosed (at_one n h ∙ ap (λ b. K.String (not b)) e))

    by : (b : Bool) → eqb (n / 65536) 1 ≡ b → eqb n 65537 ≡ is_unclosed (kind_of n)
    by true e = at (eqb (n % 65536) 1) refl (eqb-true (n / 65536) 1 e)
    by false e =
        let l = eqb-false (n / 65536) 1 e in
        ne_eqb n 65537 (λ q. l (omega arith)) ∙ sym (elsewhere n l)

pub word_told : (w : ℕ) → eqb (w / 1099511627776) 65537 ≡ is_unclosed (token_of w).kind
unfolding token_of
word_told w = number-told (w / 1099511627776)
