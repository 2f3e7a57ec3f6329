-- Only a space or a tab gives no token. Assumes nothing.
use mathlib.Core.Path.{◌≡◌, refl, sym, subst}
use mathlib.Core.Bool.{Bool, true, false, ◌||◌, false≢true}
use mathlib.Core.Logic.{◌⊎◌, inl, inr}
use mathlib.Core.List.{List}
use Prim.Native.Nat.{ℕ, ◌-◌}
use lib.Dec.{eqb, ltb}
use lib.ListN.{get_or}
use borrow.Author.Tests.{eqb-true}
use Rattle.scanner.specs.Ends.{string_stop}
use Rattle.first_token.specs.First.{first, number_at, return_at, string_at, word_at}
use Rattle.first_token.specs.declared.Found.{Found}
use Rattle.first_token.specs.declared.Found.TheVariants as F
use Rattle.first_token.proofs.Firsts.{by_byte, either}

one_of_two : (b x y : ℕ) → (eqb b x || eqb b y) ≡ true → (b ≡ x) ⊎ (b ≡ y)
one_of_two b x y e = by (eqb b x) (eqb b y) refl refl e
  where
    by : (t u : Bool) → eqb b x ≡ t → eqb b y ≡ u → (t || u) ≡ true → (b ≡ x) ⊎ (b ≡ y)
    by true u p q e = inl (eqb-true b x p)
    by false true p q e = inr (eqb-true b y q)
    by false false p q e = absurd (false≢true e)

-- a blank is there by its byte b
abbrev BlankBy : ℕ → Found → Type 0
BlankBy b F.Blank = (b ≡ 32) ⊎ (b ≡ 9)
BlankBy b (F.Token k n) = Unit {0}
BlankBy b F.LoneQuote = Unit {0}
BlankBy b F.CutCharacter = Unit {0}

string_solid : (b : ℕ) (s : List ℕ) → BlankBy b (string_at s)
unfolding string_at
string_solid b s =
    let e = string_stop s 1 in
    either (BlankBy b) (eqb (get_or s e 0) 34) _ _ (λ h. tt) (λ h.
    either (BlankBy b) (eqb e 1) _ _ (λ h. tt) (λ h.
    either (BlankBy b) (ltb (get_or s (e - 1) 0) 128) _ _ (λ h. tt) (λ h. tt)))

pub blank-byte : (s : List ℕ) → F.Blank ≡ first s → (get_or s 0 0 ≡ 32) ⊎ (get_or s 0 0 ≡ 9)
unfolding number_at return_at word_at
blank-byte s e =
    let b = get_or s 0 0 in
    subst (BlankBy b) (sym e) (by_byte (BlankBy b) s b (one_of_two b 32 9) (λ k h. tt) tt tt tt (string_solid b s) tt)
