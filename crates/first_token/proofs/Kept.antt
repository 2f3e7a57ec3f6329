-- What the first token carries, and how long a string is. Assumes nothing.
use mathlib.Core.Path.{◌≡◌, refl, sym, ◌∙◌}
use mathlib.Core.Bool.{Bool, true, false, cond, false≢true}
use mathlib.Core.List.{List}
use Prim.Native.Nat.{ℕ, ◌-◌, ◌≤◌}
use native.Mathlib.Omega.{arith}
use lib.Dec.{eqb, ltb}
use lib.ListN.{length, take, get_or}
use borrow.Author.Tests.{eqb-false}
use Rattle.tokens.specs.Kinds.{is_kind}
use Rattle.tokens.specs.declared.TokenKind.{TokenKind}
use Rattle.tokens.specs.declared.TokenKind.TheVariants as K
use Rattle.tokens.proofs.Words.{InRange}
use Rattle.scanner.specs.Ends.{digits_end, string_stop, word_end}
use Rattle.keywords.specs.Keywords.{word_kind}
use Rattle.keywords.proofs.Range.{Plain, word_plain}
use Rattle.first_token.specs.First.{first, number_at, return_at, string_at, word_at}
use Rattle.first_token.specs.declared.Found.{Found}
use Rattle.first_token.specs.declared.Found.TheVariants as F
use Rattle.first_token.proofs.Firsts.{by_byte, either}

-- a kind whose number fits its type; a string's span has room for both its bounds
abbrev pub Kept : TokenKind → ℕ → Type 0
Kept k m = InRange k × (is_kind k (K.String true) ≡ true → 2 ≤ m)

abbrev pub KeptFound : Found → Type 0
KeptFound F.Blank = Unit {0}
KeptFound (F.Token k m) = Kept k m
KeptFound F.LoneQuote = Unit {0}
KeptFound F.CutCharacter = Unit {0}

no_string : (k : TokenKind) (m : ℕ) → Plain k → Kept k m
no_string k m h = (h.0, λ e. absurd (false≢true (sym h.1 ∙ e)))

plain-number : (t : Bool) → Plain (cond t K.Float K.Integer)
plain-number true = (omega arith, refl)
plain-number false = (omega arith, refl)

number_kept : (s : List ℕ) → KeptFound (number_at s)
unfolding number_at
number_kept s = let t = eqb (get_or s (digits_end s 1) 0) 46 in no_string (cond t K.Float K.Integer) _ (plain-number t)

string_kept : (s : List ℕ) → KeptFound (string_at s)
unfolding string_at
string_kept s =
    let e = string_stop s 1 in
    either KeptFound (eqb (get_or s e 0) 34) _ _ (λ q. (omega arith, λ p. omega arith)) (λ q.
    either KeptFound (eqb e 1) _ _ (λ p. tt) (λ p.
    let n = eqb-false e 1 p in
    either KeptFound (ltb (get_or s (e - 1) 0) 128) _ _ (λ q. (omega arith, λ p. omega (arith, n))) (λ q. tt)))

pub first_kept : (s : List ℕ) → KeptFound (first s)
unfolding return_at word_at
first_kept s =
    let w = take (word_end s 1) s in
    by_byte KeptFound s (get_or s 0 0) (λ e. tt) (λ k h. no_string k 1 h) (no_string K.Newline _ (omega arith, refl))
    (no_string (word_kind w) (word_end s 1) (word_plain w))
    (number_kept s)
    (string_kept s)
    (no_string K.Unknown (length s) (omega arith, refl))
