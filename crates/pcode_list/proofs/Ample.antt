-- Tables with a place for each byte of a text, and one for the top level, are never too short for it. Assumes nothing.
use Rattle.std.specs.Prelude.{Ok, Err}
use mathlib.Core.Path.{◌≡◌, refl, sym, subst}
use mathlib.Core.Bool.{Bool, true, false, cond}
use mathlib.Core.List.{List, [], ◌∷◌}
use Prim.Native.Nat.{ℕ, zero, suc, ◌+◌, ◌-◌, ◌≤◌}
use native.Mathlib.Omega.{arith}
use lib.Dec.{ltb}
use lib.ListN.{length}
use borrow.Author.Tests.{le-ltb}
use Rattle.answers.specs.Answers.{Answer, accepted, refused, refusal}
use Rattle.tokens.specs.declared.Token.{Token}
use Rattle.utf8.specs.Utf8.{valid_up_to}
use Rattle.first_token.specs.First.{first}
use Rattle.first_token.specs.declared.Found.{Found}
use Rattle.first_token.specs.declared.Found.TheVariants as F
use Rattle.lexer.specs.Lexing.{before, then, lex_from, fitting, lex_text}
use Rattle.lexer.proofs.Theorems.{few}
use Rattle.lexemes.specs.Lexemes.{numbered}
use Rattle.grammar.specs.Reading as G
use Rattle.grammar.specs.Refusals.{Outcome, row₆, row₇, reads, Short, Answers, rows₁₋₅, rows₆₋₇, row₈}
use Rattle.grammar.proofs.Theorems.{ample}
use Rattle.entries.specs.Entries.{level_places}
use Rattle.handover.specs.Reading.{Reading, Tables, places, Reads, ReadsWords}
use Rattle.as2_pcode.proofs.Kept.{numbered-length}
use Rattle.pcode_list.specs.Listed.{NeverShort}

-- a number that says of no table that it is too short
abbrev Other : ℕ → Type 0
Other n = (¬ (n ≡ 5)) × (¬ (n ≡ 8))

-- ---- lexing

-- at most n tokens, or a refusal that is neither 5 nor 8
abbrev Few : ℕ → Answer (List Token) → Type 0
Few n (accepted l) = length l ≤ n
Few n (refused m p) = Other m

abbrev Lone : Answer (List Token) → Type 0
Lone (accepted l) = Unit {0}
Lone (refused m p) = Other m

before_lone : (t : Token) (q : Answer (List Token)) → Lone q → Lone (before t q)
before_lone t (accepted l) h = tt
before_lone t (refused m p) h = h

then_lone : (f : Found) (i : ℕ) (rest : ℕ → Answer (List Token)) → ((k : ℕ) → Lone (rest k)) → Lone (then f i rest)
then_lone F.Blank i rest h = h 0
then_lone (F.Token k n) i rest h = before_lone _ (rest (n - 1)) (h (n - 1))
then_lone F.LoneQuote i rest h = (λ e. omega (arith, e), λ e. omega (arith, e))
then_lone F.CutCharacter i rest h = (λ e. omega (arith, e), λ e. omega (arith, e))

from_lone : (s : List ℕ) (k i : ℕ) → Lone (lex_from s k i)
unfolding lex_from
from_lone [] k i = tt
from_lone (b ∷ s) zero i = then_lone (first (b ∷ s)) i (λ n. lex_from s n (suc i)) (λ n. from_lone s n (suc i))
from_lone (b ∷ s) (suc k) i = from_lone s k (suc i)

either : {A : Type 0} (P : A → Type 0) (t : Bool) (x y : A) → P x → P y → P (cond t x y)
either P true x y h g = h
either P false x y h g = g

module _ (text : List ℕ) (room : ℕ) (h : length text ≤ room) where
  lexed : (q : Answer (List Token)) → lex_from text 0 0 ≡ q → Lone q → Few (length text) (fitting room q)
  lexed (accepted l) e g =
      let f = few text l e in
      subst (λ (t : Bool). Few (length text) (cond t (refused 5 (length l)) (accepted l)))
      (sym (le-ltb room (length l) (omega (arith, f, h)))) f
  lexed (refused m p) e g = g

  lex_few : Few (length text) (lex_text text room)
  unfolding lex_text
  lex_few =
      either (Few (length text)) (ltb 65536 (length text)) _ _ (λ e. omega (arith, e), λ e. omega (arith, e))
      (either (Few (length text)) (ltb (valid_up_to text) (length text)) _ _ (λ e. omega (arith, e), λ e. omega (arith, e))
      (lexed (lex_from text 0 0) refl (from_lone text 0 0)))

-- ---- reading

module _ (text : List ℕ) (room n : ℕ) (h : length text ≤ room) (g : length text + 1 ≤ n) where
  roomy : {R : G.Reading} (ts : List Token) → lex_text text room ≡ accepted ts → Outcome (numbered 0 text ts) (accepted R)
      → (k : ℕ) → ¬ Short (n ∷ n ∷ n ∷ n ∷ []) R k
  roomy ts e (reads r d) k =
      let f : length ts ≤ length text = subst (Few (length text)) e (lex_few text room h) in
      ample n r (omega (arith, f, g, numbered-length text ts 0)) k

  other : {m p : ℕ} → Answers room (n ∷ n ∷ n ∷ n ∷ []) text (refused m p) → Other m
  other (rows₁₋₅ e) = subst (Few (length text)) e (lex_few text room h)
  other (rows₆₋₇ e (row₆ r)) = (λ e. omega (arith, e), λ e. omega (arith, e))
  other (rows₆₋₇ e (row₇ r)) = (λ e. omega (arith, e), λ e. omega (arith, e))
  other (row₈ {ts = ts} {k = k} e r) = absurd (roomy ts e r.outcome k r.short)

-- so reading never says that a table is too short
pub never_short : (text : List ℕ) (x y : Tables ℕ) (r : Reading) (n : ℕ) → length text ≤ length x.tokens → length text + 1 ≤ n
    → length x.actions ≡ n → length x.operands ≡ n → level_places x.levels ≡ n → length x.labels ≡ n → ReadsWords text x y r → NeverShort r
unfolding Reads
never_short text x y (Ok c) n h g e₀ e₁ e₂ e₃ a = tt
never_short text x y (Err r) n h g e₀ e₁ e₂ e₃ a =
    let all : places x ≡ n ∷ n ∷ n ∷ n ∷ [] = λ i. e₀ i ∷ e₁ i ∷ e₂ i ∷ e₃ i ∷ [] in
    other text (length x.tokens) n h g (subst (λ (ps : List ℕ). Answers (length x.tokens) ps text (refusal r)) all a.0)
