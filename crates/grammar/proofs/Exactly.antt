-- Reading accepts, and answers 6, exactly when demand 3 says so. Assumes nothing.
use mathlib.Core.Path.{◌≡◌, subst}
use mathlib.Core.List.{List, [], ◌∷◌}
use mathlib.Core.Logic.{⊎_elim, ◌↔◌}
use Prim.Native.Nat.{ℕ, zero, suc, ◌-◌, ◌≤◌}
use native.Mathlib.Omega.{arith}
use lib.Dec.{ltb}
use lib.ListN.{length}
use Rattle.answers.specs.Answers.{Answer, accepted, refused}
use Rattle.tokens.specs.declared.Token.{Token}
use Rattle.utf8.specs.Utf8.{valid_up_to}
use Rattle.first_token.specs.First.{first}
use Rattle.first_token.specs.declared.Found.{Found}
use Rattle.first_token.specs.declared.Found.TheVariants as F
use Rattle.lexer.specs.Lexing.{before, then, lex_from, fitting, lex_text}
use Rattle.lexemes.specs.Lexemes.{numbered}
use Rattle.lexemes.proofs.Tests.{either}
use Rattle.grammar.specs.Reading.{Reading}
use Rattle.grammar.specs.Refusals.{NotGrammatical, Refusal₆, row₆, reads, Answers, rows₁₋₅, rows₆₋₇, fits}
use Rattle.grammar.specs.Demand3.{Acceptable, Unreadable}
use Rattle.grammar.proofs.Unique.{one_told}
use Rattle.grammar.proofs.Place.{placed, one_place, unread}
use Rattle.grammar.proofs.Texts.{same-accepted}

-- ---- lexing refuses with 1 to 5 alone

abbrev Low : Answer (List Token) → Type 0
Low (accepted l) = Unit {0}
Low (refused n p) = (1 ≤ n) × (n ≤ 5)

before-low : (t : Token) (q : Answer (List Token)) → Low q → Low (before t q)
before-low t (accepted l) h = tt
before-low t (refused n p) h = h

then-low : (f : Found) (i : ℕ) (rest : ℕ → Answer (List Token)) → ((k : ℕ) → Low (rest k)) → Low (then f i rest)
then-low F.Blank i rest h = h 0
then-low (F.Token k n) i rest h = before-low _ (rest (n - 1)) (h (n - 1))
then-low F.LoneQuote i rest h = (omega arith, omega arith)
then-low F.CutCharacter i rest h = (omega arith, omega arith)

from_low : (s : List ℕ) (k i : ℕ) → Low (lex_from s k i)
unfolding lex_from
from_low [] k i = tt
from_low (b ∷ s) zero i = then-low (first (b ∷ s)) i (λ n. lex_from s n (suc i)) (λ n. from_low s n (suc i))
from_low (b ∷ s) (suc k) i = from_low s k (suc i)

fitting-low : (room : ℕ) (q : Answer (List Token)) → Low q → Low (fitting room q)
fitting-low room (accepted l) h = either Low (ltb room (length l)) _ _ (omega arith, omega arith) tt
fitting-low room (refused n p) h = h

module _ (room : ℕ) (text : List ℕ) where
  lex_low : Low (lex_text text room)
  unfolding lex_text
  lex_low =
      either Low (ltb 65536 (length text)) _ _ (omega arith, omega arith)
      (either Low (ltb (valid_up_to text) (length text)) _ _ (omega arith, omega arith) (fitting-low room (lex_from text 0 0) (from_low text 0 0)))

  pub one-to_five : {n p : ℕ} → lex_text text room ≡ refused n p → (1 ≤ n) × (n ≤ 5)
  one-to_five e = subst Low e lex_low

module _ (room : ℕ) (places text : List ℕ) where
  -- ---- acceptance

  to_acceptable : {R : Reading} → Answers room places text (accepted R) → Acceptable room places text R
  to_acceptable (fits {ts = ts} e (reads r f) g) =
      record { tokens = ts; none-of_1_to_5 = e; no_7 = f; no_8 = g; one-reading = record { reads = r; only = λ q. one_told q r } }

  from_acceptable : {R : Reading} → Acceptable room places text R → Answers room places text (accepted R)
  from_acceptable a = fits a.none-of_1_to_5 (reads a.one-reading.reads a.no_7) a.no_8

  pub accepts_exactly_when : (R : Reading) → Answers room places text (accepted R) ↔ Acceptable room places text R
  accepts_exactly_when R = (to_acceptable, from_acceptable)

  -- ---- refusal 6

  refusal-of : {k : ℕ} → Answers room places text (refused 6 k) → (ts : List Token) × (lex_text text room ≡ accepted ts) × Refusal₆ (numbered 0 text ts) k
  refusal-of (rows₁₋₅ e) = absurd (omega (arith, one-to_five room text e))
  refusal-of (rows₆₋₇ {ts = ts} e (row₆ r)) = (ts, e, r)

  to_unreadable : (k : ℕ) × Answers room places text (refused 6 k) → Unreadable room text
  to_unreadable a =
      let r = refusal-of a.1 in
      record {
        tokens = r.0;
        none-of_1_to_5 = r.1;
        no_reading = unread r.2.ungrammatical;
        no_7_earlier = λ k j n h. r.2.earlier j (omega (arith, h, one_place n r.2.ungrammatical));
      }

  from_unreadable : Unreadable room text → (k : ℕ) × Answers room places text (refused 6 k)
  from_unreadable u =
      ⊎_elim (λ g. absurd (u.no_reading g))
      (λ n. (n.0, rows₆₋₇ u.none-of_1_to_5 (row₆ (record { ungrammatical = n.1; earlier = λ j. u.no_7_earlier n.0 j n.1 }))))
      (placed (numbered 0 text u.tokens))

  pub six_exactly_when : ((k : ℕ) × Answers room places text (refused 6 k)) ↔ Unreadable room text
  six_exactly_when = (to_unreadable, from_unreadable)

  pub six_at : {ts : List Token} {k : ℕ} → Answers room places text (refused 6 k) → lex_text text room ≡ accepted ts → NotGrammatical (numbered 0 text ts) k
  six_at {k = k} a e =
      let r = refusal-of a in
      subst (λ (l : List Token). NotGrammatical (numbered 0 text l) k) (same-accepted r.1 e) r.2.ungrammatical
