-- From a run of the limited machine on a text's tokens, by computation, to the text's answer: for claims on closed texts.
-- Assumes nothing.
use mathlib.Core.Path.{◌≡◌, sym, ap, ◌∙◌, subst}
use mathlib.Core.Bool.{Bool, true, false, ◌&&◌, false≢true}
use mathlib.Core.List.{List, [], ◌∷◌}
use Prim.Native.Nat.{ℕ, zero, suc, ◌+◌, ◌<◌}
use native.Mathlib.Omega.{arith}
use lib.Dec.{leb}
use lib.ListN.{length, get_or}
use borrow.Author.Tests.{leb-true}
use Rattle.answers.specs.Answers.{Answer, accepted, refused}
use Rattle.tokens.specs.declared.Token.{Token}
use Rattle.lexer.specs.Lexing.{lex_text}
use Rattle.lexemes.specs.Lexemes.{Lexeme, numbered}
use Rattle.lexemes.specs.Events.{Event}
use Rattle.lexemes.proofs.Tests.{both}
use Rattle.machine.specs.Machine.{text}
use Rattle.machine.specs.Depth.{Verdict, read, fault, too_deep, limited}
use Rattle.grammar.specs.Grammar.{Items, Text}
use Rattle.grammar.specs.Reading.{reading_of}
use Rattle.grammar.specs.Refusals.{limit, Outcome, entries, Answers, rows₁₋₅, rows₆₋₇, fits}
use Rattle.grammar.specs.Trees.{events}
use Rattle.grammar.proofs.Unique.{Open, add, emits_lists, tree-told}
use Rattle.grammar.proofs.Outcomes.{Means, is_read, not_grammatical, opens_too_deep, meaning}

-- what a run tells: the events, or the tokens left at a refusal
pub data Summary : Type 0 where
  emitted : List Event → Summary
  fault-at deep-at : ℕ → Summary

abbrev pub summary : Verdict Open → Summary
summary (read s) = emitted (s [])
summary (fault n) = fault-at n
summary (too_deep n) = deep-at n

abbrev pub run-of : List Lexeme → Summary
run-of ts = summary (limited add text limit (λ k. k) ts)

abbrev sort : Summary → ℕ
sort (emitted k) = 0
sort (fault-at n) = 1
sort (deep-at n) = 2

-- ---- of a list of tokens

same_emitted : {a b : List Event} → emitted a ≡ emitted b → a ≡ b
same_emitted h = cc

same-fault : {m n : ℕ} → fault-at m ≡ fault-at n → m ≡ n
same-fault h = cc

same-deep : {m n : ℕ} → deep-at m ≡ deep-at n → m ≡ n
same-deep h = cc

module _ (ts : List Lexeme) where
  abbrev Meant : Verdict Open → Type 0
  Meant v = Means add ts (λ k. k) v

  is-read_as : {v : Verdict Open} (x : Items) → Meant v → summary v ≡ emitted (events x []) → Text ts x × Outcome ts (accepted (reading_of x))
  is-read_as x (is_read {x = y} d o) e =
      let q : y ≡ x = tree-told y x (sym (emits_lists y (λ k. k) []) ∙ same_emitted e) in
      (subst (λ (z : Items). Text ts z) q d, subst (λ (z : Items). Outcome ts (accepted (reading_of z))) q o)
  is-read_as x (not_grammatical k p o) e = absurd (omega (arith, ap sort e))
  is-read_as x (opens_too_deep k p o) e = absurd (omega (arith, ap sort e))

  is-fault-at : {v : Verdict Open} (k n : ℕ) → k + n ≡ length ts → Meant v → summary v ≡ fault-at n → Outcome ts (refused 6 k)
  is-fault-at k n g (is_read d o) e = absurd (omega (arith, ap sort e))
  is-fault-at k n g (not_grammatical j p o) e = let q : j ≡ k = omega (arith, same-fault e) in subst (λ (i : ℕ). Outcome ts (refused 6 i)) q o
  is-fault-at k n g (opens_too_deep j p o) e = absurd (omega (arith, ap sort e))

  is-deep-at : {v : Verdict Open} (k n : ℕ) → k + n ≡ length ts → Meant v → summary v ≡ deep-at n → Outcome ts (refused 7 k)
  is-deep-at k n g (is_read d o) e = absurd (omega (arith, ap sort e))
  is-deep-at k n g (not_grammatical j p o) e = absurd (omega (arith, ap sort e))
  is-deep-at k n g (opens_too_deep j p o) e = let q : j ≡ k = omega (arith, same-deep e) in subst (λ (i : ℕ). Outcome ts (refused 7 i)) q o

  run_means : Meant (limited add text limit (λ k. k) ts)
  run_means = meaning add ts (λ k. k)

  -- the tokens are a text of the tree
  pub text_of : (x : Items) → run-of ts ≡ emitted (events x []) → Text ts x
  text_of x h = (is-read_as x run_means h).0

-- ---- of a text, with a place for each byte and one more in every table

abbrev pub room : ℕ
room = 65536

abbrev pub places : List ℕ
places = 65537 ∷ 65537 ∷ 65537 ∷ 65537 ∷ []

abbrev pub tokens-of : Answer (List Token) → List Token
tokens-of (accepted ts) = ts
tokens-of (refused n p) = []

-- the tokens of the text, by the token rules
abbrev pub lexed : List ℕ → List Lexeme
lexed s = numbered 0 s (tokens-of (lex_text s room))

abbrev pub Lexed : List ℕ → Type 0
Lexed s = lex_text s room ≡ accepted (tokens-of (lex_text s room))

-- no table needs more places than it has
abbrev pub all_fit : List ℕ → List ℕ → Bool
all_fit ps [] = true
all_fit [] (n ∷ ns) = false
all_fit (p ∷ ps) (n ∷ ns) = leb n p && all_fit ps ns

none-short : (ps ns : List ℕ) → all_fit ps ns ≡ true → (k : ℕ) → ¬ (get_or ps k 0 < get_or ns k 0)
none-short ps [] h zero o = omega arith
none-short ps [] h (suc k) o = omega arith
none-short [] (n ∷ ns) h k o = absurd (false≢true h)
none-short (p ∷ ps) (n ∷ ns) h zero o = omega (arith, leb-true n p (both (leb n p) (all_fit ps ns) h).0)
none-short (p ∷ ps) (n ∷ ns) h (suc k) o = none-short ps ns (both (leb n p) (all_fit ps ns) h).1 k o

module _ (s : List ℕ) where
  pub read_as : (x : Items) → Lexed s → all_fit places (entries (reading_of x)) ≡ true → run-of (lexed s) ≡ emitted (events x []) → Answers room places s (accepted (reading_of x))
  read_as x e h g = fits e (is-read_as (lexed s) x (run_means (lexed s)) g).1 (none-short places (entries (reading_of x)) h)

  pub six_at : (k n : ℕ) → Lexed s → k + n ≡ length (lexed s) → run-of (lexed s) ≡ fault-at n → Answers room places s (refused 6 k)
  six_at k n e h g = rows₆₋₇ e (is-fault-at (lexed s) k n h (run_means (lexed s)) g)

  pub seven_at : (k n : ℕ) → Lexed s → k + n ≡ length (lexed s) → run-of (lexed s) ≡ deep-at n → Answers room places s (refused 7 k)
  seven_at k n e h g = rows₆₋₇ e (is-deep-at (lexed s) k n h (run_means (lexed s)) g)

  pub unlexed_at : (n p : ℕ) → lex_text s room ≡ refused n p → Answers room places s (refused n p)
  unlexed_at n p e = rows₁₋₅ e
