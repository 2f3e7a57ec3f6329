-- THE THEOREMS on strings that say whether they were closed, each with the file that proves it. What they speak of is defined in
-- specs/: `Alike` and what is built of it in Alike, `flagged` in Counts. They assume nothing.
use mathlib.Core.Path.{◌≡◌}
use mathlib.Core.List.{List, map}
use mathlib.Core.Logic.{◌↔◌}
use Prim.Native.Nat.{ℕ}
use lib.ListN.{get_or}
use Rattle.answers.specs.Answers.{Answer, accepted, refused}
use Rattle.lexemes.specs.Lexemes.{Lexeme}
use Rattle.grammar.specs.Reading.{Reading, Level, Reads, Grammatical}
use Rattle.grammar.specs.Nets.{Net, Nets}
use Rattle.grammar.specs.Refusals.{Outcome, entries, Refusal₈}
use Rattle.unclosed.specs.Alike.{Each, Alike, ReadingAlike, AnswerAlike}
use Rattle.unclosed.specs.Counts.{flagged}
use Rattle.unclosed.proofs.Answers as Answers
use Rattle.unclosed.proofs.Counted as Counted

-- 'What is accepted is unchanged': let two lists of tokens differ only in which strings are closed, and in places as `At` says (`InPlace`,
-- `Anywhere` or another way)
module _ {At : ℕ → ℕ → Type 0} {ts us : List Lexeme} (e : Each (Alike At) ts us) where
  -- they have the same answer: the same refusal, 6 or 7, at the same place, or readings that differ only so
  pub answer_alike : {y z : Answer Reading} → Outcome ts y → Outcome us z → AnswerAlike At y z
  answer_alike o p = Answers.answer_alike e o p

  pub refused_alike : {n k : ℕ} → Outcome ts (refused n k) → Outcome us (refused n k)
  refused_alike o = Answers.refused_alike e o

  -- both are accepted or none is
  pub accepted_both : ((R : Reading) × Outcome ts (accepted R)) ↔ ((R : Reading) × Outcome us (accepted R))
  accepted_both = Answers.accepted_both e

  -- limits aside: if one has a reading, so has the other, and it differs only so
  pub grammatical_alike : Grammatical ts → Grammatical us
  grammatical_alike g = Answers.grammatical_alike e g

  pub read_alike : {R : Reading} → Reads ts R → (Q : Reading) × Reads us Q × ReadingAlike At R Q
  read_alike r = Answers.read_alike e r

  -- 8: the same table is too short
  pub short_alike : {places : List ℕ} {k : ℕ} → Refusal₈ places ts k → Refusal₈ places us k
  short_alike r = Answers.short_alike e r

  -- and they have the same nets
  pub nets_alike : {l : List Net} → Nets ts l → Nets us l
  nets_alike n = Answers.nets_alike e n

-- readings that differ only so have as many entries in each table
pub entries_alike : {At : ℕ → ℕ → Type 0} {R Q : Reading} → ReadingAlike At R Q → entries R ≡ entries Q
entries_alike a = Answers.entries_alike a

-- a level's count is the number of its operand entries with the flag; past the last level both are 0
pub counted : {ts : List Lexeme} {R : Reading} → Reads ts R → (k : ℕ) → get_or (map (λ (v : Level). v.unclosed) R.levels) k 0 ≡ flagged R k
counted r k = Counted.counted r k
