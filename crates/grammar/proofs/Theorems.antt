-- THE THEOREMS about the written grammar, each with the file that proves it. What they speak of is defined in specs/: `Reads`
-- in Reading, `Nets` in Nets, `Outcome` and `Answers` in Refusals, `Acceptable` and `Unreadable` in Demand3. They assume nothing.
use mathlib.Core.Path.{◌≡◌}
use mathlib.Core.List.{List, [], ◌∷◌, map, Memᴰ}
use mathlib.Core.Logic.{◌⊎◌, ◌↔◌}
use Prim.Native.Nat.{ℕ, ◌+◌, ◌*◌, ◌≤◌, ◌<◌}
use native.Mathlib.Omega.{arith}
use lib.IntN.{ℤ, pos, neg_ℤ}
use lib.ListN.{length, get_or}
use lib.Signed.{◌≤ℤ◌}
use Rattle.answers.specs.Answers.{Answer, accepted, refused}
use Rattle.lexer.specs.Lexing.{lex_text}
use Rattle.tokens.specs.declared.Token.{Token}
use Rattle.lexemes.specs.Lexemes.{Lexeme, numbered}
use Rattle.grammar.specs.Reading.{Reading, Level, Label, Reads, Grammatical}
use Rattle.grammar.specs.Nets.{Net, height, Nets}
use Rattle.grammar.specs.Refusals.{NotGrammatical, Outcome, Short, Answers}
use Rattle.grammar.specs.Demand3.{Acceptable, Unreadable}
use Rattle.grammar.proofs.Unique as Unique
use Rattle.grammar.proofs.Place as Place
use Rattle.grammar.proofs.Outcomes as Outcomes
use Rattle.grammar.proofs.Texts as Texts
use Rattle.grammar.proofs.Exactly as Exactly
use Rattle.grammar.proofs.Sizes as Sizes
use Rattle.grammar.proofs.LabelRange as LabelRange
use Rattle.grammar.proofs.NetBounds as NetBounds
use Rattle.grammar.proofs.Cases.{AllTold}
use Rattle.grammar.proofs.Starred as Starred
use Rattle.grammar.proofs.Bullets as Bullets

-- one text means one movie: a list of tokens has at most one reading, and one list of nets
pub one-reading : {ts : List Lexeme} {R Q : Reading} → Reads ts R → Reads ts Q → R ≡ Q
one-reading a b = Unique.one_told a b

pub one-nets : {ts : List Lexeme} {l k : List Net} → Nets ts l → Nets ts k → l ≡ k
one-nets a b = Unique.one_told a b

-- limits aside: a list has a reading, or one place where it goes wrong, and never both
pub reading_or_place : (ts : List Lexeme) → Grammatical ts ⊎ ((k : ℕ) × NotGrammatical ts k)
reading_or_place ts = Place.placed ts

pub one_place : {ts : List Lexeme} {j k : ℕ} → NotGrammatical ts j → NotGrammatical ts k → j ≡ k
one_place a b = Place.one_place a b

pub not_both : {ts : List Lexeme} {k : ℕ} → NotGrammatical ts k → ¬ Grammatical ts
not_both a = Place.unread a

-- every list of tokens has exactly one of: a reading and no block too deep, a refusal 6 with one place, a refusal 7 with one
-- place
pub outcome : (ts : List Lexeme) → (z : Answer Reading) × Outcome ts z
outcome ts = Outcomes.outcome ts

pub one-outcome : {ts : List Lexeme} {y z : Answer Reading} → Outcome ts y → Outcome ts z → y ≡ z
one-outcome a b = Outcomes.one-outcome a b

-- and every text exactly one answer, whatever tables are lent
pub answer : (room : ℕ) (places text : List ℕ) → (z : Answer Reading) × Answers room places text z
answer room places text = Texts.answer room places text

pub one_answer : (room : ℕ) (places text : List ℕ) {y z : Answer Reading} → Answers room places text y → Answers room places text z → y ≡ z
one_answer room places text a b = Texts.one_answer room places text a b

-- demand 3's first sentence: a text is accepted exactly when none of 1 to 5, 7, 8 applies and its tokens have exactly one
-- reading, and with that
pub accepts_exactly_when : (room : ℕ) (places text : List ℕ) (R : Reading) → Answers room places text (accepted R) ↔ Acceptable room places text R
accepts_exactly_when room places text R = Exactly.accepts_exactly_when room places text R

-- its second sentence: 6 exactly when its tokens have no reading and no 7 comes earlier
pub six_exactly_when : (room : ℕ) (places text : List ℕ) → ((k : ℕ) × Answers room places text (refused 6 k)) ↔ Unreadable room text
six_exactly_when room places text = Exactly.six_exactly_when room places text

-- at the first token that no grammatical list could have after those before it, or at the end
pub six_at : (room : ℕ) (places text : List ℕ) {ts : List Token} {k : ℕ} →
    Answers room places text (refused 6 k) → lex_text text room ≡ accepted ts → NotGrammatical (numbered 0 text ts) k
six_at room places text a e = Exactly.six_at room places text a e

-- 'none of 1 to 5' is that lexing accepts: it refuses with these alone
pub one-to_five : (room : ℕ) (text : List ℕ) {n p : ℕ} → lex_text text room ≡ refused n p → (1 ≤ n) × (n ≤ 5)
one-to_five room text e = Exactly.one-to_five room text e

-- no label's position is above its level's action count; so it is 0 in a level with no action
abbrev actions_at : Reading → ℕ → ℕ
actions_at R ℓ = get_or (map (λ (v : Level). v.actions) R.levels) ℓ 0

pub labels_in_range : {ts : List Lexeme} {R : Reading} → Reads ts R → (l : Label) → Memᴰ l R.labels →
    (l.level < length R.levels) × (l.position ≤ actions_at R l.level)
labels_in_range r l m = let i = LabelRange.labels_in_range r l m in (i.inside, i.position)

pub zero_in_empty : {ts : List Lexeme} {R : Reading} → Reads ts R → (l : Label) → Memᴰ l R.labels → actions_at R l.level ≡ 0 → l.position ≡ 0
zero_in_empty r l m h = omega (arith, (labels_in_range r l m).1)

-- a reading has at most one entry of each kind for every two tokens, and one level more; the last action may end with the text
pub halves : {ts : List Lexeme} {R : Reading} → Reads ts R →
    (2 * length R.actions ≤ length ts + 1) × (2 * length R.operands ≤ length ts) × (2 * length R.levels ≤ length ts + 2) × (2 * length R.labels ≤ length ts)
halves r = let c = Sizes.counts r in (c.actions, c.operands, c.levels, c.labels)

-- so at most as many as there are tokens, and one level more
pub counts : {ts : List Lexeme} {R : Reading} → Reads ts R →
    (length R.actions ≤ length ts) × (length R.operands ≤ length ts) × (length R.levels ≤ length ts + 1) × (length R.labels ≤ length ts)
counts r =
    let c = Sizes.counts r in
    (omega (arith, c.actions), omega (arith, c.operands), omega (arith, c.levels), omega (arith, c.labels))

-- and tables with a place for every other token, and one for the top level, are never too short
pub ample : {ts : List Lexeme} {R : Reading} (n : ℕ) → Reads ts R → length ts + 2 ≤ 2 * n → (k : ℕ) → ¬ Short (n ∷ n ∷ n ∷ n ∷ []) R k
ample n r h k = Sizes.ample n r h k

-- a net lies from -196,608 to 65,536
pub nets_bounded : {ts : List Lexeme} {l : List Net} → Nets ts l → length ts ≤ 65536 → (z : ℤ) → Memᴰ (height z) l →
    (neg_ℤ (pos 196608) ≤ℤ z) × (z ≤ℤ pos 65536)
nets_bounded n h z m = NetBounds.nets_bounded n h z m

-- document 01's starred bench texts, all together, and texts for the other bullets
pub starred : AllTold Starred.starred
starred = Starred.starred_told

pub bullets : AllTold Bullets.bullets
bullets = Bullets.bullets_told
