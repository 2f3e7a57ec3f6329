-- THE THEOREMS about the call. First demand 3's two sentences: when it accepts and what is then handed out, and when and where
-- it answers 6. Then the structs that `token_in`, `action_in`, `operand_in`, `level_in` and `label_in` make of the tables'
-- words after an accepted reading: they are the tokens and the entries of the one reading, whatever the default d. `Reads`, the
-- contract, and `Accepts` are defined in handover/specs/Reading, `Acceptable` and `Unreadable` in grammar/specs/Demand3. They
-- assume nothing.
use Rattle.std.specs.Prelude.{Ok, Err}
use mathlib.Core.Path.{◌≡◌}
use mathlib.Core.List.{List, map}
use mathlib.Core.Logic.{◌↔◌}
use Prim.Native.Nat.{ℕ, ◌<◌}
use lib.ListN.{length, get_or}
use Rattle.answers.specs.Answers.{accepted, number_of, place_of}
use Rattle.answers.specs.declared.Refusal.{Refusal}
use Rattle.tokens.specs.declared.Token.{Token}
use Rattle.tokens.specs.Tokens.{token_of}
use Rattle.lexer.specs.Lexing.{lex_text}
use Rattle.lexemes.specs.Lexemes.{numbered}
use Rattle.entries.specs.declared.Action.{Action}
use Rattle.entries.specs.declared.Operand.{Operand}
use Rattle.entries.specs.declared.Level.{Level}
use Rattle.entries.specs.declared.Label.{Label}
use Rattle.entries.specs.Entries.{action_of, operand_of, level_in, label_of}
use Rattle.grammar.specs.Reading as G
use Rattle.grammar.specs.Refusals.{NotGrammatical}
use Rattle.grammar.specs.Demand3.{Acceptable, Unreadable}
use Rattle.reading.specs.Tables.{action_entries, operand_entry, level_entries, label_entry, label_entry_word}
use Rattle.handover.specs.declared.Counts.{Counts}
use Rattle.handover.specs.Reading.{Reading, Tables, places, Accepts, Reads}
use Rattle.as2_pcode.proofs.Exactly as Exactly
use Rattle.as2_pcode.proofs.Handed as Handed

-- r is what the call answers to the text with the tables x, which are then y
module _ {L : Type 0} (entry : G.Label → L) (text : List ℕ) (x y : Tables L) (r : Reading) (h : Reads entry text x y r) where
  abbrev room : ℕ
  room = length x.tokens

  -- it accepts exactly when none of 1 to 5, 7, 8 applies and the tokens have exactly one reading
  pub accepts_exactly_when : ((c : Counts) × (r ≡ Ok c)) ↔ ((Q : G.Reading) × Acceptable room (places x) text Q)
  accepts_exactly_when = Exactly.accepts_exactly_when entry text x y r h

  -- and hands that out
  pub hands_that_out : {Q : G.Reading} → Acceptable room (places x) text Q
      → (c : Counts) × (r ≡ Ok c) × (a : Accepts entry room (places x) text x y c) × (a.reading ≡ Q)
  hands_that_out m = Exactly.hands_that_out entry text x y r h m

  -- it answers 6 exactly when there is no reading and no 7 comes earlier
  pub six_exactly_when : ((q : Refusal) × (r ≡ Err q) × (number_of q ≡ 6)) ↔ Unreadable room text
  six_exactly_when = Exactly.six_exactly_when entry text x y r h

  -- at the first token that no grammatical list could have after those before it, or at the end
  pub six_at : {q : Refusal} {ts : List Token} → r ≡ Err q → number_of q ≡ 6 → lex_text text room ≡ accepted ts
      → NotGrammatical (numbered 0 text ts) (place_of q)
  six_at e n l = Exactly.six_at entry text x y r h e n l

module _ {L : Type 0} {entry : G.Label → L} {room : ℕ} {places text : List ℕ} {x y : Tables L} {c : Counts} (a : Accepts entry room places text x y c) where
  pub tokens-handed : (i : ℕ) → i < length a.tokens → (d : Token) → token_of (get_or y.tokens i 0) ≡ get_or a.tokens i d
  tokens-handed i h d = Handed.tokens-handed a i h d

  pub actions-handed : (i : ℕ) → i < c.actions → (d : Action)
      → action_of (get_or y.actions i 0) ≡ get_or (action_entries 0 0 a.reading.actions a.reading.operands) i d
  actions-handed i h d = Handed.actions-handed a i h d

  pub operands-handed : (i : ℕ) → i < c.operands → (d : Operand)
      → operand_of (get_or y.operands i 0) ≡ get_or (map operand_entry a.reading.operands) i d
  operands-handed i h d = Handed.operands-handed a i h d

  pub levels-handed : (i : ℕ) → i < c.levels → (d : Level)
      → level_in y.levels i ≡ get_or (level_entries a.reading.levels a.nets) i d
  levels-handed i h d = Handed.levels-handed a i h d

module _ {room : ℕ} {places text : List ℕ} {x y : Tables ℕ} {c : Counts} (a : Accepts label_entry_word room places text x y c) where
  pub labels-handed : (i : ℕ) → i < c.labels → (d : Label)
      → label_of (get_or y.labels i 0) ≡ get_or (map label_entry a.reading.labels) i d
  labels-handed i h d = Handed.labels-handed a i h d
