-- What reading a text answers, and what the lent tables hold then: document 01, 'The call'. The answer is the grammar's
-- (`Answers`); a refusal changes no table; acceptance changes only the entries it fills. A label entry is a word for `read`
-- and a struct for `read_entries`: L is its type, and `entry` the entry of a label.
use Rattle.std.specs.Prelude.{◌≡◌, List, [], ◌∷◌, map, ℕ, length, Result, Ok, Err}
use Rattle.answers.specs.Answers.{accepted, refusal}
use Rattle.answers.specs.declared.Refusal.{Refusal}
use Rattle.lexer.specs.Lexing.{lex_text}
use Rattle.tokens.specs.declared.Token.{Token}
use Rattle.tokens.specs.Tokens.{word_of}
use Rattle.lexemes.specs.Lexemes.{numbered}
use Rattle.entries.specs.Entries.{level_places}
use Rattle.grammar.specs.Reading as G
use Rattle.grammar.specs.Nets.{Net, Nets}
use Rattle.grammar.specs.Refusals.{Answers}
use Rattle.reading.specs.Tables.{front, action_words, operand_words, level_words, label_entry_word}
use Rattle.handover.specs.declared.Counts.{Counts}
use Rattle.handover.specs.declared.Tables as D

-- what reading answers
abbrev pub Reading : Type 0
Reading = Result Counts Refusal

-- the five lent tables
pub record Tables (L : Type 0) : Type 0 where
  pub tokens : List ℕ
  pub actions : List ℕ
  pub operands : List ℕ
  pub levels : List ℕ
  pub labels : List L

abbrev pub lent : {L : Type 0} → List ℕ → List ℕ → List ℕ → List ℕ → List L → Tables L
lent tokens actions operands levels labels = record { tokens = tokens; actions = actions; operands = operands; levels = levels; labels = labels }

-- what a program's tables hold
abbrev pub held_in : {L : Type 0} → D.Tables L → Tables L
held_in t = lent t.tokens.now t.actions.now t.operands.now t.levels.now t.labels.now

-- they are still the same slices, so that their lender knows what became of them
pub record SameSlices {L : Type 0} (t u : D.Tables L) : Type 0 where
  pub tokens : u.tokens.ghost_name ≡ t.tokens.ghost_name
  pub actions : u.actions.ghost_name ≡ t.actions.ghost_name
  pub operands : u.operands.ghost_name ≡ t.operands.ghost_name
  pub levels : u.levels.ghost_name ≡ t.levels.ghost_name
  pub labels : u.labels.ghost_name ≡ t.labels.ghost_name

-- the places of tables 0 to 3, row 8's numbers; a level takes two words
abbrev pub places : {L : Type 0} → Tables L → List ℕ
places x = length x.actions ∷ length x.operands ∷ level_places x.levels ∷ length x.labels ∷ []

-- the same of so many places
abbrev pub places_of : Counts → List ℕ
places_of n = n.actions ∷ n.operands ∷ n.levels ∷ n.labels ∷ []

abbrev pub counted : List Token → G.Reading → Counts
counted ts R =
    record { tokens = length ts; actions = length R.actions; operands = length R.operands; levels = length R.levels; labels = length R.labels }

module _ {L : Type 0} (entry : G.Label → L) where
  -- the tables x, filled with the tokens, a reading of them and its nets
  abbrev pub filled : List Token → G.Reading → List Net → Tables L → Tables L
  filled ts R N x =
      record {
        tokens = front (map word_of ts) x.tokens;
        actions = front (action_words R) x.actions;
        operands = front (operand_words R) x.operands;
        levels = front (level_words R N) x.levels;
        labels = front (map entry R.labels) x.labels;
      }

  -- `room` places for tokens and `places` for tables 0 to 3 are enough: the one reading of the text's tokens is handed out,
  -- with its nets
  pub record Accepts (room : ℕ) (places text : List ℕ) (x y : Tables L) (c : Counts) : Type 0 where
    pub tokens : List Token
    pub reading : G.Reading
    pub nets : List Net
    pub lexed : lex_text text room ≡ accepted tokens
    pub answer : Answers room places text (accepted reading)
    pub net : Nets (numbered 0 text tokens) nets
    pub tables : y ≡ filled tokens reading nets x
    pub counts : c ≡ counted tokens reading

  -- the answer r to a text, for so many places, with the tables x, which are then y
  abbrev pub ReadsFor : ℕ → (places text : List ℕ) → (x y : Tables L) → Reading → Type 0
  ReadsFor room places text x y (Ok c) = Accepts room places text x y c
  ReadsFor room places text x y (Err r) = Answers room places text (refusal r) × (y ≡ x)

  -- for the places of the tables x themselves
  unfoldable pub Reads : List ℕ → Tables L → Tables L → Reading → Type 0
  Reads text x y r = ReadsFor (length x.tokens) (places x) text x y r

-- where a label entry is a word, as for `read`
abbrev pub ReadsWords : List ℕ → Tables ℕ → Tables ℕ → Reading → Type 0
ReadsWords = Reads label_entry_word
