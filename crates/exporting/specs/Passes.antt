-- What export over the tables of a reading is given and what it answers. The public contract is that of `export`.
use Rattle.std.specs.Prelude.{◌≡◌, cond, List, [], Result, Ok, Err, ℕ, ◌+◌, ◌≤◌, ◌<◌, ltb, length}
use Rattle.std.proofs.lemmas.List.Edits.{sets}
use Rattle.answers.specs.declared.Refusal.{Refusal}
use Rattle.answers.specs.declared.Refusal.TheVariants as F
use Rattle.answers.specs.Answers.{accepted, refusal}
use Rattle.lexemes.specs.Lexemes.{numbered}
use Rattle.grammar.specs.Grammar.{Items, Text}
use Rattle.entries.specs.Entries.{level_in}
use Rattle.reading.specs.Tables.{front, label_entry_word}
use Rattle.handover.specs.declared.Counts.{Counts}
use Rattle.handover.specs.Reading.{lent, Accepts}
use Rattle.action_records.specs.declared.Style.{Style}
use Rattle.action_records.specs.Export.{exported}
use Rattle.filling.specs.Pieces.{Tree, size, bytes_from, nobody, late}
use Rattle.writer.specs.Writing as W
use Rattle.level_trees.specs.declared.Source.{Source}

-- ---- the second pass, of whatever tree the tables hold

abbrev pub second_of : Tree → ℕ → Result ℕ Refusal
second_of l room =
    cond (ltb (late 0 l) nobody) (Err (F.Uncodable (late 0 l)))
    (cond (ltb room (size l)) (Err (F.OutputShort (size l))) (Ok (size l)))

-- the output o, if the bytes are written
abbrev pub left : List ℕ → List ℕ → Result ℕ Refusal → List ℕ
left bs o (Ok n) = sets o 0 bs
left bs o (Err r) = o

abbrev pub tables_of : Source → List ℕ → W.Tables
tables_of x aims = W.tables x.text.now x.tokens.now x.actions.now x.operands.now x.levels.now aims

abbrev pub TreeGiven : W.Tables → Style → List ℕ → Type 0
TreeGiven T y place = (l : Tree) × W.AskedLevel T y l (level_in T.levels 0).actions 0 1 place

pub record Second (l : Tree) (o o' : List ℕ) (r : Result ℕ Refusal) : Type 0 where
  pub answer : r ≡ second_of l (length o)
  pub output : o' ≡ left (bytes_from l 0 l) o r

abbrev pub TreePassed : W.Tables → Style → (place o o' : List ℕ) → Result ℕ Refusal → Type 0
TreePassed T y place o o' r = (l : Tree) → W.AskedLevel T y l (level_in T.levels 0).actions 0 1 place → Second l o o' r

-- ---- both passes, over tables that hold the reading of a text and nothing more

pub record Held (text s actions operands levels labels : List ℕ) : Type 0 where
  pub room : ℕ
  pub places : List ℕ
  pub counts : Counts
  pub accepts : Accepts label_entry_word room places text (lent [] [] [] [] []) (lent s actions operands levels labels) counts

-- places for where each action jumps to, for the index of the labels, and for where each record stands
pub record Roomy (actions levels labels aims index place : List ℕ) : Type 0 where
  pub for_aims : length actions ≤ length aims
  pub for_index : length labels < length index
  pub few : length index < 4294967296
  pub for_place : length actions + length levels ≤ length place

-- what is answered of the tree x, and the output before and after
abbrev pub Passes : Style → Items → (o o' : List ℕ) → Result ℕ Refusal → Type 0
Passes y x o o' (Ok n) = (bs : List ℕ) × ((exported y (length o) x ≡ accepted bs) × ((n ≡ length bs) × (o' ≡ front bs o)))
Passes y x o o' (Err r) = (exported y (length o) x ≡ refusal r) × (o' ≡ o)

-- of the text's tree
abbrev pub TextPassed : Style → (text s actions operands levels labels : List ℕ) → (o o' : List ℕ) → Result ℕ Refusal → Type 0
TextPassed y text s actions operands levels labels o o' r =
    (h : Held text s actions operands levels labels) (x : Items) → Text (numbered 0 text h.accepts.tokens) x → Passes y x o o' r

-- ---- the same of the tables as one value

abbrev pub HeldIn : Source → Type 0
HeldIn x = Held x.text.now x.tokens.now x.actions.now x.operands.now x.levels.now x.labels.now

abbrev pub PassedIn : Style → Source → (o o' : List ℕ) → Result ℕ Refusal → Type 0
PassedIn y x o o' r = TextPassed y x.text.now x.tokens.now x.actions.now x.operands.now x.levels.now x.labels.now o o' r
