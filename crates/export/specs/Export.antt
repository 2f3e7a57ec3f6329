-- What export answers, and what the lent tables and the output hold then: document 02, §2. A refusal changes no table and no output; on
-- acceptance the tables are filled as by `read`, and the bytes stand in front of the output.
use Rattle.std.specs.Prelude.{◌≡◌, List, Result, Ok, Err, ℕ, length}
use Rattle.answers.specs.declared.Refusal.{Refusal}
use Rattle.answers.specs.Answers.{accepted, refusal}
use Rattle.reading.specs.Tables.{front, label_entry_word}
use Rattle.handover.specs.declared.Counts.{Counts}
use Rattle.handover.specs.Reading.{Tables, places, Accepts}
use Rattle.action_records.specs.declared.Style.{Style}
use Rattle.action_records.specs.Export.{exported}
use Rattle.export.specs.Asked.{Asked}
use Rattle.export.specs.declared.Exported.{Exported}

-- tables x and output o, which are then y and o'
pub record Writes (style : Style) (text : List ℕ) (x y : Tables ℕ) (o o' : List ℕ) (c : Counts) (n : ℕ) : Type 0 where
  pub bytes : List ℕ
  pub answer : Asked (exported style (length o)) x text (accepted bytes)
  pub reads : Accepts label_entry_word (length x.tokens) (places x) text x y c
  pub count : n ≡ length bytes
  pub output : o' ≡ front bytes o

unfoldable pub Exports : Style → List ℕ → (x y : Tables ℕ) → (o o' : List ℕ) → Result Exported Refusal → Type 0
Exports style text x y o o' (Ok e) = Writes style text x y o o' e.counts e.bytes
Exports style text x y o o' (Err r) = Asked (exported style (length o)) x text (refusal r) × ((y ≡ x) × (o' ≡ o))
