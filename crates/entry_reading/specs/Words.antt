-- What the inner functions tell of label words in scratch. No public contract cites it.
use Rattle.std.specs.Prelude.{List, [], ◌∷◌, ℕ, length}
use Rattle.entries.specs.Entries.{level_places}
use Rattle.reading.specs.Tables.{label_entry_word}
use Rattle.handover.specs.Reading.{Reading, Tables, ReadsFor}

-- the answer r to a text with the tables x lent, scratch for label words among them, and `room` places for labels
unfoldable pub ReadsScratch : ℕ → List ℕ → (x y : Tables ℕ) → Reading → Type 0
ReadsScratch room text x y r =
    ReadsFor label_entry_word (length x.tokens) (length x.actions ∷ length x.operands ∷ level_places x.levels ∷ room ∷ []) text x y r
