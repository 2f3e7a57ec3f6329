-- What reading would answer with nothing lent.
use Rattle.std.specs.Prelude.{◌≡◌, List, ℕ, length}
use Rattle.handover.specs.Reading.{Reading, Tables, places, ReadsWords}

-- what reading would answer with any tables of so many places
abbrev pub Checks : ℕ → (ps text : List ℕ) → Reading → Type 0
Checks room ps text r = (x : Tables ℕ) → length x.tokens ≡ room → places x ≡ ps → (y : Tables ℕ) × ReadsWords text x y r
