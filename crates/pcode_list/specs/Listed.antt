-- What `pcode-list` reads: document 01, 'reads at most 4,096 bytes .. Its tables hold any such text'.
use Rattle.std.specs.Prelude.{◌≡◌, List, ℕ, ◌≤◌, ◌<◌, length, Ok, Err}
use Rattle.answers.specs.Answers.{number_of}
use Rattle.answers.specs.declared.Refusal.TheVariants as A
use Rattle.handover.specs.Reading.{Reading, Tables, ReadsWords}

-- the tables were never too short: no refusal is 5 or 8
abbrev pub NeverShort : Reading → Type 0
NeverShort (Ok c) = Unit {0}
NeverShort (Err r) = (¬ (number_of r ≡ 5)) × (¬ (number_of r ≡ 8))

-- the answer r to a text with the tables x lent, which are then y: row 1 from 4,097 bytes on, else reading's
pub record Listed (text : List ℕ) (x y : Tables ℕ) (r : Reading) : Type 0 where
  pub long : 4096 < length text → (r ≡ Err A.TooLong) × (y ≡ x)
  pub reads : length text ≤ 4096 → ReadsWords text x y r
