-- What `pcode_read` returns and writes. `pcode_export` has `ExportFor`; the other calls' contracts cite `c_tokens` and `c_entries` alone.
use Rattle.std.specs.Prelude.{◌≡◌, List, ℕ}
use Rattle.c_entries.specs.Entries.{read_number, read_after}
use Rattle.handover.specs.Reading.{Reading, Tables, ReadsWords}

-- what reading answers, told to C: n is returned, the tables x have become y, and `old` has become `new`
pub record ReadFor (text : List ℕ) (x y : Tables ℕ) (old new : List ℕ) (n : ℕ) : Type 0 where
  pub answer : Reading
  pub reads : ReadsWords text x y answer
  pub number : n ≡ read_number answer
  pub out : new ≡ read_after answer old
