-- What `pcode_export` returns and writes.
use Rattle.std.specs.Prelude.{Bool, ◌≡◌, List, Result, ℕ}
use Rattle.answers.specs.declared.Refusal.{Refusal}
use Rattle.handover.specs.Reading.{Tables}
use Rattle.export.specs.declared.Exported.{Exported}
use Rattle.export.specs.Export.{Exports}
use Rattle.c_export.specs.Telling.{style_with, export_number, export_after}

-- what export answers, told to C: n is returned, the tables x have become y, the output o has become o', and `old` has become `new`
pub record ExportFor (printed : Bool) (text : List ℕ) (x y : Tables ℕ) (o o' : List ℕ) (old new : List ℕ) (n : ℕ) : Type 0 where
  pub answer : Result Exported Refusal
  pub exports : Exports (style_with printed) text x y o o' answer
  pub number : n ≡ export_number answer
  pub told : new ≡ export_after answer old
