-- What C asks export for, and what it is told of the answer. `old` is what a `told` array held; `sets old 0 l` is `old` with the
-- entries of l in place of its first.
use Rattle.std.specs.Prelude.{Bool, cond, List, [], ◌∷◌, Result, Ok, Err, ℕ}
use Rattle.std.proofs.lemmas.List.Edits.{sets}
use Rattle.answers.specs.declared.Refusal.{Refusal}
use Rattle.answers.specs.Answers as A
use Rattle.action_records.specs.declared.Style.{Style}
use Rattle.action_records.specs.declared.Style.TheVariants as Y
use Rattle.export.specs.declared.Exported.{Exported}

-- the order of GetUrl2's bits: SWF19's where it is asked for, else that of players
abbrev pub style_with : Bool → Style
style_with printed = cond printed Y.AsPrinted Y.AsPlayed

-- 0, or the number of the refusal
abbrev pub export_number : Result Exported Refusal → ℕ
export_number (Ok e) = 0
export_number (Err r) = A.number_of r

-- the five counts and how many bytes were written, or the place of the refusal
abbrev pub export_after : Result Exported Refusal → List ℕ → List ℕ
export_after (Ok e) old = sets old 0 (e.counts.tokens ∷ e.counts.actions ∷ e.counts.operands ∷ e.counts.levels ∷ e.counts.labels ∷ e.bytes ∷ [])
export_after (Err r) old = sets old 0 (A.place_of r ∷ [])
