-- The entries of held tables, as the passes are given them. No public contract cites it.
use Rattle.std.specs.Prelude.{List, Result, ℕ, ◌*◌, ◌≤◌, length, take}
use Rattle.answers.specs.declared.Refusal.{Refusal}
use Rattle.handover.specs.declared.Counts.{Counts}
use Rattle.handover.specs.Reading.{Tables}
use Rattle.action_records.specs.declared.Style.{Style}
use Rattle.exporting.specs.Passes.{Held, TextPassed}

pub record HeldBy (c : Counts) (text : List ℕ) (h : Tables ℕ) : Type 0 where
  pub tokens : c.tokens ≤ length h.tokens
  pub actions : c.actions ≤ length h.actions
  pub operands : c.operands ≤ length h.operands
  pub levels : 2 * c.levels ≤ length h.levels
  pub few-levels : c.levels ≤ 65536
  pub labels : c.labels ≤ length h.labels
  pub held : Held text (take c.tokens h.tokens) (take c.actions h.actions) (take c.operands h.operands) (take (2 * c.levels) h.levels) (take c.labels h.labels)

abbrev pub PassedBy : Style → Counts → List ℕ → Tables ℕ → (o o' : List ℕ) → Result ℕ Refusal → Type 0
PassedBy style c text h o o' r =
    TextPassed style text (take c.tokens h.tokens) (take c.actions h.actions) (take c.operands h.operands) (take (2 * c.levels) h.levels) (take c.labels h.labels) o o' r
