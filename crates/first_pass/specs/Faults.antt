-- The first pass of faults over the tables of a reading, action by action. No public contract cites it.
use Rattle.std.specs.Prelude.{◌≡◌, cond, ◌&&◌, List, Result, Ok, Err, ℕ, ◌<◌, eqb, get_or}
use Rattle.answers.specs.declared.Refusal.{Refusal}
use Rattle.answers.specs.declared.Refusal.TheVariants as F
use Rattle.shapes.specs.Shapes.{shape_of}
use Rattle.entries.specs.declared.Action.{Action}
use Rattle.entries.specs.Entries.{action_of}
use Rattle.movies.specs.Meaning.{is_jump}
use Rattle.action_records.specs.declared.Style.{Style}
use Rattle.coding.specs.Heads.{operands_at, head_holds}
use Rattle.jumps.specs.Aims.{aim_at}

-- the fault of action i that jumps to `aim`: 10 or 11, if it has one
unfoldable pub fault_of : Style → (text s operands : List ℕ) → ℕ → Action → ℕ → Result (Unit {0}) Refusal
fault_of y text s operands i a aim =
    cond (is_jump (shape_of a.name) && eqb aim 0) (Err (F.NoLabel i))
    (cond (head_holds y a.name (operands_at text s operands a.first a.count)) (Ok tt) (Err (F.Uncodable i)))

module _ (text s actions operands labels : List ℕ) where
  -- where action i jumps to: one more than the position, 0 for nowhere
  unfoldable pub aim_for : ℕ → ℕ
  aim_for i = cond (is_jump (shape_of (action_of (get_or actions i 0)).name)) (aim_at text s actions operands i labels) 0

  unfoldable pub fault_for : Style → ℕ → Result (Unit {0}) Refusal
  fault_for y i = fault_of y text s operands i (action_of (get_or actions i 0)) (aim_for i)

  -- the first n actions jump to where the table tells
  abbrev pub Aimed : ℕ → List ℕ → Type 0
  Aimed n aims = (i : ℕ) → i < n → get_or aims i 0 ≡ aim_for i
