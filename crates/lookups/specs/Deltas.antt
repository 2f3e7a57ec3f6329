-- The delta of an action of a reading, from the tables.
use Rattle.std.specs.Prelude.{List, ℕ, ◌+◌, ℤ, get_or}
use Rattle.answers.specs.Answers.{Answer}
use Rattle.entries.specs.declared.Action.{Action}
use Rattle.entries.specs.Entries.{action_of}
use Rattle.nets.specs.Nets.{first_is_empty}
use Rattle.pcode.specs.Deltas.{delta_answer}

-- its operands are its values, and a function's name is the first of them
abbrev pub delta_in : (text tokens operands : List ℕ) → Action → Answer ℤ
delta_in text tokens operands a = delta_answer a.name a.count (first_is_empty text tokens operands a.first (a.first + a.count))

-- the delta of action i
abbrev pub delta_at : (text tokens actions operands : List ℕ) → ℕ → Answer ℤ
delta_at text tokens actions operands i = delta_in text tokens operands (action_of (get_or actions i 0))
