-- What the calls for C return and write of the entries of the tables, and of a reading. `old` is
-- what an `out` array held; `sets old 0 l` is `old` with the entries of l in place of its first.
use Rattle.std.specs.Prelude.{Bool, cond, List, [], ◌∷◌, ℕ, ℤ, pos, Ok, Err}
use Rattle.std.proofs.lemmas.List.Edits.{sets}
use Rattle.actions.specs.Numbers.{number_of}
use Rattle.answers.specs.Answers as A
use Rattle.entries.specs.declared.Action.{Action}
use Rattle.entries.specs.declared.Operand.{Operand}
use Rattle.entries.specs.declared.Block.{Block}
use Rattle.entries.specs.declared.Block.TheVariants as B
use Rattle.entries.specs.declared.Net.{Net}
use Rattle.entries.specs.declared.Net.TheVariants as N
use Rattle.entries.specs.declared.Level.{Level}
use Rattle.entries.specs.declared.Label.{Label}
use Rattle.entries.specs.Entries.{owner_of}
use Rattle.handover.specs.Reading.{Reading}

-- number, level, first operand entry and operand count of an action
abbrev pub action_after : Action → List ℕ → List ℕ
action_after a old = sets old 0 (number_of a.name ∷ a.level ∷ a.first ∷ a.count ∷ [])

abbrev pub one_if : Bool → ℕ
one_if b = cond b 1 0

-- action and token of an operand, and whether it is an unclosed string
abbrev pub operand_after : Operand → List ℕ → List ℕ
operand_after o old = sets old 0 (o.action ∷ o.token ∷ one_if o.unclosed ∷ [])

abbrev pub label_after : Label → List ℕ → List ℕ
label_after l old = sets old 0 (l.level ∷ l.token ∷ l.position ∷ [])

-- ---- a level

-- which block of its action a level is; the top level is none
abbrev pub block_part : Block → ℕ
block_part B.Top = 0
block_part (B.Body a) = 1
block_part (B.Try a) = 2
block_part (B.Catch a) = 3
block_part (B.Finally a) = 4

-- whether a net is undetermined, the first undetermined action, and the height
abbrev pub net_kind : Net → ℕ
net_kind (N.Height h) = 0
net_kind (N.Undetermined a) = 1

abbrev pub net_action : Net → ℕ
net_action (N.Height h) = 0
net_action (N.Undetermined a) = a

abbrev pub net_height : Net → ℤ
net_height (N.Height h) = h
net_height (N.Undetermined a) = pos 0

-- block, action count and net of a level, its height aside, and its count of unclosed strings
abbrev pub level_after : Level → List ℕ → List ℕ
level_after l old =
    sets old 0 (block_part l.block ∷ owner_of l.block ∷ l.actions ∷ net_kind l.net ∷ net_action l.net ∷ l.unclosed ∷ [])

abbrev pub height_after : Level → List ℤ → List ℤ
height_after l old = sets old 0 (net_height l.net ∷ [])

-- ---- reading

-- 0, or the number of the refusal
abbrev pub read_number : Reading → ℕ
read_number (Ok c) = 0
read_number (Err r) = A.number_of r

-- the five counts, or the place of the refusal
abbrev pub read_after : Reading → List ℕ → List ℕ
read_after (Ok c) old = sets old 0 (c.tokens ∷ c.actions ∷ c.operands ∷ c.levels ∷ c.labels ∷ [])
read_after (Err r) old = sets old 0 (A.place_of r ∷ [])
