-- The entries of the tables that tell a reading.
use Rattle.std.specs.Prelude.{cond, List, [], ◌∷◌, ◌++◌, map, ℕ, suc, ◌+◌, eqb, length, drop}
use Rattle.std.proofs.Math.Option.{Option, none, some}
use Rattle.entries.specs.Entries.{action_word, operand_word, levels_words, label_word}
use Rattle.entries.specs.declared.Action.{Action}
use Rattle.entries.specs.declared.Operand.{Operand}
use Rattle.entries.specs.declared.Block.{Block}
use Rattle.entries.specs.declared.Block.TheVariants as B
use Rattle.entries.specs.declared.Net.{Net}
use Rattle.entries.specs.declared.Net.TheVariants as N
use Rattle.entries.specs.declared.Level.{Level}
use Rattle.entries.specs.declared.Label.{Label}
use Rattle.lexemes.specs.Lexemes.{place_of, unclosed}
use Rattle.lexemes.specs.Events.{Part, body, try, catch, finally}
use Rattle.grammar.specs.Reading as R
use Rattle.grammar.specs.Nets as Nets

-- how many of the operands action a has
abbrev pub under : ℕ → List R.Operand → ℕ
under a [] = 0
under a (o ∷ os) = cond (eqb o.action a) (suc (under a os)) (under a os)

-- actions from number a on, whose operand entries stand from `first` on
abbrev pub action_entries : ℕ → ℕ → List R.Action → List R.Operand → List Action
action_entries a first [] os = []
action_entries a first (x ∷ xs) os =
    record { name = x.name; level = x.level; first = first; count = under a os } ∷ action_entries (suc a) (first + under a os) xs os

abbrev pub operand_entry : R.Operand → Operand
operand_entry o = record { action = o.action; token = place_of o.token; unclosed = unclosed o.token }

abbrev pub part_of : Part → ℕ → Block
part_of body a = B.Body a
part_of try a = B.Try a
part_of catch a = B.Catch a
part_of finally a = B.Finally a

abbrev pub block_of : Option R.Owner → Block
block_of none = B.Top
block_of (some o) = part_of o.part o.action

abbrev pub net_entry : Nets.Net → Net
net_entry (Nets.height z) = N.Height z
net_entry (Nets.undetermined a) = N.Undetermined a

-- level by level, each with its net
abbrev pub level_entries : List R.Level → List Nets.Net → List Level
level_entries [] ns = []
level_entries (l ∷ ls) [] = []
level_entries (l ∷ ls) (n ∷ ns) =
    record { block = block_of l.owner; actions = l.actions; net = net_entry n; unclosed = l.unclosed } ∷ level_entries ls ns

abbrev pub label_entry : R.Label → Label
label_entry l = record { level = l.level; token = place_of l.name; position = l.position }

-- ---- their words, at the front of a table

abbrev pub action_words : R.Reading → List ℕ
action_words r = map action_word (action_entries 0 0 r.actions r.operands)

abbrev pub operand_entry_word : R.Operand → ℕ
operand_entry_word o = operand_word (operand_entry o)

abbrev pub operand_words : R.Reading → List ℕ
operand_words r = map operand_entry_word r.operands

abbrev pub level_words : R.Reading → List Nets.Net → List ℕ
level_words r ns = levels_words (level_entries r.levels ns)

abbrev pub label_entry_word : R.Label → ℕ
label_entry_word l = label_word (label_entry l)

abbrev pub label_words : R.Reading → List ℕ
label_words r = map label_entry_word r.labels

-- entries, and behind them what was there
abbrev pub front : {A : Type 0} → List A → List A → List A
front l table = l ++ drop (length l) table
