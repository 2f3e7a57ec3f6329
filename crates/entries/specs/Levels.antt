-- Levels while they are read: a level's words stand in its table from its brace on. No public contract cites this file.
use Rattle.std.specs.Prelude.{ℕ, ◌+◌, ◌<◌, pos, negsuc}
use Rattle.entries.specs.declared.Action.{Action}
use Rattle.entries.specs.declared.Operand.{Operand}
use Rattle.entries.specs.declared.Block.{Block}
use Rattle.entries.specs.declared.Net.{Net}
use Rattle.entries.specs.declared.Net.TheVariants as N
use Rattle.entries.specs.declared.Level.{Level}
use Rattle.entries.specs.declared.Label.{Label}
use Rattle.entries.specs.Entries.{owner_of}

-- a level before its first action
abbrev pub fresh : Block → Level
fresh b = record { block = b; actions = 0; net = N.Height (pos 0); unclosed = 0 }

-- one action more, the net behind it, and k unclosed strings more
abbrev pub with_action : Net → ℕ → Level → Level
with_action n k l = record { block = l.block; actions = l.actions + 1; net = n; unclosed = l.unclosed + k }

-- a number that a field of twenty bits holds, and one of seventeen, as an action's fields are
abbrev pub Small : ℕ → Type 0
Small n = n < 1048576

abbrev pub Small17 : ℕ → Type 0
Small17 n = n < 131072

-- the nets that twenty bits tell
abbrev pub SmallNet : Net → Type 0
SmallNet (N.Height (pos n)) = n < 327680
SmallNet (N.Height (negsuc n)) = n < 196608
SmallNet (N.Undetermined a) = a < 524288

-- the nets that have a number of twenty bits: the lowest is that of all below it
abbrev pub NetFits : Net → Type 0
NetFits (N.Height (pos n)) = n < 851968
NetFits (N.Height (negsuc n)) = n < 393216
NetFits (N.Undetermined a) = a < 524288

pub record SmallLevel (l : Level) : Type 0 where
  pub owner : Small (owner_of l.block)
  pub actions : Small l.actions
  pub net : SmallNet l.net

-- ---- fields whose word has sixty-four bits; those of a reading are far below these bounds

abbrev pub ActionFits : Action → Type 0
ActionFits a = Small a.level × ((a.first < 8589934592) × (a.count < 8589934592))

abbrev pub OperandFits : Operand → Type 0
OperandFits o = Small o.action × Small o.token

abbrev pub LabelFits : Label → Type 0
LabelFits l = (l.level < 16777216) × (Small l.position × Small l.token)
