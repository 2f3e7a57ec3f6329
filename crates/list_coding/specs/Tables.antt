-- What holds of every action of a text's reading. No clause here names the struct of its tables.
use Rattle.std.specs.Prelude.{◌<◌}
use Rattle.entries.specs.declared.Action.{Action}

-- as any decoded entry of the action table is
pub record Small (a : Action) : Type 0 where
  pub first : a.first < 131072
  pub count : a.count < 131072
