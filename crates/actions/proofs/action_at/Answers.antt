-- Past the list's end stands `Add`.
use Rattle.std.proofs.Common.{sym}
use Rattle.std.proofs.Math.ListN.{get_or-eq_default}
use Rattle.laws.proofs.Rest.{rest}
use Rattle.names.specs.declared.ActionName.TheVariants.{Add}
use Rattle.actions.specs.Numbers.{actions}
use Rattle.actions.proofs.action_at.Goals as goal

pub returns-in_default : goal.returns-in_default
returns-in_default c = sym (get_or-eq_default actions Add (rest c.args.n 100 c.in_default.in_default-own.rest))
