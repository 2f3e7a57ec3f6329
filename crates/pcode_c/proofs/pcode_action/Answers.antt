-- `pcode_c::pcode_action` meets its contract. Assumes nothing.
use borrow.Author.Rules.{rules}
use mathlib.Core.Path.{ap, ◌∙◌}
use Rattle.entries.specs.declared.Action.{Action}
use Rattle.c_entries.specs.Entries.{action_after}
use Rattle.pcode_c.proofs.pcode_action.Goals as goal

pub returns : goal.returns
returns c =
    let w = c in
    c.tell_action.ensures ∙ ap (λ (x : Action). action_after x w.args.out.now) w.action_of.ensures
