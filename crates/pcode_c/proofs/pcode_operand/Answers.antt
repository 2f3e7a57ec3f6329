-- `pcode_c::pcode_operand` meets its contract. Assumes nothing.
use borrow.Author.Rules.{rules}
use mathlib.Core.Path.{ap, ◌∙◌}
use Rattle.entries.specs.declared.Operand.{Operand}
use Rattle.c_entries.specs.Entries.{operand_after}
use Rattle.pcode_c.proofs.pcode_operand.Goals as goal

pub returns : goal.returns
returns c =
    let w = c in
    c.tell_operand.ensures ∙ ap (λ (x : Operand). operand_after x w.args.out.now) w.operand_of.ensures
