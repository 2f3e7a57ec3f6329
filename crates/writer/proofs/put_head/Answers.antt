-- `writer::put_head` meets its contract. Assumes nothing.
use mathlib.Core.Path.{◌≡◌, ap, ◌∙◌}
use mathlib.Core.Bool.{true}
use lib.ListN.{length}
use lib.Seq.{sets}
use Rattle.entries.specs.declared.Action.{Action}
use Rattle.coding.specs.Heads.{operands_at, head_of, head_holds}
use Rattle.writer.specs.Writing.{head_at, coded_at}
use Rattle.writer.proofs.put_head.Goals as goal

pub returns-clause-out_after : goal.returns-clause-out_after
unfolding head_at coded_at
returns-clause-out_after c =
    let s = c.args.p.source in
    let y = c.args.p.style in
    let e = c.action_in-action.ensures in
    let put = c.put_record in
    let coded : put.result.holds ≡ true =
    put.ensures.holds_value ∙ ap (λ (x : Action). head_holds y x.name (operands_at s.text.now s.tokens.now s.operands.now x.first x.count)) e ∙ c.requires.1 in
    put.ensures.out_after coded ∙ ap (λ (x : Action). sets c.args.out.now 0 (head_of y x.name (operands_at s.text.now s.tokens.now s.operands.now x.first x.count))) e

pub returns-clause-value : goal.returns-clause-value
unfolding head_at
returns-clause-value c =
    let s = c.args.p.source in
    c.put_record.ensures.end_value ∙ ap (λ (x : Action). length (head_of c.args.p.style x.name (operands_at s.text.now s.tokens.now s.operands.now x.first x.count))) c.action_in-action.ensures
