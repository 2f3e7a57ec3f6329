-- `coding::put_record` meets its contract. Assumes nothing.
use mathlib.Core.Path.{sym, ap, ◌∙◌}
use native.Mathlib.Omega.{arith}
use Rattle.field_coding.proofs.Putting.{coded}
use Rattle.list_coding.specs.Operands.{values, values_of}
use Rattle.block_coding.specs.Shapes.{shape_fields}
use Rattle.coding.specs.Heads.{operands_of}
use Rattle.coding.proofs.Records.{short, long}
use Rattle.coding.proofs.put_record.Goals as goal

pub put_fields-requires : goal.put_fields-requires
put_fields-requires c = omega (arith, c.put_byte.ensures.end, c.put_16.ensures.puts.end)

pub returns-then-code-lt128 : goal.returns-then-code-lt128
returns-then-code-lt128 c =
    let o = c.args.o in
    let w = short c.args.style o.action.name (operands_of o) c.code_of-code.ensures c.put_byte.ensures c.if-code-lt128.true in
    record { end_value = w.end_value; holds_value = w.holds_value; out_after = λ e. c.out-1.given.1.1 (sym w.same) ∙ w.bytes e }

pub returns : goal.returns
unfolding values_of
returns c =
    let o = c.args.o in
    let y = c.args.style in
    let f = coded (ap (λ h. shape_fields y h (values o)) c.shape_of.ensures) c.put_fields.ensures in
    let w = long y o.action.name (operands_of o) c.code_of-code.ensures c.put_byte.ensures c.put_16.ensures f c.put_16-2.ensures c.if-code-lt128.false in
    record { end_value = w.end_value; holds_value = w.holds_value; out_after = λ e. c.out-2-1.given.1.1 (sym w.same) ∙ w.bytes e }
