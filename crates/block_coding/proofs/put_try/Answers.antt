-- `block_coding::put_try` meets its contract. Assumes nothing.
use mathlib.Core.Path.{sym, ap, ◌∙◌}
use mathlib.Core.List.{[], ◌∷◌}
use Rattle.movies.specs.Movie.{is_register}
use Rattle.action_records.specs.Fields.{UI8}
use Rattle.field_coding.proofs.Putting.{coded}
use Rattle.operand_coding.proofs.Worth.{register-is}
use Rattle.list_coding.specs.Operands.{values}
use Rattle.list_coding.proofs.There.{means_at}
use Rattle.block_coding.proofs.Forms.{register_caught, name_caught}
use Rattle.block_coding.proofs.put_try.Goals as goal

pub returns-then-is_register : goal.returns-then-is_register
returns-then-is_register c =
    let o = c.args.o in
    let t = c.token_at-kind in
    register_caught (values o) (sym (ap is_register (means_at o 0 t.ensures)) ∙ sym (register-is o.text.now t.result) ∙ sym c.is_register.ensures ∙ c.if-is_register.true) c.put_byte.ensures c.put_sizes.ensures (coded (ap (λ n. UI8 n ∷ []) c.number_at.ensures.value) c.put_8.ensures)

pub returns : goal.returns
returns c =
    let o = c.args.o in
    let t = c.token_at-kind in
    name_caught (values o) (sym (ap is_register (means_at o 0 t.ensures)) ∙ sym (register-is o.text.now t.result) ∙ sym c.is_register.ensures ∙ c.if-is_register.false) c.put_byte-2.ensures c.put_sizes-2.ensures c.put_text_at.ensures.codes
