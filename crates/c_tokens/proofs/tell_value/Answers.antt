-- `c_tokens::tell_value` meets its contract. Assumes nothing.
use borrow.Author.Rules.{rules}
use mathlib.Core.Path.{sym, ap, ◌∙◌}
use lib.ListN.{set}
use lib.Seq.{sets}
use mathlib.Core.List.{[], ◌∷◌}
use mir.Syntax.{w32}
use mir.Val.{SFits}
use mir.ValLaws.{to_z-of_z}
use Rattle.values.specs.Values.{answer}
use Rattle.c_tokens.specs.declared.ValueFields.{ValueFields}
use Rattle.c_tokens.specs.Tokens.{returned, integer_after, value_after}
use Rattle.c_tokens.proofs.tell_value.Goals as goal

pub returns-in-Ok : goal.returns-in-Ok
returns-in-Ok c =
    let fits : SFits w32 c.fields_of-fields.result.integer = search rules in
    let f = c.fields_of-fields in
    let k = c in
    let a = k.args in
    let e = ap answer (sym k.in-Ok.is) in record {
      value = ap returned e;
      integer_after = ap (set a.integer.now 0) (to_z-of_z w32 f.result.integer (fits) ∙ ap (λ (x : ValueFields). x.integer) f.ensures)
          ∙ ap (λ x. integer_after x a.integer.now) e;
      out_after = ap (λ (x : ValueFields). sets a.out.now 0 (x.tag ∷ x.bits ∷ x.text.start ∷ x.text.end ∷ [])) f.ensures
          ∙ ap (λ x. value_after x a.out.now) e;
    }

pub returns-in-Err : goal.returns-in-Err
returns-in-Err c =
    let a = c.args in
    let e = ap answer (sym c.in-Err.is) in
    record { value = c.refusal_number.ensures ∙ ap returned e; integer_after = ap (λ x. integer_after x a.integer.now) e; out_after = ap (λ x. value_after x a.out.now) e }
