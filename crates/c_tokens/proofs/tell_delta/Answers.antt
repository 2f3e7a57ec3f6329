-- `c_tokens::tell_delta` meets its contract. Assumes nothing.
use borrow.Author.Rules.{rules}
use mathlib.Core.Path.{sym, ap, ◌∙◌}
use lib.ListN.{set}
use mir.Syntax.{w32}
use mir.Val.{SFits}
use mir.ValLaws.{to_z-of_z}
use Rattle.pcode.specs.Deltas.{answer}
use Rattle.c_tokens.specs.Tokens.{returned, delta_after}
use Rattle.c_tokens.proofs.tell_delta.Goals as goal

pub returns-in-Ok : goal.returns-in-Ok
returns-in-Ok c =
    let fits : SFits w32 c.in-Ok.d = search rules in
    let old = c.args.out.now in
    let e = ap answer (sym c.in-Ok.is) in
    record { value = ap returned e; out_after = ap (set old 0) (to_z-of_z w32 c.in-Ok.d (fits)) ∙ ap (λ a. delta_after a old) e }

pub returns-in-Err : goal.returns-in-Err
returns-in-Err c =
    let old = c.args.out.now in
    let e = ap answer (sym c.in-Err.is) in
    record { value = c.refusal_number.ensures ∙ ap returned e; out_after = ap (λ a. delta_after a old) e }
