-- `pcode_c::pcode_raw_text` meets its contract. Assumes nothing.
use borrow.Author.Rules.{rules}
use mathlib.Core.Path.{ap, ◌∙◌}
use Rattle.tokens.specs.declared.Span.{Span}
use Rattle.c_tokens.specs.Tokens.{bounds_after}
use Rattle.pcode_c.proofs.pcode_raw_text.Goals as goal

pub returns : goal.returns
returns c =
    let w = c in
    c.tell_bounds.ensures ∙ ap (λ (s : Span). bounds_after s w.args.out.now) w.bounds_within.ensures
