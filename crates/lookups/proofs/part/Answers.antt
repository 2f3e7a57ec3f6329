-- `lookups::part` meets its contract: the bounds that it cuts at are those of the definition. Assumes nothing.
use mathlib.Core.Path.{ap}
use Rattle.tokens.specs.declared.Span.{Span}
use Rattle.tokens.specs.Tokens.{part}
use Rattle.tokens.proofs.Raw.{raw-ordered, raw-ends}
use Rattle.lookups.proofs.part.Goals as goal

pub slice_bounds-result-count : goal.slice_bounds-result-count
slice_bounds-result-count c =
    search raw-ordered

pub slice_bounds-result-start : goal.slice_bounds-result-start
slice_bounds-result-start c =
    search raw-ordered

pub slice_bounds-result-end : goal.slice_bounds-result-end
slice_bounds-result-end c =
    search raw-ends

pub returns : goal.returns
returns c =
    ap (λ (s : Span). part c.args.text.now s) c.bounds_within-bounds.ensures
