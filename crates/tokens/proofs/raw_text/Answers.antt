-- `tokens::raw_text` meets its contract: the bounds that it cuts at are those of the definition. Assumes nothing.
use Rattle.tokens.proofs.Raw.{raw-ordered, raw-ends, raw-bytes, raw-place}
use Rattle.tokens.proofs.raw_text.Goals as goal

pub slice_bounds-result-count : goal.slice_bounds-result-count
slice_bounds-result-count c =
    search raw-ordered

pub slice_bounds-result-start : goal.slice_bounds-result-start
slice_bounds-result-start c =
    search raw-ordered

pub slice_bounds-result-end : goal.slice_bounds-result-end
slice_bounds-result-end c =
    search raw-ends

pub returns : goal.returns
returns c =
    record { result_value = search raw-bytes; ref_ptr_value = search raw-place }
