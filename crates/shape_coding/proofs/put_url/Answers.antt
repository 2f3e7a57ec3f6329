-- `shape_coding::put_url` meets its contract. Assumes nothing.
use Rattle.field_coding.proofs.Putting.{also}
use Rattle.shape_coding.proofs.put_url.Goals as goal

pub returns : goal.returns
returns c = also c.put_text_at.ensures.codes c.put_text_at-2.ensures.codes
