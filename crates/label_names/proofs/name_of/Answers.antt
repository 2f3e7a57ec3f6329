-- `label_names::name_of` meets its contract. Assumes nothing.
use mathlib.Core.Path.{ap, ◌∙◌}
use lib.ListN.{get_or}
use Rattle.tokens.specs.Tokens.{token_of, raw_text}
use Rattle.entries.specs.declared.Label.{Label}
use Rattle.label_names.proofs.name_of.Goals as goal

pub returns : goal.returns
returns c = c.raw_text.ensures.result_value ∙ ap (raw_text c.args.text.now) (c.token_in-t.ensures ∙ ap (λ (l : Label). token_of (get_or c.args.s.now l.token 0)) c.label_of.ensures)
