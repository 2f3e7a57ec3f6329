-- `keywords::find_keyword` meets its contract: the tables are the keywords. Assumes nothing.
use mathlib.Core.Path.{◌∙◌}
use native.Mathlib.Nat.{zero-add}
use Rattle.words.specs.Spellings.{bytes}
use Rattle.words.specs.Tables.{cut}
use Rattle.words.proofs.Words.{found-in, missing-in}
use Rattle.keywords.specs.Keywords.{keyword_words}
use Rattle.keywords.proofs.find_keyword.Goals as goal

pub returns-then-i-lt6 : goal.returns-then-i-lt6
unfolding bytes cut keyword_words
returns-then-i-lt6 c = found-in c.args.w.now keyword_words (c.find_between-i.ensures ∙ zero-add _) c.if-i-lt6.true

pub returns-else-i-lt6 : goal.returns-else-i-lt6
unfolding bytes cut keyword_words
returns-else-i-lt6 c = missing-in c.args.w.now keyword_words (c.find_between-i.ensures ∙ zero-add _) c.if-i-lt6.false
