-- `utf8::char_len` meets its contract at the last row. Assumes nothing.
use Rattle.utf8.proofs.Rows.{four_244}
use Rattle.utf8.proofs.char_len.Goals as goal

pub returns-in-244 : goal.returns-in-244
returns-in-244 c = four_244 _ c.requires c.in-244.is c.sized-in-244.ensures c.four-in-244.ensures
