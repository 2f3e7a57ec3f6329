-- `classes::fits_at` meets its contract. Assumes nothing.
use Rattle.classes.proofs.OneToken.{none-fits, string-fits, no-string-fits, value-fits, bool-fits, no-bool-fits, u8-fits, u16-fits, identifier-fits, no-identifier-fits, target-fits, no-target-fits}
use Rattle.classes.proofs.fits_at.Goals as goal

pub returns-then-at-s : goal.returns-then-at-s
returns-then-at-s c = search none-fits

pub returns-in-String-matches : goal.returns-in-String-matches
returns-in-String-matches c = search string-fits

pub returns-in_default : goal.returns-in_default
returns-in_default c = search no-string-fits

pub returns-in-Value : goal.returns-in-Value
returns-in-Value c = search value-fits

pub returns-in-True : goal.returns-in-True
returns-in-True c = search bool-fits

pub returns-in_default-matches : goal.returns-in_default-matches
returns-in_default-matches c = search no-bool-fits

pub returns-in-U8 : goal.returns-in-U8
returns-in-U8 c = search u8-fits

pub returns-in-U16 : goal.returns-in-U16
returns-in-U16 c = search u16-fits

pub returns-in-Identifier-matches : goal.returns-in-Identifier-matches
returns-in-Identifier-matches c = search identifier-fits

pub returns-in_default-matches-2 : goal.returns-in_default-matches-2
returns-in_default-matches-2 c = search no-identifier-fits

pub returns-in-String-matches-2 : goal.returns-in-String-matches-2
returns-in-String-matches-2 c = search target-fits

pub returns-in_default-matches-3 : goal.returns-in_default-matches-3
returns-in_default-matches-3 c = search no-target-fits
