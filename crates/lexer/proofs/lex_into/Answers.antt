-- `lexer::lex_into` meets its contract: the constants are the tables of the names. Assumes nothing.
use mathlib.Core.Path.{refl}
use Rattle.words.specs.Spellings.{bytes, spellings}
use Rattle.words.specs.Tables.{cut}
use Rattle.lexer.proofs.lex_into.Goals as goal

pub invariant_of-names : goal.invariant_of-names
unfolding bytes cut spellings
invariant_of-names c = record { lent = record { names = refl; ordered = refl; long = refl; first = refl } }
