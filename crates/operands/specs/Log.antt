-- The log: what is read, as events in the order of the text, one word each.
use Rattle.std.specs.Prelude.{List, ℕ, ◌+◌, set}
use Rattle.actions.specs.Numbers.{number_of}
use Rattle.events.specs.Log.{log_word}
use Rattle.lexemes.specs.Lexemes.{place_of}
use Rattle.lexemes.specs.Events.{Part, body, try, catch, finally, Event, acted, named, given, opened, closed}
use Rattle.operands.specs.declared.At.{At}

abbrev pub part_number : Part → ℕ
part_number body = 0
part_number try = 1
part_number catch = 2
part_number finally = 3

abbrev pub event_word : Event → ℕ
event_word (acted a) = log_word 0 (number_of a)
event_word (named t) = log_word 1 (place_of t)
event_word (given t) = log_word 2 (place_of t)
event_word (opened p) = log_word 3 (part_number p)
event_word closed = log_word 4 0

-- the log's words, and how many of them are events
pub record Log : Type 0 where
  pub words : List ℕ
  pub count : ℕ

abbrev pub log : List ℕ → At → Log
log l c = record { words = l; count = c.events }

abbrev pub emit : Event → Log → Log
emit v L = record { words = set L.words L.count (event_word v); count = L.count + 1 }

-- past a token that is no event, and past one that is
abbrev pub passed : At → At
passed c = record { at = c.at + 1; events = c.events }

abbrev pub logged : At → At
logged c = record { at = c.at + 1; events = c.events + 1 }
