-- What is read, one event after the other in the order of the text.
use Rattle.names.specs.declared.ActionName.{ActionName}
use Rattle.lexemes.specs.Lexemes.{Lexeme}

-- which block of its action a block is
pub data Part : Type 0 where
  body try catch finally : Part

-- an action, a label, an operand, the start and the end of a block
pub data Event : Type 0 where
  acted : ActionName → Event
  named given : Lexeme → Event
  opened : Part → Event
  closed : Event
