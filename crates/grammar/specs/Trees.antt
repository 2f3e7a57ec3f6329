-- The events of a tree in the order of the text, and its size. No public contract cites them: the log that the parser writes and
-- the rooms that its readers ask for are told by them.
use Rattle.std.specs.Prelude.{List, [], ◌∷◌, ℕ, suc, ◌+◌, length}
use Rattle.lexemes.specs.Lexemes.{Lexeme}
use Rattle.lexemes.specs.Events.{Part, body, try, catch, finally, Event, acted, named, given, opened, closed}
use Rattle.grammar.specs.Grammar.{Items, done, label, action, Blocks, no_blocks, block}

-- ---- events

-- of an action's operands, those that come before a block of it and those that wait: a Try's target waits for the block behind
-- the first one
abbrev pub leading : Part → List Lexeme → List Lexeme
leading body os = os
leading try os = []
leading catch os = os
leading finally os = os

abbrev pub waiting : Part → List Lexeme → List Lexeme
waiting body os = []
waiting try os = os
waiting catch os = []
waiting finally os = []

-- operands, before the events k
abbrev pub givens : List Lexeme → List Event → List Event
givens [] k = k
givens (t ∷ os) k = given t ∷ givens os k

abbrev mutual
  -- the events of a tree, before the events k
  pub events : Items → List Event → List Event
  events done k = k
  events (label t x) k = named t ∷ events x k
  events (action n os bs x) k = acted n ∷ block-events bs os (events x k)

  -- those of blocks, with the operands that are still to be given
  pub block-events : Blocks → List Lexeme → List Event → List Event
  block-events no_blocks os k = givens os k
  block-events (block p x bs) os k = givens (leading p os) (opened p ∷ events x (closed ∷ block-events bs (waiting p os) k))

-- ---- size

abbrev mutual
  -- a label counts its name, an action its own token and its operands
  pub size : Items → ℕ
  size done = 0
  size (label t x) = suc (size x)
  size (action n os bs x) = suc (length os + sizes bs + size x)

  -- a block counts its brace
  pub sizes : Blocks → ℕ
  sizes no_blocks = 0
  sizes (block p x bs) = suc (size x + sizes bs)
