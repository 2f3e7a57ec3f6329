-- What a tree emits, in the order of the text: its actions, labels, operands and blocks. Any `emit` may take it down.
-- Assumes nothing.
use mathlib.Core.List.{List}
use Rattle.lexemes.specs.Lexemes.{Lexeme}
use Rattle.lexemes.specs.Events.{Event, acted, named, opened, closed}
use Rattle.machine.proofs.Runs.{gives}
use Rattle.grammar.specs.Grammar.{Items, done, label, action, Blocks, no_blocks, block}
use Rattle.grammar.specs.Trees.{leading, waiting}

module _ {S : Type 0} (emit : Event → S → S) where
  abbrev mutual
    pub emits : Items → S → S
    emits done s = s
    emits (label t x) s = emits x (emit (named t) s)
    emits (action n os bs x) s = emits x (emits_blocks bs os (emit (acted n) s))

    -- blocks, with the operands that are still to be given
    pub emits_blocks : Blocks → List Lexeme → S → S
    emits_blocks no_blocks os s = gives emit os s
    emits_blocks (block p x bs) os s = emits_blocks bs (waiting p os) (emit closed (emits x (emit (opened p) (gives emit (leading p os) s))))
