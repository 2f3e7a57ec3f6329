-- The operand entries of a level whose string is not closed: document 02, 'each level counts the unclosed strings among its own actions'
-- operands'.
use Rattle.std.specs.Prelude.{Bool, false, cond, ◌&&◌, List, [], ◌∷◌, ℕ, zero, suc, ◌+◌, eqb}
use Rattle.lexemes.specs.Lexemes.{unclosed}
use Rattle.grammar.specs.Reading.{Action, Operand, Reading}

-- whether level k is that of the action of a number
abbrev pub holds : ℕ → List Action → ℕ → Bool
holds k [] a = false
holds k (c ∷ cs) zero = eqb c.level k
holds k (c ∷ cs) (suc a) = holds k cs a

-- how many entries have the flag, of the actions that pass a test
abbrev pub flagged_of : (ℕ → Bool) → List Operand → ℕ
flagged_of test [] = 0
flagged_of test (o ∷ os) = cond (test o.action && unclosed o.token) 1 0 + flagged_of test os

-- and of the actions of level k
abbrev pub flagged : Reading → ℕ → ℕ
flagged R k = flagged_of (holds k R.actions) R.operands
