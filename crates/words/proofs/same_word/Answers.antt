-- `words::same_word` meets its contract. Assumes nothing.
use borrow.Author.Tests.{eqb-true, eqb-false}
use mathlib.Core.Path.{sym}
use native.Mathlib.Omega.{arith}
use Rattle.words.proofs.Words as laws
use Rattle.words.proofs.same_word.Goals as goal

pub returns-then-w-n : goal.returns-then-w-n
returns-then-w-n c = laws.same_differ _ _ c.if-w-n.true

pub returns-then-not-same_letter : goal.returns-then-not-same_letter
returns-then-not-same_letter c =
    laws.same_not _ _ _ c.loop-i.invariant (omega arith) (omega arith) (eqb-false _ _ (sym c.if-not-same_letter.ensures))

pub loop-i-preserved : goal.loop-i-preserved
loop-i-preserved c = laws.same_on _ _ _ c.loop-i.invariant (omega arith) (omega arith) (eqb-true _ _ (sym c.if-not-same_letter.ensures))

pub returns : goal.returns
returns c = laws.same_end _ _ c.loop-i.i c.loop-i.invariant (omega arith) (omega arith)
