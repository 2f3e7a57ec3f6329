-- `lookups::target_of` meets its contract. The invariant: what is left to search decides. Assumes nothing.
use native.Mathlib.Omega.{arith}
use Rattle.lookups.proofs.Targets as laws
use Rattle.lookups.proofs.target_of.Goals as goal

pub loop-word-init : goal.loop-word-init
loop-word-init c =
    laws.all _ _ _ _ _

pub returns-then-is_named : goal.returns-then-is_named
returns-then-is_named c =
    let a = c.args in
    let l = c.loop-word in
    laws.found a.text.now a.tokens.now a.level a.name.now a.labels.now l.word-index l.invariant (omega arith) _ _ c.if-is_named.true c.is_named.ensures c.label_of-label.ensures

pub loop-word-preserved : goal.loop-word-preserved
loop-word-preserved c =
    let a = c.args in
    let l = c.loop-word in
    laws.goes_on a.text.now a.tokens.now a.level a.name.now a.labels.now l.word-index l.invariant (omega arith) _ c.if-is_named.false c.is_named.ensures

pub returns : goal.returns
returns c =
    let a = c.args in
    let l = c.loop-word in
    laws.ends a.text.now a.tokens.now a.level a.name.now a.labels.now l.word-index l.invariant (omega arith)
