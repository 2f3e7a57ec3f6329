-- `scanner::run_end` meets its contract. Assumes nothing.
use borrow.Author.Rules.{rules}
use mathlib.Core.Path.{sym, ◌∙◌}
use Rattle.scanner.proofs.Runs as laws
use Rattle.scanner.proofs.run_end.Goals as goal

pub returns-then-not-passes : goal.returns-then-not-passes
returns-then-not-passes g c p h =
    laws.run-stop p _ _ c.loop-i-test.true (sym (h _ _ (search rules) c.if-not-passes.ensures)) ∙ sym (c.loop-i.invariant p h)

pub loop-i-preserved : goal.loop-i-preserved
loop-i-preserved g c p h =
    c.loop-i.invariant p h ∙ laws.run_on p _ _ c.loop-i-test.true (sym (h _ _ (search rules) c.if-not-passes.ensures))

pub returns : goal.returns
returns g c p h =
    laws.at_last c.args.from _ c.loop-i.i _ _ c.max.ensures c.loop-i-test.false c.loop-i.auto.i-end (laws.run-last p c.args.s.now c.args.from)
    (laws.run-last p c.args.s.now c.loop-i.i c.loop-i-test.false ∙ sym (c.loop-i.invariant p h))
