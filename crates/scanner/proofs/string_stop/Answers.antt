-- `scanner::string_stop` meets its contract. Assumes nothing.
use mathlib.Core.Path.{sym, ◌∙◌}
use mathlib.Core.Bool.{false}
use Rattle.scanner.proofs.Runs as laws
use Rattle.scanner.proofs.string_stop.Goals as goal

pub returns-then-is_stop : goal.returns-then-is_stop
returns-then-is_stop c =
    let l = c.loop-i in
    laws.stop-here c.args.s.now l.i l.protected c.loop-i-test.true (sym c.if-is_stop.true ∙ c.is_stop.ensures) ∙ sym l.invariant

pub loop-i-preserved : goal.loop-i-preserved
loop-i-preserved c =
    let l = c.loop-i in
    l.invariant
    ∙ laws.stop_on c.args.s.now l.i l.protected _ c.loop-i-test.true (sym c.if-is_stop.false ∙ c.is_stop.ensures) c.protects-protected.ensures

pub returns : goal.returns
returns c =
    let s = c.args.s.now in
    let l = c.loop-i in
    laws.at_last c.args.from _ l.i _ _ c.max.ensures c.loop-i-test.false l.auto.i-end (laws.stop-last s c.args.from false)
    (laws.stop-last s l.i l.protected c.loop-i-test.false ∙ sym l.invariant)
