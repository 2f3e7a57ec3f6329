-- `numbers::short_double` meets its contract. Assumes nothing.
use mathlib.Core.Path.{ap, ◌∙◌}
use Rattle.numbers.specs.declared.Double.TheVariants as D
use Rattle.numbers.specs.Doubles.{signed}
use Rattle.numbers.proofs.Doubles as laws
use Rattle.numbers.proofs.short_double.Goals as goal

pub returns-then-n-eq0 : goal.returns-then-n-eq0
returns-then-n-eq0 c =
    let a = c.args in
    ap D.Is (c.signed.ensures ∙ laws.signed_zero a.negative) ∙ laws.is_zero a.negative a.n a.up a.down c.if-n-eq0.true

pub returns-then-down-up : goal.returns-then-down-up
returns-then-down-up c =
    let a = c.args in
    laws.too_far a.negative a.n a.up a.down c.if-n-eq0.false
    (laws.up_far a.negative a.n a.up a.down c.if-down-up.true)

pub returns-then-up-down : goal.returns-then-up-down
returns-then-up-down c =
    let a = c.args in
    laws.too_far a.negative a.n a.up a.down c.if-n-eq0.false
    (laws.down_far a.negative a.n a.up a.down c.if-up-down.true)

pub returns : goal.returns
returns c =
    let a = c.args in
    ap D.Is (c.signed-2.ensures ∙ ap (signed a.negative) c.scaled.ensures)
    ∙ laws.short a.negative a.n a.up a.down c.if-n-eq0.false
    c.requires.0 c.if-down-up.false c.if-up-down.false
