-- `numbers::far_double` meets its contract. Assumes nothing.
use mathlib.Core.Path.{ap, ◌∙◌}
use lib.IntN.{pos}
use lib.Ieee.{fin}
use Rattle.numbers.specs.declared.Double.TheVariants as D
use Rattle.numbers.specs.Doubles.{up, down}
use Rattle.numbers.specs.Integers.{has_minus}
use Rattle.numbers.proofs.Doubles as laws
use Rattle.numbers.proofs.far_double.Goals as goal

pub returns-then-n-eq0 : goal.returns-then-n-eq0
returns-then-n-eq0 c =
    let a = c.args in
    let s = a.s.now in
    ap D.Is (c.signed.ensures ∙ laws.signed_zero _ ∙ ap (λ t. fin t 0 (pos 0)) c.has_minus.ensures)
    ∙ laws.is_zero (has_minus s) a.n (up s) (down s) c.if-n-eq0.true

pub returns : goal.returns
returns c =
    let a = c.args in
    let s = a.s.now in
    laws.too_far (has_minus s) a.n (up s) (down s) c.if-n-eq0.false (laws.far s c.requires.0 c.requires.1)
