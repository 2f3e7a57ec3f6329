-- `numbers::is_exponent` meets its contract. Assumes nothing.
use borrow.Author.Tests.{not-true, not-false}
use mathlib.Core.Path.{◌≡◌, ap, ◌∙◌}
use native.Mathlib.Omega.{arith}
use lib.ListN.{get_or}
use Rattle.numbers.specs.Doubles.{is_e}
use Rattle.numbers.proofs.Doubles as laws
use Rattle.numbers.proofs.is_exponent.Goals as goal

pub returns-then-not-is_e : goal.returns-then-not-is_e
returns-then-not-is_e c =
    let a = c.args in
    laws.no_exponent a.s.now a.i _ (c.is_e.ensures ∙ ap is_e c.byte_at.ensures)
    (not-true _ c.if-not-is_e.true-raw)

pub slice_bounds-is_natural-count : goal.slice_bounds-is_natural-count
slice_bounds-is_natural-count c =
    let at_e : c.is_e.result ≡ is_e (get_or c.args.s.now c.args.i 0) = c.is_e.ensures ∙ ap is_e c.byte_at.ensures in
    let a = c.args in
    omega (arith, c.sign_end-digits.ensures, laws.sign_inside a.s.now a.i _ (at_e) (not-false _ c.if-not-is_e.false-raw))

pub slice_bounds-is_natural-start : goal.slice_bounds-is_natural-start
slice_bounds-is_natural-start = slice_bounds-is_natural-count

pub returns : goal.returns
returns c =
    let at_e : c.is_e.result ≡ is_e (get_or c.args.s.now c.args.i 0) = c.is_e.ensures ∙ ap is_e c.byte_at.ensures in
    let a = c.args in
    laws.an_exponent a.s.now a.i _ (at_e) (not-false _ c.if-not-is_e.false-raw) _ _
    c.sign_end-digits.ensures c.is_natural.ensures
