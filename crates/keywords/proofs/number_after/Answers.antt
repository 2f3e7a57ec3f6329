-- `keywords::number_after` meets its contract. Assumes nothing.
use borrow.Author.Tests.{not-true, not-false}
use mathlib.Core.Path.{sym, ◌∙◌}
use native.Mathlib.Omega.{arith}
use lib.ListN.{length-take}
use Rattle.keywords.proofs.Prefixes as laws
use Rattle.keywords.proofs.number_after.Goals as goal

pub returns-then-w-n : goal.returns-then-w-n
returns-then-w-n c = let a = c.args in laws.too_short a.prefix.now a.top a.w.now c.if-w-n.true

pub slice_bounds-same_word-end : goal.slice_bounds-same_word-end
slice_bounds-same_word-end c =
    simp length-take (omega arith)

pub returns-then-not-same_word : goal.returns-then-not-same_word
returns-then-not-same_word c =
    let a = c.args in
    laws.no_prefix a.prefix.now a.top a.w.now (sym (not-true _ c.if-not-same_word.true-raw) ∙ c.same_word.ensures)

pub returns : goal.returns
returns c =
    let a = c.args in
    laws.behind a.prefix.now a.top a.w.now c.parse_natural.result
    (sym (not-false _ c.if-not-same_word.false-raw) ∙ c.same_word.ensures) c.parse_natural.ensures
