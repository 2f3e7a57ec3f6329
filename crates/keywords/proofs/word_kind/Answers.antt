-- `keywords::word_kind` meets its contract. Assumes nothing.
use mathlib.Core.Path.{sym, ◌∙◌}
use native.Mathlib.Omega.{arith}
use Rattle.words.specs.Spellings.{bytes}
use Rattle.keywords.proofs.Prefixes.{small}
use Rattle.keywords.proofs.WordKinds as laws
use Rattle.keywords.proofs.word_kind.Goals as goal

pub overflow_cast-result : goal.overflow_cast-result
overflow_cast-result c =
    omega (arith, small _ 65535 _ c.in-Some.n (sym c.number_after-constant.ensures ∙ c.in-Some.is))

pub returns-in-Some : goal.returns-in-Some
unfolding bytes
returns-in-Some c =
    let x = c.number_after-constant in
    laws.constant _ x.result x.ensures c.in-Some.n c.in-Some.is

pub overflow_cast-result-in-Some-register : goal.overflow_cast-result-in-Some-register
overflow_cast-result-in-Some-register c =
    omega (arith, small _ 255 _ c.in-Some-register.n (sym c.number_after-register.ensures ∙ c.in-Some-register.is))

pub returns-in-Some-register : goal.returns-in-Some-register
unfolding bytes
returns-in-Some-register c =
    let y = c.number_after-register in
    let q = c in
    let x = q.number_after-constant in
    laws.register _ x.result x.ensures q.in_default.is y.result y.ensures c.in-Some-register.n c.in-Some-register.is

pub returns : goal.returns
unfolding bytes
returns c =
    let y = c.number_after-register in
    let q = c in
    let x = q.number_after-constant in
    laws.name _ x.result x.ensures q.in_default.is y.result y.ensures
    c.named_kind.result c.in_default-register.is c.named_kind.ensures
