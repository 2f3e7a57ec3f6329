-- `keywords::named_kind` meets its contract. Assumes nothing.
use mathlib.Core.Path.{ap, ◌∙◌}
use native.Mathlib.Omega.{arith}
use Rattle.tokens.specs.declared.TokenKind.TheVariants as K
use Rattle.keywords.proofs.WordKinds as laws
use Rattle.keywords.proofs.named_kind.Goals as goal

pub returns-in-Some : goal.returns-in-Some
returns-in-Some c = ap K.ActionName c.action_at.ensures ∙ laws.action c.args.w.now c.in-Some.ensures

pub offset_bounds-j : goal.offset_bounds-j
offset_bounds-j c = omega (arith, laws.keyword_below c.args.w.now c.in-Some-find_keyword.ensures)

pub bounds-j-j : goal.bounds-j-j
bounds-j-j c = laws.keyword_below c.args.w.now c.in-Some-find_keyword.ensures

pub returns-in-Some-find_keyword : goal.returns-in-Some-find_keyword
returns-in-Some-find_keyword c = laws.keyword c.args.w.now c.in_default.ensures c.in-Some-find_keyword.ensures

pub returns-in-None : goal.returns-in-None
returns-in-None c = laws.identifier c.args.w.now c.in_default.ensures c.in-None.ensures
