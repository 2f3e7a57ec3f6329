-- `words::spelling` meets its contract: the letters are cut where the name starts and where the next one does. Assumes nothing.
use mathlib.Core.Path.{ap, ◌∙◌}
use mathlib.Core.List.{List, [], flatten}
use Prim.Native.Nat.{ℕ, ◌<◌}
use native.Mathlib.Omega.{arith}
use lib.ListN.{get_or, length}
use Rattle.actions.proofs.Numbers.{number_below}
use Rattle.words.specs.Spellings.{all_letters, bytes, spellings, spelling_of}
use Rattle.words.specs.Tables.{cut}
use Rattle.words.proofs.Spellings.{name-cut, starts}
use Rattle.words.proofs.Tables.{Cut, name_at}
use Rattle.words.proofs.spelling.Goals as goal

pub offset_bounds-starts-n : goal.offset_bounds-starts-n
offset_bounds-starts-n c =
    let below : c.action_number-n.result < 100 = omega (arith, c.action_number-n.ensures, number_below c.args.a) in
    omega (arith, below)

pub bounds-starts-n : goal.bounds-starts-n
bounds-starts-n c =
    let below : c.action_number-n.result < 100 = omega (arith, c.action_number-n.ensures, number_below c.args.a) in
    omega (arith, below)

pub overflow_add-end : goal.overflow_add-end
overflow_add-end c =
    let below : c.action_number-n.result < 100 = omega (arith, c.action_number-n.ensures, number_below c.args.a) in
    omega (arith, below)

pub offset_bounds-starts-n-2 : goal.offset_bounds-starts-n-2
offset_bounds-starts-n-2 c =
    let below : c.action_number-n.result < 100 = omega (arith, c.action_number-n.ensures, number_below c.args.a) in
    omega (arith, below)

pub bounds-starts-n-2 : goal.bounds-starts-n-2
bounds-starts-n-2 c =
    let below : c.action_number-n.result < 100 = omega (arith, c.action_number-n.ensures, number_below c.args.a) in
    omega (arith, below)

pub slice_bounds-result-count : goal.slice_bounds-result-count
unfolding starts spellings bytes
slice_bounds-result-count c =
    let below : c.action_number-n.result < 100 = omega (arith, c.action_number-n.ensures, number_below c.args.a) in
    let found : Cut starts all_letters c.action_number-n.result = name-cut c.action_number-n.result below in
    found.ordered

pub slice_bounds-result-start : goal.slice_bounds-result-start
unfolding starts spellings bytes
slice_bounds-result-start c =
    let below : c.action_number-n.result < 100 = omega (arith, c.action_number-n.ensures, number_below c.args.a) in
    let found : Cut starts all_letters c.action_number-n.result = name-cut c.action_number-n.result below in
    found.ordered

pub slice_bounds-result-end : goal.slice_bounds-result-end
unfolding starts spellings bytes all_letters flatten
slice_bounds-result-end c =
    let below : c.action_number-n.result < 100 = omega (arith, c.action_number-n.ensures, number_below c.args.a) in
    let found : Cut starts all_letters c.action_number-n.result = name-cut c.action_number-n.result below in
    let n = ap length c.requires in
    omega (arith, found.inside)

pub returns : goal.returns
unfolding starts spellings bytes spelling_of cut all_letters flatten
returns c =
    let below : c.action_number-n.result < 100 = omega (arith, c.action_number-n.ensures, number_below c.args.a) in
    let found : Cut starts all_letters c.action_number-n.result = name-cut c.action_number-n.result below in
    ap (λ (l : List ℕ). name_at starts l c.action_number-n.result) c.requires
    ∙ found.name
    ∙ ap (λ (k : ℕ). get_or spellings k []) c.action_number-n.ensures
