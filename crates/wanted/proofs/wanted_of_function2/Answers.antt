-- `wanted::wanted_of_function2` meets its contract. Assumes nothing.
use borrow.Author.Rules.{rules}
use mathlib.Core.Path.{sym, ◌∙◌}
use mathlib.Core.List.{[], ◌∷◌, ◌++◌}
use lib.ListN.{replicate}
use Rattle.wanted.proofs.Numbered.{behind, front, flag, before-pairs}
use Rattle.wanted.specs.declared.Wanted.TheVariants as W
use Rattle.wanted.specs.Wanted.{wanted_at, pairs}
use Rattle.wanted.proofs.wanted_of_function2.Goals as goal

pub wanted_of_pair-requires : goal.wanted_of_pair-requires
unfolding wanted_at
wanted_of_pair-requires c =
    search rules

pub returns-then-number-ge12 : goal.returns-then-number-ge12
unfolding wanted_at
returns-then-number-ge12 c =
    let a = c.args in c.wanted_of_pair.ensures ∙ sym (behind before-pairs (pairs a.count) a.number c.if-number-ge12.true)

pub returns-then-number-ge3 : goal.returns-then-number-ge3
unfolding wanted_at
returns-then-number-ge3 c =
    let a = c.args in sym (flag a.number a.count c.if-number-ge3.true c.if-number-ge12.false)

pub of_three-requires : goal.of_three-requires
unfolding wanted_at
of_three-requires c =
    search rules

pub returns : goal.returns
unfolding wanted_at
returns c =
    let a = c.args in c.of_three.ensures ∙ sym (front (W.String ∷ W.Count ∷ W.U8 ∷ []) (replicate 9 W.Flag ++ pairs a.count) a.number c.if-number-ge3.false)
