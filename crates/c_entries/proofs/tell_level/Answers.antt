-- `c_entries::tell_level` meets its contract. Assumes nothing.
use borrow.Author.Rules.{rules}
use mathlib.Core.Path.{ap, ◌∙◌}
use mathlib.Core.List.{[], ◌∷◌}
use lib.ListN.{set}
use lib.Seq.{sets}
use mir.Syntax.{w64}
use mir.Val.{SFits}
use mir.ValLaws.{to_z-of_z}
use Rattle.c_entries.proofs.tell_level.Goals as goal

pub returns : goal.returns
returns c =
    let a = c.args in
    let n = c.net_told-kind in
    let fits : SFits w64 n.result.2 = search rules in
    record {
      out_after = (λ i. sets a.out.now 0
          (c.block_part.ensures i ∷ c.owner_of.ensures i ∷ a.level.actions ∷ n.ensures.0 i ∷ n.ensures.1.0 i ∷ a.level.unclosed ∷ []));
      height_after = ap (set a.height.now 0) (to_z-of_z w64 n.result.2 (fits) ∙ n.ensures.1.1);
    }
