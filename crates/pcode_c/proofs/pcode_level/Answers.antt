-- `pcode_c::pcode_level` meets its contract. Assumes nothing.
use borrow.Author.Rules.{rules}
use mathlib.Core.Path.{ap, ◌∙◌}
use Rattle.entries.specs.declared.Level.{Level}
use Rattle.entries.specs.Entries.{level_at}
use Rattle.c_entries.specs.Entries.{level_after, height_after}
use Rattle.pcode_c.proofs.pcode_level.Goals as goal

pub returns : goal.returns
unfolding level_at
returns c =
    let a = c.args in
    let l = c.level_of.ensures in record { out_after = c.tell_level.ensures.out_after ∙ ap (λ (x : Level). level_after x a.out.now) l; height_after = c.tell_level.ensures.height_after ∙ ap (λ (x : Level). height_after x a.height.now) l }
