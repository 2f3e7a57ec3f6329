-- `entries::level_at` meets its contract. Assumes nothing.
use mathlib.Core.Path.{sym, subst, ◌∙◌}
use Rattle.entries.specs.Entries.{level_of, level_at}
use Rattle.entries.specs.Levels.{SmallLevel}
use Rattle.entries.proofs.Levels.{level-small}
use Rattle.entries.proofs.level_at.Goals as goal

pub returns : goal.returns
unfolding level_at
returns c =
    record { value = c.level_of.ensures ∙ (λ j. level_of (c.word_at.ensures j) (c.word_at-2.ensures j)); small_level = subst SmallLevel (sym c.level_of.ensures) (level-small _ _) }
