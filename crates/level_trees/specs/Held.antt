-- A table of levels holds a tree: the tree's actions are numbered in written order, an outer action before its body, its blocks as
-- their braces open. What is told of each action is a parameter.
use Rattle.std.specs.Prelude.{◌≡◌, Bool, false, List, ℕ, suc, ◌+◌, eqb}
use Rattle.entries.specs.declared.Block.{Block}
use Rattle.entries.specs.declared.Block.TheVariants as B
use Rattle.entries.specs.Entries.{level_in}
use Rattle.reading.specs.Tables.{part_of}
use Rattle.movies.specs.Movie.{Level, done, action, Blocks, no_blocks, block}
use Rattle.movies.specs.Counts.{own_actions, all_actions, actions_inside, levels_of, levels_in}

-- whether a level is a block of action o
abbrev pub is_block_of : Block → ℕ → Bool
is_block_of B.Top o = false
is_block_of (B.Body a) o = eqb a o
is_block_of (B.Try a) o = eqb a o
is_block_of (B.Catch a) o = eqb a o
is_block_of (B.Finally a) o = eqb a o

module _ {A : Type 0} (levels : List ℕ) (Told : ℕ → A → Blocks A → Type 0) where
  abbrev mutual
    -- what is left of a level: its next action is a, the next level m
    pub HoldsLevel : Level A → ℕ → ℕ → Type 0
    HoldsLevel done a m = Unit {0}
    HoldsLevel (action h bs x) a m =
        Told a h bs × (HoldsBlocks a bs (suc a) m × HoldsLevel x (suc a + actions_inside bs) (m + levels_in bs))

    -- what is left of the blocks of action o; behind them the next level is not its own
    pub HoldsBlocks : ℕ → Blocks A → ℕ → ℕ → Type 0
    HoldsBlocks o no_blocks a m = is_block_of (level_in levels m).block o ≡ false
    HoldsBlocks o (block p x bs) a m =
        ((level_in levels m).block ≡ part_of p o)
        × (((level_in levels m).actions ≡ own_actions x)
        × (HoldsLevel x a (suc m) × HoldsBlocks o bs (a + all_actions x) (suc m + levels_of x)))
