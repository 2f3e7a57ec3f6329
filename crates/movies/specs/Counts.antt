-- How many actions and levels a tree of levels has.
use Rattle.std.specs.Prelude.{ℕ, suc, ◌+◌}
use Rattle.movies.specs.Movie.{Level, done, action, Blocks, no_blocks, block}

module _ {A : Type 0} where
  -- the actions of a level, bodies not counted
  abbrev pub own_actions : Level A → ℕ
  own_actions done = 0
  own_actions (action h bs x) = suc (own_actions x)

  abbrev mutual
    -- all actions, bodies counted
    pub all_actions : Level A → ℕ
    all_actions done = 0
    all_actions (action h bs x) = suc (actions_inside bs + all_actions x)

    pub actions_inside : Blocks A → ℕ
    actions_inside no_blocks = 0
    actions_inside (block p x bs) = all_actions x + actions_inside bs

  abbrev mutual
    -- the levels inside a level
    pub levels_of : Level A → ℕ
    levels_of done = 0
    levels_of (action h bs x) = levels_in bs + levels_of x

    pub levels_in : Blocks A → ℕ
    levels_in no_blocks = 0
    levels_in (block p x bs) = suc (levels_of x + levels_in bs)
