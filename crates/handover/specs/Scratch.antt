-- Which of some tables is too short. No public contract cites it.
use Rattle.std.specs.Prelude.{List, ℕ, ◌<◌, length, get_or, Option, Some, None}

-- table k has fewer places than entries
abbrev pub ShortAt : List ℕ → List ℕ → ℕ → Type 0
ShortAt ps es k = get_or ps k 0 < get_or es k 0

-- it is short, and none before it is
pub record Lowest (ps es : List ℕ) (k : ℕ) : Type 0 where
  pub short : ShortAt ps es k
  pub lowest : (j : ℕ) → j < k → ¬ ShortAt ps es j

-- the lowest short table, or that there is none
abbrev pub ShortOf : (ps es : List ℕ) → Option ℕ → Type 0
ShortOf ps es (Some k) = (k < length ps) × Lowest ps es k
ShortOf ps es None = (j : ℕ) → ¬ ShortAt ps es j
