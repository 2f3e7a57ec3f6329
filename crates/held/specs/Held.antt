-- Tables that a call holds itself, to read a text into them, perhaps to refuse it still, and to hand over at the end: what calls
-- over `read` ask for and are told.
use Rattle.std.specs.Prelude.{◌≡◌, List, ◌++◌, ℕ, ◌+◌, ◌*◌, ◌≤◌, length, take, drop}
use Rattle.entries.specs.Entries.{level_places}
use Rattle.reading.specs.Tables.{label_entry_word}
use Rattle.handover.specs.declared.Counts.{Counts}
use Rattle.handover.specs.Reading.{Reading, Tables, ReadsFor}

-- places for the tokens of any text of n bytes that row 1 lets pass: one for each byte
abbrev pub AmpleTokens : ℕ → ℕ → Type 0
AmpleTokens n m = n ≤ 65536 → n ≤ m

-- and for its actions, operands, levels or labels: one for every two bytes, and one more
abbrev pub AmpleEntries : ℕ → ℕ → Type 0
AmpleEntries n m = n ≤ 65536 → n + 2 ≤ 2 * m

pub record Ample (n : ℕ) (h : Tables ℕ) : Type 0 where
  pub tokens : AmpleTokens n (length h.tokens)
  pub actions : AmpleEntries n (length h.actions)
  pub operands : AmpleEntries n (length h.operands)
  pub levels : AmpleEntries n (level_places h.levels)
  pub labels : AmpleEntries n (length h.labels)

-- the answer r to a text for so many places; if it is read, its entries are in the tables h
pub record Holds (room : ℕ) (ps text : List ℕ) (h : Tables ℕ) (r : Reading) : Type 0 where
  pub before : Tables ℕ
  pub reads : ReadsFor label_entry_word room ps text before h r

-- the tables y are as long as the tables x
abbrev pub SameLengths : (x y : Tables ℕ) → Type 0
SameLengths x y =
    (length y.tokens ≡ length x.tokens) × ((length y.actions ≡ length x.actions) × ((length y.operands ≡ length x.operands)
    × ((length y.levels ≡ length x.levels) × (length y.labels ≡ length x.labels))))

-- ---- handing over

-- that many entries have a place in the held tables h and in the lent ones x; a level takes two words
pub record Handable (c : Counts) (h x : Tables ℕ) : Type 0 where
  pub tokens : (c.tokens ≤ length h.tokens) × (c.tokens ≤ length x.tokens)
  pub actions : (c.actions ≤ length h.actions) × (c.actions ≤ length x.actions)
  pub operands : (c.operands ≤ length h.operands) × (c.operands ≤ length x.operands)
  pub levels : (2 * c.levels ≤ length h.levels) × (2 * c.levels ≤ length x.levels)
  pub labels : (c.labels ≤ length h.labels) × (c.labels ≤ length x.labels)
  pub few-levels : c.levels ≤ 65536

-- the lent tables x, with that many entries of the held tables h at the front
abbrev pub handed : Counts → Tables ℕ → Tables ℕ → Tables ℕ
handed c h x =
    record {
      tokens = take c.tokens h.tokens ++ drop c.tokens x.tokens;
      actions = take c.actions h.actions ++ drop c.actions x.actions;
      operands = take c.operands h.operands ++ drop c.operands x.operands;
      levels = take (2 * c.levels) h.levels ++ drop (2 * c.levels) x.levels;
      labels = take c.labels h.labels ++ drop c.labels x.labels;
    }
