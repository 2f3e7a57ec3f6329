-- What handing labels to a lent table asks and leaves.
use Rattle.std.specs.Prelude.{◌≡◌, List, ℕ, ◌≤◌, ◌<◌, length, take, Option, Some, None}
use Rattle.grouping.specs.Grouping.{Below}
use Rattle.grammar.specs.Grammar.{Items}
use Rattle.grammar.specs.Reading.{reading_of}
use Rattle.counting.specs.declared.Count.{Count}
use Rattle.counting.specs.Counting.{Counted}
use Rattle.parser.specs.Parsed.{log_of}
use Rattle.reading.specs.Tables.{front, label_words}
use Rattle.reading.specs.Told.{Known}

-- the log of a tree, and its counts
pub record Asked (text s log : List ℕ) (n levels : ℕ) : Type 0 where
  pub tree : Items
  pub of : Known text s tree
  pub log-of : log ≡ log_of tree
  pub few : length log ≤ 65536
  pub count : Count
  pub counted : Counted log count
  pub names : n ≡ count.labels
  pub opens : levels ≡ count.levels

pub record Roomy (n levels : ℕ) (named sorted starts : List ℕ) : Type 0 where
  pub for_named : n ≤ length named
  pub for_sorted : n ≤ length sorted
  pub for_levels : levels < length starts
  pub for_index : n ≤ length starts

-- what arranging labels asks: keys below the number of levels, and places
pub record LabelsAsked (n levels : ℕ) (labels sorted starts : List ℕ) : Type 0 where
  pub inside : n ≤ length labels
  pub sorted_room : n ≤ length sorted
  pub starts-room : levels < length starts
  pub index_room : n ≤ length starts
  pub few : n ≤ 65536
  pub keys : Below levels (take n labels)

-- the labels of the reading of x, if there is room for them
unfoldable pub PutOf : Items → List ℕ → List ℕ → Option ℕ → Type 0
PutOf x old new (Some m) = (m ≡ length (reading_of x).labels) × ((m ≤ length old) × (new ≡ front (label_words (reading_of x)) old))
PutOf x old new None = (length old < length (reading_of x).labels) × (new ≡ old)

-- of whatever tree it is the log
abbrev pub Puts : (text s log old new : List ℕ) → Option ℕ → Type 0
Puts text s log old new r = (x : Items) → Known text s x → log ≡ log_of x → PutOf x old new r
