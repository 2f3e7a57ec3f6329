-- Labels brought together.
use Rattle.std.specs.Prelude.{◌≡◌, Bool, cond, List, [], ◌∷◌, ◌++◌, ℕ, suc, length, take, drop}
use Rattle.entries.specs.Entries.{label_word, label_of}
use Rattle.label_names.specs.Names.{name_of, is_named}

-- one level and one name
unfoldable pub is_same : List ℕ → List ℕ → ℕ → ℕ → Bool
is_same text s w v = is_named text s (label_of w).level (name_of text s w) v

-- v at the position of w
abbrev pub moved : ℕ → ℕ → ℕ
moved w v = label_word (record { level = (label_of v).level; token = (label_of v).token; position = (label_of w).position })

-- the place of the first label that is the same as w, or how many there are
abbrev pub first_same : List ℕ → List ℕ → ℕ → List ℕ → ℕ
first_same text s w [] = 0
first_same text s w (v ∷ vs) = cond (is_same text s w v) 0 (suc (first_same text s w vs))

-- written again, a label keeps its first place and takes the new position
abbrev pub placed : List ℕ → List ℕ → ℕ → List ℕ → List ℕ
placed text s w [] = w ∷ []
placed text s w (v ∷ vs) = cond (is_same text s w v) (moved w v ∷ vs) (v ∷ placed text s w vs)

abbrev pub merged : List ℕ → List ℕ → List ℕ → List ℕ → List ℕ
merged text s out [] = out
merged text s out (w ∷ ws) = merged text s (placed text s w out) ws

-- what `put_label` makes of the first m labels; behind them `out` stays
pub record Placed (text s : List ℕ) (w m : ℕ) (old new : List ℕ) (r : ℕ) : Type 0 where
  pub count : r ≡ length (placed text s w (take m old))
  pub labels : new ≡ placed text s w (take m old) ++ drop (length (placed text s w (take m old))) old

-- what `merge_labels` makes of the words l; behind the labels `out` stays
pub record Merged (text s l old new : List ℕ) (r : ℕ) : Type 0 where
  pub count : r ≡ length (merged text s [] l)
  pub labels : new ≡ merged text s [] l ++ drop (length (merged text s [] l)) old
