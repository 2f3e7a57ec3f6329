-- Names as a table holds them: their letters one name after another, and where each name starts. Only the contract of
-- `find_between` cites it, and what `Names` says of the tables that it lends.
use Rattle.std.specs.Prelude.{◌≡◌, Bool, true, cond, ◌&&◌, List, [], ◌∷◌, ℕ, zero, suc, ◌+◌, ◌-◌, ◌%◌, leb, ltb, length, take, drop, get_or}
use Rattle.words.specs.Spellings.{spellings}

-- the parts of the letters: from a to the first of the starts, from there to the next, ..
abbrev pub cut_from : ℕ → List ℕ → List ℕ → List (List ℕ)
cut_from a [] l = []
cut_from a (b ∷ o) l = take (b - a) (drop a l) ∷ cut_from b o l

-- the names between each start and the next
unfoldable pub cut : List ℕ → List ℕ → List (List ℕ)
cut [] l = []
cut (a ∷ o) l = cut_from a o l

-- no start is below a or below the one before it, and none is above n
abbrev pub in_order : ℕ → List ℕ → ℕ → Bool
in_order a [] n = true
in_order a (b ∷ o) n = leb a b && leb b n && in_order b o n

-- how many names have a first letter whose number is below j, A and a being 1
abbrev pub names_below : ℕ → List (List ℕ) → ℕ
names_below j [] = 0
names_below j (n ∷ ns) = cond (ltb (get_or n 0 0 % 32) j) 1 0 + names_below j ns

-- that of j and of the k letters behind it
abbrev pub firsts_from : ℕ → ℕ → List (List ℕ) → List ℕ
firsts_from j zero ns = names_below j ns ∷ []
firsts_from j (suc k) ns = names_below j ns ∷ firsts_from (suc j) k ns

-- the tables of the 100 names: the letters cut at the starts are the names, and the names of each letter stand together
pub record Lent (letters starts firsts : List ℕ) : Type 0 where
  pub names : cut starts letters ≡ spellings
  pub ordered : in_order 0 starts (length letters) ≡ true
  pub long : length starts ≡ 101
  pub first : firsts ≡ firsts_from 0 32 spellings
