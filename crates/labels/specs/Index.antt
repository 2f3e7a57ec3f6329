-- Labels found by an index: buckets by a hash of level and name, and for each bucket a chain of its labels, the last one first.
-- A place of the index holds two numbers, each one more than a label's place, or 0 for none: the low half at a bucket leads to its
-- last label, the high half at a label to the label before it in its bucket.
use Rattle.std.specs.Prelude.{◌≡◌, false, List, [], ◌∷◌, map, ℕ, suc, ◌+◌, ◌*◌, ◌/◌, ◌%◌, ◌≤◌, ◌<◌, length, take, get_or, set}
use Rattle.entries.specs.Entries.{label_of}
use Rattle.label_names.specs.Names.{name_of}
use Rattle.labels.specs.Labels.{is_same, first_same}
use Rattle.labels.specs.declared.Found.{Found}

-- bytes as the digits of a number to the base of the seed, modulo 2^32
abbrev pub hash_on : ℕ → ℕ → List ℕ → ℕ
hash_on seed h [] = h
hash_on seed h (b ∷ bs) = hash_on seed ((h * seed + b) % 4294967296) bs

-- the level before the bytes, and one multiplication more behind them, so that the last byte too reaches the high bits
abbrev pub hash_of : ℕ → ℕ → List ℕ → ℕ
hash_of seed level name = hash_on seed (level + 1) name * seed % 4294967296

-- the high bits of the hash tell which of n buckets
abbrev pub bucket_in : ℕ → ℕ → ℕ → List ℕ → ℕ
bucket_in seed n level name = hash_of seed level name * n / 4294967296

unfoldable pub bucket_of : List ℕ → List ℕ → ℕ → ℕ → ℕ → ℕ
bucket_of text s seed n w = bucket_in seed n (label_of w).level (name_of text s w)

abbrev pub head_of : List ℕ → ℕ → ℕ
head_of index b = get_or index b 0 % 4294967296

abbrev pub next_of : List ℕ → ℕ → ℕ
next_of index j = get_or index j 0 / 4294967296

abbrev pub with_next : List ℕ → ℕ → ℕ → List ℕ
with_next index j c = set index j (get_or index j 0 % 4294967296 + c * 4294967296)

abbrev pub with_head : List ℕ → ℕ → ℕ → List ℕ
with_head index b c = set index b (get_or index b 0 / 4294967296 * 4294967296 + c)

-- the label j before the others of its bucket b
abbrev pub linked : List ℕ → ℕ → ℕ → List ℕ
linked index b j = with_head (with_next index j (head_of index b)) b (j + 1)

-- c leads to the last b among the first m of the buckets bs
pub record Last (bs : List ℕ) (m b c : ℕ) : Type 0 where
  pub inside : c ≤ m
  pub there : (i : ℕ) → c ≡ suc i → get_or bs i 0 ≡ b
  pub none_behind : (i : ℕ) → c ≤ i → i < m → get_or bs i 0 ≡ b → ⊥

-- the chains of labels whose buckets are bs
pub record Chains (bs index : List ℕ) : Type 0 where
  pub heads : (b : ℕ) → b < length index → Last bs (length bs) b (head_of index b)
  pub nexts : (j : ℕ) → j < length bs → Last bs j (get_or bs j 0) (next_of index j)

-- no label is the same as one behind it
abbrev pub Apart : List ℕ → List ℕ → ℕ → List ℕ → Type 0
Apart text s v [] = Unit {0}
Apart text s v (x ∷ xs) = (is_same text s v x ≡ false) × Apart text s v xs

abbrev pub Distinct : List ℕ → List ℕ → List ℕ → Type 0
Distinct text s [] = Unit {0}
Distinct text s (v ∷ vs) = Apart text s v vs × Distinct text s vs

abbrev pub ChainsOf : List ℕ → List ℕ → ℕ → List ℕ → List ℕ → Type 0
ChainsOf text s seed l index = Chains (map (bucket_of text s seed (length index)) l) index

-- the first m words of `out` are labels, none twice, and `index` has their chains
pub record Indexed (text s : List ℕ) (seed m : ℕ) (out index : List ℕ) : Type 0 where
  pub inside : m ≤ length out
  pub room : m < length index
  pub few : length index < 4294967296
  pub distinct : Distinct text s (take m out)
  pub chains : ChainsOf text s seed (take m out) index

-- where w is among the labels l, and its bucket of n
pub record Finds (text s : List ℕ) (seed w : ℕ) (l : List ℕ) (n : ℕ) (r : Found) : Type 0 where
  pub place : r.place ≡ first_same text s w l
  pub bucket : r.bucket ≡ bucket_of text s seed n w
