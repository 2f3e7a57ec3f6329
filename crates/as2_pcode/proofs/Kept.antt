-- Every entry of a tree's tables is within its word, and so comes back from it. Assumes nothing.
use mathlib.Core.Path.{◌≡◌, refl, ap, ◌∙◌}
use mathlib.Core.Bool.{Bool, true, false, cond}
use mathlib.Core.List.{List, [], ◌∷◌, ◌++◌, map, Memᴰ}
use mathlib.Core.Option.{Option, none, some}
use Prim.Native.Nat.{ℕ, zero, suc, ◌+◌, ◌*◌, ◌/◌, ◌≤◌, ◌<◌}
use native.Mathlib.Nat.{not-suc-le-zero, le_of_suc-le-suc}
use native.Mathlib.Omega.{arith}
use lib.Dec.{eqb, leb, leb→le}
use lib.IntN.{ℤ, pos, negsuc, neg_ℤ, ◌+ℤ◌}
use lib.ListN.{length, get_or, length-append}
use lib.Signed.{◌≤ℤ◌}
use borrow.Author.Tests.{leb-true, leb-false, eqb-true, eqb-false, lt-ltb}
use Rattle.tokens.specs.declared.Token.{Token}
use Rattle.lexemes.specs.Lexemes.{Lexeme, raw, numbered, same_name}
use Rattle.lexemes.proofs.Tests.{either}
use Rattle.grammar.specs.Grammar.{Items, done, label, action, Blocks, no_blocks, block}
use Rattle.grammar.specs.Reading as R
use Rattle.grammar.specs.Reading.{Opened, Acted, own_actions, own_unclosed, all_actions, actions_inside, opened_of, opened_in, acted_of, acted_in, operands_from, place, own_labels, labels_from}
use Rattle.grammar.specs.Nets.{Net, height, undetermined, moved, net_from, name_is_empty}
use Rattle.pcode.specs.Deltas.{delta_of}
use Rattle.entries.specs.declared.Action as E
use Rattle.entries.specs.declared.Level as L
use Rattle.entries.specs.declared.Net.TheVariants as N
use Rattle.entries.specs.Entries.{block_number, level_word, levels_words, level_of, level_at, level_in}
use Rattle.entries.specs.Levels.{Small, Small17}
use Rattle.entries.proofs.Words.{InRange}
use Rattle.reading.specs.Trees.{All, AllOf, IsLow}
use Rattle.reading.specs.Tables.{under, action_entries, block_of, net_entry, level_entries}
use Rattle.reading.proofs.Runs.{Every, every_append}
use Rattle.reading.proofs.Groups.{GivenAll, NamedLow}
use Rattle.reading.proofs.Words.{ops, ops_append, own-unclosed-few}
use Rattle.reading.proofs.LevelSets.{words-length}
use Rattle.reading.proofs.Writes.{part_most}

-- ---- what comes back from each word of a list comes back from the front of a table

module _ {X Y : Type 0} (back : ℕ → Y) (word : X → ℕ) (of : X → Y) where
  pub mapped_handed : (l : List X) (r : List ℕ) (i : ℕ) (d : Y) → Every (λ (v : X). back (word v) ≡ of v) l → i < length l
      → back (get_or (map word l ++ r) i 0) ≡ get_or (map of l) i d
  mapped_handed [] r i d h g = absurd (not-suc-le-zero g)
  mapped_handed (v ∷ l) r zero d h g = h.0
  mapped_handed (v ∷ l) r (suc i) d h g = mapped_handed l r i d h.1 (le_of_suc-le-suc g)

module _ {Y : Type 0} (back : ℕ → Y) (word : Y → ℕ) where
  pub handed : (l : List Y) (r : List ℕ) (i : ℕ) (d : Y) → Every (λ (v : Y). back (word v) ≡ v) l → i < length l
      → back (get_or (map word l ++ r) i 0) ≡ get_or l i d
  handed [] r i d h g = absurd (not-suc-le-zero g)
  handed (v ∷ l) r zero d h g = h.0
  handed (v ∷ l) r (suc i) d h g = handed l r i d h.1 (le_of_suc-le-suc g)

-- of levels, which take two words
at_next : (w u : ℕ) (t : List ℕ) (i : ℕ) → level_at (w ∷ u ∷ t) (suc i) ≡ level_at t i
unfolding level_at
at_next w u t i =
    let a : 2 * suc i ≡ suc (suc (2 * i)) = omega arith in
    let b : 2 * suc i + 1 ≡ suc (suc (2 * i + 1)) = omega arith in
    λ j. level_of (get_or (w ∷ u ∷ t) (a j) 0) (get_or (w ∷ u ∷ t) (b j) 0)

levels-at : (l : List L.Level) (r : List ℕ) (i : ℕ) (d : L.Level) → Every (λ (v : L.Level). level_of (level_word v) v.unclosed ≡ v) l → i < length l
    → level_at (levels_words l ++ r) i ≡ get_or l i d
unfolding level_at
levels-at [] r i d h g = absurd (not-suc-le-zero g)
levels-at (v ∷ l) r zero d h g = h.0
levels-at (v ∷ l) r (suc i) d h g = at_next (level_word v) v.unclosed (levels_words l ++ r) i ∙ levels-at l r i d h.1 (le_of_suc-le-suc g)

pub levels_in_lem : (l : List L.Level) (r : List ℕ) (i : ℕ) (d : L.Level) → Every (λ (v : L.Level). level_of (level_word v) v.unclosed ≡ v) l → i < length l
    → level_in (levels_words l ++ r) i ≡ get_or l i d
unfolding level_in
levels_in_lem l r i d h g =
    let t = levels_words l ++ r in
    ap (λ (b : Bool). cond b (level_at t i) (level_of 0 0)) (lt-ltb i (length t / 2) (omega (arith, g, words-length l, length-append (levels_words l) r)))
    ∙ levels-at l r i d h g

module _ {X Y : Type 0} (P : Y → Type 0) (f : X → Y) where
  pub every_map : (l : List X) → Every (λ (v : X). P (f v)) l → Every P (map f l)
  every_map [] h = tt
  every_map (v ∷ l) h = (h.0, every_map l h.1)

module _ {X : Type 0} (P Q : X → Type 0) (f : (v : X) → P v → Q v) where
  pub every_weaker : (l : List X) → Every P l → Every Q l
  every_weaker [] h = tt
  every_weaker (v ∷ l) h = (f v h.0, every_weaker l h.1)

-- ---- tokens

pub numbered-length : (text : List ℕ) (ts : List Token) (i : ℕ) → length (numbered i text ts) ≡ length ts
numbered-length text [] i = refl
numbered-length text (t ∷ ts) i = ap suc (numbered-length text ts (suc i))

pub numbered-low : (text : List ℕ) (ts : List Token) (i : ℕ) → i + length ts ≤ 65536 → All IsLow (numbered i text ts)
numbered-low text [] i h = tt
numbered-low text (t ∷ ts) i h = (omega (arith, h), numbered-low text ts (suc i) (omega (arith, h)))

-- ---- operands

abbrev pub LowOperand : R.Operand → Type 0
LowOperand o = Small o.action × IsLow o.token

given-low : (a : ℕ) (os : List Lexeme) → Small a → All IsLow os → Every LowOperand (map (λ (t : Lexeme). record { action = a; token = t }) os)
given-low a [] s h = tt
given-low a (t ∷ os) s h = ((s, h.0), given-low a os s h.1)

pub operands-low : (ls : List Acted) (a : ℕ) → a + length ls ≤ 65536 → Every (GivenAll IsLow) ls → Every LowOperand (operands_from a ls)
operands-low [] a s h = tt
operands-low (l ∷ ls) a s h =
    every_append LowOperand (map (λ (t : Lexeme). record { action = a; token = t }) l.operands) (operands_from (suc a) ls)
    (given-low a l.operands (omega (arith, s)) h.0) (operands-low ls (suc a) (omega (arith, s)) h.1)

-- ---- labels

abbrev pub LowLabel : R.Label → Type 0
LowLabel l = IsLow l.name × Small l.position

place-low : (l : R.Label) (ks : List R.Label) → LowLabel l → Every LowLabel ks → Every LowLabel (place l ks)
place-low l [] h g = (h, tt)
place-low l (k ∷ ks) h g =
    either (Every LowLabel) (same_name (raw l.name) (raw k.name)) _ _ ((g.0.0, h.1), g.1) (g.0, place-low l ks h g.1)

own-low : (x : Items) (ℓ p : ℕ) (ks : List R.Label) → AllOf IsLow x → Small (p + own_actions x) → Every LowLabel ks → Every LowLabel (own_labels ℓ p ks x)
own-low done ℓ p ks h g k = k
own-low (label t x) ℓ p ks h g k =
    let l : R.Label = record { level = ℓ; name = t; position = p } in
    own-low x ℓ p (place l ks) h.1 g (place-low l ks (h.0, omega (arith, g)) k)
own-low (action n os bs x) ℓ p ks h g k = own-low x ℓ (suc p) ks h.1.1 (omega (arith, g)) k

pub labels-low : (ls : List Opened) (ℓ : ℕ) → Every NamedLow ls → Every LowLabel (labels_from ℓ ls)
labels-low [] ℓ h = tt
labels-low (l ∷ ls) ℓ h =
    let g = h.0.1 in
    every_append LowLabel (own_labels ℓ 0 [] l.items) (labels_from (suc ℓ) ls)
    (own-low l.items ℓ 0 [] h.0.0 (omega (arith, g)) tt) (labels-low ls (suc ℓ) h.1)

-- ---- actions

-- how many of the operands are under action a or a later one
abbrev from : ℕ → List R.Operand → ℕ
from a [] = 0
from a (o ∷ os) = cond (leb a o.action) (suc (from a os)) (from a os)

from-few : (a : ℕ) (os : List R.Operand) → from a os ≤ length os
from-few a [] = omega arith
from-few a (o ∷ os) =
    either (λ (n : ℕ). n ≤ suc (length os)) (leb a o.action) _ _ (omega (arith, from-few a os)) (omega (arith, from-few a os))

-- an operand of action b, before others of which f, u and g are counted
one_more : (a b f u g : ℕ) → f ≡ u + g → (p q r : Bool) → leb a b ≡ p → eqb b a ≡ q → leb (suc a) b ≡ r
    → cond p (suc f) f ≡ cond q (suc u) u + cond r (suc g) g
one_more a b f u g e true true true i j k = absurd (omega (arith, eqb-true b a j, leb-true (suc a) b k))
one_more a b f u g e true true false i j k = omega (arith, e)
one_more a b f u g e true false true i j k = omega (arith, e)
one_more a b f u g e true false false i j k = absurd (eqb-false b a j (omega (arith, leb-true a b i, leb-false (suc a) b k)))
one_more a b f u g e false true r i j k = absurd (omega (arith, leb-false a b i, eqb-true b a j))
one_more a b f u g e false false true i j k = absurd (omega (arith, leb-false a b i, leb-true (suc a) b k))
one_more a b f u g e false false false i j k = e

from_suc : (a : ℕ) (os : List R.Operand) → from a os ≡ under a os + from (suc a) os
from_suc a [] = refl
from_suc a (o ∷ os) =
    let b = o.action in
    one_more a b (from a os) (under a os) (from (suc a) os) (from_suc a os) (leb a b) (eqb b a) (leb (suc a) b) refl refl refl

abbrev pub LowAction : E.Action → Type 0
LowAction e = Small17 e.level × (Small17 e.first × Small17 e.count)

abbrev pub LevelLow : R.Action → Type 0
LevelLow v = Small17 v.level

module _ (os : List R.Operand) where
  entries-low : (xs : List R.Action) (a first : ℕ) → Every LevelLow xs → Small17 (first + from a os) → Every LowAction (action_entries a first xs os)
  entries-low [] a first h g = tt
  entries-low (v ∷ xs) a first h g =
      let e = from_suc a os in (
        (h.0, (omega (arith, g), omega (arith, g, e))),
        entries-low xs (suc a) (first + under a os) h.1 (omega (arith, g, e)),
      )

  pub actions-low : (xs : List R.Action) → Every LevelLow xs → Small17 (length os) → Every LowAction (action_entries 0 0 xs os)
  actions-low xs h g = entries-low xs 0 0 h (omega (arith, g, from-few 0 os))

-- ---- levels

-- an undetermined net names one of the actions below M
module _ (M : ℕ) where
  abbrev pub Under : Net → Type 0
  Under (height z) = Unit {0}
  Under (undetermined b) = b < M

  moved-under : (o : Option ℤ) (a : ℕ) (h : ℤ) (rest : ℤ → Net) → a < M → ((g : ℤ) → Under (rest g)) → Under (moved o a h rest)
  moved-under none a h rest k f = k
  moved-under (some d) a h rest k f = f (h +ℤ d)

  pub net-under : (x : Items) (a : ℕ) (h : ℤ) → a + all_actions x ≤ M → Under (net_from a h x)
  net-under done a h g = tt
  net-under (label t x) a h g = net-under x a h g
  net-under (action n os bs x) a h g =
      let b = suc a + actions_inside bs in
      moved-under (delta_of n (length os) (name_is_empty os)) a h (λ q. net_from b q x) (omega (arith, g)) (λ q. net-under x b q (omega (arith, g)))

  -- its actions are below M, its owner is before them, and there are at most K unclosed strings
  module _ (K : ℕ) where
    pub record Numbered (o : Opened) : Type 0 where
      pub actions : o.first + all_actions o.items ≤ M
      pub block : block_number (block_of o.owner) ≤ 4 * o.first
      pub unclosed : own_unclosed o.items ≤ K

    mutual
      pub opened-under : (x : Items) (a ℓ m : ℕ) → a + all_actions x ≤ M → ops (acted_of ℓ m x) ≤ K → Every Numbered (opened_of a x)
      opened-under done a ℓ m h k = tt
      opened-under (label t x) a ℓ m h k = opened-under x a ℓ m h k
      opened-under (action n os bs x) a ℓ m h k =
          let b = suc a + actions_inside bs in
          let m' = m + length (opened_in 0 0 bs) in
          let s = ops_append (acted_in m bs) (acted_of ℓ m' x) in
          every_append Numbered (opened_in a (suc a) bs) (opened_of b x)
          (opened_unders bs a (suc a) m (omega arith) (omega (arith, h)) (omega (arith, k, s))) (opened-under x b ℓ m' (omega (arith, h)) (omega (arith, k, s)))

      opened_unders : (bs : Blocks) (o a m : ℕ) → o < a → a + actions_inside bs ≤ M → ops (acted_in m bs) ≤ K → Every Numbered (opened_in o a bs)
      opened_unders no_blocks o a m l h k = tt
      opened_unders (block p x bs) o a m l h k =
          let b = a + all_actions x in
          let m' = suc m + length (opened_of 0 x) in
          let s = ops_append (acted_of m (suc m) x) (acted_in m' bs) in (
            record {
              actions = omega (arith, h);
              block = omega (arith, l, part_most p o);
              unclosed = omega (arith, k, s, own-unclosed-few x m (suc m));
            },
            every_append Numbered (opened_of a x) (opened_in o b bs) (opened-under x a m (suc m) (omega (arith, h)) (omega (arith, k, s)))
                (opened_unders bs o b m' (omega (arith, l)) (omega (arith, h)) (omega (arith, k, s))),
          )

abbrev pub NetLow : Net → Type 0
NetLow n = InRange (net_entry n)

height-low : (z : ℤ) → (neg_ℤ (pos 196608) ≤ℤ z) × (z ≤ℤ pos 65536) → InRange (N.Height z)
height-low (pos n) h = leb→le n 65536 h.1.le
height-low (negsuc n) h = omega (arith, leb→le n 196607 h.0.le)

pub nets-low : (l : List Net) → ((z : ℤ) → Memᴰ (height z) l → (neg_ℤ (pos 196608) ≤ℤ z) × (z ≤ℤ pos 65536))
    → Every (Under 65536) l → Every NetLow l
nets-low [] f u = tt
nets-low (height z ∷ l) f u = (height-low z (f z (Memᴰ.head refl)), nets-low l (λ q m. f q (Memᴰ.tail m)) u.1)
nets-low (undetermined b ∷ l) f u = (u.0, nets-low l (λ q m. f q (Memᴰ.tail m)) u.1)

abbrev pub LowLevel : L.Level → Type 0
LowLevel v = Small (block_number v.block) × (Small v.actions × (Small v.unclosed × InRange v.net))

abbrev pub CountLow : R.Level → Type 0
CountLow l = Small (block_number (block_of l.owner)) × (Small l.actions × Small l.unclosed)

pub levels-low : (ls : List R.Level) (ns : List Net) → Every CountLow ls → Every NetLow ns → Every LowLevel (level_entries ls ns)
levels-low [] ns h g = tt
levels-low (l ∷ ls) [] h g = tt
levels-low (l ∷ ls) (n ∷ ns) h g = ((h.0.0, (h.0.1.0, (h.0.1.1, g.0))), levels-low ls ns h.1 g.1)
