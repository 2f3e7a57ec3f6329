-- How many events of each kind a tree has: the counts of its reading, labels written again counted again. Assumes nothing.
use mathlib.Core.Path.{◌≡◌, refl, ap, ◌∙◌}
use mathlib.Core.Bool.{cond}
use mathlib.Core.List.{List, [], ◌∷◌}
use Prim.Native.Nat.{ℕ, suc, ◌+◌}
use native.Mathlib.Omega.{arith}
use lib.Dec.{eqb}
use lib.ListN.{length, length-append}
use Rattle.actions.specs.Numbers.{number_of}
use Rattle.actions.proofs.Numbers.{number_below}
use Rattle.counting.specs.declared.Count.{Count}
use Rattle.counting.specs.Counting.{count_of, Counted}
use Rattle.lexemes.specs.Lexemes.{Lexeme, place_of}
use Rattle.lexemes.specs.Events.{Event}
use Rattle.lexemes.specs.Events as E
use Rattle.grammar.specs.Grammar.{Items, done, label, action, Blocks, no_blocks, block}
use Rattle.grammar.specs.Reading.{all_actions, actions_inside, opened_of, opened_in, acted_of, acted_in, reading_of}
use Rattle.grammar.specs.Trees.{leading, waiting, events, block-events, givens}
use Rattle.events.specs.Log.{Holdable, log_word}
use Rattle.events.proofs.Words.{kind-is}
use Rattle.operands.specs.Log.{part_number}
use Rattle.parser.specs.Parsed.{log_of}
use Rattle.reading.specs.Trees.{All, AllOf, AllIn, IsLow, named_of, named_in}
use Rattle.reading.proofs.Trees.{opened-count, opened-counts, part_below, low-leading, low-waiting, parted}
use Rattle.reading.proofs.Gathered.{words}
use Rattle.reading.proofs.Words.{ops, ops_append}
use Rattle.reading.proofs.Front.{actions_many, operands_many, levels_many}

-- the words l have so many actions, labels, operands and blocks more than the words k
record Tally (l : List ℕ) (a n o b : ℕ) (k : List ℕ) : Type 0 where
  actions : count_of 0 l ≡ a + count_of 0 k
  labels : count_of 1 l ≡ n + count_of 1 k
  operands : count_of 2 l ≡ o + count_of 2 k
  blocks : count_of 3 l ≡ b + count_of 3 k

none : (l : List ℕ) → Tally l 0 0 0 0 l
none l = record { actions = omega arith; labels = omega arith; operands = omega arith; blocks = omega arith }

both : {l k j : List ℕ} (a n o b a' n' o' b' x y z w : ℕ) → Tally l a n o b k → Tally k a' n' o' b' j → a + a' ≡ x → n + n' ≡ y → o + o' ≡ z → b + b' ≡ w → Tally l x y z w j
both a n o b a' n' o' b' x y z w s t e f g h =
    record {
      actions = omega (arith, s.actions, t.actions);
      labels = omega (arith, s.labels, t.labels);
      operands = omega (arith, s.operands, t.operands);
      blocks = omega (arith, s.blocks, t.blocks);
    }

-- one word, by its kind
abbrev one : ℕ → ℕ → ℕ
one k q = cond (eqb k q) 1 0

word : (k v : ℕ) (l : List ℕ) → Holdable v → Tally (log_word k v ∷ l) (one k 0) (one k 1) (one k 2) (one k 3) l
word k v l h =
    let e = kind-is k v h in
    record {
      actions = ap (λ q. one q 0 + count_of 0 l) e;
      labels = ap (λ q. one q 1 + count_of 1 l) e;
      operands = ap (λ q. one q 2 + count_of 2 l) e;
      blocks = ap (λ q. one q 3 + count_of 3 l) e;
    }

givens_tally : (os : List Lexeme) (k : List Event) → All IsLow os → Tally (words (givens os k)) 0 0 (length os) 0 (words k)
givens_tally [] k h = none (words k)
givens_tally (t ∷ os) k h =
    both 0 0 1 0 0 0 (length os) 0 0 0 (suc (length os)) 0 (word 2 (place_of t) (words (givens os k)) h.0) (givens_tally os k h.1) refl refl (omega arith) refl

mutual
  tally_of : (x : Items) (k : List Event) (ℓ m p : ℕ) → AllOf IsLow x
      → Tally (words (events x k)) (all_actions x) (length (named_of ℓ m p x)) (ops (acted_of ℓ m x)) (length (opened_of 0 x)) (words k)
  tally_of done k ℓ m p h = none (words k)
  tally_of (label t x) k ℓ m p h =
      both 0 1 0 0 (all_actions x) (length (named_of ℓ m p x)) (ops (acted_of ℓ m x)) (length (opened_of 0 x)) _ _ _ _
      (word 1 (place_of t) (words (events x k)) h.0) (tally_of x k ℓ m p h.1) (omega arith) (omega arith) (omega arith) (omega arith)
  tally_of (action n os bs x) k ℓ m p h =
      let m' = m + length (opened_in 0 0 bs) in
      let r = tally_of x k ℓ m' (suc p) h.1.1 in
      let s = tally_in bs os (events x k) m h.0 h.1.0 in
      both 1 0 0 0 (actions_inside bs + all_actions x) (length (named_in m bs) + length (named_of ℓ m' (suc p) x)) (length os + ops (acted_in m bs) + ops (acted_of ℓ m' x))
      (length (opened_in 0 0 bs) + length (opened_of 0 x)) _ _ _ _
      (word 0 (number_of n) (words (block-events bs os (events x k))) (omega (arith, number_below n)))
      (both (actions_inside bs) (length (named_in m bs)) (length os + ops (acted_in m bs)) (length (opened_in 0 0 bs)) (all_actions x) (length (named_of ℓ m' (suc p) x)) (ops (acted_of ℓ m' x)) (length (opened_of 0 x)) _ _ _ _ s r refl refl refl refl)
      (omega arith)
      (omega (arith, length-append (named_in m bs) (named_of ℓ m' (suc p) x)))
      (omega (arith, ops_append (acted_in m bs) (acted_of ℓ m' x)))
      (omega (arith, length-append (opened_in 0 1 bs) (opened_of (1 + actions_inside bs) x), opened-counts bs 0 0 1 0, opened-count x (1 + actions_inside bs) 0))

  tally_in : (bs : Blocks) (os : List Lexeme) (k : List Event) (m : ℕ) → All IsLow os → AllIn IsLow bs
      → Tally (words (block-events bs os k)) (actions_inside bs) (length (named_in m bs)) (length os + ops (acted_in m bs)) (length (opened_in 0 0 bs)) (words k)
  tally_in no_blocks os k m l h =
      both 0 0 (length os) 0 0 0 0 0 _ _ _ _ (givens_tally os k l) (none (words k)) refl refl (omega arith) refl
  tally_in (block p x bs) os k m l h =
      let rest = block-events bs (waiting p os) k in
      let m' = suc m + length (opened_of 0 x) in
      let lead = length (leading p os) in
      let wait = length (waiting p os) in
      let g = givens_tally (leading p os) (E.opened p ∷ events x (E.closed ∷ rest)) (low-leading p os l) in
      let i = word 3 (part_number p) (words (events x (E.closed ∷ rest))) (omega (arith, part_below p)) in
      let t = tally_of x (E.closed ∷ rest) m (suc m) 0 h.0 in
      let c = word 4 0 (words rest) (omega arith) in
      let r = tally_in bs (waiting p os) k m' (low-waiting p os l) h.1 in
      let a = all_actions x in
      let n = length (named_of m (suc m) 0 x) in
      let o = ops (acted_of m (suc m) x) in
      let b = length (opened_of 0 x) in
      let gi = both 0 0 lead 0 0 0 0 1 0 0 lead 1 g i refl refl (omega arith) refl in
      let git = both 0 0 lead 1 a n o b a n (lead + o) (suc b) gi t (omega arith) (omega arith) refl (omega arith) in
      let gitc = both a n (lead + o) (suc b) 0 0 0 0 a n (lead + o) (suc b) git c (omega arith) (omega arith) (omega arith) (omega arith) in
      both a n (lead + o) (suc b) (actions_inside bs) (length (named_in m' bs)) (wait + ops (acted_in m' bs)) (length (opened_in 0 0 bs)) _ _ _ _ gitc r
      refl
      (omega (arith, length-append (named_of m (suc m) 0 x) (named_in m' bs)))
      (omega (arith, ops_append (acted_of m (suc m) x) (acted_in m' bs), parted p os))
      (omega (arith, length-append (opened_of 0 x) (opened_in 0 (0 + all_actions x) bs), opened-counts bs 0 0 (0 + all_actions x) 0))

-- ---- the counts of a tree's log

pub record TreeCounts (x : Items) (c : Count) : Type 0 where
  pub actions : c.actions ≡ length (reading_of x).actions
  pub operands : c.operands ≡ length (reading_of x).operands
  pub levels : c.levels ≡ length (reading_of x).levels
  pub named : c.labels ≡ length (named_of 0 1 0 x)

pub tallied : (log : List ℕ) (c : Count) (x : Items) → AllOf IsLow x → log ≡ log_of x → Counted log c → TreeCounts x c
tallied log c x h e d =
    let t = tally_of x [] 0 1 0 h in
    record {
      actions = d.actions ∙ ap (count_of 0) e ∙ omega (arith, t.actions, actions_many x);
      operands = d.operands ∙ ap (count_of 2) e ∙ omega (arith, t.operands, operands_many x);
      levels = d.levels ∙ ap (λ l. suc (count_of 3 l)) e ∙ omega (arith, t.blocks, levels_many x);
      named = d.labels ∙ ap (count_of 1) e ∙ omega (arith, t.labels);
    }
