-- The size of a tree and how many entries of each kind it has, against the tokens that it takes. Assumes nothing.
use mathlib.Core.Path.{◌≡◌, subst}
use mathlib.Core.List.{List, [], ◌∷◌, ◌++◌}
use Prim.Native.Nat.{ℕ, zero, suc, ◌+◌, ◌*◌, ◌-◌, ◌≤◌}
use native.Mathlib.Nat.{add-suc, add-zero, suc-add, zero-add}
use native.Mathlib.Omega.{arith}
use lib.ListN.{length, length-append, length-map}
use Rattle.lexemes.specs.Lexemes.{Lexeme, raw, same_name}
use Rattle.lexemes.specs.Operands.{Class}
use Rattle.lexemes.proofs.Tests.{either}
use Rattle.grammar.specs.Grammar.{Items, done, label, action, Blocks, no_blocks, block, Body, Operands, no_operand, last, comma, Newlines, no_newline, newline, Ended, text-ends, line_ends_lem, Level, level, Written, ends, names, acts, Block, braces, Bodies, no_body, one-body, try-body, Catch, no_catch, catches, Finally, no_finally, finishes, Text}
use Rattle.grammar.specs.Reading.{Reading, Label, Opened, Acted, Reads, reading_of, opened_of, opened_in, acted_of, acted_in, all_actions, actions_inside, operands_from, place, own_labels, labels_from}
use Rattle.grammar.specs.Refusals.{Short}
use Rattle.grammar.specs.Trees.{size, sizes}

-- ---- what is derived takes its size

newlines_fit : {ts r : List Lexeme} → Newlines ts r → length r ≤ length ts
newlines_fit no_newline = omega arith
newlines_fit (newline n) = omega (arith, newlines_fit n)

ended_fit : {ts r : List Lexeme} → Ended ts r → length r ≤ length ts
ended_fit text-ends = omega arith
ended_fit (line_ends_lem n) = omega (arith, newlines_fit n)

operands_fit : {cs : List Class} {ts os r : List Lexeme} → Operands cs ts os r → length os + length r ≤ length ts
operands_fit no_operand = omega arith
operands_fit (last h) = omega arith
operands_fit (comma h o) = omega (arith, operands_fit o)

mutual
  pub fits-size : {ts r : List Lexeme} {x : Items} → Level ts x r → size x + length r ≤ length ts
  fits-size (level n w) = omega (arith, newlines_fit n, written_fit w)

  written_fit : {ts r : List Lexeme} {x : Items} → Written ts x r → size x + length r ≤ length ts
  written_fit ends = omega arith
  written_fit (names n w) = omega (arith, newlines_fit n, written_fit w)
  written_fit (acts t o b e w) = omega (arith, operands_fit o, bodies_fit b, ended_fit e, written_fit w)

  block_fit : {ts r : List Lexeme} {x : Items} → Block ts x r → suc (size x) + length r ≤ length ts
  block_fit (braces l) = omega (arith, fits-size l)

  -- what is kept takes the place of the operands
  bodies_fit : {b : Body} {os ts kept r : List Lexeme} {bs : Blocks}
      → Bodies b os ts kept bs r → length kept + sizes bs + length r ≤ length os + length ts
  bodies_fit no_body = omega arith
  bodies_fit (one-body b) = omega (arith, block_fit b)
  bodies_fit (try-body b c) = omega (arith, block_fit b, catch_fit c)

  catch_fit : {os ts kept r : List Lexeme} {bs : Blocks}
      → Catch os ts kept bs r → length kept + sizes bs + length r ≤ length os + length ts
  catch_fit (no_catch f) = omega (arith, finally_fit f)
  catch_fit (catches n b f) = omega (arith, newlines_fit n, block_fit b, finally_fit f)

  finally_fit : {ts r : List Lexeme} {bs : Blocks} → Finally ts bs r → sizes bs + length r ≤ length ts
  finally_fit no_finally = omega arith
  finally_fit (finishes n b) = omega (arith, newlines_fit n, block_fit b)

-- ---- how many entries of each kind a tree has

abbrev mutual
  pub all_operands : Items → ℕ
  all_operands done = 0
  all_operands (label t x) = all_operands x
  all_operands (action n os bs x) = length os + operands_inside bs + all_operands x

  pub operands_inside : Blocks → ℕ
  operands_inside no_blocks = 0
  operands_inside (block p x bs) = all_operands x + operands_inside bs

abbrev mutual
  pub all_labels : Items → ℕ
  all_labels done = 0
  all_labels (label t x) = suc (all_labels x)
  all_labels (action n os bs x) = labels_inside bs + all_labels x

  pub labels_inside : Blocks → ℕ
  labels_inside no_blocks = 0
  labels_inside (block p x bs) = all_labels x + labels_inside bs

abbrev mutual
  pub all_blocks : Items → ℕ
  all_blocks done = 0
  all_blocks (label t x) = all_blocks x
  all_blocks (action n os bs x) = blocks_inside bs + all_blocks x

  pub blocks_inside : Blocks → ℕ
  blocks_inside no_blocks = 0
  blocks_inside (block p x bs) = suc (all_blocks x + blocks_inside bs)

-- ---- each takes two tokens: an action its name and a newline, or the end of the text; an operand itself and the name or the comma
-- before it; a label its name and a colon; a block two braces

-- from ts to r; only where nothing is left is an action ended by the end
pub record Halves (x : Items) (ts r : List Lexeme) : Type 0 where
  pub actions : 2 * all_actions x + length r ≤ length ts + (1 - length r)
  pub operands : 2 * all_operands x + length r ≤ length ts
  pub labels : 2 * all_labels x + length r ≤ length ts
  pub blocks : 2 * all_blocks x + length r ≤ length ts

record HalvesIn (bs : Blocks) (ts r : List Lexeme) : Type 0 where
  actions : 2 * actions_inside bs + length r ≤ length ts
  operands : 2 * operands_inside bs + length r ≤ length ts
  labels : 2 * labels_inside bs + length r ≤ length ts
  blocks : 2 * blocks_inside bs + length r ≤ length ts

-- a block with its level
record HalvesOf (x : Items) (ts r : List Lexeme) : Type 0 where
  actions : 2 * all_actions x + length r ≤ length ts
  operands : 2 * all_operands x + length r ≤ length ts
  labels : 2 * all_labels x + length r ≤ length ts
  blocks : 2 * suc (all_blocks x) + length r ≤ length ts

operands_half : {cs : List Class} {ts os r : List Lexeme} → Operands cs ts os r → (2 * length os + length r ≤ suc (length ts)) × (length r ≤ length ts)
operands_half no_operand = (omega arith, omega arith)
operands_half (last h) = (omega arith, omega arith)
operands_half (comma h o) = let i = operands_half o in (omega (arith, i.0), omega (arith, i.1))

-- one more than is left, but for the end
ended_half : {ts r : List Lexeme} → Ended ts r → suc (length r) ≤ length ts + (1 - length r)
ended_half text-ends = omega arith
ended_half (line_ends_lem n) = omega (arith, newlines_fit n)

mutual
  pub fits_halves : {ts r : List Lexeme} {x : Items} → Level ts x r → Halves x ts r
  fits_halves (level n w) =
      let i = written_half w in
      let f = newlines_fit n in
      record {
        actions = omega (arith, i.actions, f);
        operands = omega (arith, i.operands, f);
        labels = omega (arith, i.labels, f);
        blocks = omega (arith, i.blocks, f);
      }

  written_half : {ts r : List Lexeme} {x : Items} → Written ts x r → Halves x ts r
  written_half ends = record { actions = omega arith; operands = omega arith; labels = omega arith; blocks = omega arith }
  written_half (names n w) =
      let i = written_half w in
      let f = newlines_fit n in
      record {
        actions = omega (arith, i.actions, f);
        operands = omega (arith, i.operands, f);
        labels = omega (arith, i.labels, f);
        blocks = omega (arith, i.blocks, f);
      }
  written_half (acts t o b e w) =
      let i = written_half w in
      let h = operands_half o in
      let j = bodies_half b in
      let f = ended_fit e in
      record {
        actions = omega (arith, i.actions, i.blocks, h.1, j.0.actions, ended_half e);
        operands = omega (arith, i.operands, h.0, j.0.operands, j.1, f);
        labels = omega (arith, i.labels, h.1, j.0.labels, f);
        blocks = omega (arith, i.blocks, h.1, j.0.blocks, f);
      }

  block_half : {ts r : List Lexeme} {x : Items} → Block ts x r → HalvesOf x ts r
  block_half (braces l) =
      let i = fits_halves l in
      record {
        actions = omega (arith, i.actions);
        operands = omega (arith, i.operands);
        labels = omega (arith, i.labels);
        blocks = omega (arith, i.blocks);
      }

  bodies_half : {b : Body} {os ts kept r : List Lexeme} {bs : Blocks} → Bodies b os ts kept bs r → HalvesIn bs ts r × (length kept ≤ length os)
  bodies_half no_body = (record { actions = omega arith; operands = omega arith; labels = omega arith; blocks = omega arith }, omega arith)
  bodies_half (one-body b) =
      let i = block_half b in
      (record { actions = omega (arith, i.actions); operands = omega (arith, i.operands); labels = omega (arith, i.labels); blocks = omega (arith, i.blocks) }, omega arith)
  bodies_half (try-body b c) =
      let i = block_half b in
      let j = catch_half c in (
        record {
          actions = omega (arith, i.actions, j.0.actions);
          operands = omega (arith, i.operands, j.0.operands);
          labels = omega (arith, i.labels, j.0.labels);
          blocks = omega (arith, i.blocks, j.0.blocks);
        },
        j.1,
      )

  catch_half : {os ts kept r : List Lexeme} {bs : Blocks} → Catch os ts kept bs r → HalvesIn bs ts r × (length kept ≤ length os)
  catch_half (no_catch f) = (finally_half f, omega arith)
  catch_half (catches n b f) =
      let m = newlines_fit n in
      let i = block_half b in
      let j = finally_half f in (
        record {
          actions = omega (arith, m, i.actions, j.actions);
          operands = omega (arith, m, i.operands, j.operands);
          labels = omega (arith, m, i.labels, j.labels);
          blocks = omega (arith, m, i.blocks, j.blocks);
        },
        omega arith,
      )

  finally_half : {ts r : List Lexeme} {bs : Blocks} → Finally ts bs r → HalvesIn bs ts r
  finally_half no_finally = record { actions = omega arith; operands = omega arith; labels = omega arith; blocks = omega arith }
  finally_half (finishes n b) =
      let m = newlines_fit n in
      let i = block_half b in
      record {
        actions = omega (arith, m, i.actions);
        operands = omega (arith, m, i.operands);
        labels = omega (arith, m, i.labels);
        blocks = omega (arith, m, i.blocks);
      }

-- ---- the tables of a reading have these counts

-- two runs of actions, and two of levels, one behind the other
operands-append : (a : ℕ) (l k : List Acted)
    → length (operands_from a (l ++ k)) ≡ length (operands_from a l) + length (operands_from (a + length l) k)
operands-append a [] k = rw (add-zero, zero-add)
operands-append a (y ∷ l) k = simp (length-append, operands-append (suc a) l k, add-suc, suc-add) (omega arith)

labels_append : (ℓ : ℕ) (l k : List Opened)
    → length (labels_from ℓ (l ++ k)) ≡ length (labels_from ℓ l) + length (labels_from (ℓ + length l) k)
labels_append ℓ [] k = rw (add-zero, zero-add)
labels_append ℓ (y ∷ l) k = simp (length-append, labels_append (suc ℓ) l k, add-suc, suc-add) (omega arith)

mutual
  -- actions and their operands
  acted-counts : (x : Items) (ℓ m a : ℕ) → (length (acted_of ℓ m x) ≡ all_actions x) × (length (operands_from a (acted_of ℓ m x)) ≡ all_operands x)
  acted-counts done ℓ m a = (omega arith, omega arith)
  acted-counts (label t x) ℓ m a = acted-counts x ℓ m a
  acted-counts (action n os bs x) ℓ m a =
      let l = acted_in m bs in
      let i = acted-inside bs m (suc a) in
      let j = acted-counts x ℓ (m + length (opened_in 0 0 bs)) (suc a + length l) in (
        simp length-append (omega (arith, i.0, j.0)),
        simp (length-append, length-map, operands-append (suc a) l) (omega (arith, i.1, j.1)),
      )

  acted-inside : (bs : Blocks) (m a : ℕ) → (length (acted_in m bs) ≡ actions_inside bs) × (length (operands_from a (acted_in m bs)) ≡ operands_inside bs)
  acted-inside no_blocks m a = (omega arith, omega arith)
  acted-inside (block p x bs) m a =
      let l = acted_of m (suc m) x in
      let i = acted-counts x m (suc m) a in
      let j = acted-inside bs (suc m + length (opened_of 0 x)) (a + length l) in (
        simp length-append (omega (arith, i.0, j.0)),
        simp (operands-append a l) (omega (arith, i.1, j.1)),
      )

-- a label placed is at most one more
place-size : (l : Label) (ks : List Label) → length (place l ks) ≤ suc (length ks)
place-size l [] = omega arith
place-size l (k ∷ ks) =
    either (λ (v : List Label). length v ≤ suc (suc (length ks))) (same_name (raw l.name) (raw k.name)) _ _
    (omega arith) (omega (arith, place-size l ks))

mutual
  -- the levels inside; their labels, and the labels of the level itself beyond those so far
  opened-counts : (x : Items) (a m ℓ p : ℕ) (so_far : List Label)
      → (length (opened_of a x) ≡ all_blocks x) × (length (labels_from m (opened_of a x)) + length (own_labels ℓ p so_far x) ≤ all_labels x + length so_far)
  opened-counts done a m ℓ p so_far = (omega arith, omega arith)
  opened-counts (label t x) a m ℓ p so_far =
      let l : Label = record { level = ℓ; name = t; position = p } in
      let i = opened-counts x a m ℓ p (place l so_far) in
      (i.0, omega (arith, i.1, place-size l so_far))
  opened-counts (action n os bs x) a m ℓ p so_far =
      let l = opened_in a (suc a) bs in
      let i = opened_inside bs a (suc a) m in
      let j = opened-counts x (suc a + actions_inside bs) (m + length l) ℓ (suc p) so_far in (
        simp length-append (omega (arith, i.0, j.0)),
        simp (labels_append m l) (omega (arith, i.1, j.1)),
      )

  opened_inside : (bs : Blocks) (o a m : ℕ)
      → (length (opened_in o a bs) ≡ blocks_inside bs) × (length (labels_from m (opened_in o a bs)) ≤ labels_inside bs)
  opened_inside no_blocks o a m = (omega arith, omega arith)
  opened_inside (block p x bs) o a m =
      let l = opened_of a x in
      let i = opened-counts x a (suc m) m 0 [] in
      let j = opened_inside bs o (a + all_actions x) (suc m + length l) in (
        simp length-append (omega (arith, i.0, j.0)),
        simp (length-append, labels_append (suc m) l) (omega (arith, i.1, j.1)),
      )

pub blocks-opened : (x : Items) (a : ℕ) → length (opened_of a x) ≡ all_blocks x
blocks-opened x a = (opened-counts x a 0 0 0 []).0

-- twice the entries of each kind against the tokens
pub record Counts (ts : List Lexeme) (R : Reading) : Type 0 where
  pub actions : 2 * length R.actions ≤ length ts + 1
  pub operands : 2 * length R.operands ≤ length ts
  pub levels : 2 * length R.levels ≤ length ts + 2
  pub labels : 2 * length R.labels ≤ length ts

tree-counts : {ts : List Lexeme} {x : Items} → Text ts x → Counts ts (reading_of x)
unfolding reading_of
tree-counts {ts} {x} t =
    let h = fits_halves t in
    let a = acted-counts x 0 1 0 in
    let o = opened-counts x 0 1 0 0 [] in
    record {
      actions = simp length-map (omega (arith, h.actions, a.0));
      operands = omega (arith, h.operands, a.1);
      levels = simp length-map (omega (arith, h.blocks, o.0));
      labels = simp length-append (omega (arith, h.labels, o.1));
    }

pub counts : {ts : List Lexeme} {R : Reading} → Reads ts R → Counts ts R
counts {ts} {R} h = subst (λ (r : Reading). Counts ts r) h.told (tree-counts h.fits)

-- tables with a place for every other token, and one for the top level, are never too short
pub ample : {ts : List Lexeme} {R : Reading} (n : ℕ) → Reads ts R → length ts + 2 ≤ 2 * n → (k : ℕ) → ¬ Short (n ∷ n ∷ n ∷ n ∷ []) R k
ample n r h zero s = let c = counts r in omega (arith, c.actions)
ample n r h (suc zero) s = let c = counts r in omega (arith, c.operands)
ample n r h (suc (suc zero)) s = let c = counts r in omega (arith, c.levels)
ample n r h (suc (suc (suc zero))) s = let c = counts r in omega (arith, c.labels)
ample n r h (suc (suc (suc (suc k)))) s = omega arith
