-- Counts of a tree that do not depend on numbers. Assumes nothing.
use mathlib.Core.Path.{◌≡◌, refl, ap}
use mathlib.Core.List.{List}
use Prim.Native.Nat.{ℕ, suc, ◌+◌, ◌<◌}
use native.Mathlib.Omega.{arith}
use lib.ListN.{length, length-append}
use Rattle.lexemes.specs.Lexemes.{Lexeme}
use Rattle.lexemes.specs.Events.{Part, body, try, catch, finally}
use Rattle.grammar.specs.Grammar.{Items, done, label, action, Blocks, no_blocks, block}
use Rattle.grammar.specs.Reading.{all_actions, actions_inside, opened_of, opened_in, acted_of, acted_in}
use Rattle.grammar.specs.Trees.{leading, waiting}
use Rattle.operands.specs.Log.{part_number}
use Rattle.grammar.proofs.Sizes.{all_labels, labels_inside}
use Rattle.reading.specs.Trees.{All, IsLow, named_of, named_in}

-- the last action of a level, if it has one
abbrev pub last_of : ℕ → ℕ → Items → ℕ
last_of b a done = b
last_of b a (label t x) = last_of b a x
last_of b a (action n os bs x) = last_of a (suc a + actions_inside bs) x

-- ---- counts do not depend on numbers

mutual
  pub opened-count : (x : Items) (a b : ℕ) → length (opened_of a x) ≡ length (opened_of b x)
  opened-count done a b = refl
  opened-count (label t x) a b = opened-count x a b
  opened-count (action n os bs x) a b =
      simp length-append
      (omega (arith, opened-counts bs a b (suc a) (suc b), opened-count x (suc a + actions_inside bs) (suc b + actions_inside bs)))

  pub opened-counts : (bs : Blocks) (o q a b : ℕ) → length (opened_in o a bs) ≡ length (opened_in q b bs)
  opened-counts no_blocks o q a b = refl
  opened-counts (block p x bs) o q a b =
      simp length-append (omega (arith, opened-count x a b, opened-counts bs o q (a + all_actions x) (b + all_actions x)))

mutual
  pub acted-count : (x : Items) (ℓ m : ℕ) → length (acted_of ℓ m x) ≡ all_actions x
  acted-count done ℓ m = refl
  acted-count (label t x) ℓ m = acted-count x ℓ m
  acted-count (action n os bs x) ℓ m =
      simp length-append (omega (arith, acted-counts bs m, acted-count x ℓ (m + length (opened_in 0 0 bs))))

  pub acted-counts : (bs : Blocks) (m : ℕ) → length (acted_in m bs) ≡ actions_inside bs
  acted-counts no_blocks m = refl
  acted-counts (block p x bs) m =
      simp length-append (omega (arith, acted-count x m (suc m), acted-counts bs (suc m + length (opened_of 0 x))))

mutual
  pub named_count : (x : Items) (ℓ m p : ℕ) → length (named_of ℓ m p x) ≡ all_labels x
  named_count done ℓ m p = refl
  named_count (label t x) ℓ m p = ap suc (named_count x ℓ m p)
  named_count (action n os bs x) ℓ m p =
      simp length-append (omega (arith, named-counts bs m, named_count x ℓ (m + length (opened_in 0 0 bs)) (suc p)))

  named-counts : (bs : Blocks) (m : ℕ) → length (named_in m bs) ≡ labels_inside bs
  named-counts no_blocks m = refl
  named-counts (block p x bs) m =
      simp length-append (omega (arith, named_count x m (suc m) 0, named-counts bs (suc m + length (opened_of 0 x))))

-- ---- operands before a block, and behind it

pub low-leading : (p : Part) (os : List Lexeme) → All IsLow os → All IsLow (leading p os)
low-leading body os h = h
low-leading try os h = tt
low-leading catch os h = h
low-leading finally os h = h

pub low-waiting : (p : Part) (os : List Lexeme) → All IsLow os → All IsLow (waiting p os)
low-waiting body os h = tt
low-waiting try os h = h
low-waiting catch os h = tt
low-waiting finally os h = tt

pub part_below : (p : Part) → part_number p < 4
part_below body = omega arith
part_below try = omega arith
part_below catch = omega arith
part_below finally = omega arith

-- operands stand before a block or behind it
pub parted : (p : Part) (os : List Lexeme) → length (leading p os) + length (waiting p os) ≡ length os
parted body os = omega arith
parted try os = omega arith
parted catch os = omega arith
parted finally os = omega arith
