-- Levels while they are read: what their word tells, and what it is with one action more. Assumes nothing.
use mathlib.Core.Path.{◌≡◌, refl, sym, ap, subst, ◌∙◌}
use mathlib.Core.Bool.{Bool, true, false, cond}
use mathlib.Core.List.{List, [], ◌∷◌}
use Prim.Native.Nat.{ℕ, zero, suc, ◌+◌, ◌-◌, ◌*◌, ◌/◌, ◌%◌, ◌<◌}
use native.Mathlib.Omega.{arith}
use lib.Dec.{T, ltb}
use lib.IntN.{ℤ, pos, negsuc, ◌+ℤ◌, nat_abs, sub_ℕ}
use lib.ListN.{get_or}
use lib.Signed.{non_neg}
use mir.Syntax.{w64}
use mir.Val.{Fits, SFits, to_z, of_z}
use mir.ValLaws.{to_z-of_z}
use borrow.Author.Tests.{le-ltb, ltb-true, ltb-false}
use Rattle.entries.specs.declared.Net.{Net}
use Rattle.entries.specs.declared.Net.TheVariants as N
use Rattle.entries.specs.declared.Level.{Level}
use Rattle.entries.specs.Entries.{block_number, part_of, block_of, net_number, net_of, level_word, level_words, level_of, level_at, owner_of}
use Rattle.entries.specs.Levels.{with_action, Small, SmallNet, NetFits, SmallLevel}
use Rattle.entries.proofs.Words.{level_back}

-- ---- blocks

pub part-number : (p a : ℕ) → p < 4 → block_number (part_of p a) ≡ a * 4 + p + 1
part-number zero a h = omega arith
part-number (suc zero) a h = omega arith
part-number (suc (suc zero)) a h = omega arith
part-number (suc (suc (suc zero))) a h = omega arith
part-number (suc (suc (suc (suc p)))) a h = absurd (omega arith)

pub number_back : (n : ℕ) → block_number (block_of n) ≡ n
unfolding block_of
number_back zero = refl
number_back (suc n) = omega (arith, part-number (n % 4) (n / 4) (omega arith))

pub part-owner : (p a : ℕ) → owner_of (part_of p a) ≡ a
part-owner zero a = refl
part-owner (suc zero) a = refl
part-owner (suc (suc zero)) a = refl
part-owner (suc (suc (suc p))) a = refl

owner_below : (n : ℕ) → Small n → Small (owner_of (block_of n))
unfolding block_of
owner_below zero h = omega arith
owner_below (suc n) h = omega (arith, part-owner (n % 4) (n / 4))

-- ---- nets

net_in : (n : ℕ) → Small n → SmallNet (net_of n)
unfolding net_of
net_in n h = by (ltb n 524288) refl
  where
    height : (t : Bool) → ltb n 196608 ≡ t → n < 524288 → SmallNet (N.Height (cond t (negsuc (196608 - suc n)) (pos (n - 196608))))
    height true e g = omega arith
    height false e g = omega (arith, ltb-false)

    by : (t : Bool) → ltb n 524288 ≡ t → SmallNet (cond t (N.Height (sub_ℕ n 196608)) (N.Undetermined (n - 524288)))
    by true e = height (ltb n 196608) refl (omega (arith, ltb-true))
    by false e = omega (arith, ltb-false)

-- ---- `net_number`

-- a height 393,216 higher
abbrev lifted : ℤ → ℕ
lifted (pos n) = n + 393216
lifted (negsuc n) = 393215 - n

lifted_sum : (h : ℤ) → NetFits (N.Height h) → h +ℤ pos 393216 ≡ pos (lifted h)
lifted_sum (pos n) g = refl
lifted_sum (negsuc n) g = simp (le-ltb 393216 (suc n) g) (ap pos (omega arith))

lifted_small : (h : ℤ) → NetFits (N.Height h) → lifted h < 1245184
lifted_small (pos n) g = omega arith
lifted_small (negsuc n) g = omega arith

lifted_number : (h : ℤ) → NetFits (N.Height h) → lifted h - 196608 ≡ net_number (N.Height h)
lifted_number (pos n) g = omega arith
lifted_number (negsuc n) g = omega arith

module _ (h : ℤ) (f : SFits w64 h) (net : Net) (e : net ≡ N.Height h) (n : NetFits net) where
  fit : NetFits (N.Height h)
  fit = subst NetFits e n

  abbrev sum : ℤ
  sum = to_z w64 (of_z w64 h) +ℤ pos 393216

  whole : sum ≡ pos (lifted h)
  whole = ap (λ z. z +ℤ pos 393216) (to_z-of_z w64 h f) ∙ lifted_sum h fit

  pub sum_fits : SFits w64 sum
  sum_fits = subst (SFits w64) (sym whole) (record { sfits = omega (arith, lifted_small h fit) })

  kept : to_z w64 (of_z w64 sum) ≡ pos (lifted h)
  kept = to_z-of_z w64 sum sum_fits ∙ whole

  pub sum_back : T (non_neg (to_z w64 (of_z w64 sum))) × Fits w64 (nat_abs (to_z w64 (of_z w64 sum)))
  sum_back = subst (λ z. T (non_neg z) × Fits w64 (nat_abs z)) (sym kept) (tt, record { fits = omega (arith, lifted_small h fit) })

  pub height-number : {r : ℕ} → r ≡ nat_abs (to_z w64 (of_z w64 sum)) - 196608 → (r ≡ net_number net) × Small r
  height-number {r} k =
      let m : r ≡ lifted h - 196608 = k ∙ ap (λ z. nat_abs z - 196608) kept in
      (m ∙ lifted_number h fit ∙ sym (ap net_number e), omega (arith, m, lifted_small h fit))

module _ (a : ℕ) (net : Net) (e : net ≡ N.Undetermined a) (n : NetFits net) where
  pub few-actions : a < 524288
  few-actions = subst NetFits e n

  pub undetermined-number : (524288 + a ≡ net_number net) × Small (524288 + a)
  undetermined-number = (sym (ap net_number e), omega (arith, few-actions))

-- ---- a level's words

pub level-small : (w v : ℕ) → SmallLevel (level_of w v)
level-small w v =
    record {
      owner = owner_below (w / 1099511627776 % 1048576) (omega arith);
      actions = omega arith;
      net = net_in (w % 1048576) (omega arith);
    }

module _ (table : List ℕ) (at : ℕ) where
  pub added : (w v n k : ℕ) (net : Net) → w ≡ get_or table (2 * at) 0 → v ≡ get_or table (2 * at + 1) 0 → n ≡ net_number net
      → ((w % 1152921504606846976 / 1048576 + 1) * 1048576 + n) ∷ (v % 1048576 + k) ∷ [] ≡ level_words (with_action net k (level_at table at))
  unfolding level_at
  added w v n k net e f g =
      let b = number_back (get_or table (2 * at) 0 / 1099511627776 % 1048576) in
      let first : (w % 1152921504606846976 / 1048576 + 1) * 1048576 + n ≡ level_word (with_action net k (level_at table at)) = omega (arith, b, e, g) in
      λ j. first j ∷ (f j % 1048576 + k) ∷ []

  -- a level that was written is read back
  pub read_back : (l : Level) → get_or table (2 * at) 0 ≡ level_word l → get_or table (2 * at + 1) 0 ≡ l.unclosed
      → Small (block_number l.block) → Small l.actions → SmallNet l.net → Small l.unclosed
      → level_at table at ≡ l
  unfolding level_at
  read_back l e f b a n u = (λ j. level_of (e j) (f j)) ∙ level_back l b a n u
