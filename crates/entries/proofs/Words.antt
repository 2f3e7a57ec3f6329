-- Blocks and nets of a number, by what was tested; every entry comes back from its word. Assumes nothing.
use mathlib.Core.Path.{◌≡◌, refl, sym, ap, subst, ◌∙◌}
use mathlib.Core.Bool.{Bool, true, false}
use Prim.Native.Nat.{ℕ, zero, suc, ◌+◌, ◌-◌, ◌*◌, ◌/◌, ◌%◌, ◌≤◌, ◌<◌}
use native.Mathlib.Omega.{arith}
use lib.IntN.{pos, negsuc, neg_ℤ, ◌-ℤ◌, sub_ℕ}
use lib.Signed.{mag}
use mir.Syntax.{w64}
use mir.Val.{SFits, to_z, of_z}
use mir.ValLaws.{to_z_pos, to_z-of_z}
use borrow.Author.Tests.{lt-ltb, le-ltb}
use Rattle.laws.proofs.Integers.{zero_sub}
use Rattle.actions.specs.Numbers.{number_of}
use Rattle.actions.proofs.Numbers.{action-number}
use Rattle.entries.specs.declared.Action.{Action}
use Rattle.entries.specs.declared.Operand.{Operand}
use Rattle.entries.specs.declared.Block.{Block}
use Rattle.entries.specs.declared.Block.TheVariants as B
use Rattle.entries.specs.declared.Net.{Net}
use Rattle.entries.specs.declared.Net.TheVariants as N
use Rattle.entries.specs.declared.Level.{Level}
use Rattle.entries.specs.declared.Label.{Label}
use Rattle.entries.specs.Entries.{action_word, action_of, operand_word, operand_of, block_number, part_of, block_of, net_number, net_of, level_word, level_of, label_word, label_of}
use Rattle.entries.specs.Levels.{Small, Small17, SmallNet}

-- ---- blocks

top : (n : ℕ) → n ≡ 0 → B.Top ≡ block_of n
unfolding block_of
top n e = simp e

part : (n p : ℕ) (b : Block) → ¬ (n ≡ 0) → (n - 1) % 4 ≡ p → b ≡ part_of p ((n - 1) / 4) → b ≡ block_of n
unfolding block_of
part zero p b h e f = absurd (h refl)
part (suc n) p b h e f =
    let a : suc n - 1 ≡ n = omega arith in
    f ∙ simp (sym e, a)

pub block_back : (b : Block) → block_of (block_number b) ≡ b
block_back B.Top = sym (top 0 refl)
block_back (B.Body a) = sym (part (a * 4 + 1) 0 (B.Body a) (λ e. omega arith) (omega arith) (ap B.Body (omega arith)))
block_back (B.Try a) = sym (part (a * 4 + 2) 1 (B.Try a) (λ e. omega arith) (omega arith) (ap B.Try (omega arith)))
block_back (B.Catch a) = sym (part (a * 4 + 3) 2 (B.Catch a) (λ e. omega arith) (omega arith) (ap B.Catch (omega arith)))
block_back (B.Finally a) = sym (part (a * 4 + 4) 3 (B.Finally a) (λ e. omega arith) (omega arith) (ap B.Finally (omega arith)))

-- ---- nets

neg_small : (n : ℕ) → n ≤ 196608 → mag (neg_ℤ (pos n)) < 196608
neg_small zero g = omega arith
neg_small (suc n) g = omega arith

module _ (n : ℕ) (h : n ≤ 196608) where
  taken : pos 0 -ℤ to_z w64 n ≡ neg_ℤ (pos n)
  taken = ap (λ z. pos 0 -ℤ z) (to_z_pos w64 n (omega arith)) ∙ zero_sub n

  pub neg_fits : SFits w64 (pos 0 -ℤ to_z w64 n)
  neg_fits = subst (SFits w64) (sym taken) (record { sfits = omega (arith, neg_small n h) })

  negated : to_z w64 (of_z w64 (pos 0 -ℤ to_z w64 n)) ≡ neg_ℤ (pos n)
  negated = to_z-of_z w64 (pos 0 -ℤ to_z w64 n) neg_fits ∙ taken

below : (n : ℕ) → n < 196608 → neg_ℤ (pos (196608 - n)) ≡ sub_ℕ n 196608
below n h = by (196608 - n) refl
  where
    by : (d : ℕ) → 196608 - n ≡ d → neg_ℤ (pos d) ≡ sub_ℕ n 196608
    by zero e = absurd (omega arith)
    by (suc d) e = simp (lt-ltb n 196608 h) (ap negsuc (omega arith))

module _ (n : ℕ) where
  pub negative : n < 196608 → N.Height (to_z w64 (of_z w64 (pos 0 -ℤ to_z w64 (196608 - n)))) ≡ net_of n
  unfolding net_of
  negative h = simp (lt-ltb n 524288 (omega arith)) (ap N.Height (negated (196608 - n) (omega arith) ∙ below n h))

  pub positive : 196608 ≤ n → n < 524288 → N.Height (to_z w64 (n - 196608)) ≡ net_of n
  unfolding net_of
  positive g h = simp (lt-ltb n 524288 h, le-ltb n 196608 g) (ap N.Height (to_z_pos w64 (n - 196608) (omega arith)))

  pub undetermined : 524288 ≤ n → N.Undetermined (n - 524288) ≡ net_of n
  unfolding net_of
  undetermined g = simp (le-ltb n 524288 g)

-- heights and action numbers within document 01's limits
abbrev pub InRange : Net → Type 0
InRange (N.Height (pos n)) = n ≤ 65536
InRange (N.Height (negsuc n)) = n < 196608
InRange (N.Undetermined a) = a < 65536

pub in_range : (t : Net) → InRange t → SmallNet t
in_range (N.Height (pos n)) h = omega arith
in_range (N.Height (negsuc n)) h = omega arith
in_range (N.Undetermined a) h = omega arith

pub net_back : (t : Net) → SmallNet t → net_of (net_number t) ≡ t
unfolding net_of
net_back (N.Height (pos n)) h =
    simp (lt-ltb (196608 + n) 524288 (omega arith), le-ltb (196608 + n) 196608 (omega arith)) (ap (λ (k : ℕ). N.Height (pos k)) (omega arith))
net_back (N.Height (negsuc n)) h =
    simp (lt-ltb (196607 - n) 524288 (omega arith), lt-ltb (196607 - n) 196608 (omega arith)) (ap (λ (k : ℕ). N.Height (negsuc k)) (omega arith))
net_back (N.Undetermined a) h = simp (le-ltb (524288 + a) 524288 (omega arith)) (ap N.Undetermined (omega arith))

pub net-small : (t : Net) → SmallNet t → Small (net_number t)
net-small (N.Height (pos n)) h = omega arith
net-small (N.Height (negsuc n)) h = omega arith
net-small (N.Undetermined a) h = omega arith

-- ---- the words

pub action_back : (a : Action) → Small17 a.level → Small17 a.first → Small17 a.count → action_of (action_word a) ≡ a
action_back a h f k =
    let w = action_word a in
    let n : w / 2251799813685248 ≡ number_of a.name = omega arith in
    let l : w / 17179869184 % 131072 ≡ a.level = omega arith in
    let i : w / 131072 % 131072 ≡ a.first = omega arith in
    let c : w % 131072 ≡ a.count = omega arith in
    simp (n, l, i, c, action-number a.name)

bit : (q r : ℕ) → r < 2 → (q * 2 + r) % 2 ≡ r
bit q r h = omega arith

pub operand_back : (o : Operand) → Small o.action → Small o.token → operand_of (operand_word o) ≡ o
operand_back o h k = by o.unclosed
  where
    by : (b : Bool)
        → operand_of (operand_word (record { action = o.action; token = o.token; unclosed = b })) ≡ record { action = o.action; token = o.token; unclosed = b }
    by true =
        let w = o.action * 1099511627776 + 1048576 + o.token in
        let a : w / 1099511627776 % 1048576 ≡ o.action = omega arith in
        let t : w % 1048576 ≡ o.token = omega arith in
        let q : w / 1048576 ≡ o.action * 524288 * 2 + 1 = omega arith in
        let u : w / 1048576 % 2 ≡ 1 = ap (λ n. n % 2) q ∙ bit (o.action * 524288) 1 (omega arith) in
        simp (a, t, u)
    by false =
        let w = o.action * 1099511627776 + 0 + o.token in
        let a : w / 1099511627776 % 1048576 ≡ o.action = omega arith in
        let t : w % 1048576 ≡ o.token = omega arith in
        let q : w / 1048576 ≡ o.action * 524288 * 2 + 0 = omega arith in
        let u : w / 1048576 % 2 ≡ 0 = ap (λ n. n % 2) q ∙ bit (o.action * 524288) 0 (omega arith) in
        simp (a, t, u)

pub level_back : (l : Level) → Small (block_number l.block) → Small l.actions → SmallNet l.net → Small l.unclosed → level_of (level_word l) l.unclosed ≡ l
level_back l g h r k =
    let s = net-small l.net r in
    let w = level_word l in
    let b : w / 1099511627776 % 1048576 ≡ block_number l.block = omega arith in
    let c : w / 1048576 % 1048576 ≡ l.actions = omega arith in
    let n : w % 1048576 ≡ net_number l.net = omega arith in
    let u : l.unclosed % 1048576 ≡ l.unclosed = omega arith in
    simp (b, c, n, u, block_back l.block, net_back l.net r)

low : (q r : ℕ) → r < 1048576 → ((q * 1048576 + r) / 1048576 ≡ q) × ((q * 1048576 + r) % 1048576 ≡ r)
low q r h = (omega arith, omega arith)

pub label_back : (l : Label) → Small l.token → Small l.position → label_of (label_word l) ≡ l
label_back l h p =
    let q = l.level * 1048576 + l.position in
    let e : label_word l ≡ q * 1048576 + l.token = omega arith in
    let d = low q l.token h in
    let f : label_word l / 1048576 ≡ q = ap (λ n. n / 1048576) e ∙ d.0 in
    let t : label_word l % 1048576 ≡ l.token = ap (λ n. n % 1048576) e ∙ d.1 in
    let i : label_word l / 1048576 % 1048576 ≡ l.position = ap (λ n. n % 1048576) f ∙ (low l.level l.position p).1 in
    let v : label_word l / 1099511627776 ≡ l.level = omega arith in
    simp (v, t, i)
