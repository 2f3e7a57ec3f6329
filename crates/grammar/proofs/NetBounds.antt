-- The net of a level, where it is determined, is from -3 to 1 times the number of tokens. Assumes nothing.
use mathlib.Core.Path.{◌≡◌, refl, sym, subst}
use mathlib.Core.Logic.{⊎_elim}
use mathlib.Core.Bool.{Bool, true, false, cond}
use mathlib.Core.List.Memᴰ
use mathlib.Core.List.{List, [], ◌∷◌, map, Memᴰ}
use mathlib.Core.Option.{Option, none, some}
use Prim.Native.Nat.{ℕ, suc, ◌+◌, ◌*◌, ◌-◌, ◌≤◌, ◌<◌}
use native.Mathlib.Omega.{arith}
use lib.Dec.{ltb, le→leb}
use lib.IntN.{ℤ, pos, negsuc, neg_ℤ, ◌+ℤ◌, sub_ℕ}
use lib.ListN.{length}
use lib.Signed.{◌≤ℤ◌, le_z_yes}
use borrow.Author.Tests.{ltb-true}
use Rattle.names.specs.declared.ActionName.{ActionName}
use Rattle.names.specs.declared.ActionName.TheVariants as A
use Rattle.actions.specs.Numbers.{is_action, one_of}
use Rattle.pcode.specs.Deltas.{delta_of, fixed_delta, plus_one, minus_one, minus_two, minus_three, undetermined, functions}
use Rattle.lexemes.specs.Lexemes.{Lexeme}
use Rattle.lexemes.proofs.Tests.{either}
use Rattle.grammar.specs.Grammar.{Items, done, label, action, Blocks, no_blocks, block}
use Rattle.grammar.specs.Reading.{Opened, opened, opened_of, opened_in, actions_inside, all_actions}
use Rattle.grammar.specs.Nets.{Net, height, undetermined as no-height, Nets, nets, net_from, moved, name_is_empty}
use Rattle.grammar.specs.Trees.{size, sizes}
use Rattle.grammar.proofs.Sizes.{fits-size}

-- ---- sums

-- from -3s to s: one token raises the height by at most 1 and lowers it by at most 3
abbrev Within : ℕ → ℤ → Type 0
Within s (pos n) = n ≤ s
Within s (negsuc n) = n < 3 * s

difference : (s a b : ℕ) → a ≤ s → b ≤ 3 * s → Within s (sub_ℕ a b)
difference s a b h k = by_order (ltb a b) refl
  where
    by_order : (c : Bool) → ltb a b ≡ c → Within s (cond c (negsuc (b - suc a)) (pos (a - b)))
    by_order true e = omega (arith, ltb-true)
    by_order false e = omega arith

sum : (s t : ℕ) (z d : ℤ) → Within s z → Within t d → Within (s + t) (z +ℤ d)
sum s t (pos a) (pos b) h k = omega arith
sum s t (pos a) (negsuc b) h k = difference (s + t) a (suc b) (omega arith) (omega arith)
sum s t (negsuc a) (pos b) h k = difference (s + t) b (suc a) (omega arith) (omega arith)
sum s t (negsuc a) (negsuc b) h k = omega arith

widen : (s t : ℕ) (z : ℤ) → s ≤ t → Within s z → Within t z
widen s t (pos n) h k = omega arith
widen s t (negsuc n) h k = omega arith

-- ---- the delta of an action

-- within, if it is determined at all
abbrev Known : ℕ → Option ℤ → Type 0
Known s none = Unit {0}
Known s (some d) = Within s d

fixed_within : (s : ℕ) (a : ActionName) → Within (suc s) (fixed_delta a)
unfolding fixed_delta
fixed_within s a =
    either (Within (suc s)) (one_of a plus_one) _ _ (omega arith)
    (either (Within (suc s)) (one_of a minus_one) _ _ (omega arith)
    (either (Within (suc s)) (one_of a minus_two) _ _ (omega arith)
    (either (Within (suc s)) (one_of a minus_three) _ _ (omega arith) (omega arith))))

delta-within : (a : ActionName) (values : ℕ) (empty : Bool) → Known (suc values) (delta_of a values empty)
unfolding delta_of
delta-within a values empty =
    either (Known (suc values)) (one_of a undetermined) _ _ tt
    (either (Within (suc values)) (is_action a A.Push) _ _ (omega arith)
    (either (Within (suc values)) (one_of a functions) _ _
    (either (Within (suc values)) empty _ _ (omega arith) (omega arith))
    (fixed_within values a)))

-- ---- the net of a level

abbrev Bounded : ℕ → Net → Type 0
Bounded s (height z) = Within s z
Bounded s (no-height a) = Unit {0}

module _ (s : ℕ) where
  -- after an action, where the claim holds of the rest of its level
  moved-within : (o : Option ℤ) (d a : ℕ) (h : ℤ) (rest : ℤ → Net) → Known d o
      → ((g : ℤ) → Within d g → Bounded s (rest (h +ℤ g))) → Bounded s (moved o a h rest)
  moved-within none d a h rest k f = tt
  moved-within (some g) d a h rest k f = f g k

  -- from a height that is within t
  net-within : (x : Items) (a t : ℕ) (h : ℤ) → t + size x ≤ s → Within t h → Bounded s (net_from a h x)
  net-within done a t h l w = widen t s h (omega arith) w
  net-within (label n x) a t h l w = net-within x a t h (omega arith) w
  net-within (action n os bs x) a t h l w =
      let d = suc (length os) in
      moved-within (delta_of n (length os) (name_is_empty os)) d a h (λ g. net_from (suc a + actions_inside bs) g x)
      (delta-within n (length os) (name_is_empty os))
      (λ g k. net-within x (suc a + actions_inside bs) (t + d) (h +ℤ g) (omega arith) (sum t d h g w k))

  mutual
    -- a level inside is no larger
    inside : (x : Items) (a : ℕ) (o : Opened) → size x ≤ s → Memᴰ o (opened_of a x) → size o.items ≤ s
    inside done a o l m = absurd (Memᴰ.not-nil m)
    inside (label t x) a o l m = inside x a o (omega arith) m
    inside (action n os bs x) a o l m =
        ⊎_elim (λ k. insides bs a (suc a) o (omega arith) k) (λ k. inside x (suc a + actions_inside bs) o (omega arith) k)
        (Memᴰ.append_cases (opened_in a (suc a) bs) m)

    insides : (bs : Blocks) (i a : ℕ) (o : Opened) → sizes bs ≤ s → Memᴰ o (opened_in i a bs) → size o.items ≤ s
    insides no_blocks i a o l m = absurd (Memᴰ.not-nil m)
    insides (block p x bs) i a o l (Memᴰ.head e) = rw e (omega arith)
    insides (block p x bs) i a o l (Memᴰ.tail m) =
        ⊎_elim (λ k. inside x a o (omega arith) k) (λ k. insides bs i (a + all_actions x) o (omega arith) k)
        (Memᴰ.append_cases (opened_of a x) m)

  -- a height among the nets of small levels
  each : (ls : List Opened) (z : ℤ) → ((o : Opened) → Memᴰ o ls → size o.items ≤ s)
      → Memᴰ (height z) (map (λ (l : Opened). net_from l.first (pos 0) l.items) ls) → Within s z
  each [] z f m = absurd (Memᴰ.not-nil m)
  each (o ∷ ls) z f (Memᴰ.head e) =
      subst (Bounded s) (sym e) (net-within o.items o.first 0 (pos 0) (omega (arith, f o (Memᴰ.head refl))) (omega arith))
  each (o ∷ ls) z f (Memᴰ.tail m) = each ls z (λ k n. f k (Memᴰ.tail n)) m

  tree-within : (x : Items) (z : ℤ) → size x ≤ s → Memᴰ (height z) (nets x) → Within s z
  unfolding nets
  tree-within x z l m = each (opened x) z at_level m
    where
      at_level : (o : Opened) → Memᴰ o (opened x) → size o.items ≤ s
      at_level o (Memᴰ.head e) = rw e l
      at_level o (Memᴰ.tail k) = inside x 0 o l k

in_bounds : (z : ℤ) → Within 65536 z → (neg_ℤ (pos 196608) ≤ℤ z) × (z ≤ℤ pos 65536)
in_bounds (pos n) h = (le_z_yes tt, le_z_yes (le→leb n 65536 h))
in_bounds (negsuc n) h = (le_z_yes (le→leb n 196607 (omega arith)), le_z_yes tt)

pub nets_bounded : {ts : List Lexeme} {l : List Net} → Nets ts l → length ts ≤ 65536 → (z : ℤ) → Memᴰ (height z) l
    → (neg_ℤ (pos 196608) ≤ℤ z) × (z ≤ℤ pos 65536)
nets_bounded h f z m = in_bounds z (tree-within 65536 h.tree z (omega (arith, fits-size h.fits)) (rw (← h.told) at m))
