-- The first pass, turn by turn. Assumes nothing.
use mathlib.Core.Path.{◌≡◌, refl, ap, sym, ◌∙◌}
use mathlib.Core.Bool.{Bool, true, false, cond}
use mathlib.Core.List.{List}
use Prim.Native.Nat.{ℕ, suc, ◌+◌, ◌-◌, ◌≤◌, ◌<◌}
use native.Mathlib.Omega.{arith}
use native.Mathlib.Numerals.{add-one}
use lib.Dec.{eqb}
use lib.ListN.{length, take, get_or, set, length-set}
use lib.Seq.{take-length, get_or-set_same, get_or-set_other}
use borrow.Author.Tests.{eqb-true, eqb-false}
use Rattle.std.specs.Prelude.{Result, Ok, Err}
use Rattle.answers.specs.declared.Refusal.{Refusal}
use Rattle.shapes.specs.Shapes.{shape_of}
use Rattle.entries.specs.declared.Action.{Action}
use Rattle.entries.specs.Entries.{action_of}
use Rattle.labels.specs.Index.{Indexed}
use Rattle.labels.specs.declared.Merging.{Merging}
use Rattle.movies.specs.Meaning.{is_jump}
use Rattle.action_records.specs.declared.Style.{Style}
use Rattle.jumps.specs.Aims.{aim_at}
use Rattle.first_pass.specs.First.{or_next, first_from}
use Rattle.first_pass.specs.Faults.{fault_of, aim_for, fault_for, Aimed}

-- ---- one action

-- where it jumps to, found or not
module _ (text s actions operands labels : List ℕ) (i : ℕ) (v : Action) (told : v ≡ action_of (get_or actions i 0)) (b : Bool) (jump : b ≡ is_jump (shape_of v.name)) where
  pub aim-found : b ≡ true → (n k : ℕ) → n ≡ length labels → k ≡ aim_at text s actions operands i (take n labels) → k ≡ aim_for text s actions operands labels i
  unfolding aim_for
  aim-found t n k e h =
      h
      ∙ ap (λ (l : List ℕ). aim_at text s actions operands i l) (ap (λ (j : ℕ). take j labels) e ∙ take-length labels)
      ∙ sym (ap (λ (c : Bool). cond c (aim_at text s actions operands i labels) 0) (ap (λ (w : Action). is_jump (shape_of w.name)) (sym told) ∙ sym jump ∙ t))

  pub aim-none : b ≡ false → 0 ≡ aim_for text s actions operands labels i
  unfolding aim_for
  aim-none t =
      sym (ap (λ (c : Bool). cond c (aim_at text s actions operands i labels) 0) (ap (λ (w : Action). is_jump (shape_of w.name)) (sym told) ∙ sym jump ∙ t))

-- ---- the loop

module _ (f : ℕ → Result (Unit {0}) Refusal) where
  -- n actions, of which i are behind
  left : (i n : ℕ) → i < n → first_from f i (n - i) ≡ or_next (f i) (first_from f (suc i) (n - suc i))
  left i n h = let e : n - i ≡ suc (n - suc i) = omega arith in ap (first_from f i) e

  pub goes_by : (i n : ℕ) → i < n → f i ≡ Ok tt → first_from f (i + 1) (n - (i + 1)) ≡ first_from f i (n - i)
  goes_by i n h e = ap (λ (j : ℕ). first_from f j (n - j)) (add-one i) ∙ sym (left i n h ∙ ap (λ (r : Result (Unit {0}) Refusal). or_next r (first_from f (suc i) (n - suc i))) e)

  pub stops : (i n : ℕ) (r : Refusal) → i < n → f i ≡ Err r → Err r ≡ first_from f i (n - i)
  stops i n r h e = sym (left i n h ∙ ap (λ (q : Result (Unit {0}) Refusal). or_next q (first_from f (suc i) (n - suc i))) e)

  pub ends : (i n : ℕ) → n ≤ i → Ok tt ≡ first_from f i (n - i)
  ends i n z = let e : 0 ≡ n - i = omega (arith, z) in ap (first_from f i) e

pub record Going (text s actions operands labels : List ℕ) (y : Style) (aims₀ index₀ aims index : List ℕ) (t : Merging) (i : ℕ) : Type 0 where
  pub long : length aims ≡ length aims₀
  pub index_long : length index ≡ length index₀
  pub indexed : Indexed text s t.seed t.labels labels index
  pub all : t.labels ≡ length labels
  pub first : first_from (fault_for text s actions operands labels y) i (length actions - i) ≡ first_from (fault_for text s actions operands labels y) 0 (length actions)
  pub aimed : Aimed text s actions operands labels i aims

module _ (text s actions operands labels : List ℕ) (y : Style) (aims₀ index₀ : List ℕ) where
  abbrev f : ℕ → Result (Unit {0}) Refusal
  f = fault_for text s actions operands labels y

  pub begins : (index : List ℕ) (t : Merging) → length index ≡ length index₀ → t.labels ≡ length labels → Indexed text s t.seed t.labels labels index
      → Going text s actions operands labels y aims₀ index₀ aims₀ index t 0
  begins index t long e h =
      record {
        long = refl;
        index_long = long;
        indexed = h;
        all = e;
        first = let z : length actions - 0 ≡ length actions = omega arith in ap (first_from f 0) z;
        aimed = λ i h. absurd (omega (arith, h));
      }

  module _ (aims index : List ℕ) (t : Merging) (i : ℕ) (g : Going text s actions operands labels y aims₀ index₀ aims index t i) (more : i < length actions) (roomy : length actions ≤ length aims₀) where
    pub place-there : i < length aims
    place-there = omega (arith, g.long)

    -- what is told of its fault
    module _ (a : Action) (told : a ≡ action_of (get_or actions i 0)) (aim : ℕ) (aimed : aim ≡ aim_for text s actions operands labels i) (r : Result (Unit {0}) Refusal)
        (fault : r ≡ fault_of y text s operands i a aim) where
      fault-is : r ≡ f i
      unfolding fault_for
      fault-is =
          fault
          ∙ ap (λ (v : Action). fault_of y text s operands i v aim) told
          ∙ ap (fault_of y text s operands i (action_of (get_or actions i 0))) aimed

      pub found_first : (q : Refusal) → r ≡ Err q → Err q ≡ first_from f 0 (length actions)
      found_first q e = stops f i (length actions) q more (sym fault-is ∙ e) ∙ g.first

      aimed_more : Aimed text s actions operands labels (i + 1) (set aims i aim)
      aimed_more j h = by (eqb j i) refl
        where
          by : (b : Bool) → eqb j i ≡ b → get_or (set aims i aim) j 0 ≡ aim_for text s actions operands labels j
          by true e =
              let z = eqb-true j i e in
              ap (λ (q : ℕ). get_or (set aims i aim) q 0) z ∙ get_or-set_same aims i aim 0 place-there ∙ aimed ∙ ap (aim_for text s actions operands labels) (sym z)
          by false e =
              let z = eqb-false j i e in
              get_or-set_other aims i j aim 0 z ∙ g.aimed j (omega (arith, h, z))

      pub goes_on : r ≡ Ok tt → (index' : List ℕ) (t' : Merging) → length index' ≡ length index → Indexed text s t'.seed t'.labels labels index' → t'.labels ≡ length labels
          → Going text s actions operands labels y aims₀ index₀ (set aims i aim) index' t' (i + 1)
      goes_on z index' t' long h e =
          record {
            long = length-set aims i aim ∙ g.long;
            index_long = long ∙ g.index_long;
            indexed = h;
            all = e;
            first = goes_by f i (length actions) more (sym fault-is ∙ z) ∙ g.first;
            aimed = aimed_more;
          }

  module _ (aims index : List ℕ) (t : Merging) (i : ℕ) (g : Going text s actions operands labels y aims₀ index₀ aims index t i) (no_more : length actions ≤ i) where
    pub none_first : Ok tt ≡ first_from f 0 (length actions)
    none_first = ends f i (length actions) no_more ∙ g.first

    pub all-aimed : Aimed text s actions operands labels (length actions) aims
    all-aimed j h = g.aimed j (omega (arith, h, no_more))
