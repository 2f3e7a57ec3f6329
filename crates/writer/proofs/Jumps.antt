-- The offsets of a level's own jumps, filled in behind its records. Assumes nothing.
use mathlib.Core.Path.{◌≡◌, refl, sym, ap, ◌∙◌}
use mathlib.Core.List.{List, ◌++◌}
use mathlib.Core.Logic.{◌⊎◌, inl, inr}
use Prim.Native.Nat.{ℕ, zero, suc, ◌+◌, ◌*◌, ◌/◌, ◌%◌, ◌≤◌, ◌<◌, min}
use native.Mathlib.Omega.{arith}
use lib.IntN.{sub_ℕ}
use lib.ListN.{length, get_or}
use lib.Seq.{sets}
use Rattle.movies.specs.Counts.{own_actions, all_actions}
use Rattle.action_records.specs.declared.Style.{Style}
use Rattle.action_records.specs.Fields.{two's_complement, is_signed16}
use Rattle.level_trees.specs.Held.{HoldsLevel}
use Rattle.filling.specs.Pieces.{Piece, Tree, start, with16, with_blocks, offset, with_offset, bytes_from, far_jump, far_from}
use Rattle.filling.specs.Filling.{unless, byte_at, action_at, offset_at, aimed, far_at, aim_at, aimed_to, far_to}
use Rattle.writer.specs.Writing.{Tables, Told}
use Rattle.writer.proofs.Sizes.{length-blocks, with_16}
use Rattle.writer.proofs.Levels.{before, partly, jumps_to, first_far, last-aimed, start_past, Own, own}

-- byte and number of own position k
abbrev pub place_of : ℕ → Tree → ℕ → ℕ
place_of a l k = start l k * 1048576 + (a + before l k)

module _ (T : Tables) (y : Style) (l : Tree) (n a m : ℕ) (place : List ℕ) (holds : HoldsLevel T.levels (Told T y) l a m)
    (count : n ≡ own_actions l) (few : a + all_actions l < 1048576) (low : (k : ℕ) → k ≤ n → before l k ≤ all_actions l)
    (placed : (k : ℕ) → k ≤ n → get_or place k 0 ≡ place_of a l k) where
  byte-is : (k : ℕ) → k ≤ n → byte_at place k ≡ start l k
  byte-is k h = let b = low k h in ap (λ (w : ℕ). w / 1048576) (placed k h) ∙ quotient (start l k) (a + before l k) (omega arith)
    where
      quotient : (q r : ℕ) → r < 1048576 → (q * 1048576 + r) / 1048576 ≡ q
      quotient q r h = omega arith

  action-is : (k : ℕ) → k ≤ n → action_at place k ≡ a + before l k
  action-is k h = let b = low k h in ap (λ (w : ℕ). w % 1048576) (placed k h) ∙ rest (start l k) (a + before l k) (omega arith)
    where
      rest : (q r : ℕ) → r < 1048576 → (q * 1048576 + r) % 1048576 ≡ r
      rest q r h = omega arith

  offset-is : (k p : ℕ) → k < n → offset_at place n k p ≡ offset l k p
  offset-is k p h =
      ap (λ (i : ℕ). sub_ℕ (byte_at place (min p n)) i) (byte-is (suc k) (omega arith))
      ∙ ap (λ (i : ℕ). sub_ℕ i (start l (suc k)))
      (byte-is (min p n) (omega arith) ∙ ap (λ (i : ℕ). start l (min p i)) count ∙ start_past l p)

  module _ (x : List ℕ) where
    step : (k aim : ℕ) → k < n → (h : Piece) (R u v : List ℕ) → aim ≡ h.aim → (h.aim ≡ 0) ⊎ (5 ≤ length R) → length u ≡ start l k
        → aimed place n k aim (sets x 0 (u ++ (R ++ v))) ≡ sets x 0 (u ++ (with_offset l k h.aim R ++ v))
    step k zero lt h R u v ea room eu = ap (λ (i : ℕ). sets x 0 (u ++ (with_offset l k i R ++ v))) ea
    step k (suc p) lt h R u v ea room eu =
        ap (λ (i : ℕ). with16 (i + 3) (two's_complement 16 (offset_at place n k p)) (sets x 0 (u ++ (R ++ v)))) (byte-is k (omega arith))
        ∙ ap (λ i. with16 (start l k + 3) (two's_complement 16 i) (sets x 0 (u ++ (R ++ v)))) (offset-is k p lt)
        ∙ with_16 (two's_complement 16 (offset l k p)) (start l k + 3) 3 u R v x (omega (arith, eu)) (five room)
        ∙ ap (λ (i : ℕ). sets x 0 (u ++ (with_offset l k i R ++ v))) ea
      where
        five : (h.aim ≡ 0) ⊎ (5 ≤ length R) → 3 + 2 ≤ length R
        five (inl e) = absurd (omega (arith, ea, e))
        five (inr g) = omega (arith, g)

    far_step : (k aim : ℕ) → k < n → (h : Piece) → aim ≡ h.aim → far_at place n k aim ≡ far_jump l k h.aim (a + before l k)
    far_step k zero lt h ea = ap (λ (i : ℕ). far_jump l k i (a + before l k)) ea
    far_step k (suc p) lt h ea =
        ap (λ i. unless (is_signed16 i) (action_at place k)) (offset-is k p lt)
        ∙ ap (unless (is_signed16 (offset l k p))) (action-is k (omega arith))
        ∙ ap (λ (i : ℕ). far_jump l k i (a + before l k)) ea

    aim-is : (k : ℕ) → k < n → (o : Own T y l 0 a m l k) → aim_at T.aims place k ≡ o.piece.aim
    aim-is k lt o = ap (λ (i : ℕ). get_or T.aims i 0) (action-is k (omega arith)) ∙ sym o.told.aim

    roomy : (k : ℕ) (o : Own T y l 0 a m l k) → (o.piece.aim ≡ 0) ⊎ (5 ≤ length (with_blocks o.blocks o.piece.head))
    roomy k o = by o.told.jump
      where
        by : (o.piece.aim ≡ 0) ⊎ (5 ≤ length o.piece.head) → (o.piece.aim ≡ 0) ⊎ (5 ≤ length (with_blocks o.blocks o.piece.head))
        by (inl e) = inl e
        by (inr g) = inr (omega (arith, g, length-blocks o.blocks o.piece.head))

    pub aimed-first : (k : ℕ) → k ≤ n → aimed_to T.aims place n k (sets x 0 (partly l 0 l 0)) ≡ sets x 0 (partly l 0 l k)
    aimed-first zero h = refl
    aimed-first (suc k) h =
        let o = own T y l 0 a m l k holds (omega arith) in
        let z : 0 + k ≡ k = omega arith in
        ap (aimed place n k (aim_at T.aims place k)) (aimed-first k (omega arith) ∙ ap (sets x 0) o.unmoved)
        ∙ step k (aim_at T.aims place k) (omega arith) o.piece (with_blocks o.blocks o.piece.head) o.front o.behind (aim-is k (omega arith) o) (roomy k o) o.front_long
        ∙ ap (λ (i : ℕ). sets x 0 (o.front ++ (with_offset l i o.piece.aim (with_blocks o.blocks o.piece.head) ++ o.behind))) (sym z)
        ∙ ap (sets x 0) (sym o.moved)

    far_first : (k : ℕ) → k ≤ n → far_to T.aims place n k ≡ jumps_to l 0 a l k
    far_first zero h = sym (first_far l 0 a l)
    far_first (suc k) h =
        let o = own T y l 0 a m l k holds (omega arith) in
        let z : 0 + k ≡ k = omega arith in
        ap (λ (i : ℕ). min i (far_at place n k (aim_at T.aims place k))) (far_first k (omega arith))
        ∙ ap (min (jumps_to l 0 a l k)) (far_step k (aim_at T.aims place k) (omega arith) o.piece (aim-is k (omega arith) o))
        ∙ ap (λ (i : ℕ). min (jumps_to l 0 a l k) (far_jump l i o.piece.aim (a + before l k))) (sym z)
        ∙ sym o.far

    pub all-aimed : aimed_to T.aims place n n (sets x 0 (partly l 0 l 0)) ≡ sets x 0 (bytes_from l 0 l)
    all-aimed = aimed-first n (omega arith) ∙ ap (sets x 0) (last-aimed l 0 a l n (omega arith)).0

    pub all_far : far_to T.aims place n n ≡ far_from l 0 a l
    all_far = far_first n (omega arith) ∙ (last-aimed l 0 a l n (omega arith)).1
