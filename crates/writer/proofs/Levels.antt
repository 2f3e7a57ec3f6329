-- The own actions of a level one after another: what stands before each, and what each adds. Assumes nothing.
use mathlib.Core.Path.{◌≡◌, refl, sym, ap, subst, ◌∙◌}
use mathlib.Core.List.{List, [], ◌++◌, append-nil, append_assoc}
use Prim.Native.Nat.{ℕ, zero, suc, ◌+◌, ◌≤◌, ◌<◌, min}
use native.Mathlib.Omega.{arith}
use lib.ListN.{length, length-append}
use Rattle.movies.specs.Movie.{done, action, Blocks}
use Rattle.movies.specs.Counts.{own_actions, all_actions, actions_inside, levels_of, levels_in}
use Rattle.action_records.specs.declared.Style.{Style}
use Rattle.level_trees.specs.Held.{HoldsLevel, HoldsBlocks}
use Rattle.filling.specs.Pieces.{Piece, Tree, size, size_in, start, with_blocks, with_offset, bytes_from, bytes_in, nobody, far_jump, far_from, big_from, big_in}
use Rattle.writer.specs.Writing.{Tables, Told}
use Rattle.writer.proofs.Sizes.{length-blocks, length_in, length-offset, least-of_three}

-- ---- before own position k: all actions, levels inside, the records with offsets 0, the lowest action of bodies

abbrev pub before : Tree → ℕ → ℕ
before done k = 0
before (action h bs x) zero = 0
before (action h bs x) (suc k) = suc (actions_inside bs + before x k)

abbrev pub levels_before : Tree → ℕ → ℕ
levels_before done k = 0
levels_before (action h bs x) zero = 0
levels_before (action h bs x) (suc k) = levels_in bs + levels_before x k

abbrev pub unaimed : Tree → ℕ → List ℕ
unaimed done k = []
unaimed (action h bs x) zero = []
unaimed (action h bs x) (suc k) = (with_blocks bs h.head ++ bytes_in bs) ++ unaimed x k

abbrev pub big_to : ℕ → Tree → ℕ → ℕ
big_to a done k = nobody
big_to a (action h bs x) zero = nobody
big_to a (action h bs x) (suc k) = min (big_in a (suc a) bs) (big_to (suc a + actions_inside bs) x k)

-- ---- of the part of level l from position i on: the bytes with the offsets of the first k, and the lowest far jump of these

abbrev pub partly : Tree → ℕ → Tree → ℕ → List ℕ
partly l i done k = []
partly l i (action h bs x) zero = with_blocks bs h.head ++ (bytes_in bs ++ partly l (suc i) x zero)
partly l i (action h bs x) (suc k) = with_offset l i h.aim (with_blocks bs h.head) ++ (bytes_in bs ++ partly l (suc i) x k)

abbrev pub jumps_to : Tree → ℕ → ℕ → Tree → ℕ → ℕ
jumps_to l i a done k = nobody
jumps_to l i a (action h bs x) zero = nobody
jumps_to l i a (action h bs x) (suc k) = min (far_jump l i h.aim a) (jumps_to l (suc i) (suc a + actions_inside bs) x k)

-- ---- at position 0, and past the last

pub at_first : (x : Tree) (a : ℕ) → (start x 0 ≡ 0) × ((before x 0 ≡ 0) × ((levels_before x 0 ≡ 0) × ((unaimed x 0 ≡ []) × (big_to a x 0 ≡ nobody))))
at_first done a = (refl, (refl, (refl, (refl, refl))))
at_first (action h bs x) a = (refl, (refl, (refl, (refl, refl))))

pub first_far : (l : Tree) (i a : ℕ) (x : Tree) → jumps_to l i a x 0 ≡ nobody
first_far l i a done = refl
first_far l i a (action h bs x) = refl

pub at_last : (x : Tree) (a k : ℕ) → own_actions x ≤ k
    → (start x k ≡ size x) × ((before x k ≡ all_actions x) × ((levels_before x k ≡ levels_of x) × (big_to a x k ≡ big_from a x)))
at_last done a k h = (refl, (refl, (refl, refl)))
at_last (action q bs x) a zero h = absurd (omega arith)
at_last (action q bs x) a (suc k) h =
    let o = at_last x (suc a + actions_inside bs) k (omega arith) in
    let s = o.0 in
    let b = o.1.0 in
    let l = o.1.1.0 in
    (omega arith, (omega arith, (omega arith, ap (min (big_in a (suc a) bs)) o.1.1.1)))

pub last_unaimed : (l : Tree) (i : ℕ) (x : Tree) (k : ℕ) → own_actions x ≤ k → unaimed x k ≡ partly l i x 0
last_unaimed l i done k h = refl
last_unaimed l i (action q bs x) zero h = absurd (omega arith)
last_unaimed l i (action q bs x) (suc k) h =
    append_assoc (with_blocks bs q.head) (bytes_in bs) (unaimed x k)
    ∙ ap (λ (v : List ℕ). with_blocks bs q.head ++ (bytes_in bs ++ v)) (last_unaimed l (suc i) x k (omega arith))

pub last-aimed : (l : Tree) (i a : ℕ) (x : Tree) (k : ℕ) → own_actions x ≤ k → (partly l i x k ≡ bytes_from l i x) × (jumps_to l i a x k ≡ far_from l i a x)
last-aimed l i a done k h = (refl, refl)
last-aimed l i a (action q bs x) zero h = absurd (omega arith)
last-aimed l i a (action q bs x) (suc k) h =
    let o = last-aimed l (suc i) (suc a + actions_inside bs) x k (omega arith) in (
      ap (λ (v : List ℕ). with_offset l i q.aim (with_blocks bs q.head) ++ (bytes_in bs ++ v)) o.0,
      ap (min (far_jump l i q.aim a)) o.1,
    )

pub start_past : (x : Tree) (k : ℕ) → start x (min k (own_actions x)) ≡ start x k
start_past done k = refl
start_past (action h bs x) zero =
    let e : min 0 (suc (own_actions x)) ≡ 0 = omega arith in
    ap (start (action h bs x)) e
start_past (action h bs x) (suc k) =
    let e : min (suc k) (suc (own_actions x)) ≡ suc (min k (own_actions x)) = omega arith in
    ap (start (action h bs x)) e ∙ ap (λ (i : ℕ). length h.head + (size_in bs + i)) (start_past x k)

pub own_in : (x : Tree) → own_actions x ≤ all_actions x
own_in done = omega arith
own_in (action h bs x) = let i = own_in x in omega arith

-- ---- the own action at position k of x, which is the part of level l from position i on

module _ (T : Tables) (y : Style) where
  pub record Own (l : Tree) (i a m : ℕ) (x : Tree) (k : ℕ) : Type 0 where
    pub piece : Piece
    pub blocks : Blocks Piece
    pub told : Told T y (a + before x k) piece blocks
    pub holds : HoldsBlocks T.levels (Told T y) (a + before x k) blocks (suc (a + before x k)) (m + levels_before x k)
    pub starts : start x (suc k) ≡ start x k + (length piece.head + size_in blocks)
    pub acts : before x (suc k) ≡ before x k + suc (actions_inside blocks)
    pub levs : levels_before x (suc k) ≡ levels_before x k + levels_in blocks
    pub bytes : unaimed x (suc k) ≡ unaimed x k ++ (with_blocks blocks piece.head ++ bytes_in blocks)
    pub big : big_to a x (suc k) ≡ min (big_to a x k) (big_in (a + before x k) (suc (a + before x k)) blocks)
    pub far : jumps_to l i a x (suc k) ≡ min (jumps_to l i a x k) (far_jump l (i + k) piece.aim (a + before x k))
    -- the bytes with k offsets and with one more differ in its record
    pub front : List ℕ
    pub behind : List ℕ
    pub front_long : length front ≡ start x k
    pub unmoved : partly l i x k ≡ front ++ (with_blocks blocks piece.head ++ behind)
    pub moved : partly l i x (suc k) ≡ front ++ (with_offset l (i + k) piece.aim (with_blocks blocks piece.head) ++ behind)
    -- there is room for its bodies
    pub room : own_actions x + actions_inside blocks ≤ all_actions x
    pub acts_in : before x (suc k) ≤ all_actions x
    pub levs_in : levels_before x (suc k) ≤ levels_of x
    pub in_size : start x (suc k) ≤ size x

  pub own : (l : Tree) (i a m : ℕ) (x : Tree) (k : ℕ) → HoldsLevel T.levels (Told T y) x a m → k < own_actions x → Own l i a m x k
  own l i a m done k h lt = absurd (omega arith)
  own l i a m (action q bs x) zero h lt =
      let z = at_first x (suc a + actions_inside bs) in
      let z₀ = z.0 in
      let z₁ = z.1.0 in
      let z₂ = z.1.1.0 in
      let r = own_in x in
      let here : a ≡ a + 0 = omega arith in
      let there : m ≡ m + 0 = omega arith in
      record {
        piece = q;
        blocks = bs;
        told = subst (λ (j : ℕ). Told T y j q bs) here h.0;
        holds =
            subst (λ (j : ℕ). HoldsBlocks T.levels (Told T y) j bs (suc j) (m + 0)) here
            (subst (HoldsBlocks T.levels (Told T y) a bs (suc a)) there h.1.0);
        starts = omega arith;
        acts = omega arith;
        levs = omega arith;
        bytes = ap (λ (v : List ℕ). (with_blocks bs q.head ++ bytes_in bs) ++ v) z.1.1.1.0 ∙ append-nil (with_blocks bs q.head ++ bytes_in bs);
        big =
            ap (min (big_in a (suc a) bs)) z.1.1.1.1 ∙ swapped (big_in a (suc a) bs)
            ∙ ap (λ (j : ℕ). min nobody (big_in j (suc j) bs)) here;
        far =
            ap (min (far_jump l i q.aim a)) (first_far l (suc i) (suc a + actions_inside bs) x) ∙ swapped (far_jump l i q.aim a)
            ∙ ap (λ (j : ℕ). min nobody (far_jump l i q.aim j)) here
            ∙ ap (λ (j : ℕ). min nobody (far_jump l j q.aim (a + 0))) (omega arith);
        front = [];
        behind = bytes_in bs ++ partly l (suc i) x zero;
        front_long = refl;
        unmoved = refl;
        moved =
            ap (λ (j : ℕ). with_offset l j q.aim (with_blocks bs q.head) ++ (bytes_in bs ++ partly l (suc i) x zero)) (omega arith);
        room = omega arith;
        acts_in = omega arith;
        levs_in = omega arith;
        in_size = omega arith;
      }
    where
      swapped : (n : ℕ) → min n nobody ≡ min nobody n
      swapped n = omega arith
  own l i a m (action q bs x) (suc k) h lt =
      let o = own l (suc i) (suc a + actions_inside bs) (m + levels_in bs) x k h.1.1 (omega arith) in
      let here : suc a + actions_inside bs + before x k ≡ a + suc (actions_inside bs + before x k) = omega arith in
      let there : m + levels_in bs + levels_before x k ≡ m + (levels_in bs + levels_before x k) = omega arith in
      let at : suc i + k ≡ i + suc k = omega arith in
      let r = with_offset l i q.aim (with_blocks bs q.head) in
      let f₀ = length-append r (bytes_in bs ++ o.front) in
      let f₁ = length-append (bytes_in bs) o.front in
      let f₂ = length-offset l i q.aim (with_blocks bs q.head) ∙ length-blocks bs q.head in
      let f₃ = length_in bs in
      let f₄ = o.front_long in
      let s = o.starts in
      let ac = o.acts in
      let le = o.levs in
      let o₀ = o.room in
      let o₁ = o.acts_in in
      let o₂ = o.levs_in in
      let o₃ = o.in_size in
      let next = with_blocks o.blocks o.piece.head in
      record {
        piece = o.piece;
        blocks = o.blocks;
        told = subst (λ (j : ℕ). Told T y j o.piece o.blocks) here o.told;
        holds =
            subst (λ (j : ℕ). HoldsBlocks T.levels (Told T y) j o.blocks (suc j) (m + (levels_in bs + levels_before x k))) here
            (subst (HoldsBlocks T.levels (Told T y) (suc a + actions_inside bs + before x k) o.blocks (suc (suc a + actions_inside bs + before x k))) there o.holds);
        starts = omega arith;
        acts = omega arith;
        levs = omega arith;
        bytes =
            ap (λ (v : List ℕ). (with_blocks bs q.head ++ bytes_in bs) ++ v) o.bytes
            ∙ sym (append_assoc (with_blocks bs q.head ++ bytes_in bs) (unaimed x k) (next ++ bytes_in o.blocks));
        big =
            ap (min (big_in a (suc a) bs)) o.big
            ∙ sym (least-of_three (big_in a (suc a) bs) (big_to (suc a + actions_inside bs) x k) (big_in (suc a + actions_inside bs + before x k) (suc (suc a + actions_inside bs + before x k)) o.blocks))
            ∙ ap (λ (j : ℕ). min (min (big_in a (suc a) bs) (big_to (suc a + actions_inside bs) x k)) (big_in j (suc j) o.blocks)) here;
        far =
            ap (min (far_jump l i q.aim a)) o.far
            ∙ sym (least-of_three (far_jump l i q.aim a) (jumps_to l (suc i) (suc a + actions_inside bs) x k) (far_jump l (suc i + k) o.piece.aim (suc a + actions_inside bs + before x k)))
            ∙ ap (λ (j : ℕ). min (min (far_jump l i q.aim a) (jumps_to l (suc i) (suc a + actions_inside bs) x k)) (far_jump l j o.piece.aim (suc a + actions_inside bs + before x k))) at
            ∙ ap (λ (j : ℕ). min (min (far_jump l i q.aim a) (jumps_to l (suc i) (suc a + actions_inside bs) x k)) (far_jump l (i + suc k) o.piece.aim j)) here;
        front = r ++ (bytes_in bs ++ o.front);
        behind = o.behind;
        front_long = omega arith;
        unmoved = ap (λ (v : List ℕ). r ++ (bytes_in bs ++ v)) o.unmoved ∙ regroup r (bytes_in bs) o.front (next ++ o.behind);
        moved =
            ap (λ (v : List ℕ). r ++ (bytes_in bs ++ v))
            (o.moved ∙ ap (λ (j : ℕ). o.front ++ (with_offset l j o.piece.aim next ++ o.behind)) at)
            ∙ regroup r (bytes_in bs) o.front (with_offset l (i + suc k) o.piece.aim next ++ o.behind);
        room = omega arith;
        acts_in = omega arith;
        levs_in = omega arith;
        in_size = omega arith;
      }
    where
      regroup : (u v w z : List ℕ) → u ++ (v ++ (w ++ z)) ≡ (u ++ (v ++ w)) ++ z
      regroup u v w z = ap (λ (s : List ℕ). u ++ s) (sym (append_assoc v w z)) ∙ sym (append_assoc u (v ++ w) z)
