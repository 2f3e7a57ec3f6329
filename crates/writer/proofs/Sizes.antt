-- How long records and levels are, and which numbers tell of no action. Assumes nothing.
use mathlib.Core.Path.{◌≡◌, refl, sym, ap, ◌∙◌}
use mathlib.Core.List.{List, [], ◌++◌}
use Prim.Native.Nat.{ℕ, zero, suc, ◌+◌, ◌-◌, ◌%◌, ◌≤◌, ◌<◌, min}
use native.Mathlib.Omega.{arith}
use lib.ListN.{length, get_or, set, length-append, length-set, get_or-append}
use lib.Seq.{sets, length-sets, set-append_left}
use Rattle.lexemes.specs.Events.{Part, body, try, catch, finally}
use Rattle.reading.specs.Tables.{part_of}
use Rattle.movies.specs.Movie.{done, action, Blocks, no_blocks, block}
use Rattle.movies.specs.Counts.{all_actions}
use Rattle.action_records.specs.Fields.{low_first, two's_complement}
use Rattle.filling.specs.Pieces.{Piece, Tree, size, size_in, with16, with_flag, with_block, with_blocks, offset, with_offset, bytes_from, bytes_in, nobody, big_in}
use Rattle.filling.specs.Filling.{filled}
use Rattle.writer.specs.Writing.{Fits}
use Rattle.filling.proofs.Stores.{sets_in, sets_right, sets-left, set-by}

length_16 : (z n : ℕ) (r : List ℕ) → length (with16 z n r) ≡ length r
length_16 z n r = length-sets r z (low_first 2 n)

length-flag : (k : ℕ) (r : List ℕ) → length (with_flag k r) ≡ length r
length-flag k r = length-set r 3 ((get_or r 3 0 + k) % 256)

pub length-block : (p : Part) (n : ℕ) (r : List ℕ) → length (with_block p n r) ≡ length r
length-block body n r = length_16 (length r - 2) n r
length-block try n r = length_16 4 n r
length-block catch n r = length_16 6 n (with_flag 1 r) ∙ length-flag 1 r
length-block finally n r = length_16 8 n (with_flag 2 r) ∙ length-flag 2 r

pub length-blocks : (bs : Blocks Piece) (r : List ℕ) → length (with_blocks bs r) ≡ length r
length-blocks no_blocks r = refl
length-blocks (block p x bs) r = length-blocks bs (with_block p (size x) r) ∙ length-block p (size x) r

pub length-offset : (l : Tree) (k aim : ℕ) (r : List ℕ) → length (with_offset l k aim r) ≡ length r
length-offset l k zero r = refl
length-offset l k (suc p) r = length_16 3 (two's_complement 16 (offset l k p)) r

mutual
  pub length_from : (l : Tree) (k : ℕ) (x : Tree) → length (bytes_from l k x) ≡ size x
  length_from l k done = refl
  length_from l k (action h bs x) =
      let r = with_offset l k h.aim (with_blocks bs h.head) in
      let i = length-append r (bytes_in bs ++ bytes_from l (suc k) x) in
      let j = length-append (bytes_in bs) (bytes_from l (suc k) x) in
      let e = length-offset l k h.aim (with_blocks bs h.head) ∙ length-blocks bs h.head in
      let f = length_in bs in
      let g = length_from l (suc k) x in
      omega arith

  pub length_in : (bs : Blocks Piece) → length (bytes_in bs) ≡ size_in bs
  length_in no_blocks = refl
  length_in (block p x bs) =
      let i = length-append (bytes_from x 0 x) (bytes_in bs) in
      let f = length_from x 0 x in
      let g = length_in bs in
      omega arith

-- ---- filled in where a record stands in what was stored

pub with_16 : (n k z : ℕ) (u R v x : List ℕ) → k ≡ length u + z → z + 2 ≤ length R
    → with16 k n (sets x 0 (u ++ (R ++ v))) ≡ sets x 0 (u ++ (with16 z n R ++ v))
with_16 n k z u R v x e h =
    sets_in (low_first 2 n) (u ++ (R ++ v)) x k (omega (arith, length-append u (R ++ v), length-append R v))
    ∙ ap (sets x 0) (sets_right u (R ++ v) (low_first 2 n) z k e ∙ ap (λ (l : List ℕ). u ++ l) (sets-left (low_first 2 n) R v z h))

front_16 : (z n : ℕ) (R v x : List ℕ) → z + 2 ≤ length R → with16 z n (sets x 0 (R ++ v)) ≡ sets x 0 (with16 z n R ++ v)
front_16 z n R v x h = with_16 n z z [] R v x (omega arith) h

with_flag_lem : (k : ℕ) (R v x : List ℕ) → 3 < length R → with_flag k (sets x 0 (R ++ v)) ≡ sets x 0 (with_flag k R ++ v)
with_flag_lem k R v x h =
    set-by (λ (b : ℕ). (b + k) % 256) (R ++ v) x 3 (omega (arith, length-append R v))
    ∙ ap (λ (b : ℕ). sets x 0 (set (R ++ v) 3 ((b + k) % 256))) (get_or-append R v 0 3 h)
    ∙ ap (sets x 0) (set-append_left R v 3 ((get_or R 3 0 + k) % 256) h)

pub fills : (p : Part) (o r n : ℕ) (R v x : List ℕ) → length R ≡ r → Fits p r
    → filled (part_of p o) r n (sets x 0 (R ++ v)) ≡ sets x 0 (with_block p n R ++ v)
fills body o r n R v x e f =
    ap (λ (i : ℕ). with16 (i - 2) n (sets x 0 (R ++ v))) (sym e) ∙ front_16 (length R - 2) n R v x (omega arith)
fills try o r n R v x e f = front_16 4 n R v x (omega arith)
fills catch o r n R v x e f =
    ap (with16 6 n) (with_flag_lem 1 R v x (omega arith)) ∙ front_16 6 n (with_flag 1 R) v x (omega (arith, length-flag 1 R))
fills finally o r n R v x e f =
    ap (with16 8 n) (with_flag_lem 2 R v x (omega arith)) ∙ front_16 8 n (with_flag 2 R) v x (omega (arith, length-flag 2 R))

-- ---- the lowest of several, none of which is above `nobody`

pub least-of_three : (a b c : ℕ) → min (min a b) c ≡ min a (min b c)
least-of_three a b c = omega arith

pub least-of_four : (a b c d : ℕ) → min (min a (min b c)) d ≡ min a (min b (min c d))
least-of_four a b c d = least-of_three a (min b c) d ∙ ap (min a) (least-of_three b c d)

pub big_in_lem : (o a : ℕ) (bs : Blocks Piece) → big_in o a bs ≤ nobody
big_in_lem o a no_blocks = omega arith
big_in_lem o a (block p x bs) = let i = big_in_lem o (a + all_actions x) bs in omega arith
