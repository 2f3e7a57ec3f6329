-- The bytes of a tree of records: each with its bodies behind it, the sizes of its bodies and the offset of its jump filled in, and the
-- lowest action with a size or an offset out of its field. No public contract cites it.
use Rattle.std.specs.Prelude.{cond, List, [], ◌++◌, ℕ, zero, suc, ◌+◌, ◌-◌, ◌%◌, min, ℤ, length, get_or, set}
use Rattle.std.proofs.Math.IntN.{sub_ℕ}
use Rattle.std.proofs.lemmas.List.Edits.{sets}
use Rattle.lexemes.specs.Events.{Part, body, try, catch, finally}
use Rattle.movies.specs.Movie.{Level, done, action, Blocks, no_blocks, block}
use Rattle.movies.specs.Counts.{all_actions, actions_inside}
use Rattle.action_records.specs.Fields.{low_first, two's_complement, is16, is_signed16}

-- a record whose sizes and offset are 0, and where it jumps to: one more than the position in its level, 0 for nowhere
pub record Piece : Type 0 where
  pub head : List ℕ
  pub aim : ℕ

abbrev pub Tree : Type 0
Tree = Level Piece

-- ---- where records stand

abbrev mutual
  pub size : Tree → ℕ
  size done = 0
  size (action h bs x) = length h.head + (size_in bs + size x)

  pub size_in : Blocks Piece → ℕ
  size_in no_blocks = 0
  size_in (block p x bs) = size x + size_in bs

-- the bytes of a level before its position p
abbrev pub start : Tree → ℕ → ℕ
start done p = 0
start (action h bs x) zero = 0
start (action h bs x) (suc p) = length h.head + (size_in bs + start x p)

-- ---- what is filled in

-- a 16-bit number at byte z of a record
abbrev pub with16 : ℕ → ℕ → List ℕ → List ℕ
with16 z n r = sets r z (low_first 2 n)

-- a flag of a Try
abbrev pub with_flag : ℕ → List ℕ → List ℕ
with_flag k r = set r 3 ((get_or r 3 0 + k) % 256)

-- the size of a block; a catch and a finally block have a flag too
abbrev pub with_block : Part → ℕ → List ℕ → List ℕ
with_block body n r = with16 (length r - 2) n r
with_block try n r = with16 4 n r
with_block catch n r = with16 6 n (with_flag 1 r)
with_block finally n r = with16 8 n (with_flag 2 r)

abbrev pub with_blocks : Blocks Piece → List ℕ → List ℕ
with_blocks no_blocks r = r
with_blocks (block p x bs) r = with_blocks bs (with_block p (size x) r)

-- from the end of the jump at position k of a level to its position p
abbrev pub offset : Tree → ℕ → ℕ → ℤ
offset l k p = sub_ℕ (start l p) (start l (suc k))

abbrev pub with_offset : Tree → ℕ → ℕ → List ℕ → List ℕ
with_offset l k zero r = r
with_offset l k (suc p) r = with16 3 (two's_complement 16 (offset l k p)) r

-- ---- the bytes

abbrev mutual
  -- of level l from position k on
  pub bytes_from : Tree → ℕ → Tree → List ℕ
  bytes_from l k done = []
  bytes_from l k (action h bs x) = with_offset l k h.aim (with_blocks bs h.head) ++ (bytes_in bs ++ bytes_from l (suc k) x)

  pub bytes_in : Blocks Piece → List ℕ
  bytes_in no_blocks = []
  bytes_in (block p x bs) = bytes_from x 0 x ++ bytes_in bs

-- ---- the lowest action with a size or an offset out of its field

-- more than any action's number
abbrev pub nobody : ℕ
nobody = 1048576

abbrev pub far_jump : Tree → ℕ → ℕ → ℕ → ℕ
far_jump l k zero a = nobody
far_jump l k (suc p) a = cond (is_signed16 (offset l k p)) nobody a

-- of the jumps of level l itself, from position k and action a on
abbrev pub far_from : Tree → ℕ → ℕ → Tree → ℕ
far_from l k a done = nobody
far_from l k a (action h bs x) = min (far_jump l k h.aim a) (far_from l (suc k) (suc a + actions_inside bs) x)

abbrev mutual
  -- of bodies, and of all inside them
  pub big_from : ℕ → Tree → ℕ
  big_from a done = nobody
  big_from a (action h bs x) = min (big_in a (suc a) bs) (big_from (suc a + actions_inside bs) x)

  -- of the blocks of action o
  pub big_in : ℕ → ℕ → Blocks Piece → ℕ
  big_in o a no_blocks = nobody
  big_in o a (block p x bs) =
      min (cond (is16 (size x)) nobody o) (min (min (far_from x 0 a x) (big_from a x)) (big_in o (a + all_actions x) bs))

-- of a level
abbrev pub late : ℕ → Tree → ℕ
late a x = min (far_from x 0 a x) (big_from a x)
