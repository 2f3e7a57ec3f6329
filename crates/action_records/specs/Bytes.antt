-- The records of a movie (document 02, §2): its actions in written order, an outer action before its body.
use Rattle.std.specs.Prelude.{cond, List, [], ◌∷◌, ◌++◌, ℕ, zero, suc, ◌+◌, leb, ℤ, pos, length}
use Rattle.std.proofs.Math.IntN.{sub_ℕ}
use Rattle.shapes.specs.Shapes.{shape_of}
use Rattle.lexemes.specs.Events.{Part}
use Rattle.movies.specs.Movie.{done, action, Blocks, no_blocks, block, Act, Movie, is_part, has}
use Rattle.movies.specs.Sites.{Site, sites}
use Rattle.action_records.specs.Codes.{listed}
use Rattle.action_records.specs.Fields.{Field, Layout, low_first, all_bytes}
use Rattle.action_records.specs.declared.Style.{Style}
use Rattle.action_records.specs.Operands.{fields}

-- a code of 0x80 or more is followed by a 16-bit length, low byte first, that counts no body
abbrev pub with_length : ℕ → List ℕ → List ℕ
with_length code bs = cond (leb 0x80 code) (code ∷ low_first 2 (length bs) ++ bs) (code ∷ bs)

-- before anything is laid out
abbrev pub blank : Layout
blank = record { sizes = λ (p : Part). 0; offset = λ (p : ℕ). pos 0 }

module _ (y : Style) where
  -- ---- a record

  abbrev pub fields_of : Act → Blocks Act → List Field
  fields_of a bs = fields y (shape_of a.name) a.operands (has bs)

  unfoldable pub record_of : Act → Blocks Act → Layout → List ℕ
  record_of a bs l = with_length (listed a.name).code (all_bytes l (fields_of a bs))

  -- ---- where records stand

  abbrev mutual
    -- the bytes of a level
    pub size : Movie → ℕ
    size done = 0
    size (action a bs x) = length (record_of a bs blank) + (size_in bs + size x)

    pub size_in : Blocks Act → ℕ
    size_in no_blocks = 0
    size_in (block p x bs) = size x + size_in bs

  -- the bytes of a level before its position p
  abbrev pub start : Movie → ℕ → ℕ
  start done p = 0
  start (action a bs x) zero = 0
  start (action a bs x) (suc p) = length (record_of a bs blank) + (size_in bs + start x p)

  abbrev pub size_of : Blocks Act → Part → ℕ
  size_of no_blocks p = 0
  size_of (block q x bs) p = cond (is_part p q) (size x) (size_of bs p)

  -- a branch counts from the end of its record, which is where the next position starts
  abbrev pub offset_to : Site → ℕ → ℤ
  offset_to s p = sub_ℕ (start s.level p) (start s.level (suc s.position))

  abbrev pub layout : Site → Layout
  layout s = record { sizes = size_of s.blocks; offset = offset_to s }

  -- ---- the bytes

  abbrev pub bytes_at : Site → List ℕ
  bytes_at s = record_of s.act s.blocks (layout s)

  abbrev pub bytes_of_all : List Site → List ℕ
  bytes_of_all [] = []
  bytes_of_all (s ∷ ss) = bytes_at s ++ bytes_of_all ss

  unfoldable pub movie_bytes : Movie → List ℕ
  movie_bytes m = bytes_of_all (sites m)
