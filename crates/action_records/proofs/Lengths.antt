-- Lengths of records and levels: they do not hang on sizes and offsets. A level's bytes are as many as its size. Assumes nothing.
use mathlib.Core.Path.{◌≡◌, refl, ap, sym, ◌∙◌}
use mathlib.Core.Bool.{Bool, true, false, cond}
use mathlib.Core.List.{List, [], ◌∷◌, ◌++◌, append_assoc}
use Prim.Native.Nat.{ℕ, suc, ◌+◌, ◌<◌}
use native.Mathlib.Omega.{arith}
use lib.Dec.{leb}
use lib.ListN.{length, length-append}
use Rattle.movies.specs.Movie.{done, action, Blocks, no_blocks, block, Act, Movie}
use Rattle.movies.specs.Sites.{Site, sites_from, sites_in}
use Rattle.action_records.specs.Codes.{listed}
use Rattle.action_records.specs.Fields.{Layout, Field, UI8, UI16, UI32, STRING, bits, branch, uncodable, bytes_of, all_bytes, low_first}
use Rattle.action_records.specs.Fields as F
use Rattle.action_records.specs.declared.Style.{Style}
use Rattle.action_records.specs.Bytes.{size, size_in, layout, record_of, bytes_at, bytes_of_all, with_length, fields_of, blank}

len_field : (l : Layout) (f : Field) → length (bytes_of l f) ≡ length (bytes_of blank f)
len_field l (UI8 n) = refl
len_field l (UI16 n) = refl
len_field l (UI32 n) = refl
len_field l (STRING w) = refl
len_field l (bits bs) = refl
len_field l (F.size p) = refl
len_field l (branch p) = refl
len_field l uncodable = refl

pub len_fields : (l : Layout) (fs : List Field) → length (all_bytes l fs) ≡ length (all_bytes blank fs)
len_fields l [] = refl
len_fields l (f ∷ fs) =
    length-append (bytes_of l f) (all_bytes l fs)
    ∙ ap (λ (n : ℕ). n + length (all_bytes l fs)) (len_field l f)
    ∙ ap (λ (n : ℕ). length (bytes_of blank f) + n) (len_fields l fs)
    ∙ sym (length-append (bytes_of blank f) (all_bytes blank fs))

pub len_with : (c : ℕ) (xs ys : List ℕ) → length xs ≡ length ys → length (with_length c xs) ≡ length (with_length c ys)
len_with c xs ys e = by (leb 0x80 c)
  where
    by : (b : Bool)
        → length (cond b (c ∷ low_first 2 (length xs) ++ xs) (c ∷ xs)) ≡ length (cond b (c ∷ low_first 2 (length ys) ++ ys) (c ∷ ys))
    by true = ap (λ (n : ℕ). suc (suc (suc n))) e
    by false = ap suc e

some_with : (c : ℕ) (xs : List ℕ) → 0 < length (with_length c xs)
some_with c xs = by (leb 0x80 c)
  where
    by : (b : Bool) → 0 < length (cond b (c ∷ low_first 2 (length xs) ++ xs) (c ∷ xs))
    by true = omega arith
    by false = omega arith

module _ (y : Style) where
  pub len_record : (a : Act) (bs : Blocks Act) (l : Layout) → length (record_of y a bs l) ≡ length (record_of y a bs blank)
  unfolding record_of
  len_record a bs l =
      len_with (listed a.name).code (all_bytes l (fields_of y a bs)) (all_bytes blank (fields_of y a bs)) (len_fields l (fields_of y a bs))

  pub some_record : (a : Act) (bs : Blocks Act) (l : Layout) → 0 < length (record_of y a bs l)
  unfolding record_of
  some_record a bs l = some_with (listed a.name).code (all_bytes l (fields_of y a bs))

  -- the bytes of a list of actions are those of its parts
  pub bytes-append : (ss ts : List Site) → bytes_of_all y (ss ++ ts) ≡ bytes_of_all y ss ++ bytes_of_all y ts
  bytes-append [] ts = refl
  bytes-append (s ∷ ss) ts =
      ap (λ (l : List ℕ). bytes_at y s ++ l) (bytes-append ss ts) ∙ sym (append_assoc (bytes_at y s) (bytes_of_all y ss) (bytes_of_all y ts))

  mutual
    pub len_level : (x : Movie) (l : Movie) (k : ℕ) → length (bytes_of_all y (sites_from l k x)) ≡ size y x
    len_level done l k = refl
    len_level (action a bs x) l k =
        let s : Site = record { level = l; position = k; act = a; blocks = bs } in
        length-append (bytes_at y s) (bytes_of_all y (sites_in bs ++ sites_from l (suc k) x))
        ∙ ap (λ (i : ℕ). i + length (bytes_of_all y (sites_in bs ++ sites_from l (suc k) x))) (len_record a bs (layout y s))
        ∙ ap (λ (i : ℕ). length (record_of y a bs blank) + i)
        (ap length (bytes-append (sites_in bs) (sites_from l (suc k) x))
        ∙ length-append (bytes_of_all y (sites_in bs)) (bytes_of_all y (sites_from l (suc k) x))
        ∙ ap (λ (i : ℕ). i + length (bytes_of_all y (sites_from l (suc k) x))) (len_blocks bs)
        ∙ ap (λ (i : ℕ). size_in y bs + i) (len_level x l (suc k)))

    pub len_blocks : (bs : Blocks Act) → length (bytes_of_all y (sites_in bs)) ≡ size_in y bs
    len_blocks no_blocks = refl
    len_blocks (block p x bs) =
        ap length (bytes-append (sites_from x 0 x) (sites_in bs))
        ∙ length-append (bytes_of_all y (sites_from x 0 x)) (bytes_of_all y (sites_in bs))
        ∙ ap (λ (i : ℕ). i + length (bytes_of_all y (sites_in bs))) (len_level x x 0)
        ∙ ap (λ (i : ℕ). size y x + i) (len_blocks bs)
