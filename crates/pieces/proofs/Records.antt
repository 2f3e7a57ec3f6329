-- A record with its sizes and its offset filled in is SWF19's. Assumes nothing.
use mathlib.Core.Path.{◌≡◌, refl, ap, sym, ◌∙◌}
use mathlib.Core.Bool.{Bool, true, false, cond, true≢false}
use mathlib.Core.List.{List, [], ◌∷◌, ◌++◌, map, append_assoc}
use Prim.Native.Nat.{ℕ, zero, suc, ◌+◌, ◌-◌, ◌/◌, ◌%◌}
use native.Mathlib.Omega.{arith}
use lib.Dec.{leb}
use lib.IntN.{ℤ}
use lib.ListN.{length, drop, length-append}
use lib.Seq.{sets}
use Rattle.names.specs.declared.ActionName.{ActionName}
use Rattle.shapes.specs.declared.Shape.{Shape}
use Rattle.shapes.specs.declared.Shape.TheVariants as S
use Rattle.shapes.specs.Shapes.{shape_of}
use Rattle.lexemes.specs.Lexemes.{Lexeme, raw, same_name}
use Rattle.lexemes.specs.Events.{Part, body, try, catch, finally}
use Rattle.grammar.specs.Grammar as G
use Rattle.grammar.specs.Reading.{Label, own_labels}
use Rattle.movies.specs.Movie.{Value, string, number, integer, bool, register, constant, null, undefined, position, long, missing, ◌!◌, number_in, is_register, has}
use Rattle.movies.specs.Meaning.{meaning, position_of, normal, operands_of, meaning_in, blocks_in}
use Rattle.action_records.specs.declared.Style.{Style}
use Rattle.action_records.specs.Codes.{listed}
use Rattle.action_records.specs.Fields.{Layout, Field, UI8, UI16, bits, bytes_of, all_bytes, low_first, two's_complement}
use Rattle.action_records.specs.Fields as F
use Rattle.action_records.specs.Operands.{pushed_as, pushed, text, parameters, before_size, before_size2, one, catch_target, ◌in-bits◌, flag, fields}
use Rattle.action_records.specs.Bytes as R
use Rattle.action_records.specs.Bytes.{with_length, blank, record_of, fields_of}
use Rattle.action_records.specs.Export.{lacks_label}
use Rattle.action_records.proofs.Listed.{Empty, long-code}
use Rattle.coding.specs.Heads.{head_of}
use Rattle.filling.specs.Pieces.{size, with16, with_flag, with_blocks}
use Rattle.pieces.proofs.Forms.{Steady, nothing, values, strings, string_string, bool_bool_u8, u16, bool_bool_maybe_u16, string as ofString, u8, u16_u8, Bodied, function, function2, with_block_lem, Form, steady, jump, bodied, try-only, try-finally, try-catch, try-all}
use Rattle.pieces.proofs.Trees.{aim_at, aim_of, tree_in_lem, trees_in, act_of, size_is}

-- ---- fields that hang on no layout

abbrev Fixed : List Field → Type 0
Fixed fs = (l : Layout) → all_bytes l fs ≡ all_bytes blank fs

bytes_both : (l : Layout) (fs gs : List Field) → all_bytes l (fs ++ gs) ≡ all_bytes l fs ++ all_bytes l gs
bytes_both l [] gs = refl
bytes_both l (f ∷ fs) gs = ap (λ (b : List ℕ). bytes_of l f ++ b) (bytes_both l fs gs) ∙ sym (append_assoc (bytes_of l f) (all_bytes l fs) (all_bytes l gs))

fixed_both : (fs gs : List Field) → Fixed fs → Fixed gs → Fixed (fs ++ gs)
fixed_both fs gs f g l =
    bytes_both l fs gs
    ∙ ap (λ (b : List ℕ). b ++ all_bytes l gs) (f l)
    ∙ ap (λ (b : List ℕ). all_bytes blank fs ++ b) (g l)
    ∙ sym (bytes_both blank fs gs)

-- either way
fixed_if : (b : Bool) (fs gs : List Field) → Fixed fs → Fixed gs → Fixed (cond b fs gs)
fixed_if true fs gs f g = f
fixed_if false fs gs f g = g

fixed_value : (v : Value) → Fixed (pushed_as v)
fixed_value (string w) l = refl
fixed_value (number x) l = refl
fixed_value (integer z) l = refl
fixed_value (bool true) l = refl
fixed_value (bool false) l = refl
fixed_value (register n) l = refl
fixed_value (constant n) l = fixed_if (leb n 255) (UI8 8 ∷ UI8 n ∷ []) (UI8 9 ∷ UI16 n ∷ []) (λ m. refl) (λ m. refl) l
fixed_value null l = refl
fixed_value undefined l = refl
fixed_value (position p) l = refl
fixed_value long l = refl
fixed_value missing l = refl

fixed_pushed : (vs : List Value) → Fixed (pushed vs)
fixed_pushed [] l = refl
fixed_pushed (v ∷ vs) l = fixed_both (pushed_as v) (pushed vs) (fixed_value v) (fixed_pushed vs) l

fixed_texts : (vs : List Value) → Fixed (map text vs)
fixed_texts [] l = refl
fixed_texts (v ∷ vs) l = fixed_both (text v ∷ []) (map text vs) (λ m. refl) (fixed_texts vs) l

fixed_parameters : (vs : List Value) → Fixed (parameters vs)
fixed_parameters [] l = refl
fixed_parameters (r ∷ []) l = refl
fixed_parameters (r ∷ p ∷ vs) l = fixed_both (UI8 (number_in r) ∷ text p ∷ []) (parameters vs) (λ m. refl) (fixed_parameters vs) l

fixed_steady : (y : Style) {s : Shape} → Steady s → (vs : List Value) (h : Part → Bool) → Fixed (fields y s vs h)
fixed_steady y nothing vs h l = refl
fixed_steady y values vs h l = fixed_pushed vs l
fixed_steady y strings vs h l = fixed_both (UI16 (length vs) ∷ []) (map text vs) (λ m. refl) (fixed_texts vs) l
fixed_steady y string_string vs h l = refl
fixed_steady y bool_bool_u8 vs h l = refl
fixed_steady y u16 vs h l = refl
fixed_steady y bool_bool_maybe_u16 vs h l =
    fixed_if (leb 1 (number_in (vs ! 0))) (bits (0 in-bits 6 ∷ 1 in-bits 1 ∷ flag (vs ! 1) ∷ []) ∷ UI16 (number_in (vs ! 2)) ∷ [])
    (bits (0 in-bits 6 ∷ 0 in-bits 1 ∷ flag (vs ! 1) ∷ []) ∷ []) (λ m. refl) (λ m. refl) l
fixed_steady y ofString vs h l = refl
fixed_steady y u8 vs h l = refl
fixed_steady y u16_u8 vs h l = refl

-- ---- a record that ends in its size

-- the fields before the size
abbrev pub before : {s : Shape} → Bodied s → List Value → List Field
before function vs = before_size vs
before function2 vs = before_size2 vs
before with_block_lem vs = []

pub fixed_before : {s : Shape} (k : Bodied s) (vs : List Value) → Fixed (before k vs)
fixed_before function vs = fixed_both (text (vs ! 0) ∷ UI16 (length (drop 2 vs)) ∷ []) (map text (drop 2 vs)) (λ m. refl) (fixed_texts (drop 2 vs))
fixed_before function2 vs =
    fixed_both
    (text (vs ! 0) ∷ UI16 (length (drop 12 vs) / 2) ∷ UI8 (number_in (vs ! 2))
    ∷ bits (flag (vs ! 3) ∷ flag (vs ! 4) ∷ flag (vs ! 5) ∷ flag (vs ! 6) ∷ flag (vs ! 7) ∷ flag (vs ! 8) ∷ flag (vs ! 9) ∷ flag (vs ! 10) ∷ [])
    ∷ bits (0 in-bits 7 ∷ flag (vs ! 11) ∷ []) ∷ [])
    (parameters (drop 12 vs)) (λ m. refl) (fixed_parameters (drop 12 vs))
fixed_before with_block_lem vs = λ l. refl

-- two bytes stored behind p
stored : (p : List ℕ) (u v a b : ℕ) (q : List ℕ) → sets (p ++ (u ∷ v ∷ q)) (length p) (a ∷ b ∷ []) ≡ p ++ (a ∷ b ∷ q)
stored [] u v a b q = refl
stored (x ∷ p) u v a b q = ap (λ (l : List ℕ). x ∷ l) (stored p u v a b q)

-- a code of 0x80 or more, its length and its fields
abbrev pub long_record : ℕ → List ℕ → List ℕ
long_record c bs = c ∷ low_first 2 (length bs) ++ bs

pub is-long : (c : ℕ) (bs : List ℕ) → leb 0x80 c ≡ true → with_length c bs ≡ long_record c bs
is-long c bs e = ap (λ (t : Bool). cond t (long_record c bs) (c ∷ bs)) e

-- the size filled in
sized : (c n : ℕ) (b : List ℕ) → with16 (length (long_record c (b ++ low_first 2 0)) - 2) n (long_record c (b ++ low_first 2 0)) ≡ long_record c (b ++ low_first 2 n)
sized c n b =
    let i = length (b ++ low_first 2 0) in
    let p : List ℕ = c ∷ low_first 2 i ++ b in
    let e = length-append b (low_first 2 0) in
    let g : length (long_record c (b ++ low_first 2 0)) - 2 ≡ length p = omega arith in
    ap (λ (z : ℕ). sets (p ++ low_first 2 0) z (low_first 2 n)) g
    ∙ stored p 0 0 (n % 256) (n / 256 % 256) []
    ∙ ap (λ (j : ℕ). (c ∷ low_first 2 j ++ b) ++ low_first 2 n) (e ∙ sym (length-append b (low_first 2 n)))

pub body_record : (c : ℕ) (pre : List Field) → Fixed pre → (l : Layout) → leb 0x80 c ≡ true
    → with_length c (all_bytes l (pre ++ (F.size body ∷ []))) ≡ long_record c (all_bytes blank pre ++ low_first 2 (l.sizes body))
body_record c pre fx l e =
    is-long c (all_bytes l (pre ++ (F.size body ∷ []))) e
    ∙ ap (long_record c) (bytes_both l pre (F.size body ∷ []) ∙ ap (λ (b : List ℕ). b ++ low_first 2 (l.sizes body)) (fx l))

-- ---- Try

-- the flags, the three sizes and the target
abbrev pub try_fields : Value → (Part → Bool) → List Field
try_fields v h =
    bits (0 in-bits 5 ∷ one (is_register v) in-bits 1 ∷ one (h finally) in-bits 1 ∷ one (h catch) in-bits 1 ∷ [])
    ∷ F.size try ∷ F.size catch ∷ F.size finally ∷ catch_target v ∷ []

abbrev try_flags : Bool → Bool → Bool → ℕ
try_flags r f k = F.packed 0 (0 in-bits 5 ∷ one r in-bits 1 ∷ one f in-bits 1 ∷ one k in-bits 1 ∷ [])

abbrev try_record : ℕ → ℕ → (a b d : ℕ) → List ℕ → List ℕ
try_record c flags a b d post = long_record c (flags ∷ low_first 2 a ++ (low_first 2 b ++ (low_first 2 d ++ post)))

abbrev target_bytes : Value → List ℕ
target_bytes v = bytes_of blank (catch_target v) ++ []

fixed_target : (v : Value) → Fixed (catch_target v ∷ [])
fixed_target v l = by (is_register v)
  where
    by : (b : Bool) → all_bytes l (cond b (UI8 (number_in v)) (text v) ∷ []) ≡ all_bytes blank (cond b (UI8 (number_in v)) (text v) ∷ [])
    by true = refl
    by false = refl

pub try_record_lem : (c : ℕ) (v : Value) (h : Part → Bool) (l : Layout) → leb 0x80 c ≡ true
    → with_length c (all_bytes l (try_fields v h)) ≡ try_record c (try_flags (is_register v) (h finally) (h catch)) (l.sizes try) (l.sizes catch) (l.sizes finally) (target_bytes v)
try_record_lem c v h l e =
    is-long c (all_bytes l (try_fields v h)) e
    ∙ ap (try_record c (try_flags (is_register v) (h finally) (h catch)) (l.sizes try) (l.sizes catch) (l.sizes finally)) (fixed_target v l)

catch-flag : (r : Bool) → (try_flags r false false + 1) % 256 ≡ try_flags r false true
catch-flag true = refl
catch-flag false = refl

finally-flag : (r k : Bool) → (try_flags r false k + 2) % 256 ≡ try_flags r true k
finally-flag true true = refl
finally-flag true false = refl
finally-flag false true = refl
finally-flag false false = refl

-- the record before and after its blocks are filled in, with sizes a, b and d
module _ (c : ℕ) (r : Bool) (post : List ℕ) where
  abbrev filled : Bool → Bool → (a b d : ℕ) → List ℕ
  filled f k a b d = try_record c (try_flags r f k) a b d post

  fill_catch : (a b : ℕ) → with16 6 b (with_flag 1 (filled false false a 0 0)) ≡ filled false true a b 0
  fill_catch a b = ap (λ (n : ℕ). try_record c n a b 0 post) (catch-flag r)

  fill_finally : (k : Bool) (a b d : ℕ) → with16 8 d (with_flag 2 (filled false k a b 0)) ≡ filled true k a b d
  fill_finally k a b d = ap (λ (n : ℕ). try_record c n a b d post) (finally-flag r k)

-- ---- jumps

abbrev pub aimed : (ℕ → ℤ) → ℕ → List ℕ → List ℕ
aimed off zero r = r
aimed off (suc p) r = with16 3 (two's_complement 16 (off p)) r

pub data Aims : Value → Type 0 where
  found : (p : ℕ) → Aims (position p)
  lost : Aims missing

pub aims : (w : List ℕ) (l : List Label) → Aims (position_of w l)
aims w [] = lost
aims w (k ∷ ks) = by (same_name w (raw k.name)) (aims w ks)
  where
    by : (b : Bool) → Aims (position_of w ks) → Aims (cond b (position k.position) (position_of w ks))
    by true r = found k.position
    by false r = r

jump_record : (c : ℕ) (off : ℕ → ℤ) {v : Value} → Aims v → lacks_label (v ∷ []) ≡ false → leb 0x80 c ≡ true
    → with_length c (low_first 2 (two's_complement 16 (off (number_in v))) ++ []) ≡ aimed off (aim_at v) (with_length c (low_first 2 0 ++ []))
jump_record c off (found p) f e =
    is-long c (low_first 2 (two's_complement 16 (off p)) ++ []) e
    ∙ sym (ap (with16 3 (two's_complement 16 (off p))) (is-long c (low_first 2 0 ++ []) e))
jump_record c off lost f e = absurd (true≢false f)

-- ---- the record of an action, by its form

module _ (y : Style) (l : List Label) where
  abbrev size_of : G.Items → ℕ
  size_of x = size (tree_in_lem y (own_labels 0 0 [] x) x)

  size_in_lem : (x : G.Items) → size_of x ≡ R.size y (meaning_in (own_labels 0 0 [] x) x)
  size_in_lem x = size_is y (own_labels 0 0 [] x) x

  abbrev laid : G.Blocks → (ℕ → ℤ) → Layout
  laid bs off = record { sizes = R.size_of y (blocks_in bs); offset = off }

  body_in : (c : ℕ) (pre : List Field) → Fixed pre → leb 0x80 c ≡ true → (x : G.Items) (off : ℕ → ℤ)
      → with_length c (all_bytes (laid (G.block body x G.no_blocks) off) (pre ++ (F.size body ∷ [])))
      ≡ with_blocks (trees_in y (G.block body x G.no_blocks)) (with_length c (all_bytes blank (pre ++ (F.size body ∷ []))))
  body_in c pre fx e x off =
      body_record c pre fx (laid (G.block body x G.no_blocks) off) e
      ∙ ap (λ (n : ℕ). long_record c (all_bytes blank pre ++ low_first 2 n)) (sym (size_in_lem x))
      ∙ sym (sized c (size_of x) (all_bytes blank pre))
      ∙ ap (λ (r : List ℕ). with16 (length r - 2) (size_of x) r) (sym (body_record c pre fx blank e))

  -- of a Try with target v, the blocks told of in `has`
  module _ (c : ℕ) (e : leb 0x80 c ≡ true) (v : Value) where
    abbrev head : List ℕ
    head = with_length c (all_bytes blank (try_fields v (λ (p : Part). false)))

    head-is : head ≡ filled c (is_register v) (target_bytes v) false false 0 0 0
    head-is = try_record_lem c v (λ (p : Part). false) blank e

    only_in : (x : G.Items) → filled c (is_register v) (target_bytes v) false false (R.size y (meaning_in (own_labels 0 0 [] x) x)) 0 0 ≡ with16 4 (size_of x) head
    only_in x = ap (λ (n : ℕ). filled c (is_register v) (target_bytes v) false false n 0 0) (sym (size_in_lem x)) ∙ ap (with16 4 (size_of x)) (sym head-is)

    catch_in : (x u : G.Items)
        → filled c (is_register v) (target_bytes v) false true (R.size y (meaning_in (own_labels 0 0 [] x) x)) (R.size y (meaning_in (own_labels 0 0 [] u) u)) 0
        ≡ with16 6 (size_of u) (with_flag 1 (with16 4 (size_of x) head))
    catch_in x u =
        ap (λ (n : ℕ). filled c (is_register v) (target_bytes v) false true (R.size y (meaning_in (own_labels 0 0 [] x) x)) n 0) (sym (size_in_lem u))
        ∙ sym (fill_catch c (is_register v) (target_bytes v) (R.size y (meaning_in (own_labels 0 0 [] x) x)) (size_of u))
        ∙ ap (λ (r : List ℕ). with16 6 (size_of u) (with_flag 1 r)) (only_in x)

    finally_in : (x z : G.Items)
        → filled c (is_register v) (target_bytes v) true false (R.size y (meaning_in (own_labels 0 0 [] x) x)) 0 (R.size y (meaning_in (own_labels 0 0 [] z) z))
        ≡ with16 8 (size_of z) (with_flag 2 (with16 4 (size_of x) head))
    finally_in x z =
        ap (λ (n : ℕ). filled c (is_register v) (target_bytes v) true false (R.size y (meaning_in (own_labels 0 0 [] x) x)) 0 n) (sym (size_in_lem z))
        ∙ sym (fill_finally c (is_register v) (target_bytes v) false (R.size y (meaning_in (own_labels 0 0 [] x) x)) 0 (size_of z))
        ∙ ap (λ (r : List ℕ). with16 8 (size_of z) (with_flag 2 r)) (only_in x)

    all_in : (x u z : G.Items)
        → filled c (is_register v) (target_bytes v) true true (R.size y (meaning_in (own_labels 0 0 [] x) x)) (R.size y (meaning_in (own_labels 0 0 [] u) u)) (R.size y (meaning_in (own_labels 0 0 [] z) z))
        ≡ with16 8 (size_of z) (with_flag 2 (with16 6 (size_of u) (with_flag 1 (with16 4 (size_of x) head))))
    all_in x u z =
        ap (λ (n : ℕ). filled c (is_register v) (target_bytes v) true true (R.size y (meaning_in (own_labels 0 0 [] x) x)) (R.size y (meaning_in (own_labels 0 0 [] u) u)) n) (sym (size_in_lem z))
        ∙ sym (fill_finally c (is_register v) (target_bytes v) true (R.size y (meaning_in (own_labels 0 0 [] x) x)) (R.size y (meaning_in (own_labels 0 0 [] u) u)) (size_of z))
        ∙ ap (λ (r : List ℕ). with16 8 (size_of z) (with_flag 2 r)) (catch_in x u)

  record_in : {s : Shape} {os : List Lexeme} {bs : G.Blocks} → Form s os bs → (c : ℕ) → ((Empty s → ⊥) → leb 0x80 c ≡ true) → (off : ℕ → ℤ)
      → lacks_label (operands_of s l bs os) ≡ false
      → with_length c (all_bytes (laid bs off) (fields y s (operands_of s l bs os) (has (blocks_in bs))))
      ≡ aimed off (aim_of s l os) (with_blocks (trees_in y bs) (with_length c (all_bytes blank (fields y s (normal s false (map meaning os)) (λ (p : Part). false)))))
  record_in (steady os nothing) c coded off f = ap (with_length c) (fixed_steady y nothing (normal S.Nothing false (map meaning os)) (λ (p : Part). false) (laid G.no_blocks off))
  record_in (steady os values) c coded off f = ap (with_length c) (fixed_steady y values (normal S.Values false (map meaning os)) (λ (p : Part). false) (laid G.no_blocks off))
  record_in (steady os strings) c coded off f = ap (with_length c) (fixed_steady y strings (normal S.Strings false (map meaning os)) (λ (p : Part). false) (laid G.no_blocks off))
  record_in (steady os string_string) c coded off f = ap (with_length c) (fixed_steady y string_string (normal S.StringString false (map meaning os)) (λ (p : Part). false) (laid G.no_blocks off))
  record_in (steady os bool_bool_u8) c coded off f = ap (with_length c) (fixed_steady y bool_bool_u8 (normal S.BoolBoolU8 false (map meaning os)) (λ (p : Part). false) (laid G.no_blocks off))
  record_in (steady os u16) c coded off f = ap (with_length c) (fixed_steady y u16 (normal S.U16 false (map meaning os)) (λ (p : Part). false) (laid G.no_blocks off))
  record_in (steady os bool_bool_maybe_u16) c coded off f = ap (with_length c) (fixed_steady y bool_bool_maybe_u16 (normal S.BoolBoolMaybeU16 false (map meaning os)) (λ (p : Part). false) (laid G.no_blocks off))
  record_in (steady os ofString) c coded off f = ap (with_length c) (fixed_steady y ofString (normal S.String false (map meaning os)) (λ (p : Part). false) (laid G.no_blocks off))
  record_in (steady os u8) c coded off f = ap (with_length c) (fixed_steady y u8 (normal S.U8 false (map meaning os)) (λ (p : Part). false) (laid G.no_blocks off))
  record_in (steady os u16_u8) c coded off f = ap (with_length c) (fixed_steady y u16_u8 (normal S.U16U8 false (map meaning os)) (λ (p : Part). false) (laid G.no_blocks off))
  record_in (jump t) c coded off f = jump_record c off (aims (raw t) l) f (coded (λ e. e))
  record_in (bodied os x function) c coded off f =
      body_in c (before function (normal S.Function false (map meaning os))) (fixed_before function (normal S.Function false (map meaning os))) (coded (λ e. e)) x off
  record_in (bodied os x function2) c coded off f =
      body_in c (before function2 (normal S.Function2 false (map meaning os))) (fixed_before function2 (normal S.Function2 false (map meaning os))) (coded (λ e. e)) x off
  record_in (bodied os x with_block_lem) c coded off f = body_in c [] (λ m. refl) (coded (λ e. e)) x off
  record_in (try-only x) c coded off f =
      try_record_lem c null (has (blocks_in (G.block try x G.no_blocks))) (laid (G.block try x G.no_blocks) off) (coded (λ e. e)) ∙ only_in c (coded (λ e. e)) null x
  record_in (try-finally x z) c coded off f =
      try_record_lem c null (has (blocks_in (G.block try x (G.block finally z G.no_blocks)))) (laid (G.block try x (G.block finally z G.no_blocks)) off) (coded (λ e. e)) ∙ finally_in c (coded (λ e. e)) null x z
  record_in (try-catch [] x u) c coded off f =
      try_record_lem c (string []) (has (blocks_in (G.block try x (G.block catch u G.no_blocks)))) (laid (G.block try x (G.block catch u G.no_blocks)) off) (coded (λ e. e)) ∙ catch_in c (coded (λ e. e)) null x u
  record_in (try-all [] x u z) c coded off f =
      try_record_lem c (string []) (has (blocks_in (G.block try x (G.block catch u (G.block finally z G.no_blocks))))) (laid (G.block try x (G.block catch u (G.block finally z G.no_blocks))) off) (coded (λ e. e)) ∙ all_in c (coded (λ e. e)) null x u z
  record_in (try-catch (t ∷ os) x u) c coded off f =
      try_record_lem c (meaning t) (has (blocks_in (G.block try x (G.block catch u G.no_blocks)))) (laid (G.block try x (G.block catch u G.no_blocks)) off) (coded (λ e. e)) ∙ catch_in c (coded (λ e. e)) (meaning t) x u
  record_in (try-all (t ∷ os) x u z) c coded off f =
      try_record_lem c (meaning t) (has (blocks_in (G.block try x (G.block catch u (G.block finally z G.no_blocks))))) (laid (G.block try x (G.block catch u (G.block finally z G.no_blocks))) off) (coded (λ e. e)) ∙ all_in c (coded (λ e. e)) (meaning t) x u z

  pub record_is : (n : ActionName) (os : List Lexeme) (bs : G.Blocks) → Form (shape_of n) os bs → (off : ℕ → ℤ) → lacks_label (operands_of (shape_of n) l bs os) ≡ false
      → record_of y (act_of y l n os bs) (blocks_in bs) (laid bs off) ≡ aimed off (aim_of (shape_of n) l os) (with_blocks (trees_in y bs) (head_of y n os))
  unfolding record_of head_of
  record_is n os bs k off f = record_in k (listed n).code (long-code n) off f
