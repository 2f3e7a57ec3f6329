-- An export has at most ten bytes for each byte of its text. Assumes nothing.
use mathlib.Core.Path.{◌≡◌, sym, subst}
use mathlib.Core.Bool.{true, false}
use mathlib.Core.List.{List, [], ◌∷◌, ◌++◌, map}
use mathlib.Core.Option.{Option, none, some}
use Prim.Native.Nat.{ℕ, zero, suc, ◌+◌, ◌-◌, ◌*◌, ◌≤◌}
use native.Mathlib.Omega.{arith}
use lib.Dec.{eqb, leb}
use lib.ListN.{length, take, drop, length-append}
use Rattle.names.specs.declared.ActionName.{ActionName}
use Rattle.shapes.specs.declared.Shape.{Shape}
use Rattle.shapes.specs.declared.Shape.TheVariants as S
use Rattle.shapes.specs.Shapes.{shape_of}
use Rattle.answers.specs.Answers.{accepted}
use Rattle.tokens.specs.declared.TokenKind.{TokenKind}
use Rattle.tokens.specs.declared.TokenKind.TheVariants as K
use Rattle.tokens.specs.declared.Span.{Span}
use Rattle.tokens.specs.declared.Token.{Token}
use Rattle.tokens.specs.Kinds.{is_kind}
use Rattle.tokens.specs.Tokens.{span, raw_in, is_within, within, part}
use Rattle.lexer.specs.Lexing.{lex_text}
use Rattle.lexer.specs.Spans.{Spans}
use Rattle.lexer.proofs.Theorems.{spans}
use Rattle.lexer.proofs.Sound.{AllWhole, all_whole}
use Rattle.values.specs.declared.PushValue.{PushValue}
use Rattle.values.specs.declared.PushValue.TheVariants as P
use Rattle.lexemes.specs.Lexemes.{Lexeme, raw, numbered}
use Rattle.lexemes.specs.Operands.{Class, value_of}
use Rattle.lexemes.specs.Events.{Part, body}
use Rattle.lexemes.proofs.Tests.{either}
use Rattle.grammar.specs.Grammar as G
use Rattle.grammar.specs.Grammar.{Items, Body, Operands, no_operand, last, comma, Newlines, no_newline, newline, Ended, text-ends, line_ends_lem, level, Written, ends, names, acts, Block, braces, Bodies, no_body, one-body, try-body, Catch, no_catch, catches, Finally, no_finally, finishes, Text}
use Rattle.grammar.specs.Reading.{Label, own_labels}
use Rattle.as2_pcode.proofs.Handed.{lexed}
use Rattle.movies.specs.Movie.{Value, string, number, integer, bool, register, constant, null, undefined, position, long, missing, ◌!◌, number_in, text_in, is_register}
use Rattle.movies.specs.Strings.{meant, decoded, escaped}
use Rattle.movies.specs.Meaning.{meaning, normal, meaning_in, blocks_in, meaning_of}
use Rattle.movies.specs.Meaning as M
use Rattle.action_records.specs.declared.Style.{Style}
use Rattle.action_records.specs.Codes.{listed}
use Rattle.action_records.specs.Fields.{Field, UI16, bytes_of, all_bytes}
use Rattle.action_records.specs.Fields as F
use Rattle.action_records.specs.Operands.{pushed_as, pushed, text, parameters, before_size2, catch_target, fields}
use Rattle.action_records.specs.Bytes.{with_length, blank, fields_of, record_of, size, size_in, movie_bytes}
use Rattle.action_records.proofs.Lengths.{len_level}
use Rattle.pieces.proofs.Forms.{Steady, nothing, values, strings, string_string, bool_bool_u8, u16, bool_bool_maybe_u16, string as one-string, u8, u16_u8, Bodied, function, function2, with_block_lem, Form, steady, jump, bodied, try-only, try-finally, try-catch, try-all, Forms, FormsIn, forms}
use Rattle.pieces.proofs.Trees.{len_fields, act_of}

-- ---- a string decoded is no longer than its raw text

meant-short : (b : ℕ) → length (meant b) ≤ 2
meant-short b =
    let P : List ℕ → Type 0 = λ (w : List ℕ). length w ≤ 2 in
    either P (eqb b 110) _ _ (omega arith)
    (either P (eqb b 114) _ _ (omega arith)
    (either P (eqb b 116) _ _ (omega arith)
    (either P (eqb b 92) _ _ (omega arith)
    (either P (eqb b 34) _ _ (omega arith)
    (either P (eqb b 39) _ _ (omega arith) (omega arith))))))

mutual
  decoded-short : (w : List ℕ) → length (decoded w) ≤ length w
  decoded-short [] = omega arith
  decoded-short (b ∷ w) = either (λ (v : List ℕ). length v ≤ suc (length w)) (eqb b 92) _ _ (escaped-short w) (omega (arith, decoded-short w))

  escaped-short : (w : List ℕ) → length (escaped w) ≤ suc (length w)
  escaped-short [] = omega arith
  escaped-short (b ∷ w) = omega (arith, length-append (meant b) (decoded w), meant-short b, decoded-short w)

meaning-short : (t : Lexeme) → length (text_in (meaning t)) ≤ length (raw t)
meaning-short t = by (value_of t) (raw t)
  where
    by : (v : Option PushValue) (w : List ℕ) → length (text_in (M.meant v w)) ≤ length w
    by none w = omega arith
    by (some (P.String s)) w = decoded-short w
    by (some P.True) w = omega arith
    by (some P.False) w = omega arith
    by (some P.Null) w = omega arith
    by (some P.Undefined) w = omega arith
    by (some (P.Register n)) w = omega arith
    by (some (P.Constant n)) w = omega arith
    by (some (P.Integer z)) w = omega arith
    by (some (P.Float x)) w = omega arith
    by (some (P.Long s)) w = omega arith

-- ---- nine bytes and its text for an operand: type and double are the longest

abbrev load : List Value → ℕ
load [] = 0
load (v ∷ vs) = 9 + length (text_in v) + load vs

abbrev weight : List Lexeme → ℕ
weight [] = 0
weight (t ∷ ts) = 9 + length (raw t) + weight ts

load_weight : (os : List Lexeme) → load (map meaning os) ≤ weight os
load_weight [] = omega arith
load_weight (t ∷ os) = omega (arith, meaning-short t, load_weight os)

load_drop : (k : ℕ) (vs : List Value) → load (drop k vs) ≤ load vs
load_drop zero vs = omega arith
load_drop (suc k) [] = omega arith
load_drop (suc k) (v ∷ vs) = omega (arith, load_drop k vs)

-- ---- fields

abbrev len : List Field → ℕ
len fs = length (all_bytes blank fs)

len_cons : (f : Field) (fs : List Field) → len (f ∷ fs) ≡ length (bytes_of blank f) + len fs
len_cons f fs = length-append (bytes_of blank f) (all_bytes blank fs)

len_both : (fs gs : List Field) → len (fs ++ gs) ≡ len fs + len gs
len_both [] gs = omega arith
len_both (f ∷ fs) gs = omega (arith, len_cons f (fs ++ gs), len_cons f fs, len_both fs gs)

-- a string and its zero byte
len_text : (v : Value) (fs : List Field) → len (text v ∷ fs) ≡ suc (length (text_in v)) + len fs
len_text v fs = omega (arith, len_cons (text v) fs, length-append (text_in v) (0 ∷ []))

pushed_short : (vs : List Value) → len (pushed vs) ≤ load vs
pushed_short [] = omega arith
pushed_short (v ∷ vs) = omega (arith, len_both (pushed_as v) (pushed vs), one v, pushed_short vs)
  where
    one : (v : Value) → len (pushed_as v) ≤ 9 + length (text_in v)
    one (string w) = omega (arith, len_text (string w) [])
    one null = omega arith
    one undefined = omega arith
    one (register n) = omega arith
    one (bool true) = omega arith
    one (bool false) = omega arith
    one (number x) = omega arith
    one (integer z) = omega arith
    one (constant n) = either (λ (fs : List Field). len fs ≤ 9) (leb n 255) _ _ (omega arith) (omega arith)
    one (position p) = omega arith
    one long = omega arith
    one missing = omega arith

texts_short : (vs : List Value) → len (map text vs) ≤ load vs
texts_short [] = omega arith
texts_short (v ∷ vs) = omega (arith, len_text v (map text vs), texts_short vs)

parameters-short : (vs : List Value) → len (parameters vs) ≤ load vs
parameters-short [] = omega arith
parameters-short (r ∷ []) = omega arith
parameters-short (r ∷ p ∷ vs) = omega (arith, len_text p (parameters vs), parameters-short vs)

-- ---- the fields of an action: at most six bytes beside its operands, eight with a block

module _ (y : Style) where
  abbrev fields_length : Shape → List Value → ℕ
  fields_length s vs = len (fields y s (normal s false vs) (λ (p : Part). false))

  bias-short : (vs : List Value) → len (fields y S.BoolBoolMaybeU16 vs (λ (p : Part). false)) ≤ 3
  bias-short vs = either (λ (fs : List Field). len fs ≤ 3) (leb 1 (number_in (vs ! 0))) _ _ (omega arith) (omega arith)

  steady_short : {s : Shape} → Steady s → (vs : List Value) → fields_length s vs ≤ 6 + load vs
  steady_short nothing vs = omega arith
  steady_short values vs = omega (arith, pushed_short vs)
  steady_short strings vs = omega (arith, texts_short vs)
  steady_short string_string [] = omega arith
  steady_short string_string (v ∷ []) = omega (arith, len_text v (text null ∷ []))
  steady_short string_string (v ∷ w ∷ vs) = omega (arith, len_text v (text w ∷ []), len_text w [])
  steady_short bool_bool_u8 vs = omega arith
  steady_short u16 vs = omega arith
  steady_short bool_bool_maybe_u16 vs = omega (arith, bias-short (normal S.BoolBoolMaybeU16 false vs))
  steady_short one-string [] = omega arith
  steady_short one-string (v ∷ vs) = omega (arith, len_text v [])
  steady_short u8 vs = omega arith
  steady_short u16_u8 vs = omega arith

  before-short : (vs : List Value) → len (before_size2 vs) ≡ 6 + length (text_in (vs ! 0)) + len (parameters (drop 12 vs))
  before-short vs = omega (arith, len_text (vs ! 0) (drop 1 (before_size2 vs)))

  bodied_short : {s : Shape} → Bodied s → (vs : List Value) → fields_length s vs ≤ 8 + load vs
  bodied_short function [] = omega arith
  bodied_short function (v ∷ vs) =
      let ps = drop 1 vs in
      omega (arith, len_text v (UI16 (length ps) ∷ (map text ps ++ (F.size body ∷ []))), len_both (map text ps) (F.size body ∷ []), texts_short ps, load_drop 1 vs)
  bodied_short function2 [] = omega arith
  bodied_short function2 (v ∷ vs) =
      let us = normal S.Function2 false (v ∷ vs) in
      omega (arith, len_both (before_size2 us) (F.size body ∷ []), before-short us, parameters-short (drop 10 (drop 1 vs)), load_drop 10 (drop 1 vs), load_drop 1 vs)
  bodied_short with_block_lem vs = omega arith

  try-short : (vs : List Value) → fields_length S.Try vs ≤ 8 + load vs
  try-short [] = omega arith
  try-short (v ∷ vs) = omega (arith, target)
    where
      target : len (catch_target v ∷ []) ≤ suc (length (text_in v))
      target = either (λ (f : Field). len (f ∷ []) ≤ suc (length (text_in v))) (is_register v) _ _ (omega arith) (omega (arith, len_text v []))

  -- ---- a record

  -- two for each block
  abbrev blocked : G.Blocks → ℕ
  blocked G.no_blocks = 0
  blocked (G.block p x bs) = 2 + blocked bs

  form_short : {s : Shape} {os : List Lexeme} {bs : G.Blocks} → Form s os bs → fields_length s (map meaning os) ≤ 6 + load (map meaning os) + blocked bs
  form_short (steady os h) = omega (arith, steady_short h (map meaning os))
  form_short (jump t) = omega arith
  form_short (bodied os x h) = omega (arith, bodied_short h (map meaning os))
  form_short (try-only x) = omega (arith, try-short [])
  form_short (try-finally x z) = omega (arith, try-short [])
  form_short (try-catch os x u) = omega (arith, try-short (map meaning os))
  form_short (try-all os x u z) = omega (arith, try-short (map meaning os))

  with_short : (c : ℕ) (bs : List ℕ) → length (with_length c bs) ≤ 3 + length bs
  with_short c bs = either (λ (l : List ℕ). length l ≤ 3 + length bs) (leb 0x80 c) _ _ (omega arith) (omega arith)

  record_short : (l : List Label) (n : ActionName) (os : List Lexeme) (bs : G.Blocks) → Form (shape_of n) os bs
      → length (record_of y (act_of y l n os bs) (blocks_in bs) blank) ≤ 9 + weight os + blocked bs
  unfolding record_of
  record_short l n os bs f =
      omega (
        arith,
        with_short (listed n).code (all_bytes blank (fields_of y (act_of y l n os bs) (blocks_in bs))),
        len_fields y (shape_of n) l bs os,
        form_short f,
        load_weight os,
      )

  -- ---- a level: each action, operand and block has a token of its own

  newlines_weigh : {ts r : List Lexeme} → Newlines ts r → weight r ≤ weight ts
  newlines_weigh no_newline = omega arith
  newlines_weigh (newline n) = omega (arith, newlines_weigh n)

  ended_weigh : {ts r : List Lexeme} → Ended ts r → weight r ≤ weight ts
  ended_weigh text-ends = omega arith
  ended_weigh (line_ends_lem n) = omega (arith, newlines_weigh n)

  operands_weigh : {cs : List Class} {ts os r : List Lexeme} → Operands cs ts os r → weight os + weight r ≤ weight ts
  operands_weigh no_operand = omega arith
  operands_weigh (last h) = omega arith
  operands_weigh (comma h o) = omega (arith, operands_weigh o)

  mutual
    level-short : {ts r : List Lexeme} {x : Items} (l : List Label) → G.Level ts x r → Forms x → size y (meaning_in l x) + weight r ≤ weight ts
    level-short l (level n w) f = omega (arith, newlines_weigh n, written-short l w f)

    written-short : {ts r : List Lexeme} {x : Items} (l : List Label) → Written ts x r → Forms x → size y (meaning_in l x) + weight r ≤ weight ts
    written-short l ends f = omega arith
    written-short l (names n w) f = omega (arith, newlines_weigh n, written-short l w f)
    written-short l (acts {n = n} {kept = kept} {bs = bs} t o b e w) (form, (in_blocks, rest)) =
        omega (arith, record_short l n kept bs form, operands_weigh o, bodies_short b in_blocks, ended_weigh e, written-short l w rest)

    block-short : {ts r : List Lexeme} {x : Items} → Block ts x r → Forms x → 2 + size y (meaning_of x) + weight r ≤ weight ts
    block-short {x = x} (braces l) f = omega (arith, level-short (own_labels 0 0 [] x) l f)

    -- what is kept takes the place of the operands
    bodies_short : {b : Body} {os ts kept r : List Lexeme} {bs : G.Blocks} → Bodies b os ts kept bs r → FormsIn bs
        → weight kept + blocked bs + size_in y (blocks_in bs) + weight r ≤ weight os + weight ts
    bodies_short no_body f = omega arith
    bodies_short (one-body b) f = omega (arith, block-short b f.0)
    bodies_short (try-body b c) f = omega (arith, block-short b f.0, catch-short c f.1)

    catch-short : {os ts kept r : List Lexeme} {bs : G.Blocks} → Catch os ts kept bs r → FormsIn bs
        → weight kept + blocked bs + size_in y (blocks_in bs) + weight r ≤ weight os + weight ts
    catch-short (no_catch e) f = omega (arith, finally-short e f)
    catch-short (catches n b e) f = omega (arith, newlines_weigh n, block-short b f.0, finally-short e f.1)

    finally-short : {ts r : List Lexeme} {bs : G.Blocks} → Finally ts bs r → FormsIn bs → blocked bs + size_in y (blocks_in bs) + weight r ≤ weight ts
    finally-short no_finally f = omega arith
    finally-short (finishes n b) f = omega (arith, newlines_weigh n, block-short b f.0)

-- ---- the tokens of a text: raw texts lie apart

take_short : {A : Type 0} (k : ℕ) (l : List A) → length (take k l) ≤ k
take_short zero l = omega arith
take_short (suc k) [] = omega arith
take_short (suc k) (a ∷ l) = omega (arith, take_short k l)

module _ (s : List ℕ) where
  part-short : (r : Span) → length (part s (within (length s) r)) ≤ r.end - r.start
  unfolding within
  part-short r =
      either (λ (q : Span). length (part s q) ≤ r.end - r.start) (is_within (length s) r) r (span 0 0)
      (take_short (r.end - r.start) (drop r.start s)) (omega arith)

  raw-short : (k : TokenKind) (q : Span) → (raw_in k q).end - (raw_in k q).start ≤ q.end - q.start
  raw-short k q =
      either (λ (r : Span). r.end - r.start ≤ q.end - q.start) (is_kind k (K.String true)) (span (q.start + 1) (q.end - 1)) q (omega arith) (omega arith)

  -- nine for a token of at least one byte, and its text
  tokens_weigh : (i j : ℕ) (ts : List Token) → i ≤ length s → Spans s i ts → AllWhole (length s) ts → 10 * i + weight (numbered j s ts) ≤ 10 * length s
  tokens_weigh i j [] h p w = omega arith
  tokens_weigh i j (t ∷ ts) h (p, ps) (w, ws) =
      omega (arith, p.after, p.some, part-short t.raw, short, tokens_weigh t.span.end (suc j) ts p.inside ps ws)
    where
      short : t.raw.end - t.raw.start ≤ t.span.end - t.span.start
      short = subst (λ (u : Token). u.raw.end - u.raw.start ≤ u.span.end - u.span.start) (sym w.made) (raw-short t.kind t.span)

-- ---- the export of a text

module _ (y : Style) (room : ℕ) (text : List ℕ) (tokens : List Token) (x : Items) where
  -- at most ten bytes for each byte of the text
  pub short : lex_text text room ≡ accepted tokens → Text (numbered 0 text tokens) x → length (movie_bytes y (meaning_of x)) ≤ 10 * length text
  unfolding movie_bytes
  short e t =
      let h = (lexed room tokens text e).made in
      omega (
        arith,
        len_level y (meaning_of x) (meaning_of x) 0,
        level-short y (own_labels 0 0 [] x) t (forms t),
        tokens_weigh text 0 0 tokens (omega arith) (spans text tokens h) (all_whole text tokens h),
      )

  -- document 02, §5, reads 1,048,576 bytes
  pub below_limit : lex_text text room ≡ accepted tokens → Text (numbered 0 text tokens) x → length (movie_bytes y (meaning_of x)) ≤ 655360
  below_limit e t = omega (arith, short e t, (lexed room tokens text e).small)
