-- The forms that the grammar gives an action: which operands and blocks go with which shape. Assumes nothing.
use mathlib.Core.List.{List, [], ◌∷◌}
use Rattle.shapes.specs.declared.Shape.{Shape}
use Rattle.shapes.specs.declared.Shape.TheVariants as S
use Rattle.shapes.specs.Shapes.{shape_of}
use Rattle.lexemes.specs.Lexemes.{Lexeme}
use Rattle.lexemes.specs.Operands.{Class}
use Rattle.lexemes.specs.Events.{body, try, catch, finally}
use Rattle.grammar.specs.Grammar.{Items, done, label, action, Blocks, no_blocks, block, Body, Takes, push, constant_pool, get_url, get_url2, goto_frame, goto_frame2, goto_frame2_bias, goto_label, jump_to, store_register, wait_for_frame, define_function, define_function2, with_block, try_plain, try_target, others, Operands, last, Level, level, Written, ends, names, acts, Block, braces, Bodies, no_body, one-body, try-body, Catch, no_catch, catches, Finally, no_finally, finishes}

-- a record without sizes and offset
pub data Steady : Shape → Type 0 where
  nothing : Steady S.Nothing
  values : Steady S.Values
  strings : Steady S.Strings
  string_string : Steady S.StringString
  bool_bool_u8 : Steady S.BoolBoolU8
  u16 : Steady S.U16
  bool_bool_maybe_u16 : Steady S.BoolBoolMaybeU16
  string : Steady S.String
  u8 : Steady S.U8
  u16_u8 : Steady S.U16U8

-- a record that ends in the size of its one body
pub data Bodied : Shape → Type 0 where
  function : Bodied S.Function
  function2 : Bodied S.Function2
  with_block_lem : Bodied S.Block

pub data Form : Shape → List Lexeme → Blocks → Type 0 where
  steady : {s : Shape} (os : List Lexeme) → Steady s → Form s os no_blocks
  jump : (t : Lexeme) → Form S.Identifier (t ∷ []) no_blocks
  bodied : {s : Shape} (os : List Lexeme) (x : Items) → Bodied s → Form s os (block body x no_blocks)
  try-only : (x : Items) → Form S.Try [] (block try x no_blocks)
  try-finally : (x z : Items) → Form S.Try [] (block try x (block finally z no_blocks))
  try-catch : (os : List Lexeme) (x u : Items) → Form S.Try os (block try x (block catch u no_blocks))
  try-all : (os : List Lexeme) (x u z : Items) → Form S.Try os (block try x (block catch u (block finally z no_blocks)))

abbrev mutual
  -- of every action of a tree
  pub Forms : Items → Type 0
  Forms done = Unit {0}
  Forms (label t x) = Forms x
  Forms (action n os bs x) = Form (shape_of n) os bs × (FormsIn bs × Forms x)

  pub FormsIn : Blocks → Type 0
  FormsIn no_blocks = Unit {0}
  FormsIn (block p x bs) = Forms x × FormsIn bs

form : {s : Shape} {cs : List Class} {b : Body} {os ts us kept r₁ r₂ : List Lexeme} {bs : Blocks}
    → Takes s cs b → Operands cs ts os r₁ → Bodies b os us kept bs r₂ → Form s kept bs
form (push k) o no_body = steady _ values
form (constant_pool k) o no_body = steady _ strings
form get_url o no_body = steady _ string_string
form get_url2 o no_body = steady _ bool_bool_u8
form goto_frame o no_body = steady _ u16
form goto_frame2 o no_body = steady _ bool_bool_maybe_u16
form goto_frame2_bias o no_body = steady _ bool_bool_maybe_u16
form goto_label o no_body = steady _ string
form jump_to (last h) no_body = jump _
form store_register o no_body = steady _ u8
form wait_for_frame o no_body = steady _ u16_u8
form (define_function k) o (one-body b) = bodied _ _ function
form (define_function2 k) o (one-body b) = bodied _ _ function2
form with_block o (one-body b) = bodied _ _ with_block_lem
form try_plain o (try-body b (no_catch no_finally)) = try-only _
form try_plain o (try-body b (no_catch (finishes n f))) = try-finally _ _
form try_plain o (try-body b (catches n c no_finally)) = try-catch _ _ _
form try_plain o (try-body b (catches n c (finishes m f))) = try-all _ _ _ _
form try_target o (try-body b (no_catch no_finally)) = try-only _
form try_target o (try-body b (no_catch (finishes n f))) = try-finally _ _
form try_target o (try-body b (catches n c no_finally)) = try-catch _ _ _
form try_target o (try-body b (catches n c (finishes m f))) = try-all _ _ _ _
form others o no_body = steady _ nothing

mutual
  pub forms : {ts r : List Lexeme} {x : Items} → Level ts x r → Forms x
  forms (level n w) = written_forms w

  written_forms : {ts r : List Lexeme} {x : Items} → Written ts x r → Forms x
  written_forms ends = tt
  written_forms (names n w) = written_forms w
  written_forms (acts t o b e w) = (form t o b, (bodies_forms b, written_forms w))

  block_forms : {ts r : List Lexeme} {x : Items} → Block ts x r → Forms x
  block_forms (braces l) = forms l

  bodies_forms : {b : Body} {os ts kept r : List Lexeme} {bs : Blocks} → Bodies b os ts kept bs r → FormsIn bs
  bodies_forms no_body = tt
  bodies_forms (one-body b) = (block_forms b, tt)
  bodies_forms (try-body b c) = (block_forms b, catch_forms c)

  catch_forms : {os ts kept r : List Lexeme} {bs : Blocks} → Catch os ts kept bs r → FormsIn bs
  catch_forms (no_catch f) = finally_forms f
  catch_forms (catches n b f) = (block_forms b, finally_forms f)

  finally_forms : {ts r : List Lexeme} {bs : Blocks} → Finally ts bs r → FormsIn bs
  finally_forms no_finally = tt
  finally_forms (finishes n b) = (block_forms b, tt)
