-- Document 01, 'Grammar', bullet by bullet. `Level ts x r` says: the tokens `ts` are a level that reads as the tree `x`,
-- followed by the tokens `r`; the other relations likewise.
use Rattle.std.specs.Prelude.{◌≡◌, true, List, [], ◌∷◌, ◌++◌, ℕ, replicate}
use Rattle.names.specs.declared.ActionName.{ActionName}
use Rattle.shapes.specs.declared.Shape.{Shape}
use Rattle.shapes.specs.declared.Shape.TheVariants as S
use Rattle.shapes.specs.Shapes.{shape_of}
use Rattle.tokens.specs.declared.TokenKind.TheVariants as K
use Rattle.lexemes.specs.Lexemes.{Lexeme, lexeme}
use Rattle.lexemes.specs.Operands.{Class, string, value, bool, only_true, only_false, u8, u16, identifier, target, count, pairs, is_operand}
use Rattle.lexemes.specs.Events.{Part, body, try, catch, finally}

mutual
  -- the labels and actions of a level in written order; an action has its name, its operand entries and its blocks
  pub data Items : Type 0 where
    done : Items
    label : Lexeme → Items → Items
    action : ActionName → List Lexeme → Blocks → Items → Items

  pub data Blocks : Type 0 where
    no_blocks : Blocks
    block : Part → Items → Blocks → Blocks

-- ---- what an action takes

-- the blocks behind its operands: none, one, or those of a Try
pub data Body : Type 0 where
  nothing one of_try : Body

-- by its shape: the classes of its operands, and its blocks. Shapes are named by their operands; the rules here, by an
-- action that has them
pub data Takes : Shape → List Class → Body → Type 0 where
  push : (k : ℕ) → Takes S.Values (replicate k value) nothing
  constant_pool : (k : ℕ) → Takes S.Strings (replicate k string) nothing
  get_url : Takes S.StringString (string ∷ string ∷ []) nothing
  get_url2 : Takes S.BoolBoolU8 (bool ∷ bool ∷ u8 ∷ []) nothing
  goto_frame : Takes S.U16 (u16 ∷ []) nothing
  goto_frame2 : Takes S.BoolBoolMaybeU16 (only_false ∷ bool ∷ []) nothing
  goto_frame2_bias : Takes S.BoolBoolMaybeU16 (only_true ∷ bool ∷ u16 ∷ []) nothing
  goto_label : Takes S.String (string ∷ []) nothing
  jump_to : Takes S.Identifier (identifier ∷ []) nothing
  store_register : Takes S.U8 (u8 ∷ []) nothing
  wait_for_frame : Takes S.U16U8 (u16 ∷ u8 ∷ []) nothing
  define_function : (k : ℕ) → Takes S.Function (string ∷ count k ∷ replicate k string) one
  define_function2 : (k : ℕ) → Takes S.Function2 (string ∷ count k ∷ u8 ∷ (replicate 9 bool ++ pairs k)) one
  with_block : Takes S.Block [] one
  try_plain : Takes S.Try [] of_try
  try_target : Takes S.Try (target ∷ []) of_try
  others : Takes S.Nothing [] nothing

-- operands of these classes, parted by commas
pub data Operands : List Class → List Lexeme → List Lexeme → List Lexeme → Type 0 where
  no_operand : {r : List Lexeme} → Operands [] r [] r
  last : {c : Class} {t : Lexeme} {r : List Lexeme} → is_operand c t ≡ true → Operands (c ∷ []) (t ∷ r) (t ∷ []) r
  comma : {c d : Class} {cs : List Class} {i : ℕ} {w : List ℕ} {t : Lexeme} {ts os r : List Lexeme} →
      is_operand c t ≡ true → Operands (d ∷ cs) ts os r → Operands (c ∷ d ∷ cs) (t ∷ lexeme i K.Comma w ∷ ts) (t ∷ os) r

-- ---- levels, actions and blocks

-- any newlines
pub data Newlines : List Lexeme → List Lexeme → Type 0 where
  no_newline : {r : List Lexeme} → Newlines r r
  newline : {i : ℕ} {w : List ℕ} {ts r : List Lexeme} → Newlines ts r → Newlines (lexeme i K.Newline w ∷ ts) r

-- the end of the text or at least one newline
pub data Ended : List Lexeme → List Lexeme → Type 0 where
  text-ends : Ended [] []
  line_ends_lem : {i : ℕ} {w : List ℕ} {ts r : List Lexeme} → Newlines ts r → Ended (lexeme i K.Newline w ∷ ts) r

mutual
  -- a level starts with any newlines; then come labels and actions
  pub data Level : List Lexeme → Items → List Lexeme → Type 0 where
    level : {ts r₁ r : List Lexeme} {x : Items} → Newlines ts r₁ → Written r₁ x r → Level ts x r

  -- a label is an identifier, a colon, any newlines; an action is followed by the end of the text or at least one newline
  pub data Written : List Lexeme → Items → List Lexeme → Type 0 where
    ends : {r : List Lexeme} → Written r done r
    names : {i j : ℕ} {w v : List ℕ} {ts r₁ r : List Lexeme} {x : Items} →
        Newlines ts r₁ → Written r₁ x r →
        Written (lexeme i K.Identifier w ∷ lexeme j K.Colon v ∷ ts) (label (lexeme i K.Identifier w) x) r
    acts : {n : ActionName} {cs : List Class} {b : Body} {i : ℕ} {w : List ℕ} {ts os kept r₁ r₂ r₃ r : List Lexeme} {bs : Blocks} {x : Items} →
        Takes (shape_of n) cs b → Operands cs ts os r₁ → Bodies b os r₁ kept bs r₂ → Ended r₂ r₃ → Written r₃ x r →
        Written (lexeme i (K.ActionName n) w ∷ ts) (action n kept bs x) r

  -- a block is `{`, a level, `}`; no newline before `{`
  pub data Block : List Lexeme → Items → List Lexeme → Type 0 where
    braces : {i j : ℕ} {w v : List ℕ} {ts r : List Lexeme} {x : Items} →
        Level ts x (lexeme j K.CloseBrace v ∷ r) → Block (lexeme i K.OpenBrace w ∷ ts) x r

  -- the blocks behind the operands `os`, of which those `kept` get an entry
  pub data Bodies : Body → (os ts kept : List Lexeme) → Blocks → List Lexeme → Type 0 where
    no_body : {os r : List Lexeme} → Bodies nothing os r os no_blocks r
    one-body : {os ts r : List Lexeme} {x : Items} → Block ts x r → Bodies one os ts os (block body x no_blocks) r
    try-body : {os ts kept r₁ r : List Lexeme} {x : Items} {bs : Blocks} →
        Block ts x r₁ → Catch os r₁ kept bs r → Bodies of_try os ts kept (block try x bs) r

  -- then, if present, one or more newlines, `catch`, block; without a catch block the target is dropped
  pub data Catch : (os ts kept : List Lexeme) → Blocks → List Lexeme → Type 0 where
    no_catch : {os ts r : List Lexeme} {bs : Blocks} → Finally ts bs r → Catch os ts [] bs r
    catches : {i j : ℕ} {w v : List ℕ} {os ts u r₁ r : List Lexeme} {x : Items} {bs : Blocks} →
        Newlines ts (lexeme j K.Catch v ∷ u) → Block u x r₁ → Finally r₁ bs r → Catch os (lexeme i K.Newline w ∷ ts) os (block catch x bs) r

  -- then, if present, one or more newlines, `finally`, block
  pub data Finally : List Lexeme → Blocks → List Lexeme → Type 0 where
    no_finally : {r : List Lexeme} → Finally r no_blocks r
    finishes : {i j : ℕ} {w v : List ℕ} {ts u r : List Lexeme} {x : Items} →
        Newlines ts (lexeme j K.Finally v ∷ u) → Block u x r → Finally (lexeme i K.Newline w ∷ ts) (block finally x no_blocks) r

-- a whole text: a level with nothing behind it
abbrev pub Text : List Lexeme → Items → Type 0
Text ts x = Level ts x []
