-- A list of tokens that is alike a text is a text, and its tree is alike. Assumes nothing.
use mathlib.Core.Path.{◌≡◌, refl, sym, ◌∙◌}
use mathlib.Core.Bool.{true, false, false≢true}
use mathlib.Core.List.{List, [], ◌∷◌}
use Prim.Native.Nat.{ℕ}
use Rattle.names.specs.declared.ActionName.{ActionName}
use Rattle.tokens.specs.declared.TokenKind.{TokenKind}
use Rattle.tokens.specs.declared.TokenKind.TheVariants as K
use Rattle.tokens.specs.Kinds.{is_kind}
use Rattle.values.specs.Values.{push_value}
use Rattle.lexemes.specs.Lexemes.{Lexeme, lexeme}
use Rattle.lexemes.specs.Operands.{Class, string, value, bool, only_true, only_false, u8, u16, identifier, target, count, is_operand}
use Rattle.lexemes.specs.Events.{Part}
use Rattle.grammar.specs.Grammar as G
use Rattle.grammar.specs.Grammar.{Items, done, label, action, Blocks, no_blocks, block, Body, Operands, no_operand, last, comma, Newlines, no_newline, newline, Ended, text-ends, line_ends_lem, Level, level, Written, Block, braces, Bodies, no_body, one-body, try-body, Catch, no_catch, catches, Finally, no_finally, finishes, Text}
use Rattle.unclosed.specs.Alike.{Each, none, next, Alike, same, quoted}

module _ (At : ℕ → ℕ → Type 0) where
  abbrev Tokens : List Lexeme → List Lexeme → Type 0
  Tokens ts us = Each (Alike At) ts us

  -- trees of one shape, whose tokens are alike
  mutual
    pub data AlikeItems : Items → Items → Type 0 where
      ends : AlikeItems done done
      names : {t u : Lexeme} {x y : Items} → Alike At t u → AlikeItems x y → AlikeItems (label t x) (label u y)
      acts : {n : ActionName} {os us : List Lexeme} {bs cs : Blocks} {x y : Items} →
          Tokens os us → AlikeBlocks bs cs → AlikeItems x y → AlikeItems (action n os bs x) (action n us cs y)

    pub data AlikeBlocks : Blocks → Blocks → Type 0 where
      no_more : AlikeBlocks no_blocks no_blocks
      also : {p : Part} {x y : Items} {bs cs : Blocks} → AlikeItems x y → AlikeBlocks bs cs → AlikeBlocks (block p x bs) (block p y cs)

  -- what a token may be an operand of
  operand_alike : (c : Class) {t u : Lexeme} → Alike At t u → is_operand c u ≡ is_operand c t
  unfolding push_value
  operand_alike string (same p) = refl
  operand_alike string (quoted p) = refl
  operand_alike value (same p) = refl
  operand_alike value (quoted p) = refl
  operand_alike bool (same p) = refl
  operand_alike bool (quoted p) = refl
  operand_alike only_true (same p) = refl
  operand_alike only_true (quoted p) = refl
  operand_alike only_false (same p) = refl
  operand_alike only_false (quoted p) = refl
  operand_alike u8 (same p) = refl
  operand_alike u8 (quoted p) = refl
  operand_alike u16 (same p) = refl
  operand_alike u16 (quoted p) = refl
  operand_alike identifier (same p) = refl
  operand_alike identifier (quoted p) = refl
  operand_alike target (same p) = refl
  operand_alike target (quoted p) = refl
  operand_alike (count n) (same p) = refl
  operand_alike (count n) (quoted p) = refl

  -- ---- what is read of the one list is read of the other, and what is left is alike: for each relation of the grammar

  abbrev Left : List Lexeme → (List Lexeme → Type 0) → Type 0
  Left r M = (q : List Lexeme) × Tokens r q × M q

  abbrev Tree : Items → (Items → Type 0) → Type 0
  Tree x M = (y : Items) × AlikeItems x y × M y

  abbrev Trees : List Lexeme → Blocks → (List Lexeme → Blocks → Type 0) → Type 0
  Trees kept bs M = (ks : List Lexeme) × (cs : Blocks) × Tokens kept ks × AlikeBlocks bs cs × M ks cs

  newlines_too : {ts r us : List Lexeme} → Newlines ts r → Tokens ts us → Left r (λ q. Newlines us q)
  newlines_too no_newline e = (_, e, no_newline)
  newlines_too (newline n) (next (same p) e) = let (q, f, m) = newlines_too n e in (q, f, newline m)

  ended_too : {ts r us : List Lexeme} → Ended ts r → Tokens ts us → Left r (λ q. Ended us q)
  ended_too text-ends none = ([], none, text-ends)
  ended_too (line_ends_lem n) (next (same p) e) = let (q, f, m) = newlines_too n e in (q, f, line_ends_lem m)

  operands_too : {cs : List Class} {ts os r us : List Lexeme} → Operands cs ts os r → Tokens ts us
      → Left r (λ q. (vs : List Lexeme) × Tokens os vs × Operands cs us vs q)
  operands_too no_operand e = (_, e, ([], none, no_operand))
  operands_too (last {c = c} h) (next a e) = (_, e, (_, next a none, last (operand_alike c a ∙ h)))
  operands_too (comma {c = c} h o) (next a (next (same p) e)) =
      let (q, f, m) = operands_too o e in (q, f, (_, next a m.1, comma (operand_alike c a ∙ h) m.2))

  -- a first token that is no string
  first_too : {k : TokenKind} {j : ℕ} {v : List ℕ} {ts us : List Lexeme} (M : List Lexeme → Type 0) → is_kind k (K.String true) ≡ false
      → Tokens (lexeme j k v ∷ ts) us → M us → Left ts (λ q. (i : ℕ) × M (lexeme i k v ∷ q))
  first_too M h (next (same p) e) m = (_, e, (_, m))
  first_too M h (next (quoted p) e) m = absurd (false≢true (sym h))

  mutual
    level_too : {ts r us : List Lexeme} {x : Items} → Level ts x r → Tokens ts us → Left r (λ q. Tree x (λ y. Level us y q))
    level_too (level n w) e =
        let (q, f, m) = newlines_too n e in
        let (s, g, t) = written_too w f in
        (s, g, (t.0, t.1, level m t.2))

    written_too : {ts r us : List Lexeme} {x : Items} → Written ts x r → Tokens ts us → Left r (λ q. Tree x (λ y. Written us y q))
    written_too G.ends e = (_, e, (done, ends, G.ends))
    written_too (G.names n w) (next (same a) (next (same p) e)) =
        let (q, f, m) = newlines_too n e in
        let (s, g, t) = written_too w f in
        (s, g, (_, names (same a) t.1, G.names m t.2))
    written_too (G.acts t o b z w) (next (same p) e) =
        let (q, f, m) = operands_too o e in
        let (s, g, c) = bodies_too b m.1 f in
        let (u, h, d) = ended_too z g in
        let (v, i, k) = written_too w h in
        (v, i, (_, acts c.2 c.3 k.1, G.acts t m.2 c.4 d k.2))

    block_too : {ts r us : List Lexeme} {x : Items} → Block ts x r → Tokens ts us → Left r (λ q. Tree x (λ y. Block us y q))
    block_too (braces {x = x} l) (next {r = us} (same p) e) =
        let (q, f, t) = level_too l e in
        let (s, g, c) = first_too (λ l. Tree x (λ y. Level us y l)) refl f t in
        (s, g, (c.1.0, c.1.1, braces c.1.2))

    bodies_too : {b : Body} {os ts kept r vs us : List Lexeme} {bs : Blocks} → Bodies b os ts kept bs r → Tokens os vs → Tokens ts us
        → Left r (λ q. Trees kept bs (λ ks cs. Bodies b vs us ks cs q))
    bodies_too no_body o e = (_, e, (_, no_blocks, o, no_more, no_body))
    bodies_too (one-body k) o e = let (q, f, t) = block_too k e in (q, f, (_, _, o, also t.1 no_more, one-body t.2))
    bodies_too (try-body k c) o e =
        let (q, f, t) = block_too k e in
        let (s, g, d) = catch_too c o f in
        (s, g, (d.0, _, d.2, also t.1 d.3, try-body t.2 d.4))

    catch_too : {os ts kept r vs us : List Lexeme} {bs : Blocks} → Catch os ts kept bs r → Tokens os vs → Tokens ts us
        → Left r (λ q. Trees kept bs (λ ks cs. Catch vs us ks cs q))
    catch_too (no_catch l) o e = let (q, f, d) = finally_too l e in (q, f, ([], d.0, none, d.1, no_catch d.2))
    catch_too (catches n k l) o (next {r = us} (same p) e) =
        let (q, f, m) = newlines_too n e in
        let (s, g, c) = first_too (Newlines us) refl f m in
        let (u, h, t) = block_too k g in
        let (v, i, d) = finally_too l h in
        (v, i, (_, _, o, also t.1 d.1, catches c.1 t.2 d.2))

    finally_too : {ts r us : List Lexeme} {bs : Blocks} → Finally ts bs r → Tokens ts us → Left r (λ q. (cs : Blocks) × AlikeBlocks bs cs × Finally us cs q)
    finally_too no_finally e = (_, e, (no_blocks, no_more, no_finally))
    finally_too (finishes n k) (next {r = us} (same p) e) =
        let (q, f, m) = newlines_too n e in
        let (s, g, c) = first_too (Newlines us) refl f m in
        let (u, h, t) = block_too k g in
        (u, h, (_, also t.1 no_more, finishes c.1 t.2))

  -- a whole text
  at-end : {q us : List Lexeme} {x : Items} → Tokens [] q → Tree x (λ y. Level us y q) → Tree x (λ y. Text us y)
  at-end none t = t

  pub text_too : {ts us : List Lexeme} {x : Items} → Text ts x → Tokens ts us → Tree x (λ y. Text us y)
  text_too t e = let (q, f, m) = level_too t e in at-end f m
