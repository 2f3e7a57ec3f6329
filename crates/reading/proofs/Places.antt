-- What holds of every token of a text holds of every token in its tree. Assumes nothing.
use mathlib.Core.List.{List, [], ◌∷◌}
use Rattle.lexemes.specs.Lexemes.{Lexeme}
use Rattle.lexemes.specs.Operands.{Class}
use Rattle.grammar.specs.Grammar.{Items, done, label, action, Blocks, no_blocks, block, Body, Operands, no_operand, last, comma, Newlines, no_newline, newline, Ended, text-ends, line_ends_lem, Level, level, Written, ends, names, acts, Block, braces, Bodies, no_body, one-body, try-body, Catch, no_catch, catches, Finally, no_finally, finishes, Text}
use Rattle.reading.specs.Trees.{All, AllOf, AllIn}

module _ {P Q : Lexeme → Type 0} (f : (t : Lexeme) → P t → Q t) where
  pub weaker : (l : List Lexeme) → All P l → All Q l
  weaker [] h = tt
  weaker (t ∷ l) h = (f t h.0, weaker l h.1)

  mutual
    pub weaker_of : (x : Items) → AllOf P x → AllOf Q x
    weaker_of done h = tt
    weaker_of (label t x) h = (f t h.0, weaker_of x h.1)
    weaker_of (action n os bs x) h = (weaker os h.0, (weaker_in bs h.1.0, weaker_of x h.1.1))

    pub weaker_in : (bs : Blocks) → AllIn P bs → AllIn Q bs
    weaker_in no_blocks h = tt
    weaker_in (block p x bs) h = (weaker_of x h.0, weaker_in bs h.1)

module _ (P : Lexeme → Type 0) where
  newlines_all : {ts r : List Lexeme} → Newlines ts r → All P ts → All P r
  newlines_all no_newline h = h
  newlines_all (newline n) h = newlines_all n h.1

  ended-all : {ts r : List Lexeme} → Ended ts r → All P ts → All P r
  ended-all text-ends h = h
  ended-all (line_ends_lem n) h = newlines_all n h.1

  -- of what is read, and of what is behind it
  operands-all : {cs : List Class} {ts os r : List Lexeme} → Operands cs ts os r → All P ts → All P os × All P r
  operands-all no_operand h = (tt, h)
  operands-all (last e) h = ((h.0, tt), h.1)
  operands-all (comma e o) h = let i = operands-all o h.1.1 in ((h.0, i.0), i.1)

  mutual
    pub level_all : {ts r : List Lexeme} {x : Items} → Level ts x r → All P ts → AllOf P x × All P r
    level_all (level n w) h = written_all w (newlines_all n h)

    written_all : {ts r : List Lexeme} {x : Items} → Written ts x r → All P ts → AllOf P x × All P r
    written_all ends h = (tt, h)
    written_all (names n w) h = let i = written_all w (newlines_all n h.1.1) in ((h.0, i.0), i.1)
    written_all (acts t o b e w) h =
        let j = operands-all o h.1 in
        let k = bodies_all b j.0 j.1 in
        let i = written_all w (ended-all e k.1.1) in
        ((k.0, (k.1.0, i.0)), i.1)

    block-all : {ts r : List Lexeme} {x : Items} → Block ts x r → All P ts → AllOf P x × All P r
    block-all (braces l) h = let i = level_all l h.1 in (i.0, i.1.1)

    bodies_all : {b : Body} {os ts kept r : List Lexeme} {bs : Blocks}
        → Bodies b os ts kept bs r → All P os → All P ts → All P kept × (AllIn P bs × All P r)
    bodies_all no_body h g = (h, (tt, g))
    bodies_all (one-body b) h g = let i = block-all b g in (h, ((i.0, tt), i.1))
    bodies_all (try-body b c) h g =
        let i = block-all b g in
        let k = catch-all c h i.1 in
        (k.0, ((i.0, k.1.0), k.1.1))

    catch-all : {os ts kept r : List Lexeme} {bs : Blocks}
        → Catch os ts kept bs r → All P os → All P ts → All P kept × (AllIn P bs × All P r)
    catch-all (no_catch f) h g = (tt, finally-all f g)
    catch-all (catches n b f) h g =
        let i = block-all b (newlines_all n g.1).1 in
        let k = finally-all f i.1 in
        (h, ((i.0, k.0), k.1))

    finally-all : {ts r : List Lexeme} {bs : Blocks} → Finally ts bs r → All P ts → AllIn P bs × All P r
    finally-all no_finally h = (tt, h)
    finally-all (finishes n b) h =
        let i = block-all b (newlines_all n h.1).1 in
        ((i.0, tt), i.1)

pub text-all : (P : Lexeme → Type 0) {ts : List Lexeme} {x : Items} → Text ts x → All P ts → AllOf P x
text-all P t h = (level_all P t h).0
