-- The tree of records of a text's tree. Its sizes and positions are those of the text's movie. Assumes nothing.
use mathlib.Core.Path.{◌≡◌, refl, ap, sym, ◌∙◌}
use mathlib.Core.Bool.{Bool, true, false, cond}
use mathlib.Core.List.{List, [], ◌∷◌, map}
use Prim.Native.Nat.{ℕ, zero, suc, ◌+◌}
use lib.ListN.{length}
use Rattle.names.specs.declared.ActionName.{ActionName}
use Rattle.shapes.specs.declared.Shape.{Shape}
use Rattle.shapes.specs.declared.Shape.TheVariants as S
use Rattle.shapes.specs.Shapes.{shape_of}
use Rattle.lexemes.specs.Lexemes.{Lexeme, raw}
use Rattle.lexemes.specs.Events.{Part}
use Rattle.grammar.specs.Grammar as G
use Rattle.grammar.specs.Reading.{Label, own_labels}
use Rattle.movies.specs.Movie.{Value, string, number, integer, bool, register, constant, null, undefined, position, long, missing, done, action, Blocks, no_blocks, block, Act, ◌!◌, has}
use Rattle.movies.specs.Meaning.{meaning, position_of, target_or, normal, has_catch, is_jump, operands_of, meaning_in, blocks_in}
use Rattle.action_records.specs.declared.Style.{Style}
use Rattle.action_records.specs.Codes.{listed}
use Rattle.action_records.specs.Fields.{all_bytes}
use Rattle.action_records.specs.Operands.{fields}
use Rattle.action_records.specs.Bytes as R
use Rattle.action_records.specs.Bytes.{with_length, blank, fields_of, record_of}
use Rattle.action_records.proofs.Lengths.{len_with}
use Rattle.coding.specs.Heads.{head_fields, head_of}
use Rattle.filling.specs.Pieces.{Piece, Tree, size, size_in, start}

-- where a value jumps to: one more than the position, 0 for nowhere
abbrev pub aim_at : Value → ℕ
aim_at (string w) = 0
aim_at (number x) = 0
aim_at (integer z) = 0
aim_at (bool b) = 0
aim_at (register n) = 0
aim_at (constant n) = 0
aim_at null = 0
aim_at undefined = 0
aim_at (position p) = suc p
aim_at long = 0
aim_at missing = 0

-- where an action jumps to, in a level with these labels
abbrev pub aim_of : Shape → List Label → List Lexeme → ℕ
aim_of s l os = cond (is_jump s) (aim_at (map (λ (t : Lexeme). position_of (raw t) l) os ! 0)) 0

module _ (y : Style) where
  abbrev pub piece_of : List Label → ActionName → List Lexeme → Piece
  piece_of l n os = record { head = head_of y n os; aim = aim_of (shape_of n) l os }

  abbrev mutual
    -- of a level with these labels
    pub tree_in_lem : List Label → G.Items → Tree
    tree_in_lem l G.done = done
    tree_in_lem l (G.label t x) = tree_in_lem l x
    tree_in_lem l (G.action n os bs x) = action (piece_of l n os) (trees_in bs) (tree_in_lem l x)

    pub trees_in : G.Blocks → Blocks Piece
    trees_in G.no_blocks = no_blocks
    trees_in (G.block p x bs) = block p (tree_in_lem (own_labels 0 0 [] x) x) (trees_in bs)

  abbrev pub tree_of : G.Items → Tree
  tree_of x = tree_in_lem (own_labels 0 0 [] x) x

  -- ---- a record is as long as its head

  len_target : (c : Bool) (vs : List Value) → length (all_bytes blank (fields y S.Try (target_or c vs) (λ (p : Part). false))) ≡ length (all_bytes blank (fields y S.Try vs (λ (p : Part). false)))
  len_target true [] = refl
  len_target false [] = refl
  len_target c (v ∷ vs) = refl

  pub len_fields : (s : Shape) (l : List Label) (bs : G.Blocks) (os : List Lexeme)
      → length (all_bytes blank (fields y s (operands_of s l bs os) (has (blocks_in bs)))) ≡ length (all_bytes blank (fields y s (normal s false (map meaning os)) (λ (p : Part). false)))
  len_fields S.Nothing l bs os = refl
  len_fields S.Values l bs os = refl
  len_fields S.Strings l bs os = refl
  len_fields S.StringString l bs os = refl
  len_fields S.BoolBoolU8 l bs os = refl
  len_fields S.U16 l bs os = refl
  len_fields S.BoolBoolMaybeU16 l bs os = refl
  len_fields S.String l bs os = refl
  len_fields S.Identifier l bs os = refl
  len_fields S.U8 l bs os = refl
  len_fields S.U16U8 l bs os = refl
  len_fields S.Function l bs os = refl
  len_fields S.Function2 l bs os = refl
  len_fields S.Block l bs os = refl
  len_fields S.Try l bs os = len_target (has_catch bs) (map meaning os) ∙ sym (len_target false (map meaning os))

  abbrev pub act_of : List Label → ActionName → List Lexeme → G.Blocks → Act
  act_of l n os bs = record { name = n; operands = operands_of (shape_of n) l bs os }

  pub len_head : (l : List Label) (n : ActionName) (os : List Lexeme) (bs : G.Blocks)
      → length (head_of y n os) ≡ length (record_of y (act_of l n os bs) (blocks_in bs) blank)
  unfolding head_of record_of
  len_head l n os bs =
      len_with (listed n).code (all_bytes blank (head_fields y n os)) (all_bytes blank (fields_of y (act_of l n os bs) (blocks_in bs))) (sym (len_fields (shape_of n) l bs os))

  -- ---- sizes and positions

  mutual
    pub size_is : (l : List Label) (x : G.Items) → size (tree_in_lem l x) ≡ R.size y (meaning_in l x)
    size_is l G.done = refl
    size_is l (G.label t x) = size_is l x
    size_is l (G.action n os bs x) =
        ap (λ (i : ℕ). i + (size_in (trees_in bs) + size (tree_in_lem l x))) (len_head l n os bs)
        ∙ ap (λ (i : ℕ). length (record_of y (act_of l n os bs) (blocks_in bs) blank) + (i + size (tree_in_lem l x))) (sizes_are bs)
        ∙ ap (λ (i : ℕ). length (record_of y (act_of l n os bs) (blocks_in bs) blank) + (R.size_in y (blocks_in bs) + i)) (size_is l x)

    pub sizes_are : (bs : G.Blocks) → size_in (trees_in bs) ≡ R.size_in y (blocks_in bs)
    sizes_are G.no_blocks = refl
    sizes_are (G.block p x bs) =
        ap (λ (i : ℕ). i + size_in (trees_in bs)) (size_is (own_labels 0 0 [] x) x)
        ∙ ap (λ (i : ℕ). R.size y (meaning_in (own_labels 0 0 [] x) x) + i) (sizes_are bs)

  pub start_is : (l : List Label) (x : G.Items) (p : ℕ) → start (tree_in_lem l x) p ≡ R.start y (meaning_in l x) p
  start_is l G.done p = refl
  start_is l (G.label t x) p = start_is l x p
  start_is l (G.action n os bs x) zero = refl
  start_is l (G.action n os bs x) (suc p) =
      ap (λ (i : ℕ). i + (size_in (trees_in bs) + start (tree_in_lem l x) p)) (len_head l n os bs)
      ∙ ap (λ (i : ℕ). length (record_of y (act_of l n os bs) (blocks_in bs) blank) + (i + start (tree_in_lem l x) p)) (sizes_are bs)
      ∙ ap (λ (i : ℕ). length (record_of y (act_of l n os bs) (blocks_in bs) blank) + (R.size_in y (blocks_in bs) + i)) (start_is l x p)
