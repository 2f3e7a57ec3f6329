-- What is written of the tree of records is the movie's bytes, if no jump's label is missing. Assumes nothing.
use mathlib.Core.Path.{◌≡◌, refl, ap, sym, ◌∙◌}
use mathlib.Core.Bool.{false}
use mathlib.Core.List.{List, [], ◌∷◌, ◌++◌}
use Prim.Native.Nat.{ℕ, zero, suc}
use lib.IntN.{ℤ, sub_ℕ}
use Rattle.names.specs.declared.ActionName.{ActionName}
use Rattle.shapes.specs.Shapes.{shape_of}
use Rattle.lexemes.specs.Lexemes.{Lexeme}
use Rattle.grammar.specs.Grammar as G
use Rattle.grammar.specs.Reading.{Label, own_labels}
use Rattle.reading.proofs.Runs.{Every}
use Rattle.movies.specs.Meaning.{meaning_in, blocks_in, meaning_of}
use Rattle.movies.specs.Sites.{Site, sites_from, sites_in, sites}
use Rattle.action_records.specs.declared.Style.{Style}
use Rattle.action_records.specs.Fields.{two's_complement}
use Rattle.action_records.specs.Bytes as R
use Rattle.action_records.specs.Bytes.{bytes_of_all, bytes_at, movie_bytes}
use Rattle.action_records.specs.Export.{lacks_label}
use Rattle.action_records.proofs.Lengths.{bytes-append}
use Rattle.coding.specs.Heads.{head_of}
use Rattle.filling.specs.Pieces.{start, with16, with_blocks, with_offset, bytes_from, bytes_in}
use Rattle.pieces.proofs.Forms.{Form, Forms, FormsIn}
use Rattle.pieces.proofs.Trees.{aim_of, tree_in_lem, trees_in, tree_of, act_of, start_is}
use Rattle.pieces.proofs.Records.{aimed, record_is}

-- ---- every action

pub every_first : (P : Site → Type 0) (ss ts : List Site) → Every P (ss ++ ts) → Every P ss
every_first P [] ts h = tt
every_first P (s ∷ ss) ts (h, r) = (h, every_first P ss ts r)

pub every_rest : (P : Site → Type 0) (ss ts : List Site) → Every P (ss ++ ts) → Every P ts
every_rest P [] ts h = h
every_rest P (s ∷ ss) ts (h, r) = every_rest P ss ts r

-- its label is in its level, if it is a jump
abbrev pub Labelled : Site → Type 0
Labelled s = lacks_label s.act.operands ≡ false

module _ (y : Style) where
  -- the action at position k of the level L
  abbrev pub site_at : List Label → G.Items → ℕ → ActionName → List Lexeme → G.Blocks → Site
  site_at l L k n os bs = record { level = meaning_in l L; position = k; act = act_of y l n os bs; blocks = blocks_in bs }

  pub offset-is : (l : List Label) (L : G.Items) (k p : ℕ)
      → sub_ℕ (start (tree_in_lem y l L) p) (start (tree_in_lem y l L) (suc k)) ≡ sub_ℕ (R.start y (meaning_in l L) p) (R.start y (meaning_in l L) (suc k))
  offset-is l L k p =
      ap (λ (i : ℕ). sub_ℕ i (start (tree_in_lem y l L) (suc k))) (start_is y l L p)
      ∙ ap (λ (i : ℕ). sub_ℕ (R.start y (meaning_in l L) p) i) (start_is y l L (suc k))

  aimed-is : (l : List Label) (L : G.Items) (k aim : ℕ) (r : List ℕ)
      → with_offset (tree_in_lem y l L) k aim r ≡ aimed (λ (p : ℕ). sub_ℕ (R.start y (meaning_in l L) p) (R.start y (meaning_in l L) (suc k))) aim r
  aimed-is l L k zero r = refl
  aimed-is l L k (suc p) r = ap (λ (z : ℤ). with16 3 (two's_complement 16 z) r) (offset-is l L k p)

  record_at : (l : List Label) (L : G.Items) (k : ℕ) (n : ActionName) (os : List Lexeme) (bs : G.Blocks) → Form (shape_of n) os bs
      → Labelled (site_at l L k n os bs)
      → with_offset (tree_in_lem y l L) k (aim_of (shape_of n) l os) (with_blocks (trees_in y bs) (head_of y n os)) ≡ bytes_at y (site_at l L k n os bs)
  record_at l L k n os bs form found =
      aimed-is l L k (aim_of (shape_of n) l os) (with_blocks (trees_in y bs) (head_of y n os))
      ∙ sym (record_is y l n os bs form (λ (p : ℕ). sub_ℕ (R.start y (meaning_in l L) p) (R.start y (meaning_in l L) (suc k))) found)

  mutual
    bytes-from : (l : List Label) (L : G.Items) (k : ℕ) (x : G.Items) → Forms x → Every Labelled (sites_from (meaning_in l L) k (meaning_in l x))
        → bytes_from (tree_in_lem y l L) k (tree_in_lem y l x) ≡ bytes_of_all y (sites_from (meaning_in l L) k (meaning_in l x))
    bytes-from l L k G.done forms found = refl
    bytes-from l L k (G.label t x) forms found = bytes-from l L k x forms found
    bytes-from l L k (G.action n os bs x) (form, (in_blocks, forms)) (this, found) =
        let rest = sites_from (meaning_in l L) (suc k) (meaning_in l x) in
        ap (λ (r : List ℕ). r ++ (bytes_in (trees_in y bs) ++ bytes_from (tree_in_lem y l L) (suc k) (tree_in_lem y l x))) (record_at l L k n os bs form this)
        ∙ ap (λ (r : List ℕ). bytes_at y (site_at l L k n os bs) ++ r)
        (ap (λ (r : List ℕ). r ++ bytes_from (tree_in_lem y l L) (suc k) (tree_in_lem y l x)) (bytes_in_lem bs in_blocks (every_first Labelled (sites_in (blocks_in bs)) rest found))
        ∙ ap (λ (r : List ℕ). bytes_of_all y (sites_in (blocks_in bs)) ++ r) (bytes-from l L (suc k) x forms (every_rest Labelled (sites_in (blocks_in bs)) rest found))
        ∙ sym (bytes-append y (sites_in (blocks_in bs)) rest))

    bytes_in_lem : (bs : G.Blocks) → FormsIn bs → Every Labelled (sites_in (blocks_in bs)) → bytes_in (trees_in y bs) ≡ bytes_of_all y (sites_in (blocks_in bs))
    bytes_in_lem G.no_blocks forms found = refl
    bytes_in_lem (G.block p x bs) (form, forms) found =
        let l = own_labels 0 0 [] x in
        let own = sites_from (meaning_in l x) 0 (meaning_in l x) in
        ap (λ (r : List ℕ). r ++ bytes_in (trees_in y bs)) (bytes-from l x 0 x form (every_first Labelled own (sites_in (blocks_in bs)) found))
        ∙ ap (λ (r : List ℕ). bytes_of_all y own ++ r) (bytes_in_lem bs forms (every_rest Labelled own (sites_in (blocks_in bs)) found))
        ∙ sym (bytes-append y own (sites_in (blocks_in bs)))

  pub bytes_are : (x : G.Items) → Forms x → Every Labelled (sites (meaning_of x)) → bytes_from (tree_of y x) 0 (tree_of y x) ≡ movie_bytes y (meaning_of x)
  unfolding movie_bytes
  bytes_are x forms found = bytes-from (own_labels 0 0 [] x) x 0 x forms found
