-- The actions of a tree in written order, each with its level's number and items: the movie's sites and the reading's actions are told of
-- the same list. Assumes nothing.
use mathlib.Core.Path.{◌≡◌, refl, ap, sym, ◌∙◌}
use mathlib.Core.List.{List, [], ◌∷◌, ◌++◌, map, append_assoc, append-nil}
use mathlib.Core.Option.{none, some}
use Prim.Native.Nat.{ℕ, suc, ◌+◌}
use native.Mathlib.Omega.{arith}
use lib.ListN.{length, drop}
use lib.Seq.{drop_at, drop-drop}
use Rattle.names.specs.declared.ActionName.{ActionName}
use Rattle.shapes.specs.Shapes.{shape_of}
use Rattle.lexemes.specs.Lexemes.{Lexeme}
use Rattle.grammar.specs.Grammar.{Items, done, label, action, Blocks, no_blocks, block}
use Rattle.grammar.specs.Reading.{Label, Opened, Acted, all_actions, actions_inside, opened_of, opened_in, opened, acted_of, acted_in, own_labels}
use Rattle.reading.proofs.Runs.{Every, every_append}
use Rattle.reading.proofs.Trees.{opened-count, opened-counts}
use Rattle.movies.specs.Meaning.{meaning_in, blocks_in, meaning_of}
use Rattle.movies.specs.Sites.{Site, sites_from, sites_in, sites}
use Rattle.action_records.specs.declared.Style.{Style}
use Rattle.pieces.proofs.Forms.{Form, Forms, FormsIn}
use Rattle.coding.specs.Heads.{head_of}
use Rattle.filling.specs.Pieces.{size, size_in}
use Rattle.pieces.proofs.Trees.{tree_in_lem, trees_in, tree_of}
use Rattle.pieces.proofs.Bytes.{site_at}

-- an action of level ℓ, whose items are these, at its position
pub record Spot : Type 0 where
  pub level : ℕ
  pub items : Items
  pub position : ℕ
  pub name : ActionName
  pub operands : List Lexeme
  pub blocks : Blocks

abbrev mutual
  -- those of level ℓ with the items L from position k on; the next level is m
  pub spots_from : ℕ → Items → ℕ → ℕ → Items → List Spot
  spots_from ℓ L k m done = []
  spots_from ℓ L k m (label t x) = spots_from ℓ L k m x
  spots_from ℓ L k m (action n os bs x) =
      record { level = ℓ; items = L; position = k; name = n; operands = os; blocks = bs }
      ∷ spots_in m bs ++ spots_from ℓ L (suc k) (m + length (opened_in 0 0 bs)) x

  pub spots_in : ℕ → Blocks → List Spot
  spots_in m no_blocks = []
  spots_in m (block p x bs) = spots_from m x 0 (suc m) x ++ spots_in (suc m + length (opened_of 0 x)) bs

abbrev pub spots : Items → List Spot
spots x = spots_from 0 x 0 1 x

abbrev pub acted_at : Spot → Acted
acted_at s = record { name = s.name; level = s.level; operands = s.operands }

map-append : {A B : Type 0} (f : A → B) (u v : List A) → map f (u ++ v) ≡ map f u ++ map f v
map-append f [] v = refl
map-append f (x ∷ u) v = ap (λ l. f x ∷ l) (map-append f u v)

-- ---- the movie's sites

module _ (y : Style) where
  abbrev pub site_of : Spot → Site
  site_of s = site_at y (own_labels 0 0 [] s.items) s.items s.position s.name s.operands s.blocks

  mutual
    sites-from : (ℓ : ℕ) (L : Items) (k m : ℕ) (x : Items)
        → sites_from (meaning_in (own_labels 0 0 [] L) L) k (meaning_in (own_labels 0 0 [] L) x) ≡ map site_of (spots_from ℓ L k m x)
    sites-from ℓ L k m done = refl
    sites-from ℓ L k m (label t x) = sites-from ℓ L k m x
    sites-from ℓ L k m (action n os bs x) =
        let l = own_labels 0 0 [] L in
        let rest = spots_from ℓ L (suc k) (m + length (opened_in 0 0 bs)) x in
        ap (λ (r : List Site). site_at y l L k n os bs ∷ r)
        (ap (λ (r : List Site). r ++ sites_from (meaning_in l L) (suc k) (meaning_in l x)) (sites_in_lem m bs)
        ∙ ap (λ (r : List Site). map site_of (spots_in m bs) ++ r) (sites-from ℓ L (suc k) (m + length (opened_in 0 0 bs)) x)
        ∙ sym (map-append site_of (spots_in m bs) rest))

    sites_in_lem : (m : ℕ) (bs : Blocks) → sites_in (blocks_in bs) ≡ map site_of (spots_in m bs)
    sites_in_lem m no_blocks = refl
    sites_in_lem m (block p x bs) =
        ap (λ (r : List Site). r ++ sites_in (blocks_in bs)) (sites-from m x 0 (suc m) x)
        ∙ ap (λ (r : List Site). map site_of (spots_from m x 0 (suc m) x) ++ r) (sites_in_lem (suc m + length (opened_of 0 x)) bs)
        ∙ sym (map-append site_of (spots_from m x 0 (suc m) x) (spots_in (suc m + length (opened_of 0 x)) bs))

  pub sites_are : (x : Items) → sites (meaning_of x) ≡ map site_of (spots x)
  sites_are x = sites-from 0 x 0 1 x

-- ---- the reading's actions

mutual
  acted-from : (ℓ : ℕ) (L : Items) (k m : ℕ) (x : Items) → acted_of ℓ m x ≡ map acted_at (spots_from ℓ L k m x)
  acted-from ℓ L k m done = refl
  acted-from ℓ L k m (label t x) = acted-from ℓ L k m x
  acted-from ℓ L k m (action n os bs x) =
      let j = m + length (opened_in 0 0 bs) in
      ap (λ (r : List Acted). record { name = n; level = ℓ; operands = os } ∷ r)
      (ap (λ (r : List Acted). r ++ acted_of ℓ j x) (acted_in_lem m bs)
      ∙ ap (λ (r : List Acted). map acted_at (spots_in m bs) ++ r) (acted-from ℓ L (suc k) j x)
      ∙ sym (map-append acted_at (spots_in m bs) (spots_from ℓ L (suc k) j x)))

  acted_in_lem : (m : ℕ) (bs : Blocks) → acted_in m bs ≡ map acted_at (spots_in m bs)
  acted_in_lem m no_blocks = refl
  acted_in_lem m (block p x bs) =
      ap (λ (r : List Acted). r ++ acted_in (suc m + length (opened_of 0 x)) bs) (acted-from m x 0 (suc m) x)
      ∙ ap (λ (r : List Acted). map acted_at (spots_from m x 0 (suc m) x) ++ r) (acted_in_lem (suc m + length (opened_of 0 x)) bs)
      ∙ sym (map-append acted_at (spots_from m x 0 (suc m) x) (spots_in (suc m + length (opened_of 0 x)) bs))

pub acted_are : (x : Items) → acted_of 0 1 x ≡ map acted_at (spots x)
acted_are x = acted-from 0 x 0 1 x

-- ---- its level is the one of that number, and it has a form

-- the level of a number, among the levels O
pub record LevelOf (O : List Opened) (ℓ : ℕ) (L : Items) : Type 0 where
  pub level : Opened
  pub rest : List Opened
  pub there : drop ℓ O ≡ level ∷ rest
  pub items : level.items ≡ L

pub record Right (O : List Opened) (s : Spot) : Type 0 where
  pub level : LevelOf O s.level s.items
  pub form : Form (shape_of s.name) s.operands s.blocks

pub behind : {A : Type 0} (s p q : List A) (i j : ℕ) → drop i s ≡ p ++ q → length p ≡ j → drop (i + j) s ≡ q
behind s p q i j e h = sym (drop-drop j i s) ∙ ap (drop j) e ∙ drop_at p q j h

pub one_more : {A : Type 0} (s q : List A) (v : A) (i : ℕ) → drop i s ≡ v ∷ q → drop (suc i) s ≡ q
one_more s q v i e =
    let z : suc i ≡ i + 1 = omega arith in
    ap (λ (k : ℕ). drop k s) z ∙ behind s (v ∷ []) q i 1 e refl

module _ (O : List Opened) where
  mutual
    right_from : (ℓ : ℕ) (L : Items) (k m a : ℕ) (x : Items) (q : List Opened) → LevelOf O ℓ L → drop m O ≡ opened_of a x ++ q → Forms x
        → Every (Right O) (spots_from ℓ L k m x)
    right_from ℓ L k m a done q at e forms = tt
    right_from ℓ L k m a (label t x) q at e forms = right_from ℓ L k m a x q at e forms
    right_from ℓ L k m a (action n os bs x) q at e (form, (in_blocks, forms)) =
        let b = suc a + actions_inside bs in
        let j = m + length (opened_in 0 0 bs) in
        let e₁ = e ∙ append_assoc (opened_in a (suc a) bs) (opened_of b x) q in (
          record { level = at; form = form },
          every_append (Right O) (spots_in m bs) (spots_from ℓ L (suc k) j x)
              (right_in m a (suc a) bs (opened_of b x ++ q) e₁ in_blocks)
              (right_from ℓ L (suc k) j b x q at
              (behind O (opened_in a (suc a) bs) (opened_of b x ++ q) m (length (opened_in 0 0 bs)) e₁ (opened-counts bs a 0 (suc a) 0)) forms),
        )

    right_in : (m o a : ℕ) (bs : Blocks) (q : List Opened) → drop m O ≡ opened_in o a bs ++ q → FormsIn bs → Every (Right O) (spots_in m bs)
    right_in m o a no_blocks q e forms = tt
    right_in m o a (block p x bs) q e (form, forms) =
        let c = a + all_actions x in
        let v : Opened = record { owner = some (record { action = o; part = p }); first = a; items = x } in
        let e₀ = e ∙ ap (λ (r : List Opened). v ∷ r) (append_assoc (opened_of a x) (opened_in o c bs) q) in
        let e₁ = one_more O (opened_of a x ++ (opened_in o c bs ++ q)) v m e₀ in
        every_append (Right O) (spots_from m x 0 (suc m) x) (spots_in (suc m + length (opened_of 0 x)) bs)
        (right_from m x 0 (suc m) a x (opened_in o c bs ++ q) (record { level = v; rest = opened_of a x ++ (opened_in o c bs ++ q); there = e₀; items = refl }) e₁ form)
        (right_in (suc m + length (opened_of 0 x)) o c bs q
        (behind O (opened_of a x) (opened_in o c bs ++ q) (suc m) (length (opened_of 0 x)) e₁ (opened-count x a 0)) forms)

pub right : (x : Items) → Forms x → Every (Right (opened x)) (spots x)
right x forms =
    right_from (opened x) 0 x 0 1 0 x []
    (record { level = record { owner = none; first = 0; items = x }; rest = opened_of 0 x; there = refl; items = refl })
    (sym (append-nil (opened_of 0 x))) forms

-- ---- the size of the movie is that of its records

module _ (y : Style) where
  abbrev pub head_bytes : List Spot → ℕ
  head_bytes [] = 0
  head_bytes (s ∷ ss) = length (head_of y s.name s.operands) + head_bytes ss

  bytes_both : (u v : List Spot) → head_bytes (u ++ v) ≡ head_bytes u + head_bytes v
  bytes_both [] v = omega arith
  bytes_both (s ∷ u) v = omega (arith, bytes_both u v)

  mutual
    size-from : (ℓ : ℕ) (L : Items) (k m : ℕ) (x : Items) (l : List Label) → size (tree_in_lem y l x) ≡ head_bytes (spots_from ℓ L k m x)
    size-from ℓ L k m done l = refl
    size-from ℓ L k m (label t x) l = size-from ℓ L k m x l
    size-from ℓ L k m (action n os bs x) l =
        let j = m + length (opened_in 0 0 bs) in
        omega (arith, size_in_lem m bs, size-from ℓ L (suc k) j x l, bytes_both (spots_in m bs) (spots_from ℓ L (suc k) j x))

    size_in_lem : (m : ℕ) (bs : Blocks) → size_in (trees_in y bs) ≡ head_bytes (spots_in m bs)
    size_in_lem m no_blocks = refl
    size_in_lem m (block p x bs) =
        let j = suc m + length (opened_of 0 x) in
        omega (arith, size-from m x 0 (suc m) x (own_labels 0 0 [] x), size_in_lem j bs, bytes_both (spots_from m x 0 (suc m) x) (spots_in j bs))

  pub size_of : (x : Items) → size (tree_of y x) ≡ head_bytes (spots x)
  size_of x = size-from 0 x 0 1 x (own_labels 0 0 [] x)
