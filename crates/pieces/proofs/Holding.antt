-- The tables of a reading hold the tree of records. Assumes nothing.
use mathlib.Core.Path.{◌≡◌, refl, ap, sym, subst, ◌∙◌}
use mathlib.Core.Bool.{false}
use mathlib.Core.List.{List, [], ◌∷◌, ◌++◌, append_assoc, append-nil}
use mathlib.Core.Option.{some}
use Prim.Native.Nat.{ℕ, suc, ◌+◌, ◌≤◌, ◌<◌}
use native.Mathlib.Omega.{arith}
use lib.ListN.{length, drop, length-append}
use borrow.Author.Tests.{ne_eqb}
use Rattle.lexemes.specs.Events.{Part, body, try, catch, finally}
use Rattle.grammar.specs.Grammar.{Items, done, label, action, Blocks, no_blocks, block}
use Rattle.grammar.specs.Reading as G
use Rattle.grammar.specs.Reading.{Opened, opened_of, opened_in, opened, own_labels, Label}
use Rattle.entries.specs.declared.Block.{Block}
use Rattle.entries.specs.declared.Block.TheVariants as B
use Rattle.entries.specs.Entries.{level_in}
use Rattle.reading.specs.Tables.{part_of, block_of}
use Rattle.reading.proofs.Trees.{opened-count, opened-counts}
use Rattle.movies.specs.Movie as M
use Rattle.movies.specs.Counts.{own_actions, all_actions, actions_inside, levels_of, levels_in}
use Rattle.action_records.specs.declared.Style.{Style}
use Rattle.level_trees.specs.Held.{is_block_of, HoldsLevel, HoldsBlocks}
use Rattle.filling.specs.Pieces.{Piece}
use Rattle.pieces.proofs.Trees.{piece_of, tree_in_lem, trees_in, tree_of}
use Rattle.pieces.proofs.Spots.{Spot, spots_from, spots_in, spots, behind, one_more}

-- ---- counts

module _ (y : Style) where
  pub own-count : (l : List Label) (x : Items) → own_actions (tree_in_lem y l x) ≡ G.own_actions x
  own-count l done = refl
  own-count l (label t x) = own-count l x
  own-count l (action n os bs x) = ap suc (own-count l x)

  mutual
    pub action-count : (l : List Label) (x : Items) → all_actions (tree_in_lem y l x) ≡ G.all_actions x
    action-count l done = refl
    action-count l (label t x) = action-count l x
    action-count l (action n os bs x) = let e = action-counts bs in let f = action-count l x in omega arith

    pub action-counts : (bs : Blocks) → actions_inside (trees_in y bs) ≡ G.actions_inside bs
    action-counts no_blocks = refl
    action-counts (block p x bs) = let e = action-count (own_labels 0 0 [] x) x in let f = action-counts bs in omega arith

  mutual
    pub level-count : (l : List Label) (x : Items) (a : ℕ) → levels_of (tree_in_lem y l x) ≡ length (opened_of a x)
    level-count l done a = refl
    level-count l (label t x) a = level-count l x a
    level-count l (action n os bs x) a =
        let b = suc a + G.actions_inside bs in
        let e = level-counts bs a (suc a) in
        let f = level-count l x b in
        let g = length-append (opened_in a (suc a) bs) (opened_of b x) in
        omega arith

    pub level-counts : (bs : Blocks) (o a : ℕ) → levels_in (trees_in y bs) ≡ length (opened_in o a bs)
    level-counts no_blocks o a = refl
    level-counts (block p x bs) o a =
        let e = level-count (own_labels 0 0 [] x) x a in
        let f = level-counts bs o (a + G.all_actions x) in
        let g = length-append (opened_of a x) (opened_in o (a + G.all_actions x) bs) in
        omega arith

mutual
  spot_count : (ℓ : ℕ) (L : Items) (k m : ℕ) (x : Items) → length (spots_from ℓ L k m x) ≡ G.all_actions x
  spot_count ℓ L k m done = refl
  spot_count ℓ L k m (label t x) = spot_count ℓ L k m x
  spot_count ℓ L k m (action n os bs x) =
      let j = m + length (opened_in 0 0 bs) in
      let e = spot_counts m bs in
      let f = spot_count ℓ L (suc k) j x in
      let g = length-append (spots_in m bs) (spots_from ℓ L (suc k) j x) in
      omega arith

  spot_counts : (m : ℕ) (bs : Blocks) → length (spots_in m bs) ≡ G.actions_inside bs
  spot_counts m no_blocks = refl
  spot_counts m (block p x bs) =
      let j = suc m + length (opened_of 0 x) in
      let e = spot_count m x 0 (suc m) x in
      let f = spot_counts j bs in
      let g = length-append (spots_from m x 0 (suc m) x) (spots_in j bs) in
      omega arith

pub spots_count : (x : Items) → length (spots x) ≡ G.all_actions x
spots_count x = spot_count 0 x 0 1 x

-- ---- whose the next level is: none of the actions from lo up to hi

abbrev NotOf : ℕ → ℕ → List Opened → Type 0
NotOf lo hi [] = Unit {0}
NotOf lo hi (o ∷ q) = (i : ℕ) → lo ≤ i → i < hi → is_block_of (block_of o.owner) i ≡ false

not_part : (p : Part) (a o : ℕ) → (a ≡ o → ⊥) → is_block_of (part_of p a) o ≡ false
not_part body a o h = ne_eqb a o h
not_part try a o h = ne_eqb a o h
not_part catch a o h = ne_eqb a o h
not_part finally a o h = ne_eqb a o h

narrower : (lo hi lo' hi' : ℕ) (q : List Opened) → lo ≤ lo' → hi' ≤ hi → NotOf lo hi q → NotOf lo' hi' q
narrower lo hi lo' hi' [] h k f = tt
narrower lo hi lo' hi' (o ∷ q) h k f = λ i g j. f i (omega arith) (omega arith)

-- the levels of later actions
later : (x : Items) (b lo hi : ℕ) (q : List Opened) → hi ≤ b → NotOf lo hi q → NotOf lo hi (opened_of b x ++ q)
later done b lo hi q h f = f
later (label t x) b lo hi q h f = later x b lo hi q h f
later (action n os no_blocks x) b lo hi q h f = later x (suc b + 0) lo hi q (omega arith) f
later (action n os (block p z bs) x) b lo hi q h f = λ i g j. not_part p b i (λ e. omega arith)

-- ---- the tables

-- level by level, with its block and its action count; behind them none
pub record TellsLevels (levels : List ℕ) (O : List Opened) : Type 0 where
  pub block : (i : ℕ) (o : Opened) (r : List Opened) → drop i O ≡ o ∷ r → (level_in levels i).block ≡ block_of o.owner
  pub actions : (i : ℕ) (o : Opened) (r : List Opened) → drop i O ≡ o ∷ r → (level_in levels i).actions ≡ G.own_actions o.items
  pub past : (i : ℕ) → drop i O ≡ [] → (level_in levels i).block ≡ B.Top

module _ (y : Style) (levels : List ℕ) (O : List Opened) (tells : TellsLevels levels O) (Told : ℕ → Piece → M.Blocks Piece → Type 0) (S : List Spot)
    (told : (a : ℕ) (s : Spot) (r : List Spot) → drop a S ≡ s ∷ r → Told a (piece_of y (own_labels 0 0 [] s.items) s.name s.operands) (trees_in y s.blocks)) where
  not_own : (q : List Opened) (o hi m : ℕ) → o < hi → drop m O ≡ q → NotOf o hi q → is_block_of (level_in levels m).block o ≡ false
  not_own [] o hi m h e f = ap (λ (b : Block). is_block_of b o) (tells.past m e)
  not_own (v ∷ q) o hi m h e f = ap (λ (b : Block). is_block_of b o) (tells.block m v q e) ∙ f o (omega arith) h

  mutual
    holds-from : (ℓ : ℕ) (L : Items) (k a m : ℕ) (x : Items) (sq : List Spot) (q : List Opened) → drop a S ≡ spots_from ℓ L k m x ++ sq
        → drop m O ≡ opened_of a x ++ q → NotOf a (a + G.all_actions x) q → HoldsLevel levels Told (tree_in_lem y (own_labels 0 0 [] L) x) a m
    holds-from ℓ L k a m done sq q es eo f = tt
    holds-from ℓ L k a m (label t x) sq q es eo f = holds-from ℓ L k a m x sq q es eo f
    holds-from ℓ L k a m (action n os bs x) sq q es eo f =
        let l = own_labels 0 0 [] L in
        let b = suc a + G.actions_inside bs in
        let j = m + length (opened_in 0 0 bs) in
        let s : Spot = record { level = ℓ; items = L; position = k; name = n; operands = os; blocks = bs } in
        let rest = spots_from ℓ L (suc k) j x ++ sq in
        let es₁ = es ∙ ap (λ (r : List Spot). s ∷ r) (append_assoc (spots_in m bs) (spots_from ℓ L (suc k) j x) sq) in
        let es₂ = one_more S (spots_in m bs ++ rest) s a es₁ in
        let eo₁ = eo ∙ append_assoc (opened_in a (suc a) bs) (opened_of b x) q in
        let count = action-counts y bs in
        let levs = level-counts y bs 0 0 in (
          told a s (spots_in m bs ++ rest) es₁,
          (
            holds_in a (suc a) m bs rest (opened_of b x ++ q) es₂ eo₁ (omega arith)
                (later x b a b q (omega arith) (narrower a (a + G.all_actions (action n os bs x)) a b q (omega arith) (omega arith) f)),
            subst (λ (i : ℕ). HoldsLevel levels Told (tree_in_lem y l x) i (m + levels_in (trees_in y bs))) (omega arith)
                (subst (λ (i : ℕ). HoldsLevel levels Told (tree_in_lem y l x) b i) (omega arith)
                (holds-from ℓ L (suc k) b j x sq q
                (behind S (spots_in m bs) rest (suc a) (G.actions_inside bs) es₂ (spot_counts m bs))
                (behind O (opened_in a (suc a) bs) (opened_of b x ++ q) m (length (opened_in 0 0 bs)) eo₁ (opened-counts bs a 0 (suc a) 0))
                (narrower a (a + G.all_actions (action n os bs x)) b (b + G.all_actions x) q (omega arith) (omega arith) f))),
          ),
        )

    holds_in : (o a m : ℕ) (bs : Blocks) (sq : List Spot) (q : List Opened) → drop a S ≡ spots_in m bs ++ sq → drop m O ≡ opened_in o a bs ++ q → o < a
        → NotOf o (a + G.actions_inside bs) q → HoldsBlocks levels Told o (trees_in y bs) a m
    holds_in o a m no_blocks sq q es eo h f = not_own q o (a + 0) m (omega arith) eo f
    holds_in o a m (block p x bs) sq q es eo h f =
        let l = own_labels 0 0 [] x in
        let c = a + G.all_actions x in
        let j = suc m + length (opened_of 0 x) in
        let v : Opened = record { owner = some (record { action = o; part = p }); first = a; items = x } in
        let eo₀ = eo ∙ ap (λ (r : List Opened). v ∷ r) (append_assoc (opened_of a x) (opened_in o c bs) q) in
        let eo₁ = one_more O (opened_of a x ++ (opened_in o c bs ++ q)) v m eo₀ in
        let es₁ = es ∙ append_assoc (spots_from m x 0 (suc m) x) (spots_in j bs) sq in
        let count = action-count y l x in
        let levs = level-count y l x 0 in (
          tells.block m v (opened_of a x ++ (opened_in o c bs ++ q)) eo₀,
          (
            tells.actions m v (opened_of a x ++ (opened_in o c bs ++ q)) eo₀ ∙ sym (own-count y l x),
            (
              holds-from m x 0 a (suc m) x (spots_in j bs ++ sq) (opened_in o c bs ++ q) es₁ eo₁ (next_of bs),
              subst (λ (i : ℕ). HoldsBlocks levels Told o (trees_in y bs) i (suc m + levels_of (tree_in_lem y l x))) (omega arith)
                  (subst (λ (i : ℕ). HoldsBlocks levels Told o (trees_in y bs) c i) (omega arith)
                  (holds_in o c j bs sq q
                  (behind S (spots_from m x 0 (suc m) x) (spots_in j bs ++ sq) a (G.all_actions x) es₁ (spot_count m x 0 (suc m) x))
                  (behind O (opened_of a x) (opened_in o c bs ++ q) (suc m) (length (opened_of 0 x)) eo₁ (opened-count x a 0))
                  (omega arith) (narrower o (a + G.actions_inside (block p x bs)) o (c + G.actions_inside bs) q (omega arith) (omega arith) f))),
            ),
          ),
        )
      where
        -- the next block is of o, which no action inside is, or there is none
        next_of : (cs : Blocks) → NotOf a (a + G.all_actions x) (opened_in o (a + G.all_actions x) cs ++ q)
        next_of no_blocks = narrower o (a + G.actions_inside (block p x bs)) a (a + G.all_actions x) q (omega arith) (omega arith) f
        next_of (block r z ds) = λ i g k. not_part r o i (λ e. omega arith)

pub holds : (y : Style) (levels : List ℕ) (x : Items) → TellsLevels levels (opened x) → (Told : ℕ → Piece → M.Blocks Piece → Type 0)
    → ((a : ℕ) (s : Spot) (r : List Spot) → drop a (spots x) ≡ s ∷ r → Told a (piece_of y (own_labels 0 0 [] s.items) s.name s.operands) (trees_in y s.blocks))
    → HoldsLevel levels Told (tree_of y x) 0 1
holds y levels x tells Told told =
    holds-from y levels (opened x) tells Told (spots x) told 0 x 0 0 1 x [] [] (sym (append-nil (spots x))) (sym (append-nil (opened_of 0 x))) tt
