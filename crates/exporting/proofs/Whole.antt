-- The passes together: what export answers of the tree that the tables hold. Assumes nothing.
use mathlib.Core.Path.{◌≡◌, refl, ap, sym, subst, ◌∙◌}
use mathlib.Core.Bool.{Bool, true, false, cond, ◌&&◌, true≢false}
use mathlib.Core.List.{List, [], ◌∷◌, ◌++◌, map}
use mathlib.Core.Option.{Option, none, some}
use Prim.Native.Nat.{ℕ, suc, ◌+◌, ◌*◌, ◌≤◌, ◌<◌}
use native.Mathlib.Omega.{arith}
use lib.Dec.{leb}
use lib.ListN.{length, drop, get_or, length-map}
use borrow.Author.Tests.{ltb-true}
use Rattle.std.specs.Prelude.{Result, Ok, Err}
use Rattle.answers.specs.declared.Refusal.{Refusal}
use Rattle.answers.specs.Answers.{Answer, refusal}
use Rattle.grammar.specs.Reading.{opened_of, own_labels}
use Rattle.entries.specs.declared.Action.{Action}
use Rattle.entries.specs.Entries.{level_in}
use Rattle.reading.specs.Tables.{label_entry_word}
use Rattle.reading.proofs.Runs.{Every}
use Rattle.handover.specs.declared.Counts.{Counts}
use Rattle.handover.specs.Reading.{lent, Accepts}
use Rattle.movies.specs.Meaning.{meaning_in, meaning_of}
use Rattle.movies.specs.Sites.{Site, sites, first_fault}
use Rattle.action_records.specs.declared.Style.{Style}
use Rattle.action_records.specs.Codes.{listed}
use Rattle.action_records.specs.Fields.{low_first, all_bytes, all, is16, holds}
use Rattle.action_records.specs.Bytes.{blank, with_length, record_of, movie_bytes}
use Rattle.action_records.specs.Export.{lacks_label, in_room, fields_at, is_codable, fault_at, late_fault_at, exported}
use Rattle.action_records.proofs.Lengths.{len_level}
use Rattle.coding.specs.Heads.{operands_at, head_of, head_holds}
use Rattle.filling.specs.Pieces.{size, bytes_from, late}
use Rattle.writer.specs.Writing.{tables, head_at, coded_at, Told, AskedLevel}
use Rattle.pieces.proofs.Trees.{piece_of, trees_in, tree_of, len_head, size_is}
use Rattle.pieces.proofs.Bytes.{Labelled, bytes_are}
use Rattle.pieces.proofs.Late.{or_refused, late_is}
use Rattle.pieces.proofs.Early.{codable-is}
use Rattle.pieces.proofs.Fits as Fits
use Rattle.pieces.proofs.Spots.{Spot, spots, site_of, sites_are, acted_are, acted_at, head_bytes, size_of}
use Rattle.pieces.proofs.Holding as Holding
use Rattle.first_pass.specs.First.{first_from}
use Rattle.first_pass.specs.Faults.{aim_for, fault_for}
use Rattle.exporting.proofs.Entries.{inside}
use Rattle.exporting.proofs.Tabled.{tree, its_forms, sound, tells_levels, levels-long, actions-counted, few}
use Rattle.exporting.proofs.Tabled as Tabled
use Rattle.exporting.proofs.First.{told_by, or_first, Tells, first-is, none_first}
use Rattle.exporting.proofs.Spotted.{map-drop, every_at, entry_here, operands-here, right_here, aim-here, tells}

-- ---- no action has a fault

without : (f : ℕ → Result (Unit {0}) Refusal) (g : Site → Option ℕ) (a : ℕ) (ss : List Site) → Tells f g a ss → ((i : ℕ) → i < length ss → f (a + i) ≡ Ok tt) → Every (λ (s : Site). g s ≡ none) ss
without f g a [] h k = tt
without f g a (s ∷ ss) ((h, p), hs) k =
    let z : a + 0 ≡ a = omega arith in (
      h ∙ ap told_by (sym (ap f z) ∙ k 0 (omega arith)),
      without f g (suc a) ss hs (λ i q. let w : suc a + i ≡ a + suc i = omega arith in ap f w ∙ k (suc i) (omega arith)),
    )

some-none : {n : ℕ} → some n ≡ none → ⊥
some-none e = subst (λ (o : Option ℕ). is_some o) e tt
  where
    is_some : Option ℕ → Type 0
    is_some none = ⊥
    is_some (some n) = Unit {0}

abbrev numbered : Bool → Bool → Option ℕ
numbered b h = cond b (some 10) (cond h none (some 11))

no_fault : (b h : Bool) → numbered b h ≡ none → (b ≡ false) × (h ≡ true)
no_fault true h e = absurd (some-none e)
no_fault false true e = (refl, refl)
no_fault false false e = absurd (some-none e)

and_right : (a b : Bool) → (a && b) ≡ true → b ≡ true
and_right true b e = e
and_right false b e = absurd (true≢false (sym e))

module _ (y : Style) where
  faultless : (s : Site) → fault_at y s ≡ none → (lacks_label s.act.operands ≡ false) × (is_codable y s ≡ true)
  unfolding fault_at
  faultless s e = no_fault (lacks_label s.act.operands) (is_codable y s) e

  labelled : (ss : List Site) → Every (λ (s : Site). fault_at y s ≡ none) ss → Every Labelled ss
  labelled [] h = tt
  labelled (s ∷ ss) (h, hs) = ((faultless s h).0, labelled ss hs)

  -- a record is no longer than its length can tell, and three bytes more
  with_short : (c n : ℕ) (bs : List ℕ) → length bs ≤ n → length (with_length c bs) ≤ 3 + n
  with_short c n bs h = by (leb 0x80 c)
    where
      by : (b : Bool) → length (cond b (c ∷ low_first 2 (length bs) ++ bs) (c ∷ bs)) ≤ 3 + n
      by true = omega arith
      by false = omega arith

  short : (p : Spot) → fault_at y (site_of y p) ≡ none → length (head_of y p.name p.operands) ≤ 65538
  unfolding record_of
  short p e =
      let s = site_of y p in
      let l = own_labels 0 0 [] p.items in
      let h = ltb-true (length (all_bytes blank (fields_at y s))) 65536 (and_right (all holds (fields_at y s)) (is16 (length (all_bytes blank (fields_at y s)))) (faultless s e).1) in
      let w = with_short (listed p.name).code 65535 (all_bytes blank (fields_at y s)) (omega (arith, h)) in
      omega (arith, len_head y l p.name p.operands p.blocks, w)

  bounded : (ps : List Spot) → Every (λ (s : Site). fault_at y s ≡ none) (map (site_of y) ps) → head_bytes y ps ≤ 65538 * length ps
  bounded [] h = omega arith
  bounded (p ∷ ps) (h, hs) = omega (arith, short p h, bounded ps hs)

-- ---- the writer's tables

module _ {room : ℕ} {ps text s actions operands levels labels : List ℕ} {c : Counts}
    (a : Accepts label_entry_word room ps text Tabled.none (lent s actions operands levels labels) c) (y : Style) where
  abbrev f : ℕ → Result (Unit {0}) Refusal
  f = fault_for text s actions operands labels y

  abbrev pub rest : List ℕ → Type 0
  rest aims = (i : ℕ) → i < length actions → get_or aims i 0 ≡ aim_for text s actions operands labels i

  spots_counted : length actions ≡ length (spots (tree a))
  spots_counted = actions-counted a ∙ ap length (acted_are (tree a)) ∙ length-map (spots (tree a)) acted_at

  sites-counted : length (map (site_of y) (spots (tree a))) ≡ length actions
  sites-counted = length-map (spots (tree a)) (site_of y) ∙ sym spots_counted

  -- the first pass
  first_found : {A : Type 0} (rest : Answer A) → first_fault (fault_at y) 0 (sites (meaning_of (tree a))) rest ≡ or_first (first_from f 0 (length actions)) rest
  first_found rest =
      ap (λ (ss : List Site). first_fault (fault_at y) 0 ss rest) (sites_are y (tree a))
      ∙ first-is f (fault_at y) 0 (map (site_of y) (spots (tree a))) rest (tells a y)
      ∙ ap (λ (n : ℕ). or_first (first_from f 0 n) rest) sites-counted

  pub refused-first : (r : Refusal) → first_from f 0 (length actions) ≡ Err r → (k : ℕ) → exported y k (tree a) ≡ refusal r
  unfolding exported
  refused-first r e k =
      let m = meaning_of (tree a) in
      let rest = first_fault (late_fault_at y) 0 (sites m) (in_room k (movie_bytes y m)) in
      first_found rest ∙ ap (λ (v : Result (Unit {0}) Refusal). or_first v rest) e

  -- it found nothing
  module _ (clear : first_from f 0 (length actions) ≡ Ok tt) where
    none_faulty : Every (λ (v : Site). fault_at y v ≡ none) (map (site_of y) (spots (tree a)))
    none_faulty =
        without f (fault_at y) 0 (map (site_of y) (spots (tree a))) (tells a y)
        (λ i h. none_first f 0 (length actions) clear i (omega (arith, sites-counted, h)))

    all_labelled : Every Labelled (sites (meaning_of (tree a)))
    all_labelled = subst (Every Labelled) (sym (sites_are y (tree a))) (labelled y (map (site_of y) (spots (tree a))) none_faulty)

    faultless_here : (i : ℕ) (p : Spot) (r : List Spot) → drop i (spots (tree a)) ≡ p ∷ r → fault_at y (site_of y p) ≡ none
    faultless_here i p r e =
        every_at (λ (v : Site). fault_at y v ≡ none) (map (site_of y) (spots (tree a))) i (site_of y p) (map (site_of y) r)
        (map-drop (site_of y) (spots (tree a)) i ∙ ap (map (site_of y)) e) none_faulty

    told : (aims : List ℕ) → rest aims → (i : ℕ) (p : Spot) (r : List Spot) → drop i (spots (tree a)) ≡ p ∷ r
        → Told (tables text s actions operands levels aims) y i (piece_of y (own_labels 0 0 [] p.items) p.name p.operands) (trees_in y p.blocks)
    unfolding head_at coded_at
    told aims h i p r e =
        let q = Fits.room y (own_labels 0 0 [] p.items) p.name p.operands p.blocks (right_here a i p r e).form in
        record {
          head =
              ap (head_of y p.name) (sym (operands-here a i p r e))
              ∙ ap (λ (v : Action). head_of y v.name (operands_at text s operands v.first v.count)) (sym (entry_here a i p r e));
          coded =
              ap (λ (v : Action). head_holds y v.name (operands_at text s operands v.first v.count)) (entry_here a i p r e)
              ∙ ap (head_holds y p.name) (operands-here a i p r e)
              ∙ sym (codable-is y (own_labels 0 0 [] p.items) p.items p.position p.name p.operands p.blocks)
              ∙ (faultless y (site_of y p) (faultless_here i p r e)).1;
          aim = sym (h i (omega (arith, spots_counted, inside (spots (tree a)) i p r e)) ∙ aim-here a i p r e);
          jump = q.jump;
          fits = q.fits;
        }

    pub asked : (aims place : List ℕ) → rest aims → (n : ℕ) → n ≡ (level_in levels 0).actions → length actions + length levels ≤ length place
        → AskedLevel (tables text s actions operands levels aims) y (tree_of y (tree a)) n 0 1 place
    asked aims place h n e roomy =
        let x = tree a in
        let l = own_labels 0 0 [] x in
        let w = Holding.action-count y l x in
        let v = Holding.level-count y l x 0 in
        let u = Holding.spots_count x in
        let b = bounded y (spots x) none_faulty in
        record {
          sound = sound a;
          holds = Holding.holds y levels x (tells_levels a) (Told (tables text s actions operands levels aims) y) (told aims h);
          count = e ∙ (tells_levels a).actions 0 (record { owner = none; first = 0; items = x }) (opened_of 0 x) refl ∙ sym (Holding.own-count y l x);
          room = omega (arith, levels-long a, w, v, u, spots_counted, roomy);
          few = omega (arith, w, u, few a, spots_counted, actions-counted a, (sound a).short);
          levels = omega (arith, v, few a, (sound a).short);
          low = omega (arith, size_of y x, b, u, w, few a, spots_counted, actions-counted a, (sound a).short);
        }

    -- ---- what is answered then

    abbrev pub bytes : List ℕ
    bytes = bytes_from (tree_of y (tree a)) 0 (tree_of y (tree a))

    bytes_right : bytes ≡ movie_bytes y (meaning_of (tree a))
    bytes_right = bytes_are y (tree a) (its_forms a) all_labelled

    pub bytes-long : length bytes ≡ size (tree_of y (tree a))
    unfolding movie_bytes
    bytes-long =
        let l = own_labels 0 0 [] (tree a) in
        ap length bytes_right ∙ len_level y (meaning_in l (tree a)) (meaning_in l (tree a)) 0 ∙ sym (size_is y l (tree a))

    pub answered : (k : ℕ) → exported y k (tree a) ≡ or_refused (late 0 (tree_of y (tree a))) (in_room k bytes)
    unfolding exported
    answered k =
        let m = meaning_of (tree a) in
        let rest = first_fault (late_fault_at y) 0 (sites m) (in_room k (movie_bytes y m)) in
        first_found rest
        ∙ ap (λ (v : Result (Unit {0}) Refusal). or_first v rest) clear
        ∙ late_is y (tree a) (in_room k (movie_bytes y m)) (its_forms a) all_labelled
        (omega (arith, Holding.action-count y (own_labels 0 0 [] (tree a)) (tree a), Holding.spots_count (tree a), few a, spots_counted, actions-counted a, (sound a).short))
        ∙ ap (λ (b : List ℕ). or_refused (late 0 (tree_of y (tree a))) (in_room k b)) (sym bytes_right)
