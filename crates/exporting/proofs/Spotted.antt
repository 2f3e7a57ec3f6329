-- What the tables tell of each action of the tree, and the first pass of faults. Assumes nothing.
use mathlib.Core.Path.{◌≡◌, refl, ap, sym, subst, ◌∙◌}
use mathlib.Core.Bool.{Bool, true, false, cond, ◌&&◌}
use mathlib.Core.List.{List, [], ◌∷◌, map}
use mathlib.Core.Option.{none, some}
use Prim.Native.Nat.{ℕ, zero, suc, ◌<◌}
use native.Mathlib.Omega.{arith}
use lib.Dec.{eqb}
use lib.ListN.{length, drop, take, get_or}
use lib.Seq.{take-length}
use Rattle.std.specs.Prelude.{Result, Ok, Err}
use Rattle.answers.specs.declared.Refusal.{Refusal}
use Rattle.answers.specs.declared.Refusal.TheVariants as F
use Rattle.shapes.specs.declared.Shape.{Shape}
use Rattle.shapes.specs.Shapes.{shape_of}
use Rattle.lexemes.specs.Lexemes.{Lexeme, raw}
use Rattle.grammar.specs.Grammar.{Items, Blocks}
use Rattle.grammar.specs.Reading.{Acted, Opened, opened, own_labels}
use Rattle.entries.specs.declared.Action.{Action}
use Rattle.entries.specs.Entries.{action_of}
use Rattle.reading.specs.Tables.{label_entry_word}
use Rattle.reading.proofs.Runs.{Every}
use Rattle.handover.specs.declared.Counts.{Counts}
use Rattle.handover.specs.Reading.{lent, Accepts}
use Rattle.movies.specs.Meaning.{is_jump, position_of}
use Rattle.action_records.specs.declared.Style.{Style}
use Rattle.action_records.specs.Export.{fault_at}
use Rattle.coding.specs.Heads.{operands_at, head_holds}
use Rattle.jumps.specs.Aims.{aimed}
use Rattle.jumps.specs.Aims as J
use Rattle.jumps.proofs.Accepted.{After}
use Rattle.jumps.proofs.Actions.{aims-at}
use Rattle.pieces.proofs.Forms.{nothing, values, strings, string_string, bool_bool_u8, u16, bool_bool_maybe_u16, string, u8, u16_u8, function, function2, with_block_lem, Form, steady, jump, bodied, try-only, try-finally, try-catch, try-all}
use Rattle.pieces.proofs.Trees.{aim_at, aim_of}
use Rattle.pieces.proofs.Early.{early_is}
use Rattle.pieces.proofs.Spots.{Spot, spots, acted_at, acted_are, site_of, Right, right, one_more}
use Rattle.first_pass.specs.Faults.{fault_of, aim_for, fault_for}
use Rattle.exporting.proofs.Entries.{before, entry_of, inside}
use Rattle.exporting.proofs.Tabled.{none as noTables, tree, fits, its_forms, acts, entry_told, operands-told, labels-counted}
use Rattle.exporting.proofs.First.{told_by, ToldOf, Tells}

-- ---- lists

pub map-drop : {A B : Type 0} (f : A → B) (l : List A) (i : ℕ) → drop i (map f l) ≡ map f (drop i l)
map-drop f l zero = refl
map-drop f [] (suc i) = refl
map-drop f (x ∷ l) (suc i) = map-drop f l i

first_of : {A : Type 0} (l : List A) (i : ℕ) (v : A) (q : List A) (d : A) → drop i l ≡ v ∷ q → get_or l i d ≡ v
first_of [] zero v q d e = absurd (omega (arith, ap length e))
first_of [] (suc i) v q d e = absurd (omega (arith, ap length e))
first_of (x ∷ l) zero v q d e = ap (λ k. get_or k 0 d) e
first_of (x ∷ l) (suc i) v q d e = first_of l i v q d e

pub every_at : {A : Type 0} (P : A → Type 0) (l : List A) (i : ℕ) (v : A) (q : List A) → drop i l ≡ v ∷ q → Every P l → P v
every_at P [] zero v q e all = absurd (omega (arith, ap length e))
every_at P [] (suc i) v q e all = absurd (omega (arith, ap length e))
every_at P (x ∷ l) zero v q e all = (subst (λ k. Every P k) e all).0
every_at P (x ∷ l) (suc i) v q e all = every_at P l i v q e all.1

-- ---- a jump's aim

aim_back : (n : ℕ) → aim_at (aimed n) ≡ n
aim_back zero = refl
aim_back (suc n) = refl

module _ {room : ℕ} {ps text s actions operands levels labels : List ℕ} {c : Counts}
    (a : Accepts label_entry_word room ps text noTables (lent s actions operands levels labels) c) where
  pub after : After a s (tree a)
  after = record { front = λ i h. refl; fits = fits a }

  pub all-labels : take c.labels labels ≡ labels
  all-labels = ap (λ (n : ℕ). take n labels) (labels-counted a) ∙ take-length labels

  module _ (i : ℕ) (p : Spot) (r : List Spot) (e : drop i (spots (tree a)) ≡ p ∷ r) where
    acted-here : drop i (acts a) ≡ acted_at p ∷ map acted_at r
    acted-here = ap (drop i) (acted_are (tree a)) ∙ map-drop acted_at (spots (tree a)) i ∙ ap (map acted_at) e

    pub entry_here : action_of (get_or actions i 0) ≡ entry_of (acts a) i (acted_at p)
    entry_here = entry_told a i (acted_at p) (map acted_at r) acted-here

    pub operands-here : operands_at text s operands (before (acts a) i) (length p.operands) ≡ p.operands
    operands-here = operands-told a i (acted_at p) (map acted_at r) acted-here

    pub right_here : Right (opened (tree a)) p
    right_here = every_at (Right (opened (tree a))) (spots (tree a)) i p r e (right (tree a) (its_forms a))

    inside-here : i < length (acts a)
    inside-here = inside (acts a) i (acted_at p) (map acted_at r) acted-here

    -- an If or a Jump with the operand t
    jump-here : (t : Lexeme) → p.operands ≡ t ∷ [] → J.aim_at text s actions operands i labels ≡ aim_at (position_of (raw t) (own_labels 0 0 [] p.items))
    jump-here t o =
        let h = acted_at p in
        let d = right_here.level.level in
        let here : get_or (acts a) i h ≡ h = first_of (acts a) i h (map acted_at r) h acted-here in
        let it : (get_or (opened (tree a)) p.level d).items ≡ p.items =
        ap (λ (v : Opened). v.items) (first_of (opened (tree a)) p.level d right_here.level.rest d right_here.level.there) ∙ right_here.level.items in
        sym (aim_back (J.aim_at text s actions operands i labels))
        ∙ ap (λ (l : List ℕ). aim_at (aimed (J.aim_at text s actions operands i l))) (sym all-labels)
        ∙ ap aim_at
        (aims-at after i h inside-here t [] (ap (λ (v : Acted). v.operands) here ∙ o) d
        ∙ ap (λ (v : Acted). position_of (raw t) (own_labels 0 0 [] (get_or (opened (tree a)) v.level d).items)) here
        ∙ ap (λ (x : Items). position_of (raw t) (own_labels 0 0 [] x)) it)

    aim-by : {f : Shape} {os : List Lexeme} {bs : Blocks} → Form f os bs → shape_of p.name ≡ f → p.operands ≡ os
        → cond (is_jump f) (J.aim_at text s actions operands i labels) 0 ≡ aim_of f (own_labels 0 0 [] p.items) os
    aim-by (jump t) q o = jump-here t o
    aim-by (bodied os x function) q o = refl
    aim-by (bodied os x function2) q o = refl
    aim-by (bodied os x with_block_lem) q o = refl
    aim-by (try-only x) q o = refl
    aim-by (try-finally x z) q o = refl
    aim-by (try-catch os x u) q o = refl
    aim-by (try-all os x u z) q o = refl
    aim-by (steady os nothing) q o = refl
    aim-by (steady os values) q o = refl
    aim-by (steady os strings) q o = refl
    aim-by (steady os string_string) q o = refl
    aim-by (steady os bool_bool_u8) q o = refl
    aim-by (steady os u16) q o = refl
    aim-by (steady os bool_bool_maybe_u16) q o = refl
    aim-by (steady os string) q o = refl
    aim-by (steady os u8) q o = refl
    aim-by (steady os u16_u8) q o = refl

    pub aim-here : aim_for text s actions operands labels i ≡ aim_of (shape_of p.name) (own_labels 0 0 [] p.items) p.operands
    unfolding aim_for
    aim-here =
        ap (λ (v : Action). cond (is_jump (shape_of v.name)) (J.aim_at text s actions operands i labels) 0) entry_here
        ∙ aim-by right_here.form refl refl

    -- its fault is the one that the definition gives it
    abbrev fault : Bool → Bool → Result (Unit {0}) Refusal
    fault b h = cond b (Err (F.NoLabel i)) (cond h (Ok tt) (Err (F.Uncodable i)))

    told_of : (b h : Bool) → cond b (some 10) (cond h none (some 11)) ≡ told_by (fault b h)
    told_of true h = refl
    told_of false true = refl
    told_of false false = refl

    placed_of : (b h : Bool) → ToldOf i (fault b h)
    placed_of true h = refl
    placed_of false true = tt
    placed_of false false = refl

    placed-here : (y : Style) → ToldOf i (fault_for text s actions operands labels y i)
    unfolding fault_for fault_of
    placed-here y =
        let v = action_of (get_or actions i 0) in
        placed_of (is_jump (shape_of v.name) && eqb (aim_for text s actions operands labels i) 0) (head_holds y v.name (operands_at text s operands v.first v.count))

    fault-here : (y : Style) → fault_at y (site_of y p) ≡ told_by (fault_for text s actions operands labels y i)
    unfolding fault_for fault_of
    fault-here y =
        let l = own_labels 0 0 [] p.items in
        let n = p.name in
        early_is y l p.items p.position n p.operands p.blocks right_here.form
        ∙ told_of (is_jump (shape_of n) && eqb (aim_of (shape_of n) l p.operands) 0) (head_holds y n p.operands)
        ∙ ap (λ (k : ℕ). told_by (fault (is_jump (shape_of n) && eqb k 0) (head_holds y n p.operands))) (sym aim-here)
        ∙ ap (λ (os : List Lexeme). told_by (fault (is_jump (shape_of n) && eqb (aim_for text s actions operands labels i) 0) (head_holds y n os))) (sym operands-here)
        ∙ ap (λ (v : Action). told_by (fault_of y text s operands i v (aim_for text s actions operands labels i))) (sym entry_here)

  tells_from : (y : Style) (i : ℕ) (ps' : List Spot) → drop i (spots (tree a)) ≡ ps' → Tells (fault_for text s actions operands labels y) (fault_at y) i (map (site_of y) ps')
  tells_from y i [] e = tt
  tells_from y i (p ∷ r) e = ((fault-here i p r e y, placed-here i p r e y), tells_from y (suc i) r (one_more (spots (tree a)) r p i e))

  pub tells : (y : Style) → Tells (fault_for text s actions operands labels y) (fault_at y) 0 (map (site_of y) (spots (tree a)))
  tells y = tells_from y 0 (spots (tree a)) refl
