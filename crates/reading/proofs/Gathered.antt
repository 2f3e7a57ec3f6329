-- The operands of an action of a tree, gathered from the events behind it. Assumes nothing.
use mathlib.Core.Path.{◌≡◌, refl, ap, ◌∙◌}
use mathlib.Core.List.{List, [], ◌∷◌, ◌++◌, map, append-nil}
use Prim.Native.Nat.{ℕ, suc, ◌-◌}
use native.Mathlib.Numerals.{add-one}
use native.Mathlib.Omega.{arith}
use Rattle.actions.specs.Numbers.{number_of}
use Rattle.actions.proofs.Numbers.{number_below}
use Rattle.lexemes.specs.Lexemes.{Lexeme, place_of}
use Rattle.lexemes.specs.Events.{Part, body, try, catch, finally, Event}
use Rattle.lexemes.specs.Events as E
use Rattle.grammar.specs.Grammar.{Items, done, label, action, Blocks, no_blocks, block}
use Rattle.grammar.specs.Trees.{leading, waiting, events, block-events, givens}
use Rattle.events.specs.Log.{Holdable, log_word, by_kind}
use Rattle.events.proofs.Words.{event_is}
use Rattle.operands.specs.Log.{part_number, event_word}
use Rattle.writing.specs.Writing.{deeper, gather_by, gather}
use Rattle.reading.specs.Trees.{All, AllOf, AllIn, IsLow}
use Rattle.reading.proofs.Trees.{low-leading, low-waiting, part_below}

abbrev pub words : List Event → List ℕ
words k = map event_word k

-- ---- blocks that are passed over

passed : (k v d : ℕ) (l : List ℕ) → Holdable v → gather (suc d) (log_word k v ∷ l) ≡ gather (deeper (by_kind k v) (suc d)) l
passed k v d l h = ap (λ e. gather (deeper e (suc d)) l) (event_is k v h)

passed-opened : (p : Part) (d : ℕ) (l : List ℕ) → gather (suc d) (event_word (E.opened p) ∷ l) ≡ gather (suc (suc d)) l
passed-opened p d l = passed 3 (part_number p) d l (omega (arith, part_below p)) ∙ ap (λ q. gather q l) (add-one (suc d))

passed-closed : (d : ℕ) (l : List ℕ) → gather (suc d) (event_word E.closed ∷ l) ≡ gather d l
passed-closed d l = let z : suc d - 1 ≡ d = omega arith in passed 4 0 d l (omega arith) ∙ ap (λ q. gather q l) z

past_givens : (os : List Lexeme) (k : List Event) (d : ℕ) → All IsLow os → gather (suc d) (words (givens os k)) ≡ gather (suc d) (words k)
past_givens [] k d h = refl
past_givens (t ∷ os) k d h = passed 2 (place_of t) d (words (givens os k)) h.0 ∙ past_givens os k d h.1

mutual
  past_items : (x : Items) (k : List Event) (d : ℕ) → AllOf IsLow x → gather (suc d) (words (events x k)) ≡ gather (suc d) (words k)
  past_items done k d h = refl
  past_items (label t x) k d h = passed 1 (place_of t) d (words (events x k)) h.0 ∙ past_items x k d h.1
  past_items (action n os bs x) k d h =
      passed 0 (number_of n) d (words (block-events bs os (events x k))) (omega (arith, number_below n))
      ∙ past_blocks bs os (events x k) d h.0 h.1.0
      ∙ past_items x k d h.1.1

  past_blocks : (bs : Blocks) (os : List Lexeme) (k : List Event) (d : ℕ) → All IsLow os → AllIn IsLow bs → gather (suc d) (words (block-events bs os k)) ≡ gather (suc d) (words k)
  past_blocks no_blocks os k d l h = past_givens os k d l
  past_blocks (block p x bs) os k d l h =
      let rest = block-events bs (waiting p os) k in
      past_givens (leading p os) (E.opened p ∷ events x (E.closed ∷ rest)) d (low-leading p os l)
      ∙ passed-opened p d (words (events x (E.closed ∷ rest)))
      ∙ past_items x (E.closed ∷ rest) (suc d) h.0
      ∙ passed-closed (suc d) (words rest)
      ∙ past_blocks bs (waiting p os) k d (low-waiting p os l) h.1

-- ---- no operand of the action before follows

abbrev pub Stops : List Event → Type 0
Stops k = gather 0 (words k) ≡ []

ends_at : (k v : ℕ) (l : List ℕ) → Holdable v → gather 0 (log_word k v ∷ l) ≡ gather_by (by_kind k v) (gather 0 l) (gather 1 l)
ends_at k v l h = ap (λ e. gather_by e (gather 0 l) (gather 1 l)) (event_is k v h)

pub stops-closed : (k : List Event) → Stops (E.closed ∷ k)
stops-closed k = ends_at 4 0 (words k) (omega arith)

pub stops-items : (x : Items) (k : List Event) → AllOf IsLow x → Stops k → Stops (events x k)
stops-items done k h z = z
stops-items (label t x) k h z = ends_at 1 (place_of t) (words (events x k)) h.0
stops-items (action n os bs x) k h z = ends_at 0 (number_of n) (words (block-events bs os (events x k))) (omega (arith, number_below n))

-- ---- the operands themselves

take-givens : (os : List Lexeme) (k : List Event) → All IsLow os → gather 0 (words (givens os k)) ≡ map place_of os ++ gather 0 (words k)
take-givens [] k h = refl
take-givens (t ∷ os) k h =
    ends_at 2 (place_of t) (words (givens os k)) h.0 ∙ ap (λ l. place_of t ∷ l) (take-givens os k h.1)

then-none : (os : List Lexeme) (k : List Event) → All IsLow os → Stops k → gather 0 (words (givens os k)) ≡ map place_of os
then-none os k h z = take-givens os k h ∙ ap (λ l. map place_of os ++ l) z ∙ append-nil (map place_of os)

pub gathered : (bs : Blocks) (os : List Lexeme) (k : List Event) → All IsLow os → AllIn IsLow bs → Stops k → gather 0 (words (block-events bs os k)) ≡ map place_of os
gathered no_blocks os k l h z = then-none os k l z
gathered (block body x bs) os k l h z =
    let r = events x (E.closed ∷ block-events bs (waiting body os) k) in
    then-none os (E.opened body ∷ r) l (ends_at 3 0 (words r) (omega arith))
gathered (block catch x bs) os k l h z =
    let r = events x (E.closed ∷ block-events bs (waiting catch os) k) in
    then-none os (E.opened catch ∷ r) l (ends_at 3 2 (words r) (omega arith))
gathered (block finally x bs) os k l h z =
    let r = events x (E.closed ∷ block-events bs (waiting finally os) k) in
    then-none os (E.opened finally ∷ r) l (ends_at 3 3 (words r) (omega arith))
gathered (block try x bs) os k l h z =
    let rest = block-events bs os k in
    ends_at 3 1 (words (events x (E.closed ∷ rest))) (omega arith)
    ∙ past_items x (E.closed ∷ rest) 0 h.0
    ∙ passed-closed 0 (words rest)
    ∙ gathered bs os k l h.1 z
