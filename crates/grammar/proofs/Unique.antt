-- At most one tree for a list of tokens. The machine is run with an output that lists the events; two trees with the same
-- events are the same tree. Assumes nothing.
use mathlib.Core.Path.{◌≡◌, refl, sym, ap, ◌∙◌, subst}
use mathlib.Core.List.{List, [], ◌∷◌}
use Prim.Native.Nat.{ℕ, ◌≤◌}
use native.Mathlib.Omega.{arith}
use Rattle.names.specs.declared.ActionName.{ActionName}
use Rattle.lexemes.specs.Lexemes.{Lexeme}
use Rattle.lexemes.specs.Events.{Part, body, try, catch, finally, Event, acted, named, given, opened, closed}
use Rattle.machine.specs.Machine.{Answer, accepted, refused, text, run}
use Rattle.machine.proofs.Runs.{gives}
use Rattle.grammar.specs.Grammar.{Items, done, label, action, Blocks, no_blocks, block, Text}
use Rattle.grammar.specs.Reading.{Has}
use Rattle.grammar.specs.Trees.{leading, waiting, givens, events, block-events}
use Rattle.grammar.proofs.Events.{emits, emits_blocks}
use Rattle.grammar.proofs.Forward.{text_runs}

-- an output that lists the events: a list with its end open
abbrev pub Open : Type 0
Open = List Event → List Event

abbrev pub add : Event → Open → Open
add v s = λ k. s (v ∷ k)

gives_lists : (os : List Lexeme) (s : Open) (k : List Event) → gives add os s k ≡ s (givens os k)
gives_lists [] s k = refl
gives_lists (t ∷ os) s k = gives_lists os (add (given t) s) k

mutual
  pub emits_lists : (x : Items) (s : Open) (k : List Event) → emits add x s k ≡ s (events x k)
  emits_lists done s k = refl
  emits_lists (label t x) s k = emits_lists x (add (named t) s) k
  emits_lists (action n os bs x) s k =
      emits_lists x (emits_blocks add bs os (add (acted n) s)) k ∙ blocks_list bs os (add (acted n) s) (events x k)

  blocks_list : (bs : Blocks) (os : List Lexeme) (s : Open) (k : List Event) → emits_blocks add bs os s k ≡ s (block-events bs os k)
  blocks_list no_blocks os s k = gives_lists os s k
  blocks_list (block p x bs) os s k =
      blocks_list bs (waiting p os) (add closed (emits add x (add (opened p) (gives add (leading p os) s)))) k
      ∙ emits_lists x (add (opened p) (gives add (leading p os) s)) (closed ∷ block-events bs (waiting p os) k)
      ∙ gives_lists (leading p os) s (opened p ∷ events x (closed ∷ block-events bs (waiting p os) k))

-- ---- the events tell the tree

-- the first event's sort: what may follow operands, blocks and levels is told by bounds on it
abbrev sort : List Event → ℕ
sort [] = 5
sort (given t ∷ k) = 0
sort (opened p ∷ k) = 1
sort (named t ∷ k) = 2
sort (acted n ∷ k) = 3
sort (closed ∷ k) = 4

-- no operand and no block of the action before follows a level
items_sort : (x : Items) (k : List Event) → 4 ≤ sort k → 2 ≤ sort (events x k)
items_sort done k h = omega arith
items_sort (label t x) k h = omega arith
items_sort (action n os bs x) k h = omega arith

givens-same : (os os' : List Lexeme) (k k' : List Event) → 1 ≤ sort k → 1 ≤ sort k' → givens os k ≡ givens os' k' → (os ≡ os') × (k ≡ k')
givens-same [] [] k k' h h' e = (refl, e)
givens-same [] (t ∷ os') k k' h h' e = absurd (omega (arith, ap sort e))
givens-same (t ∷ os) [] k k' h h' e = absurd (omega (arith, ap sort e))
givens-same (t ∷ os) (t' ∷ os') k k' h h' e =
    let a : t ≡ t' = cc in
    let b : givens os k ≡ givens os' k' = cc in
    let r = givens-same os os' k k' h h' b in
    let c = r.0 in
    ((cc), r.1)

operands_same : (p : Part) (os os' : List Lexeme) → leading p os ≡ leading p os' → waiting p os ≡ waiting p os' → os ≡ os'
operands_same body os os' a b = a
operands_same try os os' a b = b
operands_same catch os os' a b = a
operands_same finally os os' a b = a

acted-same : {n n' : ActionName} {k k' : List Event} → (◌≡◌ {A = List Event} (acted n ∷ k) (acted n' ∷ k')) → (n ≡ n') × (k ≡ k')
acted-same e = ((cc), (cc))

opened-same : {p p' : Part} {k k' : List Event} → (◌≡◌ {A = List Event} (opened p ∷ k) (opened p' ∷ k')) → (p ≡ p') × (k ≡ k')
opened-same e = ((cc), (cc))

closed_same : {k k' : List Event} → (◌≡◌ {A = List Event} (closed ∷ k) (closed ∷ k')) → k ≡ k'
closed_same e = cc

same-action : {n n' : ActionName} {os os' : List Lexeme} {bs bs' : Blocks} {x x' : Items} → n ≡ n' → os ≡ os' → bs ≡ bs' → x ≡ x' → action n os bs x ≡ action n' os' bs' x'
same-action a b c d = cc

same_block : {p p' : Part} {x x' : Items} {bs bs' : Blocks} → p ≡ p' → x ≡ x' → bs ≡ bs' → block p x bs ≡ block p' x' bs'
same_block a b c = cc

mutual
  items-same : (x x' : Items) (k k' : List Event) → 4 ≤ sort k → 4 ≤ sort k' → events x k ≡ events x' k' → (x ≡ x') × (k ≡ k')
  items-same done done k k' h h' e = (refl, e)
  items-same done (label t x) k k' h h' e = absurd (omega (arith, ap sort e))
  items-same done (action n os bs x) k k' h h' e = absurd (omega (arith, ap sort e))
  items-same (label t x) done k k' h h' e = absurd (omega (arith, ap sort e))
  items-same (label t x) (label t' x') k k' h h' e =
      let a : t ≡ t' = cc in
      let b : events x k ≡ events x' k' = cc in
      let r = items-same x x' k k' h h' b in
      let c = r.0 in
      ((cc), r.1)
  items-same (label t x) (action n os bs x') k k' h h' e = absurd (omega (arith, ap sort e))
  items-same (action n os bs x) done k k' h h' e = absurd (omega (arith, ap sort e))
  items-same (action n os bs x) (label t x') k k' h h' e = absurd (omega (arith, ap sort e))
  items-same (action n os bs x) (action n' os' bs' x') k k' h h' e =
      let a = acted-same e in
      let b = blocks-same bs bs' os os' (events x k) (events x' k') (items_sort x k h) (items_sort x' k' h') a.1 in
      let c = items-same x x' k k' h h' b.2 in
      (same-action a.0 b.1 b.0 c.0, c.1)

  blocks-same : (bs bs' : Blocks) (os os' : List Lexeme) (k k' : List Event) → 2 ≤ sort k → 2 ≤ sort k' → block-events bs os k ≡ block-events bs' os' k' →
      (bs ≡ bs') × (os ≡ os') × (k ≡ k')
  blocks-same no_blocks no_blocks os os' k k' h h' e = let a = givens-same os os' k k' (omega arith) (omega arith) e in (refl, a.0, a.1)
  blocks-same no_blocks (block p x bs) os os' k k' h h' e =
      let a = givens-same os (leading p os') k (opened p ∷ events x (closed ∷ block-events bs (waiting p os') k')) (omega arith) (omega arith) e in
      absurd (omega (arith, ap sort a.1))
  blocks-same (block p x bs) no_blocks os os' k k' h h' e =
      let a = givens-same (leading p os) os' (opened p ∷ events x (closed ∷ block-events bs (waiting p os) k)) k' (omega arith) (omega arith) e in
      absurd (omega (arith, ap sort a.1))
  blocks-same (block p x bs) (block p' x' bs') os os' k k' h h' e =
      let w = closed ∷ block-events bs (waiting p os) k in
      let w' = closed ∷ block-events bs' (waiting p' os') k' in
      let a = givens-same (leading p os) (leading p' os') (opened p ∷ events x w) (opened p' ∷ events x' w') (omega arith) (omega arith) e in
      let b = opened-same a.1 in
      let c = items-same x x' w w' (omega arith) (omega arith) b.1 in
      let d = blocks-same bs bs' (waiting p os) (waiting p' os') k k' h h' (closed_same c.1) in
      let g : leading p os ≡ leading p os' = subst (λ (q : Part). leading p os ≡ leading q os') (sym b.0) a.0 in
      let i : waiting p os ≡ waiting p os' = subst (λ (q : Part). waiting p os ≡ waiting q os') (sym b.0) d.1 in
      (same_block b.0 c.0 d.0, operands_same p os os' g i, d.2)

-- ---- the theorem

abbrev pub output : Answer Open → List Event
output (accepted s) = s []
output (refused n) = []

pub events-told : {ts : List Lexeme} {x : Items} → Text ts x → output (run add text (λ k. k) ts) ≡ events x []
events-told {x = x} d = ap output (text_runs add (λ k. k) d) ∙ emits_lists x (λ k. k) []

-- the events of a whole tree tell it
pub tree-told : (x y : Items) → events x [] ≡ events y [] → x ≡ y
tree-told x y e = (items-same x y [] [] (omega arith) (omega arith) e).0

-- at most one tree
pub one-tree : {ts : List Lexeme} {x y : Items} → Text ts x → Text ts y → x ≡ y
one-tree {x = x} {y = y} d d' = tree-told x y (sym (events-told d) ∙ events-told d')

-- and what is told of it is one
pub one_told : {R : Type 0} {f : Items → R} {ts : List Lexeme} {r s : R} → Has f ts r → Has f ts s → r ≡ s
one_told {f = f} a b = sym a.told ∙ ap f (one-tree a.fits b.fits) ∙ b.told
