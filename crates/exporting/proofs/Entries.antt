-- The entry of an action, and the tokens of its operands, in the tables of a reading. Assumes nothing.
use mathlib.Core.Path.{◌≡◌, refl, ap, sym, ◌∙◌}
use mathlib.Core.List.{List, [], ◌∷◌, ◌++◌, map}
use Prim.Native.Nat.{ℕ, zero, suc, ◌+◌, ◌<◌}
use native.Mathlib.Omega.{arith}
use lib.ListN.{length, drop, get_or, length-map}
use lib.Seq.{drop_at, drop-drop}
use Rattle.lexemes.specs.Lexemes.{Lexeme, place_of}
use Rattle.grammar.specs.Reading as G
use Rattle.grammar.specs.Reading.{Acted, operands_from}
use Rattle.entries.specs.declared.Action.{Action}
use Rattle.entries.specs.declared.Operand.{Operand}
use Rattle.entries.specs.Entries.{operand_of}
use Rattle.classes.specs.Lexemes.{lexeme_of}
use Rattle.reading.specs.Trees.{All}
use Rattle.reading.specs.Told.{Of}
use Rattle.reading.specs.Tables.{under, action_entries, operand_entry}
use Rattle.reading.proofs.Entries.{given, under-given}
use Rattle.coding.specs.Heads.{operand_at, operands_at}
use Rattle.pieces.proofs.Spots.{one_more}

-- ---- the entry of an action: where its operands start, and how many they are

-- how many operands so many actions from b on have
abbrev sum : List G.Operand → ℕ → ℕ → ℕ
sum os b zero = 0
sum os b (suc i) = under b os + sum os (suc b) i

entry_at : (xs : List G.Action) (b f i : ℕ) (os : List G.Operand) (h : G.Action) (r : List G.Action) (d : Action) → drop i xs ≡ h ∷ r
    → get_or (action_entries b f xs os) i d ≡ record { name = h.name; level = h.level; first = f + sum os b i; count = under (b + i) os }
entry_at [] b f zero os h r d e = absurd (omega (arith, ap length e))
entry_at [] b f (suc i) os h r d e = absurd (omega (arith, ap length e))
entry_at (x ∷ xs) b f zero os h r d e =
    let p : x ≡ h = ap (λ (l : List G.Action). get_or l 0 x) e in
    let z : b ≡ b + 0 = omega arith in
    let w : f ≡ f + 0 = omega arith in
    λ j. record { name = (p j).name; level = (p j).level; first = w j; count = under (z j) os }
entry_at (x ∷ xs) b f (suc i) os h r d e =
    let z : suc b + i ≡ b + suc i = omega arith in
    let w : f + under b os + sum os (suc b) i ≡ f + (under b os + sum os (suc b) i) = omega arith in
    entry_at xs (suc b) (f + under b os) i os h r d e
    ∙ (λ j. record { name = h.name; level = h.level; first = w j; count = under (z j) os })

-- how many operands the first k actions have
abbrev pub before : List Acted → ℕ → ℕ
before ls zero = 0
before [] (suc k) = 0
before (l ∷ ls) (suc k) = length l.operands + before ls k

abbrev counts : List Acted → ℕ → ℕ → ℕ
counts ls b zero = 0
counts ls b (suc i) = given ls b + counts ls (suc b) i

sum-counts : (ls : List Acted) (b i : ℕ) → sum (operands_from 0 ls) b i ≡ counts ls b i
sum-counts ls b zero = refl
sum-counts ls b (suc i) =
    let z : b ≡ 0 + b = omega arith in
    let e : under b (operands_from 0 ls) ≡ given ls b = ap (λ (k : ℕ). under k (operands_from 0 ls)) z ∙ under-given ls 0 b in
    ap (λ (k : ℕ). k + sum (operands_from 0 ls) (suc b) i) e ∙ ap (λ (k : ℕ). given ls b + k) (sum-counts ls (suc b) i)

none-counted : (b i : ℕ) → counts [] b i ≡ 0
none-counted b zero = refl
none-counted b (suc i) = let e = none-counted (suc b) i in omega arith

shifted : (l : Acted) (ls : List Acted) (b i : ℕ) → counts (l ∷ ls) (suc b) i ≡ counts ls b i
shifted l ls b zero = refl
shifted l ls b (suc i) = ap (λ (k : ℕ). given ls b + k) (shifted l ls (suc b) i)

counts-before : (ls : List Acted) (i : ℕ) → counts ls 0 i ≡ before ls i
counts-before ls zero = refl
counts-before [] (suc i) = none-counted 0 (suc i)
counts-before (l ∷ ls) (suc i) = ap (λ (k : ℕ). length l.operands + k) (shifted l ls 0 i ∙ counts-before ls i)

-- the action at a place
given-at : (ls : List Acted) (i : ℕ) (h : Acted) (r : List Acted) → drop i ls ≡ h ∷ r → given ls i ≡ length h.operands
given-at [] zero h r e = absurd (omega (arith, ap length e))
given-at [] (suc i) h r e = absurd (omega (arith, ap length e))
given-at (l ∷ ls) zero h r e = ap (λ (k : List Acted). given k 0) e
given-at (l ∷ ls) (suc i) h r e = given-at ls i h r e

abbrev pub bare : Acted → G.Action
bare l = record { name = l.name; level = l.level }

bare_at : (ls : List Acted) (i : ℕ) (h : Acted) (r : List Acted) → drop i ls ≡ h ∷ r → drop i (map bare ls) ≡ bare h ∷ map bare r
bare_at [] zero h r e = absurd (omega (arith, ap length e))
bare_at [] (suc i) h r e = absurd (omega (arith, ap length e))
bare_at (l ∷ ls) zero h r e = ap (map bare) e
bare_at (l ∷ ls) (suc i) h r e = bare_at ls i h r e

-- what the entry of an action is
abbrev pub entry_of : List Acted → ℕ → Acted → Action
entry_of ls i h = record { name = h.name; level = h.level; first = before ls i; count = length h.operands }

pub entry_is : (ls : List Acted) (i : ℕ) (h : Acted) (r : List Acted) (d : Action) → drop i ls ≡ h ∷ r
    → get_or (action_entries 0 0 (map bare ls) (operands_from 0 ls)) i d ≡ entry_of ls i h
entry_is ls i h r d e =
    let os = operands_from 0 ls in
    let z : 0 + i ≡ i = omega arith in
    let w : 0 + sum os 0 i ≡ before ls i = omega (arith, sum-counts ls 0 i, counts-before ls i) in
    let n : under (0 + i) os ≡ length h.operands = under-given ls 0 i ∙ given-at ls i h r e in
    entry_at (map bare ls) 0 0 i os (bare h) (map bare r) d (bare_at ls i h r e)
    ∙ (λ j. record { name = h.name; level = h.level; first = w j; count = n j })

-- ---- the tokens of its operands

abbrev of : ℕ → Lexeme → G.Operand
of a t = record { action = a; token = t }

operands_behind : (ls : List Acted) (a i : ℕ) → drop (before ls i) (operands_from a ls) ≡ operands_from (a + i) (drop i ls)
operands_behind ls a zero = let z : a ≡ a + 0 = omega arith in ap (λ (k : ℕ). operands_from k ls) z
operands_behind [] a (suc i) = refl
operands_behind (l ∷ ls) a (suc i) =
    let z : suc a + i ≡ a + suc i = omega arith in
    let own = map (of a) l.operands in
    sym (drop-drop (before ls i) (length l.operands) (own ++ operands_from (suc a) ls))
    ∙ ap (drop (before ls i)) (drop_at own (operands_from (suc a) ls) (length l.operands) (length-map l.operands (of a)))
    ∙ operands_behind ls (suc a) i
    ∙ ap (λ (k : ℕ). operands_from k (drop i ls)) z

get_d_first : {A B : Type 0} (g : A → B) (l : List A) (i : ℕ) (v : A) (q : List A) (d : B) → drop i l ≡ v ∷ q → get_or (map g l) i d ≡ g v
get_d_first g [] zero v q d e = absurd (omega (arith, ap length e))
get_d_first g [] (suc i) v q d e = absurd (omega (arith, ap length e))
get_d_first g (x ∷ l) zero v q d e = ap (λ k. get_or (map g k) 0 d) e
get_d_first g (x ∷ l) (suc i) v q d e = get_d_first g l i v q d e

pub inside : {A : Type 0} (l : List A) (i : ℕ) (v : A) (q : List A) → drop i l ≡ v ∷ q → i < length l
inside [] zero v q e = absurd (omega (arith, ap length e))
inside [] (suc i) v q e = absurd (omega (arith, ap length e))
inside (x ∷ l) zero v q e = omega arith
inside (x ∷ l) (suc i) v q e = let h = inside l i v q e in omega arith

module _ (text s operands : List ℕ) (os : List G.Operand)
    (told : (i : ℕ) → i < length os → (d : Operand) → operand_of (get_or operands i 0) ≡ get_or (map operand_entry os) i d) where
  -- the tokens ts of action a, whose entries stand from f on
  tokens-at : (ts : List Lexeme) (a f : ℕ) (q : List G.Operand) → drop f os ≡ map (of a) ts ++ q → All (Of text s) ts → operands_at text s operands f (length ts) ≡ ts
  tokens-at [] a f q e h = refl
  tokens-at (t ∷ ts) a f q e (h, hs) =
      let o = told f (inside os f (of a t) (map (of a) ts ++ q) e) (operand_of 0) ∙ get_d_first operand_entry os f (of a t) (map (of a) ts ++ q) (operand_of 0) e in
      let k : (operand_of (get_or operands f 0)).token ≡ place_of t = ap (λ (u : Operand). u.token) o in
      let this : operand_at text s operands f ≡ t = ap (λ (i : ℕ). lexeme_of text i (get_or s i 0)) k ∙ sym h.1 in
      let rest = tokens-at ts a (suc f) q (one_more os (map (of a) ts ++ q) (of a t) f e) hs in
      λ j. this j ∷ rest j

pub operands_are : (text s operands : List ℕ) (ls : List Acted)
    → ((i : ℕ) → i < length (operands_from 0 ls) → (d : Operand) → operand_of (get_or operands i 0) ≡ get_or (map operand_entry (operands_from 0 ls)) i d)
    → (i : ℕ) (h : Acted) (r : List Acted) → drop i ls ≡ h ∷ r → All (Of text s) h.operands
    → operands_at text s operands (before ls i) (length h.operands) ≡ h.operands
operands_are text s operands ls told i h r e all =
    tokens-at text s operands (operands_from 0 ls) told h.operands (0 + i) (before ls i) (operands_from (suc (0 + i)) r)
    (operands_behind ls 0 i ∙ ap (operands_from (0 + i)) e) all
