-- Every label of a reading names a level of it, and a position not behind that level's last action. Assumes nothing.
use mathlib.Core.Path.{◌≡◌, refl, subst}
use mathlib.Core.Logic.{⊎_elim}
use mathlib.Core.List.Memᴰ
use mathlib.Core.List.{List, [], ◌∷◌, map, Memᴰ}
use Prim.Native.Nat.{ℕ, suc, ◌+◌, ◌≤◌, ◌<◌}
use native.Mathlib.Omega.{arith}
use lib.ListN.{length, get_or}
use Rattle.lexemes.specs.Lexemes.{Lexeme, raw, same_name}
use Rattle.lexemes.proofs.Tests.{either}
use Rattle.grammar.specs.Grammar.{Items, done, label, action}
use Rattle.grammar.specs.Reading.{Reading, Level, Label, Opened, Reads, reading_of, opened, level_of, own_actions, place, own_labels, labels_from}

pub record InRange (R : Reading) (l : Label) : Type 0 where
  pub inside : l.level < length R.levels
  pub position : l.position ≤ get_or (map (λ (v : Level). v.actions) R.levels) l.level 0

-- ---- the labels of one level

module _ (ℓ n : ℕ) where
  -- of level ℓ, at a position up to n
  abbrev Own : Label → Type 0
  Own l = (l.level ≡ ℓ) × (l.position ≤ n)

  abbrev AllOwn : List Label → Type 0
  AllOwn [] = Unit {0}
  AllOwn (k ∷ ks) = Own k × AllOwn ks

  member : {l : Label} {ks : List Label} → AllOwn ks → Memᴰ l ks → Own l
  member o (Memᴰ.head e) = rw e o.0
  member o (Memᴰ.tail m) = member o.1 m

  placed : (l : Label) (ks : List Label) → Own l → AllOwn ks → AllOwn (place l ks)
  placed l [] h o = (h, tt)
  placed l (k ∷ ks) h o =
      either AllOwn (same_name (raw l.name) (raw k.name)) _ _ ((o.0.0, h.1), o.1) (o.0, placed l ks h o.1)

  own : (x : Items) (p : ℕ) (ks : List Label) → p + own_actions x ≤ n → AllOwn ks → AllOwn (own_labels ℓ p ks x)
  own done p ks h o = o
  own (label t x) p ks h o =
      let l : Label = record { level = ℓ; name = t; position = p } in
      own x p (place l ks) h (placed l ks (refl, omega arith) o)
  own (action m os bs x) p ks h o = own x (suc p) ks (omega arith) o

-- ---- the labels of all levels

-- the label is in range for the levels from ℓ on: its level is the i-th of them
record From (ℓ : ℕ) (levels : List Level) (l : Label) : Type 0 where
  i : ℕ
  level : l.level ≡ ℓ + i
  inside : i < length levels
  position : l.position ≤ get_or (map (λ (v : Level). v.actions) levels) i 0

from : (ls : List Opened) (ℓ : ℕ) (l : Label) → Memᴰ l (labels_from ℓ ls) → From ℓ (map level_of ls) l
from [] ℓ l m = absurd (Memᴰ.not-nil m)
from (o ∷ ls) ℓ l m = ⊎_elim here (λ k. there (from ls (suc ℓ) l k)) (Memᴰ.append_cases (own_labels ℓ 0 [] o.items) m)
  where
    here : Memᴰ l (own_labels ℓ 0 [] o.items) → From ℓ (map level_of (o ∷ ls)) l
    here k =
        let n = own_actions o.items in
        let q = member ℓ n (own ℓ n o.items 0 [] (omega arith) tt) k in
        record { i = 0; level = omega arith; inside = omega arith; position = q.1 }

    there : From (suc ℓ) (map level_of ls) l → From ℓ (map level_of (o ∷ ls)) l
    there f = record { i = suc f.i; level = omega arith; inside = omega arith; position = f.position }

tree_range : (x : Items) (l : Label) → Memᴰ l (reading_of x).labels → InRange (reading_of x) l
unfolding reading_of
tree_range x l m =
    let f = from (opened x) 0 l m in
    let e : l.level ≡ f.i = omega arith in
    record { inside = rw e f.inside; position = rw e f.position }

pub labels_in_range : {ts : List Lexeme} {R : Reading} → Reads ts R → (l : Label) → Memᴰ l R.labels → InRange R l
labels_in_range h = subst (λ (r : Reading). (l : Label) → Memᴰ l r.labels → InRange r l) h.told (tree_range h.tree)
