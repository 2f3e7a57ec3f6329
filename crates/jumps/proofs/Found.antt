-- The first label that is the same as a jump's word is the one that the jump aims at. Assumes nothing.
use mathlib.Core.Path.{◌≡◌, refl, ap, sym, ◌∙◌}
use mathlib.Core.Bool.{Bool, true, false, cond}
use mathlib.Core.List.{List, [], ◌∷◌}
use Prim.Native.Nat.{ℕ, suc, ◌+◌, ◌≤◌, ◌<◌}
use native.Mathlib.Omega.{arith}
use lib.ListN.{length, take, get_or}
use lib.Seq.{length-take-le, get_or-take}
use Rattle.tokens.specs.Tokens.{token_of, raw_text}
use Rattle.entries.specs.declared.Action.{Action}
use Rattle.entries.specs.declared.Operand.{Operand}
use Rattle.entries.specs.declared.Label.{Label}
use Rattle.entries.specs.Entries.{action_of, operand_of, label_word, label_of}
use Rattle.entries.specs.Levels.{Small}
use Rattle.entries.proofs.Words.{label_back}
use Rattle.label_names.specs.Names.{is_named}
use Rattle.labels.specs.Labels.{is_same, first_same}
use Rattle.jumps.specs.Aims.{name_at, aim_in, aim_at}

module _ (text s : List ℕ) (level token : ℕ) (small : Small token) where
  -- the word of a label that the jump would have written itself
  abbrev sought : Label
  sought = record { level = level; token = token; position = 0 }

  abbrev aim : List ℕ → ℕ
  aim = aim_in text s level (name_at text s token)

  abbrev place : List ℕ → ℕ
  place = first_same text s (label_word sought)

  same : (v : ℕ) → is_same text s (label_word sought) v ≡ is_named text s level (name_at text s token) v
  unfolding is_same
  same v =
      let back : label_of (label_word sought) ≡ sought = label_back sought small (omega arith) in
      λ i. is_named text s (back i).level (raw_text text (token_of (get_or s (back i).token 0))) v

  at_place : (l : List ℕ) → place l < length l → suc (label_of (get_or l (place l) 0)).position ≡ aim l
  at_place [] h = absurd (omega arith)
  at_place (v ∷ l) h = by (is_same text s (label_word sought) v) (same v) h (at_place l)
    where
      by : (b : Bool) → b ≡ is_named text s level (name_at text s token) v → cond b 0 (suc (place l)) < suc (length l)
          → (place l < length l → suc (label_of (get_or l (place l) 0)).position ≡ aim l)
          → suc (label_of (get_or (v ∷ l) (cond b 0 (suc (place l))) 0)).position ≡ aim (v ∷ l)
      by true e g f = ap (λ (b : Bool). cond b (suc (label_of v).position) (aim l)) e
      by false e g f = f (omega arith) ∙ ap (λ (b : Bool). cond b (suc (label_of v).position) (aim l)) e

  no_place : (l : List ℕ) → length l ≤ place l → 0 ≡ aim l
  no_place [] h = refl
  no_place (v ∷ l) h = by (is_same text s (label_word sought) v) (same v) h (no_place l)
    where
      by : (b : Bool) → b ≡ is_named text s level (name_at text s token) v → suc (length l) ≤ cond b 0 (suc (place l)) → (length l ≤ place l → 0 ≡ aim l)
          → 0 ≡ aim (v ∷ l)
      by true e g f = absurd (omega arith)
      by false e g f = f (omega arith) ∙ ap (λ (b : Bool). cond b (suc (label_of v).position) (aim l)) e

  -- ---- among the first m labels of a table

  module _ (labels : List ℕ) (m : ℕ) (inside : m ≤ length labels) {w : ℕ} (word : w ≡ label_word sought) (k : ℕ) (e : k ≡ first_same text s w (take m labels)) where
    at : k ≡ place (take m labels)
    at = e ∙ ap (λ (v : ℕ). first_same text s v (take m labels)) word

    long : length (take m labels) ≡ m
    long = length-take-le m labels inside

    pub found : k < m → {l : Label} → l ≡ label_of (get_or labels k 0) → l.position + 1 ≡ aim (take m labels)
    found h {l} f =
        let p : l.position + 1 ≡ suc (label_of (get_or labels k 0)).position = omega (arith, ap (λ (q : Label). q.position) f) in
        p
        ∙ ap (λ (v : ℕ). suc (label_of v).position) (sym (get_or-take m labels k 0 h) ∙ ap (λ (j : ℕ). get_or (take m labels) j 0) at)
        ∙ at_place (take m labels) (omega (arith, h, at, long))

    pub not_found : m ≤ k → 0 ≡ aim (take m labels)
    not_found h = no_place (take m labels) (omega (arith, h, at, long))

-- ---- of an action of the tables

pub told_at : (text s actions operands : List ℕ) (i : ℕ) (labels : List ℕ) {a : Action} {o : Operand} {r : ℕ} → a ≡ action_of (get_or actions i 0) → o ≡ operand_of (get_or operands a.first 0)
    → r ≡ aim_in text s a.level (name_at text s o.token) labels → r ≡ aim_at text s actions operands i labels
unfolding aim_at
told_at text s actions operands i labels {a} {o} e f g =
    let h : o ≡ operand_of (get_or operands (action_of (get_or actions i 0)).first 0) = f ∙ ap (λ (q : Action). operand_of (get_or operands q.first 0)) e in
    g ∙ (λ j. aim_in text s (e j).level (name_at text s (h j).token) labels)
