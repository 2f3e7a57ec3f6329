-- What a jump aims at among the label words of a tree: the position of the label of that name in its level. Assumes nothing.
use mathlib.Core.Path.{◌≡◌, refl, sym, ap, subst, ◌∙◌}
use mathlib.Core.Bool.{Bool, true, false, cond}
use mathlib.Core.List.{List, [], ◌∷◌, ◌++◌, map, map-append}
use Prim.Native.Nat.{ℕ, zero, suc, ◌+◌, ◌<◌}
use native.Mathlib.Omega.{arith}
use lib.ListN.{length, get_or}
use Rattle.tokens.specs.Tokens.{token_of, raw_text}
use Rattle.lexemes.specs.Lexemes.{raw, same_name}
use Rattle.lexemes.proofs.Tests.{either}
use Rattle.grammar.specs.Grammar.{Items, done, label, action}
use Rattle.grammar.specs.Reading as R
use Rattle.grammar.specs.Reading.{Opened, own_actions, place, own_labels, labels_from}
use Rattle.entries.specs.declared.Label as D
use Rattle.entries.specs.Entries.{label_of}
use Rattle.entries.specs.Levels.{Small}
use Rattle.entries.proofs.Words.{label_back}
use Rattle.label_names.specs.Names.{is_named}
use Rattle.label_names.proofs.Named.{not_named, named}
use Rattle.labels.specs.Index.{Distinct}
use Rattle.labels.proofs.Same.{merged-distinct}
use Rattle.reading.specs.Tables.{label_entry, label_entry_word}
use Rattle.reading.proofs.Runs.{Every, runs}
use Rattle.reading.proofs.Groups.{label_run}
use Rattle.reading.proofs.Labels.{Found, Named, Sound, labels-merged}
use Rattle.movies.specs.Movie.{position}
use Rattle.movies.specs.Meaning.{position_of}
use Rattle.jumps.specs.Aims.{aim_in, aimed}
use Rattle.jumps.proofs.Positions.{same_positions}

module _ (text s : List ℕ) where
  pub words-distinct : (ls : List Opened) → Every (Sound text s) ls → Distinct text s (map label_entry_word (labels_from 0 ls))
  words-distinct ls h = subst (Distinct text s) (labels-merged text s ls h) (merged-distinct text s (runs label_run 0 ls))

  -- ---- the labels of one level

  -- a label of level ℓ, which its word tells
  record Own (ℓ : ℕ) (l : R.Label) : Type 0 where
    level : l.level ≡ ℓ
    name : Found text s l.name
    position : Small l.position

  place-own : (ℓ : ℕ) (l : R.Label) → Own ℓ l → (ks : List R.Label) → Every (Own ℓ) ks → Every (Own ℓ) (place l ks)
  place-own ℓ l o [] h = (o, tt)
  place-own ℓ l o (k ∷ ks) h =
      either (Every (Own ℓ)) (same_name (raw l.name) (raw k.name)) _ _
      (record { level = h.0.level; name = h.0.name; position = o.position }, h.1)
      (h.0, place-own ℓ l o ks h.1)

  labels-own : (ℓ p : ℕ) (ks : List R.Label) (x : Items) → Named text s x → Small (p + own_actions x) → Every (Own ℓ) ks → Every (Own ℓ) (own_labels ℓ p ks x)
  labels-own ℓ p ks done h g o = o
  labels-own ℓ p ks (label t x) h g o =
      let l : R.Label = record { level = ℓ; name = t; position = p } in
      labels-own ℓ p (place l ks) x h.1 g (place-own ℓ l (record { level = refl; name = h.0; position = omega (arith, g) }) ks o)
  labels-own ℓ p ks (action n os bs x) h g o = labels-own ℓ (suc p) ks x h (omega (arith, g)) o

  level-own : (ℓ : ℕ) (l : Opened) → Sound text s l → Every (Own ℓ) (own_labels ℓ 0 [] l.items)
  level-own ℓ l h = let g = h.few in labels-own ℓ 0 [] l.items h.named (omega (arith, g)) tt

  -- ---- their words

  module _ (level : ℕ) (w : List ℕ) where
    abbrev aim : List ℕ → ℕ
    aim = aim_in text s level w

    module _ (ℓ : ℕ) (l : R.Label) (o : Own ℓ l) where
      back : label_of (label_entry_word l) ≡ label_entry l
      back = label_back (label_entry l) o.name.low o.position

      other : (level ≡ ℓ → ⊥) → false ≡ is_named text s level w (label_entry_word l)
      other d = not_named text s level w (label_entry_word l) (sym back) (λ e. d (e ∙ o.level))

      own : level ≡ ℓ → is_named text s level w (label_entry_word l) ≡ same_name w (raw l.name)
      own e =
          named text s level w (label_entry_word l) (e ∙ sym o.level ∙ sym (ap (λ (q : D.Label). q.level) back))
          ∙ ap (same_name w) (ap (λ (q : D.Label). raw_text text (token_of (get_or s q.token 0))) back ∙ sym o.name.text_of)

    -- those of another level are passed over
    pass : (ℓ : ℕ) → (level ≡ ℓ → ⊥) → (ks : List R.Label) → Every (Own ℓ) ks → (ws : List ℕ) → aim (map label_entry_word ks ++ ws) ≡ aim ws
    pass ℓ d [] h ws = refl
    pass ℓ d (k ∷ ks) h ws =
        (λ i. cond (sym (other ℓ k h.0 d) i) (suc (label_of (label_entry_word k)).position) (aim (map label_entry_word ks ++ ws))) ∙ pass ℓ d ks h.1 ws

    -- those of its own level, and then none
    reach : (ks : List R.Label) → Every (Own level) ks → (ws : List ℕ) → aim ws ≡ 0 → aimed (aim (map label_entry_word ks ++ ws)) ≡ position_of w ks
    reach [] h ws e = ap aimed e
    reach (k ∷ ks) h ws e =
        (λ i. aimed (cond (own level k h.0 refl i) (suc (back level k h.0 i).position) (aim (map label_entry_word ks ++ ws))))
        ∙ by (same_name w (raw k.name)) (reach ks h.1 ws e)
      where
        by : (b : Bool) → aimed (aim (map label_entry_word ks ++ ws)) ≡ position_of w ks
            → aimed (cond b (suc k.position) (aim (map label_entry_word ks ++ ws))) ≡ cond b (position k.position) (position_of w ks)
        by true f = refl
        by false f = f

    -- ---- the labels of the levels from m on

    split : (m : ℕ) (l : Opened) (ls : List Opened)
        → map label_entry_word (labels_from m (l ∷ ls)) ≡ map label_entry_word (own_labels m 0 [] l.items) ++ map label_entry_word (labels_from (suc m) ls)
    split m l ls = map-append label_entry_word (own_labels m 0 [] l.items) (labels_from (suc m) ls)

    behind : (ls : List Opened) (m : ℕ) → Every (Sound text s) ls → level < m → aim (map label_entry_word (labels_from m ls)) ≡ 0
    behind [] m h g = refl
    behind (l ∷ ls) m h g =
        ap aim (split m l ls)
        ∙ pass m (λ e. omega (arith, e, g)) (own_labels m 0 [] l.items) (level-own m l h.0) (map label_entry_word (labels_from (suc m) ls))
        ∙ behind ls (suc m) h.1 (omega arith)

    from : (ls : List Opened) (m k : ℕ) (d : Opened) → Every (Sound text s) ls → k < length ls → level ≡ m + k
        → aimed (aim (map label_entry_word (labels_from m ls))) ≡ position_of w (own_labels level 0 [] (get_or ls k d).items)
    from [] m k d h g e = absurd (omega arith)
    from (l ∷ ls) m zero d h g e =
        let q : m ≡ level = omega (arith, e) in
        ap (λ (v : List ℕ). aimed (aim v)) (split m l ls ∙ ap (λ (j : ℕ). map label_entry_word (own_labels j 0 [] l.items) ++ map label_entry_word (labels_from (suc m) ls)) q)
        ∙ reach (own_labels level 0 [] l.items) (level-own level l h.0) (map label_entry_word (labels_from (suc m) ls)) (behind ls (suc m) h.1 (omega (arith, e)))
    from (l ∷ ls) m (suc k) d h g e =
        ap (λ (v : List ℕ). aimed (aim v)) (split m l ls)
        ∙ ap aimed (pass m (λ q. omega (arith, e, q)) (own_labels m 0 [] l.items) (level-own m l h.0) (map label_entry_word (labels_from (suc m) ls)))
        ∙ from ls (suc m) k d h.1 (omega arith) (omega (arith, e))

    pub aim-of-level : (ls : List Opened) (d : Opened) → Every (Sound text s) ls → level < length ls
        → aimed (aim (map label_entry_word (labels_from 0 ls))) ≡ position_of w (own_labels 0 0 [] (get_or ls level d).items)
    aim-of-level ls d h g = from ls 0 level d h g (omega arith) ∙ same_positions 0 level w (get_or ls level d).items
