-- The words of a tree's labels, level by level, brought together: the words of the labels of its reading. Assumes nothing.
use mathlib.Core.Path.{◌≡◌, refl, sym, ap, ◌∙◌}
use mathlib.Core.Bool.{Bool, true, false, cond}
use mathlib.Core.List.{List, [], ◌∷◌, ◌++◌, map, map-append, append_assoc, append-nil}
use Prim.Native.Nat.{ℕ, suc, ◌+◌, ◌≤◌, ◌<◌}
use native.Mathlib.Omega.{arith}
use lib.ListN.{length, get_or}
use Rattle.tokens.specs.Tokens.{token_of, raw_text}
use Rattle.lexemes.specs.Lexemes.{Lexeme, raw, place_of, same_name}
use Rattle.lexemes.proofs.Tests.{either}
use Rattle.grammar.specs.Grammar.{Items, done, label, action, Blocks, no_blocks, block}
use Rattle.grammar.specs.Reading as R
use Rattle.grammar.specs.Reading.{Opened, own_actions, all_actions, actions_inside, opened_of, opened_in, opened, place, own_labels, labels_from}
use Rattle.classes.specs.Lexemes.{lexeme_of}
use Rattle.entries.specs.declared.Label as D
use Rattle.entries.specs.Entries.{label_word, label_of}
use Rattle.entries.specs.Levels.{Small}
use Rattle.entries.proofs.Words.{label_back}
use Rattle.label_names.specs.Names.{name_of}
use Rattle.labels.specs.Labels.{is_same, moved, placed, merged}
use Rattle.labels.proofs.Placing.{one-level, other_level, merged-append}
use Rattle.reading.specs.Trees.{AllOf, AllIn}
use Rattle.reading.specs.Tables.{label_entry, label_entry_word}
use Rattle.reading.proofs.Runs.{Every, every_append, runs}
use Rattle.reading.proofs.Groups.{own_words, label_run, own-few}

module _ (text s : List ℕ) where
  -- the token table has the lexeme at its place, and the place fits a label's word
  pub record Found (t : Lexeme) : Type 0 where
    pub text_of : raw t ≡ raw_text text (token_of (get_or s (place_of t) 0))
    pub low : Small (place_of t)

  pub is_found : (t : Lexeme) → length s ≤ 65536 → place_of t < length s → t ≡ lexeme_of text (place_of t) (get_or s (place_of t) 0) → Found t
  is_found t h g e = record { text_of = ap raw e; low = omega arith }

  -- every name of a level's own labels
  abbrev pub Named : Items → Type 0
  Named done = Unit {0}
  Named (label t x) = Found t × Named x
  Named (action n os bs x) = Named x

  -- a level whose labels' words can be told apart
  pub record Sound (l : Opened) : Type 0 where
    pub named : Named l.items
    pub few : Small (own_actions l.items)

  -- ---- the parts of a label's word

  -- a label of level ℓ
  record Own (ℓ : ℕ) (l : R.Label) : Type 0 where
    level : l.level ≡ ℓ
    name : Found l.name
    position : Small l.position

  module _ (ℓ : ℕ) (l : R.Label) (o : Own ℓ l) where
    back : label_of (label_entry_word l) ≡ label_entry l
    back = label_back (label_entry l) o.name.low o.position

    level-is : (label_of (label_entry_word l)).level ≡ ℓ
    level-is = ap (λ (e : D.Label). e.level) back ∙ o.level

    name-is : name_of text s (label_entry_word l) ≡ raw l.name
    name-is = ap (λ (e : D.Label). raw_text text (token_of (get_or s e.token 0))) back ∙ sym o.name.text_of

  -- ---- one label among those of its level

  module _ (ℓ : ℕ) (l : R.Label) (o : Own ℓ l) where
    same-words : (k : R.Label) → Own ℓ k → is_same text s (label_entry_word l) (label_entry_word k) ≡ same_name (raw l.name) (raw k.name)
    same-words k h =
        one-level text s (label_entry_word l) (label_entry_word k) (level-is ℓ l o ∙ sym (level-is ℓ k h))
        ∙ (λ i. same_name (name-is ℓ l o i) (name-is ℓ k h i))

    again : R.Label → R.Label
    again k = record { level = k.level; name = k.name; position = l.position }

    moved_word : (k : R.Label) → Own ℓ k → moved (label_entry_word l) (label_entry_word k) ≡ label_entry_word (again k)
    unfolding again
    moved_word k h = λ i. label_word (record { level = (back ℓ k h i).level; token = (back ℓ k h i).token; position = (back ℓ l o i).position })

    place-words : (ks : List R.Label) → Every (Own ℓ) ks → placed text s (label_entry_word l) (map label_entry_word ks) ≡ map label_entry_word (place l ks)
    unfolding again
    place-words [] h = refl
    place-words (k ∷ ks) h =
        (λ i. cond (same-words k h.0 i) (moved_word k h.0 i ∷ map label_entry_word ks) (label_entry_word k ∷ place-words ks h.1 i))
        ∙ by (same_name (raw l.name) (raw k.name))
      where
        by : (t : Bool) → cond t (label_entry_word (again k) ∷ map label_entry_word ks) (label_entry_word k ∷ map label_entry_word (place l ks)) ≡ map label_entry_word (cond t (again k ∷ ks) (k ∷ place l ks))
        by true = refl
        by false = refl

    place-own : (ks : List R.Label) → Every (Own ℓ) ks → Every (Own ℓ) (place l ks)
    unfolding again
    place-own [] h = (o, tt)
    place-own (k ∷ ks) h =
        either (Every (Own ℓ)) (same_name (raw l.name) (raw k.name)) (again k ∷ ks) (k ∷ place l ks)
        (record { level = h.0.level; name = h.0.name; position = o.position }, h.1)
        (h.0, place-own ks h.1)

    -- labels of lower levels are passed over
    pass : (front ws : List ℕ) → Every (λ (w : ℕ). (label_of w).level < ℓ) front
        → placed text s (label_entry_word l) (front ++ ws) ≡ front ++ placed text s (label_entry_word l) ws
    pass [] ws h = refl
    pass (w ∷ front) ws h =
        let d : false ≡ is_same text s (label_entry_word l) w = other_level text s (label_entry_word l) w (λ e. omega (arith, e, level-is ℓ l o, h.0)) in
        (λ i. cond (sym d i) (moved (label_entry_word l) w ∷ (front ++ ws)) (w ∷ pass front ws h.1 i))

  -- ---- the labels of one level, behind those of lower levels

  abbrev Lower : ℕ → List ℕ → Type 0
  Lower ℓ ws = Every (λ (w : ℕ). (label_of w).level < ℓ) ws

  merged-own : (ℓ : ℕ) (front : List ℕ) → Lower ℓ front → (x : Items) (p : ℕ) (ks : List R.Label) → Named x → Small (p + own_actions x) → Every (Own ℓ) ks
      → merged text s (front ++ map label_entry_word ks) (own_words ℓ p x) ≡ front ++ map label_entry_word (own_labels ℓ p ks x)
  merged-own ℓ front f done p ks h g o = refl
  merged-own ℓ front f (label t x) p ks h g o =
      let l : R.Label = record { level = ℓ; name = t; position = p } in
      let own : Own ℓ l = record { level = refl; name = h.0; position = omega (arith, g) } in
      ap (λ (q : List ℕ). merged text s q (own_words ℓ p x)) (pass ℓ l own front (map label_entry_word ks) f ∙ ap (λ (q : List ℕ). front ++ q) (place-words ℓ l own ks o))
      ∙ merged-own ℓ front f x p (place l ks) h.1 g (place-own ℓ l own ks o)
  merged-own ℓ front f (action n os bs x) p ks h g o = merged-own ℓ front f x (suc p) ks h (omega (arith, g)) o

  labels-own : (ℓ : ℕ) (x : Items) (p : ℕ) (ks : List R.Label) → Named x → Small (p + own_actions x) → Every (Own ℓ) ks → Every (Own ℓ) (own_labels ℓ p ks x)
  labels-own ℓ done p ks h g o = o
  labels-own ℓ (label t x) p ks h g o =
      let l : R.Label = record { level = ℓ; name = t; position = p } in
      labels-own ℓ x p (place l ks) h.1 g (place-own ℓ l (record { level = refl; name = h.0; position = omega (arith, g) }) ks o)
  labels-own ℓ (action n os bs x) p ks h g o = labels-own ℓ x (suc p) ks h (omega (arith, g)) o

  -- ---- the labels of all levels

  raised : (ℓ : ℕ) (ws : List ℕ) → Lower ℓ ws → Lower (suc ℓ) ws
  raised ℓ [] h = tt
  raised ℓ (w ∷ ws) h = let i = h.0 in (omega (arith, i), raised ℓ ws h.1)

  own-lower : (ℓ : ℕ) (ks : List R.Label) → Every (Own ℓ) ks → Lower (suc ℓ) (map label_entry_word ks)
  own-lower ℓ [] h = tt
  own-lower ℓ (k ∷ ks) h = let i = level-is ℓ k h.0 in (omega (arith, i), own-lower ℓ ks h.1)

  merged-from : (ls : List Opened) (ℓ : ℕ) (front : List ℕ) → Lower ℓ front → Every Sound ls
      → merged text s front (runs label_run ℓ ls) ≡ front ++ map label_entry_word (labels_from ℓ ls)
  merged-from [] ℓ front f h = sym (append-nil front)
  merged-from (l ∷ ls) ℓ front f h =
      let x = l.items in
      let g : Small (0 + own_actions x) = omega (arith, h.0.few) in
      let own = own_labels ℓ 0 [] x in
      let rest = labels_from (suc ℓ) ls in
      let low : Lower (suc ℓ) (front ++ map label_entry_word own) =
      every_append (λ (w : ℕ). (label_of w).level < suc ℓ) front (map label_entry_word own) (raised ℓ front f) (own-lower ℓ own (labels-own ℓ x 0 [] h.0.named g tt))
      in
      merged-append text s front (own_words ℓ 0 x) (runs label_run (suc ℓ) ls)
      ∙ ap (λ (q : List ℕ). merged text s q (runs label_run (suc ℓ) ls))
      (ap (λ (q : List ℕ). merged text s q (own_words ℓ 0 x)) (sym (append-nil front)) ∙ merged-own ℓ front f x 0 [] h.0.named g tt)
      ∙ merged-from ls (suc ℓ) (front ++ map label_entry_word own) low h.1
      ∙ append_assoc front (map label_entry_word own) (map label_entry_word rest)
      ∙ ap (λ (q : List ℕ). front ++ q) (sym (map-append label_entry_word own rest))

  pub labels-merged : (ls : List Opened) → Every Sound ls → merged text s [] (runs label_run 0 ls) ≡ map label_entry_word (labels_from 0 ls)
  labels-merged ls h = merged-from ls 0 [] tt h

  -- ---- of a tree whose every token is found

  all_named : (x : Items) → AllOf Found x → Named x
  all_named done h = tt
  all_named (label t x) h = (h.0, all_named x h.1)
  all_named (action n os bs x) h = all_named x h.1.1

  mutual
    sound-of : (x : Items) (a : ℕ) → AllOf Found x → Small (all_actions x) → Every Sound (opened_of a x)
    sound-of done a h g = tt
    sound-of (label t x) a h g = sound-of x a h.1 g
    sound-of (action n os bs x) a h g =
        let a' = suc a + actions_inside bs in
        every_append Sound (opened_in a (suc a) bs) (opened_of a' x)
        (sound_in bs a (suc a) h.1.0 (omega (arith, g))) (sound-of x a' h.1.1 (omega (arith, g)))

    sound_in : (bs : Blocks) (o a : ℕ) → AllIn Found bs → Small (actions_inside bs) → Every Sound (opened_in o a bs)
    sound_in no_blocks o a h g = tt
    sound_in (block p x bs) o a h g =
        let a' = a + all_actions x in (
          record { named = all_named x h.0; few = omega (arith, g, own-few x) },
          every_append Sound (opened_of a x) (opened_in o a' bs) (sound-of x a h.0 (omega (arith, g))) (sound_in bs o a' h.1 (omega (arith, g))),
        )

  pub all_sound : (x : Items) → AllOf Found x → Small (all_actions x) → Every Sound (opened x)
  all_sound x h g = (record { named = all_named x h; few = omega (arith, g, own-few x) }, sound-of x 0 h g)
