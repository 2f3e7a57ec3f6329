-- Labels grouped by level: from the order of the text to that of a reading. Assumes nothing.
use mathlib.Core.Path.{◌≡◌, refl, sym, ap, ◌∙◌}
use mathlib.Core.List.{List, [], ◌∷◌, ◌++◌, append_assoc}
use mathlib.Core.Logic.{◌⊎◌, inl, inr}
use Prim.Native.Nat.{ℕ, suc, ◌+◌, ◌≤◌, ◌<◌}
use native.Mathlib.Decide.{ℕ_discrete}
use native.Mathlib.Omega.{arith}
use lib.ListN.{length}
use Rattle.lexemes.specs.Lexemes.{Lexeme, place_of}
use Rattle.grammar.specs.Grammar.{Items, done, label, action, Blocks, no_blocks, block}
use Rattle.grammar.specs.Reading.{Opened, Acted, own_actions, all_actions, actions_inside, opened_of, opened_in, acted_of, acted_in}
use Rattle.grouping.specs.Grouping.{having}
use Rattle.entries.specs.Levels.{Small}
use Rattle.reading.specs.Trees.{All, AllOf, AllIn, label_with, named_of, named_in, IsLow}
use Rattle.reading.proofs.Runs.{having-append, OfKey, having_other, swap, Every, every_append, runs, runs_append, runs_low}
use Rattle.reading.proofs.Trees.{opened-count, opened-counts}

-- ---- the runs: a level's own labels

abbrev pub own_words : ℕ → ℕ → Items → List ℕ
own_words ℓ p done = []
own_words ℓ p (label t x) = label_with ℓ (place_of t) p ∷ own_words ℓ p x
own_words ℓ p (action n os bs x) = own_words ℓ (suc p) x

abbrev pub label_run : ℕ → Opened → List ℕ
label_run ℓ l = own_words ℓ 0 l.items

abbrev pub NamedLow : Opened → Type 0
NamedLow l = AllOf IsLow l.items × (Small (own_actions l.items))

words-own : (ℓ p : ℕ) (x : Items) → AllOf IsLow x → Small (p + own_actions x) → OfKey ℓ (own_words ℓ p x)
words-own ℓ p done h g = tt
words-own ℓ p (label t x) h g = let i = h.0 in (omega (arith, i, g), words-own ℓ p x h.1 g)
words-own ℓ p (action n os bs x) h g = words-own ℓ (suc p) x h.1.1 (omega (arith, g))

pub labels-own : (ℓ : ℕ) (l : Opened) → NamedLow l → OfKey ℓ (label_run ℓ l)
labels-own ℓ l h = let i = h.1 in words-own ℓ 0 l.items h.0 (omega (arith, i))

-- ---- of a tree

pub own-few : (x : Items) → own_actions x ≤ all_actions x
own-few done = omega arith
own-few (label t x) = own-few x
own-few (action n os bs x) = omega (arith, own-few x)

module _ (P : Lexeme → Type 0) where
  abbrev pub GivenAll : Acted → Type 0
  GivenAll l = All P l.operands

  mutual
    pub acted-all : (x : Items) (ℓ m : ℕ) → AllOf P x → Every GivenAll (acted_of ℓ m x)
    acted-all done ℓ m h = tt
    acted-all (label t x) ℓ m h = acted-all x ℓ m h.1
    acted-all (action n os bs x) ℓ m h =
        let m' = m + length (opened_in 0 0 bs) in
        (h.0, every_append GivenAll (acted_in m bs) (acted_of ℓ m' x) (acted_alls bs m h.1.0) (acted-all x ℓ m' h.1.1))

    acted_alls : (bs : Blocks) (m : ℕ) → AllIn P bs → Every GivenAll (acted_in m bs)
    acted_alls no_blocks m h = tt
    acted_alls (block p x bs) m h =
        let m' = suc m + length (opened_of 0 x) in
        every_append GivenAll (acted_of m (suc m) x) (acted_in m' bs) (acted-all x m (suc m) h.0) (acted_alls bs m' h.1)

mutual
  pub opened-low : (x : Items) (a : ℕ) → AllOf IsLow x → Small (all_actions x) → Every NamedLow (opened_of a x)
  opened-low done a h g = tt
  opened-low (label t x) a h g = opened-low x a h.1 g
  opened-low (action n os bs x) a h g =
      let a' = suc a + actions_inside bs in
      every_append NamedLow (opened_in a (suc a) bs) (opened_of a' x)
      (opened_lows bs a (suc a) h.1.0 (omega (arith, g))) (opened-low x a' h.1.1 (omega (arith, g)))

  opened_lows : (bs : Blocks) (o a : ℕ) → AllIn IsLow bs → Small (actions_inside bs) → Every NamedLow (opened_in o a bs)
  opened_lows no_blocks o a h g = tt
  opened_lows (block p x bs) o a h g =
      let a' = a + all_actions x in (
        (h.0, omega (arith, g, own-few x)),
        every_append NamedLow (opened_of a x) (opened_in o a' bs) (opened-low x a h.0 (omega (arith, g))) (opened_lows bs o a' h.1 (omega (arith, g))),
      )

-- what agrees on a key, with the same behind it, and before it
module _ (k : ℕ) where
  both : (a b c d : List ℕ) → having k a ≡ having k b → having k c ≡ having k d → having k (a ++ c) ≡ having k (b ++ d)
  both a b c d e f =
      having-append k a c ∙ ap (λ (q : List ℕ). q ++ having k c) e ∙ ap (λ (q : List ℕ). having k b ++ q) f ∙ sym (having-append k b d)

  -- a and b change places
  apart : (a b c : List ℕ) → (having k a ≡ []) ⊎ (having k b ≡ []) → having k (a ++ (b ++ c)) ≡ having k (b ++ (a ++ c))
  apart a b c h =
      having-append k a (b ++ c)
      ∙ ap (λ (q : List ℕ). having k a ++ q) (having-append k b c)
      ∙ swap (having k a) (having k b) (having k c) h
      ∙ ap (λ (q : List ℕ). having k b ++ q) (sym (having-append k a c))
      ∙ sym (having-append k b (a ++ c))

  -- entries of key o and a list whose keys are all above it
  divided : (o : ℕ) (a b : List ℕ) → OfKey o b → (k ≡ o → having k a ≡ []) → (having k a ≡ []) ⊎ (having k b ≡ [])
  divided o a b h g =
      elim (ℕ_discrete k o) [
        | yes e ↦ inl (g e)
        | no e ↦ inr (having_other o k b h (λ q. e (sym q)))
      ]

  -- ---- labels: those of a level before those of its blocks

  mutual
    pub names_alike : (x : Items) (ℓ m a p : ℕ) → ℓ < m → AllOf IsLow x → Small (p + all_actions x)
        → having k (named_of ℓ m p x) ≡ having k (own_words ℓ p x ++ runs label_run m (opened_of a x))
    names_alike done ℓ m a p l h g = refl
    names_alike (label t x) ℓ m a p l h g =
        both (label_with ℓ (place_of t) p ∷ []) (label_with ℓ (place_of t) p ∷ []) (named_of ℓ m p x) (own_words ℓ p x ++ runs label_run m (opened_of a x)) refl
        (names_alike x ℓ m a p l h.1 g)
    names_alike (action n os bs x) ℓ m a p l h g =
        let m' = m + length (opened_in 0 0 bs) in
        let a' = suc a + actions_inside bs in
        let e = opened-counts bs a 0 (suc a) 0 in
        let inner = runs label_run m (opened_in a (suc a) bs) in
        let own = own_words ℓ (suc p) x in
        let behind = runs label_run m' (opened_of a' x) in
        both (named_in m bs) inner (named_of ℓ m' (suc p) x) (own ++ behind)
        (names_in bs m a (suc a) h.1.0 (omega (arith, g)))
        (names_alike x ℓ m' a' (suc p) (omega (arith, l)) h.1.1 (omega (arith, g)))
        ∙ apart inner own behind
        (divided ℓ inner own (words-own ℓ (suc p) x h.1.1 (omega (arith, g, own-few x)))
        (λ q. runs_low label_run labels-own k m (opened_in a (suc a) bs) (opened_lows bs a (suc a) h.1.0 (omega (arith, g))) (omega (arith, q, l))))
        ∙ ap (λ (q : ℕ). having k (own ++ (inner ++ runs label_run (m + q) (opened_of a' x)))) (sym e)
        ∙ ap (λ (q : List ℕ). having k (own ++ q)) (sym (runs_append label_run m (opened_in a (suc a) bs) (opened_of a' x)))

    names_in : (bs : Blocks) (m o a : ℕ) → AllIn IsLow bs → Small (actions_inside bs)
        → having k (named_in m bs) ≡ having k (runs label_run m (opened_in o a bs))
    names_in no_blocks m o a h g = refl
    names_in (block p x bs) m o a h g =
        let m' = suc m + length (opened_of 0 x) in
        let a' = a + all_actions x in
        let e = opened-count x a 0 in
        let own = own_words m 0 x in
        let inner = runs label_run (suc m) (opened_of a x) in
        both (named_of m (suc m) 0 x) (own ++ inner) (named_in m' bs) (runs label_run m' (opened_in o a' bs))
        (names_alike x m (suc m) a 0 (omega arith) h.0 (omega (arith, g)))
        (names_in bs m' o a' h.1 (omega (arith, g)))
        ∙ ap (having k) (append_assoc own inner (runs label_run m' (opened_in o a' bs)))
        ∙ ap (λ (q : ℕ). having k (own ++ (inner ++ runs label_run (suc m + q) (opened_in o a' bs)))) (sym e)
        ∙ ap (λ (q : List ℕ). having k (own ++ q)) (sym (runs_append label_run (suc m) (opened_of a x) (opened_in o a' bs)))
