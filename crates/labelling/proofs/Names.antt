-- The labels that the events of a tree name, in the order of the text. Assumes nothing.
use mathlib.Core.Path.{◌≡◌, refl, ap, ◌∙◌}
use mathlib.Core.List.{List, [], ◌∷◌, ◌++◌}
use Prim.Native.Nat.{ℕ, suc, ◌+◌, ◌≤◌, ◌<◌}
use native.Mathlib.Numerals.{add-one}
use native.Mathlib.Omega.{arith}
use lib.ListN.{length, get_or, set, length-append, length-set}
use lib.Seq.{sets, get_or-set_same, get_or-set_other}
use Rattle.actions.specs.Numbers.{number_of}
use Rattle.actions.proofs.Numbers.{number_below}
use Rattle.events.specs.Log.{Holdable, log_word, by_kind}
use Rattle.events.proofs.Words.{event_is}
use Rattle.entries.specs.Entries.{label_word, label_of}
use Rattle.entries.proofs.Words.{label_back}
use Rattle.lexemes.specs.Lexemes.{Lexeme, place_of}
use Rattle.lexemes.specs.Events.{Part, Event}
use Rattle.lexemes.specs.Events as E
use Rattle.grammar.specs.Grammar.{Items, done, label, action, Blocks, no_blocks, block}
use Rattle.grammar.specs.Reading.{own_actions, all_actions, actions_inside, opened_of, opened_in}
use Rattle.grammar.specs.Trees.{leading, waiting, events, block-events, givens}
use Rattle.operands.specs.Log.{part_number, event_word}
use Rattle.reading.specs.Trees.{All, AllOf, AllIn, IsLow, label_with, named_of, named_in}
use Rattle.reading.proofs.Trees.{opened-count, opened-counts, part_below, low-leading, low-waiting}
use Rattle.reading.proofs.Sets.{joined}
use Rattle.reading.proofs.Gathered.{words}
use Rattle.labelling.specs.declared.Namer.{Namer}
use Rattle.labelling.specs.Naming.{Naming, naming, acted, name, opened, closed, by, step, steps, start}

-- in level ℓ behind p of its actions, with m levels and n labels
abbrev standing : ℕ → ℕ → ℕ → ℕ → Namer
standing ℓ m n p = record { level = ℓ; levels = m; labels = n; actions = p }

abbrev run : List Event → Naming → Naming
run k T = steps (words k) T

decoded : (k v : ℕ) (T : Naming) → Holdable v → step (log_word k v) T ≡ by (by_kind k v) T
unfolding step
decoded k v T h = ap (λ e. by e T) (event_is k v h)

gave : (os : List Lexeme) (k : List Event) (T : Naming) → All IsLow os → run (givens os k) T ≡ run k T
gave [] k T h = refl
gave (t ∷ os) k T h = ap (run (givens os k)) (decoded 2 (place_of t) T h.0) ∙ gave os k T h.1

-- the place in level ℓ behind p of its actions, as its word
abbrev placed : ℕ → ℕ → ℕ
placed ℓ p = label_word (record { level = ℓ; token = 0; position = p })

module _ (W N : List ℕ) (ℓ m n p : ℕ) where
  acted-step : (v : ℕ) → Holdable v → step (log_word 0 v) (naming W N (standing ℓ m n p)) ≡ naming W N (standing ℓ m n (suc p))
  unfolding naming acted
  acted-step v h = decoded 0 v (naming W N (standing ℓ m n p)) h ∙ (λ j. record { own = W; named = N; at = standing ℓ m n (add-one p j) })

  named_step : (t : ℕ) → Holdable t → step (log_word 1 t) (naming W N (standing ℓ m n p)) ≡ naming W (set N n (label_with ℓ t p)) (standing ℓ m (suc n) p)
  unfolding naming name
  named_step t h = decoded 1 t (naming W N (standing ℓ m n p)) h ∙ (λ j. record { own = W; named = set N n (label_with ℓ t p); at = standing ℓ m (add-one n j) p })

  opened-step : (q : Part) → step (event_word (E.opened q)) (naming W N (standing ℓ m n p)) ≡ naming (set W m (placed ℓ p)) N (standing m (suc m) n 0)
  unfolding naming opened
  opened-step q =
      decoded 3 (part_number q) (naming W N (standing ℓ m n p)) (omega (arith, part_below q))
      ∙ (λ j. record { own = set W m (placed ℓ p); named = N; at = standing m (add-one m j) n 0 })

  -- back to where the level opened
  closed-step : (o a : ℕ) → get_or W ℓ 0 ≡ placed o a → a ≤ 65536 → step (event_word E.closed) (naming W N (standing ℓ m n p)) ≡ naming W N (standing o m n a)
  unfolding naming closed
  closed-step o a e h =
      let z = ap label_of e ∙ label_back (record { level = o; token = 0; position = a }) (omega arith) (omega arith) in
      decoded 4 0 (naming W N (standing ℓ m n p)) (omega arith) ∙ (λ j. record { own = W; named = N; at = standing (z j).level m n (z j).position })

-- ---- behind a tree's events: what the words of its own levels are is not told

record Behind (x : Items) (k : List Event) (W N : List ℕ) (ℓ m n p : ℕ) : Type 0 where
  own : List ℕ
  told : run (events x k) (naming W N (standing ℓ m n p))
      ≡ run k (naming own (sets N n (named_of ℓ m p x)) (standing ℓ (m + length (opened_of 0 x)) (n + length (named_of ℓ m p x)) (p + own_actions x)))
  keeps : (j : ℕ) → j < m → get_or own j 0 ≡ get_or W j 0
  long : length own ≡ length W

record BehindIn (bs : Blocks) (os : List Lexeme) (k : List Event) (W N : List ℕ) (ℓ m n p : ℕ) : Type 0 where
  own : List ℕ
  told : run (block-events bs os k) (naming W N (standing ℓ m n p))
      ≡ run k (naming own (sets N n (named_in m bs)) (standing ℓ (m + length (opened_in 0 0 bs)) (n + length (named_in m bs)) p))
  keeps : (j : ℕ) → j < m → get_or own j 0 ≡ get_or W j 0
  long : length own ≡ length W

mutual
  of-items : (x : Items) (k : List Event) (W N : List ℕ) (ℓ m n p : ℕ) → m + length (opened_of 0 x) ≤ length W → p + all_actions x ≤ 65536 → AllOf IsLow x → Behind x k W N ℓ m n p
  of-items done k W N ℓ m n p ro co h =
      let zm : m ≡ m + 0 = omega arith in
      let zn : n ≡ n + 0 = omega arith in
      let zp : p ≡ p + 0 = omega arith in
      record { own = W; told = ap (run k) (λ j. naming W N (standing ℓ (zm j) (zn j) (zp j))); keeps = λ j l. refl; long = refl }
  of-items (label t x) k W N ℓ m n p ro co h =
      let r = of-items x k W (set N n (label_with ℓ (place_of t) p)) ℓ m (suc n) p ro co h.1 in
      let z : suc n + length (named_of ℓ m p x) ≡ n + suc (length (named_of ℓ m p x)) = omega arith in
      record {
        own = r.own;
        told =
            ap (run (events x k)) (named_step W N ℓ m n p (place_of t) h.0)
            ∙ r.told
            ∙ ap (λ q. run k (naming r.own (sets N n (named_of ℓ m p (label t x))) (standing ℓ (m + length (opened_of 0 x)) q (p + own_actions x)))) z;
        keeps = r.keeps;
        long = r.long;
      }
  of-items (action a os bs x) k W N ℓ m n p ro co h =
      let m₂ = m + length (opened_in 0 0 bs) in
      let n₂ = n + length (named_in m bs) in
      let ls = length-append (opened_in 0 1 bs) (opened_of (1 + actions_inside bs) x) in
      let e = opened-counts bs 0 0 1 0 in
      let c = opened-count x (1 + actions_inside bs) 0 in
      let i = of_blocks bs os (events x k) W N ℓ m n (suc p) (omega (arith, ro, ls, e)) (omega (arith, co)) h.0 h.1.0 in
      let r = of-items x k i.own (sets N n (named_in m bs)) ℓ m₂ n₂ (suc p) (omega (arith, ro, i.long, ls, e, c)) (omega (arith, co)) h.1.1 in
      let zm : m₂ + length (opened_of 0 x) ≡ m + length (opened_in 0 1 bs ++ opened_of (1 + actions_inside bs) x) = omega (arith, ls, e, c) in
      let zn : n₂ + length (named_of ℓ m₂ (suc p) x) ≡ n + length (named_in m bs ++ named_of ℓ m₂ (suc p) x) = omega (arith, length-append (named_in m bs) (named_of ℓ m₂ (suc p) x)) in
      let zp : suc p + own_actions x ≡ p + suc (own_actions x) = omega arith in
      record {
        own = r.own;
        told =
            ap (run (block-events bs os (events x k))) (acted-step W N ℓ m n p (number_of a) (omega (arith, number_below a)))
            ∙ i.told
            ∙ r.told
            ∙ (λ j. run k (naming r.own (joined (named_in m bs) N (named_of ℓ m₂ (suc p) x) n n₂ refl j) (standing ℓ (zm j) (zn j) (zp j))));
        keeps = λ j l. r.keeps j (omega arith) ∙ i.keeps j l;
        long = r.long ∙ i.long;
      }

  of_blocks : (bs : Blocks) (os : List Lexeme) (k : List Event) (W N : List ℕ) (ℓ m n p : ℕ) → m + length (opened_in 0 0 bs) ≤ length W → p + actions_inside bs ≤ 65536
      → All IsLow os → AllIn IsLow bs → BehindIn bs os k W N ℓ m n p
  of_blocks no_blocks os k W N ℓ m n p ro co l h =
      let zm : m ≡ m + 0 = omega arith in
      let zn : n ≡ n + 0 = omega arith in
      record {
        own = W;
        told = gave os k (naming W N (standing ℓ m n p)) l ∙ ap (run k) (λ j. naming W N (standing ℓ (zm j) (zn j) p));
        keeps = λ j d. refl;
        long = refl;
      }
  of_blocks (block q x bs) os k W N ℓ m n p ro co l h =
      let rest = block-events bs (waiting q os) k in
      let W₁ = set W m (placed ℓ p) in
      let m₃ = suc m + length (opened_of 0 x) in
      let n₃ = n + length (named_of m (suc m) 0 x) in
      let ls = length-append (opened_of 0 x) (opened_in 0 (0 + all_actions x) bs) in
      let e = opened-counts bs 0 0 (0 + all_actions x) 0 in
      let lw = length-set W m (placed ℓ p) in
      let r = of-items x (E.closed ∷ rest) W₁ N m (suc m) n 0 (omega (arith, ro, ls, e, lw)) (omega (arith, co)) h.0 in
      let b = of_blocks bs (waiting q os) k r.own (sets N n (named_of m (suc m) 0 x)) ℓ m₃ n₃ p (omega (arith, ro, ls, e, lw, r.long)) (omega (arith, co)) (low-waiting q os l) h.1 in
      let zm : m₃ + length (opened_in 0 0 bs) ≡ m + suc (length (opened_of 0 x ++ opened_in 0 (0 + all_actions x) bs)) = omega (arith, ls, e) in
      let zn : n₃ + length (named_in m₃ bs) ≡ n + length (named_of m (suc m) 0 x ++ named_in m₃ bs) = omega (arith, length-append (named_of m (suc m) 0 x) (named_in m₃ bs)) in
      record {
        own = b.own;
        told =
            gave (leading q os) (E.opened q ∷ events x (E.closed ∷ rest)) (naming W N (standing ℓ m n p)) (low-leading q os l)
            ∙ ap (run (events x (E.closed ∷ rest))) (opened-step W N ℓ m n p q)
            ∙ r.told
            ∙ ap (run rest) (closed-step r.own (sets N n (named_of m (suc m) 0 x)) m m₃ n₃ (0 + own_actions x) ℓ p
            (r.keeps m (omega arith) ∙ get_or-set_same W m (placed ℓ p) 0 (omega (arith, ro))) (omega (arith, co)))
            ∙ b.told
            ∙ (λ j. run k (naming b.own (joined (named_of m (suc m) 0 x) N (named_in m₃ bs) n n₃ refl j) (standing ℓ (zm j) (zn j) p)));
        keeps = λ j d. b.keeps j (omega arith) ∙ r.keeps j (omega arith) ∙ get_or-set_other W m j (placed ℓ p) 0 (λ z. omega arith);
        long = b.long ∙ r.long ∙ lw;
      }

-- a whole text's: its labels stand at the front
pub all_named : (x : Items) (W N W' N' : List ℕ) (n : Namer) → AllOf IsLow x → 1 + length (opened_of 0 x) ≤ length W → all_actions x ≤ 65536
    → naming W' N' n ≡ steps (words (events x [])) (start W N) → N' ≡ sets N 0 (named_of 0 1 0 x)
unfolding naming
all_named x W N W' N' n h ro co e =
    let r = of-items x [] (set W 0 0) N 0 1 0 0 (omega (arith, length-set W 0 0)) (omega arith) h in
    ap (λ (T : Naming). T.named) (e ∙ r.told)
