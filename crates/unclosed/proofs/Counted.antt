-- A level's count of unclosed strings is the number of its operand entries with the flag. Assumes nothing.
use mathlib.Core.Path.{◌≡◌, refl, sym, ap, ◌∙◌, subst}
use mathlib.Core.Bool.{Bool, true, false, cond, ◌&&◌}
use mathlib.Core.List.{List, [], ◌∷◌, ◌++◌, map}
use Prim.Native.Nat.{ℕ, zero, suc, ◌+◌, ◌<◌}
use native.Mathlib.Nat.{add-suc, add-zero, suc-add, zero-add}
use native.Mathlib.Omega.{arith}
use lib.Dec.{eqb}
use lib.ListN.{length, length-append, get_or}
use borrow.Author.Tests.{eq-eqb, ne_eqb}
use Rattle.lexemes.specs.Lexemes.{Lexeme, unclosed}
use Rattle.grammar.specs.Grammar.{Items, done, label, action, Blocks, no_blocks, block}
use Rattle.grammar.specs.Reading.{Action, Operand, Level, Reading, Reads, Opened, Acted, unclosed_in, own_unclosed, all_actions, actions_inside, opened_of, opened_in, opened, level_of, acted_of, acted_in, operands_from, reading_of}
use Rattle.grammar.proofs.Sizes.{blocks_inside, blocks-opened}
use Rattle.unclosed.specs.Counts.{holds, flagged_of, flagged}

-- ---- entries, action by action

-- the unclosed strings of the actions of level k
abbrev tally : ℕ → List Acted → ℕ
tally k [] = 0
tally k (l ∷ ls) = cond (eqb l.level k) (unclosed_in l.operands) 0 + tally k ls

tally_append : (k : ℕ) (l r : List Acted) → tally k (l ++ r) ≡ tally k l + tally k r
tally_append k [] r = omega arith
tally_append k (y ∷ l) r = omega (arith, tally_append k l r)

flagged-append : (test : ℕ → Bool) (l r : List Operand) → flagged_of test (l ++ r) ≡ flagged_of test l + flagged_of test r
flagged-append test [] r = omega arith
flagged-append test (o ∷ l) r = omega (arith, flagged-append test l r)

either_way : (b : Bool) (n : ℕ) → n ≡ cond b n n
either_way true n = refl
either_way false n = refl

counts-one : (b u : Bool) (n : ℕ) → cond (b && u) 1 0 + cond b n 0 ≡ cond b (cond u 1 0 + n) 0
counts-one true u n = refl
counts-one false u n = refl

of-action : (test : ℕ → Bool) (a : ℕ) (ts : List Lexeme)
    → flagged_of test (map (λ (t : Lexeme). record { action = a; token = t }) ts) ≡ cond (test a) (unclosed_in ts) 0
of-action test a [] = either_way (test a) 0
of-action test a (t ∷ ts) = ap (λ (n : ℕ). cond (test a && unclosed t) 1 0 + n) (of-action test a ts) ∙ counts-one (test a) (unclosed t) (unclosed_in ts)

abbrev head_of : Acted → Action
head_of l = record { name = l.name; level = l.level }

-- the actions from a on
of-actions : (test : ℕ → Bool) (k a : ℕ) (ls : List Acted) → ((i : ℕ) → test (a + i) ≡ holds k (map head_of ls) i) → flagged_of test (operands_from a ls) ≡ tally k ls
of-actions test k a [] h = refl
of-actions test k a (l ∷ ls) h =
    let e : a ≡ a + 0 = omega arith in
    flagged-append test (map (λ (t : Lexeme). record { action = a; token = t }) l.operands) (operands_from (suc a) ls)
    ∙ (λ i. of-action test a l.operands i + of-actions test k (suc a) ls (λ j. let d : suc a + j ≡ a + suc j = omega arith in ap test d ∙ h (suc j)) i)
    ∙ ap (λ (b : Bool). cond b (unclosed_in l.operands) 0 + tally k ls) (ap test e ∙ h 0)

-- ---- levels

-- the unclosed strings of level k, where it is one of these levels, of which the first is m
abbrev own : ℕ → ℕ → List Opened → ℕ
own m k [] = 0
own m k (o ∷ os) = cond (eqb m k) (own_unclosed o.items) 0 + own (suc m) k os

own-append : (m k : ℕ) (l r : List Opened) → own m k (l ++ r) ≡ own m k l + own (m + length l) k r
own-append m k [] r = rw (add-zero, zero-add)
own-append m k (o ∷ l) r = simp (own-append (suc m) k l r, add-suc, suc-add) (omega arith)

own-before : (m k : ℕ) (l : List Opened) → k < m → own m k l ≡ 0
own-before m k [] h = refl
own-before m k (o ∷ l) h = simp (ne_eqb m k (λ e. omega (arith, e, h)), own-before (suc m) k l (omega arith))

own_at : (m k j : ℕ) (l : List Opened) → k ≡ m + j → own m k l ≡ get_or (map (λ (v : Level). v.unclosed) (map level_of l)) j 0
own_at m k j [] h = refl
own_at m k zero (o ∷ l) h = simp (eq-eqb m k (omega arith), own-before (suc m) k l (omega arith)) (omega arith)
own_at m k (suc j) (o ∷ l) h = simp (ne_eqb m k (λ e. omega (arith, e, h)), own_at (suc m) k j l (omega arith)) (omega arith)

-- ---- trees

blocks-inside : (bs : Blocks) (o a : ℕ) → length (opened_in o a bs) ≡ blocks_inside bs
blocks-inside no_blocks o a = refl
blocks-inside (block p x bs) o a = simp length-append (omega (arith, blocks-opened x a, blocks-inside bs o (a + all_actions x)))

counts_both : (b : Bool) (u n : ℕ) → cond b (u + n) 0 ≡ cond b u 0 + cond b n 0
counts_both true u n = refl
counts_both false u n = refl

mutual
  of-items : (x : Items) (k ℓ m a : ℕ) → tally k (acted_of ℓ m x) ≡ cond (eqb ℓ k) (own_unclosed x) 0 + own m k (opened_of a x)
  of-items done k ℓ m a = omega (arith, either_way (eqb ℓ k) 0)
  of-items (label t x) k ℓ m a = of-items x k ℓ m a
  of-items (action n os bs x) k ℓ m a =
      let m' = m + length (opened_in 0 0 bs) in
      let b = suc a + actions_inside bs in
      let e = ap (λ (q : ℕ). own (m + q) k (opened_of b x)) (blocks-inside bs 0 0 ∙ sym (blocks-inside bs a (suc a))) in
      omega (
        arith,
        tally_append k (acted_in m bs) (acted_of ℓ m' x),
        of_blocks bs k m a (suc a),
        of-items x k ℓ m' b,
        e,
        own-append m k (opened_in a (suc a) bs) (opened_of b x),
        counts_both (eqb ℓ k) (unclosed_in os) (own_unclosed x),
      )

  of_blocks : (bs : Blocks) (k m o a : ℕ) → tally k (acted_in m bs) ≡ own m k (opened_in o a bs)
  of_blocks no_blocks k m o a = refl
  of_blocks (block p x bs) k m o a =
      let m' = suc m + length (opened_of 0 x) in
      let b = a + all_actions x in
      let e = ap (λ (q : ℕ). own (suc m + q) k (opened_in o b bs)) (blocks-opened x 0 ∙ sym (blocks-opened x a)) in
      omega (
        arith,
        tally_append k (acted_of m (suc m) x) (acted_in m' bs),
        of-items x k m (suc m) a,
        of_blocks bs k m' o b,
        e,
        own-append (suc m) k (opened_of a x) (opened_in o b bs),
      )

tree-counted : (x : Items) (k : ℕ) → get_or (map (λ (v : Level). v.unclosed) (reading_of x).levels) k 0 ≡ flagged (reading_of x) k
unfolding reading_of
tree-counted x k =
    sym (own_at 0 k k (opened x) (omega arith)) ∙ sym (of-items x k 0 1 0)
    ∙ sym (of-actions (holds k (map head_of (acted_of 0 1 x))) k 0 (acted_of 0 1 x) (λ i. let e : 0 + i ≡ i = omega arith in ap (holds k (map head_of (acted_of 0 1 x))) e))

pub counted : {ts : List Lexeme} {R : Reading} → Reads ts R → (k : ℕ) → get_or (map (λ (v : Level). v.unclosed) R.levels) k 0 ≡ flagged R k
counted h k = subst (λ (R : Reading). get_or (map (λ (v : Level). v.unclosed) R.levels) k 0 ≡ flagged R k) h.told (tree-counted h.tree k)
