-- The lent tables once a tree's log is written: those of its reading. Assumes nothing.
use mathlib.Core.Path.{◌≡◌, refl, sym, ap, ◌∙◌}
use mathlib.Core.List.{List, [], ◌∷◌, map}
use Prim.Native.Nat.{ℕ, suc, ◌+◌, ◌*◌, ◌≤◌}
use native.Mathlib.Omega.{arith}
use lib.IntN.{pos}
use lib.ListN.{length, length-append, length-map}
use Rattle.entries.specs.declared.Block.TheVariants as B
use Rattle.entries.specs.Entries.{action_word, levels_words}
use Rattle.entries.specs.Levels.{fresh}
use Rattle.grammar.specs.Grammar.{Items, done, label, action, Blocks, no_blocks, block}
use Rattle.grammar.specs.Reading.{Acted, Opened, own_actions, own_unclosed, all_actions, actions_inside, opened, opened_of, opened_in, acted_of, acted_in, operands_from, reading_of}
use Rattle.grammar.specs.Reading as R
use Rattle.grammar.specs.Nets.{Net, net_from, nets}
use Rattle.grammar.specs.Trees.{size, sizes}
use Rattle.parser.specs.Parsed.{log_of}
use Rattle.writing.specs.Writing.{Written, written, steps, start, Writes}
use Rattle.reading.specs.Tables.{under, action_entries, level_entries, front, action_words, operand_entry_word, operand_words, level_words}
use Rattle.reading.specs.Told.{Known, Filled}
use Rattle.reading.proofs.Trees.{acted-count, last_of}
use Rattle.reading.proofs.Entries.{given, under-given}
use Rattle.reading.proofs.Sets.{at_front}
use Rattle.reading.proofs.LevelSets.{put, puts, put_length, put_puts, put_put, here_put, levels-front}
use Rattle.reading.proofs.Words.{ops, act_word, act_words, op_words, op_length, act-length, ops_append, level_final}
use Rattle.reading.proofs.Writes.{Point, at, level_after, behind, of-items}

-- ---- a tree's entries are no more than its size

mutual
  pub few-of : (x : Items) (ℓ m b : ℕ) → all_actions x + ops (acted_of ℓ m x) + length (opened_of b x) ≤ size x
  few-of done ℓ m b = omega arith
  few-of (label t x) ℓ m b = omega (arith, few-of x ℓ m b)
  few-of (action n os bs x) ℓ m b =
      let m' = m + length (opened_in 0 0 bs) in
      let b' = suc b + actions_inside bs in
      omega (
        arith,
        ops_append (acted_in m bs) (acted_of ℓ m' x),
        length-append (opened_in b (suc b) bs) (opened_of b' x),
        few_in bs m b (suc b),
        few-of x ℓ m' b',
      )

  few_in : (bs : Blocks) (m o b : ℕ) → actions_inside bs + ops (acted_in m bs) + length (opened_in o b bs) ≤ sizes bs
  few_in no_blocks m o b = omega arith
  few_in (block p x bs) m o b =
      let m' = suc m + length (opened_of 0 x) in
      let b' = b + all_actions x in
      omega (
        arith,
        ops_append (acted_of m (suc m) x) (acted_in m' bs),
        length-append (opened_of b x) (opened_in o b' bs),
        few-of x m (suc m) b,
        few_in bs m' o b',
      )

-- ---- the words are those of the reading's entries

abbrev bare : Acted → R.Action
bare l = record { name = l.name; level = l.level }

entries_are : (os : List R.Operand) (ls : List Acted) (a first : ℕ) → ((k : ℕ) → under (a + k) os ≡ given ls k)
    → map action_word (action_entries a first (map bare ls) os) ≡ act_words first ls
entries_are os [] a first h = refl
entries_are os (l ∷ ls) a first h =
    let z : a + 0 ≡ a = omega arith in
    let e : under a os ≡ length l.operands = sym (ap (λ k. under k os) z) ∙ h 0 in
    let w : action_word (record { name = l.name; level = l.level; first = first; count = under a os }) ≡ act_word first l =
    ap (λ k. action_word (record { name = l.name; level = l.level; first = first; count = k })) e
    in
    let s : (j : ℕ) → suc a + j ≡ a + suc j = λ j. omega arith in
    λ j. w j ∷ (entries_are os ls (suc a) (first + under a os) (λ k. ap (λ q. under q os) (s k) ∙ h (suc k)) ∙ ap (λ q. act_words (first + q) ls) e) j

pub actions_are : (x : Items) → action_words (reading_of x) ≡ act_words 0 (acted_of 0 1 x)
unfolding reading_of
actions_are x =
    let acts = acted_of 0 1 x in
    entries_are (operands_from 0 acts) acts 0 0 (λ k. under-given acts 0 k)

pub operands_are : (x : Items) → operand_words (reading_of x) ≡ op_words 0 (acted_of 0 1 x)
unfolding reading_of
operands_are x = refl

abbrev netted : Opened → Net
netted l = net_from l.first (pos 0) l.items

levels_list : (ls : List Opened) → level_entries (map R.level_of ls) (map netted ls) ≡ map level_final ls
levels_list [] = refl
levels_list (l ∷ ls) = ap (λ k. level_final l ∷ k) (levels_list ls)

pub levels_are : (x : Items) → level_words (reading_of x) (nets x) ≡ levels_words (map level_final (opened x))
unfolding reading_of nets
levels_are x = ap levels_words (levels_list (opened x))

-- ---- how many they are

pub actions_many : (x : Items) → length (reading_of x).actions ≡ all_actions x
unfolding reading_of
actions_many x = length-map (acted_of 0 1 x) bare ∙ acted-count x 0 1

pub operands_many : (x : Items) → length (reading_of x).operands ≡ ops (acted_of 0 1 x)
unfolding reading_of
operands_many x = sym (length-map (operands_from 0 (acted_of 0 1 x)) operand_entry_word) ∙ op_length (acted_of 0 1 x) 0

pub levels_many : (x : Items) → length (reading_of x).levels ≡ suc (length (opened_of 0 x))
unfolding reading_of
levels_many x = length-map (opened x) R.level_of

-- ---- the tables

pub filled : (text s log xs os ls xs' os' ls' : List ℕ) (x : Items) → Known text s x → log ≡ log_of x → Writes text s log xs os ls xs' os' ls'
    → length (reading_of x).actions ≤ length xs → length (reading_of x).operands ≤ length os → 2 * length (reading_of x).levels ≤ length ls
    → Filled x xs os ls xs' os' ls'
unfolding written
filled text s log xs os ls xs' os' ls' x known e w ra ro rl =
    let acts = acted_of 0 1 x in
    let v₀ = fresh B.Top in
    let v₁ = level_after v₀ 0 x in
    let P : Point = record { actions = xs; operands = os; levels = put ls 0 v₀; a = 0; q = 0; m = 1 } in
    let fs = few-of x 0 1 0 in
    let am = actions_many x in
    let om = operands_many x in
    let lm = levels_many x in
    let all : written xs' os' ls' w.at ≡ at (behind P 0 v₀ x) 0 (last_of 0 0 x) =
    w.all ∙ ap (λ l. steps text s l (start xs os ls)) e
    ∙ of-items text s known.few x [] P 0 0 v₀
    (record {
      inside = omega arith;
      here = here_put ls 0 v₀ (omega (arith, lm));
      block = omega arith;
      count = omega arith;
      near = omega arith;
      unclosed = omega arith;
    })
    (record {
      actions = omega (arith, am);
      operands = omega (arith, om);
      levels = omega (arith, lm, put_length ls 0 v₀);
      few-actions = omega (arith, fs, known.small, known.few);
      few-operands = omega (arith, fs, known.small, known.few);
      few-levels = omega (arith, fs, known.small, known.few);
    }) known.known refl
    in
    let z : 0 + own_actions x ≡ own_actions x = omega arith in
    let zu : 0 + own_unclosed x ≡ own_unclosed x = omega arith in
    record {
      actions =
          ap (λ (T : Written). T.actions) all ∙ at_front (act_words 0 acts) xs (omega (arith, act-length acts 0, acted-count x 0 1, am))
          ∙ ap (λ l. front l xs) (sym (actions_are x));
      operands =
          ap (λ (T : Written). T.operands) all ∙ at_front (op_words 0 acts) os (omega (arith, op_length acts 0, om))
          ∙ ap (λ l. front l os) (sym (operands_are x));
      levels =
          ap (λ (T : Written). T.levels) all
          ∙ ap (λ l. puts l 1 (map level_final (opened_of 0 x))) (put_put ls 0 v₀ v₁)
          ∙ put_puts ls 0 v₁ (map level_final (opened_of 0 x))
          ∙ (λ j. puts ls 0 (record { block = B.Top; actions = z j; net = v₁.net; unclosed = zu j } ∷ map level_final (opened_of 0 x)))
          ∙ levels-front (map level_final (opened x)) ls (omega (arith, length-map (opened_of 0 x) level_final, lm))
          ∙ ap (λ l. front l ls) (sym (levels_are x));
    }
