-- After an accepted reading: what an action of the tables aims at is the position of the label that its operand names, in its
-- level. Assumes nothing.
use mathlib.Core.Path.{◌≡◌, sym, ap, subst, ◌∙◌}
use mathlib.Core.List.{List, [], ◌∷◌, ◌++◌, map}
use Prim.Native.Nat.{ℕ, zero, suc, ◌+◌, ◌≤◌, ◌<◌}
use native.Mathlib.Nat.{zero-add}
use native.Mathlib.Omega.{arith}
use lib.ListN.{length, take, drop, get_or, take-append-drop, get_or-append}
use lib.Seq.{drop-cons, length-take-le, get_or_at}
use Rattle.lexemes.specs.Lexemes.{Lexeme, raw}
use Rattle.grammar.specs.Grammar.{Items}
use Rattle.grammar.specs.Reading.{Acted, Opened, opened, opened_of, acted_of, operands_from, own_labels}
use Rattle.entries.specs.Entries.{action_of, operand_of}
use Rattle.entries.proofs.Words.{action_back, operand_back}
use Rattle.reading.specs.Trees.{All}
use Rattle.reading.specs.Tables.{action_words, operand_words, operand_entry, operand_entry_word, label_entry_word}
use Rattle.reading.proofs.Trees.{acted-count}
use Rattle.reading.proofs.Runs.{Every}
use Rattle.reading.proofs.Groups.{GivenAll, acted-all}
use Rattle.reading.proofs.Labels.{Found}
use Rattle.reading.proofs.Ranges.{LevelBelow, levels_below}
use Rattle.reading.proofs.Front.{few-of, actions_are, operands_are}
use Rattle.reading.proofs.Words.{of, ops, act_word, act_words, op_words, ops_append, act-append, act-length, op_append, op_length}
use Rattle.handover.specs.declared.Counts.{Counts}
use Rattle.handover.specs.Reading.{Tables, Accepts}
use Rattle.movies.specs.Meaning.{position_of}
use Rattle.jumps.specs.Aims.{aim_in, aim_at, aimed}
use Rattle.jumps.proofs.Accepted.{After, tokens-found, small, told, aims}
use Rattle.jumps.proofs.Found.{told_at}

every_at : {X : Type 0} (P : X → Type 0) (l : List X) (i : ℕ) (d : X) → Every P l → i < length l → P (get_or l i d)
every_at P [] i d h g = absurd (omega arith)
every_at P (x ∷ l) zero d h g = h.0
every_at P (x ∷ l) (suc i) d h g = every_at P l i d h.1 (omega arith)

-- ---- the words of action i and of its first operand

module _ (acts : List Acted) (i : ℕ) (e : Acted) (h : i < length acts) where
  abbrev before : List Acted
  before = take i acts

  abbrev here : Acted
  here = get_or acts i e

  split : acts ≡ before ++ here ∷ drop (suc i) acts
  split = sym (take-append-drop i acts) ∙ ap (λ (r : List Acted). before ++ r) (drop-cons acts i e h)

  long : length before ≡ i
  long = length-take-le i acts (omega arith)

  some-before : ops before + length here.operands ≤ ops acts
  some-before = omega (arith, ap ops split, ops_append before (here ∷ drop (suc i) acts))

  action_word_lem : get_or (act_words 0 acts) i 0 ≡ act_word (ops before) here
  action_word_lem =
      let r = drop (suc i) acts in
      ap (λ (l : List Acted). get_or (act_words 0 l) i 0) split
      ∙ ap (λ (l : List ℕ). get_or l i 0) (act-append before (here ∷ r) 0)
      ∙ ap (λ (k : ℕ). get_or (act_words 0 before ++ act_words k (here ∷ r)) i 0) (zero-add (ops before))
      ∙ get_or_at (act_words 0 before) (act_word (ops before) here) (act_words (ops before + length here.operands) r) 0 i (act-length before 0 ∙ long)

  operand_word_lem : (t : Lexeme) (ts : List Lexeme) → here.operands ≡ t ∷ ts → get_or (op_words 0 acts) (ops before) 0 ≡ operand_entry_word (of i t)
  operand_word_lem t ts f =
      let r = drop (suc i) acts in
      let rest = operands_from (suc i) r in
      ap (λ (l : List Acted). get_or (op_words 0 l) (ops before) 0) split
      ∙ ap (λ (l : List ℕ). get_or l (ops before) 0) (op_append before (here ∷ r) 0)
      ∙ ap (λ (k : ℕ). get_or (op_words 0 before ++ op_words k (here ∷ r)) (ops before) 0) (zero-add (length before) ∙ long)
      ∙ ap (λ (os : List Lexeme). get_or (op_words 0 before ++ map operand_entry_word (map (of i) os ++ rest)) (ops before) 0) f
      ∙ get_or_at (op_words 0 before) (operand_entry_word (of i t)) (map operand_entry_word (map (of i) ts ++ rest)) 0 (ops before) (op_length before 0)

-- ---- what stands in the tables

module _ {room : ℕ} {places text s : List ℕ} {x y : Tables ℕ} {c : Counts} {a : Accepts label_entry_word room places text x y c} {tree : Items} (q : After a s tree) (i : ℕ) (e : Acted) (h : i < length (acted_of 0 1 tree)) where
  abbrev acts : List Acted
  acts = acted_of 0 1 tree

  abbrev act : Acted
  act = get_or acts i e

  abbrev first : ℕ
  first = ops (take i acts)

  -- actions, operands and levels are few
  few : length acts + ops acts + length (opened_of 0 tree) ≤ 65536
  few = omega (arith, few-of tree 0 1 0, acted-count tree 0 1, small q)

  level_below : act.level < length (opened tree)
  level_below = every_at (LevelBelow (length (opened tree))) acts i e (levels_below (length (opened tree)) tree 0 1 (omega arith) (omega arith)) h

  action-there : action_of (get_or y.actions i 0) ≡ record { name = act.name; level = act.level; first = first; count = length act.operands }
  action-there =
      let ws = act_words 0 acts in
      let words : action_words a.reading ≡ ws = ap action_words (sym (told q)) ∙ actions_are tree in
      ap action_of
      (ap (λ (t : Tables ℕ). get_or t.actions i 0) a.tables
      ∙ ap (λ (l : List ℕ). get_or (l ++ drop (length l) x.actions) i 0) words
      ∙ get_or-append ws (drop (length ws) x.actions) 0 i (omega (arith, h, act-length acts 0))
      ∙ action_word_lem acts i e h)
      ∙ action_back (record { name = act.name; level = act.level; first = first; count = length act.operands })
      (omega (arith, level_below, few)) (omega (arith, some-before acts i e h, few)) (omega (arith, some-before acts i e h, few))

  module _ (t : Lexeme) (ts : List Lexeme) (os : act.operands ≡ t ∷ ts) where
    found : Found text s t
    found = (subst (All (Found text s)) os (every_at (GivenAll (Found text s)) acts i e (acted-all (Found text s) tree 0 1 (tokens-found q)) h)).0

    operand-there : operand_of (get_or y.operands first 0) ≡ operand_entry (of i t)
    operand-there =
        let ws = op_words 0 acts in
        let words : operand_words a.reading ≡ ws = ap operand_words (sym (told q)) ∙ operands_are tree in
        ap operand_of
        (ap (λ (t : Tables ℕ). get_or t.operands first 0) a.tables
        ∙ ap (λ (l : List ℕ). get_or (l ++ drop (length l) x.operands) first 0) words
        ∙ get_or-append ws (drop (length ws) x.operands) 0 first (omega (arith, some-before acts i e h, ap length os, op_length acts 0))
        ∙ operand_word_lem acts i e h t ts os)
        ∙ operand_back (operand_entry (of i t)) (omega (arith, h, few)) (omega (arith, found.low))

    pub aims-at : (d : Opened)
        → aimed (aim_at text s y.actions y.operands i (take c.labels y.labels)) ≡ position_of (raw t) (own_labels 0 0 [] (get_or (opened tree) act.level d).items)
    aims-at d =
        ap aimed
        (sym (told_at text s y.actions y.operands i (take c.labels y.labels) (sym action-there) (sym operand-there)
        (ap (λ (w : List ℕ). aim_in text s act.level w (take c.labels y.labels)) found.text_of)))
        ∙ aims q act.level (raw t) d level_below
