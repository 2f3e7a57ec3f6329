-- What the tables of an accepted reading tell of its tree, if they hold the reading and nothing more. Assumes nothing.
use mathlib.Core.Path.{◌≡◌, refl, ap, sym, subst, ◌∙◌}
use mathlib.Core.Bool.{Bool, cond}
use mathlib.Core.List.{List, [], ◌∷◌, ◌++◌, map, append-nil}
use Prim.Native.Nat.{ℕ, zero, suc, ◌+◌, ◌*◌, ◌/◌, ◌≤◌, ◌<◌}
use native.Mathlib.Omega.{arith}
use lib.ListN.{length, drop, get_or, length-map}
use borrow.Author.Tests.{le-ltb}
use Rattle.tokens.specs.Tokens.{word_of}
use Rattle.lexer.proofs.Sound.{all_whole}
use Rattle.lexer.proofs.Theorems as lexer
use Rattle.lexemes.specs.Lexemes.{Lexeme, numbered}
use Rattle.grammar.specs.Grammar.{Items, Text}
use Rattle.grammar.specs.Reading as G
use Rattle.grammar.specs.Reading.{Opened, Acted, opened_of, opened, acted_of, operands_from, reading_of}
use Rattle.grammar.specs.Nets.{Net}
use Rattle.entries.specs.declared.Operand.{Operand}
use Rattle.entries.specs.declared.Block.TheVariants as B
use Rattle.entries.specs.declared.Level.{Level}
use Rattle.entries.specs.Entries.{action_word, action_of, operand_of, level_of, level_at, level_in}
use Rattle.entries.specs.Entries as E
use Rattle.classes.specs.Lexemes.{Sound, lexemes}
use Rattle.reading.specs.Trees.{All, AllOf}
use Rattle.reading.specs.Told.{Of}
use Rattle.reading.specs.Tables.{front, action_words, action_entries, operand_entry, level_entries, level_words, label_entry_word, block_of}
use Rattle.reading.proofs.Entries.{entry_count, level-count}
use Rattle.reading.proofs.Front.{few-of}
use Rattle.reading.proofs.Trees.{acted-count}
use Rattle.grammar.proofs.Sizes.{fits-size}
use Rattle.as2_pcode.proofs.Kept.{numbered-length}
use Rattle.reading.proofs.Groups.{acted-all}
use Rattle.reading.proofs.Runs.{Every}
use Rattle.reading.proofs.LevelSets.{words-length}
use Rattle.reading.proofs.Places.{text-all}
use Rattle.reading.proofs.Tokens.{lexemes-numbered, words-sound, all_of}
use Rattle.handover.specs.declared.Counts.{Counts}
use Rattle.handover.specs.Reading.{Tables, lent, Accepts}
use Rattle.as2_pcode.proofs.Handed.{from-text, read, nets-long}
use Rattle.as2_pcode.proofs.Theorems.{actions-handed, operands-handed, levels-handed}
use Rattle.coding.specs.Heads.{operands_at}
use Rattle.pieces.proofs.Forms.{Forms, forms}
use Rattle.pieces.proofs.Holding.{TellsLevels}
use Rattle.exporting.proofs.Entries.{bare, before, entry_of, entry_is, operands_are, inside}

-- tables without a place, so that what is handed out is all that there is
abbrev pub none : Tables ℕ
none = lent [] [] [] [] []

abbrev empty : List ℕ
empty = []

nothing : (n : ℕ) → drop n empty ≡ empty
nothing zero = refl
nothing (suc n) = refl

exact : (ws x : List ℕ) → x ≡ front ws [] → x ≡ ws
exact ws x e = e ∙ ap (λ (l : List ℕ). ws ++ l) (nothing (length ws)) ∙ append-nil ws

-- ---- levels, with their nets beside them

level-at : (os : List Opened) (ns : List Net) (i : ℕ) (o : Opened) (r : List Opened) (d : Level) → length ns ≡ length os → drop i os ≡ o ∷ r
    → ((get_or (level_entries (map G.level_of os) ns) i d).block ≡ block_of o.owner) × ((get_or (level_entries (map G.level_of os) ns) i d).actions ≡ G.own_actions o.items)
level-at [] ns zero o r d n e = absurd (omega (arith, ap length e))
level-at [] ns (suc i) o r d n e = absurd (omega (arith, ap length e))
level-at (x ∷ os) [] i o r d n e = absurd (omega (arith, n))
level-at (x ∷ os) (t ∷ ns) zero o r d n e =
    let p : x ≡ o = ap (λ (l : List Opened). get_or l 0 x) e in
    (ap (λ (v : Opened). block_of v.owner) p, ap (λ (v : Opened). G.own_actions v.items) p)
level-at (x ∷ os) (t ∷ ns) (suc i) o r d n e = level-at os ns i o r d (omega (arith, n)) e

outside : {A : Type 0} (l : List A) (i : ℕ) → drop i l ≡ [] → length l ≤ i
outside [] i e = omega arith
outside (x ∷ l) zero e = absurd (omega (arith, ap length e))
outside (x ∷ l) (suc i) e = let h = outside l i e in omega arith

past_in : (levels : List ℕ) (i : ℕ) → length levels / 2 ≤ i → level_in levels i ≡ level_of 0 0
unfolding level_in
past_in levels i h = ap (λ (b : Bool). cond b (level_at levels i) (level_of 0 0)) (le-ltb i (length levels / 2) h)

no_block : (level_of 0 0).block ≡ B.Top
unfolding E.block_of
no_block = refl

past_top : (levels : List ℕ) (n i : ℕ) → length levels ≡ 2 * n → n ≤ i → (level_in levels i).block ≡ B.Top
past_top levels n i e h = ap (λ (l : Level). l.block) (past_in levels i (omega arith)) ∙ no_block

every_at : (P : Acted → Type 0) (ls : List Acted) (i : ℕ) (h : Acted) (r : List Acted) → drop i ls ≡ h ∷ r → Every P ls → P h
every_at P [] zero h r e all = absurd (omega (arith, ap length e))
every_at P [] (suc i) h r e all = absurd (omega (arith, ap length e))
every_at P (l ∷ ls) zero h r e all = (subst (λ (k : List Acted). Every P k) e all).0
every_at P (l ∷ ls) (suc i) h r e all = every_at P ls i h r e all.1

module _ {room : ℕ} {ps text s actions operands levels labels : List ℕ} {c : Counts}
    (a : Accepts label_entry_word room ps text none (lent s actions operands levels labels) c) where
  abbrev pub tree : Items
  tree = (read a).tree

  pub fits : Text (numbered 0 text a.tokens) tree
  fits = (read a).fits

  pub told : reading_of tree ≡ a.reading
  told = (read a).told

  pub its_forms : Forms tree
  its_forms = forms fits

  pub tokens_are : s ≡ map word_of a.tokens
  tokens_are = exact (map word_of a.tokens) s (ap (λ (t : Tables ℕ). t.tokens) a.tables)

  few-tokens : length a.tokens ≤ 65536
  few-tokens = omega (arith, lexer.few text a.tokens (from-text a).made, (from-text a).small)

  pub sound : Sound text s
  sound =
      subst (λ (l : List ℕ). Sound text l) (sym tokens_are)
      (words-sound text a.tokens (from-text a).small few-tokens (all_whole text a.tokens (from-text a).made))

  -- every token of the tree stands at its place in the text
  pub known : AllOf (Of text s) tree
  known =
      text-all (Of text s) fits
      (subst (λ (l : List Lexeme). All (Of text s) l)
      (ap (lexemes text) tokens_are ∙ lexemes-numbered text a.tokens (from-text a).small (all_whole text a.tokens (from-text a).made))
      (all_of text s))

  -- ---- entries

  abbrev pub acts : List Acted
  acts = acted_of 0 1 tree

  actions-read : map bare acts ≡ a.reading.actions
  unfolding reading_of
  actions-read = ap (λ (r : G.Reading). r.actions) told

  operands-read : operands_from 0 acts ≡ a.reading.operands
  unfolding reading_of
  operands-read = ap (λ (r : G.Reading). r.operands) told

  levels-read : map G.level_of (opened tree) ≡ a.reading.levels
  unfolding reading_of
  levels-read = ap (λ (r : G.Reading). r.levels) told

  count-actions : c.actions ≡ length acts
  count-actions = ap (λ (k : Counts). k.actions) a.counts ∙ ap length (sym actions-read) ∙ length-map acts bare

  pub entry_told : (i : ℕ) (h : Acted) (r : List Acted) → drop i acts ≡ h ∷ r → action_of (get_or actions i 0) ≡ entry_of acts i h
  entry_told i h r e =
      actions-handed a i (omega (arith, count-actions, inside acts i h r e)) (action_of 0)
      ∙ ap (λ (l : List G.Action). get_or (action_entries 0 0 l a.reading.operands) i (action_of 0)) (sym actions-read)
      ∙ ap (λ (l : List G.Operand). get_or (action_entries 0 0 (map bare acts) l) i (action_of 0)) (sym operands-read)
      ∙ entry_is acts i h r (action_of 0) e

  operand-told : (i : ℕ) → i < length (operands_from 0 acts) → (d : Operand) → operand_of (get_or operands i 0) ≡ get_or (map operand_entry (operands_from 0 acts)) i d
  operand-told i h d =
      operands-handed a i (omega (arith, ap (λ (k : Counts). k.operands) a.counts, ap length operands-read, h)) d
      ∙ ap (λ (l : List G.Operand). get_or (map operand_entry l) i d) (sym operands-read)

  pub operands-told : (i : ℕ) (h : Acted) (r : List Acted) → drop i acts ≡ h ∷ r → operands_at text s operands (before acts i) (length h.operands) ≡ h.operands
  operands-told i h r e = operands_are text s operands acts operand-told i h r e (every_at (λ (l : Acted). All (Of text s) l.operands) acts i h r e (acted-all (Of text s) tree 0 1 known))

  count-levels : c.levels ≡ length (opened tree)
  count-levels = ap (λ (k : Counts). k.levels) a.counts ∙ ap length (sym levels-read) ∙ length-map (opened tree) G.level_of

  nets_beside : length a.nets ≡ length (opened tree)
  nets_beside = nets-long a ∙ ap length (sym levels-read) ∙ length-map (opened tree) G.level_of

  level-told : (i : ℕ) (o : Opened) (r : List Opened) → drop i (opened tree) ≡ o ∷ r
      → level_in levels i ≡ get_or (level_entries (map G.level_of (opened tree)) a.nets) i (level_of 0 0)
  level-told i o r e =
      levels-handed a i (omega (arith, count-levels, inside (opened tree) i o r e)) (level_of 0 0)
      ∙ ap (λ (l : List G.Level). get_or (level_entries l a.nets) i (level_of 0 0)) (sym levels-read)

  pub levels-long : length levels ≡ 2 * length (opened tree)
  levels-long =
      ap length (exact (level_words a.reading a.nets) levels (ap (λ (t : Tables ℕ). t.levels) a.tables))
      ∙ words-length (level_entries a.reading.levels a.nets)
      ∙ ap (λ (k : ℕ). 2 * k) (level-count a.reading.levels a.nets (nets-long a) ∙ ap length (sym levels-read) ∙ length-map (opened tree) G.level_of)

  pub tells_levels : TellsLevels levels (opened tree)
  tells_levels =
      record {
        block = λ i o r e. ap (λ (l : Level). l.block) (level-told i o r e) ∙ (level-at (opened tree) a.nets i o r (level_of 0 0) nets_beside e).0;
        actions = λ i o r e. ap (λ (l : Level). l.actions) (level-told i o r e) ∙ (level-at (opened tree) a.nets i o r (level_of 0 0) nets_beside e).1;
        past = λ i e. past_top levels (length (opened tree)) i levels-long (outside (opened tree) i e);
      }

  pub labels-counted : c.labels ≡ length labels
  labels-counted =
      ap (λ (k : Counts). k.labels) a.counts
      ∙ sym (ap length (exact (map label_entry_word a.reading.labels) labels (ap (λ (t : Tables ℕ). t.labels) a.tables)) ∙ length-map a.reading.labels label_entry_word)

  pub actions-counted : length actions ≡ length acts
  actions-counted =
      ap length (exact (action_words a.reading) actions (ap (λ (t : Tables ℕ). t.actions) a.tables))
      ∙ length-map (action_entries 0 0 a.reading.actions a.reading.operands) action_word
      ∙ entry_count a.reading.operands a.reading.actions 0 0
      ∙ ap length (sym actions-read)
      ∙ length-map acts bare

  -- actions and blocks are no more than tokens
  pub few : length acts + length (opened_of 0 tree) ≤ length s
  few =
      omega (
        arith,
        acted-count tree 0 1,
        few-of tree 0 1 0,
        fits-size fits,
        numbered-length text a.tokens 0,
        ap length tokens_are,
        length-map a.tokens word_of,
      )
