-- What stands in the tables after an accepted reading comes back from its words: it is a tree's, and within its bounds.
-- Assumes nothing.
use mathlib.Core.Path.{◌≡◌, refl, sym, ap, ◌∙◌, subst}
use mathlib.Core.Bool.{Bool, true, false, cond}
use mathlib.Core.List.{List, [], ◌∷◌, map}
use Prim.Native.Nat.{ℕ, ◌≤◌, ◌<◌}
use native.Mathlib.Omega.{arith}
use lib.Dec.{ltb}
use lib.IntN.{pos}
use lib.ListN.{length, get_or, length-map}
use borrow.Author.Tests.{ltb-false}
use Rattle.answers.specs.Answers.{Answer, accepted, refused}
use Rattle.utf8.specs.Utf8.{valid_up_to}
use Rattle.tokens.specs.declared.Token.{Token}
use Rattle.tokens.specs.Tokens.{token_of, word_of}
use Rattle.lexer.specs.Lexing.{fitting, lex_from, lex_text}
use Rattle.lexer.proofs.Sound.{AllWhole, all_whole}
use Rattle.lexer.proofs.Theorems.{few}
use Rattle.lexemes.specs.Lexemes.{Lexeme, numbered}
use Rattle.grammar.specs.Grammar.{Items}
use Rattle.grammar.specs.Reading as G
use Rattle.grammar.specs.Reading.{Opened, Acted, all_actions, opened, acted_of, reading_of}
use Rattle.grammar.specs.Nets.{Net, nets, net_from}
use Rattle.grammar.specs.Refusals.{Outcome, reads, Answers, fits}
use Rattle.grammar.specs.Trees.{size}
use Rattle.grammar.proofs.Unique.{one-tree}
use Rattle.grammar.proofs.Sizes.{fits-size}
use Rattle.grammar.proofs.Texts.{unlike, same-accepted}
use Rattle.grammar.proofs.Theorems.{counts, nets_bounded}
use Rattle.entries.specs.Entries.{action_word, action_of, operand_of, level_word, level_of, level_in, label_of}
use Rattle.entries.specs.declared.Action as EA
use Rattle.entries.specs.declared.Operand as EO
use Rattle.entries.specs.declared.Level as EL
use Rattle.entries.specs.declared.Label as EB
use Rattle.entries.specs.Levels.{Small17}
use Rattle.entries.proofs.Words.{action_back, operand_back, in_range, level_back, label_back}
use Rattle.reading.specs.Trees.{AllOf, IsLow}
use Rattle.reading.specs.Tables.{action_entries, operand_entry, operand_entry_word, level_entries, label_entry, label_entry_word}
use Rattle.reading.proofs.Runs.{Every}
use Rattle.reading.proofs.Groups.{NamedLow, own-few, acted-all, opened-low}
use Rattle.reading.proofs.Ranges.{LevelBelow, levels_below}
use Rattle.reading.proofs.Front.{few-of}
use Rattle.reading.proofs.Trees.{acted-count}
use Rattle.reading.proofs.Words.{own-unclosed-few}
use Rattle.reading.proofs.Places.{text-all}
use Rattle.reading.proofs.Tokens.{tokens_back}
use Rattle.handover.specs.declared.Counts.{Counts}
use Rattle.handover.specs.Reading.{Tables, Accepts}
use Rattle.reading.proofs.Entries.{entry_count, level-count}
use Rattle.as2_pcode.proofs.Kept.{mapped_handed, handed, levels_in_lem, every_map, every_weaker, numbered-length, numbered-low, LowOperand, operands-low, LowLabel, labels-low, LowAction, LevelLow, actions-low, Under, net-under, Numbered, opened-under, NetLow, nets-low, LowLevel, CountLow, levels-low}

-- ---- the tokens of a text that is lexed

pub record Lexed (room : ℕ) (text : List ℕ) (ts : List Token) : Type 0 where
  pub small : length text ≤ 65536
  pub made : lex_from text 0 0 ≡ accepted ts
  pub fit : length ts ≤ room

module _ (room : ℕ) (ts : List Token) where
  in_room_lem : (b : Bool) (l : List Token) → ltb room (length l) ≡ b → cond b (refused 5 (length l)) (accepted l) ≡ accepted ts
      → (accepted l ≡ accepted ts) × (length ts ≤ room)
  in_room_lem true l h e = unlike e refl
  in_room_lem false l h e = (e, omega (arith, ltb-false room (length l) h, ap length (same-accepted {q = accepted l} refl e)))

  unfitted : (q : Answer (List Token)) → fitting room q ≡ accepted ts → (q ≡ accepted ts) × (length ts ≤ room)
  unfitted (accepted l) e = in_room_lem (ltb room (length l)) l refl e
  unfitted (refused n p) e = unlike e refl

  module _ (text : List ℕ) where
    by_rows : (b c : Bool) (n : ℕ) → ltb 65536 (length text) ≡ b
        → cond b (refused 1 0) (cond c (refused 2 n) (fitting room (lex_from text 0 0))) ≡ accepted ts → Lexed room text ts
    by_rows true c n h e = unlike e refl
    by_rows false true n h e = unlike e refl
    by_rows false false n h e =
        let z = unfitted (lex_from text 0 0) e in
        record { small = ltb-false 65536 (length text) h; made = z.0; fit = z.1 }

    pub lexed : lex_text text room ≡ accepted ts → Lexed room text ts
    unfolding lex_text
    lexed e = by_rows (ltb 65536 (length text)) (ltb (valid_up_to text) (length text)) (valid_up_to text) refl e

    reads_of : {places : List ℕ} {r : G.Reading} → lex_text text room ≡ accepted ts → Answers room places text (accepted r) → G.Reads (numbered 0 text ts) r
    reads_of {places} {r} e (fits g o f) = told (subst (λ (l : List Token). Outcome (numbered 0 text l) (accepted r)) (same-accepted g e) o)
      where
        told : {q : G.Reading} → Outcome (numbered 0 text ts) (accepted q) → G.Reads (numbered 0 text ts) q
        told (reads k d) = k

tokens_kept : (n : ℕ) → n ≤ 65536 → (ts : List Token) → AllWhole n ts → Every (λ (t : Token). token_of (word_of t) ≡ t) ts
tokens_kept n small [] h = tt
tokens_kept n small (t ∷ ts) h =
    (ap (λ (l : List Token). get_or l 0 t) (tokens_back (t ∷ []) n small (h.0, tt)), tokens_kept n small ts h.1)

-- ---- what an accepted reading hands out

module _ {L : Type 0} {entry : G.Label → L} {room : ℕ} {places text : List ℕ} {x y : Tables L} {c : Counts} (a : Accepts entry room places text x y c) where
  abbrev ts : List Lexeme
  ts = numbered 0 text a.tokens

  abbrev R : G.Reading
  R = a.reading

  pub from-text : Lexed room text a.tokens
  from-text = lexed room a.tokens text a.lexed

  whole : AllWhole (length text) a.tokens
  whole = all_whole text a.tokens from-text.made

  few-tokens : length a.tokens ≤ 65536
  few-tokens = omega (arith, few text a.tokens from-text.made, from-text.small)

  few-lexemes : length ts ≤ 65536
  few-lexemes = omega (arith, few-tokens, numbered-length text a.tokens 0)

  pub read : G.Reads ts R
  read = reads_of room a.tokens text a.lexed a.answer

  abbrev tree : Items
  tree = read.tree

  net-told : nets tree ≡ a.nets
  net-told = ap nets (one-tree read.fits a.net.fits) ∙ a.net.told

  low : AllOf IsLow tree
  low = text-all IsLow read.fits (numbered-low text a.tokens 0 (omega (arith, few-tokens)))

  small : size tree ≤ 65536
  small = omega (arith, fits-size read.fits, few-lexemes)

  few-actions : all_actions tree ≤ 65536
  few-actions = omega (arith, few-of tree 0 1 0, small)

  levels-named : Every NamedLow (opened tree)
  levels-named = ((low, omega (arith, few-actions, own-few tree)), opened-low tree 0 low (omega (arith, few-actions)))

  pub tokens-handed : (i : ℕ) → i < length a.tokens → (d : Token) → token_of (get_or y.tokens i 0) ≡ get_or a.tokens i d
  tokens-handed i h d =
      ap (λ (t : Tables L). token_of (get_or t.tokens i 0)) a.tables
      ∙ handed token_of word_of a.tokens _ i d (tokens_kept (length text) from-text.small a.tokens whole) h

  -- ---- labels

  labels_kept : Every LowLabel R.labels
  unfolding reading_of
  labels_kept = subst (λ (r : G.Reading). Every LowLabel r.labels) read.told (labels-low (opened tree) 0 levels-named)

  -- ---- operands

  operands_kept : Every LowOperand R.operands
  unfolding reading_of
  operands_kept = subst (λ (r : G.Reading). Every LowOperand r.operands) read.told (operands-low (acted_of 0 1 tree) 0 (omega (arith, few-actions, acted-count tree 0 1)) (acted-all IsLow tree 0 1 low))

  pub operands-handed : (i : ℕ) → i < c.operands → (d : EO.Operand) → operand_of (get_or y.operands i 0) ≡ get_or (map operand_entry a.reading.operands) i d
  operands-handed i h d =
      ap (λ (t : Tables L). operand_of (get_or t.operands i 0)) a.tables
      ∙ mapped_handed operand_of operand_entry_word operand_entry R.operands _ i d
      (every_weaker LowOperand (λ (o : G.Operand). operand_of (operand_entry_word o) ≡ operand_entry o)
      (λ o k. operand_back (operand_entry o) k.0 (omega (arith, k.1))) R.operands operands_kept)
      (omega (arith, h, ap (λ (k : Counts). k.operands) a.counts))

  -- ---- actions

  acted_kept : Every LevelLow R.actions
  unfolding reading_of
  acted_kept =
      subst (λ (r : G.Reading). Every LevelLow r.actions) read.told
      (every_map LevelLow (λ (l : Acted). record { name = l.name; level = l.level }) (acted_of 0 1 tree)
      (every_weaker (LevelBelow 65537) (λ (l : Acted). Small17 l.level) (λ l k. omega (arith, k)) (acted_of 0 1 tree)
      (levels_below 65537 tree 0 1 (omega arith) (omega (arith, few-of tree 0 1 0, small)))))

  actions_kept : Every LowAction (action_entries 0 0 R.actions R.operands)
  actions_kept = actions-low R.operands R.actions acted_kept (omega (arith, (counts read).1, few-lexemes))

  pub actions-handed : (i : ℕ) → i < c.actions → (d : EA.Action)
      → action_of (get_or y.actions i 0) ≡ get_or (action_entries 0 0 a.reading.actions a.reading.operands) i d
  actions-handed i h d =
      let es = action_entries 0 0 R.actions R.operands in
      ap (λ (t : Tables L). action_of (get_or t.actions i 0)) a.tables
      ∙ handed action_of action_word es _ i d
      (every_weaker LowAction (λ (e : EA.Action). action_of (action_word e) ≡ e)
      (λ e k. action_back e k.0 k.1.0 k.1.1) es actions_kept)
      (omega (arith, h, ap (λ (k : Counts). k.actions) a.counts, entry_count R.operands R.actions 0 0))

  -- ---- levels

  numbered-all : Every (Numbered 65536 65536) (opened tree)
  numbered-all =
      let f = few-of tree 0 1 0 in (
        record {
          actions = omega (arith, few-actions);
          block = omega arith;
          unclosed = omega (arith, f, small, own-unclosed-few tree 0 1);
        },
        opened-under 65536 65536 tree 0 0 1 (omega (arith, few-actions)) (omega (arith, f, small)),
      )

  nets_kept : Every NetLow a.nets
  unfolding nets
  nets_kept =
      let f : Opened → Net = λ l. net_from l.first (pos 0) l.items in
      nets-low a.nets (nets_bounded a.net few-lexemes)
      (subst (Every (Under 65536)) net-told
      (every_map (Under 65536) f (opened tree)
      (every_weaker (Numbered 65536 65536) (λ (l : Opened). Under 65536 (f l)) (λ l k. net-under 65536 l.items l.first (pos 0) k.actions) (opened tree) numbered-all)))

  counts_kept : Every CountLow R.levels
  unfolding reading_of
  counts_kept =
      subst (λ (r : G.Reading). Every CountLow r.levels) read.told
      (every_map CountLow G.level_of (opened tree)
      (every_weaker (Numbered 65536 65536) (λ (l : Opened). CountLow (G.level_of l))
      (λ l k. (omega (arith, k.block, k.actions), (omega (arith, k.actions, own-few l.items), omega (arith, k.unclosed)))) (opened tree) numbered-all))

  pub nets-long : length a.nets ≡ length R.levels
  unfolding nets reading_of
  nets-long =
      sym (ap length net-told)
      ∙ length-map (opened tree) _
      ∙ sym (length-map (opened tree) G.level_of)
      ∙ ap (λ (r : G.Reading). length r.levels) read.told

  pub levels-handed : (i : ℕ) → i < c.levels → (d : EL.Level)
      → level_in y.levels i ≡ get_or (level_entries a.reading.levels a.nets) i d
  levels-handed i h d =
      let es = level_entries R.levels a.nets in
      ap (λ (t : Tables L). level_in t.levels i) a.tables
      ∙ levels_in_lem es _ i d
      (every_weaker LowLevel (λ (e : EL.Level). level_of (level_word e) e.unclosed ≡ e)
      (λ e k. level_back e k.0 k.1.0 (in_range e.net k.1.1.1) k.1.1.0) es (levels-low R.levels a.nets counts_kept nets_kept))
      (omega (arith, h, ap (λ (k : Counts). k.levels) a.counts, level-count R.levels a.nets nets-long))

-- ---- labels whose entries are words

module _ {room : ℕ} {places text : List ℕ} {x y : Tables ℕ} {c : Counts} (a : Accepts label_entry_word room places text x y c) where
  pub labels-handed : (i : ℕ) → i < c.labels → (d : EB.Label) → label_of (get_or y.labels i 0) ≡ get_or (map label_entry a.reading.labels) i d
  labels-handed i h d =
      ap (λ (t : Tables ℕ). label_of (get_or t.labels i 0)) a.tables
      ∙ mapped_handed label_of label_entry_word label_entry a.reading.labels _ i d
      (every_weaker LowLabel (λ (l : G.Label). label_of (label_entry_word l) ≡ label_entry l)
      (λ l k. label_back (label_entry l) k.0 k.1) a.reading.labels (labels_kept a))
      (omega (arith, h, ap (λ (k : Counts). k.labels) a.counts))
