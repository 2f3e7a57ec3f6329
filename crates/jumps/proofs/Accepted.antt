-- After an accepted reading: no label stands twice in the table, and what a jump aims at is the position of its label. Assumes nothing.
use mathlib.Core.Path.{◌≡◌, sym, ap, subst, ◌∙◌}
use mathlib.Core.List.{List, [], ◌∷◌, map}
use Prim.Native.Nat.{ℕ, suc, ◌+◌, ◌≤◌, ◌<◌}
use native.Mathlib.Omega.{arith}
use lib.ListN.{length, take, drop, get_or, length-map}
use lib.Seq.{take_at}
use Rattle.tokens.specs.declared.Token.{Token}
use Rattle.tokens.specs.Tokens.{token_of, raw_text}
use Rattle.lexer.proofs.Theorems.{few}
use Rattle.lexemes.specs.Lexemes.{numbered}
use Rattle.grammar.specs.Grammar.{Items, Text}
use Rattle.grammar.specs.Reading as G
use Rattle.grammar.specs.Reading.{Opened, opened, labels_from, own_labels, reading_of}
use Rattle.grammar.specs.Trees.{size}
use Rattle.grammar.proofs.Unique.{one-tree}
use Rattle.grammar.proofs.Sizes.{fits-size}
use Rattle.labels.specs.Index.{Distinct}
use Rattle.reading.specs.Trees.{All, AllOf}
use Rattle.reading.specs.Tables.{label_entry_word}
use Rattle.reading.proofs.Runs.{Every}
use Rattle.reading.proofs.Front.{few-of}
use Rattle.reading.proofs.Labels.{Found, Sound, all_sound}
use Rattle.reading.proofs.Places.{text-all}
use Rattle.handover.specs.declared.Counts.{Counts}
use Rattle.handover.specs.Reading.{Tables, Accepts}
use Rattle.as2_pcode.proofs.Kept.{numbered-length}
use Rattle.as2_pcode.proofs.Handed.{from-text, read, tokens-handed}
use Rattle.movies.specs.Meaning.{position_of}
use Rattle.jumps.specs.Aims.{aim_in, aimed}
use Rattle.jumps.proofs.Levels.{words-distinct, aim-of-level}

numbered-found : (text s : List ℕ) (ts : List Token) (j : ℕ) → ((i : ℕ) → i < length ts → (d : Token) → token_of (get_or s (j + i) 0) ≡ get_or ts i d)
    → j + length ts ≤ 65536 → All (Found text s) (numbered j text ts)
numbered-found text s [] j h g = tt
numbered-found text s (t ∷ ts) j h g =
    let z : j + 0 ≡ j = omega arith in (
      record { text_of = ap (raw_text text) (sym (h 0 (omega arith) t) ∙ ap (λ (k : ℕ). token_of (get_or s k 0)) z); low = omega (arith, g) },
      numbered-found text s ts (suc j) (λ i k d. let e : suc j + i ≡ j + suc i = omega arith in ap (λ (q : ℕ). token_of (get_or s q 0)) e ∙ h (suc i) (omega arith) d) (omega (arith, g)),
    )

-- the table s begins with the tokens that were handed out, and the tree is that of the text
pub record After {room : ℕ} {places text : List ℕ} {x y : Tables ℕ} {c : Counts} (a : Accepts label_entry_word room places text x y c) (s : List ℕ) (tree : Items) : Type 0 where
  pub front : (i : ℕ) → i < length a.tokens → get_or s i 0 ≡ get_or y.tokens i 0
  pub fits : Text (numbered 0 text a.tokens) tree

module _ {room : ℕ} {places text s : List ℕ} {x y : Tables ℕ} {c : Counts} {a : Accepts label_entry_word room places text x y c} {tree : Items} (q : After a s tree) where
  few-tokens : length a.tokens ≤ 65536
  few-tokens = omega (arith, few text a.tokens (from-text a).made, (from-text a).small)

  -- the raw text of each token of the tree is the one at its place
  pub tokens-found : AllOf (Found text s) tree
  tokens-found =
      text-all (Found text s) q.fits
      (numbered-found text s a.tokens 0
      (λ i h d. let z : 0 + i ≡ i = omega arith in ap (λ (k : ℕ). token_of (get_or s k 0)) z ∙ ap token_of (q.front i h) ∙ tokens-handed a i h d)
      (omega (arith, few-tokens)))

  pub small : size tree ≤ 65536
  small = omega (arith, fits-size q.fits, numbered-length text a.tokens 0, few-tokens)

  pub told : reading_of tree ≡ a.reading
  told = ap reading_of (one-tree q.fits (read a).fits) ∙ (read a).told

  sound : Every (Sound text s) (opened tree)
  sound = all_sound text s tree tokens-found (omega (arith, few-of tree 0 1 0, small))

  labels_are : take c.labels y.labels ≡ map label_entry_word (labels_from 0 (opened tree))
  unfolding reading_of
  labels_are =
      let ws = map label_entry_word a.reading.labels in
      ap (λ (t : Tables ℕ). take c.labels t.labels) a.tables
      ∙ take_at ws (drop (length ws) x.labels) c.labels (length-map a.reading.labels label_entry_word ∙ sym (ap (λ (k : Counts). k.labels) a.counts))
      ∙ ap (λ (r : G.Reading). map label_entry_word r.labels) (sym told)

  pub labels-distinct : Distinct text s (take c.labels y.labels)
  labels-distinct = subst (Distinct text s) (sym labels_are) (words-distinct text s (opened tree) sound)

  pub aims : (level : ℕ) (w : List ℕ) (d : Opened) → level < length (opened tree)
      → aimed (aim_in text s level w (take c.labels y.labels)) ≡ position_of w (own_labels 0 0 [] (get_or (opened tree) level d).items)
  aims level w d h = ap (λ (l : List ℕ). aimed (aim_in text s level w l)) labels_are ∙ aim-of-level text s level w (opened tree) d sound h
