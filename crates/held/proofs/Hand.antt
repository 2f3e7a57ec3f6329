-- What held tables tell, and what they are handed over as. Assumes nothing.
use Rattle.std.specs.Prelude.{Ok, Err}
use mathlib.Core.Path.{◌≡◌, sym, ap, subst, ◌∙◌}
use mathlib.Core.List.{List, ◌++◌}
use Prim.Native.Nat.{ℕ}
use native.Mathlib.Omega.{arith}
use lib.ListN.{length, take, drop}
use lib.Seq.{take_at}
use Rattle.answers.specs.Answers.{refusal}
use Rattle.answers.specs.declared.Refusal.{Refusal}
use Rattle.grammar.specs.Refusals.{Answers}
use Rattle.reading.specs.Tables.{front, label_entry_word}
use Rattle.handover.specs.declared.Counts.{Counts}
use Rattle.handover.specs.Reading.{Reading, Tables, places, filled, Accepts, ReadsFor}
use Rattle.held.specs.Held.{Holds, Handable, handed}
use Rattle.held.proofs.Fills.{Fills, inside, refilled, tokens_fill, actions_fill, operands_fill, levels_fill, labels_fill, tokens_fit, actions_fit, operands_fit, levels_fit, labels_fit}
use Rattle.held.proofs.Cut.{few-levels}

-- ---- what was read, and what was refused

module _ {room : ℕ} {ps text : List ℕ} {h : Tables ℕ} {r : Reading} (w : Holds room ps text h r) where
  pub held-read : {c : Counts} → r ≡ Ok c → Accepts label_entry_word room ps text w.before h c
  held-read e = subst (ReadsFor label_entry_word room ps text w.before h) e w.reads

  pub held-refused : {f : Refusal} → r ≡ Err f → Answers room ps text (refusal f)
  held-refused e = (subst (ReadsFor label_entry_word room ps text w.before h) e w.reads).0

-- ---- handing over

front-is : {ws old held : List ℕ} {n : ℕ} → Fills ws n old held → (x : List ℕ) → take n held ++ drop n x ≡ front ws x
front-is {ws} {old} {held} {n} f x =
    ap (λ (l : List ℕ). take n l ++ drop n x) f.is ∙ ap (λ (l : List ℕ). l ++ drop n x) (take_at ws (drop (length ws) old) n f.many)
    ∙ ap (λ (k : ℕ). ws ++ drop k x) (sym f.many)

-- the tables h hold a reading that the lent tables x have places for
module _ (text : List ℕ) (old h x : Tables ℕ) (c : Counts) (a : Accepts label_entry_word (length x.tokens) (places x) text old h c) where
  pub handable : Handable c h x
  handable =
      record {
        tokens = (inside (tokens_fill a), tokens_fit a);
        actions = (inside (actions_fill a), actions_fit a);
        operands = (inside (operands_fill a), operands_fit a);
        levels = (inside (levels_fill a), omega (arith, levels_fit a));
        labels = (inside (labels_fill a), labels_fit a);
        few-levels = few-levels a;
      }

  pub handed-filled : handed c h x ≡ filled label_entry_word a.tokens a.reading a.nets x
  handed-filled = λ i. record {
    tokens = front-is (tokens_fill a) x.tokens i;
    actions = front-is (actions_fill a) x.actions i;
    operands = front-is (operands_fill a) x.operands i;
    levels = front-is (levels_fill a) x.levels i;
    labels = front-is (labels_fill a) x.labels i;
  }

  -- handed over, it is what reading into x would have left
  abbrev pub hands : (y : Tables ℕ) → y ≡ handed c h x → Accepts label_entry_word (length x.tokens) (places x) text x y c
  hands y e = refilled a (e ∙ handed-filled)
