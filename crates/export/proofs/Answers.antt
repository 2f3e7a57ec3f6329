-- What export answers, by what reading and the passes answered. Assumes nothing.
use Rattle.std.specs.Prelude.{Result, Ok, Err}
use mathlib.Core.Path.{◌≡◌, refl, ap, sym, subst, ◌∙◌}
use mathlib.Core.List.{List, [], ◌++◌, append-nil}
use Prim.Native.Nat.{ℕ, zero, suc, ◌*◌}
use lib.ListN.{length, take, drop}
use lib.Seq.{take_at}
use Rattle.answers.specs.declared.Refusal.{Refusal}
use Rattle.reading.specs.Tables.{front, label_entry_word}
use Rattle.handover.specs.declared.Counts.{Counts}
use Rattle.handover.specs.Reading.{Reading, Tables, places, Accepts}
use Rattle.as2_pcode.proofs.Handed.{read}
use Rattle.held.specs.Held.{Holds, handed}
use Rattle.held.proofs.Cut.{few-levels as few}
use Rattle.held.proofs.Fills.{Fills, inside, tokens_fill, actions_fill, operands_fill, levels_fill, labels_fill, refilled}
use Rattle.held.proofs.Hand.{held-read, held-refused, hands}
use Rattle.action_records.specs.declared.Style.{Style}
use Rattle.exporting.specs.Passes.{Held, Passes}
use Rattle.export.specs.Asked.{Asked, unread}
use Rattle.export.specs.Asked as A
use Rattle.export.specs.Export.{Exports}
use Rattle.export.specs.Parts.{HeldBy, PassedBy}

-- ---- the front of held tables holds the reading and nothing more

abbrev empty : List ℕ
empty = []

nothing : (n : ℕ) → drop n empty ≡ empty
nothing zero = refl
nothing (suc n) = refl

pub part : {ws old held : List ℕ} {n : ℕ} → Fills ws n old held → take n held ≡ front ws empty
part {ws} {old} {held} {n} f =
    ap (take n) f.is ∙ take_at ws (drop (length ws) old) n f.many ∙ sym (ap (λ (l : List ℕ). ws ++ l) (nothing (length ws)) ∙ append-nil ws)

module _ {room : ℕ} {ps text : List ℕ} {old h : Tables ℕ} {c : Counts} (a : Accepts label_entry_word room ps text old h c) where
  abbrev pub parts_held : Held text (take c.tokens h.tokens) (take c.actions h.actions) (take c.operands h.operands) (take (2 * c.levels) h.levels) (take c.labels h.labels)
  parts_held =
      record {
        room = room;
        places = ps;
        counts = c;
        accepts =
            refilled a (λ i. record {
              tokens = part (tokens_fill a) i;
              actions = part (actions_fill a) i;
              operands = part (operands_fill a) i;
              levels = part (levels_fill a) i;
              labels = part (labels_fill a) i;
            });
      }

  pub held_by_lem : HeldBy c text h
  held_by_lem =
      record {
        tokens = inside (tokens_fill a);
        actions = inside (actions_fill a);
        operands = inside (operands_fill a);
        levels = inside (levels_fill a);
        few-levels = few a;
        labels = inside (labels_fill a);
        held = parts_held;
      }

-- ---- the answers

module _ (style : Style) (text : List ℕ) (h x : Tables ℕ) (r : Reading) (w : Holds (length x.tokens) (places x) text h r) (o : List ℕ) where
  pub not_read : (f : Refusal) → r ≡ Err f → Exports style text x x o o (Err f)
  unfolding Exports
  not_read f e = (unread (held-refused w e), (refl, refl))

  module _ (c : Counts) (e : r ≡ Ok c) where
    abbrev a : Accepts label_entry_word (length x.tokens) (places x) text w.before h c
    a = held-read w e

    passed : (o' : List ℕ) (p : Result ℕ Refusal) → PassedBy style c text h o o' p → Passes style (read a).tree o o' p
    passed o' p t = t (parts_held a) (read a).tree (read a).fits

    pub not_exported : (o' : List ℕ) (p : Result ℕ Refusal) → PassedBy style c text h o o' p → (f : Refusal) → p ≡ Err f → Exports style text x x o o' (Err f)
    unfolding Exports
    not_exported o' p t f g =
        let q = subst (Passes style (read a).tree o o') g (passed o' p t) in
        (A.read a.lexed a.answer (record { tree = (read a).tree; fits = (read a).fits; told = q.0 }), (refl, q.1))

    pub exported-all : (o' : List ℕ) (p : Result ℕ Refusal) → PassedBy style c text h o o' p → (n : ℕ) → p ≡ Ok n → (y : Tables ℕ) → y ≡ handed c h x → Exports style text x y o o' (Ok (record { counts = c; bytes = n }))
    unfolding Exports
    exported-all o' p t n g y q =
        let b = subst (Passes style (read a).tree o o') g (passed o' p t) in
        record {
          bytes = b.0;
          answer = A.read a.lexed a.answer (record { tree = (read a).tree; fits = (read a).fits; told = b.1.0 });
          reads = hands text w.before h x c a y q;
          count = b.1.1.0;
          output = b.1.1.1;
        }
