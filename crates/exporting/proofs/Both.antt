-- Both passes together answer what the definition does. Assumes nothing.
use mathlib.Core.Path.{◌≡◌, refl, ap, sym, subst, ◌∙◌}
use mathlib.Core.Bool.{Bool, true, false, cond}
use mathlib.Core.List.{List}
use Prim.Native.Nat.{ℕ}
use native.Mathlib.Omega.{arith}
use lib.Dec.{ltb}
use lib.ListN.{length}
use borrow.Author.Tests.{ltb-true, ltb-false, le-leb, lt-leb}
use Rattle.std.specs.Prelude.{Result, Ok, Err}
use Rattle.answers.specs.declared.Refusal.{Refusal}
use Rattle.answers.specs.declared.Refusal.TheVariants as F
use Rattle.answers.specs.Answers.{accepted, refused}
use Rattle.lexemes.specs.Lexemes.{numbered}
use Rattle.grammar.specs.Grammar.{Items, Text}
use Rattle.grammar.proofs.Unique.{one-tree}
use Rattle.entries.specs.Entries.{level_in}
use Rattle.labels.specs.Index.{Distinct}
use Rattle.reading.proofs.Sets.{at_front}
use Rattle.classes.specs.Lexemes.{Sound}
use Rattle.action_records.specs.declared.Style.{Style}
use Rattle.action_records.specs.Export.{in_room, exported}
use Rattle.jumps.proofs.Accepted.{labels-distinct}
use Rattle.filling.specs.Pieces.{Tree, size, nobody, late}
use Rattle.writer.specs.Writing.{tables, AskedLevel}
use Rattle.pieces.proofs.Trees.{tree_of}
use Rattle.pieces.proofs.Late.{or_refused}
use Rattle.first_pass.specs.First.{first_from}
use Rattle.first_pass.specs.Faults.{fault_for, Aimed}
use Rattle.exporting.specs.Passes.{second_of, left, TreeGiven, Second, TreePassed, Held, Roomy, Passes}
use Rattle.exporting.proofs.Tabled.{tree, fits, sound}
use Rattle.exporting.proofs.Spotted.{after, all-labels}
use Rattle.exporting.proofs.Whole.{refused-first, asked, bytes, bytes-long, answered}

module _ {text s actions operands levels labels : List ℕ} (h : Held text s actions operands levels labels) (y : Style) where
  pub whole : Sound text s
  whole = sound h.accepts

  pub distinct : Distinct text s labels
  distinct = subst (Distinct text s) (all-labels h.accepts) (labels-distinct (after h.accepts))

  abbrev f : ℕ → Result (Unit {0}) Refusal
  f = fault_for text s actions operands labels y

  abbrev n : ℕ
  n = length actions

  -- the text has one tree
  same : (x : Items) → Text (numbered 0 text h.accepts.tokens) x → tree h.accepts ≡ x
  same x t = one-tree (fits h.accepts) t

  module _ (o : List ℕ) where
    pub refused-by : (r : Refusal) → first_from f 0 n ≡ Err r → (x : Items) → Text (numbered 0 text h.accepts.tokens) x → Passes y x o o (Err r)
    refused-by r e x t = (ap (exported y (length o)) (sym (same x t)) ∙ refused-first h.accepts y r e (length o), refl)

    -- the first pass found nothing
    module _ (clear : first_from f 0 n ≡ Ok tt) where
      abbrev T : Tree
      T = tree_of y (tree h.accepts)

      abbrev B : List ℕ
      B = bytes h.accepts y clear

      long : length B ≡ size T
      long = bytes-long h.accepts y clear

      -- what the second pass answers is what the definition does
      by_size : (b : Bool) → ltb (length o) (size T) ≡ b → or_refused (late 0 T) (in_room (length o) B) ≡ in_room (length o) B
          → exported y (length o) (tree h.accepts) ≡ or_refused (late 0 T) (in_room (length o) B)
          → Passes y (tree h.accepts) o (left B o (cond b (Err (F.OutputShort (size T))) (Ok (size T)))) (cond b (Err (F.OutputShort (size T))) (Ok (size T)))
      by_size true q w v = (
        v ∙ w ∙ ap (λ (t : Bool). cond t (accepted B) (refused 12 (length B))) (lt-leb (length B) (length o) (omega (arith, ltb-true (length o) (size T) q, long)))
            ∙ ap (λ (i : ℕ). refused 12 i) long,
        refl,
      )
      by_size false q w v =
          let k = ltb-false (length o) (size T) q in (
            B,
            (
              v ∙ w ∙ ap (λ (t : Bool). cond t (accepted B) (refused 12 (length B))) (le-leb (length B) (length o) (omega (arith, k, long))),
              (sym long, at_front B o (omega (arith, k, long))),
            ),
          )

      by-late : (b : Bool) → ltb (late 0 T) nobody ≡ b
          → Passes y (tree h.accepts) o
          (left B o (cond b (Err (F.Uncodable (late 0 T))) (cond (ltb (length o) (size T)) (Err (F.OutputShort (size T))) (Ok (size T)))))
          (cond b (Err (F.Uncodable (late 0 T))) (cond (ltb (length o) (size T)) (Err (F.OutputShort (size T))) (Ok (size T))))
      by-late true q =
          (answered h.accepts y clear (length o) ∙ ap (λ (t : Bool). cond t (refused 11 (late 0 T)) (in_room (length o) B)) q, refl)
      by-late false q =
          by_size (ltb (length o) (size T)) refl (ap (λ (t : Bool). cond t (refused 11 (late 0 T)) (in_room (length o) B)) q) (answered h.accepts y clear (length o))

      second : (o' : List ℕ) (p : Result ℕ Refusal) → Second T o o' p → Passes y (tree h.accepts) o o' p
      second o' p w =
          subst (λ (q : Result ℕ Refusal). Passes y (tree h.accepts) o o' q) (sym w.answer)
          (subst (λ (l : List ℕ). Passes y (tree h.accepts) o l (second_of T (length o))) (sym (w.output ∙ ap (left B o) w.answer)) (by-late (ltb (late 0 T) nobody) refl))

      module _ (aims index place : List ℕ) (roomy : Roomy actions levels labels aims index place) (aims' : List ℕ) (aimed : Aimed text s actions operands labels n aims') where
        ask : AskedLevel (tables text s actions operands levels aims') y T (level_in levels 0).actions 0 1 place
        ask = asked h.accepts y clear aims' place aimed (level_in levels 0).actions refl roomy.for_place

        pub given : TreeGiven (tables text s actions operands levels aims') y place
        given = (T, ask)

        pub passes : (o' : List ℕ) (p : Result ℕ Refusal) → TreePassed (tables text s actions operands levels aims') y place o o' p
            → (x : Items) → Text (numbered 0 text h.accepts.tokens) x → Passes y x o o' p
        passes o' p w x t = subst (λ (v : Items). Passes y v o o' p) (same x t) (second o' p (w T ask))
