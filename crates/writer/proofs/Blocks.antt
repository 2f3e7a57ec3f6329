-- A block of an action, written behind what stands there. Assumes nothing.
use mathlib.Core.Path.{◌≡◌, sym, ap, subst, ◌∙◌}
use mathlib.Core.List.{List, ◌++◌}
use Prim.Native.Nat.{ℕ, ◌+◌, ◌-◌, ◌≤◌, ◌<◌, min}
use native.Mathlib.Omega.{arith}
use native.Mathlib.Numerals.{add-one}
use lib.ListN.{length, take, drop}
use Rattle.entries.specs.declared.Block.{Block}
use Rattle.entries.specs.Entries.{level_in}
use Rattle.lexemes.specs.Events.{Part, body, try, catch, finally}
use Rattle.reading.specs.Tables.{part_of}
use Rattle.action_records.specs.declared.Style.{Style}
use Rattle.action_records.specs.Fields.{is16}
use Rattle.level_trees.specs.Held.{HoldsLevel}
use Rattle.writer.specs.declared.At.{At}
use Rattle.filling.specs.Pieces.{Tree, size, bytes_from}
use Rattle.filling.specs.Filling.{filled, unless}
use Rattle.writer.specs.Writing.{Tables, Told, Fits, AskedLevel, LevelWritten, AskedBlock, WroteBlock}
use Rattle.filling.proofs.Stores.{lent_back}

pub two_for : (p : Part) (r : ℕ) → Fits p r → 2 ≤ r
two_for body r h = h
two_for try r h = omega arith
two_for catch r h = omega arith
two_for finally r h = omega arith

module _ (T : Tables) (y : Style) (a r : ℕ) (at : At) (place : List ℕ) (n : ℕ) (e : n ≡ (level_in T.levels at.level).actions) where
  pub asked : (p : Part) (x : Tree) → AskedBlock T y p x a r at place → AskedLevel T y x n at.action (at.level + 1) place
  asked p x k =
      let levels = k.levels in
      let low = k.low in
      record {
        sound = k.sound;
        holds = subst (HoldsLevel T.levels (Told T y) x at.action) (sym (add-one at.level)) k.holds;
        count = e ∙ k.count;
        room = k.room;
        few = k.few;
        levels = omega arith;
        low = omega arith;
      }

  module _ (out : List ℕ) (s : ℕ) (es : s ≡ min at.byte (length out)) (z : List ℕ) (w : At)
      (wrote : LevelWritten T y n at.action (at.level + 1) place (take (length out - s) (drop s out)) z w) where
    pub sum_low : (p : Part) (x : Tree) → AskedBlock T y p x a r at place → at.byte + w.byte < 1099511627776
    sum_low p x k =
        let low = k.low in
        let v = (wrote x (asked p x k)).byte in
        omega arith

    abbrev back : List ℕ
    back = take s out ++ (z ++ drop (length out - s) (drop s out))

    pub written : (p : Part) (x : Tree) → AskedBlock T y p x a r at place → (out' : List ℕ)
        → out' ≡ filled (level_in T.levels at.level).block r w.byte back
        → (u : ℕ) → u ≡ min at.late (min (unless (is16 w.byte) a) w.late)
        → WroteBlock p x a r at out out' (record { action = w.action; level = w.level; byte = at.byte + w.byte; late = u })
    written p x k out' eo u eu =
        let v = wrote x (asked p x k) in
        let level = v.level in
        record {
          action = v.action;
          level = omega arith;
          byte = ap (λ (i : ℕ). at.byte + i) v.byte;
          late =
              eu ∙ ap (λ (i : ℕ). min at.late (min (unless (is16 i) a) w.late)) v.byte
              ∙ ap (λ (i : ℕ). min at.late (min (unless (is16 (size x)) a) i)) v.late;
          bytes =
              eo ∙ ap (λ (b : Block). filled b r w.byte back) k.block ∙ ap (λ (i : ℕ). filled (part_of p a) r i back) v.byte
              ∙ ap (filled (part_of p a) r (size x)) (lent_back out z (bytes_from x 0 x) at.byte s es v.bytes);
        }
