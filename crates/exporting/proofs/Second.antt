-- The second pass: what is measured, and what is answered by it. Assumes nothing.
use mathlib.Core.Path.{◌≡◌, refl, ap, sym, subst, ◌∙◌}
use mathlib.Core.Bool.{Bool, true, false, cond}
use mathlib.Core.List.{List}
use Prim.Native.Nat.{ℕ, ◌≤◌, ◌<◌}
use native.Mathlib.Omega.{arith}
use lib.Dec.{ltb}
use lib.ListN.{length}
use borrow.Author.Tests.{lt-ltb, le-ltb}
use Rattle.std.specs.Prelude.{Ok, Err}
use Rattle.answers.specs.declared.Refusal.TheVariants as F
use Rattle.entries.specs.Entries.{level_in}
use Rattle.action_records.specs.declared.Style.{Style}
use Rattle.writer.specs.declared.At.{At}
use Rattle.filling.specs.Pieces.{Tree, size, nobody, late}
use Rattle.writer.specs.Writing.{Tables, AskedLevel, LevelGiven, LevelWritten}
use Rattle.exporting.specs.Passes.{second_of, TreeGiven, TreePassed}

-- the scratch may hold anything
other_place : {T : Tables} {y : Style} {l : Tree} {n a m : ℕ} {place place' : List ℕ} → length place' ≡ length place → AskedLevel T y l n a m place → AskedLevel T y l n a m place'
other_place e k =
    record { sound = k.sound; holds = k.holds; count = k.count; room = omega (arith, e, k.room); few = k.few; levels = k.levels; low = k.low }

module _ (T : Tables) (y : Style) (place : List ℕ) (n : ℕ) (told : n ≡ (level_in T.levels 0).actions) where
  asked : {l : Tree} → AskedLevel T y l (level_in T.levels 0).actions 0 1 place → AskedLevel T y l n 0 1 place
  asked {l} k = subst (λ (i : ℕ). AskedLevel T y l i 0 1 place) (sym told) k

  pub given : TreeGiven T y place → LevelGiven T y n 0 1 place
  given (l, k) = (l, asked k)

  pub given-again : TreeGiven T y place → (place' : List ℕ) → length place' ≡ length place → LevelGiven T y n 0 1 place'
  given-again (l, k) place' e = (l, other_place e (asked k))

  -- into no output: m is what was measured
  module _ (none none' : List ℕ) (m : At) (measured : LevelWritten T y n 0 1 place none none' m) (o : List ℕ) where
    pub large : m.late < nobody → TreePassed T y place o o (Err (F.Uncodable m.late))
    large h l k =
        let w = (measured l (asked k)).late in
        record {
          answer =
              ap (λ (i : ℕ). Err (F.Uncodable i)) w
              ∙ sym (ap (λ (b : Bool). cond b (Err (F.Uncodable (late 0 l))) (cond (ltb (length o) (size l)) (Err (F.OutputShort (size l))) (Ok (size l)))) (lt-ltb (late 0 l) nobody (omega (arith, w))));
          output = refl;
        }

    module _ (h : nobody ≤ m.late) where
      second_is : (l : Tree) → AskedLevel T y l n 0 1 place → (b : Bool) → ltb (length o) (size l) ≡ b
          → cond b (Err (F.OutputShort (size l))) (Ok (size l)) ≡ second_of l (length o)
      second_is l k b e =
          sym (ap (λ (t : Bool). cond t (Err (F.Uncodable (late 0 l))) (cond (ltb (length o) (size l)) (Err (F.OutputShort (size l))) (Ok (size l)))) (le-ltb (late 0 l) nobody (omega (arith, (measured l k).late)))
          ∙ ap (λ (t : Bool). cond t (Err (F.OutputShort (size l))) (Ok (size l))) e)

      pub short : length o < m.byte → TreePassed T y place o o (Err (F.OutputShort m.byte))
      short g l k =
          let w = (measured l (asked k)).byte in
          record {
            answer = ap (λ (i : ℕ). Err (F.OutputShort i)) w ∙ second_is l (asked k) true (lt-ltb (length o) (size l) (omega (arith, w)));
            output = refl;
          }

      pub written : m.byte ≤ length o → (place' o' : List ℕ) (r : At) → length place' ≡ length place → LevelWritten T y n 0 1 place' o o' r
          → TreePassed T y place o o' (Ok m.byte)
      written g place' o' r e wrote l k =
          let w = (measured l (asked k)).byte in
          record {
            answer = ap (λ (i : ℕ). Ok i) w ∙ second_is l (asked k) false (le-ltb (length o) (size l) (omega (arith, w)));
            output = (wrote l (other_place e (asked k))).bytes;
          }
