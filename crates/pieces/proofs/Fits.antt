-- A record has room for what is filled into it. Assumes nothing.
use mathlib.Core.Path.{◌≡◌, refl, ap}
use mathlib.Core.Bool.{true, false}
use mathlib.Core.List.{List, [], ◌∷◌, ◌++◌, map}
use mathlib.Core.Logic.{◌⊎◌, inl, inr}
use Prim.Native.Nat.{ℕ, ◌+◌, ◌≤◌}
use native.Mathlib.Omega.{arith}
use lib.Dec.{leb}
use lib.ListN.{length, length-append}
use Rattle.names.specs.declared.ActionName.{ActionName}
use Rattle.shapes.specs.declared.Shape.{Shape}
use Rattle.shapes.specs.declared.Shape.TheVariants as S
use Rattle.shapes.specs.Shapes.{shape_of}
use Rattle.lexemes.specs.Lexemes.{Lexeme}
use Rattle.lexemes.specs.Events.{Part, body}
use Rattle.grammar.specs.Grammar as G
use Rattle.grammar.specs.Reading.{Label}
use Rattle.movies.specs.Movie.{Value, null}
use Rattle.movies.specs.Meaning.{meaning, normal}
use Rattle.action_records.specs.declared.Style.{Style}
use Rattle.action_records.specs.Codes.{listed}
use Rattle.action_records.specs.Fields.{Field, all_bytes}
use Rattle.action_records.specs.Fields as F
use Rattle.action_records.specs.Operands.{before_size, before_size2, fields}
use Rattle.action_records.specs.Bytes.{with_length, blank}
use Rattle.action_records.proofs.Listed.{Empty, long-code}
use Rattle.coding.specs.Heads.{head_of}
use Rattle.writer.specs.Writing.{FitAll}
use Rattle.pieces.proofs.Forms.{function, function2, with_block_lem, Form, steady, jump, bodied, try-only, try-finally, try-catch, try-all}
use Rattle.pieces.proofs.Trees.{aim_of, trees_in}
use Rattle.pieces.proofs.Late.{steady_aim}
use Rattle.pieces.proofs.Records.{is-long, try_fields}

-- what an action of that form is to have: a place for its offset, and for the size of each block
pub record Room (y : Style) (l : List Label) (s : Shape) (os : List Lexeme) (bs : G.Blocks) (r : ℕ) : Type 0 where
  pub jump : (aim_of s l os ≡ 0) ⊎ (5 ≤ r)
  pub fits : FitAll (trees_in y bs) r

module _ (y : Style) (l : List Label) where
  -- the bytes behind the length are n more than some
  long : (c n : ℕ) (bs : List ℕ) → leb 0x80 c ≡ true → n ≤ length bs → 3 + n ≤ length (with_length c bs)
  long c n bs e h = omega (arith, ap length (is-long c bs e), h)

  two_behind : (fs : List Field) (f : Field) → 2 ≤ length (F.bytes_of blank f) → 2 ≤ length (all_bytes blank (fs ++ (f ∷ [])))
  two_behind [] f h = let e = length-append (F.bytes_of blank f) [] in omega arith
  two_behind (g ∷ fs) f h =
      let e = length-append (F.bytes_of blank g) (all_bytes blank (fs ++ (f ∷ []))) in
      let k = two_behind fs f h in
      omega arith

  ten : (c : ℕ) (v : Value) → leb 0x80 c ≡ true → 10 ≤ length (with_length c (all_bytes blank (try_fields v (λ (p : Part). false))))
  ten c v e = long c 7 (all_bytes blank (try_fields v (λ (p : Part). false))) e (omega arith)

  room_in : {s : Shape} {os : List Lexeme} {bs : G.Blocks} → Form s os bs → (c : ℕ) → ((Empty s → ⊥) → leb 0x80 c ≡ true)
      → Room y l s os bs (length (with_length c (all_bytes blank (fields y s (normal s false (map meaning os)) (λ (p : Part). false)))))
  room_in (steady os k) c coded = record { jump = inl (steady_aim k l os); fits = tt }
  room_in (jump t) c coded = record { jump = inr (long c 2 (0 ∷ 0 ∷ []) (coded (λ e. e)) (omega arith)); fits = tt }
  room_in (bodied os x function) c coded =
      let fs = before_size (normal S.Function false (map meaning os)) in
      let h = long c 2 (all_bytes blank (fs ++ (F.size body ∷ []))) (coded (λ e. e)) (two_behind fs (F.size body) (omega arith)) in
      record { jump = inl refl; fits = (omega arith, tt) }
  room_in (bodied os x function2) c coded =
      let fs = before_size2 (normal S.Function2 false (map meaning os)) in
      let h = long c 2 (all_bytes blank (fs ++ (F.size body ∷ []))) (coded (λ e. e)) (two_behind fs (F.size body) (omega arith)) in
      record { jump = inl refl; fits = (omega arith, tt) }
  room_in (bodied os x with_block_lem) c coded =
      let h = long c 2 (0 ∷ 0 ∷ []) (coded (λ e. e)) (omega arith) in
      record { jump = inl refl; fits = (omega arith, tt) }
  room_in (try-only x) c coded = let h = ten c null (coded (λ e. e)) in record { jump = inl refl; fits = (h, tt) }
  room_in (try-finally x z) c coded = let h = ten c null (coded (λ e. e)) in record { jump = inl refl; fits = (h, (h, tt)) }
  room_in (try-catch [] x u) c coded = let h = ten c null (coded (λ e. e)) in record { jump = inl refl; fits = (h, (h, tt)) }
  room_in (try-catch (t ∷ os) x u) c coded = let h = ten c (meaning t) (coded (λ e. e)) in record { jump = inl refl; fits = (h, (h, tt)) }
  room_in (try-all [] x u z) c coded = let h = ten c null (coded (λ e. e)) in record { jump = inl refl; fits = (h, (h, (h, tt))) }
  room_in (try-all (t ∷ os) x u z) c coded = let h = ten c (meaning t) (coded (λ e. e)) in record { jump = inl refl; fits = (h, (h, (h, tt))) }

  pub room : (n : ActionName) (os : List Lexeme) (bs : G.Blocks) → Form (shape_of n) os bs → Room y l (shape_of n) os bs (length (head_of y n os))
  unfolding head_of
  room n os bs form = room_in form (listed n).code (long-code n)
