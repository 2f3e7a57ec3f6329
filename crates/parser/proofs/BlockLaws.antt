-- One block, and the blocks of an action, branch by branch. Assumes nothing.
use mathlib.Core.Path.{◌≡◌, refl, sym, ap, ◌∙◌, subst}
use mathlib.Core.Bool.{Bool, true, false}
use mathlib.Core.List.{List, [], ◌∷◌}
use Prim.Native.Nat.{ℕ, suc, ◌+◌, ◌*◌, ◌-◌, ◌<◌, ◌≤◌}
use native.Mathlib.Omega.{arith}
use lib.Dec.{eqb, ltb}
use lib.ListN.{length, set}
use borrow.Author.Tests.{ltb-true, ltb-false}
use Rattle.std.specs.Prelude.{Result, Ok, Err}
use Rattle.shapes.specs.declared.Shape.{Shape}
use Rattle.shapes.specs.declared.Shape.TheVariants as S
use Rattle.lexemes.specs.Events.{opened}
use Rattle.machine.specs.Machine.{Nesting, inner, no_handlers, Symbol, opens, level, item, ended, out}
use Rattle.machine.specs.Depth.{fault}
use Rattle.operands.specs.declared.At.{At}
use Rattle.operands.specs.declared.Unread.{Unread}
use Rattle.operands.specs.declared.Unread.TheVariants.{Bad, Deep}
use Rattle.classes.specs.Lexemes.{kind_at}
use Rattle.classes.proofs.OneToken.{kind-told}
use Rattle.events.specs.Log.{log_word, block_number}
use Rattle.operands.specs.Log.{log, logged, part_number}
use Rattle.operands.specs.Contract.{judge, outcome, Fine, Onward, Ahead, at-end as action-ends}
use Rattle.operands.proofs.Places.{at-step, at-stop, at-end}
use Rattle.operands.proofs.Runs.{logged-fine, logged_on, further_on, kind-there, refusal}
use Rattle.events.specs.declared.BlockKind.{BlockKind}
use Rattle.events.specs.declared.BlockKind.TheVariants as B
use Rattle.parser.specs.Parsing.{ReadsIn, at_item, EndRead, part_of, BlockRead, LastBlockRead, BlocksRead, LevelSays, LevelRead}
use Rattle.parser.proofs.Leaves.{kind-known, kind_other}

-- ---- an answer that is known

module _ {α β : Nesting → List Symbol} (text s a b : List ℕ) (c p : At) (d : ℕ) (v : ReadsIn α β text s a b c d (Ok p)) where
  pub in_on : Onward text s c p
  unfolding Ahead
  in_on = v.ahead

  pub in_fine : Fine text s p
  in_fine = in_on.fine

-- ---- a block

module _ (b : BlockKind) (text s a : List ℕ) (c : At) (room : ℕ) (k : Bool) (f : Fine text s c) (e : k ≡ eqb (kind_at s c.at) 10) where
  pub block-bad : k ≡ false → BlockRead b text s a a c room (Err (Bad c.at))
  unfolding outcome Ahead
  block-bad z = record { says = λ x σ. by (ltb c.at (length s)) refl σ; ahead = f.inside }
    where
      by : (t : Bool) → ltb c.at (length s) ≡ t → (σ : List Symbol) → judge text s (opens (part_of b) ∷ σ) room (log a c) c.at ≡ fault (length s - c.at)
      by true q σ =
          let i = ltb-true c.at (length s) q in
          let d = kind_other s c.at k 10 i e z in
          at-stop text s c.at (opens (part_of b)) σ room (log a c) i (rw d)
      by false q σ = at-end text s c.at (opens (part_of b)) σ room (log a c) (ltb-false c.at (length s) q) refl

  pub block-deep : k ≡ true → room ≡ 0 → BlockRead b text s a a c room (Err (Deep c.at))
  unfolding outcome Ahead
  block-deep z q =
      let i = kind-known s c.at k 10 e z (omega arith) in
      let m = i.1 in
      record {
        says = λ x σ. at-step text s c.at (opens (part_of b)) (level inner (item no_handlers) ∷ []) σ (out (opened (part_of b))) room (log a c) i.0 (rw m) ∙ rw q;
        ahead = f.inside;
      }

pub opened-fine : (text s : List ℕ) (c d : At) (k : Bool) → Fine text s c → k ≡ eqb (kind_at s c.at) 10 → k ≡ true → d ≡ logged c → Fine text s d
opened-fine text s c d k f e z q = rw q (logged-fine text s c f (kind-there s c.at 10 (kind-told e z) (omega arith)))

pub opened_less : (s : List ℕ) (c d : At) (k : Bool) (t : ℕ) → k ≡ eqb (kind_at s c.at) 10 → k ≡ true → d ≡ logged c → 4 * (length s - c.at) ≡ t → 4 * (length s - d.at) + 2 < t
opened_less s c d k t e z q m =
    let i = kind-there s c.at 10 (kind-told e z) (omega arith) in
    let y : d.at ≡ c.at + 1 = ap (λ (x : At). x.at) q in
    omega arith

level-inner : (text s a b : List ℕ) (c : At) (d : ℕ) (r : Result At Unread) → LevelRead text s a b c d true r →
    (σ : List Symbol) → judge text s (level inner (item no_handlers) ∷ σ) d (log a c) c.at ≡ outcome text s σ (suc d) b r
unfolding LevelSays
level-inner text s a b c d r v = v.says

-- a block by its number, and by its part
block-part : (b : BlockKind) → block_number b ≡ part_number (part_of b)
block-part B.Body = refl
block-part B.Try = refl
block-part B.Catch = refl
block-part B.Finally = refl

pub block_goes : (b : BlockKind) (text s a a' l : List ℕ) (c d : At) (room : ℕ) (k : Bool) (r : Result At Unread) → Fine text s c → k ≡ eqb (kind_at s c.at) 10 → k ≡ true → (room ≡ 0 → ⊥) →
    a' ≡ set a c.events (log_word 3 (block_number b)) → d ≡ logged c → LevelRead text s a' l d (room - 1) true r → BlockRead b text s a l c room r
block_goes b text s a a' l c d room k r f e z o q y v =
    let i = kind-known s c.at k 10 e z (omega arith) in
    let m = i.1 in
    let t : room ≡ suc (room - 1) = omega arith in
    let n = set a c.events (log_word 3 (part_number (part_of b))) in
    let w : a' ≡ n = q ∙ ap (λ (x : ℕ). set a c.events (log_word 3 x)) (block-part b) in
    let v' : LevelRead text s n l (logged c) (room - 1) true r =
    subst (λ (x : At). LevelRead text s n l x (room - 1) true r) y (subst (λ (x : List ℕ). LevelRead text s x l d (room - 1) true r) w v) in
    record {
      says = λ x σ.
          subst (λ (x : ℕ). judge text s (opens (part_of b) ∷ σ) x (log a c) c.at ≡ outcome text s σ x l r) (sym t)
          (at-step text s c.at (opens (part_of b)) (level inner (item no_handlers) ∷ []) σ (out (opened (part_of b))) (suc (room - 1)) (log a c) i.0 (rw m)
          ∙ level-inner text s n l (logged c) (room - 1) r v' σ);
      ahead = further_on text s c (logged c) r (logged_on text s c f i.0) v'.ahead;
    }

-- of the number j that `events::block_number` gives
pub block_goes_by : (b : BlockKind) (text s a a' l : List ℕ) (c d : At) (room j : ℕ) (k : Bool) (r : Result At Unread) → Fine text s c → k ≡ eqb (kind_at s c.at) 10 → k ≡ true → (room ≡ 0 → ⊥) →
    (j ≡ block_number b) × (j ≤ 3) → a' ≡ set a c.events (log_word 3 j) → d ≡ logged c → LevelRead text s a' l d (room - 1) true r → BlockRead b text s a l c room r
block_goes_by b text s a a' l c d room j k r f e z o p q y v =
    block_goes b text s a a' l c d room k r f e z o (q ∙ ap (λ (x : ℕ). set a c.events (log_word 3 x)) p.0) y v

-- ---- a block and the end of its action

module _ (b : BlockKind) (text s a l : List ℕ) (c : At) (room : ℕ) where
  pub last-block-bad : (u : Unread) → BlockRead b text s a l c room (Err u) → LastBlockRead b text s a l c room (Err u)
  last-block-bad u v =
      record { says = λ e σ. v.says e (level e (ended no_handlers) ∷ σ) ∙ refusal text s (level e (ended no_handlers) ∷ σ) (level e (item no_handlers) ∷ σ) room room l l u; ahead = v.ahead }

  pub last-block_ok : (p : At) (z : Result At Unread) → BlockRead b text s a l c room (Ok p) → EndRead text s p z → LastBlockRead b text s a l c room z
  unfolding outcome
  last-block_ok p z v x =
      record {
        says = λ e σ. v.says e (level e (ended no_handlers) ∷ σ) ∙ (x.with_log l).says e σ room;
        ahead = further_on text s c p z (in_on text s a l c p room v) (x.with_log l).ahead;
      }

-- ---- the blocks of an action

action-end : (text s a : List ℕ) (c : At) (room : ℕ) (r : Result At Unread) → EndRead text s c r → ReadsIn action-ends at_item text s a a c room r
action-end text s a c room r v = record { says = λ e σ. (v.with_log a).says e σ room; ahead = (v.with_log a).ahead }

pub blocks-none : (w : Shape) (text s a : List ℕ) (c : At) (room : ℕ) (r : Result At Unread) → EndRead text s c r → (w ≡ S.Function → ⊥) → (w ≡ S.Function2 → ⊥) → (w ≡ S.Block → ⊥) → (w ≡ S.Try → ⊥) →
    BlocksRead w text s a a c room r
blocks-none S.Nothing text s a c room r v f g h i = action-end text s a c room r v
blocks-none S.Values text s a c room r v f g h i = action-end text s a c room r v
blocks-none S.Strings text s a c room r v f g h i = action-end text s a c room r v
blocks-none S.StringString text s a c room r v f g h i = action-end text s a c room r v
blocks-none S.BoolBoolU8 text s a c room r v f g h i = action-end text s a c room r v
blocks-none S.U16 text s a c room r v f g h i = action-end text s a c room r v
blocks-none S.BoolBoolMaybeU16 text s a c room r v f g h i = action-end text s a c room r v
blocks-none S.String text s a c room r v f g h i = action-end text s a c room r v
blocks-none S.Identifier text s a c room r v f g h i = action-end text s a c room r v
blocks-none S.U8 text s a c room r v f g h i = action-end text s a c room r v
blocks-none S.U16U8 text s a c room r v f g h i = action-end text s a c room r v
blocks-none S.Function text s a c room r v f g h i = absurd (f refl)
blocks-none S.Function2 text s a c room r v f g h i = absurd (g refl)
blocks-none S.Block text s a c room r v f g h i = absurd (h refl)
blocks-none S.Try text s a c room r v f g h i = absurd (i refl)
