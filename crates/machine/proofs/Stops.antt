-- A run that stops at a token has read what the stack could go on from, and could not go on with that token. Assumes nothing.
use mathlib.Core.Path.{◌≡◌, refl, ap}
use mathlib.Core.Bool.{Bool, true, false}
use mathlib.Core.List.{List, [], ◌∷◌, ◌++◌}
use Prim.Native.Nat.{ℕ, suc}
use native.Mathlib.Omega.{arith}
use lib.ListN.{length}
use Rattle.lexemes.specs.Lexemes.{Lexeme}
use Rattle.lexemes.specs.Events.{Event}
use Rattle.machine.specs.Machine.{Symbol, Move, stop, go, move, Answer, accepted, refused, may_end, puts, finish, proceed, run, Can}
use Rattle.machine.proofs.Moves.{Legal, halts, steps, legal}
use Rattle.machine.proofs.Runs.{blocked, moved, moved⁻}
use Rattle.machine.proofs.Complete.{Good, step_good, complete}

module _ {S : Type 0} (emit : Event → S → S) where
  -- a run that stops at a token
  pub record Stopped (σ : List Symbol) (s : S) (ts : List Lexeme) (n : ℕ) : Type 0 where
    pub before : List Lexeme
    pub after : List Lexeme
    pub at : Lexeme
    pub cut : ts ≡ before ++ (at ∷ after)
    pub left : length after ≡ n
    pub can : Can emit σ s before
    pub cannot : ¬ Can emit σ s (before ++ (at ∷ []))

  left-of : Answer S → ℕ
  left-of (accepted s) = 0
  left-of (refused n) = n

  at-end-left : (b : Bool) (s : S) → left-of (finish emit b s) ≡ 0
  unfolding left-of
  at-end-left true s = refl
  at-end-left false s = refl

  refused-left : {n : ℕ} {z : Answer S} → z ≡ refused n → left-of z ≡ n
  unfolding left-of
  refused-left h = ap left-of h

  pub stops : (ts : List Lexeme) (σ : List Symbol) (s : S) (n : ℕ) → Good σ → run emit σ s ts ≡ refused (suc n) → Stopped σ s ts n
  unfolding left-of
  stops [] σ s n g h = absurd (omega (arith, at-end-left (may_end σ) s, refused-left h))
  stops (t ∷ ts) [] s n g h = elim g [ ]
  stops (t ∷ ts) (a ∷ σ) s n g h = by_move (move a t) refl (legal a t) h (λ α s'. stops ts (α ++ σ) s' n)
    where
      by_move : (m : Move) → move a t ≡ m → Legal a t m → proceed emit m s (λ α s'. run emit (α ++ σ) s' ts) (suc (length ts)) ≡ refused (suc n) →
          ((α : List Symbol) (s' : S) → Good (α ++ σ) → run emit (α ++ σ) s' ts ≡ refused (suc n) → Stopped (α ++ σ) s' ts n) → Stopped (a ∷ σ) s (t ∷ ts) n
      by_move stop e halts h' f =
          record {
            before = [];
            after = ts;
            at = t;
            cut = refl;
            left = omega (arith, refused-left h');
            can = complete emit g s;
            cannot = λ c. blocked emit a t σ s c.0 e c.1;
          }
      by_move (go α o) e (steps q) h' f =
          let r = f α (puts emit o s) (step_good σ q g) h' in
          record {
            before = t ∷ r.before;
            after = r.after;
            at = r.at;
            cut = ap (λ (l : List Lexeme). t ∷ l) r.cut;
            left = r.left;
            can = (r.can.0, moved emit a t σ s (r.before ++ r.can.0) e r.can.1);
            cannot = λ c. r.cannot (c.0, moved⁻ emit a t σ s ((r.before ++ (r.at ∷ [])) ++ c.0) e c.1);
          }

  -- a run that ends early
  pub short : (ts : List Lexeme) (σ : List Symbol) (s : S) → Good σ → run emit σ s ts ≡ refused 0 → Can emit σ s ts
  unfolding left-of
  short [] σ s g h = complete emit g s
  short (t ∷ ts) [] s g h = elim g [ ]
  short (t ∷ ts) (a ∷ σ) s g h = by_move (move a t) refl (legal a t) h (λ α s'. short ts (α ++ σ) s')
    where
      by_move : (m : Move) → move a t ≡ m → Legal a t m → proceed emit m s (λ α s'. run emit (α ++ σ) s' ts) (suc (length ts)) ≡ refused 0 →
          ((α : List Symbol) (s' : S) → Good (α ++ σ) → run emit (α ++ σ) s' ts ≡ refused 0 → Can emit (α ++ σ) s' ts) → Can emit (a ∷ σ) s (t ∷ ts)
      by_move stop e halts h' f = absurd (omega (arith, refused-left h'))
      by_move (go α o) e (steps q) h' f =
          let r = f α (puts emit o s) (step_good σ q g) h' in
          (r.0, moved emit a t σ s (ts ++ r.0) e r.1)
