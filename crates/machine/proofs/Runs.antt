-- How a run goes on by one move, or stops. Assumes nothing.
use mathlib.Core.Path.{◌≡◌, sym, subst}
use mathlib.Core.List.{List, [], ◌∷◌, ◌++◌}
use Prim.Native.Nat.{suc}
use lib.ListN.{length}
use Rattle.lexemes.specs.Lexemes.{Lexeme}
use Rattle.lexemes.specs.Events.{Event, given}
use Rattle.machine.specs.Machine.{Symbol, Output, stop, go, move, Answer, refused, Accepts, puts, run}

module _ {S : Type 0} (emit : Event → S → S) where
  -- operands given one after the other
  abbrev pub gives : List Lexeme → S → S
  gives [] s = s
  gives (t ∷ os) s = gives os (emit (given t) s)

  -- a run goes on by a move
  pub moves : (a : Symbol) (t : Lexeme) {α : List Symbol} {o : Output} (σ : List Symbol) (s : S) (ts : List Lexeme) → move a t ≡ go α o →
      run emit (a ∷ σ) s (t ∷ ts) ≡ run emit (α ++ σ) (puts emit o s) ts
  moves a t σ s ts h = rw h

  pub stuck : (a : Symbol) (t : Lexeme) (σ : List Symbol) (s : S) (ts : List Lexeme) → move a t ≡ stop → run emit (a ∷ σ) s (t ∷ ts) ≡ refused (suc (length ts))
  stuck a t σ s ts e = rw e

  pub blocked : (a : Symbol) (t : Lexeme) (σ : List Symbol) (s : S) (q : List Lexeme) → move a t ≡ stop → Accepts (run emit (a ∷ σ) s (t ∷ q)) → ⊥
  blocked a t σ s q e h = rw e at h

  pub moved : (a : Symbol) (t : Lexeme) {α : List Symbol} {o : Output} (σ : List Symbol) (s : S) (q : List Lexeme) → move a t ≡ go α o →
      Accepts (run emit (α ++ σ) (puts emit o s) q) → Accepts (run emit (a ∷ σ) s (t ∷ q))
  moved a t σ s q e h = subst (λ (z : Answer S). Accepts z) (sym (moves a t σ s q e)) h

  pub moved⁻ : (a : Symbol) (t : Lexeme) {α : List Symbol} {o : Output} (σ : List Symbol) (s : S) (q : List Lexeme) → move a t ≡ go α o →
      Accepts (run emit (a ∷ σ) s (t ∷ q)) → Accepts (run emit (α ++ σ) (puts emit o s) q)
  moved⁻ a t σ s q e h = subst (λ (z : Answer S). Accepts z) (moves a t σ s q e) h
