-- What the calls leave. Assumes nothing.
use mathlib.Core.Path.{◌≡◌, refl, sym, ap, subst, ◌∙◌}
use mathlib.Core.Bool.{Bool, false, cond}
use mathlib.Core.List.{List, [], ◌∷◌}
use mathlib.Core.Option.{Option, none, some}
use Prim.Native.Nat.{ℕ, ◌≤◌, ◌<◌}
use native.Mathlib.Omega.{arith}
use lib.Dec.{eqb}
use lib.IntN.{ℤ, ◌+ℤ◌}
use lib.ListN.{length, get_or}
use borrow.Author.Tests.{lt-ltb, le-ltb, ne_eqb}
use Rattle.std.specs.Prelude.{Result, Ok, Err}
use Rattle.names.specs.declared.ActionName.{ActionName}
use Rattle.answers.specs.declared.Refusal.{Refusal}
use Rattle.tokens.specs.declared.Token.{Token}
use Rattle.tokens.specs.Tokens.{token_of, raw_text}
use Rattle.entries.specs.declared.Operand.{Operand}
use Rattle.entries.specs.declared.Net.{Net}
use Rattle.entries.specs.declared.Net.TheVariants as N
use Rattle.entries.specs.Entries.{operand_of}
use Rattle.entries.specs.Levels.{SmallNet, NetFits}
use Rattle.pcode.specs.Deltas.{answer, delta_answer, delta_of, or_nine}
use Rattle.nets.specs.Nets.{first_is_empty, is_empty, moved_by}
use Rattle.nets.proofs.Bounds.{delta_near, moved-fits}

-- ---- `first_is_empty`

empty_test : (l : List ℕ) → eqb (length l) 0 ≡ is_empty l
empty_test [] = refl
empty_test (b ∷ l) = ne_eqb (length (b ∷ l)) 0 (λ e. omega arith)

module _ (text s operands : List ℕ) (from to : ℕ) where
  pub no_operand : to ≤ from → false ≡ first_is_empty text s operands from to
  unfolding first_is_empty
  no_operand h = simp (le-ltb from to h)

  pub first_empty : (o : Operand) (t : Token) (raw : List ℕ) → from < to → o ≡ operand_of (get_or operands from 0)
      → t ≡ token_of (get_or s o.token 0) → raw ≡ raw_text text t → eqb (length raw) 0 ≡ first_is_empty text s operands from to
  unfolding first_is_empty
  first_empty o t raw h eo et er =
      empty_test raw ∙ ap is_empty (er ∙ ap (raw_text text) (et ∙ ap (λ (q : Operand). token_of (get_or s q.token 0)) eo))
      ∙ sym (ap (λ (b : Bool). cond b (is_empty (raw_text text (token_of (get_or s (operand_of (get_or operands from 0)).token 0)))) false) (lt-ltb from to h))

-- ---- `next_net`

-- an answer to the delta call tells its delta
abbrev pub told : Result ℤ Refusal → Option ℤ
told (Ok z) = some z
told (Err r) = none

told_is : (d : Result ℤ Refusal) (o : Option ℤ) → answer d ≡ or_nine o → told d ≡ o
told_is (Ok z) none e = let q : ◌≡◌ {A = ℕ} 0 1 = cc in absurd (omega arith)
told_is (Ok z) (some y) e = let q : z ≡ y = cc in ap some q
told_is (Err r) none e = refl
told_is (Err r) (some y) e = let q : ◌≡◌ {A = ℕ} 0 1 = cc in absurd (omega arith)

told-delta : (d : Result ℤ Refusal) (a : ActionName) (v : ℕ) (empty : Bool) → v ≤ 65536 → answer d ≡ delta_answer a v empty → told d ≡ delta_of a v empty
unfolding delta_answer
told-delta d a v empty h e = told_is d (delta_of a v empty) (simp (le-ltb 65536 v h) at e)

module _ (a v : ℕ) (name : ActionName) (empty : Bool) (net : Net) (s : SmallNet net) (la : a ≤ 65536) (lv : v ≤ 65536) where
  abbrev o : Option ℤ
  o = delta_of name v empty

  moves : (r : Net) → r ≡ moved_by o a net → (r ≡ moved_by o a net) × NetFits r
  moves r e = (e, subst NetFits (sym e) (moved-fits a v o net la lv s (delta_near name v empty)))

  pub stays : (b : ℕ) → net ≡ N.Undetermined b → (net ≡ moved_by o a net) × NetFits net
  stays b e = moves net (e ∙ sym (ap (moved_by o a) e))

  module _ (h : ℤ) (e : net ≡ N.Height h) (d : Result ℤ Refusal) (k : answer d ≡ delta_answer name v empty) where
    pub at-height : (z r : ℤ) → d ≡ Ok z → r ≡ h +ℤ z → (N.Height r ≡ moved_by o a net) × NetFits (N.Height r)
    at-height z r f g =
        let t : some z ≡ o = sym (ap told f) ∙ told-delta d name v empty lv k in
        moves (N.Height r) (ap N.Height g ∙ ap (λ (q : Option ℤ). moved_by q a (N.Height h)) t ∙ sym (ap (moved_by o a) e))

    pub at-undetermined : (q : Refusal) → d ≡ Err q → (N.Undetermined a ≡ moved_by o a net) × NetFits (N.Undetermined a)
    at-undetermined q f =
        let t : none ≡ o = sym (ap told f) ∙ told-delta d name v empty lv k in
        moves (N.Undetermined a) (ap (λ (p : Option ℤ). moved_by p a (N.Height h)) t ∙ sym (ap (moved_by o a) e))
