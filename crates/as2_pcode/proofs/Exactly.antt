-- The call accepts, with that reading, and answers 6 exactly when demand 3 says so. Assumes nothing.
use Rattle.std.specs.Prelude.{Ok, Err}
use mathlib.Core.Path.{◌≡◌, refl, subst}
use mathlib.Core.List.{List}
use mathlib.Core.Logic.{◌↔◌}
use Prim.Native.Nat.{ℕ}
use lib.ListN.{length}
use Rattle.answers.specs.Answers.{Answer, accepted, refused, refusal, number_of, place_of}
use Rattle.answers.specs.declared.Refusal.{Refusal}
use Rattle.tokens.specs.declared.Token.{Token}
use Rattle.lexer.specs.Lexing.{lex_text}
use Rattle.lexemes.specs.Lexemes.{numbered}
use Rattle.grammar.specs.Reading as G
use Rattle.grammar.specs.Refusals.{NotGrammatical, Answers}
use Rattle.grammar.specs.Demand3.{Acceptable, Unreadable}
use Rattle.grammar.proofs.Texts.{unlike, same-accepted}
use Rattle.grammar.proofs.Theorems as Grammar
use Rattle.handover.specs.declared.Counts.{Counts}
use Rattle.handover.specs.Reading.{Reading, Tables, places, Accepts, Reads}

same_number : {n p m k : ℕ} → ◌≡◌ {A = Answer G.Reading} (refused n p) (refused m k) → n ≡ m
same_number e = cc

module _ {L : Type 0} (entry : G.Label → L) (text : List ℕ) (x y : Tables L) where
  abbrev room : ℕ
  room = length x.tokens

  abbrev Right : Answer G.Reading → Type 0
  Right z = Answers room (places x) text z

  one : {z w : Answer G.Reading} → Right z → Right w → z ≡ w
  one a b = Grammar.one_answer room (places x) text a b

  -- what the contract says of the two answers
  taken : (c : Counts) → Reads entry text x y (Ok c) → Accepts entry room (places x) text x y c
  unfolding Reads
  taken c h = h

  turned_down : (q : Refusal) → Reads entry text x y (Err q) → Right (refusal q)
  unfolding Reads
  turned_down q h = h.0

  -- ---- acceptance

  right : {Q : G.Reading} → Acceptable room (places x) text Q → Right (accepted Q)
  right m = (Grammar.accepts_exactly_when room (places x) text _).1 m

  pub hands_that_out : (r : Reading) → Reads entry text x y r → {Q : G.Reading} → Acceptable room (places x) text Q
      → (c : Counts) × (r ≡ Ok c) × (a : Accepts entry room (places x) text x y c) × (a.reading ≡ Q)
  hands_that_out (Ok c) h m = let a = taken c h in (c, refl, a, same-accepted refl (one a.answer (right m)))
  hands_that_out (Err q) h m = unlike refl (one (right m) (turned_down q h))

  acceptable : (r : Reading) → Reads entry text x y r → (c : Counts) × (r ≡ Ok c) → (Q : G.Reading) × Acceptable room (places x) text Q
  acceptable r h e =
      let a = taken e.0 (subst (λ (v : Reading). Reads entry text x y v) e.1 h) in
      (a.reading, (Grammar.accepts_exactly_when room (places x) text a.reading).0 a.answer)

  pub accepts_exactly_when : (r : Reading) → Reads entry text x y r
      → ((c : Counts) × (r ≡ Ok c)) ↔ ((Q : G.Reading) × Acceptable room (places x) text Q)
  accepts_exactly_when r h = (acceptable r h, λ m. let o = hands_that_out r h m.1 in (o.0, o.1))

  -- ---- refusal 6

  six : (r : Reading) → Reads entry text x y r → {q : Refusal} → r ≡ Err q → number_of q ≡ 6 → Right (refused 6 (place_of q))
  six r h {q = q} e n =
      subst (λ (i : ℕ). Right (refused i (place_of q))) n (turned_down q (subst (λ (v : Reading). Reads entry text x y v) e h))

  right_6 : Unreadable room text → (k : ℕ) × Right (refused 6 k)
  right_6 u = (Grammar.six_exactly_when room (places x) text).1 u

  answers_6 : (r : Reading) → Reads entry text x y r → Unreadable room text → (q : Refusal) × (r ≡ Err q) × (number_of q ≡ 6)
  answers_6 (Ok c) h u = unlike refl (one (taken c h).answer (right_6 u).1)
  answers_6 (Err q) h u = (q, refl, same_number (one (turned_down q h) (right_6 u).1))

  pub six_exactly_when : (r : Reading) → Reads entry text x y r
      → ((q : Refusal) × (r ≡ Err q) × (number_of q ≡ 6)) ↔ Unreadable room text
  six_exactly_when r h = (λ e. (Grammar.six_exactly_when room (places x) text).0 (place_of e.0, six r h e.1 e.2), answers_6 r h)

  pub six_at : (r : Reading) → Reads entry text x y r → {q : Refusal} {ts : List Token} → r ≡ Err q → number_of q ≡ 6
      → lex_text text room ≡ accepted ts → NotGrammatical (numbered 0 text ts) (place_of q)
  six_at r h e n l = Grammar.six_at room (places x) text (six r h e n) l
