-- Every text has exactly one answer. Assumes nothing.
use mathlib.Core.Path.{◌≡◌, refl, ap, subst}
use mathlib.Core.Bool.{Bool, true, false}
use mathlib.Core.List.{List, [], ◌∷◌}
use Prim.Native.Nat.{ℕ, zero, suc, ◌<◌}
use native.Mathlib.Omega.{arith}
use lib.Dec.{ltb}
use lib.ListN.{get_or}
use borrow.Author.Tests.{ltb-true, ltb-false}
use Rattle.answers.specs.Answers.{Answer, accepted, refused}
use Rattle.tokens.specs.declared.Token.{Token}
use Rattle.lexer.specs.Lexing.{lex_text}
use Rattle.lexemes.specs.Lexemes.{numbered}
use Rattle.grammar.specs.Reading.{Reading}
use Rattle.grammar.specs.Refusals.{Outcome, entries, Short, Answers, rows₁₋₅, rows₆₋₇, row₈, fits}
use Rattle.grammar.proofs.Outcomes.{outcome, one-outcome}

-- ---- the lowest table that is too short

abbrev Over : List ℕ → List ℕ → ℕ → Type 0
Over places needed k = get_or places k 0 < get_or needed k 0

data Lowest (places needed : List ℕ) : Type 0 where
  all_fit : ((k : ℕ) → ¬ Over places needed k) → Lowest places needed
  too_short : (k : ℕ) → Over places needed k → ((j : ℕ) → j < k → ¬ Over places needed j) → Lowest places needed

-- the places behind the first
abbrev rest : List ℕ → List ℕ
rest [] = []
rest (p ∷ ps) = ps

rest_at : (ps : List ℕ) (k : ℕ) → get_or (rest ps) k 0 ≡ get_or ps (suc k) 0
rest_at [] zero = refl
rest_at [] (suc k) = refl
rest_at (p ∷ ps) k = refl

lowest : (places needed : List ℕ) → Lowest places needed
lowest ps [] = all_fit none_over
  where
    none_over : (k : ℕ) → ¬ Over ps [] k
    none_over zero h = omega arith
    none_over (suc k) h = omega arith
lowest ps (n ∷ ns) = by (ltb (get_or ps 0 0) n) refl (lowest (rest ps) ns)
  where
    fit : ltb (get_or ps 0 0) n ≡ false → ((k : ℕ) → ¬ Over (rest ps) ns k) → (k : ℕ) → ¬ Over ps (n ∷ ns) k
    fit e f zero o = omega (arith, ltb-false (get_or ps 0 0) n e)
    fit e f (suc k) o = f k (omega (arith, rest_at ps k))

    later : ltb (get_or ps 0 0) n ≡ false → {k : ℕ} → ((j : ℕ) → j < k → ¬ Over (rest ps) ns j) → (j : ℕ) → j < suc k → ¬ Over ps (n ∷ ns) j
    later e f zero h o = omega (arith, ltb-false (get_or ps 0 0) n e)
    later e f (suc j) h o = f j (omega arith) (omega (arith, rest_at ps j))

    by : (b : Bool) → ltb (get_or ps 0 0) n ≡ b → Lowest (rest ps) ns → Lowest ps (n ∷ ns)
    by true e l = too_short 0 (ltb-true (get_or ps 0 0) n e) (λ j h o. omega arith)
    by false e (all_fit f) = all_fit (fit e f)
    by false e (too_short k o f) = too_short (suc k) (omega (arith, rest_at ps k)) (later e f)

-- ---- the answer

module _ (room : ℕ) (places text : List ℕ) where
  with_tables : (ts : List Token) → lex_text text room ≡ accepted ts → {z : Answer Reading} → Outcome (numbered 0 text ts) z → (y : Answer Reading) × Answers room places text y
  with_tables ts e {z = refused n k} o = (refused n k, rows₆₋₇ e o)
  with_tables ts e {z = accepted R} o = by (lowest places (entries R))
    where
      by : Lowest places (entries R) → (y : Answer Reading) × Answers room places text y
      by (all_fit f) = (accepted R, fits e o f)
      by (too_short k h f) = (refused 8 k, row₈ e (record { reading = R; outcome = o; short = h; lowest = f }))

  pub answer : (z : Answer Reading) × Answers room places text z
  answer = by (lex_text text room) refl
    where
      by : (q : Answer (List Token)) → lex_text text room ≡ q → (z : Answer Reading) × Answers room places text z
      by (refused n p) e = (refused n p, rows₁₋₅ e)
      by (accepted ts) e = with_tables ts e (outcome (numbered 0 text ts)).1

-- ---- and only one

pub unlike : {A B : Type 0} {q : Answer A} {a : A} {n p : ℕ} → q ≡ accepted a → q ≡ refused n p → B
unlike {n = n} h g = absurd (let z : ◌≡◌ {A = ℕ} 0 1 = cc in omega arith)

pub same-accepted : {A : Type 0} {q : Answer A} {a b : A} → q ≡ accepted a → q ≡ accepted b → a ≡ b
same-accepted h g = cc

same-refused : {A B : Type 0} {q : Answer A} {n p m o : ℕ} → q ≡ refused n p → q ≡ refused m o → ◌≡◌ {A = Answer B} (refused n p) (refused m o)
same-refused {n = n} {p = p} {m = m} {o = o} h g = let a : n ≡ m = cc in let b : p ≡ o = cc in cc

module _ (room : ℕ) (places text : List ℕ) where
  -- two outcomes of the text's tokens
  same_outcome : {ts us : List Token} {y z : Answer Reading} → lex_text text room ≡ accepted ts → lex_text text room ≡ accepted us →
      Outcome (numbered 0 text ts) y → Outcome (numbered 0 text us) z → y ≡ z
  same_outcome {z = z} e g a b = one-outcome a (subst (λ (l : List Token). Outcome (numbered 0 text l) z) (same-accepted g e) b)

  -- the readings of two outcomes, with what is said of the one
  same-reading : {ts us : List Token} {R Q : Reading} (P : Reading → Type 0) → lex_text text room ≡ accepted ts → lex_text text room ≡ accepted us →
      Outcome (numbered 0 text ts) (accepted R) → Outcome (numbered 0 text us) (accepted Q) → P Q → P R
  same-reading P e g a b = subst P (same-accepted refl (same_outcome g e b a))

  pub one_answer : {y z : Answer Reading} → Answers room places text y → Answers room places text z → y ≡ z
  one_answer (rows₁₋₅ e) (rows₁₋₅ g) = same-refused e g
  one_answer (rows₁₋₅ e) (rows₆₋₇ g b) = unlike g e
  one_answer (rows₁₋₅ e) (row₈ g b) = unlike g e
  one_answer (rows₁₋₅ e) (fits g b f) = unlike g e
  one_answer (rows₆₋₇ e a) (rows₁₋₅ g) = unlike e g
  one_answer (rows₆₋₇ e a) (rows₆₋₇ g b) = same_outcome e g a b
  one_answer (rows₆₋₇ e a) (row₈ g b) = unlike refl (same_outcome g e b.outcome a)
  one_answer (rows₆₋₇ e a) (fits g b f) = unlike refl (same_outcome g e b a)
  one_answer (row₈ e a) (rows₁₋₅ g) = unlike e g
  one_answer (row₈ e a) (rows₆₋₇ g b) = unlike refl (same_outcome e g a.outcome b)
  one_answer (row₈ {k = k} e a) (row₈ {k = j} g b) =
      let s : Short places a.reading j = same-reading (λ (R : Reading). Short places R j) e g a.outcome b.outcome b.short in
      let l : (i : ℕ) → i < j → ¬ Short places a.reading i = same-reading (λ (R : Reading). (i : ℕ) → i < j → ¬ Short places R i) e g a.outcome b.outcome b.lowest in
      let p : ¬ (k < j) = λ h. l k h a.short in
      let q : ¬ (j < k) = λ h. a.lowest j h s in
      ap (refused 8) (omega (arith, p, q))
  one_answer (row₈ {k = k} e a) (fits g b f) = absurd (same-reading (λ (R : Reading). (i : ℕ) → ¬ Short places R i) e g a.outcome b f k a.short)
  one_answer (fits e a f) (rows₁₋₅ g) = unlike e g
  one_answer (fits e a f) (rows₆₋₇ g b) = unlike refl (same_outcome e g a b)
  one_answer (fits e a f) (row₈ {k = k} g b) = absurd (f k (same-reading (λ (R : Reading). Short places R k) e g a b.outcome b.short))
  one_answer (fits e a f) (fits g b h) = same_outcome e g a b
