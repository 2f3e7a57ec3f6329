-- Lists of tokens that are alike have readings and nets alike, and the same refusals. Assumes nothing.
use mathlib.Core.Path.{◌≡◌, refl, sym, ◌∙◌, subst}
use mathlib.Core.Bool.{cond}
use mathlib.Core.List.{List, [], ◌∷◌}
use mathlib.Core.Logic.{inl, inr, ◌↔◌}
use Prim.Native.Nat.{ℕ, zero, suc, ◌<◌}
use native.Mathlib.Omega.{arith}
use lib.ListN.{length, get_or}
use Rattle.answers.specs.Answers.{Answer, accepted, refused}
use Rattle.tokens.specs.declared.TokenKind.{TokenKind}
use Rattle.tokens.specs.declared.TokenKind.TheVariants as K
use Rattle.lexemes.specs.Lexemes.{Lexeme, lexeme, is_of, count_of}
use Rattle.grammar.specs.Reading.{Reading, reading_of, Reads, Grammatical}
use Rattle.grammar.specs.Nets.{Net, Nets}
use Rattle.grammar.specs.Refusals.{Begins, NotGrammatical, TooDeep, Outcome, row₆, row₇, reads, entries, Refusal₈}
use Rattle.grammar.proofs.Outcomes.{one-outcome}
use Rattle.unclosed.specs.Alike.{Each, none, next, Anywhere, Alike, same, quoted, ReadingAlike, AnswerAlike, refuse, accept}
use Rattle.unclosed.proofs.Each.{each_append, each_length, each_take}
use Rattle.unclosed.proofs.Trees.{text_too}
use Rattle.unclosed.proofs.Readings.{reading_alike, tree-nets}

-- ---- readings and nets

module _ {At : ℕ → ℕ → Type 0} {ts us : List Lexeme} (e : Each (Alike At) ts us) where
  pub read_alike : {R : Reading} → Reads ts R → (Q : Reading) × Reads us Q × ReadingAlike At R Q
  read_alike h =
      let (y, a, t) = text_too At h.fits e in
      (reading_of y, record { tree = y; fits = t; told = refl }, subst (λ (R : Reading). ReadingAlike At R (reading_of y)) h.told (reading_alike At a))

  pub grammatical_alike : Grammatical ts → Grammatical us
  grammatical_alike (R, h) = let (Q, g, a) = read_alike h in (Q, g)

  pub nets_alike : {l : List Net} → Nets ts l → Nets us l
  nets_alike h = let (y, a, t) = text_too At h.fits e in record { tree = y; fits = t; told = sym (tree-nets At a) ∙ h.told }

-- ---- 6 and 7

abbrev Tokens : List Lexeme → List Lexeme → Type 0
Tokens ts us = Each (Alike Anywhere) ts us

itself : (ts : List Lexeme) → Tokens ts ts
itself [] = none
itself (lexeme i k w ∷ ts) = next (same tt) (itself ts)

begins_alike : {ts us : List Lexeme} → Tokens ts us → Begins ts → Begins us
begins_alike e (q, g) = (q, grammatical_alike (each_append e (itself q)) g)

place_alike : {ts us : List Lexeme} {k : ℕ} → Tokens ts us → Tokens us ts → NotGrammatical ts k → NotGrammatical us k
place_alike {k = k} e f (inl b) =
    inl (record {
      inside = omega (arith, b.inside, each_length e);
      bad = λ g. b.bad (begins_alike (each_take (suc k) f) g);
      least = λ j h. begins_alike (each_take (suc j) e) (b.least j h);
    })
place_alike e f (inr b) = inr (record { at-end = b.at-end ∙ each_length e; begins = begins_alike e b.begins; unread = λ g. b.unread (grammatical_alike f g) })

is_alike : (k : TokenKind) {t u : Lexeme} → Alike Anywhere t u → is_of k t ≡ is_of k u
is_alike k (same p) = refl
is_alike k (quoted p) = refl

count_alike : (k : TokenKind) {ts us : List Lexeme} → Tokens ts us → count_of k ts ≡ count_of k us
count_alike k none = refl
count_alike k (next a e) = λ i. cond (is_alike k a i) (suc (count_alike k e i)) (count_alike k e i)

at_alike : (k : ℕ) (d : Lexeme) {ts us : List Lexeme} → Tokens ts us → is_of K.OpenBrace (get_or us k d) ≡ is_of K.OpenBrace (get_or ts k d)
at_alike k d none = refl
at_alike zero d (next a e) = sym (is_alike K.OpenBrace a)
at_alike (suc k) d (next a e) = at_alike k d e

deep_alike : {ts us : List Lexeme} {k : ℕ} → Tokens ts us → TooDeep ts k → TooDeep us k
deep_alike {k = k} e d =
    record {
      opens = at_alike k (lexeme k K.Unknown []) e ∙ d.opens;
      begins = begins_alike (each_take (suc k) e) d.begins;
      full = omega (arith, d.full, count_alike K.CloseBrace (each_take k e), count_alike K.OpenBrace (each_take k e));
    }

-- wherever they stand, and the other way round
loose : {At : ℕ → ℕ → Type 0} {ts us : List Lexeme} → Each (Alike At) ts us → Tokens ts us × Tokens us ts
loose none = (none, none)
loose (next (same p) e) = let (f, g) = loose e in (next (same tt) f, next (same tt) g)
loose (next (quoted p) e) = let (f, g) = loose e in (next (quoted tt) f, next (quoted tt) g)

-- ---- answers

pub entries_alike : {At : ℕ → ℕ → Type 0} {R Q : Reading} → ReadingAlike At R Q → entries R ≡ entries Q
entries_alike a = λ i. length (a.actions i) ∷ each_length a.operands i ∷ each_length a.levels i ∷ each_length a.labels i ∷ []

module _ {At : ℕ → ℕ → Type 0} {ts us : List Lexeme} (e : Each (Alike At) ts us) where
  pub refused_alike : {n k : ℕ} → Outcome ts (refused n k) → Outcome us (refused n k)
  refused_alike (row₆ r) =
      let (f, g) = loose e in
      row₆ (record { ungrammatical = place_alike f g r.ungrammatical; earlier = λ j h d. r.earlier j h (deep_alike g d) })
  refused_alike (row₇ r) =
      let (f, g) = loose e in
      row₇ (record { deep = deep_alike f r.deep; first = λ j h d. r.first j h (deep_alike g d); earlier = λ j h d. r.earlier j h (place_alike g f d) })

  pub accepted_alike : {R : Reading} → Outcome ts (accepted R) → (Q : Reading) × Outcome us (accepted Q) × ReadingAlike At R Q
  accepted_alike (reads r f) = let (Q, h, a) = read_alike e r in (Q, reads h (λ k d. f k (deep_alike (loose e).1 d)), a)

  pub answer_alike : {y z : Answer Reading} → Outcome ts y → Outcome us z → AnswerAlike At y z
  answer_alike {y = refused n k} o p = subst (AnswerAlike At (refused n k)) (one-outcome (refused_alike o) p) refuse
  answer_alike {y = accepted R} o p = let (Q, q, a) = accepted_alike o in subst (AnswerAlike At (accepted R)) (one-outcome q p) (accept a)

  pub short_alike : {places : List ℕ} {k : ℕ} → Refusal₈ places ts k → Refusal₈ places us k
  short_alike {places} {k} r =
      let (Q, q, a) = accepted_alike r.outcome in
      let n = entries_alike a in
      record {
        reading = Q;
        outcome = q;
        short = subst (λ (l : List ℕ). get_or places k 0 < get_or l k 0) n r.short;
        lowest = λ j h s. r.lowest j h (subst (λ (l : List ℕ). get_or places j 0 < get_or l j 0) (sym n) s);
      }

pub accepted_both : {At : ℕ → ℕ → Type 0} {ts us : List Lexeme} → Each (Alike At) ts us
    → ((R : Reading) × Outcome ts (accepted R)) ↔ ((R : Reading) × Outcome us (accepted R))
accepted_both e =
    (λ z. let (Q, q, a) = accepted_alike e z.1 in (Q, q), λ z. let (Q, q, a) = accepted_alike (loose e).1 z.1 in (Q, q))
