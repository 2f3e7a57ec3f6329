-- The place of refusal 6: a run that stops at a token has read what some grammatical list begins with, and no grammatical list
-- has that token behind it. Assumes nothing.
use mathlib.Core.Path.{◌≡◌, refl, sym, ap, ◌∙◌, subst}
use mathlib.Core.List.{List, [], ◌∷◌, ◌++◌, append_assoc, append-nil}
use mathlib.Core.Logic.{◌⊎◌, inl, inr}
use Prim.Native.Nat.{ℕ, zero, suc, ◌+◌, ◌<◌, ◌≤◌}
use native.Mathlib.Omega.{arith}
use lib.ListN.{length, take, drop, length-append, take-append-drop}
use lib.Seq.{take-append-le, take_at, take-take}
use Rattle.lexemes.specs.Lexemes.{Lexeme}
use Rattle.lexemes.specs.Events.{Event}
use Rattle.machine.specs.Machine.{Answer, accepted, refused, Accepts, text, run, Can}
use Rattle.machine.proofs.Complete.{bottom}
use Rattle.machine.proofs.Stops.{stops, short}
use Rattle.grammar.specs.Grammar.{Items, Text}
use Rattle.grammar.specs.Reading.{Grammatical, reading_of}
use Rattle.grammar.specs.Refusals.{Begins, FirstBad, EndsEarly, NotGrammatical}
use Rattle.grammar.proofs.Forward.{text_runs}
use Rattle.grammar.proofs.Backward.{text_back}

-- a text has the reading of its tree
pub grammatical : {ts : List Lexeme} → (x : Items) × Text ts x → Grammatical ts
grammatical d = (reading_of d.0, record { tree = d.0; fits = d.1; told = refl })

-- what begins with the beginning of a grammatical list
begins_less : (p : List Lexeme) (j : ℕ) → Begins p → Begins (take j p)
begins_less p j b = (drop j p ++ b.0, subst (λ (l : List Lexeme). Grammatical l) (sym e) b.1)
  where
    e : take j p ++ (drop j p ++ b.0) ≡ p ++ b.0
    e = sym (append_assoc (take j p) (drop j p) b.0) ∙ ap (λ (l : List Lexeme). l ++ b.0) (take-append-drop j p)

-- the tokens up to one in the middle
pub up_to : (p : List Lexeme) (t : Lexeme) (q : List Lexeme) → take (suc (length p)) (p ++ (t ∷ q)) ≡ p ++ (t ∷ [])
up_to p t q = rw (← append_assoc p (t ∷ []) q) (take_at (p ++ (t ∷ [])) q (suc (length p)) (omega (arith, length-append p (t ∷ []))))

-- a token behind which nothing can follow is the place
bad-at : (p : List Lexeme) (t : Lexeme) (q : List Lexeme) → Begins p → ¬ Begins (p ++ (t ∷ [])) → FirstBad (p ++ (t ∷ q)) (length p)
bad-at p t q b n =
    record {
      inside = omega (arith, length-append p (t ∷ q));
      bad = λ c. n (subst (λ (l : List Lexeme). Begins l) (up_to p t q) c);
      least = λ j h. subst (λ (l : List Lexeme). Begins l) (sym (take-append-le (suc j) p (t ∷ q) h)) (begins_less p (suc j) b);
    }

module _ {S : Type 0} (emit : Event → S → S) where
  accepts-of : {z : Answer S} {s : S} → z ≡ accepted s → Accepts z
  accepts-of h = subst (λ (y : Answer S). Accepts y) (sym h) tt

  -- a text is grammatical if and only if the machine accepts it
  pub to-run : {ts : List Lexeme} (s : S) → Grammatical ts → Accepts (run emit text s ts)
  to-run s g = accepts-of (text_runs emit s g.1.fits)

  pub begins-of : (p : List Lexeme) (s : S) → Can emit text s p → Begins p
  begins-of p s c = (c.0, grammatical (text_back emit (p ++ c.0) s c.1))

  pub can_of : (p : List Lexeme) (s : S) → Begins p → Can emit text s p
  can_of p s b = (b.0, to-run s b.1)

  not_accepted : {z : Answer S} {n : ℕ} → z ≡ refused n → Accepts z → ⊥
  not_accepted h a = subst (λ (y : Answer S). Accepts y) h a

  pub first-bad : (ts : List Lexeme) (s : S) (n : ℕ) → run emit text s ts ≡ refused (suc n) → (k : ℕ) × (k + suc n ≡ length ts) × FirstBad ts k
  first-bad ts s n h =
      let r = stops emit ts text s n (bottom refl) h in
      let b : Begins r.before = begins-of r.before s r.can in
      let c : ¬ Begins (r.before ++ (r.at ∷ [])) = λ d. r.cannot (can_of (r.before ++ (r.at ∷ [])) s d) in
      let m : FirstBad (r.before ++ (r.at ∷ r.after)) (length r.before) = bad-at r.before r.at r.after b c in (
        length r.before,
        omega (arith, ap length r.cut, length-append r.before (r.at ∷ r.after), r.left),
        subst (λ (l : List Lexeme). FirstBad l (length r.before)) (sym r.cut) m,
      )

  pub ends_early : (ts : List Lexeme) (s : S) → run emit text s ts ≡ refused 0 → EndsEarly ts (length ts)
  ends_early ts s h = record { at-end = refl; begins = begins-of ts s (short emit ts text s (bottom refl) h); unread = λ g. not_accepted h (to-run s g) }

-- ---- every list that has no reading has a place

by-run : (ts : List Lexeme) (z : Answer (Unit {0})) → run (λ v s. s) text tt ts ≡ z → Grammatical ts ⊎ ((k : ℕ) × NotGrammatical ts k)
by-run ts (accepted s) h = inl (grammatical (text_back (λ v s. s) ts tt (subst (λ (y : Answer (Unit {0})). Accepts y) (sym h) tt)))
by-run ts (refused zero) h = inr (length ts, inr (ends_early (λ v s. s) ts tt h))
by-run ts (refused (suc n)) h = let m = first-bad (λ v s. s) ts tt n h in inr (m.0, inl m.2)

pub placed : (ts : List Lexeme) → Grammatical ts ⊎ ((k : ℕ) × NotGrammatical ts k)
placed ts = by-run ts (run (λ v s. s) text tt ts) refl

-- ---- the place is the only one

no_later : {ts : List Lexeme} {j k : ℕ} → FirstBad ts j → FirstBad ts k → ¬ (j < k)
no_later {j = j} a b h = a.bad (b.least j h)

pub one_place : {ts : List Lexeme} {j k : ℕ} → NotGrammatical ts j → NotGrammatical ts k → j ≡ k
one_place (inl a) (inl b) = omega (arith, no_later a b, no_later b a)
one_place {ts = ts} {j = j} (inl a) (inr b) = absurd (a.bad (begins_less ts (suc j) b.begins))
one_place {ts = ts} {k = k} (inr a) (inl b) = absurd (b.bad (begins_less ts (suc k) a.begins))
one_place (inr a) (inr b) = omega (arith, a.at-end, b.at-end)

-- what is not grammatical at some place has no reading
pub unread : {ts : List Lexeme} {k : ℕ} → NotGrammatical ts k → ¬ Grammatical ts
unread {ts = ts} {k = k} (inl a) g = a.bad (begins_less ts (suc k) ([], subst (λ (l : List Lexeme). Grammatical l) (sym (append-nil ts)) g))
unread (inr a) g = a.unread g

-- nothing is bad before what begins a grammatical list
not_before : {ts : List Lexeme} {j k : ℕ} → FirstBad ts j → Begins (take (suc k) ts) → ¬ (j ≤ k)
not_before {ts = ts} {j = j} {k = k} a b h =
    a.bad (subst (λ (l : List Lexeme). Begins l) (take-take (suc j) (suc k) ts (omega arith)) (begins_less (take (suc k) ts) (suc j) b))

pub bad_later : {ts : List Lexeme} {j k : ℕ} → NotGrammatical ts j → k < length ts → Begins (take (suc k) ts) → k < j
bad_later {ts = ts} {j = j} {k = k} (inl a) h b = omega (arith, not_before {ts = ts} {j = j} {k = k} a b)
bad_later (inr a) h b = omega (arith, a.at-end)
