-- What the limited machine's verdict means in the grammar's terms: every list of tokens has an outcome, and only one.
-- Assumes nothing.
use mathlib.Core.Path.{◌≡◌, refl, sym, ap, subst}
use mathlib.Core.Bool.{true, false≢true}
use mathlib.Core.List.{List, [], ◌∷◌, ◌++◌}
use mathlib.Core.Logic.{inl, inr}
use Prim.Native.Nat.{ℕ, zero, suc, ◌+◌, ◌-◌, ◌<◌, ◌≤◌}
use native.Mathlib.Omega.{arith}
use lib.ListN.{length, take, drop, get_or, length-append, length-drop, get_or-eq_default}
use lib.Seq.{take_at, take-suc, get_or_at, split_at}
use Rattle.answers.specs.Answers.{Answer, accepted, refused}
use Rattle.tokens.specs.declared.TokenKind.TheVariants as K
use Rattle.lexemes.specs.Lexemes.{Lexeme, lexeme, is_of, count_of}
use Rattle.lexemes.specs.Events.{Event}
use Rattle.machine.specs.Machine.{Accepts, text, run}
use Rattle.machine.specs.Machine as M
use Rattle.machine.specs.Depth.{Verdict, read, fault, too_deep, verdict, limited}
use Rattle.machine.proofs.Complete.{bottom}
use Rattle.machine.proofs.Depth.{Over, Judged, as_run, over, judge}
use Rattle.grammar.specs.Grammar.{Items, Text}
use Rattle.grammar.specs.Reading.{Reading, reading_of}
use Rattle.grammar.specs.Refusals.{Begins, NotGrammatical, TooDeep, limit, Outcome, row₆, row₇, reads}
use Rattle.grammar.proofs.Events.{emits}
use Rattle.grammar.proofs.Forward.{text_runs}
use Rattle.grammar.proofs.Backward.{text_back}
use Rattle.grammar.proofs.Place.{begins-of, can_of, up_to, first-bad, ends_early, one_place, unread, bad_later}
use Rattle.grammar.proofs.Unique.{one_told}

-- a brace too many stands inside
deep-inside : {ts : List Lexeme} {k : ℕ} → TooDeep ts k → k < length ts
deep-inside {ts = ts} {k = k} p = omega (arith, outside)
  where
    outside : ¬ (length ts ≤ k)
    outside h = false≢true (subst (λ (t : Lexeme). is_of K.OpenBrace t ≡ true) (get_or-eq_default ts (lexeme k K.Unknown []) h) p.opens)

-- a brace too deep comes before a place that is not grammatical
deep-first : {ts : List Lexeme} {j k : ℕ} → NotGrammatical ts j → TooDeep ts k → k < j
deep-first b p = bad_later b (deep-inside p) p.begins

module _ {S : Type 0} (emit : Event → S → S) where
  deep_of : {s : S} {ts : List Lexeme} {n : ℕ} (o : Over emit text limit s ts n) → TooDeep ts (length o.before)
  deep_of {s = s} o = subst (λ (l : List Lexeme). TooDeep l (length o.before)) (sym o.cut) there
    where
      there : TooDeep (o.before ++ (o.brace ∷ o.after)) (length o.before)
      there =
          record {
            opens = subst (λ (t : Lexeme). is_of K.OpenBrace t ≡ true) (sym (get_or_at o.before o.brace o.after (lexeme (length o.before) K.Unknown []) (length o.before) refl)) o.opens;
            begins = subst (λ (l : List Lexeme). Begins l) (sym (up_to o.before o.brace o.after)) (begins-of emit (o.before ++ (o.brace ∷ [])) s o.can);
            full = subst (λ (l : List Lexeme). count_of K.CloseBrace l + limit ≤ count_of K.OpenBrace l) (sym (take_at o.before (o.brace ∷ o.after) (length o.before) refl)) o.full;
          }

  over_of : (s : S) {ts : List Lexeme} {k : ℕ} → TooDeep ts k → Over emit text limit s ts (length ts - k)
  over_of s {ts = ts} {k = k} p =
      record {
        before = take k ts;
        brace = get_or ts k (lexeme k K.Unknown []);
        after = drop (suc k) ts;
        cut = split_at ts k (lexeme k K.Unknown []) (deep-inside p);
        left = omega (arith, length-drop (suc k) ts, deep-inside p);
        opens = p.opens;
        can = can_of emit (take k ts ++ (get_or ts k (lexeme k K.Unknown []) ∷ [])) s
            (subst (λ (l : List Lexeme). Begins l) (take-suc ts k (lexeme k K.Unknown []) (deep-inside p)) p.begins);
        full = p.full;
      }

  over_length : {s : S} {ts : List Lexeme} {n : ℕ} (o : Over emit text limit s ts n) → length o.before + n ≡ length ts
  over_length o = omega (arith, o.left, ap length o.cut, length-append o.before (o.brace ∷ o.after))

  -- what a verdict means, with n tokens left
  pub data Means (ts : List Lexeme) (s : S) : Verdict S → Type 0 where
    is_read : {x : Items} → Text ts x → Outcome ts (accepted (reading_of x)) → Means ts s (read (emits emit x s))
    not_grammatical : {n : ℕ} (k : ℕ) → k + n ≡ length ts → Outcome ts (refused 6 k) → Means ts s (fault n)
    opens_too_deep : {n : ℕ} (k : ℕ) → k + n ≡ length ts → Outcome ts (refused 7 k) → Means ts s (too_deep n)

  -- where no block opens too deep
  by_answer : (ts : List Lexeme) (s : S) → ((k : ℕ) → ¬ TooDeep ts k) → (z : M.Answer S) → run emit text s ts ≡ z → Means ts s (verdict z)
  by_answer ts s f (M.accepted z) h =
      let g = text_back emit ts s (subst (λ (y : M.Answer S). Accepts y) (sym h) tt) in
      let e : emits emit g.0 s ≡ z = cc (text_runs emit s g.1) in
      subst (λ (y : S). Means ts s (read y)) e (is_read g.1 (reads (record { tree = g.0; fits = g.1; told = refl }) f))
  by_answer ts s f (M.refused zero) h =
      not_grammatical {n = 0} (length ts) (omega arith) (row₆ (record { ungrammatical = inr (ends_early emit ts s h); earlier = λ j _. f j }))
  by_answer ts s f (M.refused (suc n)) h =
      let m = first-bad emit ts s n h in
      not_grammatical m.0 m.1 (row₆ (record { ungrammatical = inl m.2; earlier = λ j _. f j }))

  by-verdict : (ts : List Lexeme) (s : S) {v : Verdict S} → Judged emit text limit s ts v → Means ts s v
  by-verdict ts s (as_run n) = by_answer ts s (λ k p. n (length ts - k) (omega (arith, deep-inside p)) (over_of s p)) (run emit text s ts) refl
  by-verdict ts s (over {n = m} o n) =
      opens_too_deep {n = m} (length o.before) (over_length o)
      (row₇ (record {
        deep = deep_of o;
        first = λ j h p. n (length ts - j) (omega (arith, deep-inside p, over_length o)) (over_of s p);
        earlier = λ j h b. omega (arith, deep-first b (deep_of o));
      }))

  pub meaning : (ts : List Lexeme) (s : S) → Means ts s (limited emit text limit s ts)
  meaning ts s = by-verdict ts s (judge emit ts text limit s (bottom refl))

-- ---- every list of tokens has an outcome

outcome-of : {S : Type 0} {emit : Event → S → S} {ts : List Lexeme} {s : S} {v : Verdict S} → Means emit ts s v → (z : Answer Reading) × Outcome ts z
outcome-of (is_read {x = x} d o) = (accepted (reading_of x), o)
outcome-of (not_grammatical k e o) = (refused 6 k, o)
outcome-of (opens_too_deep k e o) = (refused 7 k, o)

-- a machine that emits nothing will do
pub outcome : (ts : List Lexeme) → (z : Answer Reading) × Outcome ts z
outcome ts = outcome-of (meaning {S = Unit {0}} (λ v s. s) ts tt)

-- ---- and only one

pub one-outcome : {ts : List Lexeme} {y z : Answer Reading} → Outcome ts y → Outcome ts z → y ≡ z
one-outcome (row₆ a) (row₆ b) = ap (refused 6) (one_place a.ungrammatical b.ungrammatical)
one-outcome (row₆ a) (row₇ {k = k} b) = absurd (a.earlier k (deep-first a.ungrammatical b.deep) b.deep)
one-outcome (row₆ a) (reads {R = R} r f) = absurd (unread a.ungrammatical (R, r))
one-outcome (row₇ {k = k} a) (row₆ b) = absurd (b.earlier k (deep-first b.ungrammatical a.deep) a.deep)
one-outcome (row₇ {k = j} a) (row₇ {k = k} b) =
    let p : ¬ (j < k) = λ h. b.first j h a.deep in
    let q : ¬ (k < j) = λ h. a.first k h b.deep in
    ap (refused 7) (omega (arith, p, q))
one-outcome (row₇ {k = k} a) (reads r f) = absurd (f k a.deep)
one-outcome (reads {R = R} r f) (row₆ b) = absurd (unread b.ungrammatical (R, r))
one-outcome (reads r f) (row₇ {k = k} b) = absurd (f k b.deep)
one-outcome (reads r f) (reads r' f') = ap accepted (one_told r r')
