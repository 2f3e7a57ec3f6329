-- The limited machine reads as the machine does, up to the first brace that opens a block too many. Assumes nothing.
use mathlib.Core.Path.{◌≡◌, refl, sym, ap, ◌∙◌, subst}
use mathlib.Core.Bool.{Bool, true, false, cond, false≢true}
use mathlib.Core.Option.{Option, some, none}
use mathlib.Core.List.{List, [], ◌∷◌, ◌++◌}
use Prim.Native.Nat.{ℕ, zero, suc, ◌+◌, ◌≤◌, ◌<◌}
use native.Mathlib.Omega.{arith}
use lib.ListN.{length, length-append}
use Rattle.tokens.specs.declared.TokenKind.{TokenKind}
use Rattle.tokens.specs.declared.TokenKind.TheVariants as K
use Rattle.tokens.specs.Kinds.{is_kind}
use Rattle.lexemes.specs.Lexemes.{Lexeme, lexeme, is_of, count_of}
use Rattle.lexemes.specs.Operands.{Class, only_true, only_false, target, count, is_operand}
use Rattle.lexemes.specs.Events.{Event, acted, named, given, opened, closed}
use Rattle.lexemes.proofs.Tests.{Mark, open_brace, close_brace, operand_not, other}
use Rattle.machine.specs.Machine.{Punctuation, p_comma, p_colon, kind-of, Symbol, target-out, Output, silent, out, Move, stop, go, move, Answer, puts, run, Can}
use Rattle.machine.specs.Depth.{Verdict, too_deep, verdict, room_after, within-room, limited-proceed, limited}
use Rattle.machine.proofs.Moves.{Step, marks, gives, flags_true, flags_false, counts, block-opens, try-opens, has-target, skips, names, closes, catches, finishes-try, finishes-catch, begins, ends_at, lists_first, lists_next, Legal, halts, steps, legal}
use Rattle.machine.proofs.Runs.{moves, stuck, blocked, moved, moved⁻}
use Rattle.machine.proofs.Complete.{Good, step_good, complete}

-- ---- braces and events: a move opens a block at a brace, and nowhere else

abbrev opening : Output → Bool
opening silent = false
opening (out (acted n)) = false
opening (out (named t)) = false
opening (out (given t)) = false
opening (out (opened p)) = true
opening (out closed) = false

abbrev closing : Output → Bool
closing silent = false
closing (out (acted n)) = false
closing (out (named t)) = false
closing (out (given t)) = false
closing (out (opened p)) = false
closing (out closed) = true

target-opens : (o : Option Lexeme) → false ≡ opening (target-out o)
target-opens none = refl
target-opens (some t) = refl

target_closes : (o : Option Lexeme) → false ≡ closing (target-out o)
target_closes none = refl
target_closes (some t) = refl

no_brace : (c : Class) (t : Lexeme) {k : TokenKind} → Mark k → is_operand c t ≡ true → is_of k t ≡ false
no_brace c (lexeme i k w) m h = operand_not c i k w m h

mark_open : (c : Punctuation) (k : TokenKind) → is_kind k (kind-of c) ≡ true → is_kind k K.OpenBrace ≡ false
mark_open p_comma k h = other k K.Comma K.OpenBrace h refl
mark_open p_colon k h = other k K.Colon K.OpenBrace h refl

mark_close : (c : Punctuation) (k : TokenKind) → is_kind k (kind-of c) ≡ true → is_kind k K.CloseBrace ≡ false
mark_close p_comma k h = other k K.Comma K.CloseBrace h refl
mark_close p_colon k h = other k K.Colon K.CloseBrace h refl

step-opens : {a : Symbol} {t : Lexeme} {α : List Symbol} {o : Output} → Step a t α o → is_of K.OpenBrace t ≡ opening o
step-opens (marks {c = c} {k = k} h) = mark_open c k h
step-opens (gives {c = c} {t = t} h) = no_brace c t open_brace h
step-opens (flags_true {t = t} h) = no_brace only_true t open_brace h
step-opens (flags_false {t = t} h) = no_brace only_false t open_brace h
step-opens (counts n {t = t} h) = no_brace (count n) t open_brace h
step-opens block-opens = refl
step-opens try-opens = refl
step-opens (has-target {t = t} h) = no_brace target t open_brace h
step-opens skips = refl
step-opens names = refl
step-opens closes = refl
step-opens (catches {o = o}) = target-opens o
step-opens finishes-try = refl
step-opens finishes-catch = refl
step-opens begins = refl
step-opens (ends_at n) = refl
step-opens (lists_first {c = c} {t = t} h) = no_brace c t open_brace h
step-opens lists_next = refl

step_closes : {a : Symbol} {t : Lexeme} {α : List Symbol} {o : Output} → Step a t α o → is_of K.CloseBrace t ≡ closing o
step_closes (marks {c = c} {k = k} h) = mark_close c k h
step_closes (gives {c = c} {t = t} h) = no_brace c t close_brace h
step_closes (flags_true {t = t} h) = no_brace only_true t close_brace h
step_closes (flags_false {t = t} h) = no_brace only_false t close_brace h
step_closes (counts n {t = t} h) = no_brace (count n) t close_brace h
step_closes block-opens = refl
step_closes try-opens = refl
step_closes (has-target {t = t} h) = no_brace target t close_brace h
step_closes skips = refl
step_closes names = refl
step_closes closes = refl
step_closes (catches {o = o}) = target_closes o
step_closes finishes-try = refl
step_closes finishes-catch = refl
step_closes begins = refl
step_closes (ends_at n) = refl
step_closes (lists_first {c = c} {t = t} h) = no_brace c t close_brace h
step_closes lists_next = refl

-- ---- the room left

abbrev one_if_lem : Bool → ℕ
one_if_lem b = cond b 1 0

count-cons : (k : TokenKind) (t : Lexeme) (ts : List Lexeme) → count_of k (t ∷ ts) ≡ count_of k ts + one_if_lem (is_of k t)
count-cons k t ts = by (is_of k t)
  where
    by : (b : Bool) → cond b (suc (count_of k ts)) (count_of k ts) ≡ count_of k ts + one_if_lem b
    by true = omega arith
    by false = omega arith

room_eq : (o : Output) (d d' : ℕ) → room_after o d ≡ some d' → d + one_if_lem (closing o) ≡ d' + one_if_lem (opening o)
room_eq silent d d' h = let e : d ≡ d' = cc in omega arith
room_eq (out (acted n)) d d' h = let e : d ≡ d' = cc in omega arith
room_eq (out (named t)) d d' h = let e : d ≡ d' = cc in omega arith
room_eq (out (given t)) d d' h = let e : d ≡ d' = cc in omega arith
room_eq (out (opened p)) zero d' h = absurd (let z : ◌≡◌ {A = ℕ} 0 1 = cc in omega arith)
room_eq (out (opened p)) (suc d) d' h = let e : d ≡ d' = cc in omega arith
room_eq (out closed) d d' h = let e : suc d ≡ d' = cc in omega arith

-- no room is left only where a block opens
no_room : (o : Output) (d : ℕ) → room_after o d ≡ none → (d ≡ 0) × (opening o ≡ true)
no_room silent d h = absurd (let z : ◌≡◌ {A = ℕ} 0 1 = cc in omega arith)
no_room (out (acted n)) d h = absurd (let z : ◌≡◌ {A = ℕ} 0 1 = cc in omega arith)
no_room (out (named t)) d h = absurd (let z : ◌≡◌ {A = ℕ} 0 1 = cc in omega arith)
no_room (out (given t)) d h = absurd (let z : ◌≡◌ {A = ℕ} 0 1 = cc in omega arith)
no_room (out (opened p)) zero h = (refl, refl)
no_room (out (opened p)) (suc d) h = absurd (let z : ◌≡◌ {A = ℕ} 0 1 = cc in omega arith)
no_room (out closed) d h = absurd (let z : ◌≡◌ {A = ℕ} 0 1 = cc in omega arith)

opening_not_closing : (o : Output) → opening o ≡ true → closing o ≡ false
opening_not_closing silent h = refl
opening_not_closing (out (acted n)) h = refl
opening_not_closing (out (named t)) h = refl
opening_not_closing (out (given t)) h = refl
opening_not_closing (out (opened p)) h = refl
opening_not_closing (out closed) h = absurd (false≢true h)

module _ {S : Type 0} (emit : Event → S → S) where
  -- a brace too many, in the machine's terms
  pub record Over (σ : List Symbol) (d : ℕ) (s : S) (ts : List Lexeme) (n : ℕ) : Type 0 where
    pub before : List Lexeme
    pub brace : Lexeme
    pub after : List Lexeme
    pub cut : ts ≡ before ++ (brace ∷ after)
    pub left : suc (length after) ≡ n
    pub opens : is_of K.OpenBrace brace ≡ true
    pub can : Can emit σ s (before ++ (brace ∷ []))
    pub full : count_of K.CloseBrace before + d ≤ count_of K.OpenBrace before

  -- up to n tokens before the end there is none
  abbrev pub None : List Symbol → ℕ → S → List Lexeme → ℕ → Type 0
  None σ d s ts n = (m : ℕ) → n < m → ¬ Over σ d s ts m

  pub data Judged (σ : List Symbol) (d : ℕ) (s : S) (ts : List Lexeme) : Verdict S → Type 0 where
    as_run : None σ d s ts 0 → Judged σ d s ts (verdict (run emit σ s ts))
    over : {n : ℕ} → Over σ d s ts n → None σ d s ts n → Judged σ d s ts (too_deep n)

  -- such a brace is the first token, or lies further on
  data Split (a : Symbol) (σ : List Symbol) (d : ℕ) (s : S) (t : Lexeme) (ts : List Lexeme) (n : ℕ) : Type 0 where
    here : is_of K.OpenBrace t ≡ true → d ≤ 0 → Can emit (a ∷ σ) s (t ∷ []) → Split a σ d s t ts n
    there : (b : List Lexeme) (u : Lexeme) (q : List Lexeme) → ts ≡ b ++ (u ∷ q) → suc (length q) ≡ n → is_of K.OpenBrace u ≡ true →
        Can emit (a ∷ σ) s (t ∷ b ++ (u ∷ [])) → count_of K.CloseBrace (t ∷ b) + d ≤ count_of K.OpenBrace (t ∷ b) → Split a σ d s t ts n

  split : {a : Symbol} {σ : List Symbol} {d : ℕ} {s : S} {t : Lexeme} {ts : List Lexeme} {n : ℕ} → Over (a ∷ σ) d s (t ∷ ts) n → Split a σ d s t ts n
  split {a = a} {σ = σ} {d = d} {s = s} {t = t} {ts = ts} {n = n} o = by_before o.before o.cut o.can o.full
    where
      by_before : (b : List Lexeme) → (t ∷ ts) ≡ b ++ (o.brace ∷ o.after) → Can emit (a ∷ σ) s (b ++ (o.brace ∷ [])) →
          count_of K.CloseBrace b + d ≤ count_of K.OpenBrace b → Split a σ d s t ts n
      by_before [] e c f =
          let p : o.brace ≡ t = cc in
          here (subst (λ (u : Lexeme). is_of K.OpenBrace u ≡ true) p o.opens) (omega arith) (subst (λ (u : Lexeme). Can emit (a ∷ σ) s (u ∷ [])) p c)
      by_before (u ∷ b) e c f =
          let p : u ≡ t = cc in
          let q : ts ≡ b ++ (o.brace ∷ o.after) = cc in
          there b o.brace o.after q o.left o.opens (subst (λ (v : Lexeme). Can emit (a ∷ σ) s (v ∷ b ++ (o.brace ∷ []))) p c)
          (subst (λ (v : Lexeme). count_of K.CloseBrace (v ∷ b) + d ≤ count_of K.OpenBrace (v ∷ b)) p f)

  split_blocked : {a : Symbol} {σ : List Symbol} {d : ℕ} {s : S} {t : Lexeme} {ts : List Lexeme} {n : ℕ} → move a t ≡ stop → Split a σ d s t ts n → ⊥
  split_blocked {a = a} {σ = σ} {s = s} {t = t} e (here h f c) = blocked emit a t σ s c.0 e c.1
  split_blocked {a = a} {σ = σ} {s = s} {t = t} e (there b u q k l h c f) = blocked emit a t σ s ((b ++ (u ∷ [])) ++ c.0) e c.1

  -- a move that leaves the room d'
  module _ (a : Symbol) (t : Lexeme) (α : List Symbol) (o : Output) (σ : List Symbol) (d d' : ℕ) (s : S) (ts : List Lexeme) (e : move a t ≡ go α o) (q : Step a t α o)
      (r : room_after o d ≡ some d') where
    balance : (b : List Lexeme) →
        (count_of K.CloseBrace (t ∷ b) + d + count_of K.OpenBrace b ≡ count_of K.CloseBrace b + d' + count_of K.OpenBrace (t ∷ b))
    balance b =
        omega (
          arith,
          room_eq o d d' r,
          count-cons K.CloseBrace t b,
          count-cons K.OpenBrace t b,
          ap one_if_lem (step-opens q),
          ap one_if_lem (step_closes q),
        )

    further : {n : ℕ} → Split a σ d s t ts n → Over (α ++ σ) d' (puts emit o s) ts n
    further (here h f c) =
        let p : opening o ≡ true = sym (step-opens q) ∙ h in
        absurd (omega (arith, room_eq o d d' r, ap one_if_lem p, ap one_if_lem (opening_not_closing o p)))
    further (there b u q' k l h c f) =
        record {
          before = b;
          brace = u;
          after = q';
          cut = k;
          left = l;
          opens = h;
          can = (c.0, moved⁻ emit a t σ s ((b ++ (u ∷ [])) ++ c.0) e c.1);
          full = omega (arith, balance b);
        }

    nearer : {n : ℕ} → Over (α ++ σ) d' (puts emit o s) ts n → Over (a ∷ σ) d s (t ∷ ts) n
    nearer v =
        record {
          before = t ∷ v.before;
          brace = v.brace;
          after = v.after;
          cut = ap (λ (l : List Lexeme). t ∷ l) v.cut;
          left = v.left;
          opens = v.opens;
          can = (v.can.0, moved emit a t σ s ((v.before ++ (v.brace ∷ [])) ++ v.can.0) e v.can.1);
          full = omega (arith, balance v.before, v.full);
        }

    pass : {z : Verdict S} → Judged (α ++ σ) d' (puts emit o s) ts z → Judged (a ∷ σ) d s (t ∷ ts) z
    pass (as_run n) =
        subst (λ (y : Answer S). Judged (a ∷ σ) d s (t ∷ ts) (verdict y)) (moves emit a t σ s ts e) (as_run (λ m h v. n m h (further (split v))))
    pass (over v n) = over (nearer v) (λ m h w. n m h (further (split w)))

  pub judge : (ts : List Lexeme) (σ : List Symbol) (d : ℕ) (s : S) → Good σ → Judged σ d s ts (limited emit σ d s ts)
  judge [] σ d s g = as_run (λ m h o. omega (arith, ap length o.cut, length-append o.before (o.brace ∷ o.after)))
  judge (t ∷ ts) [] d s g = elim g [ ]
  judge (t ∷ ts) (a ∷ σ) d s g = by_move (move a t) refl (legal a t) (λ α d' s'. judge ts (α ++ σ) d' s')
    where
      by-room : (α : List Symbol) (o : Output) → move a t ≡ go α o → Step a t α o → (r : Option ℕ) → room_after o d ≡ r →
          ((d' : ℕ) → Judged (α ++ σ) d' (puts emit o s) ts (limited emit (α ++ σ) d' (puts emit o s) ts)) →
          Judged (a ∷ σ) d s (t ∷ ts) (within-room emit r (λ d'. limited emit (α ++ σ) d' (puts emit o s) ts) (suc (length ts)))
      by-room α o e q none r f =
          let p = no_room o d r in
          let c = complete emit (step_good σ q g) (puts emit o s) in
          over
          (record {
            before = [];
            brace = t;
            after = ts;
            cut = refl;
            left = refl;
            opens = step-opens q ∙ p.1;
            can = (c.0, moved emit a t σ s c.0 e c.1);
            full = omega (arith, p.0);
          })
          (λ m h v. omega (arith, v.left, ap length v.cut, length-append v.before (v.brace ∷ v.after)))
      by-room α o e q (some d') r f = pass a t α o σ d d' s ts e q r (f d')

      by_move : (m : Move) → move a t ≡ m → Legal a t m →
          ((α : List Symbol) (d' : ℕ) (s' : S) → Good (α ++ σ) → Judged (α ++ σ) d' s' ts (limited emit (α ++ σ) d' s' ts)) →
          Judged (a ∷ σ) d s (t ∷ ts) (limited-proceed emit m d s (λ α d' s'. limited emit (α ++ σ) d' s' ts) (suc (length ts)))
      by_move stop e halts f =
          subst (λ (y : Answer S). Judged (a ∷ σ) d s (t ∷ ts) (verdict y)) (stuck emit a t σ s ts e) (as_run (λ m h v. split_blocked e (split v)))
      by_move (go α o) e (steps q) f = by-room α o e q (room_after o d) refl (λ d'. f α d' (puts emit o s) (step_good σ q g))
