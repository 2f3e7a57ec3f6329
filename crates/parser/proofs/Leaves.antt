-- The readers outside the cycle: the end of an action, labels, targets, newlines, handlers. Assumes nothing.
use mathlib.Core.Path.{◌≡◌, refl, sym, ◌∙◌, subst}
use mathlib.Core.Bool.{Bool, true, false}
use mathlib.Core.List.{List, [], ◌∷◌}
use mathlib.Core.Option as M
use mathlib.Core.Option.{none, some}
use Prim.Native.Nat.{ℕ, ◌+◌, ◌≤◌, ◌<◌}
use native.Mathlib.Omega.{arith}
use lib.Dec.{eqb, ltb}
use lib.ListN.{length, get_or, set}
use borrow.Author.Tests.{ltb-true, ltb-false, eq-eqb, ne_eqb}
use Rattle.std.specs.Prelude.{Result, Ok, Err, Some, None}
use Rattle.tokens.specs.declared.TokenKind.{TokenKind}
use Rattle.tokens.specs.declared.TokenKind.TheVariants as K
use Rattle.tokens.specs.Kinds.{code_of, is_kind}
use Rattle.tokens.specs.Tokens.{token_of, raw_text}
use Rattle.lexemes.specs.Lexemes.{Lexeme, lexeme}
use Rattle.lexemes.specs.Operands.{is_operand}
use Rattle.lexemes.specs.Operands as G
use Rattle.lexemes.specs.Events.{try, catch, finally, named, opened}
use Rattle.lexemes.proofs.Tests.{kind-is, operand_not, open_brace}
use Rattle.machine.specs.Machine.{Nesting, inner, Handlers, no_handlers, after_try, after-catch, p_colon, Symbol, mark, opens, targets, level, item, ended, silent, out, go, move, target-out, puts}
use Rattle.operands.specs.declared.At.{At}
use Rattle.operands.specs.declared.Unread.{Unread}
use Rattle.operands.specs.declared.Unread.TheVariants.{Bad, Deep}
use Rattle.classes.specs.declared.Class.TheVariants as C
use Rattle.classes.specs.Lexemes.{lexeme_of, kind_at, class_at, fits_at}
use Rattle.events.specs.Log.{log_word}
use Rattle.operands.specs.Log.{Log, log, emit, passed, logged}
use Rattle.operands.specs.Contract.{judge, outcome, Fine, Ahead}
use Rattle.classes.proofs.OneToken.{kind-inside, kind_past, fits-inside, fits-there, kind-told, kind-untold}
use Rattle.operands.proofs.Places.{at-move, at-step, at-stop, at-end, past_same}
use Rattle.operands.proofs.Runs.{passed-fine, passed_on, logged-fine, logged_on, here, further_on, kind-there, mark_ok, mark-bad}
use Rattle.parser.specs.declared.Handler.TheVariants as H
use Rattle.parser.specs.Parsing.{Forward, EndRead, ColonRead, LabelRead, NewlinesRead, HandlerRead, TargetRead}

-- the place of the kind of the token there
abbrev kind : List ℕ → ℕ → ℕ
kind s at = (code_of (token_of (get_or s at 0)).kind).place

pub kind-known : (s : List ℕ) (at : ℕ) (k : Bool) (n : ℕ) → k ≡ eqb (kind_at s at) n → k ≡ true → n < 99 → (at < length s) × (kind s at ≡ n)
kind-known s at k n e z l = let i = kind-there s at n (kind-told e z) l in (i, sym (kind-inside s at i) ∙ kind-told e z)

kind-not : (s : List ℕ) (at n : ℕ) → at < length s → (kind_at s at ≡ n → ⊥) → eqb (kind s at) n ≡ false
kind-not s at n i z = ne_eqb (kind s at) n (λ y. z (kind-inside s at i ∙ y))

pub kind_other : (s : List ℕ) (at : ℕ) (k : Bool) (n : ℕ) → at < length s → k ≡ eqb (kind_at s at) n → k ≡ false → eqb (kind s at) n ≡ false
kind_other s at k n i e z = kind-not s at n i (kind-untold e z)

-- ---- the end of an action

pub end_ok : (text s : List ℕ) (c d : At) (k : Bool) → Fine text s c → k ≡ eqb (kind_at s c.at) 0 → k ≡ true → d ≡ passed c → EndRead text s c (Ok d)
unfolding outcome Ahead
end_ok text s c d k f e z q =
    let i = kind-known s c.at k 0 e z (omega arith) in
    let m = i.1 in
    rw q (record {
      with_log = λ a. record {
        says = λ x σ n. at-step text s c.at (level x (ended no_handlers)) (level x (item no_handlers) ∷ []) σ silent n (log a c) i.0 (rw m);
        ahead = passed_on text s c f i.0;
      };
    })

pub end-bad : (text s : List ℕ) (c : At) (k : Bool) → Fine text s c → c.at < length s → k ≡ eqb (kind_at s c.at) 0 → k ≡ false → EndRead text s c (Err (Bad c.at))
unfolding outcome Ahead
end-bad text s c k f i e z =
    let m = kind_other s c.at k 0 i e z in
    record { with_log = λ a. record { says = λ x σ n. at-stop text s c.at (level x (ended no_handlers)) σ n (log a c) i (rw m); ahead = f.inside } }

pub end_past : (text s : List ℕ) (c : At) → Fine text s c → length s ≤ c.at → EndRead text s c (Ok c)
unfolding outcome Ahead
end_past text s c f i =
    record { with_log = λ a. record { says = λ x σ n. past_same text s c.at x (ended no_handlers) (item no_handlers) σ n (log a c) i; ahead = here text s c f } }

-- ---- labels

pub colon_ok : (text s : List ℕ) (c d : At) (k : Bool) → Fine text s c → k ≡ eqb (kind_at s c.at) 8 → k ≡ true → d ≡ passed c → ColonRead text s c (Ok d)
colon_ok text s c d k f e z q = mark_ok p_colon text s c d f (kind-told e z) (omega arith) q

pub colon_bad : (text s : List ℕ) (c : At) (k : Bool) → Fine text s c → k ≡ eqb (kind_at s c.at) 8 → k ≡ false → ColonRead text s c (Err (Bad c.at))
colon_bad text s c k f e z = mark-bad p_colon text s c f (kind-untold e z)

pub forward_on : (text s : List ℕ) (c d : At) (r : Result At Unread) → c.at < d.at → Ahead text s d r → Forward c r
unfolding Ahead Forward
forward_on text s c d (Ok q) e o = omega (arith, o.from, e)
forward_on text s c d (Err (Bad k)) e o = tt
forward_on text s c d (Err (Deep k)) e o = tt

pub label-fine : (text s : List ℕ) (c d : At) → Fine text s c → kind_at s c.at ≡ 7 → d ≡ logged c → Fine text s d
label-fine text s c d f e q = rw q (logged-fine text s c f (kind-there s c.at 7 e (omega arith)))

label-move : (x : Nesting) (i : ℕ) (k : TokenKind) (w : List ℕ) → is_kind k K.Identifier ≡ true →
    move (level x (item no_handlers)) (lexeme i k w) ≡ go (mark p_colon ∷ level x (item no_handlers) ∷ []) (out (named (lexeme i k w)))
label-move x i k w h = let e = kind-is k K.Identifier h refl in rw e

pub label_ok : (text s a b : List ℕ) (c d : At) (r : Result At Unread) → Fine text s c → kind_at s c.at ≡ 7 → b ≡ set a c.events (log_word 1 c.at) → d ≡ logged c → ColonRead text s d r →
    LabelRead text s a b c r
label_ok text s a b c d r f e p q v =
    let i = kind-there s c.at 7 e (omega arith) in
    let k : kind s c.at ≡ 7 = sym (kind-inside s c.at i) ∙ e in
    let m : is_kind (token_of (get_or s c.at 0)).kind K.Identifier ≡ true = rw k in
    let v' : ColonRead text s (logged c) r = subst (λ (y : At). ColonRead text s y r) q v in
    rw p (record {
      reads = record {
        says = λ x σ n.
            at-step text s c.at (level x (item no_handlers)) (mark p_colon ∷ level x (item no_handlers) ∷ []) σ (out (named (lexeme_of text c.at (get_or s c.at 0)))) n (log a c) i
            (label-move x c.at (token_of (get_or s c.at 0)).kind (raw_text text (token_of (get_or s c.at 0))) m)
            ∙ (v'.with_log (set a c.events (log_word 1 c.at))).says x (level x (item no_handlers) ∷ σ) n;
        ahead = further_on text s c (logged c) r (logged_on text s c f i) (v'.with_log []).ahead;
      };
      forward = forward_on text s c (logged c) r (omega arith) (v'.with_log []).ahead;
    })

-- ---- a Try's target

pub target-some : (text s : List ℕ) (c : At) (ok : Bool) → Fine text s c → ok ≡ fits_at C.Target text s c.at → ok ≡ true → TargetRead text s c (Some c.at)
unfolding class_at
target-some text s c ok f e y =
    let i = fits-there C.Target text s c.at (sym e ∙ y) in
    let t = token_of (get_or s c.at 0) in
    let k : is_operand G.target (lexeme_of text c.at (get_or s c.at 0)) ≡ true = sym (fits-inside C.Target text s c.at i) ∙ sym e ∙ y in
    let l : is_kind t.kind K.OpenBrace ≡ false = operand_not G.target c.at t.kind (raw_text text t) open_brace k in
    record {
      says = λ x σ n L.
          at-step text s c.at (targets x) (opens try ∷ level x (ended (after_try (some (lexeme_of text c.at (get_or s c.at 0))))) ∷ []) σ silent n L i (rw l (rw k));
      fine = passed-fine text s c f i;
      before = omega arith;
    }

pub target_none : (text s : List ℕ) (c : At) (ok : Bool) → Fine text s c → ok ≡ fits_at C.Target text s c.at → ok ≡ false → TargetRead text s c None
unfolding class_at
target_none text s c ok f e y = record { says = λ x σ n L. by (ltb c.at (length s)) refl x σ n L; fine = f; before = tt }
  where
    by_open : c.at < length s → is_operand G.target (lexeme_of text c.at (get_or s c.at 0)) ≡ false → (b : Bool) → is_kind (token_of (get_or s c.at 0)).kind K.OpenBrace ≡ b →
        (x : Nesting) (σ : List Symbol) (n : ℕ) (L : Log) →
        judge text s (targets x ∷ σ) n L c.at ≡ judge text s (opens try ∷ level x (ended (after_try none)) ∷ σ) n L c.at
    by_open i k true q x σ n L =
        at-step text s c.at (targets x) (level inner (item no_handlers) ∷ level x (ended (after_try none)) ∷ []) σ (out (opened try)) n L i (rw q)
        ∙ sym (at-step text s c.at (opens try) (level inner (item no_handlers) ∷ []) (level x (ended (after_try none)) ∷ σ) (out (opened try)) n L i (rw q))
    by_open i k false q x σ n L =
        at-stop text s c.at (targets x) σ n L i (rw q (rw k)) ∙ sym (at-stop text s c.at (opens try) (level x (ended (after_try none)) ∷ σ) n L i (rw q))

    by : (b : Bool) → ltb c.at (length s) ≡ b → (x : Nesting) (σ : List Symbol) (n : ℕ) (L : Log) →
        judge text s (targets x ∷ σ) n L c.at ≡ judge text s (opens try ∷ level x (ended (after_try none)) ∷ σ) n L c.at
    by true q x σ n L =
        let i = ltb-true c.at (length s) q in
        by_open i (sym (fits-inside C.Target text s c.at i) ∙ sym e ∙ y) (is_kind (token_of (get_or s c.at 0)).kind K.OpenBrace) refl x σ n L
    by false q x σ n L =
        let i = ltb-false c.at (length s) q in
        at-end text s c.at (targets x) σ n L i refl ∙ sym (at-end text s c.at (opens try) (level x (ended (after_try none)) ∷ σ) n L i refl)

-- ---- newlines

pub record Skipped (text s : List ℕ) (at p : ℕ) : Type 0 where
  pub says : (e : Nesting) (h : Handlers) (σ : List Symbol) (d : ℕ) (L : Log) → judge text s (level e (item h) ∷ σ) d L at ≡ judge text s (level e (item h) ∷ σ) d L p
  pub from : at ≤ p
  pub to : p ≤ length s

pub skip_start : (text s : List ℕ) (at : ℕ) → at ≤ length s → Skipped text s at at
skip_start text s at h = record { says = λ e l σ n L. refl; from = omega arith; to = h }

pub skip_next : (text s : List ℕ) (at p : ℕ) (k : Bool) → Skipped text s at p → k ≡ eqb (kind_at s p) 0 → k ≡ true → Skipped text s at (p + 1)
skip_next text s at p k v e z =
    let i = kind-known s p k 0 e z (omega arith) in
    let l = i.0 in
    let q = i.1 in
    record {
      says = λ x h σ n L. v.says x h σ n L ∙ at-step text s p (level x (item h)) (level x (item h) ∷ []) σ silent n L l (rw q);
      from = omega (arith, v.from);
      to = omega arith;
    }

pub skip_ends : (text s : List ℕ) (at p : ℕ) (k : Bool) → Skipped text s at p → k ≡ eqb (kind_at s p) 0 → k ≡ false → NewlinesRead text s at p
skip_ends text s at p k v e z = record { says = v.says; from = v.from; to = v.to; stops = kind-untold e z }

pub skip_over : (text s : List ℕ) (at p : ℕ) → Skipped text s at p → length s ≤ p → NewlinesRead text s at (length s)
skip_over text s at p v h =
    let e : p ≡ length s = omega (arith, v.to) in
    let w : Skipped text s at (length s) = subst (λ n. Skipped text s at n) e v in
    record { says = w.says; from = w.from; to = w.to; stops = λ y. absurd (omega (arith, kind_past s (length s) (omega arith), y)) }

-- ---- handlers

to_item : (text s : List ℕ) (at q : ℕ) (e : Nesting) (h : Handlers) (σ : List Symbol) (n : ℕ) (L : Log) → kind_at s at ≡ 0 → NewlinesRead text s (at + 1) q →
    judge text s (level e (ended h) ∷ σ) n L at ≡ judge text s (level e (item h) ∷ σ) n L q
to_item text s at q e h σ n L z v =
    let i = kind-known s at true 0 (sym (eq-eqb (kind_at s at) 0 z)) refl (omega arith) in
    let k = i.1 in
    at-step text s at (level e (ended h)) (level e (item h) ∷ []) σ silent n L i.0 (rw k) ∙ v.says e h σ n L

item_move : (e : Nesting) (h : Handlers) (i : ℕ) (k : TokenKind) (w : List ℕ) → is_kind k K.Newline ≡ false → is_kind k K.Catch ≡ false → is_kind k K.Finally ≡ false →
    move (level e (item h)) (lexeme i k w) ≡ move (level e (item no_handlers)) (lexeme i k w)
item_move e h i k w a b c = rw a (rw b (rw c))

item_no_handlers : (text s : List ℕ) (q : ℕ) (e : Nesting) (h : Handlers) (σ : List Symbol) (n : ℕ) (L : Log) → (kind_at s q ≡ 0 → ⊥) → (kind_at s q ≡ 16 → ⊥) → (kind_at s q ≡ 17 → ⊥) →
    judge text s (level e (item h) ∷ σ) n L q ≡ judge text s (level e (item no_handlers) ∷ σ) n L q
item_no_handlers text s q e h σ n L a b c = by (ltb q (length s)) refl
  where
    by : (t : Bool) → ltb q (length s) ≡ t → judge text s (level e (item h) ∷ σ) n L q ≡ judge text s (level e (item no_handlers) ∷ σ) n L q
    by true z =
        let i = ltb-true q (length s) z in
        let t = token_of (get_or s q 0) in
        let m =
        item_move e h q t.kind (raw_text text t) (kind-not s q 0 i a) (kind-not s q 16 i b) (kind-not s q 17 i c) in
        at-move text s q (level e (item h)) σ n L i ∙ rw m (sym (at-move text s q (level e (item no_handlers)) σ n L i))
    by false z = past_same text s q e (item h) (item no_handlers) σ n L (ltb-false q (length s) z)

pub handler_not : (text s : List ℕ) (c : At) (k : Bool) → k ≡ eqb (kind_at s c.at) 0 → k ≡ false → HandlerRead text s c H.NoNewline
unfolding HandlerRead
handler_not text s c k e z = record { says = λ h x σ n L. by (ltb c.at (length s)) refl h x σ n L }
  where
    by : (t : Bool) → ltb c.at (length s) ≡ t → (h : Handlers) (x : Nesting) (σ : List Symbol) (n : ℕ) (L : Log) →
        judge text s (level x (ended h) ∷ σ) n L c.at ≡ judge text s (level x (ended no_handlers) ∷ σ) n L c.at
    by true q h x σ n L =
        let i = ltb-true c.at (length s) q in
        let d = kind_other s c.at k 0 i e z in
        at-stop text s c.at (level x (ended h)) σ n L i (rw d) ∙ sym (at-stop text s c.at (level x (ended no_handlers)) σ n L i (rw d))
    by false q h x σ n L = past_same text s c.at x (ended h) (ended no_handlers) σ n L (ltb-false c.at (length s) q)

pub newline-inside : (s : List ℕ) (at : ℕ) (k : Bool) → k ≡ eqb (kind_at s at) 0 → k ≡ true → at + 1 ≤ length s
newline-inside s at k e z = let i = kind-there s at 0 (kind-told e z) (omega arith) in omega arith

pub handler_item : (text s : List ℕ) (c : At) (k : Bool) (q : ℕ) (m l : Bool) → k ≡ eqb (kind_at s c.at) 0 → k ≡ true → NewlinesRead text s (c.at + 1) q → m ≡ eqb (kind_at s q) 16 → m ≡ false → l ≡ eqb (kind_at s q) 17 → l ≡ false → HandlerRead text s c (H.Item q)
unfolding HandlerRead
handler_item text s c k q m l e z v f a g b =
    record {
      says = λ h x σ n L.
          to_item text s c.at q x h σ n L (kind-told e z) v ∙ item_no_handlers text s q x h σ n L v.stops (kind-untold f a) (kind-untold g b);
      from = omega (arith, v.from);
      to = v.to;
    }

catch_goes : (text s : List ℕ) (q : ℕ) (o : M.Option Lexeme) (e : Nesting) (σ : List Symbol) (n : ℕ) (L : Log) → q < length s → kind s q ≡ 16 →
    judge text s (level e (item (after_try o)) ∷ σ) n L q ≡ judge text s (opens catch ∷ level e (ended after-catch) ∷ σ) n (puts emit (target-out o) L) (q + 1)
catch_goes text s q none e σ n L i k = at-step text s q (level e (item (after_try none))) (opens catch ∷ level e (ended after-catch) ∷ []) σ silent n L i (rw k)
catch_goes text s q (some t) e σ n L i k =
    at-step text s q (level e (item (after_try (some t)))) (opens catch ∷ level e (ended after-catch) ∷ []) σ (target-out (some t)) n L i (rw k)

pub handler_catch : (text s : List ℕ) (c : At) (k : Bool) (q : ℕ) (m : Bool) → k ≡ eqb (kind_at s c.at) 0 → k ≡ true → NewlinesRead text s (c.at + 1) q → m ≡ eqb (kind_at s q) 16 → m ≡ true → HandlerRead text s c (H.Catch q)
unfolding HandlerRead
handler_catch text s c k q m e z v f a =
    let i = kind-known s q m 16 f a (omega arith) in
    let l = i.0 in
    let y = i.1 in
    record {
      says = λ o x σ n L. to_item text s c.at q x (after_try o) σ n L (kind-told e z) v ∙ catch_goes text s q o x σ n L l y;
      again = λ x σ n L. to_item text s c.at q x after-catch σ n L (kind-told e z) v ∙ at-stop text s q (level x (item after-catch)) σ n L l (rw y);
      from = omega (arith, v.from);
      to = l;
    }

pub handler_finally : (text s : List ℕ) (c : At) (k : Bool) (q : ℕ) (m : Bool) → k ≡ eqb (kind_at s c.at) 0 → k ≡ true → NewlinesRead text s (c.at + 1) q → m ≡ eqb (kind_at s q) 17 → m ≡ true → HandlerRead text s c (H.Finally q)
unfolding HandlerRead
handler_finally text s c k q m e z v f a =
    let i = kind-known s q m 17 f a (omega arith) in
    let l = i.0 in
    let y = i.1 in
    record {
      says-try = λ o x σ n L.
          to_item text s c.at q x (after_try o) σ n L (kind-told e z) v ∙ at-step text s q (level x (item (after_try o))) (opens finally ∷ level x (ended no_handlers) ∷ []) σ silent n L l (rw y);
      says-catch = λ x σ n L.
          to_item text s c.at q x after-catch σ n L (kind-told e z) v ∙ at-step text s q (level x (item after-catch)) (opens finally ∷ level x (ended no_handlers) ∷ []) σ silent n L l (rw y);
      from = omega (arith, v.from);
      to = l;
    }
