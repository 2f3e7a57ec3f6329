-- How runs are put together: an operand, a mark, one reader after another, loops. Assumes nothing.
use mathlib.Core.Path.{◌≡◌, refl, sym, ap, ◌∙◌, subst}
use mathlib.Core.Bool.{Bool, true, false}
use mathlib.Core.List.{List, [], ◌∷◌, ◌++◌, append_assoc}
use Prim.Native.Nat.{ℕ, suc, ◌+◌, ◌-◌, ◌≤◌, ◌<◌}
use native.Mathlib.Omega.{arith}
use lib.Dec.{eqb, ltb}
use lib.ListN.{length, get_or, set}
use borrow.Author.Tests.{ltb-true, ltb-false, ne_eqb}
use Rattle.std.specs.Prelude.{Result, Ok, Err, IsErrAnd}
use Rattle.tokens.specs.declared.TokenKind.{TokenKind}
use Rattle.tokens.specs.Kinds.{code_of}
use Rattle.tokens.specs.Tokens.{token_of, raw_text}
use Rattle.lexemes.specs.Lexemes.{lexeme}
use Rattle.lexemes.specs.Operands.{is_operand}
use Rattle.lexemes.specs.Events.{given}
use Rattle.machine.specs.Machine.{Nesting, Punctuation, p_comma, p_colon, kind-of, Symbol, mark, operand, silent, out, stop, go, move}
use Rattle.machine.specs.Depth.{fault}
use Rattle.operands.specs.declared.At.{At}
use Rattle.operands.specs.declared.Unread.{Unread}
use Rattle.operands.specs.declared.Unread.TheVariants.{Bad, Deep}
use Rattle.classes.specs.declared.Class.{Class}
use Rattle.classes.specs.Lexemes.{lexeme_of, kind_at, class_of, class_at, fits_at}
use Rattle.events.specs.Log.{log_word}
use Rattle.operands.specs.Log.{Log, log, passed, logged}
use Rattle.operands.specs.Contract.{judge, outcome, Fine, Onward, Ahead, Reads, Passes, nothing, OperandRead, CommaRead, NextRead}
use Rattle.classes.proofs.OneToken.{kind-inside, kind_past, fits-inside, fits-there, kind-told, kind-untold}
use Rattle.operands.proofs.Places.{at-step, at-stop, at-end}

-- what a `?` returns is what it met
pub met : {A E : Type 0} {r : Result A E} {u : E} → IsErrAnd r (λ y. y ≡ u) → r ≡ Err u
met {r = Ok d} h = absurd h
met {r = Err y} h = ap Err h

-- ---- places

module _ (text s : List ℕ) (c : At) (f : Fine text s c) (h : c.at < length s) where
  pub passed-fine : Fine text s (passed c)
  passed-fine = record { sound = f.sound; inside = omega arith; events = omega (arith, f.events) }

  pub logged-fine : Fine text s (logged c)
  logged-fine = record { sound = f.sound; inside = omega arith; events = omega (arith, f.events) }

  pub passed_on : Onward text s c (passed c)
  passed_on = record { from = omega arith; fine = passed-fine }

  pub logged_on : Onward text s c (logged c)
  logged_on = record { from = omega arith; fine = logged-fine }

pub here : (text s : List ℕ) (c : At) → Fine text s c → Onward text s c c
here text s c f = record { from = omega arith; fine = f }

pub further_on : (text s : List ℕ) (c d : At) (r : Result At Unread) → Onward text s c d → Ahead text s d r → Ahead text s c r
unfolding Ahead
further_on text s c d (Ok e) o p = record { from = omega (arith, o.from, p.from); fine = p.fine }
further_on text s c d (Err (Bad k)) o p = p
further_on text s c d (Err (Deep k)) o p = p

-- there is such a kind at the place only if there is a token
pub kind-there : (s : List ℕ) (at n : ℕ) → kind_at s at ≡ n → n < 99 → at < length s
kind-there s at n e h = by (ltb at (length s)) refl
  where
    by : (b : Bool) → ltb at (length s) ≡ b → at < length s
    by true q = ltb-true at (length s) q
    by false q = absurd (omega (arith, kind_past s at (ltb-false at (length s) q), e, h))

-- ---- an answer that is known

module _ {α β : Nesting → List Symbol} (text s a b : List ℕ) (c d : At) (v : Reads α β text s a b c (Ok d)) where
  pub on_to : Onward text s c d
  unfolding Ahead
  on_to = v.ahead

  pub fine-to : Fine text s d
  fine-to = on_to.fine

pub pass_fine : {α β : Nesting → List Symbol} (text s : List ℕ) (c d : At) → Passes α β text s c (Ok d) → Fine text s d
pass_fine text s c d v = fine-to text s [] [] c d (v.with_log [])

-- a refusal does not depend on what was to come, nor on how many blocks may open
pub refusal : (text s : List ℕ) (σ τ : List Symbol) (d n : ℕ) (a b : List ℕ) (u : Unread) → outcome text s σ d a (Err u) ≡ outcome text s τ n b (Err u)
unfolding outcome
refusal text s σ τ d n a b (Bad k) = refl
refusal text s σ τ d n a b (Deep k) = refl

-- ---- one reader after another

-- from the symbols α to β, then from β on
pub then : (α β γ : Nesting → List Symbol) (text s a b b' : List ℕ) (c d : At) (z : Result At Unread) →
    Reads α β text s a b c (Ok d) → Reads β γ text s b b' d z → Reads α γ text s a b' c z
unfolding outcome
then α β γ text s a b b' c d z v w =
    record {
      says = λ e σ n. v.says e σ n ∙ w.says e σ n;
      ahead = further_on text s c d z (on_to text s a b c d v) w.ahead;
    }

pub fails : (α β γ : Nesting → List Symbol) (text s a b : List ℕ) (c : At) (u : Unread) → Reads α β text s a b c (Err u) → Reads α γ text s a b c (Err u)
fails α β γ text s a b c u v = record { says = λ e σ n. v.says e σ n ∙ refusal text s (β e ++ σ) (γ e ++ σ) n n b b u; ahead = v.ahead }

-- the symbols x, whatever comes behind them
pub framed : (x : List Symbol) (τ : Nesting → List Symbol) (text s a b : List ℕ) (c : At) (r : Result At Unread) →
    Reads (λ e. x) nothing text s a b c r → Reads (λ e. x ++ τ e) τ text s a b c r
framed x τ text s a b c r v = record { says = λ e σ n. rw (append_assoc x (τ e) σ) (v.says e (τ e ++ σ) n); ahead = v.ahead }

-- the symbols x, then the symbols y
pub both : (x y : List Symbol) (text s a b b' : List ℕ) (c d : At) (z : Result At Unread) →
    Reads (λ e. x) nothing text s a b c (Ok d) → Reads (λ e. y) nothing text s b b' d z → Reads (λ e. x ++ y) nothing text s a b' c z
both x y text s a b b' c d z v w = then (λ e. x ++ y) (λ e. y) nothing text s a b b' c d z (framed x (λ e. y) text s a b c (Ok d) v) w

pub first_fails : (x y : List Symbol) (text s a b : List ℕ) (c : At) (u : Unread) → Reads (λ e. x) nothing text s a b c (Err u) → Reads (λ e. x ++ y) nothing text s a b c (Err u)
first_fails x y text s a b c u v = fails (λ e. x ++ y) (λ e. y) nothing text s a b c u (framed x (λ e. y) text s a b c (Err u) v)

-- nothing is read
pub stays : (τ : Nesting → List Symbol) (text s a : List ℕ) (c : At) → Fine text s c → Reads τ τ text s a a c (Ok c)
unfolding outcome Ahead
stays τ text s a c f = record { says = λ e σ n. refl; ahead = here text s c f }

-- ---- loops: of the symbols f n those of f (n - i) are left

module _ (f : ℕ → List Symbol) (text s : List ℕ) where
  pub loop-start : (n : ℕ) (a : List ℕ) (c : At) → Fine text s c → Reads (λ e. f n) (λ e. f (n - 0)) text s a a c (Ok c)
  loop-start n a c g = let z : n - 0 ≡ n = omega arith in rw z (stays (λ e. f n) text s a c g)

  pub loop-then : (x : List Symbol) → ((k : ℕ) → f (suc k) ≡ x ++ f k) → (n i : ℕ) (a b b' : List ℕ) (c p : At) (r : Result At Unread) →
      Reads (λ e. f n) (λ e. f (n - i)) text s a b c (Ok p) → i < n → Reads (λ e. x) nothing text s b b' p r → Reads (λ e. f n) (λ e. f (n - (i + 1))) text s a b' c r
  loop-then x fx n i a b b' c p r v l w =
      let q : n - i ≡ suc (n - (i + 1)) = omega arith in
      let k = n - (i + 1) in
      let v' : Reads (λ e. f n) (λ e. x ++ f k) text s a b c (Ok p) = subst (λ (y : List Symbol). Reads (λ e. f n) (λ e. y) text s a b c (Ok p)) (ap f q ∙ fx k) v in
      then (λ e. f n) (λ e. x ++ f k) (λ e. f k) text s a b b' c p r v' (framed x (λ e. f k) text s b b' p r w)

  pub loop-ends : f 0 ≡ [] → (n i : ℕ) (a b : List ℕ) (c p : At) → Reads (λ e. f n) (λ e. f (n - i)) text s a b c (Ok p) → n ≤ i → Reads (λ e. f n) nothing text s a b c (Ok p)
  loop-ends f0 n i a b c p v l =
      let q : n - i ≡ 0 = omega arith in
      subst (λ (y : List Symbol). Reads (λ e. f n) (λ e. y) text s a b c (Ok p)) (ap f q ∙ f0) v

-- ---- an operand

-- an operand is logged where a test says that it is one
pub fits_so : (text s : List ℕ) (at : ℕ) (m : Class) (ok : Bool) → ok ≡ fits_at m text s at → ok ≡ true → fits_at m text s at ≡ true
fits_so text s at m ok e₁ e₂ = sym e₁ ∙ e₂

pub given_ok : (text s a b : List ℕ) (c d : At) (m : Class) → Fine text s c → fits_at m text s c.at ≡ true →
    b ≡ set a c.events (log_word 2 c.at) → d ≡ logged c → OperandRead m text s a b c (Ok d)
unfolding outcome Ahead class_at
given_ok text s a b c d m f e p q =
    let i = fits-there m text s c.at e in
    let x : is_operand (class_of m) (lexeme_of text c.at (get_or s c.at 0)) ≡ true = sym (fits-inside m text s c.at i) ∙ e in
    rw (p, q) (record {
      says = λ n σ k. at-step text s c.at (operand (class_of m)) [] σ (out (given (lexeme_of text c.at (get_or s c.at 0)))) k (log a c) i (rw x);
      ahead = logged_on text s c f i;
    })

pub operand-bad : (text s a : List ℕ) (c : At) (m : Class) (ok : Bool) → Fine text s c → ok ≡ fits_at m text s c.at → ok ≡ false → OperandRead m text s a a c (Err (Bad c.at))
unfolding outcome Ahead class_at
operand-bad text s a c m ok f e₁ e₂ = record { says = λ n σ k. by (ltb c.at (length s)) refl σ k; ahead = f.inside }
  where
    by : (b : Bool) → ltb c.at (length s) ≡ b → (σ : List Symbol) (k : ℕ) → judge text s (operand (class_of m) ∷ σ) k (log a c) c.at ≡ fault (length s - c.at)
    by true q σ k =
        let i = ltb-true c.at (length s) q in
        let x : is_operand (class_of m) (lexeme_of text c.at (get_or s c.at 0)) ≡ false = sym (fits-inside m text s c.at i) ∙ sym e₁ ∙ e₂ in
        at-stop text s c.at (operand (class_of m)) σ k (log a c) i (rw x)
    by false q σ k = at-end text s c.at (operand (class_of m)) σ k (log a c) (ltb-false c.at (length s) q) refl

-- ---- a mark

mark-move : (c : Punctuation) (i : ℕ) (k : TokenKind) (w : List ℕ) → (code_of k).place ≡ (code_of (kind-of c)).place → move (mark c) (lexeme i k w) ≡ go [] silent
mark-move p_comma i k w h = rw h
mark-move p_colon i k w h = rw h

mark-stop : (c : Punctuation) (i : ℕ) (k : TokenKind) (w : List ℕ) → ((code_of k).place ≡ (code_of (kind-of c)).place → ⊥) → move (mark c) (lexeme i k w) ≡ stop
mark-stop c i k w h = rw (ne_eqb (code_of k).place (code_of (kind-of c)).place h)

pub mark_ok : (p : Punctuation) (text s : List ℕ) (c d : At) → Fine text s c → kind_at s c.at ≡ (code_of (kind-of p)).place → (code_of (kind-of p)).place < 99 → d ≡ passed c →
    Passes (λ e. mark p ∷ []) nothing text s c (Ok d)
unfolding outcome Ahead
mark_ok p text s c d f e z q =
    let i = kind-there s c.at (code_of (kind-of p)).place e z in
    rw q (record {
      with_log = λ a. record {
        says = λ n σ k. at-step text s c.at (mark p) [] σ silent k (log a c) i (mark-move p c.at (token_of (get_or s c.at 0)).kind (raw_text text (token_of (get_or s c.at 0))) (sym (kind-inside s c.at i) ∙ e));
        ahead = passed_on text s c f i;
      };
    })

pub mark-bad : (p : Punctuation) (text s : List ℕ) (c : At) → Fine text s c → (kind_at s c.at ≡ (code_of (kind-of p)).place → ⊥) → Passes (λ e. mark p ∷ []) nothing text s c (Err (Bad c.at))
unfolding outcome Ahead
mark-bad p text s c f e = record { with_log = λ a. record { says = λ n σ k. by (ltb c.at (length s)) refl σ k (log a c); ahead = f.inside } }
  where
    by : (b : Bool) → ltb c.at (length s) ≡ b → (σ : List Symbol) (k : ℕ) (L : Log) → judge text s (mark p ∷ σ) k L c.at ≡ fault (length s - c.at)
    by true q σ k L =
        let i = ltb-true c.at (length s) q in
        at-stop text s c.at (mark p) σ k L i (mark-stop p c.at (token_of (get_or s c.at 0)).kind (raw_text text (token_of (get_or s c.at 0))) (λ z. e (kind-inside s c.at i ∙ z)))
    by false q σ k L = at-end text s c.at (mark p) σ k L (ltb-false c.at (length s) q) refl

pub comma_ok : (text s : List ℕ) (c d : At) (n : Bool) → Fine text s c → n ≡ eqb (kind_at s c.at) 9 → n ≡ true → d ≡ passed c → CommaRead text s c (Ok d)
comma_ok text s c d n f e z q = mark_ok p_comma text s c d f (kind-told e z) (omega arith) q

pub comma-bad : (text s : List ℕ) (c : At) (n : Bool) → Fine text s c → n ≡ eqb (kind_at s c.at) 9 → n ≡ false → CommaRead text s c (Err (Bad c.at))
comma-bad text s c n f e z = mark-bad p_comma text s c f (kind-untold e z)

pub next_ok : (text s a b : List ℕ) (c d : At) (m : Class) (z : Result At Unread) → CommaRead text s c (Ok d) → OperandRead m text s a b d z → NextRead m text s a b c z
next_ok text s a b c d m z v w = both (mark p_comma ∷ []) (operand (class_of m) ∷ []) text s a a b c d z (v.with_log a) w

pub next-bad : (text s a : List ℕ) (c : At) (m : Class) (u : Unread) → CommaRead text s c (Err u) → NextRead m text s a a c (Err u)
next-bad text s a c m u v = first_fails (mark p_comma ∷ []) (operand (class_of m) ∷ []) text s a a c u (v.with_log a)
