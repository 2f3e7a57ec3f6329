-- Actions, items and levels, branch by branch. Assumes nothing.
use mathlib.Core.Path.{◌≡◌, refl, sym, ap, ◌∙◌, subst}
use mathlib.Core.Bool.{Bool, true, false}
use mathlib.Core.List.{List, [], ◌∷◌, ◌++◌}
use Prim.Native.Nat.{ℕ, suc, ◌+◌, ◌*◌, ◌-◌, ◌≤◌, ◌<◌}
use native.Mathlib.Omega.{arith}
use lib.Dec.{eqb}
use lib.ListN.{length, get_or, set}
use Rattle.std.specs.Prelude.{Result, Ok, Err}
use Rattle.names.specs.declared.ActionName.{ActionName}
use Rattle.actions.specs.Numbers.{number_of}
use Rattle.actions.proofs.Numbers.{number_below}
use Rattle.shapes.specs.declared.Shape.{Shape}
use Rattle.shapes.specs.Shapes.{shape_of}
use Rattle.tokens.specs.declared.TokenKind.{TokenKind}
use Rattle.tokens.specs.declared.TokenKind.TheVariants as K
use Rattle.tokens.specs.declared.Token.{Token}
use Rattle.tokens.specs.Kinds.{code_of}
use Rattle.tokens.specs.Tokens.{token_of, raw_text}
use Rattle.lexemes.specs.Lexemes.{lexeme}
use Rattle.lexemes.specs.Events.{acted, closed}
use Rattle.machine.specs.Plans.{plan_of}
use Rattle.machine.specs.Machine.{Nesting, top, inner, no_handlers, Symbol, level, item, silent, out, stop, move, start}
use Rattle.machine.specs.Depth.{read}
use Rattle.operands.specs.declared.At.{At}
use Rattle.operands.specs.declared.Unread.{Unread}
use Rattle.operands.specs.declared.Unread.TheVariants.{Bad, Deep}
use Rattle.classes.specs.Lexemes.{kind_at}
use Rattle.events.specs.Log.{Holdable, log_word}
use Rattle.operands.specs.Log.{log, passed, logged}
use Rattle.operands.specs.Contract.{judge, outcome, Fine, Onward, Ahead, Reads, left, OperandsRead}
use Rattle.classes.proofs.OneToken.{kind-inside}
use Rattle.operands.proofs.Places.{lexemes-end, at-step, at-stop, at-end}
use Rattle.operands.proofs.Runs.{passed_on, logged_on, further_on, on_to, refusal}
use Rattle.parser.specs.Parsing.{Forward, BlocksRead, Plain, ItemRead, whole, LevelSays, LevelRead}
use Rattle.parser.proofs.Leaves.{kind-known, forward_on}
use Rattle.parser.proofs.BlockLaws.{in_on}

-- ---- an action

-- a token that is no action word, and no newline, label or closing brace either
pub action_not : (text s a : List ℕ) (c : At) (room : ℕ) (t : Token) → Fine text s c → c.at < length s → Plain s c → t ≡ token_of (get_or s c.at 0) →
    ((n : ActionName) → t.kind ≡ K.ActionName n → ⊥) → ItemRead text s a a c room (Err (Bad c.at))
unfolding outcome Ahead Forward
action_not text s a c room t f i p e o =
    record {
      reads = record { says = λ x σ. at-stop text s c.at (level x (item no_handlers)) σ room (log a c) i (stops x (token_of (get_or s c.at 0)).kind refl); ahead = f.inside };
      forward = tt;
    }
  where
    at_place : (j : TokenKind) → (token_of (get_or s c.at 0)).kind ≡ j → kind_at s c.at ≡ (code_of j).place
    at_place j z = kind-inside s c.at i ∙ ap (λ (y : TokenKind). (code_of y).place) z

    no_word : (n : ActionName) → (token_of (get_or s c.at 0)).kind ≡ K.ActionName n → ⊥
    no_word n z = o n (ap (λ (y : Token). y.kind) e ∙ z)

    stops : (x : Nesting) (j : TokenKind) → (token_of (get_or s c.at 0)).kind ≡ j → move (level x (item no_handlers)) (lexeme c.at j (raw_text text (token_of (get_or s c.at 0)))) ≡ stop
    stops x K.Newline z = absurd (p.not_newline (at_place K.Newline z))
    stops x (K.String c) z = refl
    stops x K.Float z = refl
    stops x K.Integer z = refl
    stops x (K.Register n) z = refl
    stops x (K.Constant n) z = refl
    stops x (K.ActionName n) z = absurd (no_word n z)
    stops x K.Identifier z = absurd (p.not_label (at_place K.Identifier z))
    stops x K.Colon z = refl
    stops x K.Comma z = refl
    stops x K.OpenBrace z = refl
    stops x K.CloseBrace z = absurd (p.not_closing (at_place K.CloseBrace z))
    stops x K.True z = refl
    stops x K.False z = refl
    stops x K.Null z = refl
    stops x K.Undefined z = refl
    stops x K.Catch z = refl
    stops x K.Finally z = refl
    stops x K.Unknown z = refl

-- the word of the action n stands at c, and is logged
pub record WordAt (text s a a' : List ℕ) (c d : At) (n : ActionName) (w : Shape) : Type 0 where
  pub fine : Fine text s c
  pub inside : c.at < length s
  pub is : (token_of (get_or s c.at 0)).kind ≡ K.ActionName n
  pub logs : a' ≡ set a c.events (log_word 0 (number_of n))
  pub past : d ≡ logged c
  pub shape : w ≡ shape_of n

pub word_at : (text s a a' : List ℕ) (c d : At) (n : ActionName) (w : Shape) (t : Token) (j : ℕ) → Fine text s c → c.at < length s → t ≡ token_of (get_or s c.at 0) →
    t.kind ≡ K.ActionName n → j ≡ number_of n → a' ≡ set a c.events (log_word 0 j) → d ≡ logged c → w ≡ shape_of n → WordAt text s a a' c d n w
word_at text s a a' c d n w t j f i e z m p y x =
    record {
      fine = f;
      inside = i;
      is = ap (λ (v : Token). v.kind) (sym e) ∙ z;
      logs = p ∙ ap (λ (v : ℕ). set a c.events (log_word 0 v)) m;
      past = y;
      shape = x;
    }

module _ {text s a a' : List ℕ} {c d : At} {n : ActionName} {w : Shape} (h : WordAt text s a a' c d n w) where
  word_on : Onward text s c d
  word_on = let q = h.past in rw q (logged_on text s c h.fine h.inside)

  word_past : c.at < d.at
  word_past = let y : d.at ≡ c.at + 1 = ap (λ (x : At). x.at) h.past in omega arith

  word_goes : (room : ℕ) (e : Nesting) (σ : List Symbol) → judge text s (level e (item no_handlers) ∷ σ) room (log a c) c.at ≡ judge text s (start (plan_of w) e ++ σ) room (log a' d) d.at
  word_goes room e σ =
      let p = h.logs in
      let q = h.past in
      let x = h.shape in
      rw (p, q, x)
      (at-step text s c.at (level e (item no_handlers)) (start (plan_of (shape_of n)) e) σ (out (acted n)) room (log a c) h.inside
      (ap (λ (k : TokenKind). move (level e (item no_handlers)) (lexeme c.at k (raw_text text (token_of (get_or s c.at 0))))) h.is))

  operands-then : (b : List ℕ) (room : ℕ) (r : Result At Unread) → OperandsRead w text s a' b d r →
      (e : Nesting) (σ : List Symbol) → judge text s (level e (item no_handlers) ∷ σ) room (log a c) c.at ≡ outcome text s (left (plan_of w) e ++ σ) room b r
  operands-then b room r v e σ = word_goes room e σ ∙ v.says e σ room

  pub action-operands-bad : (b : List ℕ) (room : ℕ) (u : Unread) → OperandsRead w text s a' b d (Err u) → ItemRead text s a b c room (Err u)
  action-operands-bad b room u v =
      record {
        reads = record {
          says = λ e σ. operands-then b room (Err u) v e σ ∙ refusal text s (left (plan_of w) e ++ σ) (level e (item no_handlers) ∷ σ) room room b b u;
          ahead = further_on text s c d (Err u) word_on v.ahead;
        };
        forward = forward_on text s c d (Err u) word_past v.ahead;
      }

  module _ (b : List ℕ) (room : ℕ) (p : At) (v : OperandsRead w text s a' b d (Ok p)) (l : List ℕ) (z : Result At Unread) (x : BlocksRead w text s b l p room z) where
    pub action_ok : ItemRead text s a l c room z
    unfolding outcome
    action_ok =
        let j : Ahead text s d z = further_on text s d p z (on_to text s a' b d p v) x.ahead in
        record {
          reads = record { says = λ e σ. operands-then b room (Ok p) v e σ ∙ x.says e σ; ahead = further_on text s c d z word_on j };
          forward = forward_on text s c d z word_past j;
        }

pub acted_less : {α β : Nesting → List Symbol} (text s a b : List ℕ) (c d p : At) (t : ℕ) → c.at < length s → d ≡ logged c → Reads α β text s a b d (Ok p) →
    4 * (length s - c.at) ≡ t → 4 * (length s - p.at) + 3 < t
acted_less text s a b c d p t i q v m =
    let o = on_to text s a b d p v in
    let y : d.at ≡ c.at + 1 = ap (λ (x : At). x.at) q in
    omega (arith, o.from)

-- ---- the two ends of an action, from what its reader knows

module _ (text s a a' : List ℕ) (c d : At) (n : ActionName) (w : Shape) (t : Token) (j : ℕ) (f : Fine text s c) (i : c.at < length s) (e : t ≡ token_of (get_or s c.at 0))
    (z : t.kind ≡ K.ActionName n) (m : j ≡ number_of n) (p : a' ≡ set a c.events (log_word 0 j)) (y : d ≡ logged c) (x : w ≡ shape_of n) where
  word : WordAt text s a a' c d n w
  word = word_at text s a a' c d n w t j f i e z m p y x

  pub operands-bad : (b : List ℕ) (room : ℕ) (u : Unread) → OperandsRead w text s a' b d (Err u) → ItemRead text s a b c room (Err u)
  operands-bad b room u v = action-operands-bad word b room u v

  pub action-whole : (b l : List ℕ) (room : ℕ) (r' : Result At Unread) (p' : At) → OperandsRead w text s a' b d (Ok p') → BlocksRead w text s b l p' room r' → ItemRead text s a l c room r'
  action-whole b l room r' p' v g = action_ok word b room p' v l r' g

pub number_fits : (n : ActionName) (j : ℕ) → j ≡ number_of n → Holdable j
number_fits n j e = omega (arith, number_below n)

-- ---- an item

pub item-newline : (text s a : List ℕ) (c d : At) (room : ℕ) (k : Bool) → Fine text s c → k ≡ eqb (kind_at s c.at) 0 → k ≡ true → d ≡ passed c → ItemRead text s a a c room (Ok d)
unfolding outcome Ahead Forward
item-newline text s a c d room k f e z q =
    let i = kind-known s c.at k 0 e z (omega arith) in
    let m = i.1 in
    rw q (record {
      reads = record {
        says = λ x σ. at-step text s c.at (level x (item no_handlers)) (level x (item no_handlers) ∷ []) σ silent room (log a c) i.0 (rw m);
        ahead = passed_on text s c f i.0;
      };
      forward = omega arith;
    })

-- ---- a level

abbrev pub nesting_of : Bool → Nesting
nesting_of true = inner
nesting_of false = top

-- the loop of a level: from c it has come to p
pub record Reaches (text s a b : List ℕ) (c : At) (d : ℕ) (i : Bool) (p : At) : Type 0 where
  pub says : (σ : List Symbol) → judge text s (level (nesting_of i) (item no_handlers) ∷ σ) d (log a c) c.at ≡ judge text s (level (nesting_of i) (item no_handlers) ∷ σ) d (log b p) p.at
  pub from : c.at ≤ p.at
  pub fine : Fine text s p

pub reach_next : (text s a b l : List ℕ) (c p q : At) (d : ℕ) (i : Bool) → Reaches text s a b c d i p → ItemRead text s b l p d (Ok q) → Reaches text s a l c d i q
unfolding outcome
reach_next text s a b l c p q d i v w =
    let o = in_on text s b l p q d w.reads in
    record {
      says = λ σ. v.says σ ∙ w.reads.says (nesting_of i) σ;
      from = omega (arith, v.from, o.from);
      fine = o.fine;
    }

pub reach_less : (text s b l : List ℕ) (p q : At) (d : ℕ) → ItemRead text s b l p d (Ok q) → length s - q.at < length s - p.at
unfolding Forward
reach_less text s b l p q d w =
    let o = in_on text s b l p q d w.reads in
    let g : p.at < q.at = w.forward in
    omega (arith, o.fine.inside)

as_whole : (text s : List ℕ) (σ : List Symbol) (d : ℕ) (a : List ℕ) (u : Unread) → outcome text s σ d a (Err u) ≡ whole s a (Err u)
unfolding outcome whole
as_whole text s σ d a (Bad k) = refl
as_whole text s σ d a (Deep k) = refl

reach_on : {text s a b : List ℕ} {c p : At} {d : ℕ} {i : Bool} → Reaches text s a b c d i p → Onward text s c p
reach_on v = record { from = v.from; fine = v.fine }

by_nesting : (text s a b : List ℕ) (c : At) (d : ℕ) (i j : Bool) (r : Result At Unread) → i ≡ j → LevelRead text s a b c d j r → LevelRead text s a b c d i r
by_nesting text s a b c d i j r e v = subst (λ (x : Bool). LevelRead text s a b c d x r) (sym e) v

reach_as : (text s a b : List ℕ) (c p : At) (d : ℕ) (i j : Bool) → i ≡ j → Reaches text s a b c d i p → Reaches text s a b c d j p
reach_as text s a b c p d i j e v = subst (λ (x : Bool). Reaches text s a b c d x p) e v

pub level_closes : (text s a b l : List ℕ) (c p q : At) (d : ℕ) (k i : Bool) → Reaches text s a b c d i p → k ≡ eqb (kind_at s p.at) 11 → k ≡ true → i ≡ true → l ≡ set b p.events (log_word 4 0) → q ≡ logged p →
    LevelRead text s a l c d i (Ok q)
unfolding outcome Ahead LevelSays
level_closes text s a b l c p q d k i v e z t y x =
    let j = kind-known s p.at k 11 e z (omega arith) in
    let m = j.1 in
    let w = reach_as text s a b c p d i true t v in
    by_nesting text s a l c d i true (Ok q) t
    (rw (y, x) (record {
      says = λ σ. w.says σ ∙ at-step text s p.at (level inner (item no_handlers)) [] σ (out closed) d (log b p) j.0 (rw m);
      ahead = further_on text s c p (Ok (logged p)) (reach_on v) (logged_on text s p v.fine j.0);
    }))

pub level_close_bad : (text s a b : List ℕ) (c p : At) (d : ℕ) (k i : Bool) → Reaches text s a b c d i p → k ≡ eqb (kind_at s p.at) 11 → k ≡ true → i ≡ false → LevelRead text s a b c d i (Err (Bad p.at))
unfolding Ahead LevelSays whole
level_close_bad text s a b c p d k i v e z t =
    let j = kind-known s p.at k 11 e z (omega arith) in
    let m = j.1 in
    let w = reach_as text s a b c p d i false t v in
    by_nesting text s a b c d i false (Err (Bad p.at)) t
    (record { says = w.says [] ∙ at-stop text s p.at (level top (item no_handlers)) [] d (log b p) j.0 (rw m); ahead = v.fine.inside })

pub level_fails : (text s a b l : List ℕ) (c p : At) (d : ℕ) (i : Bool) (u : Unread) → Reaches text s a b c d i p → ItemRead text s b l p d (Err u) → LevelRead text s a l c d i (Err u)
unfolding LevelSays
level_fails text s a b l c p d true u v w =
    record {
      says = λ σ. v.says σ ∙ w.reads.says inner σ ∙ refusal text s (level inner (item no_handlers) ∷ σ) σ d (suc d) l l u;
      ahead = further_on text s c p (Err u) (reach_on v) w.reads.ahead;
    }
level_fails text s a b l c p d false u v w =
    record {
      says = v.says [] ∙ w.reads.says top [] ∙ as_whole text s (level top (item no_handlers) ∷ []) d l u;
      ahead = further_on text s c p (Err u) (reach_on v) w.reads.ahead;
    }

pub level-short : (text s a b : List ℕ) (c p : At) (d : ℕ) (i : Bool) → Reaches text s a b c d i p → length s ≤ p.at → i ≡ true → LevelRead text s a b c d i (Err (Bad p.at))
unfolding outcome Ahead LevelSays
level-short text s a b c p d i v h t =
    let w = reach_as text s a b c p d i true t v in
    by_nesting text s a b c d i true (Err (Bad p.at)) t
    (record { says = λ σ. w.says σ ∙ at-end text s p.at (level inner (item no_handlers)) σ d (log b p) h refl; ahead = v.fine.inside })

text-read : (text s b : List ℕ) (p : At) (d : ℕ) → length s ≤ p.at → judge text s (level top (item no_handlers) ∷ []) d (log b p) p.at ≡ read (log b p)
unfolding judge
text-read text s b p d h = rw (lexemes-end text s p.at h)

pub level-whole : (text s a b : List ℕ) (c p : At) (d : ℕ) (i : Bool) → Reaches text s a b c d i p → length s ≤ p.at → i ≡ false → LevelRead text s a b c d i (Ok p)
unfolding Ahead LevelSays whole
level-whole text s a b c p d i v h t =
    let w = reach_as text s a b c p d i false t v in
    by_nesting text s a b c d i false (Ok p) t (record { says = w.says [] ∙ text-read text s b p d h; ahead = reach_on v })
