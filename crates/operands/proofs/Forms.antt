-- The operand lists of document 01's shapes, put together from operands and commas. Assumes nothing.
use mathlib.Core.Path.{◌≡◌, refl, sym, ap, ◌∙◌, subst}
use mathlib.Core.Bool.{Bool, true, false, cond, false≢true}
use mathlib.Core.List.{List, [], ◌∷◌}
use mathlib.Core.Logic.{◌⊎◌, inl, inr}
use Prim.Native.Nat.{ℕ, ◌+◌, ◌-◌, ◌≤◌, ◌<◌}
use native.Mathlib.Omega.{arith}
use lib.Dec.{eqb, ltb}
use lib.IntN.{ℤ, pos, negsuc}
use lib.ListN.{length, get_or, set}
use borrow.Author.Tests.{ltb-true, ltb-false, eqb-true, eqb-false, ne_eqb}
use Rattle.std.specs.Prelude.{Result, Ok, Err, Option, Some, None, is_some}
use Rattle.shapes.specs.declared.Shape.{Shape}
use Rattle.shapes.specs.declared.Shape.TheVariants as S
use Rattle.tokens.specs.declared.TokenKind.TheVariants as K
use Rattle.tokens.specs.Kinds.{code_of, is_kind}
use Rattle.tokens.specs.Tokens.{token_of, raw_text}
use Rattle.numbers.specs.Integers.{is_natural, natural, integer}
use Rattle.scanner.specs.Bytes.{run_of}
use Rattle.values.specs.Values.{integer_text, i32_of}
use Rattle.lexemes.specs.Lexemes.{Lexeme}
use Rattle.lexemes.specs.Operands.{string, bool, u8, u16, identifier, is_operand, acting}
use Rattle.lexemes.specs.Events.{given}
use Rattle.lexemes.proofs.Tests.{operand_not, newline}
use Rattle.machine.specs.Plans.{Params, simple, registers, behind_count, function, within, trying}
use Rattle.machine.specs.Machine.{Nesting, p_comma, Symbol, mark, operand, flag, counted, level, State, item, ended, list₀, list₁, no_handlers, silent, out, stop, go, further, move, on_count}
use Rattle.machine.specs.Depth.{fault}
use Rattle.operands.specs.declared.At.{At}
use Rattle.operands.specs.declared.Unread.{Unread}
use Rattle.operands.specs.declared.Unread.TheVariants.{Bad}
use Rattle.classes.specs.declared.Class.{Class}
use Rattle.classes.specs.declared.Class.TheVariants as C
use Rattle.classes.specs.Lexemes.{lexeme_of, kind_at, class_of, class_at, fits_at, acting_as, count_at, is_count_at}
use Rattle.events.specs.Log.{log_word}
use Rattle.operands.specs.Log.{Log, log, passed, logged}
use Rattle.operands.specs.Contract.{judge, outcome, Fine, Ahead, Reads, nothing, at-end as action-ends, OperandRead, CommaRead, NextRead, TwoRead, ThreeRead, repeated, RepeatRead, paired, PairRead, PairsRead, NameRead, CountRead, NamesRead, FunctionRead, FlagsRead, FlagsPairsRead, RegistersRead, Function2Read, FrameRead, ValuesRead, ListRead, left, OperandsRead}
use Rattle.classes.proofs.OneToken.{kind-inside, fits-inside, fits-there, count-inside, is-count-inside, is-count-there, kind-told, kind-untold}
use Rattle.operands.proofs.Places.{at-step, at-stop, at-end, past_same}
use Rattle.operands.proofs.Runs.{passed-fine, passed_on, logged_on, further_on, kind-there, on_to, refusal, then, fails, framed, both, first_fails, stays, loop-start, loop-then, loop-ends}

-- ---- lists of fixed length

pub two_ok : (text s a b b' : List ℕ) (c d : At) (m n : Class) (z : Result At Unread) → OperandRead m text s a b c (Ok d) → NextRead n text s b b' d z → TwoRead m n text s a b' c z
two_ok text s a b b' c d m n z v w = both (operand (class_of m) ∷ []) (mark p_comma ∷ operand (class_of n) ∷ []) text s a b b' c d z v w

pub two_bad : (text s a b : List ℕ) (c : At) (m n : Class) (u : Unread) → OperandRead m text s a b c (Err u) → TwoRead m n text s a b c (Err u)
two_bad text s a b c m n u v = first_fails (operand (class_of m) ∷ []) (mark p_comma ∷ operand (class_of n) ∷ []) text s a b c u v

pub three_ok : (text s a b b' : List ℕ) (c d : At) (m n k : Class) (z : Result At Unread) → TwoRead m n text s a b c (Ok d) → NextRead k text s b b' d z → ThreeRead m n k text s a b' c z
three_ok text s a b b' c d m n k z v w =
    both (operand (class_of m) ∷ mark p_comma ∷ operand (class_of n) ∷ []) (mark p_comma ∷ operand (class_of k) ∷ []) text s a b b' c d z v w

pub three_bad : (text s a b : List ℕ) (c : At) (m n k : Class) (u : Unread) → TwoRead m n text s a b c (Err u) → ThreeRead m n k text s a b c (Err u)
three_bad text s a b c m n k u v = first_fails (operand (class_of m) ∷ mark p_comma ∷ operand (class_of n) ∷ []) (mark p_comma ∷ operand (class_of k) ∷ []) text s a b c u v

pub pair_ok : (text s a b b' : List ℕ) (c d : At) (z : Result At Unread) → NextRead C.U8 text s a b c (Ok d) → NextRead C.String text s b b' d z → PairRead text s a b' c z
pair_ok text s a b b' c d z v w = both (mark p_comma ∷ operand u8 ∷ []) (mark p_comma ∷ operand string ∷ []) text s a b b' c d z v w

pub pair_bad : (text s a b : List ℕ) (c : At) (u : Unread) → NextRead C.U8 text s a b c (Err u) → PairRead text s a b c (Err u)
pair_bad text s a b c u v = first_fails (mark p_comma ∷ operand u8 ∷ []) (mark p_comma ∷ operand string ∷ []) text s a b c u v

-- ---- repetitions

abbrev pub Repeating : Class → ℕ → ℕ → List ℕ → List ℕ → List ℕ → List ℕ → At → At → Type 0
Repeating m n i text s a b c p = Reads (λ e. repeated m n) (λ e. repeated m (n - i)) text s a b c (Ok p)

pub repeat_start : (text s a : List ℕ) (c : At) (m : Class) (n : ℕ) → Fine text s c → Repeating m n 0 text s a a c c
repeat_start text s a c m n g = loop-start (repeated m) text s n a c g

repeat_then : (text s a b b' : List ℕ) (c p : At) (m : Class) (n i : ℕ) (r : Result At Unread) → Repeating m n i text s a b c p → i < n → NextRead m text s b b' p r →
    Reads (λ e. repeated m n) (λ e. repeated m (n - (i + 1))) text s a b' c r
repeat_then text s a b b' c p m n i r v l w = loop-then (repeated m) text s (mark p_comma ∷ operand (class_of m) ∷ []) (λ k. refl) n i a b b' c p r v l w

pub repeat_next : (text s a b b' : List ℕ) (c p d : At) (m : Class) (n i : ℕ) → Repeating m n i text s a b c p → i < n → NextRead m text s b b' p (Ok d) →
    Repeating m n (i + 1) text s a b' c d
repeat_next text s a b b' c p d m n i v l w = repeat_then text s a b b' c p m n i (Ok d) v l w

pub repeat_bad : (text s a b b' : List ℕ) (c p : At) (m : Class) (n i : ℕ) (u : Unread) → Repeating m n i text s a b c p → i < n → NextRead m text s b b' p (Err u) →
    RepeatRead m n text s a b' c (Err u)
repeat_bad text s a b b' c p m n i u v l w =
    fails (λ e. repeated m n) (λ e. repeated m (n - (i + 1))) nothing text s a b' c u (repeat_then text s a b b' c p m n i (Err u) v l w)

pub repeat_ends : (text s a b : List ℕ) (c p : At) (m : Class) (n i : ℕ) → Repeating m n i text s a b c p → n ≤ i → RepeatRead m n text s a b c (Ok p)
repeat_ends text s a b c p m n i v l = loop-ends (repeated m) text s refl n i a b c p v l

abbrev pub Pairing : ℕ → ℕ → List ℕ → List ℕ → List ℕ → List ℕ → At → At → Type 0
Pairing n i text s a b c p = Reads (λ e. paired n) (λ e. paired (n - i)) text s a b c (Ok p)

pub pairs_start : (text s a : List ℕ) (c : At) (n : ℕ) → Fine text s c → Pairing n 0 text s a a c c
pairs_start text s a c n g = loop-start paired text s n a c g

pairs-then : (text s a b b' : List ℕ) (c p : At) (n i : ℕ) (r : Result At Unread) → Pairing n i text s a b c p → i < n → PairRead text s b b' p r →
    Reads (λ e. paired n) (λ e. paired (n - (i + 1))) text s a b' c r
pairs-then text s a b b' c p n i r v l w =
    loop-then paired text s (mark p_comma ∷ operand u8 ∷ mark p_comma ∷ operand string ∷ []) (λ k. refl) n i a b b' c p r v l w

pub pairs_next : (text s a b b' : List ℕ) (c p d : At) (n i : ℕ) → Pairing n i text s a b c p → i < n → PairRead text s b b' p (Ok d) → Pairing n (i + 1) text s a b' c d
pairs_next text s a b b' c p d n i v l w = pairs-then text s a b b' c p n i (Ok d) v l w

pub pairs-bad : (text s a b b' : List ℕ) (c p : At) (n i : ℕ) (u : Unread) → Pairing n i text s a b c p → i < n → PairRead text s b b' p (Err u) → PairsRead n text s a b' c (Err u)
pairs-bad text s a b b' c p n i u v l w = fails (λ e. paired n) (λ e. paired (n - (i + 1))) nothing text s a b' c u (pairs-then text s a b b' c p n i (Err u) v l w)

pub pairs-ends : (text s a b : List ℕ) (c p : At) (n i : ℕ) → Pairing n i text s a b c p → n ≤ i → PairsRead n text s a b c (Ok p)
pairs-ends text s a b c p n i v l = loop-ends paired text s refl n i a b c p v l

-- ---- functions

pub name_ok : (text s a b : List ℕ) (c d : At) (z : Result At Unread) → OperandRead C.String text s a b c (Ok d) → CommaRead text s d z → NameRead text s a b c z
name_ok text s a b c d z v w = both (operand string ∷ []) (mark p_comma ∷ []) text s a b b c d z v (w.with_log b)

pub name-bad : (text s a b : List ℕ) (c : At) (u : Unread) → OperandRead C.String text s a b c (Err u) → NameRead text s a b c (Err u)
name-bad text s a b c u v = first_fails (operand string ∷ []) (mark p_comma ∷ []) text s a b c u v

-- an i32 is parsed of an Integer token alone
on_integer : (f : Params) (t : Lexeme) (z : Option ℤ) → is_some z ≡ true → on_count f t (acting z) ≡ go (further (behind_count f (acting_as z))) (out (given t))
on_integer f t (Some (pos n)) h = refl
on_integer f t (Some (negsuc n)) h = refl
on_integer f t None h = absurd (false≢true h)

no_integer : (f : Params) (t : Lexeme) (z : Option ℤ) → is_some z ≡ false → on_count f t (acting z) ≡ stop
no_integer f t (Some n) h = absurd (false≢true (sym h))
no_integer f t None h = refl

count_goes : (f : Params) (t : Lexeme) (b : Bool) (w : List ℕ) → is_some (integer (cond b w [])) ≡ true →
    cond b (on_count f t (acting (integer w))) stop ≡ go (further (behind_count f (acting_as (integer (cond b w []))))) (out (given t))
unfolding integer natural is_natural run_of
count_goes f t true w h = on_integer f t (integer w) h
count_goes f t false w h = absurd (false≢true h)

count-stops : (f : Params) (t : Lexeme) (b : Bool) (w : List ℕ) → is_some (integer (cond b w [])) ≡ false → cond b (on_count f t (acting (integer w))) stop ≡ stop
count-stops f t true w h = no_integer f t (integer w) h
count-stops f t false w h = refl

module _ (f : Params) (text s a : List ℕ) (c : At) (g : Fine text s c) where
  counts : is_count_at text s c.at ≡ true →
      Reads (λ e. counted f ∷ []) (λ e. further (behind_count f (count_at text s c.at))) text s a (set a c.events (log_word 2 c.at)) c (Ok (logged c))
  unfolding outcome Ahead integer_text
  counts e =
      let i = is-count-there text s c.at e in
      let t = token_of (get_or s c.at 0) in
      let x = lexeme_of text c.at (get_or s c.at 0) in
      let n : count_at text s c.at ≡ acting_as (i32_of text t) = count-inside text s c.at i in
      rw n (record {
        says = λ q σ k.
            at-step text s c.at (counted f) (further (behind_count f (acting_as (i32_of text t)))) σ (out (given x)) k (log a c) i
            (count_goes f x (is_kind t.kind K.Integer) (raw_text text t) (sym (is-count-inside text s c.at i) ∙ e));
        ahead = logged_on text s c g i;
      })

  no_count : (β : Nesting → List Symbol) → is_count_at text s c.at ≡ false → Reads (λ e. counted f ∷ []) β text s a a c (Err (Bad c.at))
  unfolding outcome Ahead integer_text
  no_count β e = record { says = λ q σ k. by (ltb c.at (length s)) refl σ k; ahead = g.inside }
    where
      by : (b : Bool) → ltb c.at (length s) ≡ b → (σ : List Symbol) (k : ℕ) → judge text s (counted f ∷ σ) k (log a c) c.at ≡ fault (length s - c.at)
      by true q σ k =
          let i = ltb-true c.at (length s) q in
          let t = token_of (get_or s c.at 0) in
          at-stop text s c.at (counted f) σ k (log a c) i
          (count-stops f (lexeme_of text c.at (get_or s c.at 0)) (is_kind t.kind K.Integer) (raw_text text t) (sym (is-count-inside text s c.at i) ∙ e))
      by false q σ k = at-end text s c.at (counted f) σ k (log a c) (ltb-false c.at (length s) q) refl

pub count_ok : (text s a b : List ℕ) (c d : At) (ok : Bool) → Fine text s c → ok ≡ is_count_at text s c.at → ok ≡ true → b ≡ set a c.events (log_word 2 c.at) → d ≡ logged c →
    CountRead text s a b c (Ok d)
count_ok text s a b c d ok f e z p q =
    rw (p, q) (record { names_too = counts simple text s a c f (sym e ∙ z); registers_too = counts registers text s a c f (sym e ∙ z) })

pub count-bad : (text s a : List ℕ) (c : At) (ok : Bool) → Fine text s c → ok ≡ is_count_at text s c.at → ok ≡ false → CountRead text s a a c (Err (Bad c.at))
count-bad text s a c ok f e z =
    record {
      names_too = no_count simple text s a c f (λ x. repeated C.String (count_at text s c.at)) (sym e ∙ z);
      registers_too = no_count registers text s a c f (λ x. further (behind_count registers (count_at text s c.at))) (sym e ∙ z);
    }

pub count-fine : (text s a b : List ℕ) (c d : At) → CountRead text s a b c (Ok d) → Fine text s d
count-fine text s a b c d v = (on_to text s a b c d v.names_too).fine

pub names_ok : (text s a b b' : List ℕ) (c d : At) (n : ℕ) (z : Result At Unread) → n ≡ count_at text s c.at → CountRead text s a b c (Ok d) → RepeatRead C.String n text s b b' d z → NamesRead text s a b' c z
names_ok text s a b b' c d n z x v w =
    then (λ e. counted simple ∷ []) (λ e. repeated C.String (count_at text s c.at)) nothing text s a b b' c d z v.names_too
    (subst (λ (k : ℕ). RepeatRead C.String k text s b b' d z) x w)

pub names-bad : (text s a b : List ℕ) (c : At) (u : Unread) → CountRead text s a b c (Err u) → NamesRead text s a b c (Err u)
names-bad text s a b c u v = fails (λ e. counted simple ∷ []) (λ e. repeated C.String (count_at text s c.at)) nothing text s a b c u v.names_too

pub function_ok : (text s a b b' : List ℕ) (c d : At) (z : Result At Unread) → NameRead text s a b c (Ok d) → NamesRead text s b b' d z → FunctionRead text s a b' c z
function_ok text s a b b' c d z v w = both (operand string ∷ mark p_comma ∷ []) (counted simple ∷ []) text s a b b' c d z v w

pub function-bad : (text s a b : List ℕ) (c : At) (u : Unread) → NameRead text s a b c (Err u) → FunctionRead text s a b c (Err u)
function-bad text s a b c u v = first_fails (operand string ∷ mark p_comma ∷ []) (counted simple ∷ []) text s a b c u v

pub flags_ok : (text s a b b' : List ℕ) (c d : At) (z : Result At Unread) → NextRead C.U8 text s a b c (Ok d) → RepeatRead C.Bool 9 text s b b' d z → FlagsRead text s a b' c z
flags_ok text s a b b' c d z v w = both (mark p_comma ∷ operand u8 ∷ []) (repeated C.Bool 9) text s a b b' c d z v w

pub flags_bad : (text s a b : List ℕ) (c : At) (u : Unread) → NextRead C.U8 text s a b c (Err u) → FlagsRead text s a b c (Err u)
flags_bad text s a b c u v = first_fails (mark p_comma ∷ operand u8 ∷ []) (repeated C.Bool 9) text s a b c u v

pub flags_pairs_ok : (text s a b b' : List ℕ) (c d : At) (n : ℕ) (z : Result At Unread) → FlagsRead text s a b c (Ok d) → PairsRead n text s b b' d z → FlagsPairsRead n text s a b' c z
flags_pairs_ok text s a b b' c d n z v w = both (mark p_comma ∷ operand u8 ∷ repeated C.Bool 9) (paired n) text s a b b' c d z v w

pub flags_pairs-bad : (text s a b : List ℕ) (c : At) (n : ℕ) (u : Unread) → FlagsRead text s a b c (Err u) → FlagsPairsRead n text s a b c (Err u)
flags_pairs-bad text s a b c n u v = first_fails (mark p_comma ∷ operand u8 ∷ repeated C.Bool 9) (paired n) text s a b c u v

pub registers_ok : (text s a b b' : List ℕ) (c d : At) (n : ℕ) (z : Result At Unread) → n ≡ count_at text s c.at → CountRead text s a b c (Ok d) → FlagsPairsRead n text s b b' d z →
    RegistersRead text s a b' c z
registers_ok text s a b b' c d n z x v w =
    then (λ e. counted registers ∷ []) (λ e. further (behind_count registers (count_at text s c.at))) nothing text s a b b' c d z v.registers_too
    (subst (λ (k : ℕ). FlagsPairsRead k text s b b' d z) x w)

pub registers-bad : (text s a b : List ℕ) (c : At) (u : Unread) → CountRead text s a b c (Err u) → RegistersRead text s a b c (Err u)
registers-bad text s a b c u v = fails (λ e. counted registers ∷ []) (λ e. further (behind_count registers (count_at text s c.at))) nothing text s a b c u v.registers_too

pub function_2_ok : (text s a b b' : List ℕ) (c d : At) (z : Result At Unread) → NameRead text s a b c (Ok d) → RegistersRead text s b b' d z → Function2Read text s a b' c z
function_2_ok text s a b b' c d z v w = both (operand string ∷ mark p_comma ∷ []) (counted registers ∷ []) text s a b b' c d z v w

pub function_2_bad : (text s a b : List ℕ) (c : At) (u : Unread) → NameRead text s a b c (Err u) → Function2Read text s a b c (Err u)
function_2_bad text s a b c u v = first_fails (operand string ∷ mark p_comma ∷ []) (counted registers ∷ []) text s a b c u v

-- ---- frames: the first bool decides

module _ (text s : List ℕ) (at : ℕ) (σ : List Symbol) (n : ℕ) (L : Log) where
  -- behind a true bool a number follows the second one
  flag_true : kind_at s at ≡ 12 → judge text s (flag ∷ σ) n L at ≡ judge text s (operand bool ∷ mark p_comma ∷ operand bool ∷ mark p_comma ∷ operand u16 ∷ σ) n L at
  flag_true e =
      let i = kind-there s at 12 e (omega arith) in
      let k : (code_of (token_of (get_or s at 0)).kind).place ≡ 12 = sym (kind-inside s at i) ∙ e in
      let x = lexeme_of text at (get_or s at 0) in
      at-step text s at flag (further (bool ∷ u16 ∷ [])) σ (out (given x)) n L i (rw k)
      ∙ sym (at-step text s at (operand bool) [] (mark p_comma ∷ operand bool ∷ mark p_comma ∷ operand u16 ∷ σ) (out (given x)) n L i (rw k))

  flag_false : (kind_at s at ≡ 12 → ⊥) → judge text s (flag ∷ σ) n L at ≡ judge text s (operand bool ∷ mark p_comma ∷ operand bool ∷ σ) n L at
  flag_false e = by (ltb at (length s)) refl
    where
      by_flag : at < length s → eqb (code_of (token_of (get_or s at 0)).kind).place 12 ≡ false → (b : Bool) → eqb (code_of (token_of (get_or s at 0)).kind).place 13 ≡ b →
          judge text s (flag ∷ σ) n L at ≡ judge text s (operand bool ∷ mark p_comma ∷ operand bool ∷ σ) n L at
      by_flag i k true q =
          at-step text s at flag (further (bool ∷ [])) σ (out (given (lexeme_of text at (get_or s at 0)))) n L i (rw k (rw q))
          ∙ sym (at-step text s at (operand bool) [] (mark p_comma ∷ operand bool ∷ σ) (out (given (lexeme_of text at (get_or s at 0)))) n L i (rw k (rw q)))
      by_flag i k false q =
          at-stop text s at flag σ n L i (rw k (rw q)) ∙ sym (at-stop text s at (operand bool) (mark p_comma ∷ operand bool ∷ σ) n L i (rw k (rw q)))

      by : (b : Bool) → ltb at (length s) ≡ b → judge text s (flag ∷ σ) n L at ≡ judge text s (operand bool ∷ mark p_comma ∷ operand bool ∷ σ) n L at
      by true q =
          let i = ltb-true at (length s) q in
          by_flag i (ne_eqb (code_of (token_of (get_or s at 0)).kind).place 12 (λ z. e (kind-inside s at i ∙ z))) (eqb (code_of (token_of (get_or s at 0)).kind).place 13) refl
      by false q =
          let i = ltb-false at (length s) q in
          at-end text s at flag σ n L i refl ∙ sym (at-end text s at (operand bool) (mark p_comma ∷ operand bool ∷ σ) n L i refl)

pub frame_biased : (text s a b b' : List ℕ) (c d : At) (k : Bool) (z : Result At Unread) → k ≡ eqb (kind_at s c.at) 12 → TwoRead C.Bool C.Bool text s a b c (Ok d) → k ≡ true → NextRead C.U16 text s b b' d z →
    FrameRead text s a b' c z
unfolding outcome
frame_biased text s a b b' c d k z e v y w =
    record {
      says = λ x σ n. flag_true text s c.at σ n (log a c) (kind-told e y) ∙ v.says x (mark p_comma ∷ operand u16 ∷ σ) n ∙ w.says x σ n;
      ahead = further_on text s c d z (on_to text s a b c d v) w.ahead;
    }

pub frame-plain : (text s a b : List ℕ) (c d : At) (k : Bool) → k ≡ eqb (kind_at s c.at) 12 → TwoRead C.Bool C.Bool text s a b c (Ok d) → k ≡ false → FrameRead text s a b c (Ok d)
frame-plain text s a b c d k e v y = record { says = λ x σ n. flag_false text s c.at σ n (log a c) (kind-untold e y) ∙ v.says x σ n; ahead = v.ahead }

pub frame-bad : (text s a b : List ℕ) (c : At) (u : Unread) → TwoRead C.Bool C.Bool text s a b c (Err u) → FrameRead text s a b c (Err u)
frame-bad text s a b c u v = record { says = λ x σ n. by (eqb (kind_at s c.at) 12) refl x σ n; ahead = v.ahead }
  where
    by : (t : Bool) → eqb (kind_at s c.at) 12 ≡ t → (x : Nesting) (σ : List Symbol) (n : ℕ) → judge text s (flag ∷ σ) n (log a c) c.at ≡ outcome text s σ n b (Err u)
    by true q x σ n =
        flag_true text s c.at σ n (log a c) (eqb-true (kind_at s c.at) 12 q) ∙ v.says x (mark p_comma ∷ operand u16 ∷ σ) n
        ∙ refusal text s (mark p_comma ∷ operand u16 ∷ σ) σ n n b b u
    by false q x σ n = flag_false text s c.at σ n (log a c) (eqb-false (kind_at s c.at) 12 q) ∙ v.says x σ n

-- ---- lists of any length

module _ (text s : List ℕ) (at : ℕ) (e : Nesting) (m : Class) (σ : List Symbol) (n : ℕ) (L : Log) where
  abbrev kind : ℕ
  kind = (code_of (token_of (get_or s at 0)).kind).place

  -- an action may end here as if it had no list
  ends_as : (q : State) (f : at < length s → eqb kind 0 ≡ false → move (level e q) (lexeme_of text at (get_or s at 0)) ≡ stop) →
      (at < length s → eqb kind 0 ≡ true → move (level e q) (lexeme_of text at (get_or s at 0)) ≡ go (level e (item no_handlers) ∷ []) silent) →
      judge text s (level e q ∷ σ) n L at ≡ judge text s (level e (ended no_handlers) ∷ σ) n L at
  ends_as q f g = by (ltb at (length s)) refl
    where
      by-newline : at < length s → (b : Bool) → eqb kind 0 ≡ b → judge text s (level e q ∷ σ) n L at ≡ judge text s (level e (ended no_handlers) ∷ σ) n L at
      by-newline i true z =
          at-step text s at (level e q) (level e (item no_handlers) ∷ []) σ silent n L i (g i z)
          ∙ sym (at-step text s at (level e (ended no_handlers)) (level e (item no_handlers) ∷ []) σ silent n L i (rw z))
      by-newline i false z = at-stop text s at (level e q) σ n L i (f i z) ∙ sym (at-stop text s at (level e (ended no_handlers)) σ n L i (rw z))

      by : (b : Bool) → ltb at (length s) ≡ b → judge text s (level e q ∷ σ) n L at ≡ judge text s (level e (ended no_handlers) ∷ σ) n L at
      by true z = by-newline (ltb-true at (length s) z) (eqb kind 0) refl
      by false z = past_same text s at e q (ended no_handlers) σ n L (ltb-false at (length s) z)

  list_ends : (kind_at s at ≡ 9 → ⊥) → judge text s (level e (list₁ (class_of m)) ∷ σ) n L at ≡ judge text s (level e (ended no_handlers) ∷ σ) n L at
  list_ends h = ends_as (list₁ (class_of m)) (λ i z. rw z (rw (ne_eqb kind 9 (λ y. h (kind-inside s at i ∙ y))))) (λ i z. rw z)

  no_list : fits_at m text s at ≡ false → judge text s (level e (list₀ (class_of m)) ∷ σ) n L at ≡ judge text s (level e (ended no_handlers) ∷ σ) n L at
  unfolding class_at
  no_list h = ends_as (list₀ (class_of m)) (λ i z. let k : class_at m text s at ≡ false = sym (fits-inside m text s at i) ∙ h in rw z (rw k)) (λ i z. rw z)

  -- the first value is an operand before the rest of the list
  some_list : fits_at m text s at ≡ true → judge text s (level e (list₀ (class_of m)) ∷ σ) n L at ≡ judge text s (operand (class_of m) ∷ level e (list₁ (class_of m)) ∷ σ) n L at
  unfolding class_at
  some_list h =
      let i = fits-there m text s at h in
      let t = token_of (get_or s at 0) in
      let k : is_operand (class_of m) (lexeme_of text at (get_or s at 0)) ≡ true = sym (fits-inside m text s at i) ∙ h in
      let l : eqb kind 0 ≡ false = operand_not (class_of m) at t.kind (raw_text text t) newline k in
      at-step text s at (level e (list₀ (class_of m))) (level e (list₁ (class_of m)) ∷ []) σ (out (given (lexeme_of text at (get_or s at 0)))) n L i (rw l (rw k))
      ∙ sym (at-step text s at (operand (class_of m)) [] (level e (list₁ (class_of m)) ∷ σ) (out (given (lexeme_of text at (get_or s at 0)))) n L i (rw k))

  list_comma : kind_at s at ≡ 9 → judge text s (level e (list₁ (class_of m)) ∷ σ) n L at ≡ judge text s (operand (class_of m) ∷ level e (list₁ (class_of m)) ∷ σ) n L (at + 1)
  list_comma h =
      let i = kind-there s at 9 h (omega arith) in
      let k : kind ≡ 9 = sym (kind-inside s at i) ∙ h in
      at-step text s at (level e (list₁ (class_of m))) (operand (class_of m) ∷ level e (list₁ (class_of m)) ∷ []) σ silent n L i (rw k)

abbrev pub in_list : Class → Nesting → List Symbol
in_list m e = level e (list₁ (class_of m)) ∷ []

abbrev pub Listing : Class → List ℕ → List ℕ → List ℕ → List ℕ → At → At → Type 0
Listing m text s a b c p = Reads (in_list m) (in_list m) text s a b c (Ok p)

pub values-start : (text s a : List ℕ) (c : At) (m : Class) → Fine text s c → Listing m text s a a c c
values-start text s a c m f = stays (in_list m) text s a c f

values-then : (text s a b b' : List ℕ) (c p d : At) (m : Class) (k : Bool) (r : Result At Unread) → Listing m text s a b c p → k ≡ eqb (kind_at s p.at) 9 → k ≡ true → Fine text s p → d ≡ passed p →
    OperandRead m text s b b' d r → Reads (in_list m) (in_list m) text s a b' c r
unfolding outcome Ahead
values-then text s a b b' c p d m k r v e z g q w =
    let w' : OperandRead m text s b b' (passed p) r = subst (λ (y : At). OperandRead m text s b b' y r) q w in
    let i = kind-there s p.at 9 (kind-told e z) (omega arith) in
    record {
      says = λ x σ n. v.says x σ n ∙ list_comma text s p.at x m σ n (log b p) (kind-told e z) ∙ w'.says x (level x (list₁ (class_of m)) ∷ σ) n;
      ahead = further_on text s c p r v.ahead (further_on text s p (passed p) r (passed_on text s p g i) w'.ahead);
    }

pub values-next : (text s a b b' : List ℕ) (c p d q : At) (m : Class) (k : Bool) → Listing m text s a b c p → k ≡ eqb (kind_at s p.at) 9 → k ≡ true → Fine text s p → d ≡ passed p →
    OperandRead m text s b b' d (Ok q) → Listing m text s a b' c q
values-next text s a b b' c p d q m k v e z g y w = values-then text s a b b' c p d m k (Ok q) v e z g y w

pub values-bad : (text s a b b' : List ℕ) (c p d : At) (m : Class) (k : Bool) (u : Unread) → Listing m text s a b c p → k ≡ eqb (kind_at s p.at) 9 → k ≡ true → Fine text s p → d ≡ passed p →
    OperandRead m text s b b' d (Err u) → ValuesRead m text s a b' c (Err u)
values-bad text s a b b' c p d m k u v e z g y w = fails (in_list m) (in_list m) action-ends text s a b' c u (values-then text s a b b' c p d m k (Err u) v e z g y w)

pub values-end : (text s a b : List ℕ) (c p : At) (m : Class) (k : Bool) → Listing m text s a b c p → k ≡ eqb (kind_at s p.at) 9 → k ≡ false → ValuesRead m text s a b c (Ok p)
unfolding outcome
values-end text s a b c p m k v e z = record { says = λ x σ n. v.says x σ n ∙ list_ends text s p.at x m σ n (log b p) (kind-untold e z); ahead = v.ahead }

pub values_past : (text s : List ℕ) (p d : At) (k : Bool) → Fine text s p → k ≡ eqb (kind_at s p.at) 9 → k ≡ true → d ≡ passed p → Fine text s d
values_past text s p d k g e z q = rw q (passed-fine text s p g (kind-there s p.at 9 (kind-told e z) (omega arith)))

pub values_less : (text s b b' : List ℕ) (p d q : At) (m : Class) → OperandRead m text s b b' d (Ok q) → d ≡ passed p → length s - q.at < length s - p.at
values_less text s b b' p d q m w e =
    let o = on_to text s b b' d q w in
    omega (arith, o.from, o.fine.inside, ap (λ (x : At). x.at) e)

pub list_ok : (text s a b b' : List ℕ) (c d : At) (m : Class) (ok : Bool) (z : Result At Unread) → ok ≡ fits_at m text s c.at → ok ≡ true → OperandRead m text s a b c (Ok d) →
    ValuesRead m text s b b' d z → ListRead m text s a b' c z
unfolding outcome
list_ok text s a b b' c d m ok z e y v w =
    record {
      says = λ x σ n. some_list text s c.at x m σ n (log a c) (sym e ∙ y) ∙ v.says x (level x (list₁ (class_of m)) ∷ σ) n ∙ w.says x σ n;
      ahead = further_on text s c d z (on_to text s a b c d v) w.ahead;
    }

pub list_none : (text s a : List ℕ) (c : At) (m : Class) (ok : Bool) → Fine text s c → ok ≡ fits_at m text s c.at → ok ≡ false → ListRead m text s a a c (Ok c)
unfolding outcome Ahead
list_none text s a c m ok f e y = record { says = λ x σ n. no_list text s c.at x m σ n (log a c) (sym e ∙ y); ahead = record { from = omega arith; fine = f } }

-- ---- by the shape

module _ (w : Shape) (text s a b : List ℕ) (c : At) (r : Result At Unread) where
  by_shape : (v : Shape) → w ≡ v → OperandsRead v text s a b c r → OperandsRead w text s a b c r
  by_shape v q x = subst (λ (n : Shape). OperandsRead n text s a b c r) (sym q) x

  pub read-values : w ≡ S.Values → ListRead C.Value text s a b c r → OperandsRead w text s a b c r
  read-values q v = by_shape S.Values q v

  pub read_strings : w ≡ S.Strings → ListRead C.String text s a b c r → OperandsRead w text s a b c r
  read_strings q v = by_shape S.Strings q v

  pub read-string-string : w ≡ S.StringString → TwoRead C.String C.String text s a b c r → OperandsRead w text s a b c r
  read-string-string q v = by_shape S.StringString q (framed (operand string ∷ mark p_comma ∷ operand string ∷ []) action-ends text s a b c r v)

  pub read-bool-bool-u8 : w ≡ S.BoolBoolU8 → ThreeRead C.Bool C.Bool C.U8 text s a b c r → OperandsRead w text s a b c r
  read-bool-bool-u8 q v =
      by_shape S.BoolBoolU8 q (framed (operand bool ∷ mark p_comma ∷ operand bool ∷ mark p_comma ∷ operand u8 ∷ []) action-ends text s a b c r v)

  pub read-u16 : w ≡ S.U16 → OperandRead C.U16 text s a b c r → OperandsRead w text s a b c r
  read-u16 q v = by_shape S.U16 q (framed (operand u16 ∷ []) action-ends text s a b c r v)

  pub read-frame : w ≡ S.BoolBoolMaybeU16 → FrameRead text s a b c r → OperandsRead w text s a b c r
  read-frame q v = by_shape S.BoolBoolMaybeU16 q (framed (flag ∷ []) action-ends text s a b c r v)

  pub read-string : w ≡ S.String → OperandRead C.String text s a b c r → OperandsRead w text s a b c r
  read-string q v = by_shape S.String q (framed (operand string ∷ []) action-ends text s a b c r v)

  pub read-identifier : w ≡ S.Identifier → OperandRead C.Identifier text s a b c r → OperandsRead w text s a b c r
  read-identifier q v = by_shape S.Identifier q (framed (operand identifier ∷ []) action-ends text s a b c r v)

  pub read-u8 : w ≡ S.U8 → OperandRead C.U8 text s a b c r → OperandsRead w text s a b c r
  read-u8 q v = by_shape S.U8 q (framed (operand u8 ∷ []) action-ends text s a b c r v)

  pub read-u16-u8 : w ≡ S.U16U8 → TwoRead C.U16 C.U8 text s a b c r → OperandsRead w text s a b c r
  read-u16-u8 q v = by_shape S.U16U8 q (framed (operand u16 ∷ mark p_comma ∷ operand u8 ∷ []) action-ends text s a b c r v)

  pub read-function : w ≡ S.Function → FunctionRead text s a b c r → OperandsRead w text s a b c r
  read-function q v = by_shape S.Function q (framed (operand string ∷ mark p_comma ∷ counted simple ∷ []) (left (function simple)) text s a b c r v)

  pub read-function_2 : w ≡ S.Function2 → Function2Read text s a b c r → OperandsRead w text s a b c r
  read-function_2 q v = by_shape S.Function2 q (framed (operand string ∷ mark p_comma ∷ counted registers ∷ []) (left (function registers)) text s a b c r v)

-- shapes with no operands before the block
pub read-nothing : (w : Shape) (text s a : List ℕ) (c : At) → Fine text s c → (w ≡ S.Nothing) ⊎ ((w ≡ S.Block) ⊎ (w ≡ S.Try)) → OperandsRead w text s a a c (Ok c)
read-nothing w text s a c f (inl q) = by_shape w text s a a c (Ok c) S.Nothing q (stays action-ends text s a c f)
read-nothing w text s a c f (inr (inl q)) = by_shape w text s a a c (Ok c) S.Block q (stays (left within) text s a c f)
read-nothing w text s a c f (inr (inr q)) = by_shape w text s a a c (Ok c) S.Try q (stays (left trying) text s a c f)
