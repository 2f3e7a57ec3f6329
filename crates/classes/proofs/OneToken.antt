-- The tests of the token at a place are those of the grammar. Assumes nothing.
use mathlib.Core.Path.{◌≡◌, refl, sym, ap, ◌∙◌, subst}
use mathlib.Core.Logic.{◌⊎◌, inl, inr}
use mathlib.Core.Bool.{Bool, true, false, cond, ◌&&◌, true≢false, false≢true}
use mathlib.Core.List.{List, []}
use mathlib.Core.Option.{Option, none, some}
use Prim.Native.Nat.{ℕ, ◌/◌, ◌≤◌, ◌<◌}
use native.Mathlib.Omega.{arith}
use lib.Dec.{T, eqb, ltb}
use lib.IntN.{ℤ, pos, negsuc, nat_abs}
use lib.Signed.{lt_z, non_neg}
use mir.Syntax.{w32, w64}
use mir.Val.{Fits, SFits, to_z, of_z}
use mir.ValLaws.{to_z-of_z}
use lib.ListN.{length, get_or}
use borrow.Author.Tests.{ltb-true, ltb-false, eqb-true, eqb-false, lt-ltb, le-ltb, ne_eqb}
use Rattle.std.specs.Prelude.{Some, None, Result, Ok, Err, is_ok}
use Rattle.std.specs.Prelude as Std
use Rattle.answers.specs.declared.Refusal.{Refusal}
use Rattle.answers.specs.Answers.{Answer, accepted, refused}
use Rattle.scanner.specs.Bytes.{run_of}
use Rattle.tokens.specs.declared.TokenKind.{TokenKind}
use Rattle.tokens.specs.declared.TokenKind.TheVariants as K
use Rattle.tokens.specs.declared.Span.{Span}
use Rattle.tokens.specs.declared.Token.{Token}
use Rattle.tokens.specs.Kinds.{code_of, is_kind, kind_number}
use Rattle.tokens.specs.Tokens.{token_of, within, part, raw_text}
use Rattle.numbers.specs.declared.Double.{Double}
use Rattle.numbers.specs.declared.Double.TheVariants as D
use Rattle.numbers.specs.Integers.{is_natural, natural, integer}
use Rattle.numbers.specs.Doubles.{double}
use Rattle.values.specs.declared.PushValue.{PushValue}
use Rattle.values.specs.Values.{double_or_long, float_value, integer_or, integer_value, push_value, or_six, value_answer, answer, integer_text, i32_of}
use Rattle.lexemes.specs.Operands.{is_some}
use Rattle.lexemes.proofs.Tests.{bare}
use Rattle.lexemes.proofs.Tests as Tests
use Rattle.classes.specs.declared.Class.{Class}
use Rattle.classes.specs.declared.Class.TheVariants as C
use Rattle.classes.specs.Lexemes.{Sound, kind_at, class_at, fits_at, acting_as, count_at, is_count_at}

-- ---- kinds

-- a kind that is not one that carries nothing
other-bare : (k c : TokenKind) → bare c ≡ true → (k ≡ c → ⊥) → is_kind k c ≡ false
other-bare k c g h = by (is_kind k c) refl
  where
    by : (b : Bool) → is_kind k c ≡ b → is_kind k c ≡ false
    by true e = absurd (h (Tests.kind-is k c e g))
    by false e = e

-- a kind that is no string, and one that is no register
other-carrying : (k : TokenKind) → (((x : Bool) → k ≡ K.String x → ⊥) → is_kind k (K.String true) ≡ false) × (((n : ℕ) → k ≡ K.Register n → ⊥) → is_kind k (K.Register 0) ≡ false)
other-carrying K.Newline = (λ h. refl, λ h. refl)
other-carrying (K.String x) = (λ h. absurd (h x refl), λ h. refl)
other-carrying K.Float = (λ h. refl, λ h. refl)
other-carrying K.Integer = (λ h. refl, λ h. refl)
other-carrying (K.Register n) = (λ h. refl, λ h. absurd (h n refl))
other-carrying (K.Constant n) = (λ h. refl, λ h. refl)
other-carrying (K.ActionName a) = (λ h. refl, λ h. refl)
other-carrying K.Identifier = (λ h. refl, λ h. refl)
other-carrying K.Colon = (λ h. refl, λ h. refl)
other-carrying K.Comma = (λ h. refl, λ h. refl)
other-carrying K.OpenBrace = (λ h. refl, λ h. refl)
other-carrying K.CloseBrace = (λ h. refl, λ h. refl)
other-carrying K.True = (λ h. refl, λ h. refl)
other-carrying K.False = (λ h. refl, λ h. refl)
other-carrying K.Null = (λ h. refl, λ h. refl)
other-carrying K.Undefined = (λ h. refl, λ h. refl)
other-carrying K.Catch = (λ h. refl, λ h. refl)
other-carrying K.Finally = (λ h. refl, λ h. refl)
other-carrying K.Unknown = (λ h. refl, λ h. refl)

-- ---- the kind's place

pub kind-inside : (s : List ℕ) (at : ℕ) → at < length s → kind_at s at ≡ (code_of (token_of (get_or s at 0)).kind).place
unfolding kind_at
kind-inside s at h = rw (lt-ltb at (length s) h)

pub kind_past : (s : List ℕ) (at : ℕ) → length s ≤ at → 99 ≡ kind_at s at
unfolding kind_at
kind_past s at h = rw (le-ltb at (length s) h)

pub kind_same : (s : List ℕ) (at : ℕ) (k : TokenKind) (p n : ℕ) → at < length s → p ≡ (code_of (token_of (get_or s at 0)).kind).place → n ≡ kind_number k →
    eqb p (n / 65536) ≡ eqb (kind_at s at) (kind_number k / 65536)
kind_same s at k p n h e q = rw (kind-inside s at h, e, q) refl

pub no-kind : (s : List ℕ) (at : ℕ) (k : TokenKind) (n : ℕ) → length s ≤ at → n ≡ kind_number k → n < 2097152 → ltb at (length s) ≡ eqb (kind_at s at) (kind_number k / 65536)
no-kind s at k n h q l =
    rw (le-ltb at (length s) h, sym (kind_past s at h))
    (sym (ne_eqb 99 (kind_number k / 65536) (λ z. omega (arith, q, l, z))))

-- what the test told
pub kind-told : {b : Bool} {n m : ℕ} → b ≡ eqb n m → b ≡ true → n ≡ m
kind-told {n = n} {m = m} e z = eqb-true n m (sym e ∙ z)

pub kind-untold : {b : Bool} {n m : ℕ} → b ≡ eqb n m → b ≡ false → n ≡ m → ⊥
kind-untold {n = n} {m = m} e z = eqb-false n m (sym e ∙ z)

-- ---- values

-- bounds do not decide whether there is a value
float_some : (d : Std.Option Double) (a b : Span) → is_some (double_or_long d a) ≡ is_some (double_or_long d b)
float_some (Some (D.Is x)) a b = refl
float_some (Some D.Long) a b = refl
float_some None a b = refl

integer-some : (z : Std.Option ℤ) (v w : Option PushValue) → is_some v ≡ is_some w → is_some (integer_or z v) ≡ is_some (integer_or z w)
integer-some (Some n) v w h = refl
integer-some None v w h = h

some_anyway : (k : TokenKind) (w : List ℕ) (a b : Span) → is_some (push_value k w a) ≡ is_some (push_value k w b)
unfolding push_value float_value integer_value
some_anyway K.Newline w a b = refl
some_anyway (K.String c) w a b = refl
some_anyway K.Float w a b = float_some (double w) a b
some_anyway K.Integer w a b = integer-some (integer w) (double_or_long (double w) a) (double_or_long (double w) b) (float_some (double w) a b)
some_anyway (K.Register n) w a b = refl
some_anyway (K.Constant n) w a b = refl
some_anyway (K.ActionName n) w a b = refl
some_anyway K.Identifier w a b = refl
some_anyway K.Colon w a b = refl
some_anyway K.Comma w a b = refl
some_anyway K.OpenBrace w a b = refl
some_anyway K.CloseBrace w a b = refl
some_anyway K.True w a b = refl
some_anyway K.False w a b = refl
some_anyway K.Null w a b = refl
some_anyway K.Undefined w a b = refl
some_anyway K.Catch w a b = refl
some_anyway K.Finally w a b = refl
some_anyway K.Unknown w a b = refl

-- whether something is accepted
abbrev is-accepted : {A : Type 0} → Answer A → Bool
is-accepted (accepted v) = true
is-accepted (refused n p) = false

or_six_lem : (o : Option PushValue) → is-accepted (or_six o) ≡ is_some o
or_six_lem none = refl
or_six_lem (some v) = refl

value-told : (text s : List ℕ) (at : ℕ) → Sound text s → at < length s → is-accepted (value_answer text (token_of (get_or s at 0))) ≡ class_at C.Value text s at
unfolding value_answer class_at within
value-told text s at f h =
    let t = token_of (get_or s at 0) in
    rw (le-ltb 65536 (length text) f.bytes, f.within at h)
    (or_six_lem (push_value t.kind (part text t.raw) t.raw) ∙ some_anyway t.kind (part text t.raw) t.raw _)

accepted-ok : (r : Result PushValue Refusal) → is-accepted (answer r) ≡ is_ok r
accepted-ok (Ok v) = refl
accepted-ok (Err e) = refl

-- ---- whole numbers

-- of a token that is no Integer nothing is parsed
parsed_told : (top : ℕ) (b : Bool) (w : List ℕ) → Std.is_some (natural top (cond b w [])) ≡ (b && Std.is_some (natural top w))
unfolding natural is_natural run_of
parsed_told top true w = refl
parsed_told top false w = refl

-- the largest number of a width
pub data Largest : Class → ℕ → Type 0 where
  u8 : Largest C.U8 255
  u16 : Largest C.U16 65535

natural-told : {m : Class} {top : ℕ} → Largest m top → (text s : List ℕ) (at : ℕ)
    → Std.is_some (natural top (integer_text text (token_of (get_or s at 0)))) ≡ class_at m text s at
unfolding class_at integer_text
natural-told u8 text s at = let t = token_of (get_or s at 0) in parsed_told 255 (is_kind t.kind K.Integer) (raw_text text t)
natural-told u16 text s at = let t = token_of (get_or s at 0) in parsed_told 65535 (is_kind t.kind K.Integer) (raw_text text t)

module _ {m : Class} {top : ℕ} (l : Largest m top) (text s : List ℕ) (at : ℕ) (t : Token) (r v : Std.Option ℕ) where
  parsed_at : t ≡ token_of (get_or s at 0) → r ≡ natural top (integer_text text t) → r ≡ v → Std.is_some v ≡ class_at m text s at
  parsed_at e a q = ap Std.is_some (sym q ∙ a ∙ ap (λ (x : Token). natural top (integer_text text x)) e) ∙ natural-told l text s at

pub natural-is : {m : Class} {top : ℕ} → Largest m top → (text s : List ℕ) (at : ℕ) (t : Token) (n : ℕ) (r : Std.Option ℕ)
    → t ≡ token_of (get_or s at 0) → r ≡ natural top (integer_text text t) → r ≡ Some n → true ≡ class_at m text s at
natural-is l text s at t n r e a q = parsed_at l text s at t r (Some n) e a q

pub natural-is_not : {m : Class} {top : ℕ} → Largest m top → (text s : List ℕ) (at : ℕ) (t : Token) (r : Std.Option ℕ)
    → t ≡ token_of (get_or s at 0) → r ≡ natural top (integer_text text t) → r ≡ None → false ≡ class_at m text s at
natural-is_not l text s at t r e a q = parsed_at l text s at t r None e a q

-- ---- the class at a place

pub fits-inside : (m : Class) (text s : List ℕ) (at : ℕ) → at < length s → fits_at m text s at ≡ class_at m text s at
unfolding fits_at
fits-inside m text s at h = rw (lt-ltb at (length s) h)

pub fits_past : (m : Class) (text s : List ℕ) (at : ℕ) → length s ≤ at → fits_at m text s at ≡ false
unfolding fits_at
fits_past m text s at h = rw (le-ltb at (length s) h)

pub fits-there : (m : Class) (text s : List ℕ) (at : ℕ) → fits_at m text s at ≡ true → at < length s
fits-there m text s at e = by (ltb at (length s)) refl
  where
    by : (b : Bool) → ltb at (length s) ≡ b → at < length s
    by true q = ltb-true at (length s) q
    by false q = absurd (false≢true (sym (fits_past m text s at (ltb-false at (length s) q)) ∙ e))

pub none-fits : (m : Class) (text s : List ℕ) (at : ℕ) → length s ≤ at → false ≡ fits_at m text s at
none-fits m text s at h = sym (fits_past m text s at h)

module _ (m : Class) (text s : List ℕ) (at : ℕ) (h : at < length s) where
  -- by its kind alone
  module _ (t : Token) (et : t ≡ token_of (get_or s at 0)) where
    by_kind : (b : Bool) (n : Class) → m ≡ n → b ≡ class_at n text s at → b ≡ fits_at m text s at
    by_kind b n q e = rw (q, fits-inside n text s at h) e

    pub string-fits : (x : Bool) → m ≡ C.String → t.kind ≡ K.String x → true ≡ fits_at m text s at
    unfolding class_at
    string-fits x q p = by_kind true C.String q (rw (sym et, p) refl)

    pub no-string-fits : m ≡ C.String → ((x : Bool) → t.kind ≡ K.String x → ⊥) → false ≡ fits_at m text s at
    unfolding class_at
    no-string-fits q p = by_kind false C.String q (rw (sym et, (other-carrying t.kind).0 p) refl)

    pub identifier-fits : m ≡ C.Identifier → t.kind ≡ K.Identifier → true ≡ fits_at m text s at
    unfolding class_at
    identifier-fits q p = by_kind true C.Identifier q (rw (sym et, p) refl)

    pub no-identifier-fits : m ≡ C.Identifier → (t.kind ≡ K.Identifier → ⊥) → false ≡ fits_at m text s at
    unfolding class_at
    no-identifier-fits q p = by_kind false C.Identifier q (rw (sym et, other-bare t.kind K.Identifier refl p) refl)

    pub bool-fits : m ≡ C.Bool → (t.kind ≡ K.True) ⊎ (t.kind ≡ K.False) → true ≡ fits_at m text s at
    unfolding class_at
    bool-fits q (inl p) = by_kind true C.Bool q (rw (sym et, p) refl)
    bool-fits q (inr p) = by_kind true C.Bool q (rw (sym et, p) refl)

    pub no-bool-fits : m ≡ C.Bool → (t.kind ≡ K.True → ⊥) → (t.kind ≡ K.False → ⊥) → false ≡ fits_at m text s at
    unfolding class_at
    no-bool-fits q p r = by_kind false C.Bool q (rw (sym et, other-bare t.kind K.True refl p, other-bare t.kind K.False refl r) refl)

    pub target-fits : m ≡ C.Target → ((x : Bool) × (t.kind ≡ K.String x)) ⊎ ((n : ℕ) × (t.kind ≡ K.Register n)) → true ≡ fits_at m text s at
    unfolding class_at
    target-fits q (inl p) = by_kind true C.Target q (rw (sym et, p.1) refl)
    target-fits q (inr p) = by_kind true C.Target q (rw (sym et, p.1) refl)

    pub no-target-fits : m ≡ C.Target → ((x : Bool) → t.kind ≡ K.String x → ⊥) → ((n : ℕ) → t.kind ≡ K.Register n → ⊥) → false ≡ fits_at m text s at
    unfolding class_at
    no-target-fits q p r = by_kind false C.Target q (rw (sym et, (other-carrying t.kind).0 p, (other-carrying t.kind).1 r) refl)

  -- by what the token is worth
  module _ (t : Token) (et : t ≡ token_of (get_or s at 0)) (b : Bool) where
    pub value-fits : (r : Result PushValue Refusal) → Sound text s → answer r ≡ value_answer text t → b ≡ is_ok r → m ≡ C.Value → b ≡ fits_at m text s at
    value-fits r f a q n =
        rw (n, fits-inside C.Value text s at h)
        (q ∙ sym (accepted-ok r) ∙ ap is-accepted (a ∙ ap (value_answer text) et) ∙ value-told text s at f h)

    -- of either width
    natural_fits : {n : Class} {top : ℕ} → Largest n top → (r : Std.Option ℕ) → r ≡ natural top (integer_text text t) → b ≡ Std.is_some r → m ≡ n → b ≡ fits_at m text s at
    natural_fits {n = n} l r a q p = rw (p, fits-inside n text s at h) (q ∙ parsed_at l text s at t r r et a refl)

    pub u8-fits : (r : Std.Option ℕ) → r ≡ natural 255 (integer_text text t) → b ≡ Std.is_some r → m ≡ C.U8 → b ≡ fits_at m text s at
    u8-fits r a q n = natural_fits u8 r a q n

    pub u16-fits : (r : Std.Option ℕ) → r ≡ natural 65535 (integer_text text t) → b ≡ Std.is_some r → m ≡ C.U16 → b ≡ fits_at m text s at
    u16-fits r a q n = natural_fits u16 r a q n

-- ---- counts

pub count-inside : (text s : List ℕ) (at : ℕ) → at < length s → count_at text s at ≡ acting_as (i32_of text (token_of (get_or s at 0)))
unfolding count_at
count-inside text s at h = rw (lt-ltb at (length s) h)

pub count_past : (text s : List ℕ) (at : ℕ) → length s ≤ at → 0 ≡ count_at text s at
unfolding count_at
count_past text s at h = rw (le-ltb at (length s) h)

pub is-count-inside : (text s : List ℕ) (at : ℕ) → at < length s → is_count_at text s at ≡ Std.is_some (i32_of text (token_of (get_or s at 0)))
unfolding is_count_at
is-count-inside text s at h = rw (lt-ltb at (length s) h)

pub is-count_past : (text s : List ℕ) (at : ℕ) → length s ≤ at → false ≡ is_count_at text s at
unfolding is_count_at
is-count_past text s at h = rw (le-ltb at (length s) h)

pub is-count-there : (text s : List ℕ) (at : ℕ) → is_count_at text s at ≡ true → at < length s
is-count-there text s at e = by (ltb at (length s)) refl
  where
    by : (b : Bool) → ltb at (length s) ≡ b → at < length s
    by true q = ltb-true at (length s) q
    by false q = absurd (false≢true (is-count_past text s at (ltb-false at (length s) q) ∙ e))

pub is-count-is : (text s : List ℕ) (at : ℕ) (t : Token) (r : Std.Option ℤ) (b : Bool) → at < length s → t ≡ token_of (get_or s at 0) → r ≡ i32_of text t → b ≡ Std.is_some r → b ≡ is_count_at text s at
is-count-is text s at t r b h e a q = q ∙ ap Std.is_some (a ∙ ap (i32_of text) e) ∙ sym (is-count-inside text s at h)

-- an i32 as the machine holds it
module _ (z : ℤ) (f : SFits w32 z) where
  kept : to_z w32 (of_z w32 z) ≡ z
  kept = to_z-of_z w32 z f

  pub acts_below : lt_z (to_z w32 (of_z w32 z)) (pos 0) ≡ true → 0 ≡ acting_as (Some z)
  acts_below e = by z (ap (λ (x : ℤ). lt_z x (pos 0)) (sym kept) ∙ e)
    where
      by : (x : ℤ) → lt_z x (pos 0) ≡ true → 0 ≡ acting_as (Some x)
      by (pos n) e = absurd (omega (arith, ltb-true n 0 e))
      by (negsuc n) e = refl

  pub acts_above : lt_z (to_z w32 (of_z w32 z)) (pos 0) ≡ false → nat_abs (to_z w32 (of_z w32 z)) ≡ acting_as (Some z)
  acts_above e = ap nat_abs kept ∙ by z (ap (λ (x : ℤ). lt_z x (pos 0)) (sym kept) ∙ e)
    where
      by : (x : ℤ) → lt_z x (pos 0) ≡ false → nat_abs x ≡ acting_as (Some x)
      by (pos n) e = refl
      by (negsuc n) e = absurd (true≢false e)

  pub acts-fits : lt_z (to_z w32 (of_z w32 z)) (pos 0) ≡ false → T (non_neg (to_z w32 (of_z w32 z))) × Fits w64 (nat_abs (to_z w32 (of_z w32 z)))
  acts-fits e = subst (λ (x : ℤ). T (non_neg x) × Fits w64 (nat_abs x)) (sym kept) (by z f (ap (λ (x : ℤ). lt_z x (pos 0)) (sym kept) ∙ e))
    where
      by : (x : ℤ) → SFits w32 x → lt_z x (pos 0) ≡ false → T (non_neg x) × Fits w64 (nat_abs x)
      by (pos n) g e = let h = g.sfits in (tt, record { fits = omega arith })
      by (negsuc n) g e = absurd (true≢false e)

pub count-is : (text s : List ℕ) (at : ℕ) (t : Token) (z : ℤ) (r : Std.Option ℤ) (k : ℕ) → SFits w32 z → at < length s → t ≡ token_of (get_or s at 0) → r ≡ i32_of text t → r ≡ Some z →
    k ≡ acting_as (Some (to_z w32 (of_z w32 z))) → k ≡ count_at text s at
count-is text s at t z r k f h e a q g =
    g ∙ ap (λ (y : ℤ). acting_as (Some y)) (kept z f) ∙ ap acting_as (sym q ∙ a ∙ ap (i32_of text) e) ∙ sym (count-inside text s at h)

pub count-is-none : (text s : List ℕ) (at : ℕ) (t : Token) (r : Std.Option ℤ) → at < length s → t ≡ token_of (get_or s at 0) → r ≡ i32_of text t → r ≡ None → 0 ≡ count_at text s at
count-is-none text s at t r h e a q = ap acting_as (sym q ∙ a ∙ ap (i32_of text) e) ∙ sym (count-inside text s at h)
