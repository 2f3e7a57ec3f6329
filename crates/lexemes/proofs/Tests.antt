-- Tests, and those of one token: what a test that holds says, and which tests shut each other out. Assumes nothing.
use mathlib.Core.Path.{◌≡◌, refl, sym, ap, ◌∙◌, subst}
use mathlib.Core.Bool.{Bool, true, false, cond, not, ◌&&◌, ◌||◌, false≢true}
use mathlib.Core.Option.{some}
use mathlib.Core.List.{List}
use Prim.Native.Nat.{ℕ}
use lib.Dec.{eqb, leb}
use lib.IntN.{ℤ, pos, negsuc}
use lib.ListN.{get_or}
use borrow.Author.Tests.{eqb-true, eq-eqb}
use Rattle.std.specs.Prelude.{Option, Some, None}
use Rattle.tokens.specs.declared.TokenKind.{TokenKind}
use Rattle.tokens.specs.declared.TokenKind.TheVariants as K
use Rattle.tokens.specs.Kinds.{code_of, is_kind, kinds}
use Rattle.values.specs.Values.{push_value}
use Rattle.lexemes.specs.Lexemes.{lexeme}
use Rattle.lexemes.specs.Operands.{Class, string, value, bool, only_true, only_false, u8, u16, identifier, target, count, is_operand, acts_as, acting}

pub both : (a b : Bool) → (a && b) ≡ true → (a ≡ true) × (b ≡ true)
both true b h = (refl, h)
both false b h = absurd (false≢true h)

-- what both values have, the chosen one has; the first is chosen where the test holds
pub chosen : {A : Type 0} (P : A → Type 0) (b : Bool) (x y : A) → (b ≡ true → P x) → P y → P (cond b x y)
chosen P true x y f k = f refl
chosen P false x y f k = k

pub either : {A : Type 0} (P : A → Type 0) (b : Bool) (x y : A) → P x → P y → P (cond b x y)
either P b x y h k = chosen P b x y (λ _. h) k

-- ---- kinds

-- a kind that carries nothing
abbrev bare_at_lem : ℕ → Bool
bare_at_lem n = not (eqb n 1 || (leb 4 n && leb n 6))

abbrev pub bare : TokenKind → Bool
bare k = bare_at_lem (code_of k).place

known : (k : TokenKind) → bare k ≡ true → get_or (kinds 0) (code_of k).place K.Unknown ≡ k
known K.Newline h = refl
known (K.String c) h = absurd (false≢true h)
known K.Float h = refl
known K.Integer h = refl
known (K.Register n) h = absurd (false≢true h)
known (K.Constant n) h = absurd (false≢true h)
known (K.ActionName a) h = absurd (false≢true h)
known K.Identifier h = refl
known K.Colon h = refl
known K.Comma h = refl
known K.OpenBrace h = refl
known K.CloseBrace h = refl
known K.True h = refl
known K.False h = refl
known K.Null h = refl
known K.Undefined h = refl
known K.Catch h = refl
known K.Finally h = refl
known K.Unknown h = refl

-- such a kind is known by its place
pub kind-is : (k c : TokenKind) → is_kind k c ≡ true → bare c ≡ true → k ≡ c
kind-is k c h g =
    let e = eqb-true (code_of k).place (code_of c).place h in
    sym (known k (subst (λ (n : ℕ). bare_at_lem n ≡ true) (sym e) g)) ∙ ap (λ (n : ℕ). get_or (kinds 0) n K.Unknown) e ∙ known c g

-- a token of the kind c is of no kind in another place
pub other : (k c d : TokenKind) → is_kind k c ≡ true → is_kind c d ≡ false → is_kind k d ≡ false
other k c d h g = subst (λ (n : ℕ). eqb n (code_of d).place ≡ false) (sym (eqb-true (code_of k).place (code_of c).place h)) g

-- ---- operands

-- a kind that no operand has
pub data Mark : TokenKind → Type 0 where
  newline : Mark K.Newline
  open_brace : Mark K.OpenBrace
  close_brace : Mark K.CloseBrace

mark_bare : {c : TokenKind} → Mark c → bare c ≡ true
mark_bare newline = refl
mark_bare open_brace = refl
mark_bare close_brace = refl

no_value : {c : TokenKind} (i : ℕ) (w : List ℕ) → Mark c → is_operand value (lexeme i c w) ≡ false
unfolding push_value
no_value i w newline = refl
no_value i w open_brace = refl
no_value i w close_brace = refl

no_operand : (m : Class) {c : TokenKind} (i : ℕ) (w : List ℕ) → Mark c → is_operand m (lexeme i c w) ≡ false
no_operand value i w h = no_value i w h
no_operand string i w newline = refl
no_operand string i w open_brace = refl
no_operand string i w close_brace = refl
no_operand bool i w newline = refl
no_operand bool i w open_brace = refl
no_operand bool i w close_brace = refl
no_operand only_true i w newline = refl
no_operand only_true i w open_brace = refl
no_operand only_true i w close_brace = refl
no_operand only_false i w newline = refl
no_operand only_false i w open_brace = refl
no_operand only_false i w close_brace = refl
no_operand u8 i w newline = refl
no_operand u8 i w open_brace = refl
no_operand u8 i w close_brace = refl
no_operand u16 i w newline = refl
no_operand u16 i w open_brace = refl
no_operand u16 i w close_brace = refl
no_operand identifier i w newline = refl
no_operand identifier i w open_brace = refl
no_operand identifier i w close_brace = refl
no_operand target i w newline = refl
no_operand target i w open_brace = refl
no_operand target i w close_brace = refl
no_operand (count n) i w newline = refl
no_operand (count n) i w open_brace = refl
no_operand (count n) i w close_brace = refl

-- an operand is of no such kind
pub operand_not : (m : Class) {c : TokenKind} (i : ℕ) (k : TokenKind) (w : List ℕ) → Mark c → is_operand m (lexeme i k w) ≡ true → is_kind k c ≡ false
operand_not m {c = c} i k w g h = by (is_kind k c) refl
  where
    by : (b : Bool) → is_kind k c ≡ b → is_kind k c ≡ false
    by true e =
        absurd (false≢true (sym (no_operand m i w g) ∙ subst (λ (x : TokenKind). is_operand m (lexeme i x w) ≡ true) (kind-is k c e (mark_bare g)) h))
    by false e = e

-- ---- counts

pub acts-known : (n : ℕ) (z : Option ℤ) → acts_as n z ≡ true → acting z ≡ some n
acts-known n (Some (pos m)) h = ap some (eqb-true m n h)
acts-known n (Some (negsuc m)) h = ap some (eqb-true 0 n h)
acts-known n None h = absurd (false≢true h)

pub acting-acts : (n : ℕ) (z : Option ℤ) → acting z ≡ some n → acts_as n z ≡ true
acting-acts n (Some (pos m)) h = let e : m ≡ n = cc in rw e (eq-eqb n n refl)
acting-acts n (Some (negsuc m)) h = let e : 0 ≡ n = cc in rw (← e) (eq-eqb 0 0 refl)
acting-acts n None h = absurd (let z : 0 ≡ 1 = cc in false≢true (ap (λ (i : ℕ). eqb i 1) z))
