-- What an action takes by the grammar, in the machine's plans, and operands as a first one and further ones, each behind its
-- comma. Assumes nothing.
use mathlib.Core.Path.{◌≡◌}
use mathlib.Core.Bool.{true}
use mathlib.Core.List.{List, [], ◌∷◌}
use Prim.Native.Nat.{ℕ}
use lib.ListN.{replicate}
use Rattle.shapes.specs.declared.Shape.{Shape}
use Rattle.shapes.specs.declared.Shape.TheVariants as S
use Rattle.tokens.specs.declared.TokenKind.TheVariants as K
use Rattle.lexemes.specs.Lexemes.{Lexeme, lexeme}
use Rattle.lexemes.specs.Operands.{Class, string, bool, only_true, only_false, u16, target, count, is_operand}
use Rattle.machine.specs.Plans.{Params, Plan, plain, listing, frame, function, within, trying, plan_of, behind_count}
use Rattle.grammar.specs.Grammar.{Body, nothing, one, of_try, Takes, push, constant_pool, get_url, get_url2, goto_frame, goto_frame2, goto_frame2_bias, goto_label, jump_to, store_register, wait_for_frame, define_function, define_function2, with_block, try_plain, try_target, others, Operands, no_operand, last, comma}

pub data Planned : Plan → List Class → Body → Type 0 where
  fixed : {cs : List Class} → Planned (plain cs) cs nothing
  any_number : {c : Class} (k : ℕ) → Planned (listing c) (replicate k c) nothing
  biased : Planned frame (only_true ∷ bool ∷ u16 ∷ []) nothing
  unbiased : Planned frame (only_false ∷ bool ∷ []) nothing
  parameters : {f : Params} (k : ℕ) → Planned (function f) (string ∷ count k ∷ behind_count f k) one
  block_alone : Planned within [] one
  no_target : Planned trying [] of_try
  has-target : Planned trying (target ∷ []) of_try

pub planned : {s : Shape} {cs : List Class} {b : Body} → Takes s cs b → Planned (plan_of s) cs b
planned (push k) = any_number k
planned (constant_pool k) = any_number k
planned get_url = fixed
planned get_url2 = fixed
planned goto_frame = fixed
planned goto_frame2 = unbiased
planned goto_frame2_bias = biased
planned goto_label = fixed
planned jump_to = fixed
planned store_register = fixed
planned wait_for_frame = fixed
planned (define_function k) = parameters k
planned (define_function2 k) = parameters k
planned with_block = block_alone
planned try_plain = no_target
planned try_target = has-target
planned others = fixed

pub taken : (s : Shape) {cs : List Class} {b : Body} → Planned (plan_of s) cs b → Takes s cs b
taken S.Nothing fixed = others
taken S.Values (any_number k) = push k
taken S.Strings (any_number k) = constant_pool k
taken S.StringString fixed = get_url
taken S.BoolBoolU8 fixed = get_url2
taken S.U16 fixed = goto_frame
taken S.BoolBoolMaybeU16 biased = goto_frame2_bias
taken S.BoolBoolMaybeU16 unbiased = goto_frame2
taken S.String fixed = goto_label
taken S.Identifier fixed = jump_to
taken S.U8 fixed = store_register
taken S.U16U8 fixed = wait_for_frame
taken S.Function (parameters k) = define_function k
taken S.Function2 (parameters k) = define_function2 k
taken S.Block block_alone = with_block
taken S.Try no_target = try_plain
taken S.Try has-target = try_target

-- ---- operands, a first one and further ones

pub data Further : List Class → List Lexeme → List Lexeme → List Lexeme → Type 0 where
  no_further : {r : List Lexeme} → Further [] r [] r
  next : {c : Class} {cs : List Class} {i : ℕ} {w : List ℕ} {t : Lexeme} {ts os r : List Lexeme} →
      is_operand c t ≡ true → Further cs ts os r → Further (c ∷ cs) (lexeme i K.Comma w ∷ t ∷ ts) (t ∷ os) r

pub data Parted : List Class → List Lexeme → List Lexeme → List Lexeme → Type 0 where
  empty : {r : List Lexeme} → Parted [] r [] r
  first : {c : Class} {cs : List Class} {t : Lexeme} {ts os r : List Lexeme} →
      is_operand c t ≡ true → Further cs ts os r → Parted (c ∷ cs) (t ∷ ts) (t ∷ os) r

with_comma : {c d : Class} {cs : List Class} {i : ℕ} {w : List ℕ} {t : Lexeme} {ts os r : List Lexeme} →
    is_operand c t ≡ true → Parted (d ∷ cs) ts os r → Parted (c ∷ d ∷ cs) (t ∷ lexeme i K.Comma w ∷ ts) (t ∷ os) r
with_comma h (first g f) = first h (next g f)

pub parted : {cs : List Class} {ts os r : List Lexeme} → Operands cs ts os r → Parted cs ts os r
parted no_operand = empty
parted (last h) = first h no_further
parted (comma h d) = with_comma h (parted d)

joined : {c : Class} {cs : List Class} {t : Lexeme} {ts os r : List Lexeme} → is_operand c t ≡ true → Further cs ts os r → Operands (c ∷ cs) (t ∷ ts) (t ∷ os) r
joined h no_further = last h
joined h (next g f) = comma h (joined g f)

pub unparted : {cs : List Class} {ts os r : List Lexeme} → Parted cs ts os r → Operands cs ts os r
unparted empty = no_operand
unparted (first h f) = joined h f

-- ---- a Try's operands are at most one, its target

pub data AtMostOne : List Lexeme → Type 0 where
  none-there : AtMostOne []
  one-there : {t : Lexeme} → AtMostOne (t ∷ [])

abbrev pub Few : Body → List Lexeme → Type 0
Few nothing os = Unit {0}
Few one os = Unit {0}
Few of_try os = AtMostOne os

pub few : {p : Plan} {cs : List Class} {b : Body} {ts os r : List Lexeme} → Planned p cs b → Parted cs ts os r → Few b os
few fixed q = tt
few (any_number k) q = tt
few biased q = tt
few unbiased q = tt
few (parameters k) q = tt
few block_alone q = tt
few no_target empty = none-there
few has-target (first h no_further) = one-there
