-- Backward: what the machine accepts, the grammar derives. `Yields a ts r` says in the grammar's terms what a symbol stands
-- for, `Derives` what a stack does; each move, read backwards, keeps it. Assumes nothing.
use mathlib.Core.Path.{◌≡◌, refl, subst}
use mathlib.Core.Bool.{Bool, true, false, false≢true}
use mathlib.Core.Option.{Option}
use mathlib.Core.List.{List, [], ◌∷◌, ◌++◌, append_assoc}
use Prim.Native.Nat.{ℕ, suc}
use lib.ListN.{replicate, length}
use Rattle.names.specs.declared.ActionName.{ActionName}
use Rattle.shapes.specs.Shapes.{shape_of}
use Rattle.tokens.specs.declared.TokenKind.{TokenKind}
use Rattle.tokens.specs.declared.TokenKind.TheVariants as K
use Rattle.tokens.specs.Kinds.{is_kind}
use Rattle.lexemes.specs.Lexemes.{Lexeme, lexeme}
use Rattle.lexemes.specs.Operands.{Class, bool, only_true, only_false, u16, target, count, is_operand}
use Rattle.lexemes.specs.Events.{Part, try, Event}
use Rattle.lexemes.proofs.Tests.{kind-is}
use Rattle.machine.specs.Plans.{Params, Plan, plain, listing, frame, function, within, trying, plan_of, behind_count}
use Rattle.machine.specs.Machine.{Nesting, top, inner, Handlers, no_handlers, after_try, after-catch, item, ended, list₀, list₁, Punctuation, kind-of, Symbol, mark, operand, flag, counted, opens, targets, level, Output, Move, stop, go, further, listed, start, move, Accepts, text, may_end, puts, finish, proceed, run}
use Rattle.machine.proofs.Moves.{ends, ends₀, ends₁, Step, marks, gives, flags_true, flags_false, counts, block-opens, try-opens, has-target, skips, names, closes, catches, finishes-try, finishes-catch, begins, ends_at, lists_first, lists_next, Legal, halts, steps, legal}
use Rattle.grammar.specs.Grammar.{Items, Blocks, block, Body, of_try, no_newline, newline, Ended, text-ends, line_ends_lem, Level, level as level-is, Written, ends as written-ends, names as names-label, acts, Block, braces, Bodies, no_body, one-body, try-body, Catch, no_catch, catches as catches-block, Finally, no_finally, finishes, Text}
use Rattle.grammar.proofs.Plans.{Planned, fixed, any_number, biased, unbiased, parameters, block_alone, no_target, has-target as target-planned, taken, Further, no_further, next, Parted, empty, first, unparted}

-- what a level leaves, and what is left behind it: nothing of a text, of a block what stands behind its brace
data Rest : Nesting → List Lexeme → List Lexeme → Type 0 where
  at-end : Rest top [] []
  at_brace : {i : ℕ} {w : List ℕ} {r : List Lexeme} → Rest inner (lexeme i K.CloseBrace w ∷ r) r

-- what is left of a level from an item on
data Tail : Nesting → List Lexeme → List Lexeme → Type 0 where
  tail : {e : Nesting} {ts r₁ r : List Lexeme} {x : Items} → Level ts x r₁ → Rest e r₁ r → Tail e ts r

-- the same from the end of an action on
data Behind : Nesting → List Lexeme → List Lexeme → Type 0 where
  behind : {e : Nesting} {ts r₁ r₂ r : List Lexeme} {x : Items} → Ended ts r₁ → Written r₁ x r₂ → Rest e r₂ r → Behind e ts r

-- the handlers that follow, by which may; a Try's operands are put in later
data Follow : Handlers → List Lexeme → List Lexeme → Type 0 where
  none_may : {r : List Lexeme} → Follow no_handlers r r
  catch_may : {o : Option Lexeme} {ts kept r : List Lexeme} {bs : Blocks} → Catch [] ts kept bs r → Follow (after_try o) ts r
  finally_may : {ts r : List Lexeme} {bs : Blocks} → Finally ts bs r → Follow after-catch ts r

-- what a symbol stands for
data Yields : Symbol → List Lexeme → List Lexeme → Type 0 where
  y_mark : {c : Punctuation} {k : TokenKind} {i : ℕ} {w : List ℕ} {r : List Lexeme} → is_kind k (kind-of c) ≡ true → Yields (mark c) (lexeme i k w ∷ r) r
  y_operand : {c : Class} {t : Lexeme} {r : List Lexeme} → is_operand c t ≡ true → Yields (operand c) (t ∷ r) r
  y_true : {ts os r : List Lexeme} → Parted (only_true ∷ bool ∷ u16 ∷ []) ts os r → Yields flag ts r
  y_false : {ts os r : List Lexeme} → Parted (only_false ∷ bool ∷ []) ts os r → Yields flag ts r
  y_count : {f : Params} {t : Lexeme} {ts os r : List Lexeme} (k : ℕ) → is_operand (count k) t ≡ true → Further (behind_count f k) ts os r → Yields (counted f) (t ∷ ts) r
  y_opens : {p : Part} {ts r : List Lexeme} {x : Items} → Block ts x r → Yields (opens p) ts r
  y_no_target : {e : Nesting} {ts kept r₁ r₂ r : List Lexeme} {x : Items} {bs : Blocks} →
      Block ts x r₁ → Catch [] r₁ kept bs r₂ → Behind e r₂ r → Yields (targets e) ts r
  y_target : {e : Nesting} {t : Lexeme} {ts kept r₁ r₂ r : List Lexeme} {x : Items} {bs : Blocks} →
      is_operand target t ≡ true → Block ts x r₁ → Catch [] r₁ kept bs r₂ → Behind e r₂ r → Yields (targets e) (t ∷ ts) r
  y_level : {e : Nesting} {h : Handlers} {ts r : List Lexeme} → Tail e ts r → Yields (level e (item h)) ts r
  -- behind a newline the machine may still come to a handler: what it stands for is said with that newline put back
  y_handler : {e : Nesting} {h : Handlers} {ts r : List Lexeme} →
      ((i : ℕ) (w : List ℕ) → Yields (level e (ended h)) (lexeme i K.Newline w ∷ ts) r) → Yields (level e (item h)) ts r
  y_ended : {e : Nesting} {h : Handlers} {ts r₁ r : List Lexeme} → Follow h ts r₁ → Behind e r₁ r → Yields (level e (ended h)) ts r
  y_list₀ : {e : Nesting} {c : Class} {ts os r₁ r : List Lexeme} (k : ℕ) → Parted (replicate k c) ts os r₁ → Behind e r₁ r → Yields (level e (list₀ c)) ts r
  y_list₁ : {e : Nesting} {c : Class} {ts os r₁ r : List Lexeme} (k : ℕ) → Further (replicate k c) ts os r₁ → Behind e r₁ r → Yields (level e (list₁ c)) ts r

data Derives : List Symbol → List Lexeme → Type 0 where
  d_end : Derives [] []
  d_symbol : {a : Symbol} {σ : List Symbol} {ts r : List Lexeme} → Yields a ts r → Derives σ r → Derives (a ∷ σ) ts

-- ---- operands

-- a mark is known by its test
as_comma : {k : TokenKind} {c : Class} {cs : List Class} {i : ℕ} {w : List ℕ} {t : Lexeme} {ts os r : List Lexeme} → (is_kind k K.Comma ≡ true) → is_operand c t ≡ true →
    Further cs ts os r → Further (c ∷ cs) (lexeme i k w ∷ t ∷ ts) (t ∷ os) r
as_comma {k = k} h g q = rw (kind-is k K.Comma h refl) (next g q)

further_back : (cs : List Class) {σ : List Symbol} {ts : List Lexeme} → Derives (further cs ++ σ) ts →
    (os : List Lexeme) × (r : List Lexeme) × Further cs ts os r × Derives σ r
further_back [] {ts = ts} d = ([], ts, no_further, d)
further_back (c ∷ cs) (d_symbol (y_mark h) (d_symbol (y_operand {t = t} g) d)) =
    let b = further_back cs d in
    (t ∷ b.0, b.1, as_comma h g b.2, b.3)

listed_back : (cs : List Class) {σ : List Symbol} {ts : List Lexeme} → Derives (listed cs ++ σ) ts →
    (os : List Lexeme) × (r : List Lexeme) × Parted cs ts os r × Derives σ r
listed_back [] {ts = ts} d = ([], ts, empty, d)
listed_back (c ∷ cs) (d_symbol (y_operand {t = t} g) d) =
    let b = further_back cs d in
    (t ∷ b.0, b.1, first g b.2, b.3)

-- ---- levels

-- a newline ends an action
line_behind : {e : Nesting} {i : ℕ} {w : List ℕ} {ts r : List Lexeme} → Tail e ts r → Behind e (lexeme i K.Newline w ∷ ts) r
line_behind (tail (level-is n d) z) = behind (line_ends_lem n) d z

-- and behind it the level goes on
behind_line : {e : Nesting} {i : ℕ} {w : List ℕ} {ts r : List Lexeme} → Behind e (lexeme i K.Newline w ∷ ts) r → Tail e ts r
behind_line (behind (line_ends_lem n) d z) = tail (level-is n d) z

more_lines : {e : Nesting} {i j : ℕ} {w v : List ℕ} {ts r : List Lexeme} → Behind e (lexeme j K.Newline v ∷ ts) r →
    Behind e (lexeme i K.Newline w ∷ lexeme j K.Newline v ∷ ts) r
more_lines (behind (line_ends_lem n) d z) = behind (line_ends_lem (newline n)) d z

tail_of : {e : Nesting} {ts r : List Lexeme} → Yields (level e (item no_handlers)) ts r → Tail e ts r
tail_of (y_level d) = d
tail_of (y_handler f) = ended-tail (f 0 [])
  where
    ended-tail : {e : Nesting} {i : ℕ} {w : List ℕ} {ts r : List Lexeme} → Yields (level e (ended no_handlers)) (lexeme i K.Newline w ∷ ts) r → Tail e ts r
    ended-tail (y_ended none_may b) = behind_line b

block_of : {i : ℕ} {w : List ℕ} {ts r : List Lexeme} → Tail inner ts r → (x : Items) × Block (lexeme i K.OpenBrace w ∷ ts) x r
block_of (tail {x = x} d at_brace) = (x, braces d)

label-of : {k : TokenKind} {e : Nesting} {i j : ℕ} {w v : List ℕ} {ts r : List Lexeme} → is_kind k K.Colon ≡ true →
    Tail e ts r → Tail e (lexeme i K.Identifier w ∷ lexeme j k v ∷ ts) r
label-of {k = k} h (tail (level-is n d) z) = rw (kind-is k K.Colon h refl) (tail (level-is no_newline (names-label n d)) z)

-- no handler follows
no_follow : (h : Handlers) {r : List Lexeme} → Follow h r r
no_follow no_handlers = none_may
no_follow (after_try o) = catch_may (no_catch no_finally)
no_follow after-catch = finally_may no_finally

more_newlines : {e : Nesting} {h : Handlers} {i j : ℕ} {w v : List ℕ} {ts r : List Lexeme} →
    Yields (level e (ended h)) (lexeme j K.Newline v ∷ ts) r → Yields (level e (ended h)) (lexeme i K.Newline w ∷ lexeme j K.Newline v ∷ ts) r
more_newlines (y_ended none_may b) = y_ended none_may (more_lines b)
more_newlines (y_ended (catch_may (no_catch no_finally)) b) = y_ended (catch_may (no_catch no_finally)) (more_lines b)
more_newlines (y_ended (catch_may (no_catch (finishes n d))) b) = y_ended (catch_may (no_catch (finishes (newline n) d))) b
more_newlines (y_ended (catch_may (catches-block n d f)) b) = y_ended (catch_may (catches-block (newline n) d f)) b
more_newlines (y_ended (finally_may no_finally) b) = y_ended (finally_may no_finally) (more_lines b)
more_newlines (y_ended (finally_may (finishes n d)) b) = y_ended (finally_may (finishes (newline n) d)) b

skip_back : {e : Nesting} {h : Handlers} {i : ℕ} {w : List ℕ} {ts r : List Lexeme} → Yields (level e (item h)) ts r → Yields (level e (item h)) (lexeme i K.Newline w ∷ ts) r
skip_back (y_level (tail (level-is n d) z)) = y_level (tail (level-is (newline n) d) z)
skip_back (y_handler f) = y_handler (λ j v. more_newlines (f _ _))

ended_back : {e : Nesting} {h : Handlers} {i : ℕ} {w : List ℕ} {ts r : List Lexeme} → Yields (level e (item h)) ts r → Yields (level e (ended h)) (lexeme i K.Newline w ∷ ts) r
ended_back {h = h} (y_level d) = y_ended (no_follow h) (line_behind d)
ended_back {i = i} {w = w} (y_handler f) = f i w

-- ---- actions

-- the parts of an action, and what follows it in its level
data Acted : Plan → Nesting → List Lexeme → List Lexeme → Type 0 where
  has : {p : Plan} {e : Nesting} {cs : List Class} {b : Body} {ts os kept r₁ r₂ r : List Lexeme} {bs : Blocks} →
      Planned p cs b → Parted cs ts os r₁ → Bodies b os r₁ kept bs r₂ → Behind e r₂ r → Acted p e ts r

-- a Try with these operands instead
try_with : {ts os kept r₁ r : List Lexeme} {x : Items} {bs : Blocks} → Block ts x r₁ → Catch [] r₁ kept bs r → (k : List Lexeme) × Bodies of_try os ts k (block try x bs) r
try_with b (no_catch f) = ([], try-body b (no_catch f))
try_with {os = os} b (catches-block n d f) = (os, try-body b (catches-block n d f))

start_back : (p : Plan) (e : Nesting) (σ : List Symbol) {ts : List Lexeme} → Derives (start p e ++ σ) ts → (r : List Lexeme) × Acted p e ts r × Derives σ r
start_back (plain cs) e σ {ts = ts} d = by (listed_back cs (subst (λ (τ : List Symbol). Derives τ ts) (append_assoc (listed cs) (level e (ended no_handlers) ∷ []) σ) d))
  where
    plain_back : {os r : List Lexeme} → Parted cs ts os r → Derives (level e (ended no_handlers) ∷ σ) r → (r : List Lexeme) × Acted (plain cs) e ts r × Derives σ r
    plain_back q (d_symbol {r = r} (y_ended none_may b) ds) = (r, has fixed q no_body b, ds)

    by : (os : List Lexeme) × (r : List Lexeme) × Parted cs ts os r × Derives (level e (ended no_handlers) ∷ σ) r → (r : List Lexeme) × Acted (plain cs) e ts r × Derives σ r
    by b = plain_back b.2 b.3
start_back (listing c) e σ (d_symbol {r = r} (y_list₀ k q b) ds) = (r, has (any_number k) q no_body b, ds)
start_back frame e σ (d_symbol (y_true q) (d_symbol {r = r} (y_ended none_may b) ds)) = (r, has biased q no_body b, ds)
start_back frame e σ (d_symbol (y_false q) (d_symbol {r = r} (y_ended none_may b) ds)) = (r, has unbiased q no_body b, ds)
start_back (function f) e σ (d_symbol (y_operand h) (d_symbol (y_mark g) (d_symbol (y_count k h' q) (d_symbol (y_opens d) (d_symbol {r = r} (y_ended none_may b) ds))))) =
    (r, has (parameters k) (first h (as_comma g h' q)) (one-body d) b, ds)
start_back within e σ (d_symbol (y_opens d) (d_symbol {r = r} (y_ended none_may b) ds)) = (r, has block_alone empty (one-body d) b, ds)
start_back trying e σ (d_symbol {r = r} (y_no_target d c b) ds) = (r, has no_target empty (try_with d c).1 b, ds)
start_back trying e σ (d_symbol {r = r} (y_target h d c b) ds) = (r, has target-planned (first h no_further) (try_with d c).1 b, ds)

act_back : {n : ActionName} {e : Nesting} {h : Handlers} {i : ℕ} {w : List ℕ} {ts r : List Lexeme} →
    Acted (plan_of (shape_of n)) e ts r → Yields (level e (item h)) (lexeme i (K.ActionName n) w ∷ ts) r
act_back {n = n} (has p q b (behind g d z)) = y_level (tail (level-is no_newline (acts (taken (shape_of n) p) (unparted q) b g d)) z)

-- ---- one move back

step_back : {a : Symbol} {t : Lexeme} {α : List Symbol} {o : Output} (σ : List Symbol) {ts : List Lexeme} → Step a t α o → Derives (α ++ σ) ts → Derives (a ∷ σ) (t ∷ ts)
step_back σ (marks h) d = d_symbol (y_mark h) d
step_back σ (gives h) d = d_symbol (y_operand h) d
step_back σ (flags_true h) d = let b = further_back (bool ∷ u16 ∷ []) d in d_symbol (y_true (first h b.2)) b.3
step_back σ (flags_false h) d = let b = further_back (bool ∷ []) d in d_symbol (y_false (first h b.2)) b.3
step_back σ (counts {f = f} n h) d = let b = further_back (behind_count f n) d in d_symbol (y_count n h b.2) b.3
step_back σ block-opens (d_symbol y d) = d_symbol (y_opens (block_of (tail_of y)).1) d
step_back σ try-opens (d_symbol y (d_symbol (y_ended (catch_may c) b) d)) = d_symbol (y_no_target (block_of (tail_of y)).1 c b) d
step_back σ (has-target h) (d_symbol (y_opens x) (d_symbol (y_ended (catch_may c) b) d)) = d_symbol (y_target h x c b) d
step_back σ skips (d_symbol y d) = d_symbol (skip_back y) d
step_back σ names (d_symbol (y_mark g) (d_symbol y d)) = d_symbol (y_level (label-of g (tail_of y))) d
step_back σ closes d = d_symbol (y_level (tail (level-is no_newline written-ends) at_brace)) d
step_back σ catches (d_symbol (y_opens x) (d_symbol (y_ended (finally_may f) b) d)) =
    d_symbol (y_handler (λ i w. y_ended (catch_may (catches-block no_newline x f)) b)) d
step_back σ finishes-try (d_symbol (y_opens x) (d_symbol (y_ended none_may b) d)) =
    d_symbol (y_handler (λ i w. y_ended (catch_may (no_catch (finishes no_newline x))) b)) d
step_back σ finishes-catch (d_symbol (y_opens x) (d_symbol (y_ended none_may b) d)) =
    d_symbol (y_handler (λ i w. y_ended (finally_may (finishes no_newline x)) b)) d
step_back σ (begins {e = e} {n = n}) d = let b = start_back (plan_of (shape_of n)) e σ d in d_symbol (act_back b.1) b.2
step_back σ (ends_at ends) (d_symbol y d) = d_symbol (ended_back y) d
step_back σ (ends_at ends₀) (d_symbol y d) = d_symbol (y_list₀ 0 empty (line_behind (tail_of y))) d
step_back σ (ends_at ends₁) (d_symbol y d) = d_symbol (y_list₁ 0 no_further (line_behind (tail_of y))) d
step_back σ (lists_first h) (d_symbol (y_list₁ k q b) d) = d_symbol (y_list₀ (suc k) (first h q) b) d
step_back σ lists_next (d_symbol (y_operand h) (d_symbol (y_list₁ k q b) d)) = d_symbol (y_list₁ (suc k) (next h q) b) d

-- ---- whole runs

text_behind : Behind top [] []
text_behind = behind text-ends written-ends at-end

end_back : (σ : List Symbol) → may_end σ ≡ true → Derives σ []
end_back [] h = absurd (false≢true h)
end_back (mark c ∷ σ) h = absurd (false≢true h)
end_back (operand c ∷ σ) h = absurd (false≢true h)
end_back (flag ∷ σ) h = absurd (false≢true h)
end_back (counted f ∷ σ) h = absurd (false≢true h)
end_back (opens p ∷ σ) h = absurd (false≢true h)
end_back (targets e ∷ σ) h = absurd (false≢true h)
end_back (level inner q ∷ σ) h = absurd (false≢true h)
end_back (level top (item l) ∷ []) h = d_symbol (y_level (tail (level-is no_newline written-ends) at-end)) d_end
end_back (level top (ended l) ∷ []) h = d_symbol (y_ended (no_follow l) text_behind) d_end
end_back (level top (list₀ c) ∷ []) h = d_symbol (y_list₀ 0 empty text_behind) d_end
end_back (level top (list₁ c) ∷ []) h = d_symbol (y_list₁ 0 no_further text_behind) d_end
end_back (level top q ∷ a ∷ σ) h = absurd (false≢true h)

whole : {ts : List Lexeme} → Tail top ts [] → (x : Items) × Text ts x
whole (tail {x = x} d at-end) = (x, d)

derived : {ts : List Lexeme} → Derives text ts → (x : Items) × Text ts x
derived (d_symbol y d_end) = whole (tail_of y)

module _ {S : Type 0} (emit : Event → S → S) where
  end-accepts : (b : Bool) (s : S) → Accepts (finish emit b s) → b ≡ true
  end-accepts true s h = refl
  end-accepts false s h = absurd h

  run_back : (ts : List Lexeme) (σ : List Symbol) (s : S) → Accepts (run emit σ s ts) → Derives σ ts
  run_back [] σ s h = end_back σ (end-accepts (may_end σ) s h)
  run_back (t ∷ ts) [] s h = absurd h
  run_back (t ∷ ts) (a ∷ σ) s h = by_move (move a t) (legal a t) h (λ α s'. run_back ts (α ++ σ) s')
    where
      by_move : (m : Move) → Legal a t m → Accepts (proceed emit m s (λ α s'. run emit (α ++ σ) s' ts) (suc (length ts))) →
          ((α : List Symbol) (s' : S) → Accepts (run emit (α ++ σ) s' ts) → Derives (α ++ σ) ts) → Derives (a ∷ σ) (t ∷ ts)
      by_move stop halts h' f = absurd h'
      by_move (go α o) (steps q) h' f = step_back σ q (f α (puts emit o s) h')

  -- what is accepted is a text
  pub text_back : (ts : List Lexeme) (s : S) → Accepts (run emit text s ts) → (x : Items) × Text ts x
  text_back ts s h = derived (run_back ts text s h)
