-- Forward: what the grammar derives, the machine reads. A derivation takes the run over its tokens to the run over the rest,
-- with what its tree emits. Assumes nothing.
use mathlib.Core.Path.{◌≡◌, refl, ap, ◌∙◌}
use mathlib.Core.Bool.{true}
use mathlib.Core.Option.{Option, some, none}
use mathlib.Core.List.{List, [], ◌∷◌, ◌++◌, append_assoc}
use Prim.Native.Nat.{ℕ, zero, suc}
use lib.ListN.{replicate}
use Rattle.shapes.specs.Shapes.{shape_of}
use Rattle.tokens.specs.declared.TokenKind.TheVariants as K
use Rattle.tokens.specs.Kinds.{is_kind}
use Rattle.numbers.specs.Integers.{integer}
use Rattle.lexemes.specs.Lexemes.{Lexeme, lexeme}
use Rattle.lexemes.specs.Operands.{Class, string, bool, only_true, only_false, u16, target, count, is_operand, acts_as}
use Rattle.lexemes.specs.Events.{Part, body, try, catch, finally, Event, acted, named, given, opened, closed}
use Rattle.lexemes.proofs.Tests.{both, other, operand_not, newline as newline-mark, open_brace, acts-known}
use Rattle.machine.specs.Plans.{Params, Plan, plain, listing, frame, function, within, trying, plan_of, behind_count}
use Rattle.machine.specs.Machine.{Nesting, top, inner, Handlers, no_handlers, after_try, after-catch, State, item, ended, list₀, list₁, p_comma, Symbol, mark, operand, flag, counted, opens, targets, level, silent, out, target-out, go, further, listed, start, move, Answer, accepted, text, puts, run, on_finally}
use Rattle.machine.proofs.Moves.{Ends, ends, ends₀, ends₁}
use Rattle.machine.proofs.Runs.{gives, moves}
use Rattle.grammar.specs.Grammar.{Items, Blocks, Body, nothing, one, of_try, Newlines, no_newline, newline, Ended, text-ends, line_ends_lem, Level, level as level-is, Written, ends as written-ends, names, acts, Block, braces, Bodies, no_body, one-body, try-body, Catch, no_catch, catches, Finally, no_finally, finishes, Text}
use Rattle.grammar.proofs.Plans.{Planned, fixed, any_number, biased, unbiased, parameters, block_alone, no_target, has-target, planned, Further, no_further, next, Parted, empty, first, parted, AtMostOne, none-there, one-there, Few, few}
use Rattle.grammar.proofs.Events.{emits, emits_blocks}

-- ---- single moves

list_move : (e : Nesting) (c : Class) (t : Lexeme) → is_operand c t ≡ true → move (level e (list₀ c)) t ≡ go (level e (list₁ c) ∷ []) (out (given t))
list_move e c (lexeme i k w) h = rw (operand_not c i k w newline-mark h) (rw h)

true_move : (t : Lexeme) → is_operand only_true t ≡ true → move flag t ≡ go (further (bool ∷ u16 ∷ [])) (out (given t))
true_move t h = rw h

false_move : (t : Lexeme) → is_operand only_false t ≡ true → move flag t ≡ go (further (bool ∷ [])) (out (given t))
false_move (lexeme i k w) h = rw (other k K.False K.True h refl) (rw h)

count-move : (f : Params) (n : ℕ) (t : Lexeme) → is_operand (count n) t ≡ true → move (counted f) t ≡ go (further (behind_count f n)) (out (given t))
count-move f n (lexeme i k w) h =
    let p = both (is_kind k K.Integer) (acts_as n (integer w)) h in
    rw p.0 (rw (acts-known n (integer w) p.1))

target-move : (e : Nesting) (t : Lexeme) → is_operand target t ≡ true → move (targets e) t ≡ go (opens try ∷ level e (ended (after_try (some t))) ∷ []) silent
target-move e (lexeme i k w) h = rw (operand_not target i k w open_brace h) (rw h)

-- a Try's target
abbrev target-of : List Lexeme → Option Lexeme
target-of [] = none
target-of (t ∷ os) = some t

module _ {S : Type 0} (emit : Event → S → S) where
  -- ---- operands

  operand_runs : (c : Class) (t : Lexeme) (σ : List Symbol) (s : S) (ts : List Lexeme) → is_operand c t ≡ true →
      run emit (operand c ∷ σ) s (t ∷ ts) ≡ run emit σ (emit (given t) s) ts
  operand_runs c t σ s ts h = rw h

  further_runs : (cs : List Class) {ts os r : List Lexeme} (σ : List Symbol) (s : S) → Further cs ts os r →
      run emit (further cs ++ σ) s ts ≡ run emit σ (gives emit os s) r
  further_runs [] σ s no_further = refl
  further_runs (c ∷ cs) σ s (next {t = t} {ts = ts} h d) = operand_runs c t (further cs ++ σ) s ts h ∙ further_runs cs σ (emit (given t) s) d

  parted_runs : (cs : List Class) {ts os r : List Lexeme} (σ : List Symbol) (s : S) → Parted cs ts os r →
      run emit (listed cs ++ σ) s ts ≡ run emit σ (gives emit os s) r
  parted_runs [] σ s empty = refl
  parted_runs (c ∷ cs) σ s (first {t = t} {ts = ts} h d) = operand_runs c t (further cs ++ σ) s ts h ∙ further_runs cs σ (emit (given t) s) d

  -- a list of any length, as Push has
  list_further : (e : Nesting) (c : Class) (k : ℕ) {ts os r : List Lexeme} (σ : List Symbol) (s : S) → Further (replicate k c) ts os r →
      run emit (level e (list₁ c) ∷ σ) s ts ≡ run emit (level e (list₁ c) ∷ σ) (gives emit os s) r
  list_further e c zero σ s no_further = refl
  list_further e c (suc k) σ s (next {t = t} {ts = ts} h d) =
      operand_runs c t (level e (list₁ c) ∷ σ) s ts h ∙ list_further e c k σ (emit (given t) s) d

  -- the state behind a list of operands
  abbrev behind_list : Class → List Lexeme → State
  behind_list c [] = list₀ c
  behind_list c (t ∷ os) = list₁ c

  list_runs : (e : Nesting) (c : Class) (k : ℕ) {ts os r : List Lexeme} (σ : List Symbol) (s : S) → Parted (replicate k c) ts os r →
      run emit (level e (list₀ c) ∷ σ) s ts ≡ run emit (level e (behind_list c os) ∷ σ) (gives emit os s) r
  list_runs e c zero σ s empty = refl
  list_runs e c (suc k) σ s (first {t = t} {ts = ts} h d) =
      moves emit (level e (list₀ c)) t σ s ts (list_move e c t h) ∙ list_further e c k σ (emit (given t) s) d

  -- ---- what follows an action's word, up to its blocks

  -- the state behind an action with no block
  abbrev end_state : Plan → List Lexeme → State
  end_state (plain cs) os = ended no_handlers
  end_state (listing c) os = behind_list c os
  end_state frame os = ended no_handlers
  end_state (function f) os = ended no_handlers
  end_state within os = ended no_handlers
  end_state trying os = ended no_handlers

  -- the symbols that are left when the operands are read
  abbrev left : Body → Nesting → State → List Lexeme → List Symbol
  left nothing e q os = level e q ∷ []
  left one e q os = opens body ∷ level e (ended no_handlers) ∷ []
  left of_try e q os = opens try ∷ level e (ended (after_try (target-of os))) ∷ []

  -- what is emitted by then: a Try's target waits
  abbrev emitted : Body → List Lexeme → S → S
  emitted nothing os s = gives emit os s
  emitted one os s = gives emit os s
  emitted of_try os s = s

  operands-run : {p : Plan} {cs : List Class} {b : Body} {ts os kept r r' : List Lexeme} {bs : Blocks} (e : Nesting) (σ : List Symbol) (s : S) →
      Planned p cs b → Parted cs ts os r → Bodies b os r kept bs r' →
      run emit (start p e ++ σ) s ts ≡ run emit (left b e (end_state p os) os ++ σ) (emitted b os s) r
  operands-run e σ s (fixed {cs = cs}) q b = rw (append_assoc (listed cs) (level e (ended no_handlers) ∷ []) σ) (parted_runs cs (level e (ended no_handlers) ∷ σ) s q)
  operands-run e σ s (any_number {c = c} k) q b = list_runs e c k σ s q
  operands-run e σ s biased (first {t = t} {ts = ts} h d) b =
      moves emit flag t (level e (ended no_handlers) ∷ σ) s ts (true_move t h) ∙ further_runs (bool ∷ u16 ∷ []) (level e (ended no_handlers) ∷ σ) (emit (given t) s) d
  operands-run e σ s unbiased (first {t = t} {ts = ts} h d) b =
      moves emit flag t (level e (ended no_handlers) ∷ σ) s ts (false_move t h) ∙ further_runs (bool ∷ []) (level e (ended no_handlers) ∷ σ) (emit (given t) s) d
  operands-run e σ s (parameters {f = f} k) (first {t = t} h (next {i = i} {w = w} {t = t'} {ts = ts} h' d)) b =
      operand_runs string t (mark p_comma ∷ counted f ∷ opens body ∷ level e (ended no_handlers) ∷ σ) s (lexeme i K.Comma w ∷ t' ∷ ts) h
      ∙ moves emit (counted f) t' (opens body ∷ level e (ended no_handlers) ∷ σ) (emit (given t) s) ts (count-move f k t' h')
      ∙ further_runs (behind_count f k) (opens body ∷ level e (ended no_handlers) ∷ σ) (emit (given t') (emit (given t) s)) d
  operands-run e σ s block_alone empty b = refl
  operands-run e σ s no_target empty (try-body (braces x) c) = refl
  operands-run e σ s has-target (first {t = t} {ts = ts} h no_further) b = moves emit (targets e) t σ s ts (target-move e t h)

  -- ---- levels and blocks

  -- where the text ends, a level's state makes no difference
  pub end_same : (e : Nesting) (q q' : State) (σ : List Symbol) (s : S) → run emit (level e q ∷ σ) s [] ≡ run emit (level e q' ∷ σ) s []
  end_same top q q' [] s = refl
  end_same top q q' (a ∷ σ) s = refl
  end_same inner q q' σ s = refl

  newlines_run : {ts r : List Lexeme} (e : Nesting) (h : Handlers) (σ : List Symbol) (s : S) → Newlines ts r →
      run emit (level e (item h) ∷ σ) s ts ≡ run emit (level e (item h) ∷ σ) s r
  newlines_run e h σ s no_newline = refl
  newlines_run e h σ s (newline n) = newlines_run e h σ s n

  ended_runs : {q : State} {h : Handlers} {ts r : List Lexeme} (e : Nesting) (σ : List Symbol) (s : S) → Ended ts r → Ends q h →
      run emit (level e q ∷ σ) s ts ≡ run emit (level e (item h) ∷ σ) s r
  ended_runs {q = q} {h = h} e σ s text-ends n = end_same e q (item h) σ s
  ended_runs {h = h} e σ s (line_ends_lem n) ends = newlines_run e h σ s n
  ended_runs e σ s (line_ends_lem n) ends₀ = newlines_run e no_handlers σ s n
  ended_runs e σ s (line_ends_lem n) ends₁ = newlines_run e no_handlers σ s n

  -- the handlers that may still follow, by what has been read
  abbrev behind_finally : {ts r : List Lexeme} {bs : Blocks} → Handlers → Finally ts bs r → Handlers
  behind_finally h no_finally = h
  behind_finally h (finishes n d) = no_handlers

  abbrev behind_catch : {os ts kept r : List Lexeme} {bs : Blocks} → Catch os ts kept bs r → Option Lexeme → Handlers
  behind_catch (no_catch f) o = behind_finally (after_try o) f
  behind_catch (catches n d f) o = behind_finally after-catch f

  abbrev behind_bodies : {b : Body} {os ts kept r : List Lexeme} {bs : Blocks} → Bodies b os ts kept bs r → State → Option Lexeme → State
  behind_bodies no_body q o = q
  behind_bodies (one-body d) q o = ended no_handlers
  behind_bodies (try-body d c) q o = ended (behind_catch c o)

  -- a newline ends an action in whatever state its blocks leave
  ends_of : {p : Plan} {cs : List Class} {b : Body} {os ts kept r : List Lexeme} {bs : Blocks} (o : Option Lexeme) →
      Planned p cs b → (d : Bodies b os ts kept bs r) → (h : Handlers) × Ends (behind_bodies d (end_state p os) o) h
  ends_of o fixed no_body = (no_handlers, ends)
  ends_of {os = []} o (any_number k) no_body = (no_handlers, ends₀)
  ends_of {os = t ∷ os} o (any_number k) no_body = (no_handlers, ends₁)
  ends_of o biased no_body = (no_handlers, ends)
  ends_of o unbiased no_body = (no_handlers, ends)
  ends_of o (parameters k) (one-body d) = (no_handlers, ends)
  ends_of o block_alone (one-body d) = (no_handlers, ends)
  ends_of o no_target (try-body d c) = (behind_catch c o, ends)
  ends_of o has-target (try-body d c) = (behind_catch c o, ends)

  target-given : {os : List Lexeme} (s : S) → AtMostOne os → puts emit (target-out (target-of os)) s ≡ gives emit os s
  target-given s none-there = refl
  target-given s one-there = refl

  -- a level's run ends before a label or an action, whatever handlers may follow
  abbrev Runs : Nesting → List Symbol → S → Items → List Lexeme → Answer S → Type 0
  Runs e σ s x r z = (h : Handlers) × (z ≡ run emit (level e (item h) ∷ σ) (emits emit x s) r)

  mutual
    level_runs : {ts r : List Lexeme} {x : Items} → Level ts x r → (e : Nesting) (h : Handlers) (σ : List Symbol) (s : S) →
        Runs e σ s x r (run emit (level e (item h) ∷ σ) s ts)
    level_runs (level-is n d) e h σ s =
        let a = written_runs d e h σ s in
        (a.0, newlines_run e h σ s n ∙ a.1)

    written_runs : {ts r : List Lexeme} {x : Items} → Written ts x r → (e : Nesting) (h : Handlers) (σ : List Symbol) (s : S) →
        Runs e σ s x r (run emit (level e (item h) ∷ σ) s ts)
    written_runs written-ends e h σ s = (h, refl)
    written_runs (names {i = i} {w = w} n d) e h σ s =
        let s₁ = emit (named (lexeme i K.Identifier w)) s in
        let a = written_runs d e no_handlers σ s₁ in
        (a.0, newlines_run e no_handlers σ s₁ n ∙ a.1)
    written_runs (acts {n = n} {os = os} {kept = kept} {bs = bs} t q b g d) e h σ s =
        let s₁ = emit (acted n) s in
        let s₂ = emits_blocks emit bs kept s₁ in
        let p = planned t in
        let v = parted q in
        let z = ends_of (target-of os) p b in
        let a = written_runs d e z.0 σ s₂ in
        (a.0, operands-run e σ s₁ p v b ∙ bodies_run b (few p v) e (end_state (plan_of (shape_of n)) os) σ s₁ ∙ ended_runs e σ s₂ g z.1 ∙ a.1)

    block_runs : {ts r : List Lexeme} {x : Items} → Block ts x r → (p : Part) (σ : List Symbol) (s : S) →
        run emit (opens p ∷ σ) s ts ≡ run emit σ (emit closed (emits emit x (emit (opened p) s))) r
    block_runs (braces d) p σ s = (level_runs d inner no_handlers σ (emit (opened p) s)).1

    bodies_run : {b : Body} {os ts kept r : List Lexeme} {bs : Blocks} (d : Bodies b os ts kept bs r) → Few b os → (e : Nesting) (q : State) (σ : List Symbol) (s : S) →
        run emit (left b e q os ++ σ) (emitted b os s) ts ≡ run emit (level e (behind_bodies d q (target-of os)) ∷ σ) (emits_blocks emit bs kept s) r
    bodies_run no_body f e q σ s = refl
    bodies_run (one-body {os = os} d) f e q σ s = block_runs d body (level e (ended no_handlers) ∷ σ) (gives emit os s)
    bodies_run (try-body {os = os} {x = x} d c) f e q σ s =
        block_runs d try (level e (ended (after_try (target-of os))) ∷ σ) s
        ∙ catch_runs c f e σ (emit closed (emits emit x (emit (opened try) s)))

    catch_runs : {os ts kept r : List Lexeme} {bs : Blocks} (c : Catch os ts kept bs r) → AtMostOne os → (e : Nesting) (σ : List Symbol) (s : S) →
        run emit (level e (ended (after_try (target-of os))) ∷ σ) s ts ≡ run emit (level e (ended (behind_catch c (target-of os))) ∷ σ) (emits_blocks emit bs kept s) r
    catch_runs {os = os} (no_catch f) g e σ s = finally_runs f (after_try (target-of os)) (λ e'. refl) e σ s
    catch_runs {os = os} (catches {u = u} {x = x} n d f) g e σ s =
        let s₁ = gives emit os s in
        newlines_run e (after_try (target-of os)) σ s n
        ∙ ap (λ (z : S). run emit (opens catch ∷ level e (ended after-catch) ∷ σ) z u) (target-given s g)
        ∙ block_runs d catch (level e (ended after-catch) ∷ σ) s₁
        ∙ finally_runs f after-catch (λ e'. refl) e σ (emit closed (emits emit x (emit (opened catch) s₁)))

    finally_runs : {ts r : List Lexeme} {bs : Blocks} (f : Finally ts bs r) (h : Handlers) →
        ((e : Nesting) → on_finally e h ≡ go (opens finally ∷ level e (ended no_handlers) ∷ []) silent) → (e : Nesting) (σ : List Symbol) (s : S) →
        run emit (level e (ended h) ∷ σ) s ts ≡ run emit (level e (ended (behind_finally h f)) ∷ σ) (emits_blocks emit bs [] s) r
    finally_runs no_finally h g e σ s = refl
    finally_runs (finishes {j = j} {v = v} {u = u} n d) h g e σ s =
        newlines_run e h σ s n
        ∙ moves emit (level e (item h)) (lexeme j K.Finally v) σ s u (g e)
        ∙ block_runs d finally (level e (ended no_handlers) ∷ σ) s

  -- a whole text is accepted, with what its tree emits
  pub text_runs : {ts : List Lexeme} {x : Items} (s : S) → Text ts x → run emit text s ts ≡ accepted (emits emit x s)
  text_runs s d = (level_runs d top no_handlers [] s).1
