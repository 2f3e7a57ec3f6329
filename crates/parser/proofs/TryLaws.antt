-- The blocks of a Try, branch by branch. Assumes nothing.
use mathlib.Core.Path.{◌≡◌, refl, sym, ap, ◌∙◌, subst}
use mathlib.Core.List.{List, [], ◌∷◌}
use Prim.Native.Nat.{ℕ, ◌+◌, ◌*◌, ◌-◌, ◌≤◌, ◌<◌}
use native.Mathlib.Omega.{arith}
use lib.ListN.{length}
use mir.Syntax.{w64}
use mir.Val.{Fits}
use Rattle.std.specs.Prelude.{Result, Ok, Err, Option, Some, None}
use Rattle.lexemes.specs.Events.{try, catch}
use Rattle.machine.specs.Machine.{Nesting, Handlers, no_handlers, after_try, after-catch, Symbol, opens, targets, level, item, ended, target-out, puts}
use Rattle.operands.specs.declared.At.{At}
use Rattle.operands.specs.declared.Unread.{Unread}
use Rattle.operands.specs.declared.Unread.TheVariants.{Bad}
use Rattle.operands.specs.Log.{Log, log, emit}
use Rattle.operands.specs.Contract.{judge, outcome, Fine, Onward, Ahead}
use Rattle.operands.proofs.Runs.{further_on, refusal}
use Rattle.parser.specs.declared.Handler.{Handler}
use Rattle.parser.specs.declared.Handler.TheVariants as H
use Rattle.events.specs.declared.BlockKind.TheVariants as B
use Rattle.parser.specs.Parsing.{ReadsIn, at_item, EndRead, NoNewlineSeen, ItemSeen, CatchSeen, Finally-at, FinallySeen, HandlerRead, target_of, past_target, move_to, TargetBefore, TargetRead, GiveAsked, given_log, given_at, GiveRead, BlockRead, LastBlockRead, TryRead, HandlersRead, NoCatch, LastRead}
use Rattle.parser.proofs.BlockLaws.{in_on}

-- ---- a Try

pub try-fine : (text s : List ℕ) (c d : At) (a : Option ℕ) → TargetRead text s c a → d ≡ past_target c a → Fine text s d
try-fine text s c d a v q = rw q v.fine

target_on : (c : At) (a : Option ℕ) → c.at ≤ (past_target c a).at
target_on c None = omega arith
target_on c (Some t) = omega arith

try-from : (c d : At) (a : Option ℕ) → d ≡ past_target c a → c.at ≤ d.at
try-from c d a q = subst (λ (x : At). c.at ≤ x.at) (sym q) (target_on c a)

past_events : (c : At) (a : Option ℕ) → (past_target c a).events ≡ c.events
past_events c None = refl
past_events c (Some t) = refl

-- the log is not touched by a target
try-starts : (text s l : List ℕ) (c d : At) (a : Option ℕ) (room : ℕ) → TargetRead text s c a → d ≡ past_target c a → (e : Nesting) (σ : List Symbol) →
    judge text s (targets e ∷ σ) room (log l c) c.at ≡ judge text s (opens try ∷ level e (ended (after_try (target_of text s a))) ∷ σ) room (log l d) d.at
try-starts text s l c d a room v q e σ =
    let n = past_events c a in
    rw q (v.says e σ room (log l c) ∙ ap (λ (k : ℕ). judge text s (opens try ∷ level e (ended (after_try (target_of text s a))) ∷ σ) room (record { words = l; count = k }) (past_target c a).at) (sym n))

try_on : (text s : List ℕ) (c d : At) (a : Option ℕ) → TargetRead text s c a → d ≡ past_target c a → Onward text s c d
try_on text s c d a v q = record { from = try-from c d a q; fine = try-fine text s c d a v q }

pub try-bad : (text s l m : List ℕ) (c d : At) (a : Option ℕ) (room : ℕ) (u : Unread) → TargetRead text s c a → d ≡ past_target c a → BlockRead B.Try text s l m d room (Err u) → TryRead text s l m c room (Err u)
try-bad text s l m c d a room u v q w =
    record {
      says = λ e σ.
          try-starts text s l c d a room v q e σ ∙ w.says e (level e (ended (after_try (target_of text s a))) ∷ σ)
          ∙ refusal text s (level e (ended (after_try (target_of text s a))) ∷ σ) (level e (item no_handlers) ∷ σ) room room m m u;
      ahead = further_on text s c d (Err u) (try_on text s c d a v q) w.ahead;
    }

pub try_ok : (text s l m n : List ℕ) (c d p : At) (a : Option ℕ) (room : ℕ) (z : Result At Unread) → TargetRead text s c a → d ≡ past_target c a → BlockRead B.Try text s l m d room (Ok p) →
    HandlersRead a text s m n p room z → TryRead text s l n c room z
unfolding outcome
try_ok text s l m n c d p a room z v q w x =
    record {
      says = λ e σ.
          try-starts text s l c d a room v q e σ ∙ w.says e (level e (ended (after_try (target_of text s a))) ∷ σ) ∙ x.says e σ;
      ahead = further_on text s c d z (try_on text s c d a v q) (further_on text s d p z (in_on text s l m d p room w) x.ahead);
    }

pub tried_less : (text s l m : List ℕ) (c d p : At) (a : Option ℕ) (room t : ℕ) → d ≡ past_target c a → BlockRead B.Try text s l m d room (Ok p) → 4 * (length s - c.at) + 2 ≡ t →
    4 * (length s - p.at) + 1 < t
tried_less text s l m c d p a room t q w e = omega (arith, try-from c d a q, (in_on text s l m d p room w).from)

before_on : (c p : At) (a : Option ℕ) → TargetBefore c a → c.at ≤ p.at → TargetBefore p a
before_on c p None h l = tt
before_on c p (Some t) h l = omega arith

pub tried_before : (text s l m : List ℕ) (c d p : At) (a : Option ℕ) (room : ℕ) → TargetRead text s c a → d ≡ past_target c a → BlockRead B.Try text s l m d room (Ok p) → TargetBefore p a
tried_before text s l m c d p a room v q w =
    let o = in_on text s l m d p room w in
    before_on c p a v.before (omega (arith, try-from c d a q, o.from))

-- ---- handlers

handler_as : (text s : List ℕ) (c : At) (x y : Handler) → HandlerRead text s c x → x ≡ y → HandlerRead text s c y
handler_as text s c x y v u = subst (λ (h : Handler). HandlerRead text s c h) u v

no_newline_seen : (text s : List ℕ) (c : At) (x : Handler) → HandlerRead text s c x → x ≡ H.NoNewline → NoNewlineSeen text s c
unfolding HandlerRead
no_newline_seen text s c x v u = handler_as text s c x H.NoNewline v u

item_seen : (text s : List ℕ) (c : At) (x : Handler) (q : ℕ) → HandlerRead text s c x → x ≡ H.Item q → ItemSeen text s c q
unfolding HandlerRead
item_seen text s c x q v u = handler_as text s c x (H.Item q) v u

catch_seen : (text s : List ℕ) (c : At) (x : Handler) (q : ℕ) → HandlerRead text s c x → x ≡ H.Catch q → CatchSeen text s c q
unfolding HandlerRead
catch_seen text s c x q v u = handler_as text s c x (H.Catch q) v u

finally_seen : (text s : List ℕ) (c : At) (x : Handler) (q : ℕ) → HandlerRead text s c x → x ≡ H.Finally q → FinallySeen text s c q
unfolding HandlerRead
finally_seen text s c x q v u = handler_as text s c x (H.Finally q) v u

moved-fine : (text s : List ℕ) (c d : At) (q : ℕ) → Fine text s c → c.at < q → q ≤ length s → d ≡ move_to c q → Fine text s d
moved-fine text s c d q f a b e = rw e (record { sound = f.sound; inside = b; events = omega (arith, f.events) })

-- behind a try block or a catch block, of which h says what may follow
module _ (text s l : List ℕ) (c : At) (room : ℕ) (x : Handler) (v : HandlerRead text s c x) (h : Handlers) where
  ends-here : (r : Result At Unread) → x ≡ H.NoNewline → EndRead text s c r → ReadsIn (λ e. level e (ended h) ∷ []) at_item text s l l c room r
  ends-here r u w =
      record { says = λ e σ. (no_newline_seen text s c x v u).says h e σ room (log l c) ∙ (w.with_log l).says e σ room; ahead = (w.with_log l).ahead }

  goes_on : (d : At) (q : ℕ) → Fine text s c → x ≡ H.Item q → d ≡ move_to c q → ReadsIn (λ e. level e (ended h) ∷ []) at_item text s l l c room (Ok d)
  unfolding outcome Ahead
  goes_on d q f u y =
      let w = item_seen text s c x q v u in
      rw y (record { says = λ e σ. w.says h e σ room (log l c); ahead = record { from = omega (arith, w.from); fine = moved-fine text s c (move_to c q) q f w.from w.to refl } })

-- ---- what ends a Try

module _ (text s l : List ℕ) (c : At) (room : ℕ) (x : Handler) (v : HandlerRead text s c x) where
  pub last_end : (r : Result At Unread) → x ≡ H.NoNewline → EndRead text s c r → LastRead x text s l l c room r
  last_end r u w = record { behind_catch = ends-here text s l c room x v after-catch r u w; behind_try = λ n o. ends-here text s l c room x v (after_try o) r u w }

  pub last-item : (d : At) (q : ℕ) → Fine text s c → x ≡ H.Item q → d ≡ move_to c q → LastRead x text s l l c room (Ok d)
  last-item d q f u y = record { behind_catch = goes_on text s l c room x v after-catch d q f u y; behind_try = λ n o. goes_on text s l c room x v (after_try o) d q f u y }

  pub last-catch : (q : ℕ) → x ≡ H.Catch q → LastRead x text s l l c room (Err (Bad q))
  unfolding outcome Ahead
  last-catch q u =
      let w = catch_seen text s c x q v u in
      record { behind_catch = record { says = λ e σ. w.again e σ room (log l c); ahead = omega (arith, w.to) }; behind_try = λ n o. absurd (subst NoCatch u n) }

-- and where no catch block follows a try block, its target is dropped
pub try-ends : (text s l m : List ℕ) (c : At) (a : Option ℕ) (room : ℕ) (x : Handler) (r : Result At Unread) → ((q : ℕ) → x ≡ H.Catch q → ⊥) → LastRead x text s l m c room r → HandlersRead a text s l m c room r
try-ends text s l m c a room x r o v = v.behind_try (no_catch x o) (target_of text s a)
  where
    no_catch : (y : Handler) → ((q : ℕ) → y ≡ H.Catch q → ⊥) → NoCatch y
    no_catch H.NoNewline o = tt
    no_catch (H.Item q) o = tt
    no_catch (H.Catch q) o = absurd (o q refl)
    no_catch (H.Finally q) o = tt

-- the place behind a handler's word is a number
pub catch-next : (text s : List ℕ) (c : At) (x : Handler) (q : ℕ) → Fine text s c → HandlerRead text s c x → x ≡ H.Catch q → Fits w64 (q + 1)
catch-next text s c x q f v u = omega (arith, (catch_seen text s c x q v u).to, f.sound.short)

pub finally-next : (text s : List ℕ) (c : At) (x : Handler) (q : ℕ) → Fine text s c → HandlerRead text s c x → x ≡ H.Finally q → Fits w64 (q + 1)
finally-next text s c x q f v u = omega (arith, (finally_seen text s c x q v u).to, f.sound.short)

pub finally-fine : (text s : List ℕ) (c d : At) (x : Handler) (q : ℕ) → Fine text s c → HandlerRead text s c x → x ≡ H.Finally q → d ≡ move_to c (q + 1) → Fine text s d
finally-fine text s c d x q f v u e = let w = finally_seen text s c x q v u in moved-fine text s c d (q + 1) f (omega (arith, w.from)) (omega (arith, w.to)) e

pub finally_less : (text s : List ℕ) (c d : At) (x : Handler) (q t : ℕ) → HandlerRead text s c x → x ≡ H.Finally q → d ≡ move_to c (q + 1) → 4 * (length s - c.at) ≡ t → 4 * (length s - d.at) + 1 < t
finally_less text s c d x q t v u e m =
    let w = finally_seen text s c x q v u in
    let y : d.at ≡ q + 1 = ap (λ (z : At). z.at) e in
    omega (arith, w.from, w.to)

finally-block : (text s l m : List ℕ) (c d : At) (room q : ℕ) (h : Handlers) (r : Result At Unread) → Fine text s d → c.at ≤ d.at → Finally-at text s c.at q h → d ≡ move_to c (q + 1) →
    LastBlockRead B.Finally text s l m d room r → ReadsIn (λ e. level e (ended h) ∷ []) at_item text s l m c room r
finally-block text s l m c d room q h r f i v y w =
    let w' : LastBlockRead B.Finally text s l m (move_to c (q + 1)) room r = subst (λ (z : At). LastBlockRead B.Finally text s l m z room r) y w in
    record { says = λ e σ. v e σ room (log l c) ∙ w'.says e σ; ahead = further_on text s c d r (record { from = i; fine = f }) w.ahead }

finally-from : (text s : List ℕ) (c d : At) (x : Handler) (q : ℕ) → HandlerRead text s c x → x ≡ H.Finally q → d ≡ move_to c (q + 1) → c.at ≤ d.at
finally-from text s c d x q v u e = rw e (omega (arith, (finally_seen text s c x q v u).from))

pub last-finally : (text s l m : List ℕ) (c d : At) (room q : ℕ) (x : Handler) (r : Result At Unread) → Fine text s c → HandlerRead text s c x → x ≡ H.Finally q → d ≡ move_to c (q + 1) →
    LastBlockRead B.Finally text s l m d room r → LastRead x text s l m c room r
last-finally text s l m c d room q x r f v u y w =
    let z = finally_seen text s c x q v u in
    let g = finally-fine text s c d x q f v u y in
    let i = finally-from text s c d x q v u y in
    record {
      behind_catch = finally-block text s l m c d room q after-catch r g i z.says-catch y w;
      behind_try = λ n o. finally-block text s l m c d room q (after_try o) r g i (z.says-try o) y w;
    }

-- ---- a catch block

pub catch_asked : (text s : List ℕ) (c d : At) (a : Option ℕ) (x : Handler) (q : ℕ) → Fine text s c → TargetBefore c a → HandlerRead text s c x → x ≡ H.Catch q → d ≡ move_to c (q + 1) → GiveAsked d a
catch_asked text s c d a x q f b v u e =
    let w = catch_seen text s c x q v u in
    rw e (record { at = omega (arith, w.to, f.sound.short); events = omega (arith, f.events, w.from, w.to, f.sound.short); before = before_on c (move_to c (q + 1)) a b (omega (arith, w.from)) })

given-fine : (text s : List ℕ) (c : At) (a : Option ℕ) (q : ℕ) → Fine text s c → c.at + 1 < q → q ≤ length s → Fine text s (given_at (move_to c q) a)
given-fine text s c None q f i j = moved-fine text s c (move_to c q) q f (omega arith) j refl
given-fine text s c (Some t) q f i j = record { sound = f.sound; inside = j; events = omega (arith, f.events) }

given-at : (c : At) (a : Option ℕ) → (given_at c a).at ≡ c.at
given-at c None = refl
given-at c (Some t) = refl

-- the log with the target
given-log : (text s l : List ℕ) (c : At) (a : Option ℕ) → log (given_log l c a) (given_at c a) ≡ puts emit (target-out (target_of text s a)) (log l c)
given-log text s l c None = refl
given-log text s l c (Some t) = refl

module _ (text s l m : List ℕ) (c d g : At) (a : Option ℕ) (x : Handler) (q : ℕ) (f : Fine text s c) (v : HandlerRead text s c x) (u : x ≡ H.Catch q) (e : d ≡ move_to c (q + 1)) (w : GiveRead l m d a g) where
  seen : CatchSeen text s c q
  seen = catch_seen text s c x q v u

  counted : g ≡ given_at (move_to c (q + 1)) a
  counted = w.counted-to ∙ ap (λ (z : At). given_at z a) e

  logged-to : m ≡ given_log l (move_to c (q + 1)) a
  logged-to = w.given_to ∙ ap (λ (z : At). given_log l z a) e

  pub catch-fine : Fine text s g
  catch-fine = let k = counted in rw k (given-fine text s c a (q + 1) f (omega (arith, seen.from)) (omega (arith, seen.to)))

  catch-at : g.at ≡ q + 1
  catch-at = ap (λ (z : At). z.at) counted ∙ given-at (move_to c (q + 1)) a

  pub catch_less : (t : ℕ) → 4 * (length s - c.at) + 1 ≡ t → 4 * (length s - g.at) < t
  catch_less t h = omega (arith, catch-at, seen.from, seen.to)

  catch_on : Onward text s c g
  catch_on = record { from = omega (arith, catch-at, seen.from); fine = catch-fine }

  catch-starts : (room : ℕ) (z : Nesting) (σ : List Symbol) →
      judge text s (level z (ended (after_try (target_of text s a))) ∷ σ) room (log l c) c.at ≡ judge text s (opens catch ∷ level z (ended after-catch) ∷ σ) room (log m g) g.at
  catch-starts room z σ =
      let i = logged-to in
      let j = counted in
      let k = catch-at in
      seen.says (target_of text s a) z σ room (log l c)
      ∙ ap (λ (L : Log). judge text s (opens catch ∷ level z (ended after-catch) ∷ σ) room L (q + 1)) (sym (given-log text s l (move_to c (q + 1)) a))
      ∙ ap (λ (n : ℕ). judge text s (opens catch ∷ level z (ended after-catch) ∷ σ) room (log (given_log l (move_to c (q + 1)) a) (given_at (move_to c (q + 1)) a)) n) (sym k)
      ∙ ap (λ (n : List ℕ). judge text s (opens catch ∷ level z (ended after-catch) ∷ σ) room (log n (given_at (move_to c (q + 1)) a)) g.at) (sym i)
      ∙ ap (λ (n : At). judge text s (opens catch ∷ level z (ended after-catch) ∷ σ) room (log m n) g.at) (sym j)

  module _ (n : List ℕ) (room : ℕ) where
    pub catch-bad : (r : Unread) → BlockRead B.Catch text s m n g room (Err r) → HandlersRead a text s l n c room (Err r)
    catch-bad r b =
        record {
          says = λ z σ.
              catch-starts room z σ ∙ b.says z (level z (ended after-catch) ∷ σ)
              ∙ refusal text s (level z (ended after-catch) ∷ σ) (level z (item no_handlers) ∷ σ) room room n n r;
          ahead = further_on text s c g (Err r) catch_on b.ahead;
        }

    pub caught_less : (p : At) (t : ℕ) → BlockRead B.Catch text s m n g room (Ok p) → 4 * (length s - c.at) + 1 ≡ t → 4 * (length s - p.at) < t
    caught_less p t b h = omega (arith, catch-at, seen.from, seen.to, (in_on text s m n g p room b).from)

    pub catch_ok : (p : At) (next : Handler) (k : List ℕ) (y : Result At Unread) → BlockRead B.Catch text s m n g room (Ok p) → LastRead next text s n k p room y → HandlersRead a text s l k c room y
    unfolding outcome
    catch_ok p next k y b j =
        record {
          says = λ z σ. catch-starts room z σ ∙ b.says z (level z (ended after-catch) ∷ σ) ∙ j.behind_catch.says z σ;
          ahead = further_on text s c g y catch_on (further_on text s g p y (in_on text s m n g p room b) j.behind_catch.ahead);
        }
