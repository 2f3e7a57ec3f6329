-- From the run of the whole text to the grammar: the machine's verdict is the outcome, and the log is the tree's. Assumes nothing.
use mathlib.Core.Path.{◌≡◌, refl, sym, ap, ◌∙◌, subst}
use mathlib.Core.Bool.{false}
use mathlib.Core.List.{List, [], ◌∷◌, ◌++◌, map}
use Prim.Native.Nat.{ℕ, suc, ◌+◌, ◌≤◌}
use native.Mathlib.Omega.{arith}
use lib.ListN.{length, drop, set, length-map}
use lib.Seq.{sets, sets-eq}
use Rattle.std.specs.Prelude.{Result, Ok, Err}
use Rattle.answers.specs.Answers.{accepted, refused}
use Rattle.lexemes.specs.Lexemes.{Lexeme}
use Rattle.lexemes.specs.Events.{Event, acted, named, given, opened, closed}
use Rattle.machine.specs.Depth.{Verdict, read, fault, too_deep}
use Rattle.machine.proofs.Runs.{gives}
use Rattle.grammar.specs.Grammar.{Items, done, label, action, Blocks, no_blocks, block, Text}
use Rattle.grammar.specs.Reading.{reading_of}
use Rattle.grammar.specs.Refusals.{Outcome}
use Rattle.grammar.specs.Trees.{leading, waiting, givens, events, block-events}
use Rattle.grammar.proofs.Events.{emits, emits_blocks}
use Rattle.grammar.proofs.Outcomes.{Means, is_read, not_grammatical, opens_too_deep, meaning}
use Rattle.operands.specs.declared.At.{At}
use Rattle.operands.specs.declared.Unread.{Unread}
use Rattle.operands.specs.declared.Unread.TheVariants.{Bad, Deep}
use Rattle.classes.specs.Lexemes.{Sound, lexemes}
use Rattle.operands.specs.Log.{Log, log, event_word, emit}
use Rattle.operands.specs.Contract.{judge, Fine, Ahead}
use Rattle.operands.proofs.Places.{lexemes-length}
use Rattle.parser.specs.Parsing.{whole, LevelSays, LevelRead}
use Rattle.parser.specs.Parsed.{log_of, Logged, Parsed}

-- ---- what a tree emits, as a list

abbrev folded : List Event → Log → Log
folded [] L = L
folded (v ∷ k) L = folded k (emit v L)

gives_folds : (os : List Lexeme) (k : List Event) (L : Log) → folded (givens os k) L ≡ folded k (gives emit os L)
gives_folds [] k L = refl
gives_folds (t ∷ os) k L = gives_folds os k (emit (given t) L)

mutual
  emits_folds : (x : Items) (k : List Event) (L : Log) → folded (events x k) L ≡ folded k (emits emit x L)
  emits_folds done k L = refl
  emits_folds (label t x) k L = emits_folds x k (emit (named t) L)
  emits_folds (action n os bs x) k L = blocks_fold bs os (events x k) (emit (acted n) L) ∙ emits_folds x k (emits_blocks emit bs os (emit (acted n) L))

  blocks_fold : (bs : Blocks) (os : List Lexeme) (k : List Event) (L : Log) → folded (block-events bs os k) L ≡ folded k (emits_blocks emit bs os L)
  blocks_fold no_blocks os k L = gives_folds os k L
  blocks_fold (block p x bs) os k L =
      gives_folds (leading p os) (opened p ∷ events x (closed ∷ block-events bs (waiting p os) k)) L
      ∙ emits_folds x (closed ∷ block-events bs (waiting p os) k) (emit (opened p) (gives emit (leading p os) L))
      ∙ blocks_fold bs (waiting p os) k (emit closed (emits emit x (emit (opened p) (gives emit (leading p os) L))))

-- the log is filled word by word
fills : (k : List Event) (l : List ℕ) (n : ℕ) → folded k (record { words = l; count = n }) ≡ record { words = sets l n (map event_word k); count = n + length k }
fills [] l n = let e : n ≡ n + 0 = omega arith in ap (λ (m : ℕ). record { words = l; count = m }) e
fills (v ∷ k) l n =
    let a : n + 1 ≡ suc n = omega arith in
    let b : suc n + length k ≡ n + suc (length k) = omega arith in
    ap (λ (m : ℕ). folded k (record { words = set l n (event_word v); count = m })) a
    ∙ fills k (set l n (event_word v)) (suc n)
    ∙ ap (λ (m : ℕ). record { words = sets (set l n (event_word v)) (suc n) (map event_word k); count = m }) b

-- what a tree leaves in an empty log
log-told : (x : Items) (a : List ℕ) → emits emit x (record { words = a; count = 0 }) ≡ record { words = sets a 0 (log_of x); count = 0 + length (events x []) }
log-told x a = sym (emits_folds x [] (record { words = a; count = 0 })) ∙ fills (events x []) a 0

-- ---- the machine's verdict

module _ (text s a b : List ℕ) where
  -- what is read is logged, as far as the log reaches
  read-logged : (c : At) (x : Items) → length s ≤ length a → c.events ≤ length s → Text (lexemes text s) x → Outcome (lexemes text s) (accepted (reading_of x)) →
      emits emit x (record { words = a; count = 0 }) ≡ log b c → Logged text s a b c
  read-logged c x h g d o e =
      let q : record { words = sets a 0 (log_of x); count = 0 + length (events x []) } ≡ log b c = sym (log-told x a) ∙ e in
      let n : c.events ≡ length (log_of x) = omega (arith, ap (λ (L : Log). L.count) q, length-map (events x []) event_word) in
      let m : sets a 0 (log_of x) ≡ b = ap (λ (L : Log). L.words) q in
      let z : 0 + length (log_of x) ≡ length (log_of x) = omega arith in
      record { tree = x; fits = d; outcome = o; count = n; log = sym m ∙ sets-eq (log_of x) a 0 (omega (arith, n)) ∙ ap (λ (i : ℕ). log_of x ++ drop i a) z }

  same_read : {L M : Log} → read L ≡ read M → L ≡ M
  same_read h = cc

  same-fault : {m n : ℕ} → ◌≡◌ {A = Verdict Log} (fault m) (fault n) → m ≡ n
  same-fault h = cc

  same-deep : {m n : ℕ} → ◌≡◌ {A = Verdict Log} (too_deep m) (too_deep n) → m ≡ n
  same-deep h = cc

  abbrev sort : Verdict Log → ℕ
  sort (read L) = 0
  sort (fault n) = 1
  sort (too_deep n) = 2

  by-verdict : {v : Verdict Log} (r : Result At Unread) → length s ≤ length a → Means emit (lexemes text s) (record { words = a; count = 0 }) v → v ≡ whole s b r → Ahead text s (record { at = 0; events = 0 }) r →
      Parsed text s a b r
  unfolding whole Ahead Parsed
  by-verdict (Ok c) h (is_read {x = x} d o) e g = read-logged c x h (omega (arith, g.fine.events, g.fine.inside)) d o (same_read e)
  by-verdict (Ok c) h (not_grammatical k p o) e g = absurd (omega (arith, ap sort e))
  by-verdict (Ok c) h (opens_too_deep k p o) e g = absurd (omega (arith, ap sort e))
  by-verdict (Err (Bad j)) h (is_read d o) e g = absurd (omega (arith, ap sort e))
  by-verdict (Err (Bad j)) h (not_grammatical k p o) e g =
      let q : k ≡ j = omega (arith, same-fault e, lexemes-length text s) in subst (λ (i : ℕ). Outcome (lexemes text s) (refused 6 i)) q o
  by-verdict (Err (Bad j)) h (opens_too_deep k p o) e g = absurd (omega (arith, ap sort e))
  by-verdict (Err (Deep j)) h (is_read d o) e g = absurd (omega (arith, ap sort e))
  by-verdict (Err (Deep j)) h (not_grammatical k p o) e g = absurd (omega (arith, ap sort e))
  by-verdict (Err (Deep j)) h (opens_too_deep k p o) e g =
      let q : k ≡ j = omega (arith, same-deep e, lexemes-length text s) in subst (λ (i : ℕ). Outcome (lexemes text s) (refused 7 i)) q o

  pub parsed : (r : Result At Unread) → length s ≤ length a → LevelRead text s a b (record { at = 0; events = 0 }) 64 false r → Parsed text s a b r
  unfolding LevelSays judge
  parsed r h v = by-verdict r h (meaning emit (lexemes text s) (record { words = a; count = 0 })) v.says v.ahead

pub start_fine : (text s : List ℕ) → Sound text s → Fine text s (record { at = 0; events = 0 })
start_fine text s f = record { sound = f; inside = omega arith; events = omega arith }
