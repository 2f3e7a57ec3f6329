-- THE LAW of held tables: a table that is cut to the places of a lent one answers for it, if it has places for whatever a text
-- can have. Assumes nothing.
use Rattle.std.specs.Prelude.{Ok, Err}
use mathlib.Core.Path.{◌≡◌, refl, sym, ap, subst, ◌∙◌}
use mathlib.Core.Bool.{Bool, true, false, cond}
use mathlib.Core.Logic.{◌⊎◌, inl, inr}
use mathlib.Core.List.{List, [], ◌∷◌, ◌++◌, append-nil, append_assoc}
use Prim.Native.Nat.{ℕ, zero, suc, ◌+◌, ◌*◌, ◌≤◌, ◌<◌, min}
use native.Mathlib.Nat.{eq-or-lt_of_le}
use native.Mathlib.Omega.{arith}
use lib.Dec.{ltb}
use lib.ListN.{length, drop, get_or}
use lib.Seq.{drop-append-le}
use borrow.Author.Tests.{ltb-false, le-ltb}
use Rattle.answers.specs.Answers.{Answer, accepted, refused}
use Rattle.tokens.specs.declared.Token.{Token}
use Rattle.utf8.specs.Utf8.{valid_up_to}
use Rattle.lexer.specs.Lexing.{fitting, lex_from, lex_text}
use Rattle.lexer.proofs.Theorems.{few}
use Rattle.lexemes.specs.Lexemes.{numbered}
use Rattle.grammar.specs.Reading as G
use Rattle.grammar.specs.Refusals.{Outcome, reads, entries, Short, Answers, rows₁₋₅, rows₆₋₇, row₈, fits}
use Rattle.grammar.proofs.Theorems.{halves}
use Rattle.entries.specs.Entries.{level_places}
use Rattle.reading.specs.Tables.{front, label_entry_word}
use Rattle.handover.specs.declared.Counts.{Counts}
use Rattle.handover.specs.Reading.{Reading, Tables, places, places_of, Accepts, Reads, ReadsFor, ReadsWords}
use Rattle.as2_pcode.proofs.Handed.{lexed, read}
use Rattle.as2_pcode.proofs.Kept.{numbered-length}
use Rattle.held.specs.Held.{AmpleTokens, AmpleEntries, Ample}
use Rattle.held.proofs.Fills.{Fills, tokens_fill, actions_fill, operands_fill, levels_fill, labels_fill, tokens_fit, actions_fit, operands_fit, levels_fit, labels_fit}

-- m places serve for as many as are lent: they are as many, or they are fewer, and enough
abbrev pub Serves : Type 0 → ℕ → ℕ → Type 0
Serves Enough m room = (m ≡ room) ⊎ ((m ≤ room) × Enough)

at_most : {E : Type 0} {m room : ℕ} → Serves E m room → m ≤ room
at_most (inl e) = omega (arith, e)
at_most (inr h) = h.0

-- ---- row 5

module _ (text : List ℕ) (m room : ℕ) where
  fitted : (q : Answer (List Token)) → lex_from text 0 0 ≡ q → m ≤ room → length text ≤ m → fitting m q ≡ fitting room q
  fitted (accepted l) e h g =
      let f = few text l e in
      simp (le-ltb m (length l) (omega (arith, f, g)), le-ltb room (length l) (omega (arith, f, g, h)))
  fitted (refused n p) e h g = refl

  by_row1 : (b : Bool) → ltb 65536 (length text) ≡ b → m ≤ room → AmpleTokens (length text) m
      → cond b (refused 1 0) (cond (ltb (valid_up_to text) (length text)) (refused 2 (valid_up_to text)) (fitting m (lex_from text 0 0)))
      ≡ cond b (refused 1 0) (cond (ltb (valid_up_to text) (length text)) (refused 2 (valid_up_to text)) (fitting room (lex_from text 0 0)))
  by_row1 true e h g = refl
  by_row1 false e h g =
      ap (cond (ltb (valid_up_to text) (length text)) (refused 2 (valid_up_to text))) (fitted (lex_from text 0 0) refl h (g (ltb-false 65536 (length text) e)))

  same_lexing : Serves (AmpleTokens (length text) m) m room → lex_text text m ≡ lex_text text room
  unfolding lex_text
  same_lexing (inl e) = ap (lex_text text) e
  same_lexing (inr h) = by_row1 (ltb 65536 (length text)) refl h.0 h.1

-- ---- row 8

-- a text that is read has at most an entry of each kind for every two bytes, and one level more
few-entries : (room : ℕ) (text : List ℕ) (ts : List Token) {R : G.Reading} → lex_text text room ≡ accepted ts → Outcome (numbered 0 text ts) (accepted R)
    → (k : ℕ) → 2 * get_or (entries R) k 0 ≤ length text + 2
few-entries room text ts {R} e (reads r d) k =
    at k (omega (arith, few text ts (lexed room ts text e).made, numbered-length text ts 0))
  where
    at : (j : ℕ) → length (numbered 0 text ts) ≤ length text → 2 * get_or (entries R) j 0 ≤ length text + 2
    at zero n = omega (arith, n, (halves r).0)
    at (suc zero) n = omega (arith, n, (halves r).1)
    at (suc (suc zero)) n = omega (arith, n, (halves r).2)
    at (suc (suc (suc zero))) n = omega (arith, n, (halves r).3)
    at (suc (suc (suc (suc j)))) n = omega arith

pub few-levels : {L : Type 0} {entry : G.Label → L} {room : ℕ} {ps text : List ℕ} {x y : Tables L} {c : Counts} → Accepts entry room ps text x y c → c.levels ≤ 65536
few-levels {room = room} {text = text} {c = c} a =
    let l = lexed room a.tokens text a.lexed in
    omega (arith, ap (λ (k : Counts). k.levels) a.counts, (halves (read a)).2, few text a.tokens l.made, numbered-length text a.tokens 0, l.small)

still_short : (n : ℕ) {m room e : ℕ} → n ≤ 65536 → 2 * e ≤ n + 2 → Serves (AmpleEntries n m) m room → m < e → room < e
still_short n small h (inl g) s = omega (arith, g, s)
still_short n small h (inr g) s = absurd (omega (arith, h, g.1 small, s))

-- the places ps of tables 0 to 3 serve for ps'
abbrev pub AllServe : ℕ → List ℕ → List ℕ → Type 0
AllServe n ps ps' = (k : ℕ) → Serves (AmpleEntries n (get_or ps k 0)) (get_or ps k 0) (get_or ps' k 0)

pub all_serve : (n : ℕ) {a o l b a' o' l' b' : ℕ} → Serves (AmpleEntries n a) a a' → Serves (AmpleEntries n o) o o' → Serves (AmpleEntries n l) l l' → Serves (AmpleEntries n b) b b'
    → AllServe n (a ∷ o ∷ l ∷ b ∷ []) (a' ∷ o' ∷ l' ∷ b' ∷ [])
all_serve n p q r s zero = p
all_serve n p q r s (suc zero) = q
all_serve n p q r s (suc (suc zero)) = r
all_serve n p q r s (suc (suc (suc zero))) = s
all_serve n p q r s (suc (suc (suc (suc k)))) = inl refl

module _ (text : List ℕ) (m room : ℕ) (ps ps' : List ℕ) (t : Serves (AmpleTokens (length text) m) m room) (s : AllServe (length text) ps ps') where
  narrower : (R : G.Reading) (k : ℕ) → Short ps' R k → Short ps R k
  narrower R k h = omega (arith, at_most (s k), h)

  serves : {r : Answer G.Reading} → Answers m ps text r → Answers room ps' text r
  serves (rows₁₋₅ e) = rows₁₋₅ (sym (same_lexing text m room t) ∙ e)
  serves (rows₆₋₇ e w) = rows₆₋₇ (sym (same_lexing text m room t) ∙ e) w
  serves (row₈ {ts = ts} {k = k} e r) =
      row₈ (sym (same_lexing text m room t) ∙ e) (record {
        reading = r.reading;
        outcome = r.outcome;
        short = still_short (length text) (lexed m ts text e).small (few-entries m text ts e r.outcome k) (s k) r.short;
        lowest = λ j g w. r.lowest j g (narrower r.reading j w);
      })
  serves (fits {R = R} e w f) = fits (sym (same_lexing text m room t) ∙ e) w (λ k h. f k (narrower R k h))

-- ---- the tables

-- p is the front of the table x, and has become y: then the table has become z
pub record Part {A : Type 0} (p y x z : List A) : Type 0 where
  pub rest : List A
  pub before : x ≡ p ++ rest
  pub after : z ≡ y ++ rest

pub whole_part : {A : Type 0} {x y z : List A} → z ≡ y → Part x y x z
whole_part {x = x} {y = y} e = record { rest = []; before = sym (append-nil x); after = e ∙ sym (append-nil y) }

module _ {A : Type 0} {p y x z : List A} (t : Part p y x z) where
  part_fills : {ws : List A} {n : ℕ} → Fills ws n p y → n ≤ length p → z ≡ front ws x
  part_fills {ws} f h =
      t.after ∙ ap (λ (l : List A). l ++ t.rest) f.is ∙ append_assoc ws (drop (length ws) p) t.rest
      ∙ ap (λ (l : List A). ws ++ l) (sym (drop-append-le (length ws) p t.rest (omega (arith, f.many, h)))) ∙ ap (λ (l : List A). front ws l) (sym t.before)

  part_same : y ≡ p → z ≡ x
  part_same e = t.after ∙ ap (λ (l : List A). l ++ t.rest) e ∙ sym t.before

pub record Parts {L : Type 0} (p y x z : Tables L) : Type 0 where
  pub tokens : Part p.tokens y.tokens x.tokens z.tokens
  pub actions : Part p.actions y.actions x.actions z.actions
  pub operands : Part p.operands y.operands x.operands z.operands
  pub levels : Part p.levels y.levels x.levels z.levels
  pub labels : Part p.labels y.labels x.labels z.labels

-- the parts p of the tables x are read into; the answer is that for the places that they serve for
module _ {L : Type 0} (entry : G.Label → L) (text : List ℕ) (room : ℕ) (ps : List ℕ) (p y x z : Tables L) (t : Parts p y x z)
    (s : Serves (AmpleTokens (length text) (length p.tokens)) (length p.tokens) room) (s' : AllServe (length text) (places p) ps) where
  pub cut : (r : Reading) → Reads entry text p y r → ReadsFor entry room ps text x z r
  unfolding Reads
  cut (Ok c) a =
      record {
        tokens = a.tokens;
        reading = a.reading;
        nets = a.nets;
        lexed = sym (same_lexing text (length p.tokens) room s) ∙ a.lexed;
        answer = serves text (length p.tokens) room (places p) ps s s' a.answer;
        net = a.net;
        tables = λ i. record {
          tokens = part_fills t.tokens (tokens_fill a) (tokens_fit a) i;
          actions = part_fills t.actions (actions_fill a) (actions_fit a) i;
          operands = part_fills t.operands (operands_fill a) (operands_fit a) i;
          levels = part_fills t.levels (levels_fill a) (omega (arith, levels_fit a)) i;
          labels = part_fills t.labels (labels_fill a) (labels_fit a) i;
        };
        counts = a.counts;
      }
  cut (Err f) a = (
    serves text (length p.tokens) room (places p) ps s s' a.0,
    λ i. record {
      tokens = part_same t.tokens (ap (λ (q : Tables L). q.tokens) a.1) i;
      actions = part_same t.actions (ap (λ (q : Tables L). q.actions) a.1) i;
      operands = part_same t.operands (ap (λ (q : Tables L). q.operands) a.1) i;
      levels = part_same t.levels (ap (λ (q : Tables L). q.levels) a.1) i;
      labels = part_same t.labels (ap (λ (q : Tables L). q.labels) a.1) i;
    },
  )

-- ---- tables that are cut to the places of lent ones

-- the least of the lent places and the held ones serves for the lent ones, if the held ones are enough
pub serves_for : (E : ℕ → Type 0) (m room w : ℕ) → m ≡ min room w → E w → Serves (E m) m room
serves_for E m room w e g = by (eq-or-lt_of_le {n = m} {m = room} (omega (arith, e)))
  where
    by : (m ≡ room) ⊎ (m < room) → Serves (E m) m room
    by (inl k) = inl k
    by (inr k) = inr (omega (arith, k), subst E (omega (arith, e, k)) g)

-- parts p of the held tables x
module _ (text : List ℕ) (n : Counts) (p y x z : Tables ℕ) (t : Parts p y x z) (am : Ample (length text) x)
    (et : length p.tokens ≡ min n.tokens (length x.tokens)) (ea : length p.actions ≡ min n.actions (length x.actions))
    (eo : length p.operands ≡ min n.operands (length x.operands)) (el : level_places p.levels ≡ min n.levels (level_places x.levels))
    (eb : length p.labels ≡ min n.labels (length x.labels)) where
  abbrev E : ℕ → Type 0
  E = AmpleEntries (length text)

  pub held_cut : (r : Reading) → ReadsWords text p y r → ReadsFor label_entry_word n.tokens (places_of n) text x z r
  held_cut =
      cut label_entry_word text n.tokens (places_of n) p y x z t
      (serves_for (AmpleTokens (length text)) (length p.tokens) n.tokens (length x.tokens) et am.tokens)
      (all_serve (length text)
      (serves_for E (length p.actions) n.actions (length x.actions) ea am.actions)
      (serves_for E (length p.operands) n.operands (length x.operands) eo am.operands)
      (serves_for E (level_places p.levels) n.levels (level_places x.levels) el am.levels)
      (serves_for E (length p.labels) n.labels (length x.labels) eb am.labels))
