-- `parse_text`: rows 3 to 7, and the tree of a text that has a reading. Assumes nothing.
use mathlib.Core.Path.{◌≡◌, refl, sym, ap, ◌∙◌, subst}
use mathlib.Core.Bool.{true, false}
use mathlib.Core.List.{List, ◌++◌, map, append_assoc}
use Prim.Native.Nat.{ℕ, ◌≤◌, ◌<◌}
use native.Mathlib.Omega.{arith}
use lib.Dec.{ltb}
use lib.ListN.{length, take, drop, length-append, length-map}
use lib.Seq.{take-append_seam}
use Rattle.std.specs.Prelude.{Ok, Err}
use borrow.Author.Tests.{lt-ltb, le-ltb}
use Rattle.answers.specs.Answers.{Answer, accepted, refused, refusal, number_of, place_of}
use Rattle.answers.specs.declared.Refusal.{Refusal}
use Rattle.lexer.specs.Lexing.{counted, fitting, lex_from, lex_text}
use Rattle.lexer.specs.Scratch.{Stored, words_of}
use Rattle.lexer.proofs.Sound.{AllWhole, all_whole}
use Rattle.tokens.specs.declared.Token.{Token}
use Rattle.tokens.specs.Tokens.{word_of}
use Rattle.utf8.specs.Utf8.{valid_up_to}
use Rattle.lexemes.specs.Lexemes.{Lexeme, numbered}
use Rattle.grammar.specs.Grammar.{Text}
use Rattle.grammar.specs.Reading.{reading_of}
use Rattle.grammar.specs.Refusals.{Outcome, Answers, rows₁₋₅, rows₆₋₇}
use Rattle.grammar.proofs.Sizes.{fits-size, fits_halves, blocks-opened}
use Rattle.operands.specs.declared.At.{At}
use Rattle.operands.specs.declared.Unread.TheVariants.{Bad, Deep}
use Rattle.classes.specs.Lexemes.{lexemes, Sound}
use Rattle.operands.proofs.Places.{lexemes-length}
use Rattle.parser.specs.Parsed as P
use Rattle.parser.specs.Parsed.{log_of, Parsed}
use Rattle.reading.specs.Told.{Of, Logged}
use Rattle.reading.proofs.Places.{text-all}
use Rattle.reading.proofs.Trees.{named_count}
use Rattle.reading.proofs.Tokens.{lexemes-numbered, words-sound, all_of}

module _ (text : List ℕ) (room : ℕ) (b : length text ≤ 65536) (u : length text ≤ valid_up_to text) where
  lex_is : lex_text text room ≡ fitting room (lex_from text 0 0)
  unfolding lex_text
  lex_is = simp (le-ltb 65536 (length text) b, le-ltb (valid_up_to text) (length text) u)

  -- ---- from what stands in the scratch table z

  refuses : (q : Answer (List Token)) (r : Refusal) → lex_from text 0 0 ≡ q → refusal r ≡ counted q → (places : List ℕ) → Answers room places text (refusal r)
  refuses (accepted l) r e f places = let z : ◌≡◌ {A = ℕ} 0 1 = cc in absurd (omega arith)
  refuses (refused n p) r e f places =
      let m : n ≡ number_of r = cc in
      let k : p ≡ place_of r = cc in
      rows₁₋₅ (lex_is ∙ ap (fitting room) e ∙ ap (λ v. refused v p) m ∙ ap (λ v. refused (number_of r) v) k)

  too_many : (q : Answer (List Token)) (n : ℕ) → lex_from text 0 0 ≡ q → accepted n ≡ counted q → room < n → (places : List ℕ) → Answers room places text (refused 5 n)
  too_many (accepted l) n e f g places =
      let m : n ≡ length l = cc in
      let t : ltb room (length l) ≡ true = lt-ltb room (length l) (omega (arith, g, m)) in
      rows₁₋₅ {n = 5} {p = n} (lex_is ∙ ap (fitting room) e ∙ simp t (ap (λ v. refused 5 v) (sym m)))
  too_many (refused n p) k e f g places = let z : ◌≡◌ {A = ℕ} 0 1 = cc in absurd (omega arith)

  record Lexed (z : List ℕ) (n : ℕ) : Type 0 where
    tokens : List Token
    from : lex_from text 0 0 ≡ accepted tokens
    lexed : lex_text text room ≡ accepted tokens
    words : take n z ≡ map word_of tokens
    count : n ≡ length tokens
    few : n ≤ length text

  all-tokens : (q : Answer (List Token)) (z : List ℕ) (n : ℕ) → lex_from text 0 0 ≡ q → accepted n ≡ counted q → take n z ≡ words_of q → n ≤ length text
      → n ≤ room → Lexed z n
  all-tokens (accepted l) z n e f w h g =
      let m : n ≡ length l = cc in
      let t : ltb room (length l) ≡ false = le-ltb room (length l) (omega (arith, g, m)) in
      record { tokens = l; from = e; lexed = lex_is ∙ ap (fitting room) e ∙ simp t refl; words = w; count = m; few = h }
  all-tokens (refused n p) z k e f w h g = let z : ◌≡◌ {A = ℕ} 0 1 = cc in absurd (omega arith)

  module _ (z : List ℕ) where
    pub row34 : (r : Refusal) → Stored text z (Err r) → (places : List ℕ) → Answers room places text (refusal r)
    row34 r h = refuses (lex_from text 0 0) r refl h.answered

    module _ (n : ℕ) (h : Stored text z (Ok n)) where
      pub row5 : room < n → (places : List ℕ) → Answers room places text (refused 5 n)
      row5 g = too_many (lex_from text 0 0) n refl h.answered g

      module _ (g : n ≤ room) where
        lexed : Lexed z n
        lexed = all-tokens (lex_from text 0 0) z n refl h.answered h.words h.few g

        whole : AllWhole (length text) lexed.tokens
        whole = all_whole text lexed.tokens lexed.from

        pub sound : Sound text (take n z)
        sound =
            subst (λ (s : List ℕ). Sound text s) (sym lexed.words)
            (words-sound text lexed.tokens b (omega (arith, lexed.count, lexed.few, b)) whole)

        same-lexemes : lexemes text (take n z) ≡ numbered 0 text lexed.tokens
        same-lexemes = ap (lexemes text) lexed.words ∙ lexemes-numbered text lexed.tokens b whole

        words_count : length (take n z) ≡ n
        words_count = ap length lexed.words ∙ length-map lexed.tokens word_of ∙ sym lexed.count

        refused-by : (m k : ℕ) → Outcome (lexemes text (take n z)) (refused m k) → (places : List ℕ) → Answers room places text (refused m k)
        refused-by m k o places = rows₆₋₇ lexed.lexed (subst (λ (ts : List Lexeme). Outcome ts (refused m k)) same-lexemes o)

        pub row6 : (a e : List ℕ) (k : ℕ) → Parsed text (take n z) a e (Err (Bad k)) → (places : List ℕ) → Answers room places text (refused 6 k)
        unfolding Parsed
        row6 a e k o = refused-by 6 k o

        pub row7 : (a e : List ℕ) (k : ℕ) → Parsed text (take n z) a e (Err (Deep k)) → (places : List ℕ) → Answers room places text (refused 7 k)
        unfolding Parsed
        row7 a e k o = refused-by 7 k o

        module _ (a e rest : List ℕ) (c : At) (long : length e ≡ n) where
          events_in : P.Logged text (take n z) a e c → c.events ≤ n
          events_in p =
              omega (arith, p.count, ap length p.log, length-append (log_of p.tree) (drop (length (log_of p.tree)) a), long)

          events_are : (p : P.Logged text (take n z) a e c) → take c.events (e ++ rest) ≡ log_of p.tree
          events_are p =
              let l = log_of p.tree in
              ap (λ (q : ℕ). take q (e ++ rest)) p.count
              ∙ ap (λ (q : List ℕ). take (length l) (q ++ rest)) p.log
              ∙ ap (take (length l)) (append_assoc l (drop (length l) a) rest)
              ∙ take-append_seam l (drop (length l) a ++ rest)

          logged : P.Logged text (take n z) a e c → Logged text room (take n z) (take c.events (e ++ rest))
          logged p =
              let s = take n z in
              record {
                tokens = lexed.tokens;
                lexed = lexed.lexed;
                words = lexed.words;
                in_room_lem = omega (arith, words_count, g);
                in_text = omega (arith, words_count, lexed.few);
                tree = p.tree;
                fits = subst (λ (ts : List Lexeme). Text ts p.tree) same-lexemes p.fits;
                outcome = subst (λ (ts : List Lexeme). Outcome ts (accepted (reading_of p.tree))) same-lexemes p.outcome;
                of = record {
                  known = text-all (Of text s) p.fits (all_of text s);
                  few = omega (arith, words_count, lexed.few, b);
                  small = omega (arith, fits-size p.fits, lexemes-length text s);
                  named_half = omega (arith, (fits_halves p.fits).labels, named_count p.tree 0 1 0, lexemes-length text s);
                  opened_half = omega (arith, (fits_halves p.fits).blocks, blocks-opened p.tree 0, lexemes-length text s);
                };
                log-of = events_are p;
                events = omega (arith, words_count, ap length (events_are p), p.count, events_in p);
              }

          pub row_none : n ≤ length z → n ≤ length (e ++ rest) → Parsed text (take n z) a e (Ok c)
              → Logged text room (take n z) (take c.events (e ++ rest)) × ((n ≤ length z) × (c.events ≤ length (e ++ rest)))
          unfolding Parsed
          row_none v w p = (logged p, (v, omega (arith, w, events_in p)))
