-- `read_log`: row 8, or the tables of the reading. Assumes nothing.
use Rattle.std.specs.Prelude.{Ok, Err, Some, None}
use mathlib.Core.Path.{◌≡◌, refl, sym, ap, ◌∙◌, subst}
use mathlib.Core.List.{List, [], ◌∷◌, ◌++◌, map}
use Prim.Native.Nat.{ℕ, zero, suc, ◌≤◌, ◌<◌}
use native.Mathlib.Omega.{arith}
use lib.ListN.{length, take, drop, get_or, length-map}
use lib.Seq.{take-length}
use Rattle.answers.specs.declared.Refusal.TheVariants as F
use Rattle.tokens.specs.Tokens.{word_of}
use Rattle.entries.specs.Entries.{level_places}
use Rattle.counting.specs.declared.Count.{Count}
use Rattle.counting.specs.Counting.{Counted}
use Rattle.grammar.specs.Grammar.{Items}
use Rattle.grammar.specs.Reading.{reading_of}
use Rattle.grammar.specs.Nets.{nets}
use Rattle.grammar.specs.Refusals.{entries, row₈, fits}
use Rattle.writing.specs.Writing.{Writes}
use Rattle.reading.specs.Trees.{AllOf, IsLow}
use Rattle.reading.specs.Tables.{front}
use Rattle.reading.specs.Told.{Logged, Filled}
use Rattle.reading.proofs.Places.{weaker_of}
use Rattle.reading.proofs.Front as tables
use Rattle.reading.proofs.Tallies.{TreeCounts, tallied}
use Rattle.labelling.specs.Putting.{Asked, PutOf}
use Rattle.handover.specs.Reading.{Tables, places, Reads, ReadsWords, lent}
use Rattle.handover.specs.Scratch.{Lowest, ShortOf}
use Rattle.handover.proofs.Rows.{wider}

module _ (text s log tokens actions operands levels labels : List ℕ) (r : Logged text (length tokens) s log) (c : Count) (d : Counted log c) where
  abbrev tree : Items
  tree = r.tree

  abbrev had : Tables ℕ
  had = lent tokens actions operands levels labels

  low : AllOf IsLow tree
  low = weaker_of (λ u o. omega (arith, o.0, r.of.few)) tree r.of.known

  counts : TreeCounts tree c
  counts = tallied log c tree low r.log-of d

  pub asked : Asked text s log c.labels c.levels
  asked =
      record {
        tree = tree;
        of = r.of;
        log-of = r.log-of;
        few = omega (arith, r.events, r.of.few);
        count = c;
        counted = d;
        names = refl;
        opens = refl;
      }

  -- with n labels the counts are those of the reading
  all_needed : (n : ℕ) → n ≡ length (reading_of tree).labels → c.actions ∷ c.operands ∷ c.levels ∷ n ∷ [] ≡ entries (reading_of tree)
  all_needed n e = λ i. counts.actions i ∷ counts.operands i ∷ counts.levels i ∷ e i ∷ []

  refused-at : (k n : ℕ) → n ≡ length (reading_of tree).labels → Lowest (places had) (c.actions ∷ c.operands ∷ c.levels ∷ n ∷ []) k → ReadsWords text had had (Err (F.TableShort k))
  unfolding Reads
  refused-at k n e g =
      let a = all_needed n e in (
        row₈ r.lexed
            (record {
              reading = reading_of tree;
              outcome = r.outcome;
              short = subst (λ es. get_or (places had) k 0 < get_or es k 0) a g.short;
              lowest = λ j i w. g.lowest j i (subst (λ es. get_or (places had) j 0 < get_or es j 0) (sym a) w);
            }),
        refl,
      )

  abbrev held-places : List ℕ
  held-places = length actions ∷ length operands ∷ level_places levels ∷ []

  abbrev asked-places : List ℕ
  asked-places = c.actions ∷ c.operands ∷ c.levels ∷ []

  pub row8 : (k : ℕ) → ShortOf held-places asked-places (Some k) → ReadsWords text had had (Err (F.TableShort k))
  row8 k h =
      refused-at k (length (reading_of tree).labels) refl
      (wider (length actions) (length operands) (level_places levels) (length labels) c.actions c.operands c.levels (length (reading_of tree).labels) k h.0 h.1)

  module _ (roomy : ShortOf held-places asked-places None) where
    actions-room : c.actions ≤ length actions
    actions-room = let n = roomy 0 in omega (arith, n)

    operands-room : c.operands ≤ length operands
    operands-room = let n = roomy 1 in omega (arith, n)

    levels-room : c.levels ≤ level_places levels
    levels-room = let n = roomy 2 in omega (arith, n)

    pub row8_labels : (labels' : List ℕ) → PutOf tree labels labels' None → ReadsWords text had (lent tokens actions operands levels labels') (Err (F.TableShort 3))
    unfolding PutOf
    row8_labels labels' p =
        subst (λ l. ReadsWords text had (lent tokens actions operands levels l) (Err (F.TableShort 3))) (sym p.1)
        (refused-at 3 (length (reading_of tree).labels) refl (record { short = p.0; lowest = before }))
      where
        before : (j : ℕ) → j < 3 → ¬ (get_or (places had) j 0 < get_or (c.actions ∷ c.operands ∷ c.levels ∷ length (reading_of tree).labels ∷ []) j 0)
        before zero i w = omega (arith, w, actions-room)
        before (suc zero) i w = omega (arith, w, operands-room)
        before (suc (suc zero)) i w = omega (arith, w, levels-room)
        before (suc (suc (suc j))) i w = omega arith

    module _ (tokens' actions' operands' levels' labels' : List ℕ) (m : ℕ) (p : PutOf tree labels labels' (Some m))
        (w : Writes text s log actions operands levels actions' operands' levels') (t : tokens' ≡ take (length s) s ++ drop (length s) tokens) where
      full : Filled tree actions operands levels actions' operands' levels'
      full =
          tables.filled text s log actions operands levels actions' operands' levels' tree r.of r.log-of w
          (omega (arith, counts.actions, actions-room)) (omega (arith, counts.operands, operands-room)) (omega (arith, counts.levels, levels-room))

      token-table : tokens' ≡ front (map word_of r.tokens) tokens
      token-table = t ∙ ap (λ q. q ++ drop (length s) tokens) (take-length s) ∙ ap (λ q. q ++ drop (length q) tokens) r.words

      none-short : m ≡ length (reading_of tree).labels → m ≤ length labels → (j : ℕ) → ¬ (get_or (places had) j 0 < get_or (entries (reading_of tree)) j 0)
      none-short e₁ l zero v = omega (arith, v, actions-room, counts.actions)
      none-short e₁ l (suc zero) v = omega (arith, v, operands-room, counts.operands)
      none-short e₁ l (suc (suc zero)) v = omega (arith, v, levels-room, counts.levels)
      none-short e₁ l (suc (suc (suc zero))) v = omega (arith, v)
      none-short e₁ l (suc (suc (suc (suc j)))) v = omega (arith, v)

      pub accepted-all : ReadsWords text had (lent tokens' actions' operands' levels' labels')
          (Ok (record { tokens = length s; actions = c.actions; operands = c.operands; levels = c.levels; labels = m }))
      unfolding Reads PutOf
      accepted-all =
          let n : length s ≡ length r.tokens = ap length r.words ∙ length-map r.tokens word_of in
          record {
            tokens = r.tokens;
            reading = reading_of tree;
            nets = nets tree;
            lexed = r.lexed;
            answer = fits r.lexed r.outcome (none-short p.0 p.1.0);
            net = record { tree = tree; fits = r.fits; told = refl };
            tables = λ i. record {
              tokens = token-table i;
              actions = full.actions i;
              operands = full.operands i;
              levels = full.levels i;
              labels = p.1.1 i;
            };
            counts = λ i. record { tokens = n i; actions = counts.actions i; operands = counts.operands i; levels = counts.levels i; labels = p.0 i };
          }
