-- `put_over` and `put_labels`: the labels of a tree, at the front of the lent table. Assumes nothing.
use mathlib.Core.Path.{◌≡◌, refl, sym, ap, subst, ◌∙◌}
use mathlib.Core.Bool.{Bool, true, false, cond}
use mathlib.Core.List.{List, [], ◌∷◌, ◌++◌}
use Prim.Native.Nat.{ℕ, zero, suc, ◌+◌, ◌≤◌, ◌<◌}
use native.Mathlib.Omega.{arith}
use native.Mathlib.Decide.{ℕ_discrete}
use lib.ListN.{length, take, drop, length-append, length-map, length-replicate, replicate}
use lib.Dec.{eqb}
use lib.Seq.{take_at}
use Rattle.std.specs.Prelude.{Some, None}
use Rattle.events.specs.Log.{kind_of}
use Rattle.counting.proofs.Counts.{zero_if}
use Rattle.counting.specs.Counting.{one_if, count_of}
use Rattle.grammar.specs.Grammar.{Items}
use Rattle.grammar.specs.Reading.{all_actions, opened, reading_of}
use Rattle.grouping.specs.Grouping.{Below, having, grouped}
use Rattle.labels.specs.Labels.{merged, Merged}
use Rattle.parser.specs.Parsed.{log_of}
use Rattle.reading.specs.Trees.{AllOf, IsLow, named_of}
use Rattle.reading.specs.Tables.{front, label_entry_word, label_words}
use Rattle.reading.specs.Told.{Known}
use Rattle.reading.proofs.Places.{weaker_of}
use Rattle.reading.proofs.Grouped.{labels-grouped, labels_below}
use Rattle.reading.proofs.Labels.{is_found, labels-merged, all_sound}
use Rattle.reading.proofs.Sets.{at_front}
use Rattle.reading.proofs.Front.{few-of, levels_many}
use Rattle.reading.proofs.Tallies.{tallied}
use Rattle.labelling.specs.Naming.{Collects, steps, start}
use Rattle.labelling.specs.Putting.{Asked, Roomy, LabelsAsked, PutOf}
use Rattle.labelling.proofs.Names.{all_named}

one-few : (k w : ℕ) → one_if k w ≤ 1
one-few k w = either (eqb (kind_of w) k)
  where
    either : (b : Bool) → cond b 1 0 ≤ 1
    either true = omega arith
    either false = omega arith

count-few : (k : ℕ) (l : List ℕ) → count_of k l ≤ length l
count-few k [] = omega arith
count-few k (w ∷ l) = omega (arith, one-few k w, count-few k l)

one-of_both : (w : ℕ) → one_if 1 w + one_if 3 w ≤ 1
one-of_both w =
    elim (ℕ_discrete (kind_of w) 1) [
      | yes e ↦ omega (arith, one-few 1 w, zero_if w 3 refl (λ d. omega arith))
      | no e ↦ omega (arith, one-few 3 w, zero_if w 1 refl e)
    ]

both_few : (l : List ℕ) → count_of 1 l + count_of 3 l ≤ length l
both_few [] = omega arith
both_few (w ∷ l) = omega (arith, one-of_both w, both_few l)

pub merged-fits : (text s l old new : List ℕ) (r : ℕ) → Merged text s l old new r → r ≤ length new
merged-fits text s l old new r w =
    let k = merged text s [] l in
    omega (arith, w.count, ap length w.labels, length-append k (drop (length k) old))

none-having : (k : ℕ) → having k [] ≡ []
unfolding having
none-having k = refl

none-grouped : (k : ℕ) → grouped k [] ≡ []
none-grouped zero = refl
none-grouped (suc k) = λ j. none-grouped k j ++ none-having k j

empty : (l : List ℕ) → 0 ≡ length l → [] ≡ l
empty [] e = refl
empty (y ∷ l) e = absurd (omega arith)

module _ (text s log : List ℕ) (n levels : ℕ) (asked : Asked text s log n levels) where
  pub named-few : n ≤ 65536
  named-few = omega (arith, asked.names, asked.counted.labels, count-few 1 log, asked.few)

  pub all-few : n + levels ≤ 65537
  all-few = omega (arith, asked.names, asked.opens, asked.counted.labels, asked.counted.levels, both_few log, asked.few)

  module _ (x : Items) (known : Known text s x) (e : log ≡ log_of x) where
    low : AllOf IsLow x
    low = weaker_of (λ u o. omega (arith, o.0, known.few)) x known.known

    few-actions : all_actions x ≤ 65536
    few-actions = omega (arith, few-of x 0 1 0, known.small, known.few)

    names-is : n ≡ length (named_of 0 1 0 x)
    names-is = asked.names ∙ (tallied log asked.count x low e asked.counted).named

    levels-is : levels ≡ length (opened x)
    levels-is = asked.opens ∙ (tallied log asked.count x low e asked.counted).levels ∙ levels_many x

    fronted : (W N W' N' : List ℕ) → levels < length W → n ≤ length N → Collects log W N W' N' → take n N' ≡ named_of 0 1 0 x
    fronted W N W' N' h k c =
        let u = named_of 0 1 0 x in
        ap (take n)
        (all_named x W N W' N' c.at low (omega (arith, levels-is)) few-actions
        (c.all ∙ ap (λ l. steps l (start W N)) e)
        ∙ at_front u N (omega (arith, names-is)))
        ∙ take_at u (drop (length u) N) n (sym names-is)

    pub named_half : n ≤ 32768
    named_half = omega (arith, names-is, known.named_half, known.few)

    pub levels_half : levels ≤ 32769
    levels_half = omega (arith, levels-is, known.opened_half, known.few)

    below : Below levels (named_of 0 1 0 x)
    below = subst (λ k. Below k (named_of 0 1 0 x)) (sym levels-is) (labels_below x low (omega (arith, few-actions)))

    -- the labels of the reading
    merged_are : (l : List ℕ) → l ≡ named_of 0 1 0 x → merged text s [] (grouped levels l) ≡ label_words (reading_of x)
    unfolding reading_of
    merged_are l f =
        (λ j. merged text s [] (grouped (levels-is j) (f j)))
        ∙ ap (merged text s []) (labels-grouped x low (omega (arith, few-actions)))
        ∙ labels-merged text s (opened x)
        (all_sound text s x (weaker_of (λ t o. is_found text s t (omega (arith, known.few)) o.0 o.1) x known.known) (omega (arith, few-actions)))

    words_many : length (label_words (reading_of x)) ≡ length (reading_of x).labels
    words_many = length-map (reading_of x).labels label_entry_word

    module _ (W N W' N' N'' : List ℕ) (m : ℕ) (h : levels < length W) (k : n ≤ length N) (c : Collects log W N W' N') (w : Merged text s (grouped levels (take n N')) N' N'' m) where
      all-merged : merged text s [] (grouped levels (take n N')) ≡ label_words (reading_of x)
      all-merged = merged_are (take n N') (fronted W N W' N' h k c)

      many : m ≡ length (reading_of x).labels
      many = w.count ∙ ap length all-merged ∙ words_many

      pub short : (old : List ℕ) → length old < m → PutOf x old old None
      unfolding PutOf
      short old g = (omega (arith, many), refl)

      pub put : (old new : List ℕ) → m ≤ length old → new ≡ take m N'' ++ drop m old → PutOf x old new (Some m)
      unfolding PutOf
      put old new g f =
          let l = merged text s [] (grouped levels (take n N')) in
          let t : take m N'' ≡ label_words (reading_of x) = ap (take m) w.labels ∙ take_at l (drop (length l) N') m (sym w.count) ∙ all-merged in
          (many, (g, f ∙ (λ j. t j ++ drop ((many ∙ sym words_many) j) old)))

    pub nothing : n ≡ 0 → (old : List ℕ) → PutOf x old old (Some 0)
    unfolding PutOf
    nothing z old =
        let e₀ : [] ≡ label_words (reading_of x) =
        sym (ap (merged text s []) (none-grouped levels)) ∙ merged_are [] (empty (named_of 0 1 0 x) (sym z ∙ names-is))
        in
        (ap length e₀ ∙ words_many, (omega arith, ap (λ l. front l old) e₀))

  -- what arranging asks
  pub labels_asked : (W N W' N' S : List ℕ) → Collects log W N W' N' → Roomy n levels N S W → length W' ≡ length W → length N' ≡ length N → LabelsAsked n levels N' S W'
  labels_asked W N W' N' S c r a b =
      record {
        inside = omega (arith, r.for_named);
        sorted_room = r.for_sorted;
        starts-room = omega (arith, r.for_levels);
        index_room = omega (arith, r.for_index);
        few = named-few;
        keys = subst (Below levels) (sym (fronted asked.tree asked.of asked.log-of W N W' N' r.for_levels r.for_named c)) (below asked.tree asked.of asked.log-of);
      }

-- scratch of k places
pub roomy : (n levels k : ℕ) → n ≤ k → levels < k → Roomy n levels (replicate k 0) (replicate k 0) (replicate k 0)
roomy n levels k h g =
    let e = length-replicate {A = ℕ} k 0 in
    record { for_named = omega (arith, e); for_sorted = omega (arith, e); for_levels = omega (arith, e); for_index = omega (arith, e) }
