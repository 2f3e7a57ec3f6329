-- Label words in scratch: they are read as for the lent labels, and the reading's labels come back from them. Assumes nothing.
use Rattle.std.specs.Prelude.{Ok, Err}
use mathlib.Core.Path.{◌≡◌, refl, sym, ap, ◌∙◌}
use mathlib.Core.Logic.{inl}
use mathlib.Core.List.{List, [], ◌∷◌, ◌++◌, map}
use Prim.Native.Nat.{ℕ, ◌≤◌, ◌<◌, min}
use native.Mathlib.Omega.{arith}
use lib.ListN.{length, take, drop, length-map, get_or-map}
use lib.Seq.{ext_get_or, length-take-le, get_or-take}
use Rattle.answers.specs.declared.Refusal.{Refusal}
use Rattle.grammar.specs.Reading as G
use Rattle.entries.specs.declared.Label.{Label}
use Rattle.entries.specs.Entries.{level_places, label_of}
use Rattle.reading.specs.Tables.{front, label_entry, label_entry_word}
use Rattle.handover.specs.declared.Counts.{Counts}
use Rattle.handover.specs.Reading.{Reading, Tables, lent, Accepts, Reads, ReadsWords}
use Rattle.as2_pcode.proofs.Theorems.{labels-handed}
use Rattle.held.specs.Held.{AmpleEntries}
use Rattle.held.proofs.Fills.{inside, refilled, labels_fill, labels_fit}
use Rattle.held.proofs.Cut.{Parts, all_serve, serves_for, cut}
use Rattle.entry_reading.specs.Words.{ReadsScratch}

-- ---- the scratch ws is cut to a part

module _ (text tk ac op lv ws part : List ℕ) (y z : Tables ℕ) (room : ℕ) (t : Parts (lent tk ac op lv part) y (lent tk ac op lv ws) z)
    (e : length part ≡ min room (length ws)) (am : AmpleEntries (length text) (length ws)) where
  pub scratch_read : (r : Reading) → ReadsWords text (lent tk ac op lv part) y r → ReadsScratch room text (lent tk ac op lv ws) z r
  unfolding ReadsScratch
  scratch_read =
      cut label_entry_word text (length tk) (length ac ∷ length op ∷ level_places lv ∷ room ∷ []) (lent tk ac op lv part) y (lent tk ac op lv ws) z t
      (inl refl) (all_serve (length text) (inl refl) (inl refl) (inl refl) (serves_for (AmpleEntries (length text)) (length part) room (length ws) e am))

-- ---- the labels

module _ {room : ℕ} {ps text : List ℕ} {x y : Tables ℕ} {c : Counts} (a : Accepts label_entry_word room ps text x y c) where
  abbrev labels : List G.Label
  labels = a.reading.labels

  long : length (map label_of (take c.labels y.labels)) ≡ c.labels
  long = length-map (take c.labels y.labels) label_of ∙ length-take-le c.labels y.labels (inside (labels_fill a))

  labels_back : map label_of (take c.labels y.labels) ≡ map label_entry labels
  labels_back =
      ext_get_or (label_of 0) (map label_of (take c.labels y.labels)) (map label_entry labels)
      (long ∙ ap (λ (k : Counts). k.labels) a.counts ∙ sym (length-map labels label_entry))
      (λ i h.
      let i<n : i < c.labels = omega (arith, h, long) in
      get_or-map label_of (take c.labels y.labels) i 0 ∙ ap label_of (get_or-take c.labels y.labels i 0 i<n) ∙ labels-handed a i i<n (label_of 0))

-- ---- the hand-over

module _ (text tk ac op lv ws tk' ac' op' lv' ws' : List ℕ) (ls : List Label) where
  module _ (c : Counts) (a : ReadsScratch (length ls) text (lent tk ac op lv ws) (lent tk' ac' op' lv' ws') (Ok c)) where
    pub enough : (c.labels ≤ length ws') × (c.labels ≤ length ls)
    unfolding ReadsScratch
    enough = (inside (labels_fill a), labels_fit a)

    pub handed : (ls' : List Label) → ls' ≡ map label_of (take c.labels ws') ++ drop c.labels ls
        → Reads label_entry text (lent tk ac op lv ls) (lent tk' ac' op' lv' ls') (Ok c)
    unfolding ReadsScratch Reads
    handed ls' e =
        let es = map label_entry a.reading.labels in
        let made : ls' ≡ front es ls =
        e ∙ ap (λ (l : List Label). l ++ drop c.labels ls) (labels_back a)
        ∙ ap (λ (m : ℕ). es ++ drop m ls) (ap (λ (k : Counts). k.labels) a.counts ∙ sym (length-map a.reading.labels label_entry)) in
        refilled a (λ i. record { tokens = (a.tables i).tokens; actions = (a.tables i).actions; operands = (a.tables i).operands; levels = (a.tables i).levels; labels = made i })

  pub refused : (r : Refusal) → ReadsScratch (length ls) text (lent tk ac op lv ws) (lent tk' ac' op' lv' ws') (Err r)
      → Reads label_entry text (lent tk ac op lv ls) (lent tk' ac' op' lv' ls) (Err r)
  unfolding ReadsScratch Reads
  refused r a = (
    a.0,
    λ i. record { tokens = (a.1 i).tokens; actions = (a.1 i).actions; operands = (a.1 i).operands; levels = (a.1 i).levels; labels = ls },
  )
