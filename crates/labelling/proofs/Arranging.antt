-- `labelling::arrange_labels`: labels by level, those of one name brought together. Assumes nothing.
use mathlib.Core.Path.{◌≡◌, ap, subst, ◌∙◌}
use mathlib.Core.List.{List}
use Prim.Native.Nat.{ℕ, ◌≤◌}
use lib.ListN.{length, take, drop}
use lib.Seq.{length-take-le, take_at}
use Rattle.grouping.specs.Grouping.{Below, grouped, Grouped}
use Rattle.grouping.proofs.Keys.{last-start}
use Rattle.labels.specs.Labels.{Merged}

module _ (text s : List ℕ) (n levels : ℕ) (labels sorted : List ℕ) where
  pub labels_arranged : {sorted' starts labels' : List ℕ} {r : ℕ} → n ≤ length labels → Below levels (take n labels)
      → Grouped levels (take n labels) sorted sorted' starts
      → Merged text s (take n sorted') labels labels' r → Merged text s (grouped levels (take n labels)) labels labels' r
  labels_arranged {sorted'} {starts} {labels'} {r} h b g m =
      let l = take n labels in
      let e : take n sorted' ≡ grouped levels l =
      ap (take n) g.placed ∙ take_at (grouped levels l) (drop (length l) sorted) n (last-start levels l b ∙ length-take-le n labels h)
      in
      subst (λ (q : List ℕ). Merged text s q labels labels' r) e m
