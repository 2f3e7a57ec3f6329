-- What grouping makes of a tree's labels. Assumes nothing.
use mathlib.Core.Path.{◌≡◌, ◌∙◌}
use mathlib.Core.Option.{none}
use Prim.Native.Nat.{ℕ}
use native.Mathlib.Omega.{arith}
use lib.ListN.{length}
use Rattle.grammar.specs.Grammar.{Items, done}
use Rattle.grammar.specs.Reading.{Opened, all_actions, opened}
use Rattle.grouping.specs.Grouping.{Below, having, grouped}
use Rattle.entries.specs.Levels.{Small}
use Rattle.reading.specs.Trees.{AllOf, named_of, IsLow}
use Rattle.reading.proofs.Runs.{Every, runs, runs_high, grouped-same, grouped-all, all_below}
use Rattle.reading.proofs.Groups.{label_run, NamedLow, labels-own, opened-low, own-few, names_alike}

abbrev pub no_opened : Opened
no_opened = record { owner = none; first = 0; items = done }

module _ (x : Items) (h : AllOf IsLow x) (g : Small (all_actions x)) where
  named-low : Every NamedLow (opened x)
  named-low = ((h, omega (arith, g, own-few x)), opened-low x 0 h g)

  named_alike : (k : ℕ) → having k (named_of 0 1 0 x) ≡ having k (runs label_run 0 (opened x))
  named_alike k = names_alike k x 0 1 0 0 (omega arith) h (omega (arith, g))

  pub labels-grouped : grouped (length (opened x)) (named_of 0 1 0 x) ≡ runs label_run 0 (opened x)
  labels-grouped =
      grouped-same (named_of 0 1 0 x) (runs label_run 0 (opened x)) named_alike (length (opened x))
      ∙ grouped-all label_run labels-own (opened x) no_opened named-low

  pub labels_below : Below (length (opened x)) (named_of 0 1 0 x)
  labels_below =
      all_below (length (opened x)) (named_of 0 1 0 x) (λ k i. named_alike k ∙ runs_high label_run labels-own k 0 (opened x) named-low (omega (arith, i)))
