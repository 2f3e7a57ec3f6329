-- How the search for a jump's label goes on by one label. Assumes nothing.
use mathlib.Core.Path.{◌≡◌, refl, sym, ◌∙◌, ap}
use mathlib.Core.Bool.{Bool, true, false, cond}
use mathlib.Core.List.{List}
use Prim.Native.Nat.{ℕ, ◌+◌, ◌≤◌, ◌<◌}
use native.Mathlib.Numerals.{add-one}
use lib.ListN.{length, drop, get_or, drop_of_length-le}
use lib.Seq.{drop-cons}
use Rattle.std.specs.Prelude.{Some, None}
use Rattle.entries.specs.declared.Label.{Label}
use Rattle.entries.specs.Entries.{label_of}
use Rattle.label_names.specs.Names.{is_named}
use Rattle.lookups.specs.Targets.{target_in}

module _ (text s : List ℕ) (level : ℕ) (name ws : List ℕ) where
  -- what is left to search from label i on
  abbrev pub Left : ℕ → Type 0
  Left i = target_in text s level name ws ≡ target_in text s level name (drop i ws)

  pub all : Left 0
  all = refl

  module _ (i : ℕ) (so : Left i) where
    pub ends : length ws ≤ i → None ≡ target_in text s level name ws
    unfolding target_in
    ends h = sym (so ∙ simp (drop_of_length-le ws h))

    module _ (h : i < length ws) where
      step : target_in text s level name ws
          ≡ cond (is_named text s level name (get_or ws i 0)) (Some (label_of (get_or ws i 0)).position) (target_in text s level name (drop (i + 1) ws))
      unfolding target_in
      step = so ∙ rw (add-one i, drop-cons ws i 0)

      pub goes_on : (t : Bool) → t ≡ false → t ≡ is_named text s level name (get_or ws i 0) → Left (i + 1)
      goes_on t f n = step ∙ simp (← n, f)

      pub found : (t : Bool) (l : Label) → t ≡ true → t ≡ is_named text s level name (get_or ws i 0) → l ≡ label_of (get_or ws i 0)
          → Some l.position ≡ target_in text s level name ws
      found t l f n e = ap (λ (q : Label). Some q.position) e ∙ sym (step ∙ simp (← n, f))
