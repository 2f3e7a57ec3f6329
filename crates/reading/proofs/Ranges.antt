-- Levels of a tree are within their bounds. Assumes nothing.
use Prim.Native.Nat.{ℕ, suc, ◌+◌, ◌≤◌, ◌<◌}
use native.Mathlib.Omega.{arith}
use lib.ListN.{length, length-append}
use Rattle.grammar.specs.Grammar.{Items, done, label, action, Blocks, no_blocks, block}
use Rattle.grammar.specs.Reading.{Acted, all_actions, actions_inside, opened_of, opened_in, acted_of, acted_in}
use Rattle.reading.proofs.Runs.{Every, every_append}
use Rattle.reading.proofs.Trees.{opened-count, opened-counts}

-- every level is below the count of levels
module _ (M : ℕ) where
  abbrev pub LevelBelow : Acted → Type 0
  LevelBelow l = l.level < M

  mutual
    pub levels_below : (x : Items) (ℓ m : ℕ) → ℓ < M → m + length (opened_of 0 x) ≤ M → Every LevelBelow (acted_of ℓ m x)
    levels_below done ℓ m h g = tt
    levels_below (label t x) ℓ m h g = levels_below x ℓ m h g
    levels_below (action n os bs x) ℓ m h g =
        let m' = m + length (opened_in 0 0 bs) in
        let e = opened-counts bs 0 0 1 0 in
        let q = length-append (opened_in 0 1 bs) (opened_of (1 + actions_inside bs) x) in
        let v = opened-count x (1 + actions_inside bs) 0 in (
          h,
          every_append LevelBelow (acted_in m bs) (acted_of ℓ m' x)
              (levels_in_lem bs m (omega (arith, g, e, q))) (levels_below x ℓ m' h (omega (arith, g, e, q, v))),
        )

    levels_in_lem : (bs : Blocks) (m : ℕ) → m + length (opened_in 0 0 bs) ≤ M → Every LevelBelow (acted_in m bs)
    levels_in_lem no_blocks m g = tt
    levels_in_lem (block p x bs) m g =
        let m' = suc m + length (opened_of 0 x) in
        let q = length-append (opened_of 0 x) (opened_in 0 (0 + all_actions x) bs) in
        let e = opened-counts bs 0 0 (0 + all_actions x) 0 in
        every_append LevelBelow (acted_of m (suc m) x) (acted_in m' bs)
        (levels_below x m (suc m) (omega (arith, g, q)) (omega (arith, g, q))) (levels_in_lem bs m' (omega (arith, g, q, e)))
