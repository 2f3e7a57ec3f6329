-- Plain characters at the front of a text. Assumes nothing.
use mathlib.Core.Path.{◌≡◌, refl, ap, sym, subst, ◌∙◌}
use mathlib.Core.Bool.{true, and-eq-true_iff}
use mathlib.Core.List.{List, [], ◌∷◌}
use Prim.Native.Nat.{ℕ, ◌+◌, ◌≤◌, ◌<◌}
use native.Mathlib.Nat.{add-zero}
use native.Mathlib.Omega.{arith}
use borrow.Author.Tests.{ltb-true}
use lib.Dec.{ltb}
use lib.ListN.{length, drop, get_or, length-drop}
use lib.Seq.{get_or-drop}
use Rattle.utf8.specs.Utf8.{char_len, starts}
use Rattle.utf8.specs.Front.{four_ascii, ValidFront}
use Rattle.utf8.proofs.Rows.{by_row}
use Rattle.utf8.proofs.Valid.{on}

-- a byte below 128 is a character
plain : (s : List ℕ) (i : ℕ) → i < length s → ltb (get_or s i 0) 128 ≡ true → char_len (drop i s) ≡ 1
unfolding starts
plain s i h e =
    let b : get_or (drop i s) 0 0 ≡ get_or s i 0 = get_or-drop i s 0 0 ∙ ap (λ (k : ℕ). get_or s k 0) (add-zero i) in
    by_row (drop i s) 0 128 ([] ∷ []) refl (omega (arith, length-drop i s)) (omega arith) (omega (arith, ltb-true (get_or s i 0) 128 e))

one_more : (s : List ℕ) (i j : ℕ) → i + 1 ≡ j → ValidFront s i → i < length s → ltb (get_or s i 0) 128 ≡ true → ValidFront s j
one_more s i j q f h e =
    subst (ValidFront s) q (record { inside = omega arith; counts = on s i f.counts 1 (plain s i h e) (omega arith) })

pub four_more : (s : List ℕ) (i : ℕ) → i + 4 ≤ length s → ValidFront s i → true ≡ four_ascii s i → ValidFront s (i + 4)
four_more s i h f e =
    let a = (and-eq-true_iff (ltb (get_or s i 0) 128) _).0 (sym e) in
    let b = (and-eq-true_iff (ltb (get_or s (i + 1) 0) 128) _).0 a.1 in
    let c = (and-eq-true_iff (ltb (get_or s (i + 2) 0) 128) _).0 b.1 in
    let f1 = one_more s i (i + 1) refl f (omega arith) a.0 in
    let f2 = one_more s (i + 1) (i + 2) (omega arith) f1 (omega arith) b.0 in
    let f3 = one_more s (i + 2) (i + 3) (omega arith) f2 (omega arith) c.0 in
    one_more s (i + 3) (i + 4) (omega arith) f3 (omega arith) c.1
