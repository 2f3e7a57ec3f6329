-- The first action with a fault, found by number and found in the list of actions. Assumes nothing.
use mathlib.Core.Path.{◌≡◌, refl, ap, sym, subst, ◌∙◌}
use mathlib.Core.List.{List, [], ◌∷◌}
use mathlib.Core.Option.{Option, none, some}
use Prim.Native.Nat.{ℕ, zero, suc, ◌+◌, ◌<◌}
use native.Mathlib.Omega.{arith}
use lib.ListN.{length}
use Rattle.std.specs.Prelude.{Result, Ok, Err}
use Rattle.answers.specs.declared.Refusal.{Refusal}
use Rattle.answers.specs.Answers.{Answer, refused, number_of, place_of, refusal}
use Rattle.movies.specs.Sites.{Site, or_fault, first_fault}
use Rattle.first_pass.specs.First.{or_next, first_from}

-- a fault's number, if there is one
abbrev pub told_by : Result (Unit {0}) Refusal → Option ℕ
told_by (Ok u) = none
told_by (Err r) = some (number_of r)

-- it is told of action a
abbrev pub ToldOf : ℕ → Result (Unit {0}) Refusal → Type 0
ToldOf a (Ok u) = Unit {0}
ToldOf a (Err r) = place_of r ≡ a

abbrev pub or_first : {A : Type 0} → Result (Unit {0}) Refusal → Answer A → Answer A
or_first (Ok u) rest = rest
or_first (Err r) rest = refusal r

-- the faults f from a on are the faults g of a list
abbrev pub Tells : (ℕ → Result (Unit {0}) Refusal) → (Site → Option ℕ) → ℕ → List Site → Type 0
Tells f g a [] = Unit {0}
Tells f g a (s ∷ ss) = ((g s ≡ told_by (f a)) × ToldOf a (f a)) × Tells f g (suc a) ss

pub first-is : {A : Type 0} (f : ℕ → Result (Unit {0}) Refusal) (g : Site → Option ℕ) (a : ℕ) (ss : List Site) (rest : Answer A) → Tells f g a ss
    → first_fault g a ss rest ≡ or_first (first_from f a (length ss)) rest
first-is f g a [] rest h = refl
first-is f g a (s ∷ ss) rest ((h, p), hs) =
    ap (λ (t : Option ℕ). or_fault t a (first_fault g (suc a) ss rest)) h
    ∙ ap (or_fault (told_by (f a)) a) (first-is f g (suc a) ss rest hs)
    ∙ by (f a) p
  where
    r : Result (Unit {0}) Refusal
    r = first_from f (suc a) (length ss)

    by : (q : Result (Unit {0}) Refusal) → ToldOf a q → or_fault (told_by q) a (or_first r rest) ≡ or_first (or_next q r) rest
    by (Ok u) e = refl
    by (Err q) e = ap (refused (number_of q)) (sym e)

abbrev IsRefused : Result (Unit {0}) Refusal → Type 0
IsRefused (Ok u) = ⊥
IsRefused (Err r) = Unit {0}

-- none has a fault
pub none_first : (f : ℕ → Result (Unit {0}) Refusal) (a n : ℕ) → first_from f a n ≡ Ok tt → (i : ℕ) → i < n → f (a + i) ≡ Ok tt
none_first f a zero e i h = absurd (omega arith)
none_first f a (suc n) e i h = by (f a) refl e (λ t. none_first f (suc a) n t) i h
  where
    z : a + 0 ≡ a
    z = omega arith

    by : (r : Result (Unit {0}) Refusal) → f a ≡ r → or_next r (first_from f (suc a) n) ≡ Ok tt
        → (first_from f (suc a) n ≡ Ok tt → (j : ℕ) → j < n → f (suc a + j) ≡ Ok tt) → (j : ℕ) → j < suc n → f (a + j) ≡ Ok tt
    by (Ok u) q k rest zero g = ap f z ∙ q
    by (Ok u) q k rest (suc j) g = let w : suc a + j ≡ a + suc j = omega arith in sym (ap f w) ∙ rest k j (omega arith)
    by (Err r) q k rest j g = absurd (subst IsRefused k tt)
