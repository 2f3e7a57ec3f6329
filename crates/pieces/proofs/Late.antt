-- The lowest action with a size or an offset out of its field is the first in written order. Assumes nothing.
use mathlib.Core.Path.{◌≡◌, refl, ap, sym, ◌∙◌}
use mathlib.Core.Bool.{Bool, true, false, cond, ◌&&◌, true≢false}
use mathlib.Core.List.{List, [], ◌∷◌, ◌++◌, map}
use mathlib.Core.Option.{none, some}
use Prim.Native.Nat.{ℕ, suc, ◌+◌, ◌≤◌, ◌<◌, min}
use native.Mathlib.Omega.{arith}
use lib.Dec.{ltb, leb}
use lib.IntN.{ℤ, sub_ℕ}
use lib.ListN.{length, drop, length-append}
use borrow.Author.Tests.{lt-ltb}
use Rattle.answers.specs.Answers.{Answer, refused}
use Rattle.shapes.specs.declared.Shape.{Shape}
use Rattle.shapes.specs.declared.Shape.TheVariants as S
use Rattle.shapes.specs.Shapes.{shape_of}
use Rattle.lexemes.specs.Lexemes.{Lexeme, raw}
use Rattle.lexemes.specs.Events.{Part, body, try, catch, finally}
use Rattle.grammar.specs.Grammar as G
use Rattle.grammar.specs.Reading.{Label, own_labels}
use Rattle.movies.specs.Movie.{Value, string, number, integer, bool, register, constant, null, undefined, position, long, missing, Blocks, no_blocks, block, ◌!◌, number_in, is_register, has}
use Rattle.movies.specs.Counts.{all_actions, actions_inside}
use Rattle.movies.specs.Meaning.{meaning, normal, operands_of, meaning_in, blocks_in, meaning_of}
use Rattle.movies.specs.Sites.{Site, sites_from, sites_in, sites, or_fault, first_fault}
use Rattle.action_records.specs.declared.Style.{Style}
use Rattle.action_records.specs.Fields.{Layout, Field, UI8, UI16, bits, all, is16, is_signed16, holds_laid}
use Rattle.action_records.specs.Fields as F
use Rattle.action_records.specs.Operands.{pushed_as, pushed, text, parameters, catch_target, ◌in-bits◌, flag, fields}
use Rattle.action_records.specs.Bytes as R
use Rattle.action_records.specs.Export.{lacks_label, fields_at, late_fault_at}
use Rattle.filling.specs.Pieces.{Piece, size, nobody, far_jump, far_from, big_from, big_in, late}
use Rattle.pieces.proofs.Forms.{Steady, nothing, values, strings, string_string, bool_bool_u8, u16, bool_bool_maybe_u16, string as ofString, u8, u16_u8, Bodied, function, function2, with_block_lem, Form, steady, jump, bodied, try-only, try-finally, try-catch, try-all, Forms, FormsIn}
use Rattle.pieces.proofs.Trees.{aim_at, aim_of, tree_in_lem, trees_in, tree_of, size_is}
use Rattle.pieces.proofs.Records.{Aims, found, lost, aims, before}
use Rattle.reading.proofs.Runs.{Every}
use Rattle.pieces.proofs.Bytes.{every_first, every_rest, Labelled, site_at, offset-is}

-- ---- the least of a list of actions, numbered from a on, that fail a test

abbrev pub least_of : (Site → Bool) → ℕ → List Site → ℕ
least_of f a [] = nobody
least_of f a (s ∷ ss) = min (cond (f s) nobody a) (least_of f (suc a) ss)

least-low : (f : Site → Bool) (a : ℕ) (ss : List Site) → least_of f a ss ≤ nobody
least-low f a [] = omega arith
least-low f a (s ∷ ss) = let h = least-low f (suc a) ss in omega arith

least-high : (f : Site → Bool) (a : ℕ) (ss : List Site) → a + length ss ≤ nobody → a ≤ least_of f a ss
least-high f a [] h = omega arith
least-high f a (s ∷ ss) h = let i = least-high f (suc a) ss (omega arith) in let j = either (f s) in omega arith
  where
    either : (b : Bool) → a ≤ cond b nobody a
    either true = omega arith
    either false = omega arith

least-append : (f : Site → Bool) (a n : ℕ) (ss ts : List Site) → length ss ≡ n → least_of f a (ss ++ ts) ≡ min (least_of f a ss) (least_of f (a + n) ts)
least-append f a n [] ts e =
    let h = least-low f a ts in
    let z : a ≡ a + n = omega arith in
    let g = ap (λ (i : ℕ). least_of f i ts) z in
    omega arith
least-append f a n (s ∷ ss) ts e =
    let h = least-append f (suc a) (length ss) ss ts refl in
    let z : suc a + length ss ≡ a + n = omega arith in
    let g = ap (λ (i : ℕ). least_of f i ts) z in
    omega arith

-- ---- it is the first in written order

abbrev pub or_refused : {A : Type 0} → ℕ → Answer A → Answer A
or_refused m rest = cond (ltb m nobody) (refused 11 m) rest

step : {A : Type 0} (b : Bool) (a m : ℕ) (rest : Answer A) → a < nobody → a < m → m ≤ nobody
    → or_fault (cond b none (some 11)) a (or_refused m rest) ≡ or_refused (min (cond b nobody a) m) rest
step true a m rest h i j = let e : m ≡ min nobody m = omega arith in ap (λ (k : ℕ). or_refused k rest) e
step false a m rest h i j =
    let e : a ≡ min a m = omega arith in
    sym (ap (λ (t : Bool). cond t (refused 11 a) rest) (lt-ltb a nobody h)) ∙ ap (λ (k : ℕ). or_refused k rest) e

module _ (y : Style) where
  abbrev pub fits : Site → Bool
  fits s = all (holds_laid (R.layout y s)) (fields_at y s)

  pub first-late : {A : Type 0} (a : ℕ) (ss : List Site) (rest : Answer A) → a + length ss ≤ nobody → first_fault (late_fault_at y) a ss rest ≡ or_refused (least_of fits a ss) rest
  unfolding late_fault_at
  first-late a [] rest h = refl
  first-late a (s ∷ ss) rest h =
      ap (or_fault (cond (fits s) none (some 11)) a) (first-late (suc a) ss rest (omega arith))
      ∙ step (fits s) a (least_of fits (suc a) ss) rest (omega arith) (least-high fits (suc a) ss (omega arith)) (least-low fits (suc a) ss)

-- ---- fields that are neither a size nor an offset fit

abbrev Fit : List Field → Type 0
Fit fs = (l : Layout) → all (holds_laid l) fs ≡ true

and_assoc : (a b c : Bool) → (a && (b && c)) ≡ ((a && b) && c)
and_assoc true b c = refl
and_assoc false b c = refl

all_append : (p : Field → Bool) (fs gs : List Field) → all p (fs ++ gs) ≡ (all p fs && all p gs)
all_append p [] gs = refl
all_append p (f ∷ fs) gs = ap (λ (b : Bool). p f && b) (all_append p fs gs) ∙ and_assoc (p f) (all p fs) (all p gs)

behind : (l : Layout) (fs gs : List Field) → Fit fs → all (holds_laid l) (fs ++ gs) ≡ all (holds_laid l) gs
behind l fs gs h = all_append (holds_laid l) fs gs ∙ ap (λ (b : Bool). b && all (holds_laid l) gs) (h l)

fit_both : (fs gs : List Field) → Fit fs → Fit gs → Fit (fs ++ gs)
fit_both fs gs f g l = behind l fs gs f ∙ g l

fit_if : (b : Bool) (fs gs : List Field) → Fit fs → Fit gs → Fit (cond b fs gs)
fit_if true fs gs f g = f
fit_if false fs gs f g = g

fit_value : (v : Value) → Fit (pushed_as v)
fit_value (string w) l = refl
fit_value (number x) l = refl
fit_value (integer z) l = refl
fit_value (bool true) l = refl
fit_value (bool false) l = refl
fit_value (register n) l = refl
fit_value (constant n) l = fit_if (leb n 255) (UI8 8 ∷ UI8 n ∷ []) (UI8 9 ∷ UI16 n ∷ []) (λ m. refl) (λ m. refl) l
fit_value null l = refl
fit_value undefined l = refl
fit_value (position p) l = refl
fit_value long l = refl
fit_value missing l = refl

fit_pushed : (vs : List Value) → Fit (pushed vs)
fit_pushed [] l = refl
fit_pushed (v ∷ vs) l = fit_both (pushed_as v) (pushed vs) (fit_value v) (fit_pushed vs) l

fit_texts : (vs : List Value) → Fit (map text vs)
fit_texts [] l = refl
fit_texts (v ∷ vs) l = fit_texts vs l

fit_parameters : (vs : List Value) → Fit (parameters vs)
fit_parameters [] l = refl
fit_parameters (r ∷ []) l = refl
fit_parameters (r ∷ p ∷ vs) l = fit_parameters vs l

fit_steady : (y : Style) {s : Shape} → Steady s → (vs : List Value) (h : Part → Bool) → Fit (fields y s vs h)
fit_steady y nothing vs h l = refl
fit_steady y values vs h l = fit_pushed vs l
fit_steady y strings vs h l = fit_texts vs l
fit_steady y string_string vs h l = refl
fit_steady y bool_bool_u8 vs h l = refl
fit_steady y u16 vs h l = refl
fit_steady y bool_bool_maybe_u16 vs h l =
    fit_if (leb 1 (number_in (vs ! 0))) (bits (0 in-bits 6 ∷ 1 in-bits 1 ∷ flag (vs ! 1) ∷ []) ∷ UI16 (number_in (vs ! 2)) ∷ [])
    (bits (0 in-bits 6 ∷ 0 in-bits 1 ∷ flag (vs ! 1) ∷ []) ∷ []) (λ m. refl) (λ m. refl) l
fit_steady y ofString vs h l = refl
fit_steady y u8 vs h l = refl
fit_steady y u16_u8 vs h l = refl

fit_before : {s : Shape} (k : Bodied s) (vs : List Value) → Fit (before k vs)
fit_before function vs = fit_texts (drop 2 vs)
fit_before function2 vs = fit_parameters (drop 12 vs)
fit_before with_block_lem vs = λ l. refl

fit_target : (v : Value) → Fit (catch_target v ∷ [])
fit_target v l = by (is_register v)
  where
    by : (b : Bool) → all (holds_laid l) (cond b (UI8 (number_in v)) (text v) ∷ []) ≡ true
    by true = refl
    by false = refl

-- ---- an action's own sizes and offset

-- of the blocks of action o
abbrev own_big : ℕ → Blocks Piece → ℕ
own_big o no_blocks = nobody
own_big o (block p x bs) = min (cond (is16 (size x)) nobody o) (own_big o bs)

one_block : (o : ℕ) (a : Bool) → o ≤ nobody → min nobody (min (cond a nobody o) nobody) ≡ cond (a && true) nobody o
one_block o true h = omega arith
one_block o false h = omega arith

two_blocks : (o : ℕ) (a b : Bool) → o ≤ nobody → min nobody (min (cond a nobody o) (min (cond b nobody o) nobody)) ≡ cond (a && (b && true)) nobody o
two_blocks o true true h = omega arith
two_blocks o true false h = omega arith
two_blocks o false true h = omega arith
two_blocks o false false h = omega arith

three_blocks : (o : ℕ) (a b d : Bool) → o ≤ nobody → min nobody (min (cond a nobody o) (min (cond b nobody o) (min (cond d nobody o) nobody))) ≡ cond (a && (b && (d && true))) nobody o
three_blocks o true true true h = omega arith
three_blocks o true true false h = omega arith
three_blocks o true false true h = omega arith
three_blocks o true false false h = omega arith
three_blocks o false true true h = omega arith
three_blocks o false true false h = omega arith
three_blocks o false false true h = omega arith
three_blocks o false false false h = omega arith

pub steady_aim : {s : Shape} → Steady s → (l : List Label) (os : List Lexeme) → aim_of s l os ≡ 0
steady_aim nothing l os = refl
steady_aim values l os = refl
steady_aim strings l os = refl
steady_aim string_string l os = refl
steady_aim bool_bool_u8 l os = refl
steady_aim u16 l os = refl
steady_aim bool_bool_maybe_u16 l os = refl
steady_aim ofString l os = refl
steady_aim u8 l os = refl
steady_aim u16_u8 l os = refl

module _ (y : Style) (l : List Label) (L : G.Items) (k o : ℕ) (low : o ≤ nobody) where
  abbrev off : ℕ → ℤ
  off p = sub_ℕ (R.start y (meaning_in l L) p) (R.start y (meaning_in l L) (suc k))

  abbrev laid : G.Blocks → Layout
  laid bs = record { sizes = R.size_of y (blocks_in bs); offset = off }

  abbrev size_of : G.Items → ℕ
  size_of x = size (tree_in_lem y (own_labels 0 0 [] x) x)

  abbrev size_in : G.Items → ℕ
  size_in x = R.size y (meaning_in (own_labels 0 0 [] x) x)

  is16_in : (x : G.Items) → is16 (size_of x) ≡ is16 (size_in x)
  is16_in x = ap is16 (size_is y (own_labels 0 0 [] x) x)

  jump-late : {v : Value} → Aims v → lacks_label (v ∷ []) ≡ false
      → min (far_jump (tree_in_lem y l L) k (aim_at v) o) nobody ≡ cond (is_signed16 (off (number_in v)) && true) nobody o
  jump-late (found p) f =
      ap (λ (z : ℤ). min (cond (is_signed16 z) nobody o) nobody) (offset-is y l L k p) ∙ by (is_signed16 (off p))
    where
      by : (b : Bool) → min (cond b nobody o) nobody ≡ cond (b && true) nobody o
      by true = omega arith
      by false = omega arith
  jump-late lost f = absurd (true≢false f)

  body-late : (fs : List Field) → Fit fs → (x : G.Items)
      → min nobody (own_big o (trees_in y (G.block body x G.no_blocks))) ≡ cond (all (holds_laid (laid (G.block body x G.no_blocks))) (fs ++ (F.size body ∷ []))) nobody o
  body-late fs h x =
      one_block o (is16 (size_of x)) low
      ∙ ap (λ (b : Bool). cond (b && true) nobody o) (is16_in x)
      ∙ ap (λ (b : Bool). cond b nobody o) (sym (behind (laid (G.block body x G.no_blocks)) fs (F.size body ∷ []) h))

  -- of a Try with target v
  module _ (v : Value) (g : Layout) where
    -- sizes a, b and d of its blocks
    try-late : (a b d : Bool) → cond (a && (b && (d && true))) nobody o ≡ cond (a && (b && (d && all (holds_laid g) (catch_target v ∷ [])))) nobody o
    try-late a b d = ap (λ (t : Bool). cond (a && (b && (d && t))) nobody o) (sym (fit_target v g))

  own-late : {s : Shape} {os : List Lexeme} {bs : G.Blocks} → Form s os bs → lacks_label (operands_of s l bs os) ≡ false
      → min (far_jump (tree_in_lem y l L) k (aim_of s l os) o) (own_big o (trees_in y bs)) ≡ cond (all (holds_laid (laid bs)) (fields y s (operands_of s l bs os) (has (blocks_in bs)))) nobody o
  own-late {s = s} (steady os n) f =
      ap (λ (i : ℕ). min (far_jump (tree_in_lem y l L) k i o) nobody) (steady_aim n l os)
      ∙ sym (ap (λ (b : Bool). cond b nobody o) (fit_steady y n (operands_of s l G.no_blocks os) (has (blocks_in G.no_blocks)) (laid G.no_blocks)))
  own-late (jump t) f = jump-late (aims (raw t) l) f
  own-late (bodied os x function) f =
      body-late (before function (normal S.Function false (map meaning os))) (fit_before function (normal S.Function false (map meaning os))) x
  own-late (bodied os x function2) f =
      body-late (before function2 (normal S.Function2 false (map meaning os))) (fit_before function2 (normal S.Function2 false (map meaning os))) x
  own-late (bodied os x with_block_lem) f = body-late [] (λ m. refl) x
  own-late (try-only x) f =
      one_block o (is16 (size_of x)) low ∙ ap (λ (b : Bool). cond (b && true) nobody o) (is16_in x)
      ∙ try-late null (laid (G.block try x G.no_blocks)) (is16 (size_in x)) true true
  own-late (try-finally x z) f =
      two_blocks o (is16 (size_of x)) (is16 (size_of z)) low
      ∙ ap (λ (b : Bool). cond (b && (is16 (size_of z) && true)) nobody o) (is16_in x)
      ∙ ap (λ (b : Bool). cond (is16 (size_in x) && (b && true)) nobody o) (is16_in z)
      ∙ try-late null (laid (G.block try x (G.block finally z G.no_blocks))) (is16 (size_in x)) true (is16 (size_in z))
  own-late (try-catch [] x u) f =
      two_blocks o (is16 (size_of x)) (is16 (size_of u)) low
      ∙ ap (λ (b : Bool). cond (b && (is16 (size_of u) && true)) nobody o) (is16_in x)
      ∙ ap (λ (b : Bool). cond (is16 (size_in x) && (b && true)) nobody o) (is16_in u)
      ∙ try-late (string []) (laid (G.block try x (G.block catch u G.no_blocks))) (is16 (size_in x)) (is16 (size_in u)) true
  own-late (try-all [] x u z) f =
      three_blocks o (is16 (size_of x)) (is16 (size_of u)) (is16 (size_of z)) low
      ∙ ap (λ (b : Bool). cond (b && (is16 (size_of u) && (is16 (size_of z) && true))) nobody o) (is16_in x)
      ∙ ap (λ (b : Bool). cond (is16 (size_in x) && (b && (is16 (size_of z) && true))) nobody o) (is16_in u)
      ∙ ap (λ (b : Bool). cond (is16 (size_in x) && (is16 (size_in u) && (b && true))) nobody o) (is16_in z)
      ∙ try-late (string []) (laid (G.block try x (G.block catch u (G.block finally z G.no_blocks)))) (is16 (size_in x)) (is16 (size_in u)) (is16 (size_in z))
  own-late (try-catch (t ∷ os) x u) f =
      two_blocks o (is16 (size_of x)) (is16 (size_of u)) low
      ∙ ap (λ (b : Bool). cond (b && (is16 (size_of u) && true)) nobody o) (is16_in x)
      ∙ ap (λ (b : Bool). cond (is16 (size_in x) && (b && true)) nobody o) (is16_in u)
      ∙ try-late (meaning t) (laid (G.block try x (G.block catch u G.no_blocks))) (is16 (size_in x)) (is16 (size_in u)) true
  own-late (try-all (t ∷ os) x u z) f =
      three_blocks o (is16 (size_of x)) (is16 (size_of u)) (is16 (size_of z)) low
      ∙ ap (λ (b : Bool). cond (b && (is16 (size_of u) && (is16 (size_of z) && true))) nobody o) (is16_in x)
      ∙ ap (λ (b : Bool). cond (is16 (size_in x) && (b && (is16 (size_of z) && true))) nobody o) (is16_in u)
      ∙ ap (λ (b : Bool). cond (is16 (size_in x) && (is16 (size_in u) && (b && true))) nobody o) (is16_in z)
      ∙ try-late (meaning t) (laid (G.block try x (G.block catch u (G.block finally z G.no_blocks)))) (is16 (size_in x)) (is16 (size_in u)) (is16 (size_in z))

-- ---- of a tree

min_assoc : (a b c : ℕ) → min (min a b) c ≡ min a (min b c)
min_assoc a b c = omega arith

min_swap : (a b c d : ℕ) → min (min a b) (min c d) ≡ min (min a c) (min b d)
min_swap a b c d = omega arith

-- an action's own offset f and sizes o, what is inside it s, and what is behind it g and b
regroup : (f g o s b : ℕ) → min (min f g) (min (min o s) b) ≡ min (min f o) (min s (min g b))
regroup f g o s b =
    min_swap f g (min o s) b ∙ ap (λ (i : ℕ). min i (min g b)) (sym (min_assoc f o s)) ∙ min_assoc (min f o) s (min g b)

behind_own : (t s o r : ℕ) → min t (min s (min o r)) ≡ min (min t o) (min s r)
behind_own t s o r = sym (min_assoc t s (min o r)) ∙ min_swap t s o r

module _ (y : Style) where
  mutual
    pub length-sites : (l : List Label) (L : G.Items) (k : ℕ) (x : G.Items) → length (sites_from (meaning_in l L) k (meaning_in l x)) ≡ all_actions (tree_in_lem y l x)
    length-sites l L k G.done = refl
    length-sites l L k (G.label t x) = length-sites l L k x
    length-sites l L k (G.action n os bs x) =
        let e = length-append (sites_in (blocks_in bs)) (sites_from (meaning_in l L) (suc k) (meaning_in l x)) in
        let f = length-sites_in bs in
        let g = length-sites l L (suc k) x in
        omega arith

    pub length-sites_in : (bs : G.Blocks) → length (sites_in (blocks_in bs)) ≡ actions_inside (trees_in y bs)
    length-sites_in G.no_blocks = refl
    length-sites_in (G.block p x bs) =
        let l = own_labels 0 0 [] x in
        let e = length-append (sites_from (meaning_in l x) 0 (meaning_in l x)) (sites_in (blocks_in bs)) in
        let f = length-sites l x 0 x in
        let g = length-sites_in bs in
        omega arith

  mutual
    late-from : (l : List Label) (L : G.Items) (k a : ℕ) (x : G.Items) → Forms x → Every Labelled (sites_from (meaning_in l L) k (meaning_in l x))
        → a + all_actions (tree_in_lem y l x) ≤ nobody
        → min (far_from (tree_in_lem y l L) k a (tree_in_lem y l x)) (big_from a (tree_in_lem y l x)) ≡ least_of (fits y) a (sites_from (meaning_in l L) k (meaning_in l x))
    late-from l L k a G.done forms labelled h = omega arith
    late-from l L k a (G.label t x) forms labelled h = late-from l L k a x forms labelled h
    late-from l L k a (G.action n os bs x) (form, (in_blocks, forms)) (this, labelled) h =
        let b = suc a + actions_inside (trees_in y bs) in
        let rest = sites_from (meaning_in l L) (suc k) (meaning_in l x) in
        let own = own-late y l L k a (omega arith) form this in
        let inner = late_in a (suc a) bs in_blocks (every_first Labelled (sites_in (blocks_in bs)) rest labelled) (omega arith) in
        let outer = late-from l L (suc k) b x forms (every_rest Labelled (sites_in (blocks_in bs)) rest labelled) (omega arith) in
        let s = least_of (fits y) (suc a) (sites_in (blocks_in bs)) in
        let f = far_jump (tree_in_lem y l L) k (aim_of (shape_of n) l os) a in
        let g = far_from (tree_in_lem y l L) (suc k) b (tree_in_lem y l x) in
        let i = big_from b (tree_in_lem y l x) in
        ap (λ (j : ℕ). min (min f g) (min j i)) inner
        ∙ regroup f g (own_big a (trees_in y bs)) s i
        ∙ ap (λ (j : ℕ). min j (min s (min g i))) own
        ∙ ap (λ (j : ℕ). min (cond (fits y (site_at y l L k n os bs)) nobody a) (min s j)) outer
        ∙ ap (λ (j : ℕ). min (cond (fits y (site_at y l L k n os bs)) nobody a) j)
        (sym (least-append (fits y) (suc a) (actions_inside (trees_in y bs)) (sites_in (blocks_in bs)) rest (length-sites_in bs)))

    late_in : (o a : ℕ) (bs : G.Blocks) → FormsIn bs → Every Labelled (sites_in (blocks_in bs)) → a + actions_inside (trees_in y bs) ≤ nobody
        → big_in o a (trees_in y bs) ≡ min (own_big o (trees_in y bs)) (least_of (fits y) a (sites_in (blocks_in bs)))
    late_in o a G.no_blocks forms labelled h = omega arith
    late_in o a (G.block p x bs) (form, forms) labelled h =
        let l = own_labels 0 0 [] x in
        let sx = sites_from (meaning_in l x) 0 (meaning_in l x) in
        let inner = late-from l x 0 a x form (every_first Labelled sx (sites_in (blocks_in bs)) labelled) (omega arith) in
        let outer = late_in o (a + all_actions (tree_in_lem y l x)) bs forms (every_rest Labelled sx (sites_in (blocks_in bs)) labelled) (omega arith) in
        let t = cond (is16 (size (tree_in_lem y l x))) nobody o in
        let s = least_of (fits y) a sx in
        let r = least_of (fits y) (a + all_actions (tree_in_lem y l x)) (sites_in (blocks_in bs)) in
        ap (λ (j : ℕ). min t (min j (big_in o (a + all_actions (tree_in_lem y l x)) (trees_in y bs)))) inner
        ∙ ap (λ (j : ℕ). min t (min s j)) outer
        ∙ behind_own t s (own_big o (trees_in y bs)) r
        ∙ ap (λ (j : ℕ). min (min t (own_big o (trees_in y bs))) j)
        (sym (least-append (fits y) a (all_actions (tree_in_lem y l x)) sx (sites_in (blocks_in bs)) (length-sites l x 0 x)))

  -- the second pass of faults: the lowest action that the writer tells is refused with 11, or there is none
  pub late_is : {A : Type 0} (x : G.Items) (rest : Answer A) → Forms x → Every Labelled (sites (meaning_of x)) → all_actions (tree_of y x) ≤ nobody
      → first_fault (late_fault_at y) 0 (sites (meaning_of x)) rest ≡ or_refused (late 0 (tree_of y x)) rest
  late_is x rest forms labelled h =
      let l = own_labels 0 0 [] x in
      let e = length-sites l x 0 x in
      first-late y 0 (sites (meaning_of x)) rest (omega arith)
      ∙ ap (λ (m : ℕ). or_refused m rest) (sym (late-from l x 0 0 x forms labelled (omega arith)))
