-- What each event leaves, and the loop over them. Assumes nothing.
use mathlib.Core.Path.{◌≡◌, refl, sym, ap, subst, ◌∙◌}
use mathlib.Core.Bool.{Bool, true, false}
use mathlib.Core.List.{List, [], ◌∷◌}
use Prim.Native.Nat.{ℕ, ◌+◌, ◌≤◌, ◌<◌}
use native.Mathlib.Numerals.{add-one}
use native.Mathlib.Decide.{ℕ_discrete}
use native.Mathlib.Omega.{arith}
use lib.Dec.{ltb}
use lib.ListN.{length, drop, get_or, set, drop_of_length-le, length-set, get_or-eq_default}
use lib.Seq.{drop-cons, get_or-set_same, get_or-set_other}
use borrow.Author.Tests.{ltb-true, ltb-false}
use Rattle.events.specs.declared.Event.{Event}
use Rattle.events.specs.declared.Event.TheVariants as E
use Rattle.events.specs.Log.{event_of}
use Rattle.entries.specs.declared.Label.{Label}
use Rattle.entries.specs.Entries.{label_word, label_of}
use Rattle.entries.proofs.Words.{label_back}
use Rattle.labelling.specs.declared.Namer.{Namer}
use Rattle.labelling.specs.Naming.{Naming, naming, here, opening, acted, name, opened, closed, by, step, steps, Few}

-- ---- each event

module _ (ws ns : List ℕ) (n : Namer) where
  pub acted-is : (a : ℕ) → a ≡ 1 → naming ws ns (record { level = n.level; levels = n.levels; labels = n.labels; actions = n.actions + a }) ≡ acted (naming ws ns n)
  unfolding naming acted
  acted-is a e = λ j. record { own = ws; named = ns; at = record { level = n.level; levels = n.levels; labels = n.labels; actions = n.actions + e j } }

  pub passed_is : (a : ℕ) → a ≡ 0 → naming ws ns (record { level = n.level; levels = n.levels; labels = n.labels; actions = n.actions + a }) ≡ naming ws ns n
  passed_is a e =
      let z : n.actions + a ≡ n.actions = omega arith in
      λ j. naming ws ns (record { level = n.level; levels = n.levels; labels = n.labels; actions = z j })

  pub name-is : (t : ℕ) (ns' : List ℕ) → ns' ≡ set ns n.labels (label_word (here t n))
      → naming ws ns' (record { level = n.level; levels = n.levels; labels = n.labels + 1; actions = n.actions }) ≡ name t (naming ws ns n)
  unfolding naming name
  name-is t ns' f = λ j. record { own = ws; named = f j; at = record { level = n.level; levels = n.levels; labels = n.labels + 1; actions = n.actions } }

  pub opened-is : (ws' : List ℕ) → ws' ≡ set ws n.levels (label_word (here 0 n))
      → naming ws' ns (record { level = n.levels; levels = n.levels + 1; labels = n.labels; actions = 0 }) ≡ opened (naming ws ns n)
  unfolding naming opened
  opened-is ws' f = λ j. record { own = f j; named = ns; at = record { level = n.levels; levels = n.levels + 1; labels = n.labels; actions = 0 } }

  pub closed_is : (p : Label) → p ≡ opening ws n.level → naming ws ns (record { level = p.level; levels = n.levels; labels = n.labels; actions = p.position }) ≡ closed (naming ws ns n)
  unfolding naming closed
  closed_is p e = λ j. record { own = ws; named = ns; at = record { level = (e j).level; levels = n.levels; labels = n.labels; actions = (e j).position } }

pub arm : (v u : Event) (T U : Naming) → v ≡ u → U ≡ by u T → U ≡ by v T
arm v u T U e h = h ∙ ap (λ q. by q T) (sym e)

-- ---- every level opened inside one of them

abbrev Inside : ℕ → ℕ → Label → Type 0
Inside m i p = (p.level < m) × (p.position ≤ i)

-- past the table's end a level opened in the top level, behind no action
opened_inside : (ws : List ℕ) (m i : ℕ) (n : Namer) → n.level < m → n.actions ≤ i → i ≤ 65536 → Inside (m + 1) (i + 1) (opening (set ws m (label_word (here 0 n))) m)
opened_inside ws m i n l a h = either (ltb m (length ws)) refl
  where
    w : ℕ
    w = label_word (here 0 n)

    either : (b : Bool) → ltb m (length ws) ≡ b → Inside (m + 1) (i + 1) (opening (set ws m w) m)
    either true q =
        let e = ap label_of (get_or-set_same ws m w 0 (ltb-true m (length ws) q)) ∙ label_back (here 0 n) (omega arith) (omega arith) in
        subst (Inside (m + 1) (i + 1)) (sym e) (omega arith, omega arith)
    either false q =
        let e = ap label_of (get_or-eq_default (set ws m w) 0 {n = m} (omega (arith, length-set ws m w, ltb-false m (length ws) q))) in
        subst (Inside (m + 1) (i + 1)) (sym e) (omega arith, omega arith)

later : (i : ℕ) (ws : List ℕ) (n : Namer) (m a : ℕ) → m ≤ i + 1 → a ≤ i + 1 → Few i ws n → Few (i + 1) ws (record { level = n.level; levels = n.levels; labels = m; actions = a })
later i ws n m a h g f =
    record { level = f.level; levels = omega (arith, f.levels); labels = h; actions = g; around = λ j l. ((f.around j l).0, omega (arith, (f.around j l).1)) }

few-by : (i : ℕ) (v : Event) (T : Naming) → i ≤ 65536 → Few i T.own T.at → Few (i + 1) (by v T).own (by v T).at
unfolding acted name opened closed
few-by i (E.Action x) T h f = later i T.own T.at T.at.labels (T.at.actions + 1) (omega (arith, f.labels)) (omega (arith, f.actions)) f
few-by i (E.Label x) T h f = later i T.own T.at (T.at.labels + 1) T.at.actions (omega (arith, f.labels)) (omega (arith, f.actions)) f
few-by i (E.Operand x) T h f = later i T.own T.at T.at.labels T.at.actions (omega (arith, f.labels)) (omega (arith, f.actions)) f
few-by i (E.Opened x) T h f =
    let m = T.at.levels in
    record {
      level = omega arith;
      levels = omega (arith, f.levels);
      labels = omega (arith, f.labels);
      actions = omega arith;
      around = λ j l. elim (ℕ_discrete j m) [
        | yes e ↦ subst (λ k. Inside (m + 1) (i + 1) (opening (set T.own m (label_word (here 0 T.at))) k)) (sym e) (opened_inside T.own m i T.at f.level f.actions h)
        | no e ↦
            let k = f.around j (omega arith) in
            subst (λ w. Inside (m + 1) (i + 1) (label_of w)) (sym (get_or-set_other T.own m j (label_word (here 0 T.at)) 0 e)) (omega (arith, k.0), omega (arith, k.1))
      ];
    }
few-by i E.Closed T h f =
    let k = f.around T.at.level f.level in
    record {
      level = k.0;
      levels = omega (arith, f.levels);
      labels = omega (arith, f.labels);
      actions = omega (arith, k.1);
      around = λ j l. ((f.around j l).0, omega (arith, (f.around j l).1));
    }

-- ---- the loop

pub record Done (log ws₀ ns₀ : List ℕ) (n₀ : Namer) (ws ns : List ℕ) (n : Namer) (i : ℕ) : Type 0 where
  pub inside : i ≤ length log
  pub few : Few i ws n
  pub told : steps (drop i log) (naming ws ns n) ≡ steps log (naming ws₀ ns₀ n₀)
  pub own-long : length ws ≡ length ws₀
  pub named-long : length ns ≡ length ns₀

pub first : (ws ws₀ : List ℕ) → ws ≡ set ws₀ 0 0 → Few 0 ws (record { level = 0; levels = 1; labels = 0; actions = 0 })
first ws ws₀ e =
    record {
      level = omega arith;
      levels = omega arith;
      labels = omega arith;
      actions = omega arith;
      around = λ j l. subst (λ k. Inside 1 0 (opening ws k)) (omega arith) (subst (λ k. Inside 1 0 (opening k 0)) (sym e) (top ws₀));
    }
  where
    top : (l : List ℕ) → Inside 1 0 (opening (set l 0 0) 0)
    top [] = (omega arith, omega arith)
    top (x ∷ l) = (omega arith, omega arith)

pub wider : (i : ℕ) (ws : List ℕ) (n : Namer) → i ≤ 65536 → Few i ws n → Few 65536 ws n
wider i ws n h f =
    record { level = f.level; levels = omega (arith, f.levels); labels = omega (arith, f.labels); actions = omega (arith, f.actions); around = λ j l. ((f.around j l).0, omega (arith, (f.around j l).1)) }

pub again : (log ws₀ ns₀ : List ℕ) (n₀ : Namer) (ws ns : List ℕ) (n : Namer) (i : ℕ) → Done log ws₀ ns₀ n₀ ws ns n i → i < length log → length log ≤ 65536
    → (v : Event) → v ≡ event_of (get_or log i 0) → (ws' ns' : List ℕ) (r : Namer) → naming ws' ns' r ≡ by v (naming ws ns n)
    → length ws' ≡ length ws → length ns' ≡ length ns → Done log ws₀ ns₀ n₀ ws' ns' r (i + 1)
unfolding step naming
again log ws₀ ns₀ n₀ ws ns n i d h g v k ws' ns' r e a b =
    record {
      inside = omega arith;
      few = subst (λ (T : Naming). Few (i + 1) T.own T.at) (sym e) (few-by i v (naming ws ns n) (omega arith) d.few);
      told =
          ap (steps (drop (i + 1) log)) (e ∙ ap (λ q. by q (naming ws ns n)) k)
          ∙ sym (ap (λ l. steps l (naming ws ns n)) (drop-cons log i 0 h ∙ ap (λ k. get_or log i 0 ∷ drop k log) (sym (add-one i))))
          ∙ d.told;
      own-long = a ∙ d.own-long;
      named-long = b ∙ d.named-long;
    }

pub ended : (log ws₀ ns₀ : List ℕ) (n₀ : Namer) (ws ns : List ℕ) (n : Namer) (i : ℕ) → Done log ws₀ ns₀ n₀ ws ns n i → length log ≤ i
    → naming ws ns n ≡ steps log (naming ws₀ ns₀ n₀)
ended log ws₀ ns₀ n₀ ws ns n i d h = sym (ap (λ l. steps l (naming ws ns n)) (drop_of_length-le log h)) ∙ d.told
