-- What each call that writes an event leaves. Assumes nothing.
use mathlib.Core.Path.{◌≡◌, refl, sym, ap, subst, ◌∙◌}
use mathlib.Core.Bool.{Bool}
use mathlib.Core.Logic.{◌⊎◌, inl, inr}
use mathlib.Core.List.{List, ◌∷◌, map}
use Prim.Native.Nat.{ℕ, ◌+◌, ◌-◌, ◌*◌, ◌≤◌, ◌<◌}
use native.Mathlib.Numerals.{add-one}
use native.Mathlib.Omega.{arith}
use lib.ListN.{length, drop, get_or, set, drop_of_length-le}
use lib.Seq.{sets, drop-cons}
use Rattle.names.specs.declared.ActionName.{ActionName}
use Rattle.events.specs.declared.BlockKind.{BlockKind}
use Rattle.events.specs.declared.Event.{Event}
use Rattle.events.specs.declared.Event.TheVariants as E
use Rattle.events.specs.Log.{event_of}
use Rattle.entries.specs.declared.Action.{Action}
use Rattle.entries.specs.declared.Net.{Net}
use Rattle.entries.specs.declared.Level.{Level}
use Rattle.entries.specs.Entries.{action_word, action_of, level_words, level_at, owner_of}
use Rattle.entries.specs.Levels.{with_action, Small}
use Rattle.pcode.specs.Deltas.{delta_of}
use Rattle.nets.specs.Nets.{first_is_empty, moved_by}
use Rattle.writing.specs.declared.Writer.{Writer}
use Rattle.writing.specs.declared.Given.{Given}
use Rattle.writing.specs.Writing.{gather, unclosed_of, given, gave, Written, written, moved_level, given_in, acted, opening, opened_in, opened, owner_in, closing, closed, by, step, steps, Behind}

pub moved-is : (text s ops : List ℕ) (first : ℕ) (g : Given) (n : ActionName) (a ℓ : ℕ) (ls : List ℕ) (h : Level) (empty : Bool) (net : Net) (ls' : List ℕ)
    → h ≡ level_at ls ℓ → empty ≡ first_is_empty text s ops first g.end → net ≡ moved_by (delta_of n (g.end - first) empty) a h.net
    → ls' ≡ sets ls (2 * ℓ) (level_words (with_action net g.unclosed (level_at ls ℓ)))
    → ls' ≡ moved_level text s ops first g n a ℓ ls
unfolding moved_level
moved-is text s ops first g n a ℓ ls h empty net ls' eh ee en el =
    el
    ∙ ap (λ q. sets ls (2 * ℓ) (level_words (with_action q g.unclosed (level_at ls ℓ)))) (en ∙ (λ j. moved_by (delta_of n (g.end - first) (ee j)) a (eh j).net))

pub closing-is : (xs ls : List ℕ) (w : Writer) (h : Level) (owner : ℕ) (x : Action) → h ≡ level_at ls w.level → owner ≡ owner_of h.block
    → x ≡ action_of (get_or xs owner 0)
    → ◌≡◌ {A = Writer} (record { level = x.level; action = owner; actions = w.actions; operands = w.operands; levels = w.levels }) (closing xs ls w)
closing-is xs ls w h owner x eh eo ex =
    let o : owner ≡ owner_in ls w.level = eo ∙ ap (λ (q : Level). owner_of q.block) eh in
    let l = ap (λ (q : Action). q.level) ex ∙ ap (λ q. (action_of (get_or xs q 0)).level) o in
    λ j. record { level = l j; action = o j; actions = w.actions; operands = w.operands; levels = w.levels }

pub acted-is : (text s : List ℕ) (n : ActionName) (rest xs os ls xs' os' ls' : List ℕ) (w : Writer) (g : Given)
    → os' ≡ sets os w.operands (map (given s w.actions) (gather 0 rest))
    → g.end ≡ w.operands + length (gather 0 rest)
    → g.unclosed ≡ unclosed_of s (gather 0 rest)
    → xs' ≡ set xs w.actions (action_word (record { name = n; level = w.level; first = w.operands; count = g.end - w.operands }))
    → ls' ≡ moved_level text s os' w.operands g n w.actions w.level ls
    → written xs' os' ls' (record { level = w.level; action = w.actions; actions = w.actions + 1; operands = g.end; levels = w.levels }) ≡ acted text s n rest (written xs os ls w)
unfolding written acted given_in
acted-is text s n rest xs os ls xs' os' ls' w g eo ee eu ex el =
    let d : g.end - w.operands ≡ length (gather 0 rest) = omega arith in
    let eg : g ≡ gave s w.operands (gather 0 rest) = λ j. record { end = ee j; unclosed = eu j } in
    λ j. record {
      actions = (ex ∙ ap (λ k. set xs w.actions (action_word (record { name = n; level = w.level; first = w.operands; count = k }))) d) j;
      operands = eo j;
      levels = (el ∙ (λ k. moved_level text s (eo k) w.operands (eg k) n w.actions w.level ls)) j;
      at = record { level = w.level; action = w.actions; actions = w.actions + 1; operands = ee j; levels = w.levels };
    }

pub opened-is : (p : BlockKind) (xs os ls ls' : List ℕ) (w r : Writer) → r ≡ opening w → ls' ≡ opened_in ls w p → written xs os ls' r ≡ opened p (written xs os ls w)
unfolding written opened
opened-is p xs os ls ls' w r er el = λ j. record { actions = xs; operands = os; levels = el j; at = er j }

pub closed_is : (xs os ls : List ℕ) (w r : Writer) → r ≡ closing xs ls w → written xs os ls r ≡ closed (written xs os ls w)
unfolding written closed
closed_is xs os ls w r er = λ j. record { actions = xs; operands = os; levels = ls; at = er j }

-- ---- by the event

pub arm : (text s : List ℕ) (w : ℕ) (v u : Event) (rest : List ℕ) (T U : Written) → v ≡ event_of w → v ≡ u → U ≡ by text s u rest T → U ≡ step text s w rest T
unfolding step
arm text s w v u rest T U e f h = h ∙ ap (λ q. by text s q rest T) (sym f ∙ e)

-- labels and operands write nothing by themselves
pub idle : (text s : List ℕ) (w : ℕ) (v : Event) (rest : List ℕ) (T : Written) → v ≡ event_of w
    → ((x : ℕ) × (v ≡ E.Label x)) ⊎ ((x : ℕ) × (v ≡ E.Operand x)) → T ≡ step text s w rest T
idle text s w v rest T e (inl p) = arm text s w v (E.Label p.0) rest T T e p.1 refl
idle text s w v rest T e (inr p) = arm text s w v (E.Operand p.0) rest T T e p.1 refl

-- ---- how far the writer gets

module _ (i : ℕ) (w : Writer) (m : Behind i w) (h : i < 65536) where
  pub wider : Behind 65535 w
  wider =
      record {
        actions = omega (arith, m.actions);
        operands = omega (arith, m.operands);
        levels = omega (arith, m.levels);
        level = m.level;
        action = m.action;
      }

  pub widest : Behind 65536 w
  widest =
      record {
        actions = omega (arith, m.actions);
        operands = omega (arith, m.operands);
        levels = omega (arith, m.levels);
        level = m.level;
        action = m.action;
      }

  pub acts-small : (r : Writer) → (r.actions ≡ w.actions + 1) × ((r.operands ≤ w.operands + 65536) × ((r.levels ≡ w.levels) × ((r.level ≡ w.level) × (r.action ≡ w.actions)))) → Behind (i + 1) r
  acts-small r e =
      record {
        actions = omega (arith, e.0, m.actions);
        operands = omega (arith, e.1.0, m.operands);
        levels = omega (arith, e.1.1.0, m.levels);
        level = omega (arith, e.1.1.1.0, m.level);
        action = omega (arith, e.1.1.1.1, m.actions);
      }

  pub stays_small : Behind (i + 1) w
  stays_small =
      record {
        actions = omega (arith, m.actions);
        operands = omega (arith, m.operands);
        levels = omega (arith, m.levels);
        level = m.level;
        action = m.action;
      }

  pub opens_small : (r : Writer) → r ≡ opening w → Behind (i + 1) r
  opens_small r e =
      subst (Behind (i + 1)) (sym e) (record {
        actions = omega (arith, m.actions);
        operands = omega (arith, m.operands);
        levels = omega (arith, m.levels);
        level = omega (arith, m.levels);
        action = m.action;
      })

  pub closes_small : (xs ls : List ℕ) (r : Writer) → r ≡ closing xs ls w → Small r.level → Small r.action → Behind (i + 1) r
  closes_small xs ls r e f g =
      record {
        actions = omega (arith, ap (λ (q : Writer). q.actions) e, m.actions);
        operands = omega (arith, ap (λ (q : Writer). q.operands) e, m.operands);
        levels = omega (arith, ap (λ (q : Writer). q.levels) e, m.levels);
        level = f;
        action = g;
      }

-- ---- the loop: what is left to write of what is written leads to where all leads

pub record Done (text s log xs₀ os₀ ls₀ : List ℕ) (w₀ : Writer) (xs os ls : List ℕ) (w : Writer) (i : ℕ) : Type 0 where
  pub inside : i ≤ length log
  pub small : Behind i w
  pub told : steps text s (drop i log) (written xs os ls w) ≡ steps text s log (written xs₀ os₀ ls₀ w₀)
  pub actions-long : length xs ≡ length xs₀
  pub operands-long : length os ≡ length os₀
  pub levels-long : length ls ≡ length ls₀

pub again : (text s log xs₀ os₀ ls₀ : List ℕ) (w₀ : Writer) (xs os ls : List ℕ) (w : Writer) (i : ℕ) → Done text s log xs₀ os₀ ls₀ w₀ xs os ls w i → i < length log
    → (xs' os' ls' : List ℕ) (r : Writer)
    → written xs' os' ls' r ≡ step text s (get_or log i 0) (drop (i + 1) log) (written xs os ls w) → Behind (i + 1) r
    → length xs' ≡ length xs → length os' ≡ length os → length ls' ≡ length ls
    → Done text s log xs₀ os₀ ls₀ w₀ xs' os' ls' r (i + 1)
again text s log xs₀ os₀ ls₀ w₀ xs os ls w i d h xs' os' ls' r e m a b f =
    record {
      inside = omega arith;
      small = m;
      told =
          ap (steps text s (drop (i + 1) log)) e
          ∙ sym (ap (λ l. steps text s l (written xs os ls w)) (drop-cons log i 0 h ∙ ap (λ k. get_or log i 0 ∷ drop k log) (sym (add-one i))))
          ∙ d.told;
      actions-long = a ∙ d.actions-long;
      operands-long = b ∙ d.operands-long;
      levels-long = f ∙ d.levels-long;
    }

pub ended : (text s log xs₀ os₀ ls₀ : List ℕ) (w₀ : Writer) (xs os ls : List ℕ) (w : Writer) (i : ℕ) → Done text s log xs₀ os₀ ls₀ w₀ xs os ls w i → length log ≤ i
    → written xs os ls w ≡ steps text s log (written xs₀ os₀ ls₀ w₀)
ended text s log xs₀ os₀ ls₀ w₀ xs os ls w i d h = sym (ap (λ l. steps text s l (written xs os ls w)) (drop_of_length-le log h)) ∙ d.told
