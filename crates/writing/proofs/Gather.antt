-- `give_operands`: the operands of an action, gathered from the events behind it. Assumes nothing.
use mathlib.Core.Path.{◌≡◌, refl, sym, ap, ◌∙◌}
use mathlib.Core.Bool.{Bool, true, false, cond}
use mathlib.Core.Logic.{◌⊎◌, inl, inr}
use mathlib.Core.List.{List, [], ◌∷◌, map}
use Prim.Native.Nat.{ℕ, zero, suc, ◌+◌, ◌≤◌, ◌<◌}
use native.Mathlib.Numerals.{add-one}
use native.Mathlib.Omega.{arith}
use mir.Val.{bool_byte}
use lib.ListN.{length, drop, get_or, set, drop_of_length-le, length-set}
use lib.Seq.{sets, drop-cons}
use Rattle.events.specs.declared.BlockKind.{BlockKind}
use Rattle.events.specs.declared.Event.{Event}
use Rattle.events.specs.declared.Event.TheVariants as E
use Rattle.events.specs.Log.{event_of, block_of}
use Rattle.writing.specs.Writing.{deeper, is_try, gather_by, gather, unclosed_at, unclosed_of, given}

pub gather-deep : (d w : ℕ) (l : List ℕ) → 0 < d → gather d (w ∷ l) ≡ gather (deeper (event_of w) d) l
gather-deep zero w l h = absurd (omega arith)
gather-deep (suc d) w l h = refl

pub gather_past : (d : ℕ) → gather d [] ≡ []
gather_past zero = refl
gather_past (suc d) = refl

-- ---- the loop

-- what is promised once all operands are given
abbrev Gave : (s log : List ℕ) (from a at : ℕ) (old new : List ℕ) (end u : ℕ) → Type 0
Gave s log from a at old new end u =
    (new ≡ sets old at (map (given s a) (gather 0 (drop from log)))) × ((end ≡ at + length (gather 0 (drop from log)))
    × ((u ≡ unclosed_of s (gather 0 (drop from log))) × ((at + u ≤ end) × (end ≤ at + length log))))

pub record Giving (s log : List ℕ) (from a at : ℕ) (old new : List ℕ) (d end u i : ℕ) : Type 0 where
  pub inside : i ≤ length log
  pub since : from ≤ i
  pub shallow : d ≤ i
  pub above : at + u ≤ end
  pub few : end + from ≤ at + i
  pub told : sets old at (map (given s a) (gather 0 (drop from log))) ≡ sets new end (map (given s a) (gather d (drop i log)))
  pub counted : at + length (gather 0 (drop from log)) ≡ end + length (gather d (drop i log))
  pub unclosed : unclosed_of s (gather 0 (drop from log)) ≡ u + unclosed_of s (gather d (drop i log))
  pub long : length new ≡ length old

pub begins : (s log : List ℕ) (from a at : ℕ) (old : List ℕ) → from ≤ length log → Giving s log from a at old old 0 at 0 from
begins s log from a at old h =
    record {
      inside = h;
      since = omega arith;
      shallow = omega arith;
      above = omega arith;
      few = omega arith;
      told = refl;
      counted = refl;
      unclosed = omega arith;
      long = refl;
    }

at_most : (b : Bool) → cond b 1 0 ≤ 1
at_most true = omega arith
at_most false = omega arith

pub flag_at_most : (b : Bool) → bool_byte b ≤ 1
flag_at_most true = omega arith
flag_at_most false = omega arith

-- the count behind an operand: one more if it is unclosed
pub one_more : (u r : ℕ) (b : Bool) → r ≡ bool_byte b → u + r ≡ u + cond b 1 0
one_more u r true h = omega arith
one_more u r false h = omega arith

-- none left
finish : (s log : List ℕ) (from a at : ℕ) (old new : List ℕ) (d end u i : ℕ) → Giving s log from a at old new d end u i → gather d (drop i log) ≡ []
    → Gave s log from a at old new end u
finish s log from a at old new d end u i g z = (
  sym (g.told ∙ ap (λ l. sets new end (map (given s a) l)) z),
  (
    sym (g.counted ∙ ap (λ l. end + length l) z ∙ omega arith),
    (sym (g.unclosed ∙ ap (λ l. u + unclosed_of s l) z ∙ omega arith), (g.above, omega (arith, g.few, g.inside))),
  ),
)

module _ (s log : List ℕ) (from a at : ℕ) (old new : List ℕ) (d end u i : ℕ) (g : Giving s log from a at old new d end u i) (h : i < length log) where
  abbrev word : ℕ
  word = get_or log i 0

  next : drop i log ≡ word ∷ drop (i + 1) log
  next = drop-cons log i 0 h ∙ ap (λ k. word ∷ drop k log) (sym (add-one i))

  module _ (e : ℕ) (same : gather d (drop i log) ≡ gather e (drop (i + 1) log)) (k : e ≤ i + 1) where
    pass : Giving s log from a at old new e end u (i + 1)
    pass =
        record {
          inside = omega arith;
          since = omega (arith, g.since);
          shallow = k;
          above = g.above;
          few = omega (arith, g.few);
          told = g.told ∙ ap (λ l. sets new end (map (given s a) l)) same;
          counted = g.counted ∙ ap (λ l. end + length l) same;
          unclosed = g.unclosed ∙ ap (λ l. u + unclosed_of s l) same;
          long = g.long;
        }

  module _ (v : Event) (is : v ≡ event_of word) where
    pub passes : 0 < d → (e : ℕ) → e ≡ deeper v d → e ≤ d + 1 → Giving s log from a at old new e end u (i + 1)
    passes p e q k =
        pass e
        (ap (gather d) next ∙ gather-deep d word (drop (i + 1) log) p ∙ ap (λ n. gather n (drop (i + 1) log)) (ap (λ u. deeper u d) (sym is) ∙ sym q))
        (omega (arith, g.shallow))

    module _ (z : d ≤ 0) where
      none : d ≡ 0
      none = omega arith

      by : (u : Event) → v ≡ u → gather d (drop i log) ≡ gather_by u (gather 0 (drop (i + 1) log)) (gather 1 (drop (i + 1) log))
      by u e = (λ j. gather (none j) (next j)) ∙ ap (λ q. gather_by q (gather 0 (drop (i + 1) log)) (gather 1 (drop (i + 1) log))) (sym is ∙ e)

      pub gives : (t : ℕ) → v ≡ E.Operand t → (new' : List ℕ) → new' ≡ set new end (given s a t) → (b : Bool) → b ≡ unclosed_at s t → (v : ℕ) → v ≡ u + cond b 1 0
          → Giving s log from a at old new' d (end + 1) v (i + 1)
      gives t f new' e b eb v ev =
          let r : gather d (drop i log) ≡ t ∷ gather d (drop (i + 1) log) =
          by (E.Operand t) f ∙ ap (λ n. t ∷ gather n (drop (i + 1) log)) (sym none)
          in
          let m = map (given s a) (gather d (drop (i + 1) log)) in
          record {
            inside = omega arith;
            since = omega (arith, g.since);
            shallow = omega arith;
            above = omega (arith, g.above, ev, at_most b);
            few = omega (arith, g.few);
            told = g.told ∙ ap (λ l. sets new end (map (given s a) l)) r ∙ (λ j. sets (sym e j) (sym (add-one end) j) m);
            counted = g.counted ∙ ap (λ l. end + length l) r ∙ omega arith;
            unclosed = g.unclosed ∙ ap (λ l. u + unclosed_of s l) r
                ∙ ap (λ (q : Bool). u + (cond q 1 0 + unclosed_of s (gather d (drop (i + 1) log)))) (sym eb) ∙ omega (arith, ev);
            long = ap length e ∙ length-set new end (given s a t) ∙ g.long;
          }

      -- what follows a block, by whether it is a try block
      block-by : (n : ℕ) → v ≡ E.Opened n → (b : BlockKind) → b ≡ block_of n → (t : Bool) → t ≡ is_try b → gather d (drop i log) ≡ cond t (gather 1 (drop (i + 1) log)) []
      block-by n f b k t e = by (E.Opened n) f ∙ ap (λ q. cond q (gather 1 (drop (i + 1) log)) []) (sym (e ∙ ap is_try k))

      pub tries : (n : ℕ) → v ≡ E.Opened n → (b : BlockKind) → b ≡ block_of n → true ≡ is_try b → Giving s log from a at old new 1 end u (i + 1)
      tries n f b k e = pass 1 (block-by n f b k true e) (omega arith)

      ended : gather d (drop i log) ≡ [] → Gave s log from a at old new end u
      ended z = finish s log from a at old new d end u i g z

      pub opens : (n : ℕ) → v ≡ E.Opened n → (b : BlockKind) → b ≡ block_of n → false ≡ is_try b → Gave s log from a at old new end u
      opens n f b k e = ended (block-by n f b k false e)

      stops : (q : Event) → v ≡ q → gather_by q (gather 0 (drop (i + 1) log)) (gather 1 (drop (i + 1) log)) ≡ [] → Gave s log from a at old new end u
      stops q f n = ended (by q f ∙ n)

      pub others : ((x : ℕ) × (v ≡ E.Action x)) ⊎ (((x : ℕ) × (v ≡ E.Label x)) ⊎ (v ≡ E.Closed)) → Gave s log from a at old new end u
      others (inl p) = stops (E.Action p.0) p.1 refl
      others (inr (inl p)) = stops (E.Label p.0) p.1 refl
      others (inr (inr e)) = stops E.Closed e refl

pub ends : (s log : List ℕ) (from a at : ℕ) (old new : List ℕ) (d end u i : ℕ) → Giving s log from a at old new d end u i → length log ≤ i
    → Gave s log from a at old new end u
ends s log from a at old new d end u i g h = finish s log from a at old new d end u i g (ap (gather d) (drop_of_length-le log h) ∙ gather_past d)
