-- What the events of a tree write into the lent tables. Assumes nothing.
use mathlib.Core.Path.{◌≡◌, refl, sym, ap, ◌∙◌}
use mathlib.Core.Bool.{Bool, false, cond}
use mathlib.Core.List.{List, [], ◌∷◌, ◌++◌, map, map-append}
use Prim.Native.Nat.{ℕ, suc, ◌+◌, ◌-◌, ◌*◌, ◌≤◌, ◌<◌}
use native.Mathlib.Omega.{arith}
use native.Mathlib.Numerals.{add-one}
use lib.ListN.{length, get_or, set, length-append, length-map, length-set}
use lib.Seq.{sets, get_or-set_same, length-sets}
use borrow.Author.Tests.{lt-ltb, le-ltb}
use Rattle.names.specs.declared.ActionName.{ActionName}
use Rattle.actions.specs.Numbers.{number_of}
use Rattle.actions.proofs.Numbers.{number_below, action-number}
use Rattle.events.specs.Log.{Holdable, log_word, by_kind, block_of as block_kind}
use Rattle.events.proofs.Words.{event_is}
use Rattle.tokens.specs.declared.TokenKind.{TokenKind}
use Rattle.tokens.specs.Kinds.{is_unclosed}
use Rattle.tokens.specs.Tokens.{token_of, raw_text}
use Rattle.entries.specs.declared.Action as D
use Rattle.entries.specs.declared.Operand.{Operand}
use Rattle.entries.specs.declared.Level.{Level}
use Rattle.entries.specs.Entries.{action_word, action_of, operand_word, operand_of, block_number, level_at, owner_of}
use Rattle.entries.specs.Levels.{fresh, with_action, Small}
use Rattle.entries.proofs.Words.{action_back, operand_back}
use Rattle.entries.proofs.Levels.{read_back}
use Rattle.pcode.specs.Deltas.{delta_of}
use Rattle.nets.specs.Nets.{is_empty, first_is_empty, moved_by}
use Rattle.nets.proofs.Bounds.{Bounded, bounded_small}
use Rattle.lexemes.specs.Lexemes.{Lexeme, lexeme, place_of, raw, unclosed}
use Rattle.lexemes.specs.Events.{Part, body, try, catch, finally, Event}
use Rattle.lexemes.specs.Events as E
use Rattle.grammar.specs.Grammar.{Items, done, label, action, Blocks, no_blocks, block}
use Rattle.grammar.specs.Reading.{Acted, own_actions, unclosed_in, own_unclosed, all_actions, actions_inside, opened_of, opened_in, acted_of, acted_in, operands_from}
use Rattle.grammar.specs.Nets.{name_is_empty}
use Rattle.grammar.specs.Trees.{leading, waiting, events, block-events, givens}
use Rattle.operands.specs.Log.{part_number, event_word}
use Rattle.writing.specs.Writing.{block_of, gather, unclosed_at, unclosed_of, given, gave, Written, written, moved_level, given_in as givenInto, acted, opened, owner_in, closed, by, step, steps}
use Rattle.reading.specs.Trees.{All, AllOf, AllIn, IsLow}
use Rattle.reading.specs.Tables.{part_of as partEntry, operand_entry_word}
use Rattle.reading.specs.Told.{Of}
use Rattle.reading.proofs.Trees.{last_of, opened-count, opened-counts, acted-count, acted-counts, part_below, low-leading, low-waiting}
use Rattle.reading.proofs.Nets.{run_from, run-done, run-label, run-action}
use Rattle.reading.proofs.Places.{weaker, weaker_of, weaker_in}
use Rattle.reading.proofs.Groups.{own-few}
use Rattle.reading.proofs.Sets.{joined, get_d_before, get_d_first}
use Rattle.reading.proofs.LevelSets.{put, puts, Here, put_length, puts-length, puts_joined, put_puts, put_put, put_before, here_put, here-before, put_same}
use Rattle.reading.proofs.Gathered.{words, Stops, stops-closed, stops-items, gathered}
use Rattle.reading.proofs.Words.{of, ops, act_word, act_words, op_words, level_final, ops_append, act-append, act-length, op_append, op_length, unclosed-few, own-unclosed-few, widens, moves_near, run_near}

-- ---- where the writer stands

-- the tables, and how many actions, operands and levels they have
pub record Point : Type 0 where
  pub actions : List ℕ
  pub operands : List ℕ
  pub levels : List ℕ
  pub a : ℕ
  pub q : ℕ
  pub m : ℕ

-- in level ℓ, behind action g
abbrev pub at : Point → ℕ → ℕ → Written
at P ℓ g = written P.actions P.operands P.levels (record { level = ℓ; action = g; actions = P.a; operands = P.q; levels = P.m })

-- level ℓ is open, and is v so far
pub record In (P : Point) (ℓ : ℕ) (v : Level) : Type 0 where
  pub inside : ℓ < P.m
  pub here : Here P.levels ℓ v
  pub block : Small (block_number v.block)
  pub count : v.actions ≤ P.a
  pub near : Bounded P.a P.q v.net
  pub unclosed : v.unclosed ≤ P.q

-- the blocks of action o of level ℓ come next
pub record Before (P : Point) (ℓ o : ℕ) : Type 0 where
  pub above : o < P.a
  pub owned : (action_of (get_or P.actions o 0)).level ≡ ℓ

-- room for x actions, y operands and z levels more
pub record Room (P : Point) (x y z : ℕ) : Type 0 where
  pub actions : P.a + x ≤ length P.actions
  pub operands : P.q + y ≤ length P.operands
  pub levels : 2 * (P.m + z) ≤ length P.levels
  pub few-actions : P.a + x ≤ 65536
  pub few-operands : P.q + y ≤ 65536
  pub few-levels : P.m + z ≤ 65537

abbrev pub RoomOf : Point → ℕ → Items → Type 0
RoomOf P ℓ x = Room P (all_actions x) (ops (acted_of ℓ P.m x)) (length (opened_of 0 x))

abbrev RoomIn : Point → Blocks → Type 0
RoomIn P bs = Room P (actions_inside bs) (ops (acted_in P.m bs)) (length (opened_in 0 0 bs))

-- ---- where it stands then

abbrev acts : Point → ℕ → Level → ActionName → List Lexeme → Point
acts P ℓ v n os =
    record {
      actions = set P.actions P.a (act_word P.q (record { name = n; level = ℓ; operands = os }));
      operands = sets P.operands P.q (map operand_entry_word (map (of P.a) os));
      levels = put P.levels ℓ (with_action (moved_by (delta_of n (length os) (name_is_empty os)) P.a v.net) (unclosed_in os) v);
      a = suc P.a;
      q = P.q + length os;
      m = P.m;
    }

abbrev opens : Point → Part → ℕ → Point
opens P p o =
    record {
      actions = P.actions;
      operands = P.operands;
      levels = put P.levels P.m (fresh (partEntry p o));
      a = P.a;
      q = P.q;
      m = suc P.m;
    }

-- a level behind the items x, of which the first action is a
abbrev pub level_after : Level → ℕ → Items → Level
level_after v a x = record { block = v.block; actions = v.actions + own_actions x; net = run_from a v.net x; unclosed = v.unclosed + own_unclosed x }

abbrev pub behind : Point → ℕ → Level → Items → Point
behind P ℓ v x =
    record {
      actions = sets P.actions P.a (act_words P.q (acted_of ℓ P.m x));
      operands = sets P.operands P.q (op_words P.a (acted_of ℓ P.m x));
      levels = puts (put P.levels ℓ (level_after v P.a x)) P.m (map level_final (opened_of P.a x));
      a = P.a + all_actions x;
      q = P.q + ops (acted_of ℓ P.m x);
      m = P.m + length (opened_of 0 x);
    }

abbrev behind_in : Point → ℕ → Blocks → Point
behind_in P o bs =
    record {
      actions = sets P.actions P.a (act_words P.q (acted_in P.m bs));
      operands = sets P.operands P.q (op_words P.a (acted_in P.m bs));
      levels = puts P.levels P.m (map level_final (opened_in o P.a bs));
      a = P.a + actions_inside bs;
      q = P.q + ops (acted_in P.m bs);
      m = P.m + length (opened_in 0 0 bs);
    }

empty_name : (i : ℕ) (k : TokenKind) (w : List ℕ) (os : List Lexeme) → is_empty w ≡ name_is_empty (lexeme i k w ∷ os)
empty_name i k [] os = refl
empty_name i k (b ∷ w) os = refl

-- a block by its number, and by its part
part_entry : (p : Part) (o : ℕ) → block_of (block_kind (part_number p)) o ≡ partEntry p o
part_entry body o = refl
part_entry try o = refl
part_entry catch o = refl
part_entry finally o = refl

pub part_most : (p : Part) (o : ℕ) → block_number (partEntry p o) ≤ o * 4 + 4
part_most body o = omega arith
part_most try o = omega arith
part_most catch o = omega arith
part_most finally o = omega arith

part_owner : (p : Part) (o : ℕ) → owner_of (partEntry p o) ≡ o
part_owner body o = refl
part_owner try o = refl
part_owner catch o = refl
part_owner finally o = refl

module _ (text s : List ℕ) (few : length s ≤ 65536) where
  abbrev run : List Event → Written → Written
  run k T = steps text s (words k) T

  decoded : (k v : ℕ) (l : List ℕ) (T : Written) → Holdable v → step text s (log_word k v) l T ≡ by text s (by_kind k v) l T
  unfolding step
  decoded k v l T h = ap (λ e. by text s e l T) (event_is k v h)

  -- operands are written with their action
  handed : (os : List Lexeme) (k : List Event) (T : Written) → All IsLow os → run (givens os k) T ≡ run k T
  handed [] k T h = refl
  handed (t ∷ os) k T h = ap (run (givens os k)) (decoded 2 (place_of t) (words (givens os k)) T h.0) ∙ handed os k T h.1

  -- ---- one event

  -- whether a function's name is empty, told of the first operand's word
  first_empty : (O : List ℕ) (q a : ℕ) (os : List Lexeme) → All (Of text s) os → Small a → q + length os ≤ length O
      → first_is_empty text s (sets O q (map operand_entry_word (map (of a) os))) q (q + length os) ≡ name_is_empty os
  unfolding first_is_empty
  first_empty O q a [] k f r =
      ap (λ (b : Bool). cond b (is_empty (raw_text text (token_of (get_or s (operand_of (get_or O q 0)).token 0)))) false) (le-ltb q (q + 0) (omega arith))
  first_empty O q a (lexeme p c w ∷ l) k f r =
      let u = map operand_entry_word (map (of a) l) in
      let o : Operand = record { action = a; token = p; unclosed = is_unclosed c } in
      let v = operand_word o in
      let e : ℕ → Bool = λ i. is_empty (raw_text text (token_of (get_or s i 0))) in
      let token : (operand_of (get_or (sets O q (v ∷ u)) q 0)).token ≡ p =
      ap (λ i. (operand_of i).token) (get_d_first u O q v (omega arith)) ∙ ap (λ (y : Operand). y.token) (operand_back o f (omega (arith, k.0.0, few)))
      in
      ap (λ (b : Bool). cond b (e (operand_of (get_or (sets O q (v ∷ u)) q 0)).token) false) (lt-ltb q (q + suc (length l)) (omega arith))
      ∙ ap e token
      ∙ sym (ap (λ (t : Lexeme). is_empty (raw t)) k.0.1)
      ∙ empty_name p c w l

  -- what an operand's token says of its quote
  flag-told : (t : Lexeme) → Of text s t → unclosed_at s (place_of t) ≡ unclosed t
  unfolding unclosed_at
  flag-told t o = sym (ap unclosed o.1)

  given-words : (a : ℕ) (os : List Lexeme) → All (Of text s) os → map (given s a) (map place_of os) ≡ map operand_entry_word (map (of a) os)
  given-words a [] k = refl
  given-words a (t ∷ os) k =
      λ j. operand_word (record { action = a; token = place_of t; unclosed = flag-told t k.0 j }) ∷ given-words a os k.1 j

  unclosed-told : (os : List Lexeme) → All (Of text s) os → unclosed_of s (map place_of os) ≡ unclosed_in os
  unclosed-told [] k = refl
  unclosed-told (t ∷ os) k = λ j. cond (flag-told t k.0 j) 1 0 + unclosed-told os k.1 j

  module _ (P : Point) (ℓ g : ℕ) (v : Level) (is : In P ℓ v) (n : ActionName) (os : List Lexeme) (rest : List ℕ)
      (told : gather 0 rest ≡ map place_of os) (known : All (Of text s) os) (fa : P.a < 65536) (fq : P.q + length os ≤ 65536) (ro : P.q + length os ≤ length P.operands) where
    counted : length (gather 0 rest) ≡ length os
    counted = ap length told ∙ length-map os place_of

    operands-told : givenInto s P.a (gather 0 rest) P.operands P.q ≡ (acts P ℓ v n os).operands
    unfolding givenInto
    operands-told =
        ap (λ l. sets P.operands P.q (map (given s P.a) l)) told
        ∙ ap (sets P.operands P.q) (given-words P.a os known)

    given-told : gave s P.q (gather 0 rest) ≡ record { end = P.q + length os; unclosed = unclosed_in os }
    given-told = λ j. record { end = P.q + counted j; unclosed = (ap (unclosed_of s) told ∙ unclosed-told os known) j }

    level-here : level_at P.levels ℓ ≡ v
    level-here =
        read_back P.levels ℓ v is.here.first is.here.second is.block (omega (arith, is.count))
        (bounded_small P.a P.q v.net (omega arith) (omega arith) is.near) (omega (arith, is.unclosed))

    level-told : moved_level text s (acts P ℓ v n os).operands P.q (record { end = P.q + length os; unclosed = unclosed_in os }) n P.a ℓ P.levels
        ≡ (acts P ℓ v n os).levels
    unfolding moved_level
    level-told =
        let e : P.q + length os - P.q ≡ length os = omega arith in
        λ j. put P.levels ℓ
        (with_action (moved_by (delta_of n (e j) (first_empty P.operands P.q P.a os known (omega arith) ro j)) P.a (level-here j).net) (unclosed_in os) (level-here j))

    acted-step : step text s (log_word 0 (number_of n)) rest (at P ℓ g) ≡ at (acts P ℓ v n os) ℓ P.a
    unfolding written acted
    acted-step =
        decoded 0 (number_of n) rest (at P ℓ g) (omega (arith, number_below n))
        ∙ ap (λ x. acted text s x rest (at P ℓ g)) (action-number n)
        ∙ (λ j. record {
          actions = set P.actions P.a (act_word' (counted j));
          operands = operands-told j;
          levels = ((λ i. moved_level text s (operands-told i) P.q (given-told i) n P.a ℓ P.levels) ∙ level-told) j;
          at = record { level = ℓ; action = P.a; actions = add-one P.a j; operands = P.q + counted j; levels = P.m };
        })
      where
        act_word' : ℕ → ℕ
        act_word' k = action_word (record { name = n; level = ℓ; first = P.q; count = k })

  opened-step : (P : Point) (ℓ o : ℕ) (p : Part) (rest : List ℕ) → step text s (event_word (E.opened p)) rest (at P ℓ o) ≡ at (opens P p o) P.m o
  unfolding written opened
  opened-step P ℓ o p rest =
      decoded 3 (part_number p) rest (at P ℓ o) (omega (arith, part_below p))
      ∙ (λ j. record {
        actions = P.actions;
        operands = P.operands;
        levels = put P.levels P.m (fresh (part_entry p o j));
        at = record { level = P.m; action = o; actions = P.a; operands = P.q; levels = add-one P.m j };
      })

  closed-step : (P : Point) (ℓ o m g : ℕ) (rest : List ℕ) → owner_in P.levels m ≡ o → (action_of (get_or P.actions o 0)).level ≡ ℓ
      → step text s (event_word E.closed) rest (at P m g) ≡ at P ℓ o
  unfolding written closed
  closed-step P ℓ o m g rest e f =
      decoded 4 0 rest (at P m g) (omega arith)
      ∙ (λ j. record {
        actions = P.actions;
        operands = P.operands;
        levels = P.levels;
        at = record { level = (ap (λ k. (action_of (get_or P.actions k 0)).level) e ∙ f) j; action = e j; actions = P.a; operands = P.q; levels = P.m };
      })

  -- ---- the events of a tree

  low_of : (x : Items) → AllOf (Of text s) x → AllOf IsLow x
  low_of x h = weaker_of (λ u o. omega (arith, o.0, few)) x h

  low_in : (bs : Blocks) → AllIn (Of text s) bs → AllIn IsLow bs
  low_in bs h = weaker_in (λ u o. omega (arith, o.0, few)) bs h

  low_list : (os : List Lexeme) → All (Of text s) os → All IsLow os
  low_list os h = weaker (λ u o. omega (arith, o.0, few)) os h

  stay : (P : Point) (ℓ : ℕ) (v : Level) → In P ℓ v → P ≡ behind P ℓ v done
  stay P ℓ v is =
      let zp : v.actions + 0 ≡ v.actions = omega arith in
      let za : P.a ≡ P.a + 0 = omega arith in
      let zq : P.q ≡ P.q + 0 = omega arith in
      let zm : P.m ≡ P.m + 0 = omega arith in
      let zu : v.unclosed + 0 ≡ v.unclosed = omega arith in
      let e : put P.levels ℓ (level_after v P.a done) ≡ P.levels =
      (λ j. put P.levels ℓ (record { block = v.block; actions = zp j; net = run-done P.a v.net j; unclosed = zu j }))
      ∙ put_same P.levels ℓ v is.here
      in
      λ j. record { actions = P.actions; operands = P.operands; levels = sym e j; a = za j; q = zq j; m = zm j }

  no_more : (P : Point) (o : ℕ) → P ≡ behind_in P o no_blocks
  no_more P o =
      let za : P.a ≡ P.a + 0 = omega arith in
      let zq : P.q ≡ P.q + 0 = omega arith in
      let zm : P.m ≡ P.m + 0 = omega arith in
      λ j. record { actions = P.actions; operands = P.operands; levels = P.levels; a = za j; q = zq j; m = zm j }

  -- a label writes nothing
  passed : (P : Point) (ℓ : ℕ) (v : Level) (t : Lexeme) (x : Items) → behind P ℓ v x ≡ behind P ℓ v (label t x)
  passed P ℓ v t x =
      λ j. record {
        actions = (behind P ℓ v x).actions;
        operands = (behind P ℓ v x).operands;
        levels =
            puts
            (put P.levels ℓ
            (record { block = v.block; actions = v.actions + own_actions x; net = sym (run-label P.a v.net t x) j; unclosed = v.unclosed + own_unclosed x })) P.m
            (map level_final (opened_of P.a x));
        a = (behind P ℓ v x).a;
        q = (behind P ℓ v x).q;
        m = (behind P ℓ v x).m;
      }

  -- an action, its blocks and the rest of its level
  module _ (P : Point) (ℓ : ℕ) (v : Level) (is : In P ℓ v) (n : ActionName) (os : List Lexeme) (bs : Blocks) (x : Items) (room : RoomOf P ℓ (action n os bs x)) where
    abbrev l : Acted
    l = record { name = n; level = ℓ; operands = os }

    abbrev u : Level
    u = with_action (moved_by (delta_of n (length os) (name_is_empty os)) P.a v.net) (unclosed_in os) v

    abbrev P₁ : Point
    P₁ = acts P ℓ v n os

    abbrev P₂ : Point
    P₂ = behind_in P₁ P.a bs

    all_ops : ops (acted_in P.m bs ++ acted_of ℓ P₂.m x) ≡ ops (acted_in P.m bs) + ops (acted_of ℓ P₂.m x)
    all_ops = ops_append (acted_in P.m bs) (acted_of ℓ P₂.m x)

    all-levels : length (opened_in 0 1 bs ++ opened_of (1 + actions_inside bs) x) ≡ length (opened_in 0 0 bs) + length (opened_of 0 x)
    all-levels =
        length-append (opened_in 0 1 bs) (opened_of (1 + actions_inside bs) x)
        ∙ omega (arith, opened-counts bs 0 0 1 0, opened-count x (1 + actions_inside bs) 0)

    long-actions : length P₁.actions ≡ length P.actions
    long-actions = length-set P.actions P.a (act_word P.q l)

    long-operands : length P₁.operands ≡ length P.operands
    long-operands = length-sets P.operands P.q (map operand_entry_word (map (of P.a) os))

    long-levels : length P₁.levels ≡ length P.levels
    long-levels = put_length P.levels ℓ u

    before : Before P₁ ℓ P.a
    before =
        record {
          above = omega arith;
          owned =
              ap (λ w. (action_of w).level) (get_or-set_same P.actions P.a (act_word P.q l) 0 (omega (arith, room.actions)))
              ∙ ap (λ (k : D.Action). k.level)
              (action_back (record { name = n; level = ℓ; first = P.q; count = length os }) (omega (arith, is.inside, room.few-levels, all-levels))
              (omega (arith, room.few-operands)) (omega (arith, room.few-operands)));
        }

    room_in : RoomIn P₁ bs
    room_in =
        record {
          actions = omega (arith, room.actions, long-actions);
          operands = omega (arith, room.operands, long-operands, all_ops);
          levels = omega (arith, room.levels, long-levels, all-levels);
          few-actions = omega (arith, room.few-actions);
          few-operands = omega (arith, room.few-operands, all_ops);
          few-levels = omega (arith, room.few-levels, all-levels);
        }

    next : In P₂ ℓ u
    next =
        record {
          inside = omega (arith, is.inside);
          here =
              here-before (map level_final (opened_in P.a P₁.a bs)) P₁.levels P.m ℓ u is.inside
              (here_put P.levels ℓ u (omega (arith, is.inside, room.levels)));
          block = is.block;
          count = omega (arith, is.count);
          near = widens P₁.a P₁.q P₂.a P₂.q u.net (omega arith) (omega arith) (moves_near n os P.a P.q v.net is.near);
          unclosed = omega (arith, is.unclosed, unclosed-few os);
        }

    room_next : RoomOf P₂ ℓ x
    room_next =
        record {
          actions = omega (arith, room.actions, long-actions, length-sets P₁.actions P₁.a (act_words P₁.q (acted_in P.m bs)));
          operands = omega (arith, room.operands, long-operands, length-sets P₁.operands P₁.q (op_words P₁.a (acted_in P.m bs)), all_ops);
          levels = omega (arith, room.levels, long-levels, puts-length P₁.levels P.m (map level_final (opened_in P.a P₁.a bs)), all-levels);
          few-actions = omega (arith, room.few-actions);
          few-operands = omega (arith, room.few-operands, all_ops);
          few-levels = omega (arith, room.few-levels, all-levels);
        }

    actions_join : (behind P₂ ℓ u x).actions ≡ (behind P ℓ v (action n os bs x)).actions
    actions_join =
        joined (act_words P₁.q (acted_in P.m bs)) P₁.actions (act_words P₂.q (acted_of ℓ P₂.m x)) P₁.a P₂.a
        (omega (arith, act-length (acted_in P.m bs) P₁.q, acted-counts bs P.m))
        ∙ ap (sets P₁.actions P₁.a) (sym (act-append (acted_in P.m bs) (acted_of ℓ P₂.m x) P₁.q))

    operands_join : (behind P₂ ℓ u x).operands ≡ (behind P ℓ v (action n os bs x)).operands
    operands_join =
        let own = map operand_entry_word (map (of P.a) os) in
        let in_blocks = acted_in P.m bs in
        let rest = acted_of ℓ P₂.m x in
        let z : P₂.a ≡ P₁.a + length in_blocks = omega (arith, acted-counts bs P.m) in
        joined (op_words P₁.a in_blocks) P₁.operands (op_words P₂.a rest) P₁.q P₂.q (omega (arith, op_length in_blocks P₁.a))
        ∙ ap (λ k. sets P₁.operands P₁.q (op_words P₁.a in_blocks ++ op_words k rest)) z
        ∙ ap (sets P₁.operands P₁.q) (sym (op_append in_blocks rest P₁.a))
        ∙ joined own P.operands (op_words P₁.a (in_blocks ++ rest)) P.q P₁.q (omega (arith, length-map (map (of P.a) os) operand_entry_word, length-map os (of P.a)))
        ∙ ap (sets P.operands P.q) (sym (map-append operand_entry_word (map (of P.a) os) (operands_from P₁.a (in_blocks ++ rest))))

    levels_join : (behind P₂ ℓ u x).levels ≡ (behind P ℓ v (action n os bs x)).levels
    levels_join =
        let us = map level_final (opened_in P.a P₁.a bs) in
        let vs = map level_final (opened_of P₂.a x) in
        let w = level_after u P₂.a x in
        let z : v.actions + 1 + own_actions x ≡ v.actions + suc (own_actions x) = omega arith in
        let zu : v.unclosed + unclosed_in os + own_unclosed x ≡ v.unclosed + (unclosed_in os + own_unclosed x) = omega arith in
        ap (λ k. puts k P₂.m vs) (put_before us P₁.levels P.m ℓ w is.inside ∙ ap (λ k. puts k P.m us) (put_put P.levels ℓ u w))
        ∙ puts_joined us (put P.levels ℓ w) vs P.m P₂.m (omega (arith, length-map (opened_in P.a P₁.a bs) level_final, opened-counts bs P.a 0 P₁.a 0))
        ∙ (λ j. puts (put P.levels ℓ (record { block = v.block; actions = z j; net = sym (run-action P.a v.net l bs x) j; unclosed = zu j })) P.m
        (sym (map-append level_final (opened_in P.a P₁.a bs) (opened_of P₂.a x)) j))

    acted-after : behind P₂ ℓ u x ≡ behind P ℓ v (action n os bs x)
    acted-after =
        let za : P₂.a + all_actions x ≡ P.a + suc (actions_inside bs + all_actions x) = omega arith in
        let zq : P₂.q + ops (acted_of ℓ P₂.m x) ≡ P.q + (length os + ops (acted_in P.m bs ++ acted_of ℓ P₂.m x)) = omega (arith, all_ops) in
        let zm : P₂.m + length (opened_of 0 x) ≡ P.m + length (opened_in 0 1 bs ++ opened_of (1 + actions_inside bs) x) = omega (arith, all-levels) in
        λ j. record { actions = actions_join j; operands = operands_join j; levels = levels_join j; a = za j; q = zq j; m = zm j }

  -- a block of action o and the blocks behind it
  module _ (P : Point) (ℓ o : ℕ) (is : Before P ℓ o) (p : Part) (x : Items) (bs : Blocks) (room : RoomIn P (block p x bs)) where
    abbrev v₀ : Level
    v₀ = fresh (partEntry p o)

    abbrev Pₒ : Point
    Pₒ = opens P p o

    abbrev P₃ : Point
    P₃ = behind Pₒ P.m v₀ x

    ops_both : ops (acted_of P.m Pₒ.m x ++ acted_in P₃.m bs) ≡ ops (acted_of P.m Pₒ.m x) + ops (acted_in P₃.m bs)
    ops_both = ops_append (acted_of P.m Pₒ.m x) (acted_in P₃.m bs)

    levels_both : length (opened_of 0 x ++ opened_in 0 (0 + all_actions x) bs) ≡ length (opened_of 0 x) + length (opened_in 0 0 bs)
    levels_both = length-append (opened_of 0 x) (opened_in 0 (0 + all_actions x) bs) ∙ omega (arith, opened-counts bs 0 0 (0 + all_actions x) 0)

    long-opened : length Pₒ.levels ≡ length P.levels
    long-opened = put_length P.levels P.m v₀

    block-small : Small (block_number v₀.block)
    block-small = omega (arith, part_most p o, is.above, room.few-actions)

    opened_in_lem : In Pₒ P.m v₀
    opened_in_lem =
        record {
          inside = omega arith;
          here = here_put P.levels P.m v₀ (omega (arith, room.levels));
          block = block-small;
          count = omega arith;
          near = omega arith;
          unclosed = omega arith;
        }

    room-inside : RoomOf Pₒ P.m x
    room-inside =
        record {
          actions = omega (arith, room.actions);
          operands = omega (arith, room.operands, ops_both);
          levels = omega (arith, room.levels, long-opened, levels_both);
          few-actions = omega (arith, room.few-actions);
          few-operands = omega (arith, room.few-operands, ops_both);
          few-levels = omega (arith, room.few-levels, levels_both);
        }

    -- the owner that a closing brace finds
    owner_back : owner_in P₃.levels P.m ≡ o
    owner_back =
        let v = level_after v₀ P.a x in
        let net = run_near x P.m Pₒ.m P.a P.q v₀.net (omega arith) in
        let here =
        here-before (map level_final (opened_of P.a x)) (put Pₒ.levels P.m v) Pₒ.m P.m v (omega arith)
        (here_put Pₒ.levels P.m v (omega (arith, room.levels, long-opened)))
        in
        ap (λ (k : Level). owner_of k.block)
        (read_back P₃.levels P.m v here.first here.second block-small (omega (arith, own-few x, room.few-actions))
        (bounded_small P₃.a P₃.q v.net (omega (arith, room.few-actions)) (omega (arith, room.few-operands, ops_both)) net)
        (omega (arith, own-unclosed-few x P.m Pₒ.m, room.few-operands, ops_both)))
        ∙ part_owner p o

    closed-before : Before P₃ ℓ o
    closed-before =
        record {
          above = omega (arith, is.above);
          owned = ap (λ w. (action_of w).level) (get_d_before (act_words P.q (acted_of P.m Pₒ.m x)) P.actions P.a o is.above) ∙ is.owned;
        }

    room-closed : RoomIn P₃ bs
    room-closed =
        record {
          actions = omega (arith, room.actions, length-sets P.actions P.a (act_words P.q (acted_of P.m Pₒ.m x)));
          operands = omega (arith, room.operands, length-sets P.operands P.q (op_words P.a (acted_of P.m Pₒ.m x)), ops_both);
          levels =
              omega (
                arith,
                room.levels,
                long-opened,
                puts-length (put Pₒ.levels P.m (level_after v₀ P.a x)) Pₒ.m (map level_final (opened_of P.a x)),
                put_length Pₒ.levels P.m (level_after v₀ P.a x),
                levels_both,
              );
          few-actions = omega (arith, room.few-actions);
          few-operands = omega (arith, room.few-operands, ops_both);
          few-levels = omega (arith, room.few-levels, levels_both);
        }

    block-after : behind_in P₃ o bs ≡ behind_in P o (block p x bs)
    block-after =
        let acts_in = acted_of P.m Pₒ.m x in
        let rest = acted_in P₃.m bs in
        let w = level_after v₀ P.a x in
        let ws = map level_final (opened_of P.a x) in
        let vs = map level_final (opened_in o P₃.a bs) in
        let y = acted-count x P.m Pₒ.m in
        let k : P₃.a ≡ P.a + length acts_in = omega (arith, y) in
        let za : P₃.a + actions_inside bs ≡ P.a + (all_actions x + actions_inside bs) = omega arith in
        let zq : P₃.q + ops rest ≡ P.q + ops (acts_in ++ rest) = omega (arith, ops_both) in
        let zm : P₃.m + length (opened_in 0 0 bs) ≡ P.m + suc (length (opened_of 0 x ++ opened_in 0 (0 + all_actions x) bs)) = omega (arith, levels_both) in
        let own : 0 + own_actions x ≡ own_actions x = omega arith in
        let none : 0 + own_unclosed x ≡ own_unclosed x = omega arith in
        let ja =
        joined (act_words P.q acts_in) P.actions (act_words P₃.q rest) P.a P₃.a (omega (arith, act-length acts_in P.q, y))
        ∙ ap (sets P.actions P.a) (sym (act-append acts_in rest P.q))
        in
        let jo =
        joined (op_words P.a acts_in) P.operands (op_words P₃.a rest) P.q P₃.q (omega (arith, op_length acts_in P.a))
        ∙ ap (λ z. sets P.operands P.q (op_words P.a acts_in ++ op_words z rest)) k
        ∙ ap (sets P.operands P.q) (sym (op_append acts_in rest P.a))
        in
        let jl =
        ap (λ z. puts (puts z Pₒ.m ws) P₃.m vs) (put_put P.levels P.m v₀ w)
        ∙ ap (λ z. puts z P₃.m vs) (put_puts P.levels P.m w ws)
        ∙ puts_joined (w ∷ ws) P.levels vs P.m P₃.m (omega (arith, length-map (opened_of P.a x) level_final, opened-count x P.a 0))
        ∙ (λ j. puts P.levels P.m
        (record { block = partEntry p o; actions = own j; net = run_from P.a v₀.net x; unclosed = none j }
        ∷ sym (map-append level_final (opened_of P.a x) (opened_in o P₃.a bs)) j))
        in
        λ j. record { actions = ja j; operands = jo j; levels = jl j; a = za j; q = zq j; m = zm j }

  mutual
    pub of-items : (x : Items) (k : List Event) (P : Point) (ℓ g : ℕ) (v : Level) → In P ℓ v → RoomOf P ℓ x → AllOf (Of text s) x → Stops k
        → run (events x k) (at P ℓ g) ≡ run k (at (behind P ℓ v x) ℓ (last_of g P.a x))
    of-items done k P ℓ g v is room h z = ap (λ Q. run k (at Q ℓ g)) (stay P ℓ v is)
    of-items (label t x) k P ℓ g v is room h z =
        ap (run (events x k)) (decoded 1 (place_of t) (words (events x k)) (at P ℓ g) (omega (arith, h.0.0, few)))
        ∙ of-items x k P ℓ g v is
        (record {
          actions = room.actions;
          operands = room.operands;
          levels = room.levels;
          few-actions = room.few-actions;
          few-operands = room.few-operands;
          few-levels = room.few-levels;
        }) h.1 z
        ∙ ap (λ Q. run k (at Q ℓ (last_of g P.a x))) (passed P ℓ v t x)
    of-items (action n os bs x) k P ℓ g v is room h z =
        let k' = events x k in
        let stops = stops-items x k (low_of x h.1.1) z in
        let e = ops_append (acted_in P.m bs) (acted_of ℓ (P.m + length (opened_in 0 0 bs)) x) in
        ap (run (block-events bs os k'))
        (acted-step P ℓ g v is n os (words (block-events bs os k')) (gathered bs os k' (low_list os h.0) (low_in bs h.1.0) stops) h.0
        (omega (arith, room.few-actions)) (omega (arith, room.few-operands)) (omega (arith, room.operands)))
        ∙ of_blocks bs os k' (P₁ P ℓ v is n os bs x room) ℓ P.a (before P ℓ v is n os bs x room) (room_in P ℓ v is n os bs x room) (low_list os h.0) h.1.0 stops
        ∙ of-items x k (P₂ P ℓ v is n os bs x room) ℓ P.a (u P ℓ v is n os bs x room) (next P ℓ v is n os bs x room) (room_next P ℓ v is n os bs x room) h.1.1 z
        ∙ ap (λ Q. run k (at Q ℓ (last_of P.a (suc P.a + actions_inside bs) x))) (acted-after P ℓ v is n os bs x room)

    of_blocks : (bs : Blocks) (os : List Lexeme) (k : List Event) (P : Point) (ℓ o : ℕ) → Before P ℓ o → RoomIn P bs → All IsLow os → AllIn (Of text s) bs → Stops k
        → run (block-events bs os k) (at P ℓ o) ≡ run k (at (behind_in P o bs) ℓ o)
    of_blocks no_blocks os k P ℓ o is room l h z = handed os k (at P ℓ o) l ∙ ap (λ Q. run k (at Q ℓ o)) (no_more P o)
    of_blocks (block p x bs) os k P ℓ o is room l h z =
        let rest = block-events bs (waiting p os) k in
        handed (leading p os) (E.opened p ∷ events x (E.closed ∷ rest)) (at P ℓ o) (low-leading p os l)
        ∙ ap (run (events x (E.closed ∷ rest))) (opened-step P ℓ o p (words (events x (E.closed ∷ rest))))
        ∙ of-items x (E.closed ∷ rest) (opens P p o) P.m o (fresh (partEntry p o)) (opened_in_lem P ℓ o is p x bs room) (room-inside P ℓ o is p x bs room) h.0 (stops-closed rest)
        ∙ ap (run rest) (closed-step (P₃ P ℓ o is p x bs room) ℓ o P.m (last_of o P.a x) (words rest) (owner_back P ℓ o is p x bs room) (closed-before P ℓ o is p x bs room).owned)
        ∙ of_blocks bs (waiting p os) k (P₃ P ℓ o is p x bs room) ℓ o (closed-before P ℓ o is p x bs room) (room-closed P ℓ o is p x bs room) (low-waiting p os l) h.1 z
        ∙ ap (λ Q. run k (at Q ℓ o)) (block-after P ℓ o is p x bs room)
