-- The loop over a level's own actions. Assumes nothing.
use mathlib.Core.Path.{◌≡◌, refl, sym, ap, subst, ◌∙◌}
use mathlib.Core.List.{List, ◌++◌}
use Prim.Native.Nat.{ℕ, zero, suc, ◌+◌, ◌-◌, ◌*◌, ◌≤◌, ◌<◌, min}
use native.Mathlib.Omega.{arith}
use native.Mathlib.Numerals.{add-one}
use native.Mathlib.Nat.{eq-or-lt_of_le}
use mathlib.Core.Logic.{◌⊎◌, inl, inr}
use lib.ListN.{length, get_or, set, take, drop, length-set, length-append, length-drop}
use lib.Seq.{sets, get_or-set_same, get_or-set_other}
use Rattle.laws.proofs.Lists.{to_the_end}
use Rattle.reading.proofs.Sets.{joined}
use Rattle.movies.specs.Movie.{done, action}
use Rattle.movies.specs.Counts.{all_actions, levels_of}
use Rattle.action_records.specs.declared.Style.{Style}
use Rattle.level_trees.specs.Held.{HoldsBlocks}
use Rattle.writer.specs.declared.At.{At}
use Rattle.filling.specs.Pieces.{Tree, size, start, with_blocks, bytes_in, far_from, big_in}
use Rattle.filling.specs.Filling.{aimed_to, far_to}
use Rattle.writer.specs.Writing.{Tables, Told, AskedLevel, WroteLevel, AskedAction, ActionGiven, ActionWritten}
use Rattle.filling.proofs.Stores.{lent_back, before-part}
use Rattle.writer.proofs.Sizes.{length-blocks, length_in}
use Rattle.writer.proofs.Levels.{before, levels_before, unaimed, big_to, at_first, at_last, last_unaimed, own_in, Own, own}
use Rattle.writer.proofs.Jumps.{place_of, all-aimed, all_far}

-- after k of the n own actions of level l
pub record Progress (l : Tree) (n a m : ℕ) (place₀ out₀ : List ℕ) (act lev byte late k : ℕ) (place out : List ℕ) : Type 0 where
  pub within : k ≤ n
  pub action : act ≡ a + before l k
  pub level : lev ≡ m + levels_before l k
  pub reached : byte ≡ start l k
  pub lowest : late ≡ big_to a l k
  pub bytes : out ≡ sets out₀ 0 (unaimed l k)
  pub long : length place ≡ length place₀
  pub places : (j : ℕ) → j < k → get_or place j 0 ≡ place_of a l j

pub inside : (x : Tree) (k : ℕ) → (start x k ≤ size x) × ((before x k ≤ all_actions x) × (levels_before x k ≤ levels_of x))
inside done k = (omega arith, (omega arith, omega arith))
inside (action h bs x) zero = (omega arith, (omega arith, omega arith))
inside (action h bs x) (suc k) =
    let o = inside x k in
    let s = o.0 in
    let b = o.1.0 in
    let l = o.1.1 in
    (omega arith, (omega arith, omega arith))

length_unaimed : (x : Tree) (k : ℕ) → length (unaimed x k) ≡ start x k
length_unaimed done k = refl
length_unaimed (action h bs x) zero = refl
length_unaimed (action h bs x) (suc k) =
    let i = length-append (with_blocks bs h.head ++ bytes_in bs) (unaimed x k) in
    let j = length-append (with_blocks bs h.head) (bytes_in bs) in
    let e = length-blocks bs h.head in
    let f = length_in bs in
    let g = length_unaimed x k in
    omega arith

module _ (T : Tables) (y : Style) (l : Tree) (n a m : ℕ) (place₀ out₀ : List ℕ) (q : AskedLevel T y l n a m place₀) where
  pub level-starts : Progress l n a m place₀ out₀ a m 0 1048576 0 place₀ out₀
  level-starts =
      let z = at_first l a in
      let b = z.1.0 in
      let v = z.1.1.0 in
      record {
        within = omega arith;
        action = omega arith;
        level = omega arith;
        reached = sym z.0;
        lowest = sym z.1.1.1.1;
        bytes = ap (sets out₀ 0) (sym z.1.1.1.0);
        long = refl;
        places = λ j h. absurd (omega arith);
      }

  module _ (act lev byte late k : ℕ) (place out : List ℕ) (g : Progress l n a m place₀ out₀ act lev byte late k place out) where
    pub low : (byte < 1099511627776) × (act < 1048576)
    low =
        let i = inside l k in
        let i₀ = i.0 in
        let i₁ = i.1.0 in
        let qs = q.low in
        let qf = q.few in
        let r = g.reached in
        let e = g.action in
        (omega arith, omega arith)

    pub roomy : n + 1 ≤ length place
    roomy = let r = q.room in let c = q.count in let i = own_in l in let e = g.long in omega arith

    pub forward : (m ≤ lev) × (lev < 1048576)
    forward =
        let i = (inside l k).1.1 in
        let e = g.level in
        let r = q.levels in
        (omega arith, omega arith)

    -- the place of position k, stored
    marked_long : (marked : List ℕ) → marked ≡ set place k (byte * 1048576 + act) → length marked ≡ length place
    marked_long marked e = ap length e ∙ length-set place k (byte * 1048576 + act)

    marks : (marked : List ℕ) → marked ≡ set place k (byte * 1048576 + act) → (j : ℕ) → j ≤ k → k < length place → get_or marked j 0 ≡ place_of a l j
    marks marked e j h r = ap (λ (x : List ℕ). get_or x j 0) e ∙ by (eq-or-lt_of_le {n = j} {m = k} h)
      where
        here : get_or (set place k (byte * 1048576 + act)) k 0 ≡ place_of a l k
        here =
            get_or-set_same place k (byte * 1048576 + act) 0 r
            ∙ ap (λ (i : ℕ). i * 1048576 + act) g.reached ∙ ap (λ (i : ℕ). start l k * 1048576 + i) g.action

        by : (j ≡ k) ⊎ (j < k) → get_or (set place k (byte * 1048576 + act)) j 0 ≡ place_of a l j
        by (inl e) = subst (λ (i : ℕ). get_or (set place k (byte * 1048576 + act)) i 0 ≡ place_of a l i) (sym e) here
        by (inr lt) = get_or-set_other place k j (byte * 1048576 + act) 0 (λ e. omega (arith, e, lt)) ∙ g.places j lt

    module _ (go : k < n) (marked : List ℕ) (em : marked ≡ set place k (byte * 1048576 + act)) where
      turn : Own T y l 0 a m l k
      turn = own T y l 0 a m l k q.holds (omega (arith, go, q.count))

      abbrev pub lent : List ℕ
      lent = take (length marked - (n + 1)) (drop (n + 1) marked)

      asked : AskedAction T y turn.piece turn.blocks act lev lent
      asked =
          let o = turn in
          let lo = ap length (to_the_end marked (n + 1)) ∙ length-drop (n + 1) marked in
          let ml = marked_long marked em in
          let gl = g.long in
          let qr = q.room in
          let qf = q.few in
          let qv = q.levels in
          let qs = q.low in
          let qc = q.count in
          let s = o.starts in
          let ac = o.acts in
          let le = o.levs in
          let o₀ = o.room in
          let o₁ = o.acts_in in
          let o₂ = o.levs_in in
          let o₃ = o.in_size in
          let ea = g.action in
          let el = g.level in
          record {
            sound = q.sound;
            told = subst (λ (i : ℕ). Told T y i o.piece o.blocks) (sym ea) o.told;
            holds =
                subst (λ (i : ℕ). HoldsBlocks T.levels (Told T y) i o.blocks (suc i) lev) (sym ea)
                (subst (HoldsBlocks T.levels (Told T y) (a + before l k) o.blocks (suc (a + before l k))) (sym el) o.holds);
            room = omega arith;
            few = omega arith;
            levels = omega arith;
            low = omega arith;
          }

      pub action-given : ActionGiven T y act lev lent
      action-given = (turn.piece, (turn.blocks, asked))

      module _ (s : ℕ) (es : s ≡ min byte (length out)) (z : List ℕ) (w : At)
          (wrote : ActionWritten T y act lev lent (take (length out - s) (drop s out)) z w) where
        pub sum_low : byte + w.byte < 1099511627776
        sum_low =
            let v = (wrote turn.piece turn.blocks asked).byte in
            let r = g.reached in
            let s = turn.starts in
            let i = turn.in_size in
            let qs = q.low in
            omega arith

        pub goes : (u : ℕ) → u ≡ min late w.late → (z' : List ℕ)
            → let place' = take (n + 1) marked ++ (z' ++ drop (length marked - (n + 1)) (drop (n + 1) marked)) in
            length place' ≡ length marked
            → Progress l n a m place₀ out₀ w.action w.level (byte + w.byte) u (k + 1) place' (take s out ++ (z ++ drop (length out - s) (drop s out)))
        goes u eu z' el =
            let o = turn in
            let v = wrote o.piece o.blocks asked in
            let va = v.action in
            let vl = v.level in
            let vb = v.byte in
            let ga = g.action in
            let gl = g.level in
            let gb = g.reached in
            let os = o.starts in
            let oa = o.acts in
            let ol = o.levs in
            let e₀ = ap (before l) (add-one k) in
            let e₁ = ap (levels_before l) (add-one k) in
            let e₂ = ap (start l) (add-one k) in
            let r = roomy in
            let ml = marked_long marked em in
            let lu = length_unaimed l k in
            let whole = with_blocks o.blocks o.piece.head ++ bytes_in o.blocks in
            record {
              within = omega arith;
              action = omega arith;
              level = omega arith;
              reached = omega arith;
              lowest =
                  eu ∙ ap (λ (i : ℕ). min i w.late) g.lowest
                  ∙ ap (min (big_to a l k)) (v.late ∙ ap (λ (i : ℕ). big_in i (suc i) o.blocks) ga)
                  ∙ sym o.big ∙ sym (ap (big_to a l) (add-one k));
              bytes =
                  lent_back out z whole byte s es v.bytes ∙ ap (λ (x : List ℕ). sets x byte whole) g.bytes
                  ∙ joined (unaimed l k) out₀ whole 0 byte (omega arith)
                  ∙ ap (sets out₀ 0) (sym o.bytes ∙ sym (ap (unaimed l) (add-one k)));
              long = el ∙ marked_long marked em ∙ g.long;
              places =
                  λ j h.
                  before-part marked z' (n + 1) j (omega arith) (omega arith)
                  ∙ marks marked em j (omega arith) (omega arith);
            }

    module _ (stop : n ≤ k) (ended : List ℕ) (em : ended ≡ set place n (byte * 1048576 + act)) where
      last : k ≡ n
      last = let h = g.within in omega arith

      placed : (j : ℕ) → j ≤ n → get_or ended j 0 ≡ place_of a l j
      placed j h =
          let r = roomy in
          marks ended (em ∙ ap (λ (i : ℕ). set place i (byte * 1048576 + act)) (sym last)) j (omega (arith, h, last)) (omega (arith, r, last))

      pub ends : (far u : ℕ) (out' : List ℕ) → far ≡ far_to T.aims ended n n → out' ≡ aimed_to T.aims ended n n out → u ≡ min far late
          → WroteLevel l a m out₀ out' (record { action = act; level = lev; byte = byte; late = u })
      ends far u out' ef eo eu =
          let c = q.count in
          let o = at_last l a k (omega (arith, stop, c)) in
          let low : (j : ℕ) → j ≤ n → before l j ≤ all_actions l = λ j h. (inside l j).1.0 in
          record {
            action = g.action ∙ ap (λ (i : ℕ). a + i) o.1.0;
            level = g.level ∙ ap (λ (i : ℕ). m + i) o.1.1.0;
            byte = g.reached ∙ o.0;
            late =
                eu ∙ ap (λ (i : ℕ). min i late) (ef ∙ all_far T y l n a m ended q.holds c q.few low placed out₀)
                ∙ ap (min (far_from l 0 a l)) (g.lowest ∙ o.1.1.1);
            bytes =
                eo ∙ ap (aimed_to T.aims ended n n) (g.bytes ∙ ap (sets out₀ 0) (last_unaimed l 0 l k (omega (arith, stop, c))))
                ∙ all-aimed T y l n a m ended q.holds c q.few low placed out₀;
          }
