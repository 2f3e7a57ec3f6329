-- An action: its record, then its blocks one after another. Assumes nothing.
use mathlib.Core.Path.{◌≡◌, refl, sym, ap, subst, ◌∙◌}
use mathlib.Core.Bool.{Bool, true, false, cond}
use mathlib.Core.List.{List, [], ◌++◌, append-nil, append_assoc}
use Prim.Native.Nat.{ℕ, suc, ◌+◌, ◌≤◌, min}
use native.Mathlib.Omega.{arith}
use native.Mathlib.Numerals.{add-one}
use lib.ListN.{length, length-append}
use lib.Seq.{sets, length-sets}
use borrow.Author.Tests.{eq-eqb}
use Rattle.entries.specs.declared.Block.{Block}
use Rattle.entries.specs.Entries.{level_in}
use Rattle.lexemes.specs.Events.{Part, body, try, catch, finally}
use Rattle.reading.specs.Tables.{part_of}
use Rattle.reading.proofs.Sets.{joined}
use Rattle.movies.specs.Movie.{Blocks, no_blocks, block}
use Rattle.movies.specs.Counts.{all_actions, actions_inside, levels_in}
use Rattle.action_records.specs.declared.Style.{Style}
use Rattle.action_records.specs.Fields.{is16}
use Rattle.level_trees.specs.Held.{is_block_of, HoldsBlocks}
use Rattle.writer.specs.declared.At.{At}
use Rattle.filling.specs.Pieces.{Piece, Tree, size, size_in, with_block, with_blocks, bytes_from, bytes_in, nobody, late, big_in}
use Rattle.filling.specs.Filling.{filled, unless}
use Rattle.writer.specs.Writing.{Tables, head_in, Told, FitAll, AskedAction, WroteAction, AskedBlock, WroteBlock}
use Rattle.writer.proofs.Sizes.{length_from, length-block, fills, least-of_four, big_in_lem}

its_own : (p : Part) (o : ℕ) → is_block_of (part_of p o) o ≡ true
its_own body o = eq-eqb o o refl
its_own try o = eq-eqb o o refl
its_own catch o = eq-eqb o o refl
its_own finally o = eq-eqb o o refl

clash : {A : Type 0} (b : Bool) → b ≡ true → b ≡ false → A
clash b e f = absurd (subst (λ (c : Bool). cond c (Unit {0}) ⊥) (sym e ∙ f) tt)

module _ (T : Tables) (y : Style) (h : Piece) (bs : Blocks Piece) (a m : ℕ) (x₀ : List ℕ) where
  -- ds are left to write; R is the record with the sizes of those before them, w their bytes
  pub record Stage (r : ℕ) (ds : Blocks Piece) (at : At) (out : List ℕ) : Type 0 where
    pub R : List ℕ
    pub w : List ℕ
    pub out-is : out ≡ sets x₀ 0 (R ++ w)
    pub byte-is : at.byte ≡ length (R ++ w)
    pub long : length R ≡ r
    pub holds : HoldsBlocks T.levels (Told T y) a ds at.action at.level
    pub fits : FitAll ds r
    pub record_is : with_blocks ds R ≡ with_blocks bs h.head
    pub bytes : w ++ bytes_in ds ≡ bytes_in bs
    pub acts : at.action + actions_inside ds ≡ suc a + actions_inside bs
    pub levs : at.level + levels_in ds ≡ m + levels_in bs
    pub sizes : at.byte + size_in ds ≡ length h.head + size_in bs
    pub late : min at.late (big_in a at.action ds) ≡ big_in a (suc a) bs
    pub some : at.late ≤ nobody
    pub onward : suc a ≤ at.action
    pub forward : m ≤ at.level

  -- some blocks are left
  abbrev pub Stages : ℕ → At → List ℕ → Type 0
  Stages r at out = (ds : Blocks Piece) × Stage r ds at out

  pub same-long : (r : ℕ) (at : At) (out : List ℕ) → Stages r at out → length out ≡ length x₀
  same-long r at out (ds, g) = ap length g.out-is ∙ length-sets x₀ 0 (g.R ++ g.w)

  module _ (place₀ : List ℕ) (k : AskedAction T y h bs a m place₀) where
    pub begins : (out : List ℕ) (r : ℕ) → out ≡ sets x₀ 0 (head_in T y a) → r ≡ length (head_in T y a)
        → Stages r (record { action = a + 1; level = m; byte = r; late = 1048576 }) out
    begins out r eo er =
        let e = er ∙ sym (ap length k.told.head) in (
          bs,
          record {
            R = h.head;
            w = [];
            out-is = eo ∙ ap (sets x₀ 0) (sym k.told.head ∙ sym (append-nil h.head));
            byte-is = e ∙ ap length (sym (append-nil h.head));
            long = sym e;
            holds = subst (λ (i : ℕ). HoldsBlocks T.levels (Told T y) a bs i m) (sym (add-one a)) k.holds;
            fits = subst (FitAll bs) (sym e) k.told.fits;
            record_is = refl;
            bytes = refl;
            acts = omega arith;
            levs = refl;
            sizes = omega arith;
            late =
                ap (λ (i : ℕ). min 1048576 (big_in a i bs)) (add-one a) ∙ omega (arith, big_in_lem a (suc a) bs);
            some = omega arith;
            onward = omega arith;
            forward = omega arith;
          },
        )

    module _ (r : ℕ) (at : At) (out : List ℕ) where
      abbrev owned : Bool
      owned = is_block_of (level_in T.levels at.level).block a

      -- the next level is a block, and what is left behind it
      pub record Next (place : List ℕ) : Type 0 where
        pub part : Part
        pub tree : Tree
        pub asked : AskedBlock T y part tree a r at place
        pub forward : m ≤ at.level
        pub after : (out' : List ℕ) (v : At) → WroteBlock part tree a r at out out' v → Stages r v out'

      stage_next : (p : Part) (x : Tree) (ds : Blocks Piece) → Stage r (block p x ds) at out → (out' : List ℕ) (v : At)
          → WroteBlock p x a r at out out' v → Stage r ds v out'
      stage_next p x ds g out' v wrote =
          let b = bytes_from x 0 x in
          let R' = with_block p (size x) g.R in
          let ea = wrote.action in
          let el = wrote.level in
          let eb = wrote.byte in
          let et = wrote.late in
          let ga = g.acts in
          let gl = g.levs in
          let gs = g.sizes in
          let gm = g.some in
          let go = g.onward in
          let gf = g.forward in
          let gb = g.byte-is in
          let lb = length_from x 0 x in
          let l₀ = length-block p (size x) g.R in
          let l₁ = length-append g.R g.w in
          let l₂ = length-append R' (g.w ++ b) in
          let l₃ = length-append g.w b in
          let holds = g.holds.1.1.1 in
          record {
            R = R';
            w = g.w ++ b;
            out-is =
                wrote.bytes
                ∙ ap (λ (l : List ℕ). filled (part_of p a) r (size x) (sets l at.byte b)) g.out-is
                ∙ ap (filled (part_of p a) r (size x))
                (joined (g.R ++ g.w) x₀ b 0 at.byte (omega arith) ∙ ap (sets x₀ 0) (append_assoc g.R g.w b))
                ∙ fills p a r (size x) g.R (g.w ++ b) x₀ g.long g.fits.0;
            byte-is = omega arith;
            long = l₀ ∙ g.long;
            holds =
                subst (λ (i : ℕ). HoldsBlocks T.levels (Told T y) a ds i v.level) (sym ea)
                (subst (HoldsBlocks T.levels (Told T y) a ds (at.action + all_actions x)) (sym el) holds);
            fits = g.fits.1;
            record_is = g.record_is;
            bytes = append_assoc g.w b (bytes_in ds) ∙ g.bytes;
            acts = omega arith;
            levs = omega arith;
            sizes = omega arith;
            late =
                ap (λ (i : ℕ). min v.late (big_in a i ds)) ea
                ∙ ap (λ (i : ℕ). min i (big_in a (at.action + all_actions x) ds)) et
                ∙ least-of_four at.late (unless (is16 (size x)) a) (late at.action x) (big_in a (at.action + all_actions x) ds)
                ∙ g.late;
            some = omega (arith, et, gm);
            onward = omega arith;
            forward = omega arith;
          }

      pub next : (place : List ℕ) → length place ≡ length place₀ → Stages r at out → owned ≡ true → Next place
      next place e (no_blocks, g) t = clash owned t g.holds
      next place e (block p x ds, g) t =
          let room = k.room in
          let few = k.few in
          let levels = k.levels in
          let low = k.low in
          let ga = g.acts in
          let gl = g.levs in
          let gs = g.sizes in
          let go = g.onward in
          let gf = g.forward in
          record {
            part = p;
            tree = x;
            asked = record {
              sound = k.sound;
              block = g.holds.0;
              count = g.holds.1.0;
              holds = g.holds.1.1.0;
              fits = g.fits.0;
              room = omega arith;
              few = omega arith;
              levels = omega arith;
              low = omega arith;
            };
            forward = gf;
            after = λ out' v wrote. (ds, stage_next p x ds g out' v wrote);
          }

      pub ends : Stages r at out → owned ≡ false → WroteAction h bs a m x₀ out at
      ends (block p x ds, g) f = clash owned (ap (λ (b : Block). is_block_of b a) g.holds.0 ∙ its_own p a) f
      ends (no_blocks, g) f =
          let ga = g.acts in
          let gl = g.levs in
          let gs = g.sizes in
          let gt = g.late in
          let gm = g.some in
          record {
            action = omega arith;
            level = omega arith;
            byte = omega arith;
            late = omega (arith, gt, gm);
            bytes =
                g.out-is ∙ ap (λ (l : List ℕ). sets x₀ 0 (l ++ g.w)) g.record_is
                ∙ ap (λ (l : List ℕ). sets x₀ 0 (with_blocks bs h.head ++ l)) (sym (append-nil g.w) ∙ g.bytes);
          }

-- the loop over an action's blocks, whatever stood where its record of r bytes now stands
abbrev pub Going : Tables → Style → (a m : ℕ) (place₀ out₀ : List ℕ) (r : ℕ) → At → (place out : List ℕ) → Type 0
Going T y a m place₀ out₀ r at place out =
    (h : Piece) (bs : Blocks Piece) → AskedAction T y h bs a m place₀ → (x₀ : List ℕ) → out₀ ≡ sets x₀ 0 (head_in T y a) → r ≡ length (head_in T y a)
    → Stages T y h bs a m x₀ r at out × (length place ≡ length place₀)
