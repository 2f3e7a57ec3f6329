-- One label more in the chains of an index. Assumes nothing.
use mathlib.Core.Path.{◌≡◌, ap, sym, ◌∙◌}
use mathlib.Core.List.{List, [], ◌∷◌, ◌++◌}
use Prim.Native.Nat.{ℕ, suc, ◌+◌, ◌*◌, ◌/◌, ◌%◌, ◌≤◌, ◌<◌}
use native.Mathlib.Decide.{ℕ_discrete}
use native.Mathlib.Omega.{arith}
use lib.ListN.{length, get_or, set, length-set, length-append, get_or-append}
use lib.Seq.{get_or-set_same, get_or-set_other, get_or-append_seam}
use Rattle.labels.specs.Index.{head_of, next_of, with_next, with_head, linked, Last, Chains}

-- ---- two numbers at a place

module _ (index : List ℕ) (i c : ℕ) (h : i < length index) where
  pub head-there : c < 4294967296 → head_of (with_head index i c) i ≡ c
  head-there g = omega (arith, get_or-set_same index i (get_or index i 0 / 4294967296 * 4294967296 + c) 0 h)

  pub next-there : next_of (with_next index i c) i ≡ c
  next-there = omega (arith, get_or-set_same index i (get_or index i 0 % 4294967296 + c * 4294967296) 0 h)

  pub head_kept : (k : ℕ) → head_of (with_next index i c) k ≡ head_of index k
  head_kept k = by (ℕ_discrete k i)
    where
      v : ℕ
      v = get_or index i 0 % 4294967296 + c * 4294967296

      by : Dec (k ≡ i) → head_of (set index i v) k ≡ head_of index k
      by (yes e) = rw e (omega (arith, get_or-set_same index i v 0 h))
      by (no d) = ap (λ (q : ℕ). q % 4294967296) (get_or-set_other index i k v 0 d)

  pub next_kept : c < 4294967296 → (k : ℕ) → next_of (with_head index i c) k ≡ next_of index k
  next_kept g k = by (ℕ_discrete k i)
    where
      v : ℕ
      v = get_or index i 0 / 4294967296 * 4294967296 + c

      by : Dec (k ≡ i) → next_of (set index i v) k ≡ next_of index k
      by (yes e) = rw e (omega (arith, get_or-set_same index i v 0 h))
      by (no d) = ap (λ (q : ℕ). q / 4294967296) (get_or-set_other index i k v 0 d)

  pub head_other : (k : ℕ) → (k ≡ i → ⊥) → head_of (with_head index i c) k ≡ head_of index k
  head_other k d = ap (λ (q : ℕ). q % 4294967296) (get_or-set_other index i k _ 0 d)

  pub next_other : (k : ℕ) → (k ≡ i → ⊥) → next_of (with_next index i c) k ≡ next_of index k
  next_other k d = ap (λ (q : ℕ). q / 4294967296) (get_or-set_other index i k _ 0 d)

pub linked_long : (index : List ℕ) (b j : ℕ) → length (linked index b j) ≡ length index
linked_long index b j = length-set (with_next index j (head_of index b)) b _ ∙ length-set index j _

-- ---- chains

pub no_chains : (index : List ℕ) → ((k : ℕ) → k < length index → get_or index k 0 ≡ 0) → Chains [] index
no_chains index z =
    record {
      heads = λ b h. record { inside = omega (arith, z b h); there = λ i e. absurd (omega (arith, z b h)); none_behind = λ i g k. absurd (omega arith) };
      nexts = λ j h. absurd (omega arith);
    }

module _ (bs : List ℕ) (b : ℕ) where
  behind : (m k c : ℕ) → m ≤ length bs → Last bs m k c → Last (bs ++ b ∷ []) m k c
  behind m k c h l =
      record {
        inside = l.inside;
        there = λ i e. get_or-append bs (b ∷ []) 0 i (omega (arith, l.inside)) ∙ l.there i e;
        none_behind = λ i g j e. l.none_behind i g j (sym (get_or-append bs (b ∷ []) 0 i (omega arith)) ∙ e);
      }

  here : get_or (bs ++ b ∷ []) (length bs) 0 ≡ b
  here = get_or-append_seam bs b [] 0

  longer : length (bs ++ b ∷ []) ≡ suc (length bs)
  longer = length-append bs (b ∷ []) ∙ (omega arith)

  module _ (index : List ℕ) (few : length index < 4294967296) (hb : b < length index) (hj : length bs < length index) (a : Chains bs index) where
    abbrev m : ℕ
    m = length bs

    abbrev inner : List ℕ
    inner = with_next index m (head_of index b)

    abbrev new : List ℕ
    new = linked index b m

    inner-long : length inner ≡ length index
    inner-long = length-set index m _

    head_new : head_of new b ≡ suc m
    head_new = head-there inner b (m + 1) (omega (arith, inner-long)) (omega arith) ∙ (omega arith)

    head_old : (k : ℕ) → (k ≡ b → ⊥) → head_of new k ≡ head_of index k
    head_old k d = head_other inner b (m + 1) (omega (arith, inner-long)) k d ∙ head_kept index m (head_of index b) hj k

    next_new : next_of new m ≡ head_of index b
    next_new = next_kept inner b (m + 1) (omega (arith, inner-long)) (omega arith) m ∙ next-there index m (head_of index b) hj

    next_old : (k : ℕ) → (k ≡ m → ⊥) → next_of new k ≡ next_of index k
    next_old k d = next_kept inner b (m + 1) (omega (arith, inner-long)) (omega arith) k ∙ next_other index m (head_of index b) hj k d

    head_at_lem : (k : ℕ) → k < length index → Dec (k ≡ b) → Last (bs ++ b ∷ []) (length (bs ++ b ∷ [])) k (head_of new k)
    head_at_lem k h (yes e) =
        rw (e, head_new, longer)
        (record {
          inside = omega arith;
          there = λ i f. let g : i ≡ m = omega arith in rw g here;
          none_behind = λ i f g. absurd (omega arith);
        })
    head_at_lem k h (no d) =
        let l = behind m k (head_of index k) (omega arith) (a.heads k h) in
        rw (head_old k d, longer)
        (record {
          inside = omega (arith, l.inside);
          there = l.there;
          none_behind = λ i f g e. at i f g e (ℕ_discrete i m);
        })
      where
        at : (i : ℕ) → head_of index k ≤ i → i < suc m → get_or (bs ++ b ∷ []) i 0 ≡ k → Dec (i ≡ m) → ⊥
        at i f g e (yes q) = d (sym e ∙ ap (λ (j : ℕ). get_or (bs ++ b ∷ []) j 0) q ∙ here)
        at i f g e (no q) = (behind m k (head_of index k) (omega arith) (a.heads k h)).none_behind i f (omega arith) e

    next-at : (k : ℕ) → k < suc m → Dec (k ≡ m) → Last (bs ++ b ∷ []) k (get_or (bs ++ b ∷ []) k 0) (next_of new k)
    next-at k h (yes e) = rw (e, here, next_new) (behind m b (head_of index b) (omega arith) (a.heads b hb))
    next-at k h (no d) =
        rw (next_old k d, get_or-append bs (b ∷ []) 0 k (omega arith))
        (behind k (get_or bs k 0) (next_of index k) (omega arith) (a.nexts k (omega arith)))

    pub chains-more : Chains (bs ++ b ∷ []) (linked index b (length bs))
    chains-more =
        record {
          heads = λ k h. head_at_lem k (rw (linked_long index b m) at h) (ℕ_discrete k b);
          nexts = λ k h. next-at k (omega (arith, longer)) (ℕ_discrete k m);
        }
