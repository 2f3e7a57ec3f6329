-- What `put_label` does to `out`, and a turn of `merge_labels`. Assumes nothing.
use mathlib.Core.Path.{◌≡◌, refl, ap, sym, subst, ◌∙◌}
use mathlib.Core.List.{List, [], ◌∷◌, ◌++◌}
use Prim.Native.Nat.{ℕ, suc, ◌+◌, ◌-◌, ◌≤◌, ◌<◌}
use native.Mathlib.Numerals.{add-one}
use native.Mathlib.Omega.{arith}
use lib.ListN.{length, take, drop, get_or, set, length-append, length-set, take-append-drop}
use lib.Seq.{take-suc, take_at, length-take-le, get_or-take, set_split, set-append_left, append_snoc, drop-append-add, drop-drop}
use Rattle.labels.specs.Labels.{moved, first_same, placed, merged, Placed, Merged}
use Rattle.labels.specs.Index.{Chains, ChainsOf, Distinct, Indexed}
use Rattle.labels.specs.declared.Merging.{Merging}
use Rattle.labels.proofs.Same.{merged-distinct}
use Rattle.labels.proofs.Placing.{placed-found, placed_new, placed-length, merged-append, merged-length}

module _ (text s : List ℕ) where
  -- ---- one label

  module _ (w m : ℕ) (out : List ℕ) (h : m < length out) (k : ℕ) (e : k ≡ first_same text s w (take m out)) where
    front_long : length (take m out) ≡ m
    front_long = length-take-le m out (omega arith)

    pub replaced : (v : ℕ) → k < m → v ≡ moved w (get_or out k 0) → Placed text s w m out (set out k v) m
    replaced v g f =
        let front : placed text s w (take m out) ≡ set (take m out) k v =
        placed-found text s w (take m out) (omega (arith, front_long))
        ∙ ap (λ (j : ℕ). set (take m out) j (moved w (get_or (take m out) j 0))) (sym e)
        ∙ ap (λ (x : ℕ). set (take m out) k (moved w x)) (get_or-take m out k 0 g)
        ∙ ap (set (take m out) k) (sym f)
        in
        let n : length (placed text s w (take m out)) ≡ m = ap length front ∙ length-set (take m out) k v ∙ front_long in
        record {
          count = sym n;
          labels =
              ap (λ (l : List ℕ). set l k v) (sym (take-append-drop m out))
              ∙ set-append_left (take m out) (drop m out) k v (omega (arith, front_long))
              ∙ ap (λ (l : List ℕ). l ++ drop m out) (sym front)
              ∙ ap (λ (j : ℕ). placed text s w (take m out) ++ drop j out) (sym n);
        }

    pub added : m ≤ k → Placed text s w m out (set out m w) (m + 1)
    added g =
        let front : placed text s w (take m out) ≡ take m out ++ w ∷ [] = placed_new text s w (take m out) (omega (arith, front_long)) in
        let n : length (placed text s w (take m out)) ≡ suc m = omega (arith, ap length front, length-append (take m out) (w ∷ []), front_long) in
        record {
          count = omega arith;
          labels =
              set_split out m w h ∙ sym (append_snoc (take m out) w (drop (suc m) out))
              ∙ ap (λ (l : List ℕ). l ++ drop (suc m) out) (sym front)
              ∙ ap (λ (j : ℕ). placed text s w (take m out) ++ drop j out) (sym n);
        }

  -- ---- a turn

  past_front : (a y : List ℕ) (n : ℕ) → length a ≤ n → drop n (a ++ drop (length a) y) ≡ drop n y
  past_front a y n h =
      let e : n ≡ length a + (n - length a) = omega arith in
      ap (λ (j : ℕ). drop j (a ++ drop (length a) y)) e
      ∙ drop-append-add a (drop (length a) y) (n - length a)
      ∙ drop-drop (n - length a) (length a) y
      ∙ ap (λ (j : ℕ). drop j y) (sym e)

  module _ (words old out : List ℕ) (m i : ℕ) (a : Merged text s (take i words) old out m) (h : i < length words) where
    few : m ≤ i
    few = omega (arith, a.count, merged-length text s (take i words), length-take-le i words (omega arith))

    front : take m out ≡ merged text s [] (take i words)
    front = let L = merged text s [] (take i words) in ap (take m) a.labels ∙ take_at L (drop (length L) old) m (sym a.count)

    distinct : Distinct text s (take m out)
    distinct = subst (Distinct text s) (sym front) (merged-distinct text s (take i words))

    again : (new : List ℕ) (r : ℕ) → Placed text s (get_or words i 0) m out new r → Merged text s (take (i + 1) words) old new r
    again new r p =
        let w = get_or words i 0 in
        let L = merged text s [] (take i words) in
        let more : placed text s w (take m out) ≡ merged text s [] (take (i + 1) words) =
        ap (placed text s w) front
        ∙ sym (merged-append text s [] (take i words) (w ∷ []))
        ∙ ap (merged text s []) (sym (take-suc words i 0 h) ∙ ap (λ (j : ℕ). take j words) (sym (add-one i)))
        in
        let P = placed text s w (take m out) in
        let n : length L ≤ length P = subst (λ (l : List ℕ). length l ≤ length P) front (placed-length text s w (take m out)).low in
        let rest : drop (length P) out ≡ drop (length P) old = ap (drop (length P)) a.labels ∙ past_front L old (length P) n in
        record {
          count = p.count ∙ ap length more;
          labels = p.labels ∙ ap (λ (l : List ℕ). P ++ l) rest ∙ ap (λ (l : List ℕ). l ++ drop (length l) old) more;
        }

-- ---- turns of `merge_labels`: after i of n words, with n places for chains

pub record Going (text s words : List ℕ) (n : ℕ) (old out chains : List ℕ) (t : Merging) (i : ℕ) : Type 0 where
  pub inside : i ≤ n
  pub out-long : length out ≡ length old
  pub chains-long : length chains ≡ n
  pub labels : Merged text s (take i words) old out t.labels
  pub linked : ChainsOf text s t.seed (take t.labels out) chains

module _ (text s words : List ℕ) (n : ℕ) (old chains : List ℕ) where
  pub begins : (seed left : ℕ) → length chains ≡ n → Chains [] chains → Going text s words n old old chains (record { labels = 0; seed = seed; left = left }) 0
  begins seed left h c = record { inside = omega arith; out-long = refl; chains-long = h; labels = record { count = refl; labels = refl }; linked = c }

  module _ (out : List ℕ) (t : Merging) (i : ℕ) (g : Going text s words n old out chains t i) where
    pub spread_out : (chains' : List ℕ) (r : Merging) → length chains' ≡ length chains → r.labels ≡ t.labels
        → ChainsOf text s r.seed (take r.labels out) chains' → Going text s words n old out chains' r i
    spread_out chains' r f e c =
        record {
          inside = g.inside;
          out-long = g.out-long;
          chains-long = f ∙ g.chains-long;
          labels = rw e g.labels;
          linked = c;
        }

    module _ (hw : n ≤ length words) (h : i < n) where
      at_most : t.labels ≤ i
      at_most = few text s words old out t.labels i g.labels (omega arith)

      pub asks : n ≤ length old → n < 4294967296 → (t.labels < length out) × Indexed text s t.seed t.labels out chains
      asks ho hn = (
        omega (arith, at_most, g.out-long),
        record {
          inside = omega (arith, at_most, g.out-long);
          room = omega (arith, at_most, g.chains-long);
          few = omega (arith, g.chains-long);
          distinct = distinct text s words old out t.labels i g.labels (omega arith);
          chains = g.linked;
        },
      )

      pub goes_on : (new chains' : List ℕ) (r : Merging) → length new ≡ length out → length chains' ≡ length chains
          → Placed text s (get_or words i 0) t.labels out new r.labels → ChainsOf text s r.seed (take r.labels new) chains'
          → Going text s words n old new chains' r (i + 1)
      goes_on new chains' r e f p c =
          record {
            inside = omega arith;
            out-long = e ∙ g.out-long;
            chains-long = f ∙ g.chains-long;
            labels = again text s words old out t.labels i g.labels (omega arith) new r.labels p;
            linked = c;
          }
