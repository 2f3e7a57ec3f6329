-- A walk along a chain finds what the plain search finds, and `put_label` keeps the chains. Assumes nothing.
use mathlib.Core.Path.{◌≡◌, refl, ap, sym, subst, ◌∙◌}
use mathlib.Core.Bool.{Bool, true, false}
use mathlib.Core.List.{List, [], ◌∷◌, ◌++◌, map, map-append}
use Prim.Native.Nat.{ℕ, zero, suc, ◌+◌, ◌≤◌, ◌<◌}
use native.Mathlib.Decide.{ℕ_discrete}
use native.Mathlib.Numerals.{add-one}
use native.Mathlib.Omega.{arith}
use lib.Dec.{ltb}
use borrow.Author.Tests.{ltb-true, ltb-false}
use lib.ListN.{length, take, get_or, set, length-map}
use lib.Seq.{length-take-le, get_or-take, take-suc, take-suc-set, take-set-lt, map-set_same}
use Rattle.labels.specs.Labels.{is_same, moved, first_same}
use Rattle.labels.specs.Index.{bucket_of, head_of, next_of, linked, Last, Chains, ChainsOf, Distinct, Indexed}
use Rattle.labels.proofs.Same.{not_both, moved_equal, equal_same, found_first, none_found}
use Rattle.labels.proofs.Hashing.{bucket-inside, same-bucket}
use Rattle.labels.proofs.Linking.{linked_long, chains-more}

get_d_map : (f : ℕ → ℕ) (l : List ℕ) (i : ℕ) → i < length l → get_or (map f l) i 0 ≡ f (get_or l i 0)
get_d_map f [] i h = absurd (omega arith)
get_d_map f (x ∷ l) zero h = refl
get_d_map f (x ∷ l) (suc i) h = get_d_map f l i (omega arith)

-- a walk that c leads on: the labels from c on are passed, and the next one is of the bucket
pub record Past (text s : List ℕ) (seed n m : ℕ) (out : List ℕ) (w c : ℕ) : Type 0 where
  pub inside : c ≤ m
  pub there : (i : ℕ) → c ≡ suc i → bucket_of text s seed n (get_or out i 0) ≡ bucket_of text s seed n w
  pub none_behind : (i : ℕ) → c ≤ i → i < m → is_same text s w (get_or out i 0) ≡ true → ⊥

module _ (text s : List ℕ) (seed m : ℕ) (out index : List ℕ) (a : Indexed text s seed m out index) (w : ℕ) where
  abbrev n : ℕ
  n = length index

  abbrev f : ℕ → ℕ
  f = bucket_of text s seed n

  abbrev bs : List ℕ
  bs = map f (take m out)

  front_long : length (take m out) ≡ m
  front_long = length-take-le m out a.inside

  buckets_long : length bs ≡ m
  buckets_long = length-map (take m out) f ∙ front_long

  bucket-at : (i : ℕ) → i < m → get_or bs i 0 ≡ f (get_or out i 0)
  bucket-at i h = get_d_map f (take m out) i (omega (arith, front_long)) ∙ ap f (get_or-take m out i 0 h)

  module _ (b : ℕ) (e : b ≡ f w) where
    pub bucket-listed : b < n
    bucket-listed = rw e (bucket-inside text s seed n w (omega (arith, a.room)))

    pub walk_begins : Past text s seed n m out w (head_of index b)
    walk_begins =
        let l : Last bs m b (head_of index b) = subst (λ (k : ℕ). Last bs k b (head_of index b)) buckets_long (a.chains.heads b bucket-listed) in
        record {
          inside = l.inside;
          there = λ i q. sym (bucket-at i (omega (arith, l.inside))) ∙ l.there i q ∙ e;
          none_behind = λ i g h q. l.none_behind i g h (bucket-at i h ∙ sym (same-bucket text s seed n w (get_or out i 0) q) ∙ sym e);
        }

  module _ (c : ℕ) (p : Past text s seed n m out w c) where
    module _ (j : ℕ) (e : c ≡ suc j) where
      here : j < m
      here = omega (arith, p.inside)

      step : Last bs j (f w) (next_of index j)
      step = subst (λ (k : ℕ). Last bs j k (next_of index j)) (bucket-at j here ∙ p.there j e) (a.chains.nexts j (omega (arith, buckets_long, here)))

      pub next_less : next_of index j < c
      next_less = omega (arith, step.inside)

      pub walk_on : false ≡ is_same text s w (get_or out j 0) → Past text s seed n m out w (next_of index j)
      walk_on d =
          record {
            inside = omega (arith, step.inside, here);
            there = λ i q. sym (bucket-at i (omega (arith, step.inside, here))) ∙ step.there i q;
            none_behind = λ i g h t. at i g h t (ltb i j) refl (ℕ_discrete i j);
          }
        where
          at : (i : ℕ) → next_of index j ≤ i → i < m → is_same text s w (get_or out i 0) ≡ true → (b : Bool) → ltb i j ≡ b → Dec (i ≡ j) → ⊥
          at i g h t true q z = step.none_behind i g (ltb-true i j q) (bucket-at i h ∙ sym (same-bucket text s seed n w (get_or out i 0) t))
          at i g h t false q (yes z) = not_both text s t (ap (λ (k : ℕ). is_same text s w (get_or out k 0)) z ∙ sym d)
          at i g h t false q (no z) = p.none_behind i (omega (arith, ltb-false i j q)) h t

      pub walk_found : true ≡ is_same text s w (get_or out j 0) → j ≡ first_same text s w (take m out)
      walk_found t =
          found_first text s w (take m out) j a.distinct (omega (arith, front_long, here))
          (ap (is_same text s w) (get_or-take m out j 0 here) ∙ sym t)

    pub walk_ends : c ≤ 0 → m ≡ first_same text s w (take m out)
    walk_ends z =
        sym front_long
        ∙ none_found text s w (take m out)
        (λ i h t. p.none_behind i (omega arith) (omega (arith, front_long)) (sym (ap (is_same text s w) (get_or-take m out i 0 (omega (arith, front_long)))) ∙ t))

  -- ---- a label written again

  pub chains_kept : (k v : ℕ) → k < m → v ≡ moved w (get_or out k 0) → ChainsOf text s seed (take m (set out k v)) index
  chains_kept k v h e =
      let same : f v ≡ f (get_or (take m out) k 0) =
      ap f e ∙ same-bucket text s seed n _ _ (equal_same text s _ _ (moved_equal text s w (get_or out k 0))) ∙ ap f (sym (get_or-take m out k 0 h))
      in
      let kept : map f (take m (set out k v)) ≡ bs = ap (map f) (take-set-lt m out k v h) ∙ map-set_same f (take m out) k v 0 same in
      subst (λ (l : List ℕ). Chains l index) (sym kept) a.chains

-- ---- the chains of the same labels anew

pub indexed_anew : (text s : List ℕ) (seed m : ℕ) (out index : List ℕ) → Indexed text s seed m out index → (seed' m' : ℕ) (index' : List ℕ) → length index' ≡ length index → m' ≡ m
    → ChainsOf text s seed' (take m' out) index' → Indexed text s seed' m' out index'
indexed_anew text s seed m out index a seed' m' index' long e c =
    record {
      inside = omega (arith, a.inside, e);
      room = omega (arith, a.room, e, long);
      few = omega (arith, a.few, long);
      distinct = subst (λ (k : ℕ). Distinct text s (take k out)) (sym e) a.distinct;
      chains = c;
    }

-- ---- one label more

module _ (text s : List ℕ) (seed : ℕ) (l index : List ℕ) (few : length index < 4294967296) (room : length l < length index) (a : ChainsOf text s seed l index) where
  more : (w b : ℕ) (new : List ℕ) → b ≡ bucket_of text s seed (length index) w → new ≡ linked index b (length l) → ChainsOf text s seed (l ++ w ∷ []) new
  more w b new e z =
      let f = bucket_of text s seed (length index) in
      let bs = map f l in
      let long : length bs ≡ length l = length-map l f in
      let c : Chains (bs ++ f w ∷ []) (linked index (f w) (length bs)) =
      chains-more bs (f w) index few (bucket-inside text s seed (length index) w (omega arith)) (omega arith) a
      in
      rw (z, linked_long index b (length l), map-append f l (w ∷ []), e) (subst (λ (j : ℕ). Chains (bs ++ f w ∷ []) (linked index (f w) j)) long c)

module _ (text s : List ℕ) (seed : ℕ) (out : List ℕ) (j : ℕ) (index : List ℕ) (h : j < length out) (few : length index < 4294967296) (room : j < length index) (a : ChainsOf text s seed (take j out) index) (b : ℕ) (new : List ℕ) (z : new ≡ linked index b j) where
  long : length (take j out) ≡ j
  long = length-take-le j out (omega arith)

  after : (w : ℕ) (l : List ℕ) → b ≡ bucket_of text s seed (length index) w → l ≡ take j out ++ w ∷ [] → ChainsOf text s seed l new
  after w l e q =
      rw q (more text s seed (take j out) index few (omega (arith, long)) a w b new e (z ∙ ap (linked index b) (sym long)))

  -- the next of a table, and one that is put behind the others
  pub chains-next : b ≡ bucket_of text s seed (length index) (get_or out j 0) → ChainsOf text s seed (take (j + 1) out) new
  chains-next e = after (get_or out j 0) (take (j + 1) out) e (rw add-one (take-suc out j 0 h))

  pub chains_added : (w : ℕ) → b ≡ bucket_of text s seed (length index) w → ChainsOf text s seed (take (j + 1) (set out j w)) new
  chains_added w e = after w (take (j + 1) (set out j w)) e (rw add-one (take-suc-set out j w h))
