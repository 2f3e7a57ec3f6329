-- Levels put into their table, two words for each: put together, read, and put at the front. Assumes nothing.
use mathlib.Core.Path.{◌≡◌, refl, sym, ap, ◌∙◌}
use mathlib.Core.List.{List, [], ◌∷◌, ◌++◌}
use Prim.Native.Nat.{ℕ, suc, ◌+◌, ◌*◌, ◌≤◌, ◌<◌}
use native.Mathlib.Numerals.{add-one}
use native.Mathlib.Omega.{arith}
use lib.ListN.{length, get_or, set, length-set}
use lib.Seq.{sets, set-set, set-get_or, set_comm, get_or-set_same, get_or-set_other, length-sets}
use Rattle.entries.specs.declared.Level.{Level}
use Rattle.entries.specs.Entries.{level_word, level_words, levels_words}
use Rattle.reading.specs.Tables.{front}
use Rattle.reading.proofs.Sets.{joined, get_d_before, set_before, at_front}

-- level k is v; the levels from k on are vs
abbrev pub put : List ℕ → ℕ → Level → List ℕ
put t k v = sets t (2 * k) (level_words v)

abbrev pub puts : List ℕ → ℕ → List Level → List ℕ
puts t k vs = sets t (2 * k) (levels_words vs)

-- level k stands in its two words
pub record Here (t : List ℕ) (k : ℕ) (v : Level) : Type 0 where
  pub first : get_or t (2 * k) 0 ≡ level_word v
  pub second : get_or t (2 * k + 1) 0 ≡ v.unclosed

pub words-length : (vs : List Level) → length (levels_words vs) ≡ 2 * length vs
words-length [] = refl
words-length (v ∷ vs) = omega (arith, words-length vs)

words_append : (us vs : List Level) → levels_words (us ++ vs) ≡ levels_words us ++ levels_words vs
words_append [] vs = refl
words_append (u ∷ us) vs = ap (λ l. level_word u ∷ u.unclosed ∷ l) (words_append us vs)

pub put_length : (t : List ℕ) (k : ℕ) (v : Level) → length (put t k v) ≡ length t
put_length t k v = length-sets t (2 * k) (level_words v)

pub puts-length : (t : List ℕ) (k : ℕ) (vs : List Level) → length (puts t k vs) ≡ length t
puts-length t k vs = length-sets t (2 * k) (levels_words vs)

pub puts_joined : (us : List Level) (t : List ℕ) (vs : List Level) (i j : ℕ) → j ≡ i + length us → puts (puts t i us) j vs ≡ puts t i (us ++ vs)
puts_joined us t vs i j e =
    joined (levels_words us) t (levels_words vs) (2 * i) (2 * j) (omega (arith, words-length us)) ∙ ap (sets t (2 * i)) (sym (words_append us vs))

pub put_puts : (t : List ℕ) (k : ℕ) (v : Level) (vs : List Level) → puts (put t k v) (suc k) vs ≡ puts t k (v ∷ vs)
put_puts t k v vs = joined (level_words v) t (levels_words vs) (2 * k) (2 * suc k) (omega arith)

-- put again
pub put_put : (t : List ℕ) (k : ℕ) (u v : Level) → put (put t k u) k v ≡ put t k v
put_put t k u v =
    let i = 2 * k in
    let a = level_word u in
    let b = level_word v in
    ap (λ l. set l (suc i) v.unclosed) (set_comm (set t i a) (suc i) i u.unclosed b (λ e. omega arith))
    ∙ set-set (set (set t i a) i b) (suc i) u.unclosed v.unclosed
    ∙ ap (λ l. set l (suc i) v.unclosed) (set-set t i a b)

-- a level before the others
pub put_before : (us : List Level) (t : List ℕ) (i k : ℕ) (v : Level) → k < i → put (puts t i us) k v ≡ puts (put t k v) i us
put_before us t i k v h =
    let w = levels_words us in
    ap (λ l. set l (suc (2 * k)) v.unclosed) (set_before w t (2 * i) (2 * k) (level_word v) (omega arith))
    ∙ set_before w (set t (2 * k) (level_word v)) (2 * i) (suc (2 * k)) v.unclosed (omega arith)

pub here_put : (t : List ℕ) (k : ℕ) (v : Level) → 2 * k + 2 ≤ length t → Here (put t k v) k v
here_put t k v h =
    let t' = set t (2 * k) (level_word v) in
    let l = length-set t (2 * k) (level_word v) in
    record {
      first = get_or-set_other t' (suc (2 * k)) (2 * k) v.unclosed 0 (λ e. omega arith) ∙ get_or-set_same t (2 * k) (level_word v) 0 (omega arith);
      second = ap (λ i. get_or (set t' (suc (2 * k)) v.unclosed) i 0) (add-one (2 * k)) ∙ get_or-set_same t' (suc (2 * k)) v.unclosed 0 (omega (arith, l));
    }

pub here-before : (us : List Level) (t : List ℕ) (i k : ℕ) (v : Level) → k < i → Here t k v → Here (puts t i us) k v
here-before us t i k v h e =
    let w = levels_words us in
    record {
      first = get_d_before w t (2 * i) (2 * k) (omega arith) ∙ e.first;
      second = get_d_before w t (2 * i) (2 * k + 1) (omega arith) ∙ e.second;
    }

-- putting what stands there changes nothing
pub put_same : (t : List ℕ) (k : ℕ) (v : Level) → Here t k v → put t k v ≡ t
put_same t k v e =
    ap (λ w. set (set t (2 * k) w) (suc (2 * k)) v.unclosed) (sym e.first)
    ∙ ap (λ l. set l (suc (2 * k)) v.unclosed) (set-get_or t (2 * k) 0)
    ∙ ap (set t (suc (2 * k))) (sym e.second ∙ ap (λ i. get_or t i 0) (add-one (2 * k)))
    ∙ set-get_or t (suc (2 * k)) 0

pub levels-front : (vs : List Level) (t : List ℕ) → 2 * length vs ≤ length t → puts t 0 vs ≡ front (levels_words vs) t
levels-front vs t h = at_front (levels_words vs) t (omega (arith, words-length vs))
