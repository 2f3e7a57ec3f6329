-- A hash goes on by one byte; a bucket goes by level and name, and is one of n. Assumes nothing.
use mathlib.Core.Path.{◌≡◌, sym, ◌∙◌}
use mathlib.Core.Bool.{true}
use mathlib.Core.List.{List}
use Prim.Native.Nat.{ℕ, ◌+◌, ◌*◌, ◌/◌, ◌%◌, ◌≤◌, ◌<◌}
use native.Mathlib.Nat.{mul-le-mul}
use native.Mathlib.Numerals.{add-one}
use native.Mathlib.Omega.{arith}
use lib.ListN.{length, drop, get_or, drop_of_length-le}
use lib.Seq.{drop-cons}
use Rattle.entries.specs.declared.Label.{Label}
use Rattle.entries.specs.Entries.{label_of}
use Rattle.label_names.specs.Names.{name_of}
use Rattle.labels.specs.Labels.{is_same}
use Rattle.labels.specs.Index.{hash_on, hash_of, bucket_in, bucket_of}
use Rattle.labels.proofs.Same.{same_equal}

-- a product leaves room for a byte in 64 bits
pub product_fits : (h k : ℕ) → h < 4294967296 → k < 4294967296 → h * k ≤ 4294967295 * 4294967295
product_fits h k a b = mul-le-mul {n₁ = h} {m₁ = k} {n₂ = 4294967295} {m₂ = 4294967295} (omega arith) (omega arith)

module _ (seed from h i : ℕ) (name : List ℕ) (so : hash_on seed from name ≡ hash_on seed h (drop i name)) where
  pub hash_more : i < length name → hash_on seed from name ≡ hash_on seed ((h * seed + get_or name i 0) % 4294967296) (drop (i + 1) name)
  hash_more g = so ∙ rw (add-one i, drop-cons name i 0)

  pub hash_end : length name ≤ i → h ≡ hash_on seed from name
  hash_end g = sym (so ∙ rw (drop_of_length-le name))

-- the high bits of a number of 32 bits times n are below n
high_below : (h n : ℕ) → h < 4294967296 → 0 < n → h * n / 4294967296 < n
high_below h n a b = omega (arith, mul-le-mul {n₁ = h} {m₁ = n} {n₂ = 4294967295} {m₂ = n} (omega arith) (omega arith))

module _ (text s : List ℕ) (seed n : ℕ) where
  pub bucket-of : (w : ℕ) {l : Label} {x : List ℕ} {b : ℕ} → l ≡ label_of w → x ≡ name_of text s w → b ≡ bucket_in seed n l.level x → b ≡ bucket_of text s seed n w
  unfolding bucket_of
  bucket-of w k e f = f ∙ (λ i. bucket_in seed n (k i).level (e i))

  pub bucket-inside : (w : ℕ) → 0 < n → bucket_of text s seed n w < n
  unfolding bucket_of
  bucket-inside w h = high_below (hash_of seed (label_of w).level (name_of text s w)) n (omega arith) h

  pub same-bucket : (w v : ℕ) → is_same text s w v ≡ true → bucket_of text s seed n w ≡ bucket_of text s seed n v
  unfolding bucket_of
  same-bucket w v e =
      let k = same_equal text s w v e in
      λ i. bucket_in seed n (k.levels i) (k.names i)
