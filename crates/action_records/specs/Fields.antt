-- The fields of an action record, by SWF19's names, and their bytes.
use Rattle.std.specs.Prelude.{Bool, true, false, not, ◌&&◌, List, [], ◌∷◌, ◌++◌, ℕ, zero, suc, ◌+◌, ◌-◌, ◌*◌, ◌/◌, ◌%◌, ◌^◌, eqb, ltb, ℤ, pos, negsuc}
use Rattle.lexemes.specs.Events.{Part}

-- UB[width]: so many bits of a byte
pub record UB : Type 0 where
  pub width : ℕ
  pub value : ℕ

pub data Field : Type 0 where
  UI8 UI16 UI32 : ℕ → Field
  STRING : List ℕ → Field
  bits : List UB → Field
  -- UI16, the size of that body, 0 without one; SI16, a branch offset to that position of the level: known only when all records are
  -- laid out
  size : Part → Field
  branch : ℕ → Field
  -- an operand that no field codes: a Long number, a missing label
  uncodable : Field

pub record Layout : Type 0 where
  pub sizes : Part → ℕ
  pub offset : ℕ → ℤ

-- ---- bytes

-- k bytes, the low byte first
abbrev pub low_first : ℕ → ℕ → List ℕ
low_first zero n = []
low_first (suc k) n = n % 256 ∷ low_first k (n / 256)

-- a signed number in k bits
abbrev pub two's_complement : ℕ → ℤ → ℕ
two's_complement k (pos n) = n
two's_complement k (negsuc n) = 2 ^ k - suc n

-- bit fields fill a byte from its highest bit down
abbrev pub packed : ℕ → List UB → ℕ
packed n [] = n
packed n (b ∷ bs) = packed (n * 2 ^ b.width + b.value) bs

abbrev pub bytes_of : Layout → Field → List ℕ
bytes_of l (UI8 n) = low_first 1 n
bytes_of l (UI16 n) = low_first 2 n
bytes_of l (UI32 n) = low_first 4 n
bytes_of l (STRING w) = w ++ 0 ∷ []
bytes_of l (bits bs) = packed 0 bs ∷ []
bytes_of l (size p) = low_first 2 (l.sizes p)
bytes_of l (branch p) = low_first 2 (two's_complement 16 (l.offset p))
bytes_of l uncodable = []

abbrev pub all_bytes : Layout → List Field → List ℕ
all_bytes l [] = []
all_bytes l (f ∷ fs) = bytes_of l f ++ all_bytes l fs

-- ---- which values a field holds

abbrev pub all : {A : Type 0} → (A → Bool) → List A → Bool
all p [] = true
all p (a ∷ l) = p a && all p l

abbrev pub is_byte : ℕ → Bool
is_byte n = ltb n 256

abbrev pub is16 : ℕ → Bool
is16 n = ltb n 65536

-- sizes and offsets aside
abbrev pub holds : Field → Bool
holds (UI8 n) = is_byte n
holds (UI16 n) = is16 n
holds (UI32 n) = ltb n 4294967296
holds (STRING w) = all (λ (b : ℕ). not (eqb b 0)) w
holds (bits bs) = all (λ (b : UB). ltb b.value (2 ^ b.width)) bs
holds (size p) = true
holds (branch p) = true
holds uncodable = false

-- from -32,768 to 32,767
abbrev pub is_signed16 : ℤ → Bool
is_signed16 (pos n) = ltb n 32768
is_signed16 (negsuc n) = ltb n 32768

-- the sizes and offsets
abbrev pub holds_laid : Layout → Field → Bool
holds_laid l (UI8 n) = true
holds_laid l (UI16 n) = true
holds_laid l (UI32 n) = true
holds_laid l (STRING w) = true
holds_laid l (bits bs) = true
holds_laid l (size p) = is16 (l.sizes p)
holds_laid l (branch p) = is_signed16 (l.offset p)
holds_laid l uncodable = true
