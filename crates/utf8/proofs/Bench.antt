-- Closed byte sequences and the count of their leading valid bytes, by computation. Assumes nothing.
use mathlib.Core.Path.{◌≡◌, refl}
use mathlib.Core.List.{List, [], ◌∷◌, map}
use Prim.Native.Nat.{ℕ}
use Rattle.utf8.specs.Utf8.{char_in, starts, valid_from, valid_up_to}

texts : List (List ℕ)
texts =
    []
    ∷ (65 ∷ 10 ∷ [])
    -- é, the euro sign, a face; a byte order mark is valid
    ∷ (195 ∷ 169 ∷ [])
    ∷ (226 ∷ 130 ∷ 172 ∷ [])
    ∷ (240 ∷ 159 ∷ 152 ∷ 128 ∷ [])
    ∷ (239 ∷ 187 ∷ 191 ∷ 97 ∷ [])
    -- overlong forms of two, three and four bytes
    ∷ (97 ∷ 192 ∷ 128 ∷ [])
    ∷ (224 ∷ 159 ∷ 191 ∷ [])
    ∷ (240 ∷ 143 ∷ 191 ∷ 191 ∷ [])
    -- the last before the surrogates, a surrogate, the last character, one above it
    ∷ (237 ∷ 159 ∷ 191 ∷ [])
    ∷ (237 ∷ 160 ∷ 128 ∷ [])
    ∷ (244 ∷ 143 ∷ 191 ∷ 191 ∷ [])
    ∷ (244 ∷ 144 ∷ 128 ∷ 128 ∷ [])
    -- cut off, and a tail alone
    ∷ (97 ∷ 98 ∷ 226 ∷ 130 ∷ [])
    ∷ (97 ∷ 128 ∷ [])
    ∷ []

bench : map valid_up_to texts ≡ 0 ∷ 2 ∷ 2 ∷ 3 ∷ 4 ∷ 4 ∷ 1 ∷ 0 ∷ 0 ∷ 3 ∷ 0 ∷ 4 ∷ 0 ∷ 2 ∷ 1 ∷ []
unfolding texts char_in starts valid_from
bench = refl
