-- Numbers of eight bytes, the lowest byte first.
use Rattle.std.specs.Prelude.{ℕ, ◌+◌, ◌*◌, ◌/◌, ◌%◌, ◌^◌, List, [], ◌∷◌, get_or}

-- The word of four bytes and the number of eight that stand at a place.
unfoldable pub word_at : List ℕ → ℕ → ℕ
word_at bytes at =
    get_or bytes at 0 + get_or bytes (at + 1) 0 * 2 ^ 8 + get_or bytes (at + 2) 0 * 2 ^ 16 + get_or bytes (at + 3) 0 * 2 ^ 24

unfoldable pub number_at : List ℕ → ℕ → ℕ
number_at bytes at = word_at bytes at + word_at bytes (at + 4) * 2 ^ 32

-- The bytes of a number.
unfoldable pub number : ℕ → List ℕ
number n =
    (n % 2 ^ 8)
    ∷ ((n / 2 ^ 8 % 2 ^ 8)
    ∷ ((n / 2 ^ 16 % 2 ^ 8)
    ∷ ((n / 2 ^ 24 % 2 ^ 8)
    ∷ ((n / 2 ^ 32 % 2 ^ 8) ∷ ((n / 2 ^ 40 % 2 ^ 8) ∷ ((n / 2 ^ 48 % 2 ^ 8) ∷ ((n / 2 ^ 56 % 2 ^ 8) ∷ [])))))))
