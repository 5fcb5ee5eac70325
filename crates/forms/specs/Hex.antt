-- Hexadecimal strings: written, and read.
use Rattle.std.specs.Prelude.{ℕ, ◌+◌, ◌-◌, ◌*◌, ◌/◌, ◌%◌, Bool, true, false, cond, ◌&&◌, List, [], ◌∷◌, ◌++◌, ltb, eqb, length, get_or, take, drop}
use Prim.Native.Char.{code}
use Rattle.forms.specs.Bytes.{text, front, is_digit, is_hex_digit}

-- A digit of a number below 16, in lower case.
abbrev pub hex_digit : ℕ → ℕ
hex_digit d = cond (ltb d 10) (code "0" + d) (code "a" + (d - 10))

-- Two digits a byte.
abbrev pub hex_digits : List ℕ → List ℕ
hex_digits [] = []
hex_digits (b ∷ bytes) = hex_digit (b / 16) ∷ (hex_digit (b % 16) ∷ hex_digits bytes)

-- Bytes as a hexadecimal string: `-` for none.
abbrev pub hex : List ℕ → List ℕ
hex [] = text "-"
hex (b ∷ bytes) = hex_digits (b ∷ bytes)

-- Every number is a byte.
abbrev pub are_bytes : List ℕ → Bool
are_bytes [] = true
are_bytes (b ∷ bytes) = ltb b 256 && are_bytes bytes

-- Whether bytes are a hexadecimal string: exactly where they are `hex` of some bytes (`hex_exactly`).
unfoldable pub is_hex : List ℕ → Bool
is_hex s =
    cond (eqb (length s) 0) false
    (cond (eqb (length s) 1) (eqb (get_or s 0 0) (code "-"))
    (eqb (length s % 2) 0 && eqb (front is_hex_digit s) (length s)))

-- What a digit says; of any other byte, 0.
unfoldable pub digit_value : ℕ → ℕ
digit_value b = cond (is_digit b) (b - code "0") (cond (is_hex_digit b) (b - code "a" + 10) 0)

-- What pairs of digits say.
abbrev pub hex_bytes : List ℕ → List ℕ
hex_bytes [] = []
hex_bytes (a ∷ []) = []
hex_bytes (a ∷ (b ∷ s)) = (digit_value a * 16 + digit_value b) ∷ hex_bytes s

unfoldable pub byte_at : List ℕ → ℕ → ℕ
byte_at s i = digit_value (get_or s (i * 2) 0) * 16 + digit_value (get_or s (i * 2 + 1) 0)

-- An output once they are written to its front, as far as it has room.
unfoldable pub decoded_out : List ℕ → List ℕ → List ℕ
decoded_out s out = take (length out) (hex_bytes s) ++ drop (length s / 2) out
