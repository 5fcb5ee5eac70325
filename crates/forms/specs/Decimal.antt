-- Decimal numbers: written, and read.
use Rattle.std.specs.Prelude.{Option, Some, None, ℕ, zero, suc, ◌+◌, ◌-◌, ◌*◌, ◌/◌, ◌%◌, ◌^◌, true, false, cond, ◌&&◌, List, [], ◌∷◌, ◌++◌, ltb, eqb, length, get_or}
use Prim.Native.Char.{code}
use Rattle.forms.specs.Bytes.{is_digit}

abbrev pub digit : ℕ → List ℕ
digit d = (code "0" + d) ∷ []

-- n in decimal digits, no zero in front; k, which is not below n, bounds how often n is divided.
unfoldable pub decimal_in : ℕ → ℕ → List ℕ
decimal_in zero n = digit n
decimal_in (suc k) n = elim (ltb n 10) [ true ↦ digit n | false ↦ decimal_in k (n / 10) ++ digit (n % 10) ]

abbrev pub decimal : ℕ → List ℕ
decimal n = decimal_in n n

-- A number with a digit behind it, while it is below 2^64.
unfoldable pub with_digit : ℕ → ℕ → Option ℕ
with_digit n b =
    cond (is_digit b) (cond (ltb (n * 10 + (b - code "0")) (2 ^ 64)) (Some (n * 10 + (b - code "0"))) None) None

-- The number that digits say behind those of n.
unfoldable pub decimal_from : ℕ → List ℕ → Option ℕ
decimal_from n [] = Some n
decimal_from n (b ∷ s) = elim (with_digit n b) [ Some m ↦ decimal_from m s | None ↦ None ]

-- The number that bytes are in decimal: Some n exactly where they are `decimal n` and n is below 2^64 (`decimal_exactly`).
unfoldable pub decimal_of : List ℕ → Option ℕ
decimal_of s =
    cond (eqb (length s) 0) None (cond (eqb (get_or s 0 0) (code "0") && ltb 1 (length s)) None (decimal_from 0 s))
