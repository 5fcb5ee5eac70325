-- Words and bytes, and operations on 32-bit words as arithmetic on natural numbers (document 01, "Down to the words").
use Rattle.std.specs.Prelude.{ℕ, ◌+◌, ◌-◌, ◌*◌, ◌/◌, ◌%◌, ◌^◌, ◌<◌, List, [], ◌∷◌, bit_xor}

-- A list of numbers below 2^k. Words are below 2^32, bytes below 2^8.
pub data Below (k : ℕ) : List ℕ → Type 0 where
  none : Below k []
  more : {x : ℕ} {l : List ℕ} → x < 2 ^ k → Below k l → Below k (x ∷ l)

abbrev pub Words : List ℕ → Type 0
Words l = Below 32 l

abbrev pub Bytes : List ℕ → Type 0
Bytes l = Below 8 l

-- The sum of two words, without its carry out of 32 bits.
unfoldable pub addw : ℕ → ℕ → ℕ
addw x y = (x + y) % 2 ^ 32

-- The word x shifted left by n bits, without what passes 32 bits.
unfoldable pub shlw : ℕ → ℕ → ℕ
shlw n x = x * 2 ^ n % 2 ^ 32

-- The word x rotated right by n bits, for n up to 32: its low n bits come to stand above the others.
unfoldable pub rotr : ℕ → ℕ → ℕ
rotr n x = x % 2 ^ n * 2 ^ (32 - n) + x / 2 ^ n

-- ell(x) = (x rotated by 16) xor (x mod 65536).
unfoldable pub ell : ℕ → ℕ
ell x = bit_xor (rotr 16 x) (x % 65536)
