-- Xor is associative, as the library has it, and cancels.
use Rattle.std.proofs.Common.{◌≡◌, ℕ, ap, ◌∙◌}
use lib.Bits.{bit_xor, xor_self, xor_zero_r, xor_assoc as bits-assoc}

pub xor_assoc : (a b c : ℕ) → bit_xor (bit_xor a b) c ≡ bit_xor a (bit_xor b c)
xor_assoc = bits-assoc

-- what is xored in twice is gone
pub xor_cancel : (a b : ℕ) → bit_xor (bit_xor a b) b ≡ a
xor_cancel a b = xor_assoc a b b ∙ ap (λ (x : ℕ). bit_xor a x) (xor_self b) ∙ xor_zero_r a
