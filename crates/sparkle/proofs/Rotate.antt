-- A rotation as two shifts, whose bits do not meet: joined by or, by xor, or added one after the other.
use Rattle.std.proofs.Common.{◌≡◌, ℕ, zero, suc, w32, ◌+◌, ◌-◌, ◌*◌, ◌/◌, ◌%◌, ◌^◌, ◌<◌, ◌≤◌, sym, ap, ◌∙◌, subst, ap₂, add-zero, add_assoc, mod-lt, arith, pow_pos, pow-add, shr_lt}
use native.Mathlib.Nat.{mul-mod_left, mod-add-mod}
use lib.Arith.{digits_lt}
use lib.Pow.{mod-pow-add, shl-shr}
use lib.Bits.{bit_or, bit_xor, or_shifted_r, xor_shifted}
use Rattle.std.specs.Int.{rotate_right}
use Rattle.std.specs.Int.Bits.{or_self}
use Rattle.sparkle.specs.Words.{addw, shlw, rotr}
use Rattle.sparkle.proofs.Xor.{xor_assoc}

module _ (k : ℕ) (hk : k ≤ 32) where
  -- the left shift of a rotation by k, and a bound on the right shift
  pub high_part : (x : ℕ) → shlw (32 - k) x ≡ x % 2 ^ k * 2 ^ (32 - k)
  unfolding shlw
  high_part x =
      let e : 32 ≡ k + (32 - k) = omega arith in
      ap (λ (n : ℕ). x * 2 ^ (32 - k) % 2 ^ n) e
      ∙ rw (mod-pow-add (x * 2 ^ (32 - k)) k (32 - k), shl-shr, mul-mod_left, add-zero)

  low_part : (x : ℕ) → x < 2 ^ 32 → x / 2 ^ k < 2 ^ (32 - k)
  low_part x hx =
      let e : 32 ≡ 32 - k + k = omega arith in
      shr_lt (32 - k) k (subst (λ (n : ℕ). x < 2 ^ n) e hx)

  pub or-rotr : (x : ℕ) → x < 2 ^ 32 → bit_or (x / 2 ^ k) (shlw (32 - k) x) ≡ rotr k x
  unfolding rotr
  or-rotr x hx =
      ap (λ (a : ℕ). bit_or (x / 2 ^ k) a) (high_part x)
      ∙ or_shifted_r (x % 2 ^ k) (32 - k) (x / 2 ^ k) (low_part x hx)

  pub xor_rotr : (x : ℕ) → x < 2 ^ 32 → bit_xor (shlw (32 - k) x) (x / 2 ^ k) ≡ rotr k x
  unfolding rotr
  xor_rotr x hx =
      ap (λ (a : ℕ). bit_xor a (x / 2 ^ k)) (high_part x)
      ∙ xor_shifted (x % 2 ^ k) (32 - k) (x / 2 ^ k) (low_part x hx)

  -- a word takes up a rotation, one shift after the other
  pub xor_shifts : (y x : ℕ) → x < 2 ^ 32 → bit_xor (bit_xor y (shlw (32 - k) x)) (x / 2 ^ k) ≡ bit_xor y (rotr k x)
  xor_shifts y x hx =
      xor_assoc y (shlw (32 - k) x) (x / 2 ^ k) ∙ ap (λ (a : ℕ). bit_xor y a) (xor_rotr x hx)

  pub sum_shifts : (x y : ℕ) → addw (addw x (shlw (32 - k) y)) (y / 2 ^ k) ≡ addw x (rotr k y)
  unfolding addw rotr
  sum_shifts x y =
      mod-add-mod (x + shlw (32 - k) y) (2 ^ 32) (y / 2 ^ k)
      ∙ ap (λ (n : ℕ). n % 2 ^ 32)
      (add_assoc x (shlw (32 - k) y) (y / 2 ^ k) ∙ ap (λ (a : ℕ). x + (a + y / 2 ^ k)) (high_part y))

  pub rotr_lt : (x : ℕ) → x < 2 ^ 32 → rotr k x < 2 ^ 32
  unfolding rotr
  rotr_lt x hx =
      let e : k + (32 - k) ≡ 32 = omega arith in
      subst (λ (m : ℕ). x % 2 ^ k * 2 ^ (32 - k) + x / 2 ^ k < m)
      (sym (pow-add 2 k (32 - k)) ∙ ap (λ (m : ℕ). 2 ^ m) e) (digits_lt (mod-lt x (pow_pos k)) (low_part x hx))

pub rotr_zero : (x : ℕ) → rotr 0 x ≡ x
unfolding rotr
rotr_zero x = omega arith

-- the library's rotation, whose two shifts are joined by or: a rotation by 0 has the word twice
rotated : (k x : ℕ) → k < 32 → x < 2 ^ 32 → bit_or (x / 2 ^ k) (x * 2 ^ ((32 - k) % 32) % 2 ^ 32) ≡ rotr k x
unfolding shlw
rotated zero x hk hx =
    let right : x / 2 ^ 0 ≡ x = omega arith in
    let left : x * 2 ^ 0 % 2 ^ 32 ≡ x = omega arith in
    ap₂ bit_or right left ∙ or_self x ∙ sym (rotr_zero x)
rotated (suc k) x hk hx =
    let e : (32 - suc k) % 32 ≡ 32 - suc k = omega arith in
    ap (λ (m : ℕ). bit_or (x / 2 ^ suc k) (shlw m x)) e ∙ or-rotr (suc k) (omega arith) x hx

pub rotate_right_rotr : (n x : ℕ) → x < 2 ^ 32 → rotate_right w32 x n ≡ rotr (n % 32) x
rotate_right_rotr n x hx = rotated (n % 32) x (omega arith) hx

-- a shift left by half a word, shifted back: the low half
pub shlw_half : (x : ℕ) → shlw 16 x / 2 ^ 16 ≡ x % 2 ^ 16
unfolding shlw
shlw_half x = omega arith
