-- The four-group form, lane by lane: each part of it is a law of words in every lane. `Above` lets a right shift be taken
-- of a word that has only the high bits of another.
use Rattle.std.proofs.Common.{◌≡◌, ℕ, ◌+◌, ◌-◌, ◌*◌, ◌/◌, ◌%◌, ◌^◌, ◌<◌, ◌≤◌, List, [], ◌∷◌, ◌++◌, get_or, sym, refl, ap, ◌∙◌, ap₂, lt_of_lt_of_le, add-zero, mod-lt, mod-eq_of_lt, div-add-mod', arith, lit<, lit≤, pow_mono, shr-shr}
use native.Mathlib.Nat.{div-eq_of_lt}
use lib.Bits.{bit_xor, bit_and, bit_or, xor_shr, xor_mod, xor_lt, xor_comm, xor_zero_r, xor_block, or_shifted, and_mask, and_high}
use Rattle.sparkle.specs.Words.{addw, shlw, rotr, ell}
use Rattle.sparkle.specs.declared.sse2.Groups.{Groups}
use Rattle.sparkle.specs.Sparkle.{rcon, quarter, arx_box, constants, boxes, xor_xs, xor_ys, xors, xor_each, feistel, linear, step}
use Rattle.sparkle.specs.Lanes.{four, lanes, lanes2, shuffled, lanes_x, lanes_y, folded, Above, pairs, joined, row}
use Rattle.sparkle.proofs.Xor.{xor_assoc}
use Rattle.sparkle.proofs.Rotate.{xor_rotr, xor_shifts, sum_shifts, rotr_zero, shlw_half, high_part}

-- lists of four that agree in each lane
pub four_ext : {f g : ℕ → ℕ} → ((i : ℕ) → f i ≡ g i) → four f ≡ four g
four_ext h = λ k. h 0 k ∷ (h 1 k ∷ (h 2 k ∷ (h 3 k ∷ [])))

addw-word : (x y : ℕ) → addw x y < 2 ^ 32
unfolding addw
addw-word x y = mod-lt (x + y) (lit< tt)

-- a right shift by b leaves the bits from bit k on alone, where 32 ≤ k + b
high_bits : (k b h s : ℕ) → s < 2 ^ 32 → 32 ≤ k + b → bit_xor h (s / 2 ^ b) / 2 ^ k ≡ h / 2 ^ k
high_bits k b h s hs hk =
    let e : 32 ≤ b + k = omega arith in
    xor_shr h (s / 2 ^ b) k
    ∙ ap (λ (a : ℕ). bit_xor (h / 2 ^ k) a) (shr-shr s b k ∙ div-eq_of_lt (lt_of_lt_of_le hs (pow_mono e)))
    ∙ xor_zero_r (h / 2 ^ k)

-- ---- a quarter of the box; a and b are its rotations
module _ (a b : ℕ) (a-pos : 0 < a) (a_lt : a < 32) (b-pos : 0 < b) (b_lt : b < 32) where
  -- the sum with the rotation by a
  pub quarter-sum : (x y t : List ℕ) → Above a t y → lanes2 addw (lanes2 addw x (lanes (shlw ((32 - a) % 32)) y)) (lanes (λ v. v / 2 ^ (a % 32)) t) ≡ lanes2 (λ u v. addw u (rotr a v)) x y
  unfolding lanes2 lanes
  quarter-sum x y t above =
      let e : (32 - a) % 32 ≡ 32 - a = omega arith in
      let f : a % 32 ≡ a = omega arith in
      ap₂ (λ (n : ℕ) (l : List ℕ). lanes2 addw (lanes2 addw x (lanes (shlw n) y)) l) e
      (ap (λ (n : ℕ). lanes (λ v. v / 2 ^ n) t) f ∙ above)
      ∙ four_ext (λ i. sum_shifts a (omega arith) (get_or x i 0) (get_or y i 0))

  -- y takes up the sum's rotation by b
  pub quarter_y : (x y rc : List ℕ) → lanes2 bit_xor (lanes2 bit_xor y (lanes (shlw ((32 - b) % 32)) (lanes2 (λ u v. addw u (rotr a v)) x y))) (lanes (λ v. v / 2 ^ (b % 32)) (lanes2 (λ u v. addw u (rotr a v)) x y)) ≡ lanes_y (quarter a b) rc x y
  unfolding lanes2 lanes lanes_y quarter
  quarter_y x y rc =
      let e : (32 - b) % 32 ≡ 32 - b = omega arith in
      let f : b % 32 ≡ b = omega arith in
      let s = lanes2 (λ u v. addw u (rotr a v)) x y in
      ap₂ (λ (n m : ℕ). lanes2 bit_xor (lanes2 bit_xor y (lanes (shlw n) s)) (lanes (λ v. v / 2 ^ m) s)) e f
      ∙ four_ext (λ i.
      xor_shifts b (omega arith) (get_or y i 0) (addw (get_or x i 0) (rotr a (get_or y i 0)))
      (addw-word (get_or x i 0) (rotr a (get_or y i 0))))

-- x takes up the constant
pub quarter_x : (a b : ℕ) (x y rc : List ℕ) → lanes2 bit_xor (lanes2 (λ u v. addw u (rotr a v)) x y) rc ≡ lanes_x (quarter a b) rc x y
unfolding lanes2 lanes_x quarter
quarter_x a b x y rc = refl

-- what y takes up last are low bits
pub above_low : (k b n : ℕ) (h x y : List ℕ) → 32 ≤ k + b → n ≡ b → Above k h (lanes2 bit_xor h (lanes (λ v. v / 2 ^ n) (lanes2 addw x y)))
unfolding lanes2 lanes
above_low k b n h x y hk e =
    four_ext (λ i.
    sym
    (ap (λ (m : ℕ). bit_xor (get_or h i 0) (addw (get_or x i 0) (get_or y i 0) / 2 ^ m) / 2 ^ k) e
    ∙ high_bits k b (get_or h i 0) (addw (get_or x i 0) (get_or y i 0)) (addw-word (get_or x i 0) (get_or y i 0)) hk))

-- a shift right goes through a xor
shr_lanes : (k : ℕ) (u v : List ℕ) → lanes (λ x. x / 2 ^ k) (lanes2 bit_xor u v) ≡ lanes2 bit_xor (lanes (λ x. x / 2 ^ k) u) (lanes (λ x. x / 2 ^ k) v)
unfolding lanes lanes2
shr_lanes k u v = four_ext (λ i. xor_shr (get_or u i 0) (get_or v i 0) k)

-- words that agree from bit k on still do when the same is xored into both
above_xor : (k : ℕ) (t y h : List ℕ) → Above k t y → Above k (lanes2 bit_xor t h) (lanes2 bit_xor y h)
above_xor k t y h above =
    shr_lanes k t h ∙ ap (λ (l : List ℕ). lanes2 bit_xor l (lanes (λ x. x / 2 ^ k) h)) above ∙ sym (shr_lanes k y h)

above_trans : (k : ℕ) (t u y : List ℕ) → Above k t u → Above k u y → Above k t y
above_trans k t u y p q = p ∙ q

pub above_refl : (k : ℕ) (y : List ℕ) → Above k y y
above_refl k y = refl

-- ---- the third quarter, whose first rotation is by 0
pub third_sum : (x y : List ℕ) → lanes2 addw x y ≡ lanes2 (λ u v. addw u (rotr 0 v)) x y
unfolding lanes2
third_sum x y = four_ext (λ i. ap (λ (v : ℕ). addw (get_or x i 0) v) (sym (rotr_zero (get_or y i 0))))

pub third_above : (t y x z : List ℕ) → Above 24 t y → Above 24 (lanes2 bit_xor t (lanes (shlw 1) (lanes2 addw x z))) (lanes2 bit_xor (lanes2 bit_xor y (lanes (shlw 1) (lanes2 addw x z))) (lanes (λ v. v / 2 ^ 31) (lanes2 addw x z)))
third_above t y x z above =
    let h = lanes (shlw 1) (lanes2 addw x z) in
    above_trans 24 (lanes2 bit_xor t h) (lanes2 bit_xor y h) _ (above_xor 24 t y h above)
    (above_low 24 31 31 (lanes2 bit_xor y h) x z (lit≤ tt) refl)

-- ---- the last quarter, half a word at a time
halves : (y s : ℕ) → y < 2 ^ 32 → s < 2 ^ 32 → bit_or (bit_and (bit_xor y (shlw 16 s)) 0xffff0000) (bit_and (bit_xor y (s / 2 ^ 16)) 0x0000ffff) ≡ bit_xor y (rotr 16 s)
unfolding rotr
halves y s hy hs =
    let s_high : s / 2 ^ 16 < 2 ^ 16 = omega arith in
    let y_high : y / 2 ^ 16 < 2 ^ 16 = omega arith in
    let s_low : s % 2 ^ 16 < 2 ^ 16 = omega arith in
    let y_low : y % 2 ^ 16 < 2 ^ 16 = omega arith in
    let top : bit_and (bit_xor y (shlw 16 s)) 0xffff0000 ≡ bit_xor (y / 2 ^ 16) (s % 2 ^ 16) * 2 ^ 16 =
    and_high (bit_xor y (shlw 16 s)) 16 16
    ∙ ap (λ (n : ℕ). n % 2 ^ 16 * 2 ^ 16)
    (xor_shr y (shlw 16 s) 16 ∙ ap (λ (n : ℕ). bit_xor (y / 2 ^ 16) n) (shlw_half s))
    ∙ ap (λ (n : ℕ). n * 2 ^ 16) (mod-eq_of_lt (xor_lt 16 (y / 2 ^ 16) (s % 2 ^ 16) y_high s_low)) in
    let bottom : bit_and (bit_xor y (s / 2 ^ 16)) 0x0000ffff ≡ bit_xor (y % 2 ^ 16) (s / 2 ^ 16) =
    and_mask (bit_xor y (s / 2 ^ 16)) 16 ∙ xor_mod y (s / 2 ^ 16) 16
    ∙ ap (λ (n : ℕ). bit_xor (y % 2 ^ 16) n) (mod-eq_of_lt s_high) in
    ap₂ bit_or top bottom
    ∙ or_shifted (bit_xor (y / 2 ^ 16) (s % 2 ^ 16)) 16 (bit_xor (y % 2 ^ 16) (s / 2 ^ 16)) (xor_lt 16 (y % 2 ^ 16) (s / 2 ^ 16) y_low s_high)
    ∙ sym (xor_block 16 (y / 2 ^ 16) (s % 2 ^ 16) (y % 2 ^ 16) (s / 2 ^ 16) y_low s_high)
    ∙ ap (λ (n : ℕ). bit_xor n (s % 2 ^ 16 * 2 ^ 16 + s / 2 ^ 16)) (div-add-mod' y (2 ^ 16))

-- a mask in each lane
abbrev pub mask4 : ℕ → List ℕ
mask4 m = four (λ i. m)

pub last_y : (x y rc : List ℕ) → ((i : ℕ) → get_or y i 0 < 2 ^ 32) → lanes2 bit_or (lanes2 bit_and (lanes2 bit_xor y (lanes (shlw 16) (lanes2 (λ u v. addw u (rotr 24 v)) x y))) (mask4 0xffff0000)) (lanes2 bit_and (lanes2 bit_xor y (lanes (λ v. v / 2 ^ 16) (lanes2 (λ u v. addw u (rotr 24 v)) x y))) (mask4 0x0000ffff)) ≡ lanes_y (quarter 24 16) rc x y
unfolding lanes2 lanes lanes_y quarter
last_y x y rc hy =
    four_ext (λ i.
    halves (get_or y i 0) (addw (get_or x i 0) (rotr 24 (get_or y i 0))) (hy i)
    (addw-word (get_or x i 0) (rotr 24 (get_or y i 0))))

-- ---- ell, and the xor of the four lanes
ell_halves : (v : ℕ) → v < 2 ^ 32 → bit_xor (shlw 16 v) (bit_xor (v / 2 ^ 16) (shlw 16 v / 2 ^ 16)) ≡ ell v
unfolding ell
ell_halves v hv =
    ap (λ (n : ℕ). bit_xor (shlw 16 v) (bit_xor (v / 2 ^ 16) n)) (shlw_half v)
    ∙ sym (xor_assoc (shlw 16 v) (v / 2 ^ 16) (v % 2 ^ 16))
    ∙ ap (λ (n : ℕ). bit_xor n (v % 2 ^ 16)) (xor_rotr 16 (lit≤ tt) v hv)

pub ell-lanes : (v t : List ℕ) → Above 16 t v → ((i : ℕ) → get_or v i 0 < 2 ^ 32) → lanes2 bit_xor (lanes (shlw 16) v) (lanes (λ x. x / 2 ^ 16) (lanes2 bit_xor t (lanes (shlw 16) v))) ≡ lanes ell v
unfolding lanes lanes2
ell-lanes v t above hv =
    ap (λ (l : List ℕ). lanes2 bit_xor (lanes (shlw 16) v) l)
    (shr_lanes 16 t (lanes (shlw 16) v)
    ∙ ap (λ (l : List ℕ). lanes2 bit_xor l (lanes (λ x. x / 2 ^ 16) (lanes (shlw 16) v))) above)
    ∙ four_ext (λ i. ell_halves (get_or v i 0) (hv i))

xor_swap : (p q r s : ℕ) → bit_xor (bit_xor p q) (bit_xor r s) ≡ bit_xor (bit_xor p r) (bit_xor q s)
xor_swap p q r s =
    cc (xor_assoc p q (bit_xor r s), xor_assoc p r (bit_xor q s), xor_assoc q r s, xor_assoc r q s, xor_comm q r)

pub fold_lanes : (v : List ℕ) → lanes2 bit_xor (lanes2 bit_xor v (shuffled 0x1b v)) (shuffled 0xb1 (lanes2 bit_xor v (shuffled 0x1b v))) ≡ folded v
unfolding lanes2 shuffled folded
fold_lanes v =
    let a = get_or v 0 0 in
    let b = get_or v 1 0 in
    let c = get_or v 2 0 in
    let d = get_or v 3 0 in
    let outside = xor_swap a d b c ∙ ap (bit_xor (bit_xor a b)) (xor_comm d c) ∙ sym (xor_assoc (bit_xor a b) c d) in
    let inside = xor_comm (bit_xor b c) (bit_xor a d) ∙ outside in
    λ k.
    outside k
    ∷ (inside k
    ∷ ((ap₂ bit_xor (xor_comm c b) (xor_comm d a) ∙ inside) k ∷ ((ap₂ bit_xor (xor_comm d a) (xor_comm c b) ∙ outside) k ∷ [])))

-- ell goes through a xor, since each of its three parts does
shlw_xor : (a b : ℕ) → shlw 16 (bit_xor a b) ≡ bit_xor (shlw 16 a) (shlw 16 b)
shlw_xor a b =
    high_part 16 (lit≤ tt) (bit_xor a b) ∙ ap (λ (n : ℕ). n * 2 ^ 16) (xor_mod a b 16) ∙ sym (add-zero _)
    ∙ sym (xor_block 16 (a % 2 ^ 16) (b % 2 ^ 16) 0 0 (lit< tt) (lit< tt))
    ∙ ap₂ bit_xor (add-zero _ ∙ sym (high_part 16 (lit≤ tt) a)) (add-zero _ ∙ sym (high_part 16 (lit≤ tt) b))

ell-parts : (v : ℕ) → v < 2 ^ 32 → ell v ≡ bit_xor (bit_xor (shlw 16 v) (v / 2 ^ 16)) (v % 2 ^ 16)
unfolding ell
ell-parts v hv = ap (λ (n : ℕ). bit_xor n (v % 2 ^ 16)) (sym (xor_rotr 16 (lit≤ tt) v hv))

pub ell_xor : (a b : ℕ) → a < 2 ^ 32 → b < 2 ^ 32 → ell (bit_xor a b) ≡ bit_xor (ell a) (ell b)
ell_xor a b ha hb =
    ell-parts (bit_xor a b) (xor_lt 32 a b ha hb)
    ∙ ap₂ bit_xor
    (ap₂ bit_xor (shlw_xor a b) (xor_shr a b 16) ∙ xor_swap (shlw 16 a) (shlw 16 b) (a / 2 ^ 16) (b / 2 ^ 16))
    (xor_mod a b 16)
    ∙ xor_swap (bit_xor (shlw 16 a) (a / 2 ^ 16)) (bit_xor (shlw 16 b) (b / 2 ^ 16)) (a % 2 ^ 16) (b % 2 ^ 16)
    ∙ ap₂ bit_xor (sym (ell-parts a ha)) (sym (ell-parts b hb))

pub ell-folded : (v : List ℕ) → ((i : ℕ) → get_or v i 0 < 2 ^ 32) → folded (lanes ell v) ≡ lanes ell (folded v)
unfolding folded lanes
ell-folded v hv =
    let two = xor_lt 32 (get_or v 0 0) (get_or v 1 0) (hv 0) (hv 1) in
    let three = xor_lt 32 (bit_xor (get_or v 0 0) (get_or v 1 0)) (get_or v 2 0) two (hv 2) in
    four_ext (λ i.
    sym
    (ell_xor (bit_xor (bit_xor (get_or v 0 0) (get_or v 1 0)) (get_or v 2 0)) (get_or v 3 0) three (hv 3)
    ∙ ap (λ (n : ℕ). bit_xor n (ell (get_or v 3 0)))
    (ell_xor (bit_xor (get_or v 0 0) (get_or v 1 0)) (get_or v 2 0) two (hv 2)
    ∙ ap (λ (n : ℕ). bit_xor n (ell (get_or v 2 0))) (ell_xor (get_or v 0 0) (get_or v 1 0) (hv 0) (hv 1)))))

pub third_y : (x y rc : List ℕ) → lanes2 bit_xor (lanes2 bit_xor y (lanes (shlw 1) (lanes2 (λ u v. addw u (rotr 0 v)) x y))) (lanes (λ v. v / 2 ^ 31) (lanes2 (λ u v. addw u (rotr 0 v)) x y)) ≡ lanes_y (quarter 0 31) rc x y
unfolding lanes2 lanes lanes_y quarter
third_y x y rc =
    four_ext (λ i.
    xor_shifts 31 (lit≤ tt) (get_or y i 0) (addw (get_or x i 0) (rotr 0 (get_or y i 0)))
    (addw-word (get_or x i 0) (rotr 0 (get_or y i 0))))

-- ---- the four quarters of a box
pub box-lanes : (rc x y x₁ y₁ x₂ y₂ x₃ y₃ : List ℕ) → x₁ ≡ lanes_x (quarter 31 24) rc x y → y₁ ≡ lanes_y (quarter 31 24) rc x y → x₂ ≡ lanes_x (quarter 17 17) rc x₁ y₁ → y₂ ≡ lanes_y (quarter 17 17) rc x₁ y₁ → x₃ ≡ lanes_x (quarter 0 31) rc x₂ y₂ → y₃ ≡ lanes_y (quarter 0 31) rc x₂ y₂ → (lanes_x (quarter 24 16) rc x₃ y₃ ≡ lanes_x arx_box rc x y) × (lanes_y (quarter 24 16) rc x₃ y₃ ≡ lanes_y arx_box rc x y)
unfolding lanes_x lanes_y arx_box
box-lanes rc x y x₁ y₁ x₂ y₂ x₃ y₃ p₁ q₁ p₂ q₂ p₃ q₃ =
    let r₂ = p₂ ∙ ap₂ (lanes_x (quarter 17 17) rc) p₁ q₁ in
    let s₂ = q₂ ∙ ap₂ (lanes_y (quarter 17 17) rc) p₁ q₁ in
    let r₃ = p₃ ∙ ap₂ (lanes_x (quarter 0 31) rc) r₂ s₂ in
    let s₃ = q₃ ∙ ap₂ (lanes_y (quarter 0 31) rc) r₂ s₂ in
    (ap₂ (lanes_x (quarter 24 16) rc) r₃ s₃, ap₂ (lanes_y (quarter 24 16) rc) r₃ s₃)

-- ---- a step
-- the constants of step s in the first four y words
with_constants : ℕ → List ℕ → List ℕ
with_constants s b =
    bit_xor (get_or b 0 0) (rcon (s % 8)) ∷ (bit_xor (get_or b 1 0) (s % 2 ^ 32) ∷ (get_or b 2 0 ∷ (get_or b 3 0 ∷ [])))

constants-lanes : (s : ℕ) (b : List ℕ) → lanes2 bit_xor b (row s) ≡ with_constants s b
unfolding lanes2 with_constants row
constants-lanes s b =
    λ k.
    bit_xor (get_or b 0 0) (rcon (s % 8))
    ∷ (bit_xor (get_or b 1 0) (s % 2 ^ 32) ∷ (xor_zero_r (get_or b 2 0) k ∷ (xor_zero_r (get_or b 3 0) k ∷ [])))

abbrev pub rc03 : List ℕ
rc03 = rcon 0 ∷ (rcon 1 ∷ (rcon 2 ∷ (rcon 3 ∷ [])))

abbrev pub rc47 : List ℕ
rc47 = rcon 4 ∷ (rcon 5 ∷ (rcon 6 ∷ (rcon 7 ∷ [])))

boxes-lanes : (s : ℕ) (g : Groups) → boxes 0 (constants s (joined g)) ≡ pairs (lanes_x arx_box rc03 g.s0246 (with_constants s g.s1357)) (lanes_y arx_box rc03 g.s0246 (with_constants s g.s1357)) ++ pairs (lanes_x arx_box rc47 g.s8ace g.s9bdf) (lanes_y arx_box rc47 g.s8ace g.s9bdf)
unfolding boxes constants joined lanes_x lanes_y with_constants
boxes-lanes s g = refl

linear-lanes : (lx ly hx hy : List ℕ) → pairs (lanes2 bit_xor (lanes ell (folded ly)) (shuffled 0x39 (lanes2 bit_xor lx hx))) (lanes2 bit_xor (lanes ell (folded lx)) (shuffled 0x39 (lanes2 bit_xor ly hy))) ++ pairs lx ly ≡ linear 8 (pairs lx ly ++ pairs hx hy)
unfolding linear feistel xor_xs xor_ys xors xor_each lanes lanes2 shuffled folded
linear-lanes lx ly hx hy =
    let x = ell (bit_xor (bit_xor (bit_xor (get_or lx 0 0) (get_or lx 1 0)) (get_or lx 2 0)) (get_or lx 3 0)) in
    let y = ell (bit_xor (bit_xor (bit_xor (get_or ly 0 0) (get_or ly 1 0)) (get_or ly 2 0)) (get_or ly 3 0)) in
    let nx : (i : ℕ) → bit_xor y (bit_xor (get_or lx i 0) (get_or hx i 0)) ≡ bit_xor (bit_xor (get_or lx i 0) (get_or hx i 0)) y =
    λ i. xor_comm y (bit_xor (get_or lx i 0) (get_or hx i 0)) in
    let ny : (i : ℕ) → bit_xor x (bit_xor (get_or ly i 0) (get_or hy i 0)) ≡ bit_xor (bit_xor (get_or ly i 0) (get_or hy i 0)) x =
    λ i. xor_comm x (bit_xor (get_or ly i 0) (get_or hy i 0)) in
    λ k.
    nx 1 k ∷ (ny 1 k ∷ (nx 2 k ∷ (ny 2 k ∷ (nx 3 k ∷ (ny 3 k ∷ (nx 0 k ∷ (ny 0 k ∷ pairs lx ly)))))))

pub step-lanes : (s : ℕ) (g : Groups) (b lx ly hx hy nx ny : List ℕ) → b ≡ lanes2 bit_xor g.s1357 (row s) → lx ≡ lanes_x arx_box rc03 g.s0246 b → ly ≡ lanes_y arx_box rc03 g.s0246 b → hx ≡ lanes_x arx_box rc47 g.s8ace g.s9bdf → hy ≡ lanes_y arx_box rc47 g.s8ace g.s9bdf → nx ≡ lanes2 bit_xor (lanes ell (folded ly)) (shuffled 0x39 (lanes2 bit_xor lx hx)) → ny ≡ lanes2 bit_xor (lanes ell (folded lx)) (shuffled 0x39 (lanes2 bit_xor ly hy)) → pairs nx ny ++ pairs lx ly ≡ step 8 s (joined g)
unfolding step
step-lanes s g b lx ly hx hy nx ny eb elx ely ehx ehy enx eny =
    let constant = eb ∙ constants-lanes s g.s1357 in
    let px = elx ∙ ap (lanes_x arx_box rc03 g.s0246) constant in
    let py = ely ∙ ap (lanes_y arx_box rc03 g.s0246) constant in
    ap₂ (λ (u v : List ℕ). pairs u v ++ pairs lx ly) enx eny ∙ linear-lanes lx ly hx hy
    ∙ ap (linear 8) ((λ k. pairs (px k) (py k) ++ pairs (ehx k) (ehy k)) ∙ sym (boxes-lanes s g))
