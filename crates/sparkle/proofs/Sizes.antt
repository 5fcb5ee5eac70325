-- The loops over the branches of a state, as functions of the turns, and what they come to at the three sizes: at a size
-- that is a number they compute.
use Rattle.std.proofs.Common.{◌≡◌, ℕ, zero, suc, ◌+◌, ◌-◌, ◌*◌, ◌/◌, ◌%◌, ◌≤◌, List, length, refl, subst, inl, inr, arith}
use Rattle.std.proofs.lemmas.Bool.{cases_lt}
use lib.Bits.{bit_xor}
use Rattle.std.specs.Prelude.{slice_index, slice_set}
use Rattle.sparkle.specs.Words.{ell}
use Rattle.sparkle.specs.declared.scalar.Branch.{Branch}
use Rattle.sparkle.specs.Sparkle.{rcon, arx_box, boxes, xor_xs, xor_ys, xors, xor_each, feistel, linear}
use Rattle.sparkle.proofs.Tab.{tabbed}

-- what holds of 8, 12 and 16 words holds of each state
pub for_each_size : (P : ℕ → Type 0) → P 8 → P 12 → P 16 → (n : ℕ) → 8 ≤ n → n ≤ 16 → n % 4 ≡ 0 → P n
for_each_size P p8 p12 p16 n low high whole =
    elim (cases_lt n 12) [
      | inl k ↦ let e : 8 ≡ n = omega arith in subst P e p8
      | inr k ↦
          elim (cases_lt n 16) [
            | inl m ↦ let e : 12 ≡ n = omega arith in subst P e p12
            | inr m ↦ let e : 16 ≡ n = omega arith in subst P e p16
          ]
    ]

-- the words after the boxes of the first branches
abbrev pub box_at : ℕ → List ℕ → Branch
box_at i w = arx_box (rcon i) (record { x = slice_index w (2 * i); y = slice_index w (2 * i + 1) })

unfoldable pub boxed : List ℕ → ℕ → List ℕ
boxed w zero = w
boxed w (suc i) = slice_set (slice_set (boxed w i) (2 * i) (box_at i (boxed w i)).x) (2 * i + 1) (box_at i (boxed w i)).y

pub boxed_all : (n : ℕ) (w : List ℕ) → length w ≡ n → 8 ≤ n → n ≤ 16 → n % 4 ≡ 0 → boxed w (n / 2) ≡ boxes 0 w
unfolding boxed boxes rcon
boxed_all n w h low high whole =
    for_each_size (λ m. length w ≡ m → boxed w (m / 2) ≡ boxes 0 w)
    (λ e. subst (λ (l : List ℕ). boxed l 4 ≡ boxes 0 l) (tabbed 8 w e) refl)
    (λ e. subst (λ (l : List ℕ). boxed l 6 ≡ boxes 0 l) (tabbed 12 w e) refl)
    (λ e. subst (λ (l : List ℕ). boxed l 8 ≡ boxes 0 l) (tabbed 16 w e) refl) n low high whole h

-- the xor of the words 2 * i + k of the first branches
unfoldable pub xored : ℕ → List ℕ → ℕ → ℕ
xored k w zero = 0
xored k w (suc i) = bit_xor (xored k w i) (slice_index w (2 * i + k))

-- the words after the first branches of the two halves of h words have moved
unfoldable pub moved : ℕ → ℕ → ℕ → List ℕ → ℕ → List ℕ
moved h a b w zero = w
moved h a b w (suc i) =
    slice_set
    (slice_set
    (slice_set
    (slice_set (moved h a b w i) ((h + 2 * i - 2) % h) (bit_xor (bit_xor (slice_index w (2 * i)) (slice_index w (h + 2 * i))) a))
    ((h + 2 * i - 2) % h + 1) (bit_xor (bit_xor (slice_index w (2 * i + 1)) (slice_index w (h + 2 * i + 1))) b))
    (h + 2 * i) (slice_index w (2 * i)))
    (h + 2 * i + 1) (slice_index w (2 * i + 1))

pub moved_all : (n : ℕ) (w : List ℕ) → length w ≡ n → 8 ≤ n → n ≤ 16 → n % 4 ≡ 0
    → moved (n / 2) (ell (xored 1 w (n / 4))) (ell (xored 0 w (n / 4))) w (n / 4) ≡ linear (n / 2) w
unfolding xored moved xor_xs xor_ys xors xor_each feistel linear
moved_all n w h low high whole =
    for_each_size
    (λ m. length w ≡ m → moved (m / 2) (ell (xored 1 w (m / 4))) (ell (xored 0 w (m / 4))) w (m / 4) ≡ linear (m / 2) w)
    (λ e. subst (λ (l : List ℕ). moved 4 (ell (xored 1 l 2)) (ell (xored 0 l 2)) l 2 ≡ linear 4 l) (tabbed 8 w e) refl)
    (λ e. subst (λ (l : List ℕ). moved 6 (ell (xored 1 l 3)) (ell (xored 0 l 3)) l 3 ≡ linear 6 l) (tabbed 12 w e) refl)
    (λ e. subst (λ (l : List ℕ). moved 8 (ell (xored 1 l 4)) (ell (xored 0 l 4)) l 4 ≡ linear 8 l) (tabbed 16 w e) refl)
    n low high whole h
