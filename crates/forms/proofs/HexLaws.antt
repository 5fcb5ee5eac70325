-- Hexadecimal strings: what is written is read back, and nothing else is read.
use mathlib.Core.Path.{◌≡◌, refl, sym, ap, ◌∙◌}
use mathlib.Core.Bool.{Bool, true, false, and-false, false≢true, and-eq-true_iff}
use mathlib.Core.Logic.{◌↔◌, inl, inr}
use mathlib.Core.List.{List, [], ◌∷◌}
use Prim.Native.Nat.{ℕ, ◌+◌, ◌-◌, ◌*◌, ◌/◌, ◌%◌, ◌≤◌, ◌<◌}
use Prim.Native.Char.{code}
use native.Mathlib.Omega.{arith}
use borrow.Author.Tests.{ltb-true, ltb-false, lt-ltb, le-ltb, le-leb, lt-leb, eqb-true, eq-eqb, ne_eqb}
use lib.Dec.{ltb, eqb}
use lib.ListN.{length}
use Rattle.forms.specs.Bytes.{all, front, is_digit, is_hex_digit, is_item, is_line}
use Rattle.forms.specs.Hex.{hex_digit, hex_digits, hex, are_bytes, is_hex, digit_value, hex_bytes}
use Rattle.forms.proofs.BytesLaws.{all_cons, front-all, front-whole, digit_range, HexRange, hex_range, hex_within, all_hex_item, all_hex_line}

-- Digits 0 to 9, and a to f.
low_value : (b : ℕ) → code "0" ≤ b → b ≤ code "9" → digit_value b ≡ b - code "0"
unfolding digit_value
low_value b l h = rw (le-leb (code "0") b l, le-leb b (code "9") h) refl

high_value : (b : ℕ) → code "a" ≤ b → b ≤ code "f" → digit_value b ≡ b - code "a" + 10
unfolding digit_value
high_value b l h =
    rw (lt-leb b (code "9") (omega arith), and-false, le-leb (code "a") b l, le-leb b (code "f") h) refl

low_is : (b : ℕ) → code "0" ≤ b → b ≤ code "9" → is_hex_digit b ≡ true
low_is b l h = rw (le-leb (code "0") b l, le-leb b (code "9") h) refl

high_is : (b : ℕ) → code "a" ≤ b → b ≤ code "f" → is_hex_digit b ≡ true
high_is b l h = rw (lt-leb b (code "9") (omega arith), and-false, le-leb (code "a") b l, le-leb b (code "f") h) refl

-- A digit of a number below 16 is one, and says that number.
digit_value_lem : (d : ℕ) → d < 16 → (is_hex_digit (hex_digit d) ≡ true) × (digit_value (hex_digit d) ≡ d)
digit_value_lem d h = go (ltb d 10) refl
  where
    go : (t : Bool) → ltb d 10 ≡ t → (is_hex_digit (hex_digit d) ≡ true) × (digit_value (hex_digit d) ≡ d)
    go true e =
        let l = ltb-true d 10 e in
        let b = code "0" + d in
        let g : b ≤ code "9" = omega arith in
        rw e (low_is b (omega arith) g, low_value b (omega arith) g ∙ omega arith)
    go false e =
        let l = ltb-false d 10 e in
        let b = code "a" + (d - 10) in
        let g : b ≤ code "f" = omega arith in
        rw e (high_is b (omega arith) g, high_value b (omega arith) g ∙ omega arith)

digit-back : (b : ℕ) → is_hex_digit b ≡ true → hex_digit (digit_value b) ≡ b
digit-back b h = go (hex_range b h)
  where
    go : HexRange b → hex_digit (digit_value b) ≡ b
    go (inl r) = rw (low_value b r.0 r.1, lt-ltb (b - code "0") 10 (omega arith)) (omega arith)
    go (inr r) = rw (high_value b r.0 r.1, le-ltb (b - code "a" + 10) 10 (omega arith)) (omega arith)

pub digit_value_lt : (b : ℕ) → digit_value b < 16
unfolding digit_value
digit_value_lt b = go (is_digit b) (is_hex_digit b) refl refl
  where
    go : (t u : Bool) → is_digit b ≡ t → is_hex_digit b ≡ u → digit_value b < 16
    go true u d e = rw d (omega (arith, digit_range b d))
    go false true d e = rw (e, d) (omega (arith, hex_within b e))
    go false false d e = rw (e, d) (omega arith)

pub hex-are_bytes : (s : List ℕ) → are_bytes (hex_bytes s) ≡ true
hex-are_bytes [] = refl
hex-are_bytes (a ∷ []) = refl
hex-are_bytes (a ∷ (b ∷ s)) =
    rw (lt-ltb (digit_value a * 16 + digit_value b) 256 (omega (arith, digit_value_lt a, digit_value_lt b))) (hex-are_bytes s)

pub hex-length : (s : List ℕ) → length (hex_bytes s) ≡ length s / 2
hex-length [] = refl
hex-length (a ∷ []) = refl
hex-length (a ∷ (b ∷ s)) = omega (arith, hex-length s)

pub hex_digits-length : (bs : List ℕ) → length (hex_digits bs) ≡ length bs * 2
hex_digits-length [] = refl
hex_digits-length (b ∷ bs) = omega (arith, hex_digits-length bs)

pub bytes_cons : (b : ℕ) (bs : List ℕ) → are_bytes (b ∷ bs) ≡ true → (b < 256) × (are_bytes bs ≡ true)
bytes_cons b bs h = let g = (and-eq-true_iff (ltb b 256) (are_bytes bs)).0 h in (ltb-true b 256 g.0, g.1)

-- The digits of bytes, and the bytes of digits.
pub hex_digits-all : (bs : List ℕ) → are_bytes bs ≡ true → all is_hex_digit (hex_digits bs) ≡ true
hex_digits-all [] h = refl
hex_digits-all (b ∷ bs) h =
    let g = bytes_cons b bs h in
    rw ((digit_value_lem (b / 16) (omega arith)).0, (digit_value_lem (b % 16) (omega arith)).0) (hex_digits-all bs g.1)

digits_bytes : (bs : List ℕ) → are_bytes bs ≡ true → hex_bytes (hex_digits bs) ≡ bs
digits_bytes [] h = refl
digits_bytes (b ∷ bs) h =
    let g = bytes_cons b bs h in
    let e : b / 16 * 16 + b % 16 ≡ b = omega arith in
    let r = digits_bytes bs g.1 in
    rw ((digit_value_lem (b / 16) (omega arith)).1, (digit_value_lem (b % 16) (omega arith)).1) (λ i. e i ∷ r i)

bytes_digits : (s : List ℕ) → length s % 2 ≡ 0 → all is_hex_digit s ≡ true → hex_digits (hex_bytes s) ≡ s
bytes_digits [] e h = refl
bytes_digits (a ∷ []) e h = absurd (omega arith)
bytes_digits (a ∷ (b ∷ s)) e h =
    let f = all_cons is_hex_digit a (b ∷ s) h in
    let g = all_cons is_hex_digit b s f.1 in
    let n = digit_value a * 16 + digit_value b in
    let q : n / 16 ≡ digit_value a = omega (arith, digit_value_lt b) in
    let m : n % 16 ≡ digit_value b = omega (arith, digit_value_lt b) in
    let r = bytes_digits s (omega arith) g.1 in
    λ i. (ap hex_digit q ∙ digit-back a f.0) i ∷ ((ap hex_digit m ∙ digit-back b g.0) i ∷ r i)

pub hex-run : (s : List ℕ) → 0 < length s → length s % 2 ≡ 0 → all is_hex_digit s ≡ true → is_hex s ≡ true
unfolding is_hex
hex-run s l e h =
    rw (
      front-all is_hex_digit s h,
      ne_eqb (length s) 0 (omega arith),
      ne_eqb (length s) 1 (omega arith),
      eq-eqb (length s % 2) 0 e,
      eq-eqb (length s) (length s) refl,
    )
    refl

pub hex-is : (bs : List ℕ) → are_bytes bs ≡ true → is_hex (hex bs) ≡ true
unfolding is_hex
hex-is [] h = refl
hex-is (b ∷ bs) h =
    hex-run (hex_digits (b ∷ bs)) (omega arith) (omega (arith, hex_digits-length bs)) (hex_digits-all (b ∷ bs) h)

pub hex-bytes : (bs : List ℕ) → are_bytes bs ≡ true → hex_bytes (hex bs) ≡ bs
hex-bytes [] h = refl
hex-bytes (b ∷ bs) h = digits_bytes (b ∷ bs) h

exactly : (s : List ℕ) → is_hex s ≡ true → s ≡ hex (hex_bytes s)
unfolding is_hex
exactly [] h = absurd (false≢true h)
exactly (b ∷ []) h = ap (λ (a : ℕ). a ∷ []) (eqb-true b (code "-") h)
exactly (a ∷ (b ∷ s)) h =
    let t = a ∷ (b ∷ s) in
    let n = length t in
    let g = rw (ne_eqb n 0 (omega arith), ne_eqb n 1 (omega arith)) at h in
    let f = (and-eq-true_iff (eqb (n % 2) 0) (eqb (front is_hex_digit t) n)).0 g in
    sym (bytes_digits t (eqb-true (n % 2) 0 f.0) (front-whole is_hex_digit t (eqb-true (front is_hex_digit t) n f.1)))

pub hex_exactly : (s : List ℕ) → (is_hex s ≡ true) ↔ ((s ≡ hex (hex_bytes s)) × (are_bytes (hex_bytes s) ≡ true))
hex_exactly s = (λ h. (exactly s h, hex-are_bytes s), λ p. ap is_hex p.0 ∙ hex-is (hex_bytes s) p.1)

pub hex-item : (bs : List ℕ) → are_bytes bs ≡ true → all is_item (hex bs) ≡ true
hex-item [] h = refl
hex-item (b ∷ bs) h = all_hex_item (hex_digits (b ∷ bs)) (hex_digits-all (b ∷ bs) h)

pub hex-line : (bs : List ℕ) → are_bytes bs ≡ true → all is_line (hex bs) ≡ true
hex-line [] h = refl
hex-line (b ∷ bs) h = all_hex_line (hex_digits (b ∷ bs)) (hex_digits-all (b ∷ bs) h)
