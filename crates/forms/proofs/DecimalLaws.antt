-- Numbers in decimal. What holds of each digit alone, and passes from a number's digits to one digit more behind them,
-- holds of every number's digits (`by_digits`); the other laws of what is written follow from that.
-- Digits are read exactly where they are written (`decimal_exactly`), by what they say (`value`).
use mathlib.Core.Path.{◌≡◌, refl, sym, ap, ◌∙◌}
use mathlib.Core.Bool.{Bool, true, false, and-false}
use mathlib.Core.Logic.{◌↔◌, ◌≢◌, ◌⊎◌, inl, inr}
use mathlib.Core.List.{List, [], ◌∷◌, ◌++◌, append_assoc, append-nil}
use Prim.Native.Nat.{ℕ, zero, suc, ◌+◌, ◌-◌, ◌*◌, ◌/◌, ◌%◌, ◌^◌, ◌≤◌, ◌<◌}
use Prim.Native.Char.{code}
use native.Mathlib.Nat.{pow-suc}
use native.Mathlib.Omega.{arith}
use borrow.Author.Tests.{ltb-true, ltb-false, lt-ltb, le-ltb, le-leb, eqb-false, ne_eqb}
use lib.Dec.{ltb, eqb}
use lib.ListN.{length, get_or, length-append, get_or-append}
use lib.Seq.{append_snoc}
use Rattle.std.specs.Prelude.{Some}
use Rattle.std.proofs.lemmas.Option.{none-some}
use Rattle.forms.specs.Bytes.{all, is_digit, is_item, is_line}
use Rattle.forms.specs.Decimal.{digit, decimal_in, decimal, with_digit, decimal_from, decimal_of}
use Rattle.forms.proofs.BytesLaws.{all_cons, all_append, digit_range, all_digit_item, all_digit_line}

small : (k n : ℕ) → n < 10 → decimal_in k n ≡ digit n
unfolding decimal_in
small zero n h = refl
small (suc k) n h = rw (lt-ltb n 10 h, decimal_in) refl

large : (k n : ℕ) → 10 ≤ n → decimal_in (suc k) n ≡ decimal_in k (n / 10) ++ digit (n % 10)
unfolding decimal_in
large k n h = rw (le-ltb n 10 h, decimal_in) refl

module _
    (P : ℕ → List ℕ → Type 0)
    (one : (n : ℕ) → n < 10 → P n (digit n))
    (more : (n : ℕ) (s : List ℕ) → 10 ≤ n → P (n / 10) s → P n (s ++ digit (n % 10))) where
  step : (k n : ℕ) → (10 ≤ n → P (n / 10) (decimal_in k (n / 10))) → (t : Bool) → ltb n 10 ≡ t
      → P n (decimal_in (suc k) n)
  step k n f true e = let h : n < 10 = ltb-true n 10 e in rw (small (suc k) n h) (one n h)
  step k n f false e = let h : 10 ≤ n = ltb-false n 10 e in rw (large k n h) (more n _ h (f h))

  by_digits : (k n : ℕ) → n ≤ k → P n (decimal_in k n)
  by_digits zero n h = rw (small zero n (omega arith)) (one n (omega arith))
  by_digits (suc k) n h = step k n (λ g. by_digits k (n / 10) (omega arith)) (ltb n 10) refl

-- a larger bound changes nothing
same_bound : (k l n : ℕ) → n ≤ k → n ≤ l → decimal_in k n ≡ decimal_in l n
same_bound k l n h g =
    by_digits (λ (m : ℕ) (s : List ℕ). (j : ℕ) → m ≤ j → s ≡ decimal_in j m) (λ m b j i. sym (small j m b)) more k n h l g
  where
    more : (m : ℕ) (s : List ℕ) → 10 ≤ m → ((j : ℕ) → m / 10 ≤ j → s ≡ decimal_in j (m / 10)) → (j : ℕ) → m ≤ j
        → s ++ digit (m % 10) ≡ decimal_in j m
    more m s b f zero i = absurd (omega arith)
    more m s b f (suc j) i = ap (λ (a : List ℕ). a ++ digit (m % 10)) (f j (omega arith)) ∙ sym (large j m b)

pub decimal_small : (n : ℕ) → n < 10 → decimal n ≡ digit n
decimal_small n h = small n n h

pub decimal_large : (n : ℕ) → 10 ≤ n → decimal n ≡ decimal (n / 10) ++ digit (n % 10)
decimal_large zero h = absurd (omega arith)
decimal_large (suc k) h =
    large k (suc k) h
    ∙ ap (λ (a : List ℕ). a ++ digit (suc k % 10)) (same_bound k (suc k / 10) (suc k / 10) (omega arith) (omega arith))

-- Digits say a number: one digit its own value, one more behind others ten times what they say and its own.
pub data Says : List ℕ → ℕ → Type 0 where
  one : (d : ℕ) → d < 10 → Says (digit d) d
  more : (s : List ℕ) (n d : ℕ) → Says s n → d < 10 → Says (s ++ digit d) (n * 10 + d)

pub decimal_says : (n : ℕ) → Says (decimal n) n
decimal_says n =
    by_digits (λ (m : ℕ) (s : List ℕ). Says s m) Says.one
    (λ m s h f.
    let e : m / 10 * 10 + m % 10 ≡ m = omega arith in
    rw e at (Says.more s (m / 10) (m % 10) f (omega arith)))
    n n (omega arith)

-- No zero in front, but for 0.
pub decimal-front : (n : ℕ) → 0 < n → code "0" < get_or (decimal n) 0 0
decimal-front n =
    (by_digits (λ (m : ℕ) (s : List ℕ). (0 < length s) × (0 < m → code "0" < get_or s 0 0))
    (λ m h. (omega arith, λ p. omega arith))
    (λ m s h f. (
      omega (arith, length-append s (digit (m % 10))),
      λ p. rw (get_or-append s (digit (m % 10)) 0 0 f.0) (f.1 (omega arith)),
    ))
    n n (omega arith)).1

-- A number below 10 ^ j has at most j digits.
pub decimal-length : (n j : ℕ) → n < 10 ^ suc j → length (decimal n) ≤ suc j
decimal-length n =
    by_digits (λ (m : ℕ) (s : List ℕ). (j : ℕ) → m < 10 ^ suc j → length s ≤ suc j) (λ m h j g. omega arith) more n n
    (omega arith)
  where
    more : (m : ℕ) (s : List ℕ) → 10 ≤ m → ((j : ℕ) → m / 10 < 10 ^ suc j → length s ≤ suc j) → (j : ℕ) → m < 10 ^ suc j
        → length (s ++ digit (m % 10)) ≤ suc j
    more m s h f zero g = absurd (omega arith)
    more m s h f (suc j) g =
        omega (arith, length-append s (digit (m % 10)), f j (omega (arith, pow-suc 10 (suc j))))

digit-is : (d : ℕ) → d < 10 → all is_digit (digit d) ≡ true
digit-is d h = rw (le-leb (code "0") (code "0" + d) (omega arith), le-leb (code "0" + d) (code "9") (omega arith)) refl

pub decimal_digits : (n : ℕ) → all is_digit (decimal n) ≡ true
decimal_digits n = by_digits (λ (m : ℕ) (s : List ℕ). all is_digit s ≡ true) digit-is more n n (omega arith)
  where
    more : (m : ℕ) (s : List ℕ) → 10 ≤ m → all is_digit s ≡ true → all is_digit (s ++ digit (m % 10)) ≡ true
    more m s h f = rw (all_append is_digit s (digit (m % 10)), f) (digit-is (m % 10) (omega arith))

pub decimal-item : (n : ℕ) → all is_item (decimal n) ≡ true
decimal-item n = all_digit_item (decimal n) (decimal_digits n)

pub decimal-line : (n : ℕ) → all is_line (decimal n) ≡ true
decimal-line n = all_digit_line (decimal n) (decimal_digits n)

pub decimal_some : (n : ℕ) → 0 < length (decimal n)
decimal_some n =
    by_digits (λ (m : ℕ) (s : List ℕ). 0 < length s) (λ m h. omega arith)
    (λ m s h f. omega (arith, length-append s (digit (m % 10))))
    n n (omega arith)

-- A digit behind a number that is not 0.
decimal-more : (n b : ℕ) → 0 < n → is_digit b ≡ true → decimal n ++ (b ∷ []) ≡ decimal (n * 10 + (b - code "0"))
decimal-more n b p h =
    let r = digit_range b h in
    let m = n * 10 + (b - code "0") in
    let e : m / 10 ≡ n = omega arith in
    let d : code "0" + m % 10 ≡ b = omega arith in
    sym (decimal_large m (omega arith) ∙ (λ i. decimal (e i) ++ (d i ∷ [])))

-- Digits behind those of a number that is not 0.
decimal-run : (s : List ℕ) (n : ℕ) → (0 < length s → 0 < n) → all is_digit s ≡ true
    → (m : ℕ) × (decimal n ++ s ≡ decimal m)
decimal-run [] n p h = (n, append-nil (decimal n))
decimal-run (b ∷ s) n p h =
    let g = all_cons is_digit b s h in
    let q = p (omega arith) in
    let r = decimal-run s (n * 10 + (b - code "0")) (λ l. omega arith) g.1 in
    (r.0, sym (append_snoc (decimal n) b s) ∙ ap (λ (a : List ℕ). a ++ s) (decimal-more n b q g.0) ∙ r.1)

-- A zero in front stands alone.
abbrev pub ZeroAlone : List ℕ → Type 0
ZeroAlone s = (length s ≡ 1) ⊎ (get_or s 0 0 ≢ code "0")

-- Digits without a zero in front of others are a number's.
pub number-text : (s : List ℕ) → 0 < length s → all is_digit s ≡ true → ZeroAlone s
    → (n : ℕ) × (s ≡ decimal n)
number-text [] l h f = absurd (omega arith)
number-text (b ∷ s) l h f =
    let g = all_cons is_digit b s h in
    let r = digit_range b g.0 in
    let e : code "0" + (b - code "0") ≡ b = omega arith in
    let d = decimal_small (b - code "0") (omega arith) in
    let m = decimal-run s (b - code "0") (front r.0 f) g.1 in
    (m.0, ap (λ (a : ℕ). a ∷ s) (sym e) ∙ ap (λ (a : List ℕ). a ++ s) (sym d) ∙ m.1)
  where
    front : code "0" ≤ b → ZeroAlone (b ∷ s) → 0 < length s → 0 < b - code "0"
    front l (inl e) p = absurd (omega arith)
    front l (inr n) p = omega arith

-- The number that digits say, however large.
value : ℕ → List ℕ → ℕ
value n [] = n
value n (b ∷ s) = value (n * 10 + (b - code "0")) s

value-decimal : (n : ℕ) → value 0 (decimal n) ≡ n
unfolding value
value-decimal n =
    ap (value 0) (sym (append-nil (decimal n)))
    ∙ by_digits (λ (m : ℕ) (s : List ℕ). (t : List ℕ) → value 0 (s ++ t) ≡ value m t)
    (λ m h t. ap (λ (k : ℕ). value k t) (omega arith))
    (λ m s h f t. rw append_assoc (f (digit (m % 10) ++ t) ∙ ap (λ (k : ℕ). value k t) (omega arith)))
    n n (omega arith) []

pub decimal_injective : (m n : ℕ) → decimal m ≡ decimal n → m ≡ n
decimal_injective m n e = sym (value-decimal m) ∙ ap (value 0) e ∙ value-decimal n

value_le : (s : List ℕ) (n : ℕ) → n ≤ value n s
unfolding value
value_le [] n = omega arith
value_le (b ∷ s) n = omega (arith, value_le s (n * 10 + (b - code "0")))

-- A reading is the value of digits, below 2^64.
from-value : (s : List ℕ) (n : ℕ) → all is_digit s ≡ true → value n s < 2 ^ 64 → decimal_from n s ≡ Some (value n s)
unfolding decimal_from with_digit value
from-value [] n h l = refl
from-value (b ∷ s) n h l =
    let g = all_cons is_digit b s h in
    let m = n * 10 + (b - code "0") in
    rw (g.0, lt-ltb m (2 ^ 64) (omega (arith, value_le s m)), decimal_from) (from-value s m g.1 l)

from_exactly : (s : List ℕ) (n m : ℕ) → n < 2 ^ 64 → decimal_from n s ≡ Some m
    → (all is_digit s ≡ true) × (value n s ≡ m) × (m < 2 ^ 64)
unfolding decimal_from with_digit value
from_exactly [] n m l e = let q : n ≡ m = cc in (refl, q, omega arith)
from_exactly (b ∷ s) n m l e = go (is_digit b) (ltb k (2 ^ 64)) (from_exactly s k m) refl refl
  where
    k : ℕ
    k = n * 10 + (b - code "0")

    go : (d t : Bool) → (k < 2 ^ 64 → decimal_from k s ≡ Some m → (all is_digit s ≡ true) × (value k s ≡ m) × (m < 2 ^ 64))
        → is_digit b ≡ d → ltb k (2 ^ 64) ≡ t → (all is_digit (b ∷ s) ≡ true) × (value k s ≡ m) × (m < 2 ^ 64)
    go true true f d t = let r = f (ltb-true k (2 ^ 64) t) (rw (d, t, decimal_from) at e) in (rw d r.0, r.1, r.2)
    go true false f d t = absurd (none-some m (rw (d, t, decimal_from) at e))
    go false u f d t = absurd (none-some m (rw (d, decimal_from) at e))

pub decimal_zero_alone : (n : ℕ) → ZeroAlone (decimal n)
unfolding decimal_in
decimal_zero_alone zero = inl refl
decimal_zero_alone (suc k) = inr (λ e. omega (arith, decimal-front (suc k) (omega arith)))

-- A reading begins at 0, where no zero stands in front of others.
of-from : (s : List ℕ) → 0 < length s → ZeroAlone s → decimal_of s ≡ decimal_from 0 s
unfolding decimal_of
of-from s l (inl e) = rw (e, and-false) refl
of-from s l (inr n) = rw (ne_eqb (length s) 0 (omega arith), ne_eqb (get_or s 0 0) (code "0") n) refl

of_exactly : (s : List ℕ) (n : ℕ) → decimal_of s ≡ Some n → (0 < length s) × ZeroAlone s × (decimal_from 0 s ≡ Some n)
unfolding decimal_of
of_exactly [] n e = absurd (none-some n e)
of_exactly (b ∷ s) n e = go (eqb b (code "0")) (ltb 1 (length (b ∷ s))) refl refl
  where
    some : eqb (length (b ∷ s)) 0 ≡ false
    some = ne_eqb (length (b ∷ s)) 0 (omega arith)

    go : (z t : Bool) → eqb b (code "0") ≡ z → ltb 1 (length (b ∷ s)) ≡ t
        → (0 < length (b ∷ s)) × ZeroAlone (b ∷ s) × (decimal_from 0 (b ∷ s) ≡ Some n)
    go true true z t = absurd (none-some n (rw (some, z, t) at e))
    go true false z t = (omega arith, inl (omega (arith, ltb-false 1 (length (b ∷ s)) t)), rw (some, z, t) at e)
    go false t z u = (omega arith, inr (eqb-false _ _ z), rw (some, z) at e)

pub decimal_exactly : (s : List ℕ) (n : ℕ) → (decimal_of s ≡ Some n) ↔ ((s ≡ decimal n) × (n < 2 ^ 64))
decimal_exactly s n = (to, λ p. ap decimal_of p.0 ∙ from p.1)
  where
    to : decimal_of s ≡ Some n → (s ≡ decimal n) × (n < 2 ^ 64)
    to e =
        let o = of_exactly s n e in
        let v = from_exactly s 0 n (omega arith) o.2 in
        let t = number-text s o.0 v.0 o.1 in
        let q : t.0 ≡ n = sym (value-decimal t.0) ∙ ap (value 0) (sym t.1) ∙ v.1 in
        (t.1 ∙ ap decimal q, v.2)

    from : n < 2 ^ 64 → decimal_of (decimal n) ≡ Some n
    from h =
        of-from (decimal n) (decimal_some n) (decimal_zero_alone n)
        ∙ from-value (decimal n) 0 (decimal_digits n) (omega (arith, value-decimal n))
        ∙ ap Some (value-decimal n)
