-- A text in its array: bytes behind it, one thing behind another, and a text that fits.
use mathlib.Core.Path.{◌≡◌, refl, sym, ap, ◌∙◌}
use mathlib.Core.List.{List, [], ◌∷◌, ◌++◌, append_assoc}
use Prim.Native.Nat.{ℕ, zero, suc, ◌+◌, ◌-◌, ◌≤◌, ◌<◌, ◌^◌}
use native.Mathlib.Omega.{arith}
use lib.ListN.{length, take, drop, replicate}
use lib.Seq.{take_all, drop-drop}
use borrow.Rule.Slice.PartMut.{put_mid, same_len_mid}
use Rattle.std.proofs.Common.{◌/◌, ◌%◌, min, length-take-le, length-drop}
use Rattle.std.proofs.Math.Seq.{take-append-add}
use Rattle.std.proofs.lemmas.List.{take_min, drop-replicate}
use Rattle.std.proofs.lemmas.Slice.{take-put_mid, drop-put_mid}
use Rattle.std.proofs.lemmas.Fmt.{decimal_by_steps}
use Rattle.std.specs.Fmt as fmt
use Rattle.forms.specs.Decimal.{decimal}
use Rattle.forms.proofs.DecimalLaws.{decimal_small, decimal_large}
use Rattle.sheet_text.specs.Text.{cut, Adds}

-- what is left out once is left out twice
take-twice : (m : ℕ) (a s : List ℕ) → take m (take m a ++ s) ≡ take m (a ++ s)
take-twice zero a s = refl
take-twice (suc m) [] s = refl
take-twice (suc m) (x ∷ a) s = ap (λ (l : List ℕ). x ∷ l) (take-twice m a s)

-- one thing behind another
infixl 60 ◌⨾◌
pub ◌⨾◌ : {t u r x y : List ℕ} → Adds t x u → Adds u y r → Adds t (x ++ y) r
unfolding cut
◌⨾◌ {t = t} {x = x} {y = y} p q =
    record {
      behind = q.behind ∙ ap (λ (l : List ℕ). take 128 (l ++ y)) p.behind ∙ take-twice 128 (t ++ x) y
          ∙ ap (take 128) (append_assoc t x y);
    }

-- what fits and is added to no text is the text
pub text_is : {t r : List ℕ} → t ≡ [] → (s : List ℕ) → length s ≤ 128 → Adds t s r → r ≡ s
unfolding cut
text_is {r = r} e s h a = a.behind ∙ ap (λ (l : List ℕ). take 128 (l ++ s)) e ∙ take_all 128 s h

-- `{}` writes the digits of a number
pub decimal_is : (n : ℕ) → n < 2 ^ 64 → fmt.decimal n ≡ decimal n
decimal_is = decimal_by_steps (λ (n : ℕ) (s : List ℕ). s ≡ decimal n) (λ n h. sym (decimal_small n h)) more
  where
    more : (n : ℕ) (s : List ℕ) → 10 ≤ n → s ≡ decimal (n / 10) → s ++ ((48 + n % 10) ∷ []) ≡ decimal n
    more n s h e = rw (decimal_large n h, e) refl

-- n bytes behind the first ones of an array, as many as there are or as have room
module _ (at n : ℕ) (bytes s r : List ℕ) (size : length bytes ≡ 128) (h : at ≤ 128) (count : n ≡ min (128 - at) (length s)) (written : r ≡ take n s) where
  within : n ≤ length s
  within = omega (arith, count)

  count-written : length r ≡ n
  count-written = ap length written ∙ length-take-le n s within

  room : take 128 (take at bytes ++ s) ≡ take at bytes ++ take (128 - at) s
  room =
      let front : length (take at bytes) ≡ at = length-take-le at bytes (omega arith) in
      let all : length (take at bytes) + (128 - at) ≡ 128 = omega arith in
      ap (λ (m : ℕ). take m (take at bytes ++ s)) (sym all) ∙ take-append-add (take at bytes) s (128 - at)

  taken : r ≡ take (128 - at) s
  taken = written ∙ ap (λ (m : ℕ). take m s) count ∙ take_min (128 - at) s

  pub push_adds : Adds (take at bytes) s (take (at + n) (put_mid at (at + n - at) bytes r))
  unfolding cut
  push_adds =
      record {
        behind = take-put_mid at (at + n - at) bytes r (at + n) (omega (arith, count-written)) (omega arith)
            ∙ ap (λ (l : List ℕ). take at bytes ++ l) taken
            ∙ sym room;
      }

  pub push_length : length (put_mid at (at + n - at) bytes r) ≡ 128
  push_length =
      let behind = length-drop at bytes in
      let middle = length-take-le (at + n - at) (drop at bytes) (omega arith) in
      same_len_mid at (at + n - at) bytes r (omega (arith, count-written, middle)) ∙ size

  pub push_zeros : drop at bytes ≡ replicate (128 - at) 0
      → drop (at + n) (put_mid at (at + n - at) bytes r) ≡ replicate (128 - (at + n)) 0
  push_zeros e =
      drop-put_mid at (at + n - at) bytes r (at + n) (omega arith) (omega arith) (omega (arith, count-written))
      ∙ zeros_behind
    where
      zeros_behind : drop (at + n) bytes ≡ replicate (128 - (at + n)) 0
      zeros_behind = sym (drop-drop n at bytes) ∙ ap (drop n) e ∙ drop-replicate n (128 - at) 0 ∙ ap (λ (m : ℕ). replicate m 0) (omega arith)
