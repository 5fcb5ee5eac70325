-- What the proofs of the functions share: a step of each definition, and that an end lies within the bytes.
use mathlib.Core.Path.{◌≡◌, refl, ap₂, ◌∙◌}
use mathlib.Core.Bool.{Bool, true, false, cond, ◌||◌}
use mathlib.Core.List.{List, [], ◌∷◌, ◌++◌}
use Prim.Native.Nat.{ℕ, zero, suc, ◌+◌, ◌-◌, ◌*◌, ◌/◌, ◌%◌, ◌^◌, ◌≤◌, ◌<◌, min}
use Prim.Native.Char.{code}
use native.Mathlib.Nat.{zero-add}
use native.Mathlib.Numerals.{add-one}
use native.Mathlib.Omega.{arith}
use borrow.Author.Tests.{ltb-true, ltb-false, eqb-true, lt-ltb, le-ltb, ne_eqb}
use lib.Dec.{ltb, leb, eqb}
use lib.ListN.{length, get_or, take, drop, set, length-drop, drop_of_length-le}
use lib.Seq.{drop-cons, take_all, paste-suc}
use Rattle.std.specs.Prelude.{Some, None, Ok}
use Rattle.forms.specs.Bytes.{front, is_letter, is_digit, is_hex_digit}
use Rattle.forms.specs.Form.{End, stop, is_number, plain_end, is_open, open_end, onward, items_end, form_end}
use Rattle.forms.specs.Decimal.{with_digit, decimal_from}
use Rattle.forms.specs.Hex.{digit_value, hex_bytes, byte_at, decoded_out}
use Rattle.forms.proofs.BytesLaws.{front_le}
use Rattle.forms.proofs.HexLaws.{hex-length}

-- Each pair of digits is a byte.
hex_bytes_at : (s : List ℕ) (i : ℕ) → i * 2 + 1 < length s → get_or (hex_bytes s) i 0 ≡ byte_at s i
unfolding byte_at
hex_bytes_at [] i h = absurd (omega arith)
hex_bytes_at (a ∷ []) i h = absurd (omega arith)
hex_bytes_at (a ∷ (b ∷ s)) zero h = refl
hex_bytes_at (a ∷ (b ∷ s)) (suc i) h =
    let high : suc (suc (i * 2)) ≡ suc i * 2 = omega arith in
    let low : suc (suc (i * 2 + 1)) ≡ suc i * 2 + 1 = omega arith in
    hex_bytes_at s i (omega arith)
    ∙ ap₂ (λ (j k : ℕ). digit_value (get_or (a ∷ (b ∷ s)) j 0) * 16 + digit_value (get_or (a ∷ (b ∷ s)) k 0)) high low

-- A turn of the loop that writes them: i of them stand in front of what was there, then one more.
pub byte_written : (s before out : List ℕ) (i v : ℕ) → i * 2 + 1 < length s → i < length before
    → out ≡ take i (hex_bytes s) ++ drop i before → v ≡ byte_at s i
    → set out i v ≡ take (i + 1) (hex_bytes s) ++ drop (i + 1) before
byte_written s before out i v h room e f =
    rw (e, f, ← hex_bytes_at s i h, add-one i)
    (simp zero-add at (paste-suc before 0 (hex_bytes s) i 0 (omega arith) (omega (arith, hex-length s))))

-- Its end: as many bytes as there are, or as there is room for.
pub decoded_end : (s out : List ℕ) (n : ℕ) → n ≡ min (length s / 2) (length out)
    → take n (hex_bytes s) ++ drop n out ≡ decoded_out s out
unfolding decoded_out
decoded_end s out n h = cases (ltb (length out) (length s / 2)) refl
  where
    cases : (full : Bool) → ltb (length out) (length s / 2) ≡ full
        → take n (hex_bytes s) ++ drop n out ≡ take (length out) (hex_bytes s) ++ drop (length s / 2) out
    cases true e =
        let f = ltb-true (length out) (length s / 2) e in
        let m : n ≡ length out = omega (arith, h, f) in
        rw (m, drop_of_length-le out {i = length out} (omega arith), drop_of_length-le out {i = length s / 2} (omega (arith, f))) refl
    cases false e =
        let f = ltb-false (length out) (length s / 2) e in
        let m : n ≡ length s / 2 = omega (arith, h, f) in
        let l = hex-length s in
        rw (m, take_all (length s / 2) (hex_bytes s) (omega (arith, l)), take_all (length out) (hex_bytes s) (omega (arith, l, f)))
        refl

-- A number with a byte behind it that is no digit, and with a digit.
pub digit_refused : (n b : ℕ) → is_digit b ≡ false → with_digit n b ≡ None
unfolding with_digit
digit_refused n b e = rw e refl

pub digit_over : (n b : ℕ) → is_digit b ≡ true → 2 ^ 64 ≤ n * 10 + (b - code "0") → with_digit n b ≡ None
unfolding with_digit
digit_over n b e h = rw (e, le-ltb _ _ h) refl

pub digit_added : (n b m : ℕ) → is_digit b ≡ true → m ≡ n * 10 + (b - code "0") → m < 2 ^ 64
    → with_digit n b ≡ Some m
unfolding with_digit
digit_added n b m e q h = rw (e, ← q, lt-ltb _ _ h) refl

-- Decimal digits from the i-th on, behind those of n.
pub decimal-more : (s : List ℕ) (n m i : ℕ) → i < length s → with_digit n (get_or s i 0) ≡ Some m
    → decimal_from n (drop i s) ≡ decimal_from m (drop (i + 1) s)
unfolding decimal_from
decimal-more s n m i h e = rw (add-one i, drop-cons s i 0 h, decimal_from, e) refl

pub decimal_stops : (s : List ℕ) (n i : ℕ) → i < length s → with_digit n (get_or s i 0) ≡ None
    → decimal_from n (drop i s) ≡ None
unfolding decimal_from
decimal_stops s n i h e = rw (drop-cons s i 0 h, decimal_from, e) refl

-- A part that goes to the end of the bytes.
pub from_place : (s : List ℕ) (at : ℕ) → take (length s - at) (drop at s) ≡ drop at s
from_place s at = take_all (length s - at) (drop at s) (omega (arith, length-drop at s))

-- Where a byte that is not 0 stands in front, there is one.
pub some_byte : (s : List ℕ) (b : ℕ) → 0 < b → eqb (get_or s 0 0) b ≡ true → 0 < length s
some_byte [] b h e = absurd (omega (arith, eqb-true 0 b e))
some_byte (a ∷ s) b h e = omega arith

-- An end within l bytes. Every end lies within the bytes that were read (`form_within`).
data Within (l : ℕ) : End → Type 0 where
  behind : (n : ℕ) → n ≤ l → Within l (Ok n)
  stopped : (n : ℕ) → n ≤ l → Within l (stop n)

either : {l : ℕ} (t : Bool) {p q : End} → (t ≡ true → Within l p) → (t ≡ false → Within l q) → Within l (cond t p q)
either true f g = f refl
either false f g = g refl

plain_within : (s : List ℕ) → Within (length s) (plain_end s)
unfolding plain_end
plain_within s =
    let letters = front_le is_letter s in
    let digits = front_le is_hex_digit s in
    either (eqb (get_or s 0 0) 45) (λ e. behind 1 (some_byte s 45 (omega arith) e))
    (λ _. either (leb (front is_hex_digit s) (front is_letter s))
    (λ _. either (eqb (front is_letter s) 0) (λ _. stopped 0 (omega arith)) (λ _. behind _ letters))
    (λ _. either (eqb (front is_hex_digit s % 2) 0 || is_number s (front is_hex_digit s)) (λ _. behind _ digits) (λ _. stopped _ digits)))

open_within : (s : List ℕ) → Within (length s) (open_end s)
unfolding open_end is_open
open_within s =
    let n = front is_letter (drop 1 s) in
    let word = front_le is_letter (drop 1 s) in
    either (is_open s)
    (λ e.
    let some = some_byte s 40 (omega arith) e in
    either (eqb n 0) (λ _. stopped 1 some) (λ _. behind (1 + n) (omega (arith, length-drop 1 s))))
    (λ _. stopped 0 (omega arith))

next_within : {l m : ℕ} (from : ℕ) {e : End} {next : ℕ → End} → Within m e → from + m ≤ l
    → ((n : ℕ) → n ≤ l → Within l (next n))
    → Within l (onward from e next)
next_within from (behind n h) f g = g (from + n) (omega arith)
next_within from (stopped n h) f g = stopped (from + n) (omega arith)

-- The items of a form, around forms whose ends lie within the bytes.
module _ (nested : List ℕ → End) (nested-within : (s : List ℕ) → Within (length s) (nested s)) where
  item_within : (s : List ℕ) → Within (length s) (cond (is_open s) (nested s) (plain_end s))
  item_within s = either (is_open s) (λ _. nested-within s) (λ _. plain_within s)

  items_within : (k : ℕ) (s : List ℕ) (at : ℕ) → at ≤ length s → Within (length s) (items_end nested k s at)
  unfolding items_end
  items_within zero s at h = stopped at h
  items_within (suc k) s at h =
      either (ltb at (length s))
      (λ e.
      let more = ltb-true at (length s) e in
      either (eqb (get_or s at 0) 41) (λ _. behind (at + 1) (omega arith))
      (λ _. either (eqb (get_or s at 0) 32)
      (λ _.
      next_within (at + 1) (item_within (drop (at + 1) s)) (omega (arith, length-drop (at + 1) s))
      (λ n f. items_within k s n f))
      (λ _. stopped at h)))
      (λ _. stopped at h)

form_within : (depth : ℕ) (s : List ℕ) → Within (length s) (form_end depth s)
unfolding form_end
form_within zero s = stopped 0 (omega arith)
form_within (suc depth) s =
    next_within 0 (open_within s) (omega arith)
    (λ at h. items_within (λ rest. form_end depth rest) (form_within depth) (length s) s at h)

ends_behind : {n l : ℕ} → Within l (Ok n) → n ≤ l
ends_behind (behind n h) = h

stops_at : {n l : ℕ} → Within l (stop n) → n ≤ l
stops_at (stopped n h) = h

-- A form that is not 0 deep.
form-is : (depth : ℕ) (s : List ℕ) → (depth ≡ 0 → ⊥)
    → form_end depth s ≡ onward 0 (open_end s) (λ at. items_end (λ r. form_end (depth - 1) r) (length s) s at)
unfolding form_end
form-is zero s h = absurd (h refl)
form-is (suc d) s h = let e : suc d - 1 ≡ d = omega arith in rw e refl

pub not_opened : (depth n : ℕ) (s : List ℕ) → (depth ≡ 0 → ⊥) → open_end s ≡ stop n → form_end depth s ≡ stop n
not_opened depth n s h e = rw (form-is depth s h, e, zero-add n) refl

-- Within a form: its bracket and word are read, and the items before `at`. `whole` is the form's end, `depth` how deep
-- the forms among its items may be.
pub record Reading (depth : ℕ) (s : List ℕ) (at : ℕ) (whole : End) : Type 0 where
  pub bound : ℕ
  pub room : length s ≤ at + bound
  pub inside : at ≤ length s
  pub rest : whole ≡ items_end (λ r. form_end depth r) bound s at

pub opened : (depth n : ℕ) (s : List ℕ) → (depth ≡ 0 → ⊥) → open_end s ≡ Ok n
    → Reading (depth - 1) s n (form_end depth s)
opened depth n s h e =
    record {
      bound = length s;
      room = omega arith;
      inside = ends_behind (rw e at (open_within s));
      rest = rw (form-is depth s h, e, zero-add n) refl;
    }

pub ended : (depth : ℕ) (s : List ℕ) (at : ℕ) (whole : End) → Reading depth s at whole → length s ≤ at
    → whole ≡ stop at
unfolding items_end
ended depth s at whole r h = r.rest ∙ cases r.bound
  where
    cases : (k : ℕ) → items_end (λ x. form_end depth x) k s at ≡ stop at
    cases zero = refl
    cases (suc k) = rw (le-ltb at (length s) h) refl

-- An item from the front.
abbrev pub item_end : (depth : ℕ) → List ℕ → End
item_end depth s = cond (is_open s) (form_end depth s) (plain_end s)

pub nested_item : (depth : ℕ) (s : List ℕ) → is_open s ≡ true → form_end depth s ≡ item_end depth s
nested_item depth s e = rw e refl

pub plain_item : (depth : ℕ) (s : List ℕ) → is_open s ≡ false → plain_end s ≡ item_end depth s
plain_item depth s e = rw e refl

-- A turn of the loop over the items: what the byte at `at` and the item behind it say.
module _ (depth : ℕ) (s : List ℕ) (at : ℕ) (whole : End) (r : Reading depth s at whole) (more : at < length s) where
  abbrev step : ℕ → End
  step k =
      cond (eqb (get_or s at 0) 41) (Ok (at + 1))
      (cond (eqb (get_or s at 0) 32)
      (onward (at + 1) (item_end depth (drop (at + 1) s)) (λ next. items_end (λ x. form_end depth x) k s next))
      (stop at))

  stepped : (k : ℕ) × (length s ≤ at + suc k) × (whole ≡ step k)
  unfolding items_end
  stepped = cases r.bound r.room r.rest
    where
      cases : (k : ℕ) → length s ≤ at + k → whole ≡ items_end (λ x. form_end depth x) k s at
          → (k : ℕ) × (length s ≤ at + suc k) × (whole ≡ step k)
      cases zero h e = absurd (omega arith)
      cases (suc k) h e = (k, h, e ∙ rw (lt-ltb at (length s) more) refl)

  pub closed : get_or s at 0 ≡ 41 → whole ≡ Ok (at + 1)
  closed e = stepped.2 ∙ rw e refl

  pub no_item : (get_or s at 0 ≡ 41 → ⊥) → (get_or s at 0 ≡ 32 → ⊥) → whole ≡ stop at
  no_item e f = stepped.2 ∙ rw (ne_eqb _ 41 e, ne_eqb _ 32 f) refl

  item_inside : Within (length (drop (at + 1) s)) (item_end depth (drop (at + 1) s))
  item_inside = item_within (λ x. form_end depth x) (form_within depth) (drop (at + 1) s)

  pub item-read : (n : ℕ) → get_or s at 0 ≡ 32 → item_end depth (drop (at + 1) s) ≡ Ok n
      → Reading depth s (at + 1 + n) whole
  item-read n e f =
      record {
        bound = stepped.0;
        room = omega (arith, stepped.1);
        inside = omega (arith, length-drop (at + 1) s, ends_behind (rw f at item_inside));
        rest = stepped.2 ∙ rw (e, f) refl;
      }

  pub item_stops : (n : ℕ) → get_or s at 0 ≡ 32 → item_end depth (drop (at + 1) s) ≡ stop n
      → (whole ≡ stop (at + 1 + n)) × (at + 1 + n ≤ length s)
  item_stops n e f = (stepped.2 ∙ rw (e, f) refl, omega (arith, length-drop (at + 1) s, stops_at (rw f at item_inside)))
