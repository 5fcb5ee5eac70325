-- Bytes of a kind: all of a text, and those in front.
use mathlib.Core.Path.{◌≡◌, refl, sym, ap}
use mathlib.Core.Bool.{Bool, true, false, cond, ◌&&◌, and_assoc, and-eq-true_iff}
use mathlib.Core.Logic.{◌⊎◌, inl, inr}
use mathlib.Core.List.{List, [], ◌∷◌, ◌++◌}
use Prim.Native.Nat.{ℕ, suc, ◌≤◌, ◌<◌}
use Prim.Native.Char.{code}
use native.Mathlib.Omega.{arith}
use borrow.Author.Tests.{leb-true, ne_eqb}
use lib.Dec.{leb}
use lib.ListN.{length, get_or, take}
use lib.Seq.{take-length}
use Rattle.std.specs.List.{prefix_len}
use Rattle.forms.specs.Bytes.{all, front, is_letter, is_digit, is_hex_digit, is_item, is_line}

pub all_cons : (kind : ℕ → Bool) (b : ℕ) (s : List ℕ) → all kind (b ∷ s) ≡ true
    → (kind b ≡ true) × (all kind s ≡ true)
all_cons kind b s = (and-eq-true_iff (kind b) (all kind s)).0

pub front-all : (kind : ℕ → Bool) (s : List ℕ) → all kind s ≡ true → front kind s ≡ length s
front-all kind [] h = refl
front-all kind (b ∷ s) h =
    let g = all_cons kind b s h in
    rw g.0 (ap suc (front-all kind s g.1))

pub front-run : (kind : ℕ → Bool) (s : List ℕ) (d : ℕ) (rest : List ℕ) → all kind s ≡ true → kind d ≡ false
    → front kind (s ++ (d ∷ rest)) ≡ length s
front-run kind [] d rest h n = rw n refl
front-run kind (b ∷ s) d rest h n =
    let g = all_cons kind b s h in
    rw g.0 (ap suc (front-run kind s d rest g.1 n))

pub front_le : (kind : ℕ → Bool) (s : List ℕ) → front kind s ≤ length s
front_le kind [] = omega arith
front_le kind (b ∷ s) = go (front_le kind s) (kind b) refl
  where
    go : front kind s ≤ length s → (t : Bool) → kind b ≡ t → front kind (b ∷ s) ≤ length (b ∷ s)
    go f true e = rw e (omega arith)
    go f false e = rw e (omega arith)

pub front-taken : (kind : ℕ → Bool) (s : List ℕ) → all kind (take (front kind s) s) ≡ true
front-taken kind [] = refl
front-taken kind (b ∷ s) = go (front-taken kind s) (kind b) refl
  where
    go : all kind (take (front kind s) s) ≡ true → (t : Bool) → kind b ≡ t
        → all kind (take (front kind (b ∷ s)) (b ∷ s)) ≡ true
    go f true e = rw (e, e) f
    go f false e = rw e refl

pub front-whole : (kind : ℕ → Bool) (s : List ℕ) → front kind s ≡ length s → all kind s ≡ true
front-whole kind s e = rw (e, take-length s) at (front-taken kind s)

pub front_stop : (kind : ℕ → Bool) (s : List ℕ) → front kind s < length s
    → kind (get_or s (front kind s) 0) ≡ false
front_stop kind [] h = absurd (omega arith)
front_stop kind (b ∷ s) h = go (front_stop kind s) (kind b) refl h
  where
    go : (front kind s < length s → kind (get_or s (front kind s) 0) ≡ false) → (t : Bool) → kind b ≡ t
        → front kind (b ∷ s) < length (b ∷ s) → kind (get_or (b ∷ s) (front kind (b ∷ s)) 0) ≡ false
    go f true e g = rw e (f (omega (arith, rw e at g)))
    go f false e g = rw e e

-- The library's word for it.
pub front_is : (kind : ℕ → Bool) (s : List ℕ) → prefix_len kind s ≡ front kind s
front_is kind [] = refl
front_is kind (b ∷ s) = ap (λ n. cond (kind b) n 0) (rw (front_is kind s) (omega arith))

pub all_append : (kind : ℕ → Bool) (s t : List ℕ) → all kind (s ++ t) ≡ (all kind s && all kind t)
all_append kind [] t = refl
all_append kind (b ∷ s) t = rw (all_append kind s t) (sym (and_assoc (kind b) (all kind s) (all kind t)))

-- A kind within a wider one.
pub all_weaken : (kind wider : ℕ → Bool) → ((b : ℕ) → kind b ≡ true → wider b ≡ true) → (s : List ℕ)
    → all kind s ≡ true → all wider s ≡ true
all_weaken kind wider f [] h = refl
all_weaken kind wider f (b ∷ s) h =
    let g = all_cons kind b s h in
    rw (f b g.0) (all_weaken kind wider f s g.1)

-- The codes of a kind's bytes.
pub letter_range : (b : ℕ) → is_letter b ≡ true → (code "a" ≤ b) × (b ≤ code "z")
letter_range b h = let g = (and-eq-true_iff _ _).0 h in (leb-true _ _ g.0, leb-true _ _ g.1)

pub digit_range : (b : ℕ) → is_digit b ≡ true → (code "0" ≤ b) × (b ≤ code "9")
digit_range b h = let g = (and-eq-true_iff _ _).0 h in (leb-true _ _ g.0, leb-true _ _ g.1)

abbrev pub HexRange : ℕ → Type 0
HexRange b = ((code "0" ≤ b) × (b ≤ code "9")) ⊎ ((code "a" ≤ b) × (b ≤ code "f"))

pub hex_range : (b : ℕ) → is_hex_digit b ≡ true → HexRange b
hex_range b h = go (is_digit b) refl
  where
    go : (t : Bool) → is_digit b ≡ t → HexRange b
    go true e = inl (digit_range b e)
    go false e =
        let g = (and-eq-true_iff (leb (code "a") b) (leb b (code "f"))).0 (rw e at h) in
        inr (leb-true _ _ g.0, leb-true _ _ g.1)

pub hex_within : (b : ℕ) → is_hex_digit b ≡ true → (code "0" ≤ b) × (b ≤ code "f")
hex_within b h = go (hex_range b h)
  where
    go : HexRange b → (code "0" ≤ b) × (b ≤ code "f")
    go (inl g) = omega arith
    go (inr g) = omega arith

-- No blank, bracket or newline from `0` on.
high_item : (b : ℕ) → code "0" ≤ b → is_item b ≡ true
high_item b h = rw (ne_eqb b (code " ") (omega arith), ne_eqb b (code ")") (omega arith)) refl

high_line : (b : ℕ) → code "0" ≤ b → is_line b ≡ true
high_line b h = rw (ne_eqb b (code "\n") (omega arith)) refl

pub all_digit_hex : (s : List ℕ) → all is_digit s ≡ true → all is_hex_digit s ≡ true
all_digit_hex = all_weaken is_digit is_hex_digit (λ b h. rw h refl)

pub all_digit_item : (s : List ℕ) → all is_digit s ≡ true → all is_item s ≡ true
all_digit_item = all_weaken is_digit is_item (λ b h. high_item b (digit_range b h).0)

pub all_hex_item : (s : List ℕ) → all is_hex_digit s ≡ true → all is_item s ≡ true
all_hex_item = all_weaken is_hex_digit is_item (λ b h. high_item b (hex_within b h).0)

pub all_digit_line : (s : List ℕ) → all is_digit s ≡ true → all is_line s ≡ true
all_digit_line = all_weaken is_digit is_line (λ b h. high_line b (digit_range b h).0)

pub all_hex_line : (s : List ℕ) → all is_hex_digit s ≡ true → all is_line s ≡ true
all_hex_line = all_weaken is_hex_digit is_line (λ b h. high_line b (hex_within b h).0)
