-- Bytes against words: lengths and bounds, that the two conversions undo each other, and that they go through append,
-- take, drop and xor. By induction, four bytes to a word.
use mathlib.Core.Path.{◌≡◌, refl, sym, ap, ap₂, ◌∙◌}
use mathlib.Core.List.{List, [], ◌∷◌, ◌++◌}
use Prim.Native.Nat.{ℕ, zero, suc, ◌+◌, ◌*◌, ◌/◌, ◌%◌, ◌^◌}
use native.Mathlib.Nat.{mod-lt, zero-div}
use native.Mathlib.Omega.{arith}
use lib.Dec.{lit<}
use lib.Bits.{xor_shr, xor_mod}
use lib.ListN.{length, take, drop, get_or}
use lib.Seq.{take-nil, drop-nil}
use Rattle.sparkle.specs.Words.{Words, Bytes}
use Rattle.sparkle.specs.Words.Below.{none, more}
use Rattle.sparkle.specs.Sparkle.{xors}
use Rattle.sparkle.proofs.Below.{below-xors}
use Rattle.schwaemm.specs.Bytes.{to_words, to_bytes}

pub length-to_bytes : (w : List ℕ) → length (to_bytes w) ≡ length w * 4
unfolding to_bytes
length-to_bytes [] = refl
length-to_bytes (x ∷ w) = omega (arith, length-to_bytes w)

pub length-to_words : (b : List ℕ) → length b % 4 ≡ 0 → length (to_words b) ≡ length b / 4
unfolding to_words
length-to_words [] h = refl
length-to_words (x ∷ []) h = absurd (omega arith)
length-to_words (x ∷ (y ∷ [])) h = absurd (omega arith)
length-to_words (x ∷ (y ∷ (z ∷ []))) h = absurd (omega arith)
length-to_words (x ∷ (y ∷ (z ∷ (t ∷ b)))) h = omega (arith, length-to_words b (omega arith))

pub bytes-to_bytes : (w : List ℕ) → Bytes (to_bytes w)
unfolding to_bytes
bytes-to_bytes [] = none
bytes-to_bytes (x ∷ w) =
    more (mod-lt x (lit< tt))
    (more (mod-lt (x / 2 ^ 8) (lit< tt))
    (more (mod-lt (x / 2 ^ 16) (lit< tt)) (more (mod-lt (x / 2 ^ 24) (lit< tt)) (bytes-to_bytes w))))

pub words-to_words : {b : List ℕ} → Bytes b → Words (to_words b)
unfolding to_words
words-to_words none = none
words-to_words (more {x = x} h none) = more {x = x} (omega arith) none
words-to_words (more {x = x} h (more {x = y} k none)) = more {x = x + y * 2 ^ 8} (omega arith) none
words-to_words (more {x = x} h (more {x = y} k (more {x = z} l none))) = more {x = x + y * 2 ^ 8 + z * 2 ^ 16} (omega arith) none
words-to_words (more {x = x} h (more {x = y} k (more {x = z} l (more {x = t} m hs)))) =
    more {x = x + y * 2 ^ 8 + z * 2 ^ 16 + t * 2 ^ 24} (omega arith) (words-to_words hs)

pub to_bytes-to_words : {b : List ℕ} → Bytes b → length b % 4 ≡ 0 → to_bytes (to_words b) ≡ b
unfolding to_bytes to_words
to_bytes-to_words none e = refl
to_bytes-to_words (more h none) e = absurd (omega arith)
to_bytes-to_words (more h (more k none)) e = absurd (omega arith)
to_bytes-to_words (more h (more k (more l none))) e = absurd (omega arith)
to_bytes-to_words (more {x = x} h (more {x = y} k (more {x = z} l (more {x = t} m hs)))) e =
    let word : ℕ = x + y * 2 ^ 8 + z * 2 ^ 16 + t * 2 ^ 24 in
    let d1 : word / 2 ^ 8 ≡ y + z * 2 ^ 8 + t * 2 ^ 16 = omega arith in
    let d2 : word / 2 ^ 16 ≡ z + t * 2 ^ 8 = omega arith in
    let d3 : word / 2 ^ 24 ≡ t = omega arith in
    let e0 : word % 2 ^ 8 ≡ x = omega arith in
    let e1 : word / 2 ^ 8 % 2 ^ 8 ≡ y = rw d1 (omega arith) in
    let e2 : word / 2 ^ 16 % 2 ^ 8 ≡ z = rw d2 (omega arith) in
    let e3 : word / 2 ^ 24 % 2 ^ 8 ≡ t = rw d3 (omega arith) in
    let ih = to_bytes-to_words hs (omega arith) in
    λ i. e0 i ∷ (e1 i ∷ (e2 i ∷ (e3 i ∷ ih i)))

pub to_words-to_bytes : {w : List ℕ} → Words w → to_words (to_bytes w) ≡ w
unfolding to_bytes to_words
to_words-to_bytes none = refl
to_words-to_bytes (more {x = x} h hs) =
    let d1 : x / 2 ^ 16 * 2 ^ 8 + x / 2 ^ 8 % 2 ^ 8 ≡ x / 2 ^ 8 = omega arith in
    let d2 : x / 2 ^ 24 * 2 ^ 8 + x / 2 ^ 16 % 2 ^ 8 ≡ x / 2 ^ 16 = omega arith in
    let d3 : x / 2 ^ 24 % 2 ^ 8 ≡ x / 2 ^ 24 = omega arith in
    let e : x % 2 ^ 8 + x / 2 ^ 8 % 2 ^ 8 * 2 ^ 8 + x / 2 ^ 16 % 2 ^ 8 * 2 ^ 16 + x / 2 ^ 24 % 2 ^ 8 * 2 ^ 24 ≡ x = omega arith in
    λ i. e i ∷ to_words-to_bytes hs i

pub to_words-append : (a b : List ℕ) → length a % 4 ≡ 0 → to_words (a ++ b) ≡ to_words a ++ to_words b
unfolding to_words
to_words-append [] b h = refl
to_words-append (x ∷ []) b h = absurd (omega arith)
to_words-append (x ∷ (y ∷ [])) b h = absurd (omega arith)
to_words-append (x ∷ (y ∷ (z ∷ []))) b h = absurd (omega arith)
to_words-append (x ∷ (y ∷ (z ∷ (t ∷ a)))) b h =
    ap (◌∷◌ (x + y * 2 ^ 8 + z * 2 ^ 16 + t * 2 ^ 24)) (to_words-append a b (omega arith))

pub to_bytes-append : (u v : List ℕ) → to_bytes (u ++ v) ≡ to_bytes u ++ to_bytes v
unfolding to_bytes
to_bytes-append [] v = refl
to_bytes-append (x ∷ u) v = rw (to_bytes-append u v)

four-more : (n : ℕ) → suc n * 4 ≡ suc (suc (suc (suc (n * 4))))
four-more n = omega arith

pub to_words-take : (n : ℕ) (b : List ℕ) → take n (to_words b) ≡ to_words (take (n * 4) b)
unfolding to_words
to_words-take zero b = refl
to_words-take (suc n) [] = rw four-more
to_words-take (suc n) (x ∷ []) = rw four-more (cc (take-nil {A = ℕ} n))
to_words-take (suc n) (x ∷ (y ∷ [])) = rw four-more (cc (take-nil {A = ℕ} n))
to_words-take (suc n) (x ∷ (y ∷ (z ∷ []))) = rw four-more (cc (take-nil {A = ℕ} n))
to_words-take (suc n) (x ∷ (y ∷ (z ∷ (t ∷ b)))) = rw (four-more, to_words-take n b)

pub to_words-drop : (n : ℕ) (b : List ℕ) → drop n (to_words b) ≡ to_words (drop (n * 4) b)
unfolding to_words
to_words-drop zero b = refl
to_words-drop (suc n) [] = rw four-more
to_words-drop (suc n) (x ∷ []) = rw four-more (drop-nil n)
to_words-drop (suc n) (x ∷ (y ∷ [])) = rw four-more (drop-nil n)
to_words-drop (suc n) (x ∷ (y ∷ (z ∷ []))) = rw four-more (drop-nil n)
to_words-drop (suc n) (x ∷ (y ∷ (z ∷ (t ∷ b)))) = rw (four-more, to_words-drop n b)

pub to_bytes-take : (n : ℕ) (w : List ℕ) → take (n * 4) (to_bytes w) ≡ to_bytes (take n w)
unfolding to_bytes
to_bytes-take zero w = refl
to_bytes-take (suc n) [] = rw four-more
to_bytes-take (suc n) (x ∷ w) = rw (four-more, to_bytes-take n w)

pub to_bytes-drop : (n : ℕ) (w : List ℕ) → drop (n * 4) (to_bytes w) ≡ to_bytes (drop n w)
unfolding to_bytes
to_bytes-drop zero w = refl
to_bytes-drop (suc n) [] = rw four-more
to_bytes-drop (suc n) (x ∷ w) = rw (four-more, to_bytes-drop n w)

-- byte i is byte i % 4 of word i / 4
pub to_bytes-at : (w : List ℕ) (i : ℕ) → get_or (to_bytes w) i 0 ≡ get_or w (i / 4) 0 / 2 ^ (8 * (i % 4)) % 2 ^ 8
unfolding to_bytes
to_bytes-at [] i = ap (λ (x : ℕ). x % 2 ^ 8) (sym (zero-div (2 ^ (8 * (i % 4)))))
to_bytes-at (x ∷ w) zero = omega arith
to_bytes-at (x ∷ w) (suc zero) = refl
to_bytes-at (x ∷ w) (suc (suc zero)) = refl
to_bytes-at (x ∷ w) (suc (suc (suc zero))) = refl
to_bytes-at (x ∷ w) (suc (suc (suc (suc i)))) =
    let e : suc (suc (suc (suc i))) / 4 ≡ suc (i / 4) = omega arith in
    let f : suc (suc (suc (suc i))) % 4 ≡ i % 4 = omega arith in
    rw (e, f) (to_bytes-at w i)

pub to_bytes-xors : (u v : List ℕ) → to_bytes (xors u v) ≡ xors (to_bytes u) (to_bytes v)
unfolding to_bytes xors
to_bytes-xors [] v = refl
to_bytes-xors (x ∷ u) [] = refl
to_bytes-xors (x ∷ u) (y ∷ v) = simp (xor_shr, xor_mod, to_bytes-xors u v)

-- both lists are whole words; one may be longer
pub to_words-xors : {a b : List ℕ} → Bytes a → Bytes b → length a % 4 ≡ 0 → length b % 4 ≡ 0 → to_words (xors a b) ≡ xors (to_words a) (to_words b)
to_words-xors {a} {b} ha hb ea eb =
    ap₂ (λ (u v : List ℕ). to_words (xors u v)) (sym (to_bytes-to_words ha ea)) (sym (to_bytes-to_words hb eb))
    ∙ ap to_words (sym (to_bytes-xors (to_words a) (to_words b)))
    ∙ to_words-to_bytes (below-xors (words-to_words ha) (words-to_words hb))
