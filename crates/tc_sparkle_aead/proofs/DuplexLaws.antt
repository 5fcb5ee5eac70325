-- A state of so many words, some of them the rate's: its sizes in words, and the words that are permuted when a block is
-- taken up, one by one.
use Rattle.std.proofs.Common.{◌≡◌, ℕ, ◌+◌, ◌-◌, ◌*◌, ◌/◌, ◌%◌, ◌<◌, ◌≤◌, Bool, true, false, ltb, cond, List, [], ◌∷◌, ◌++◌, length, get_or, take, drop, set, sym, refl, ap, ◌∙◌, ap₂, arith, suc, zero, inl, inr, length-append, length-take, length-drop, length-take-le, take_all, take_at, mod-eq_of_lt}
use Rattle.std.proofs.Math.Nat.{mod-eq-sub-mod}
use Rattle.std.proofs.lemmas.Bool.{ltb-true, ltb-false, cases_lt}
use Rattle.std.proofs.lemmas.List.{ext_get_or, get_or_append_left, get_or-append_right, get_or-take, get_or-drop}
use lib.Bits.{bit_xor, bit_and}
use Rattle.sparkle.specs.Sparkle.{xors}
use Rattle.sparkle.proofs.Lengths.{length-xors}
use Rattle.schwaemm.specs.Schwaemm.{schwaemm256_256, outer, inner, feistel_swap, rho1, whitening}
use Rattle.schwaemm.proofs.Xors.{xors-at}
use Rattle.tc_sparkle_aead.proofs.Fill.{laid}
use Rattle.tc_sparkle_aead.specs.Message.{Fits, sized, state_in, put_state, masked, xor_last, xor_block}

-- a list twice
pub twice-at : (q : List ℕ) (n i : ℕ) → length q ≡ n → i < n + n → get_or (q ++ q) i 0 ≡ get_or q (i % n) 0
twice-at q n i e k =
    elim (cases_lt i n) [
      | inl l ↦ get_or_append_left q q 0 i (omega arith) ∙ ap (λ (m : ℕ). get_or q m 0) (sym (mod-eq_of_lt l))
      | inr l ↦
          let m : i - n < n = omega arith in
          get_or-append_right q q n i 0 e l ∙ ap (λ (m : ℕ). get_or q m 0) (sym (mod-eq-sub-mod l ∙ mod-eq_of_lt m))
    ]

-- eight words, each xored with a list's
pub xors_by : (u v r : List ℕ) → length r ≡ 8 → length v ≡ 8 → 8 ≤ length u
    → ((i : ℕ) → i < 8 → get_or r i 0 ≡ bit_xor (get_or u i 0) (get_or v i 0)) → r ≡ xors u v
xors_by u v r hr hv hu each =
    ext_get_or 0 r (xors u v) (omega (arith, length-xors u v))
    (λ i k. each i (omega arith) ∙ sym (xors-at u v i (omega arith) (omega arith)))

-- the words of a block under a mask, one by one
masked-at : (mask : ℕ) (s b : List ℕ) (i : ℕ) → i < length s → i < length b
    → get_or (masked mask s b) i 0 ≡ bit_xor (get_or b i 0) (bit_and (get_or s i 0) mask)
unfolding masked
masked-at mask [] b i h k = absurd (omega arith)
masked-at mask (x ∷ s) [] i h k = absurd (omega arith)
masked-at mask (x ∷ s) (y ∷ b) zero h k = refl
masked-at mask (x ∷ s) (y ∷ b) (suc i) h k = masked-at mask s b i (omega arith) (omega arith)

length-masked : (mask : ℕ) (s b : List ℕ) → length b ≤ length s → length (masked mask s b) ≡ length b
unfolding masked
length-masked mask [] [] h = refl
length-masked mask [] (y ∷ b) h = absurd (omega arith)
length-masked mask (x ∷ s) [] h = refl
length-masked mask (x ∷ s) (y ∷ b) h = ap suc (length-masked mask s b (omega arith))

-- the state that fills an array, with a number in its last word
pub load_whole : (words : List ℕ) (last : ℕ) → length words ≡ 16
    → set words 15 (bit_xor (get_or words 15 0) last) ≡ xor_last schwaemm256_256 last (state_in schwaemm256_256 words)
unfolding xor_last state_in
load_whole words last h =
    ap (λ (s : List ℕ). set s 15 (bit_xor (get_or s 15 0) last)) (sym (take_all 16 words (omega (arith, h))))

module _ (w r slim big : ℕ) (f : Fits (sized w r slim big)) where
  pub size_is : (r * 4 + (w - r) * 4) / 4 ≡ w
  size_is = omega arith

  pub branches_are : (r * 4 + (w - r) * 4) / 8 ≡ w / 2
  branches_are = omega arith

  rate_is : r * 4 / 4 ≡ r
  rate_is = omega arith

  half_is : r * 4 / 8 ≡ r / 2
  half_is = omega arith

  -- the state in an array, with a number in its last word
  pub load_is : (words state : List ℕ) (last : ℕ) → state ≡ take w words
      → set state (w - 1) (bit_xor (get_or state (w - 1) 0) last) ≡ xor_last (sized w r slim big) last (state_in (sized w r slim big) words)
  unfolding xor_last state_in
  load_is words state last e =
      ap (λ (s : List ℕ). set s (w - 1) (bit_xor (get_or s (w - 1) 0) last)) e
      ∙ ap (λ (n : ℕ). set (take n words) (n - 1) (bit_xor (get_or (take n words) (n - 1) 0) last)) (sym size_is)

  -- the array with another state
  pub store_is : (words state : List ℕ) → state ++ drop w words ≡ put_state (sized w r slim big) words state
  unfolding put_state
  store_is words state = ap (λ (n : ℕ). state ++ drop n words) (sym size_is)

  -- A state, a block and a mask.
  module _ (s block : List ℕ) (mask : ℕ) (hs : length s ≡ w) (hb : length block ≡ 8) where
    -- FeistelSwap of the rate
    swapped : List ℕ
    swapped = drop (r / 2) (take r s) ++ xors (drop (r / 2) (take r s)) (take (r / 2) (take r s))

    length-rate : length (take r s) ≡ r
    length-rate = length-take-le r s (omega arith)

    length-swapped : length swapped ≡ r
    unfolding swapped
    length-swapped = simp (length-append, length-xors, length-drop, length-take) (omega (arith, length-rate))

    abbrev pub swapped_word : ℕ → ℕ
    swapped_word i = cond (ltb i (r / 2)) (get_or s (r / 2 + i) 0) (bit_xor (get_or s i 0) (get_or s (i - r / 2) 0))

    swapped-left : (i : ℕ) → i < r / 2 → get_or swapped i 0 ≡ get_or s (r / 2 + i) 0
    unfolding swapped
    swapped-left i h =
        let l : i < length (drop (r / 2) (take r s)) = simp length-drop (omega (arith, length-rate)) in
        get_or_append_left (drop (r / 2) (take r s)) _ 0 i l ∙ get_or-drop (r / 2) (take r s) i 0 ∙ get_or-take r s (r / 2 + i) 0 (omega arith)

    swapped-right : (i : ℕ) → r / 2 ≤ i → i < r → get_or swapped i 0 ≡ bit_xor (get_or s i 0) (get_or s (i - r / 2) 0)
    unfolding swapped
    swapped-right i h k =
        let n : length (drop (r / 2) (take r s)) ≡ r / 2 = simp length-drop (omega (arith, length-rate)) in
        let m : length (take (r / 2) (take r s)) ≡ r / 2 = length-take-le (r / 2) (take r s) (omega (arith, length-rate)) in
        let e : r / 2 + (i - r / 2) ≡ i = omega arith in
        get_or-append_right (drop (r / 2) (take r s)) _ (r / 2) i 0 n h
        ∙ xors-at (drop (r / 2) (take r s)) (take (r / 2) (take r s)) (i - r / 2) (omega arith) (omega arith)
        ∙ ap₂ bit_xor
        (get_or-drop (r / 2) (take r s) (i - r / 2) 0 ∙ ap (λ (k : ℕ). get_or (take r s) k 0) e ∙ get_or-take r s i 0 (omega arith))
        (get_or-take (r / 2) (take r s) (i - r / 2) 0 (omega arith) ∙ get_or-take r s (i - r / 2) 0 (omega arith))

    swapped-by : (b : Bool) (i : ℕ) → ltb i (r / 2) ≡ b → i < r
        → get_or swapped i 0 ≡ cond b (get_or s (r / 2 + i) 0) (bit_xor (get_or s i 0) (get_or s (i - r / 2) 0))
    swapped-by true i h k = swapped-left i (ltb-true i (r / 2) h)
    swapped-by false i h k = swapped-right i (ltb-false i (r / 2) h) k

    -- the capacity's words, repeated
    repeated-at : (i : ℕ) → i < r → get_or (take r (drop r s ++ drop r s)) i 0 ≡ get_or s (r + i % (w - r)) 0
    repeated-at i k =
        let n : length (drop r s) ≡ w - r = simp length-drop (omega arith) in
        get_or-take r (drop r s ++ drop r s) i 0 k ∙ twice-at (drop r s) (w - r) i n (omega arith) ∙ get_or-drop r s (i % (w - r)) 0

    -- the words of the rate that are permuted
    front : List ℕ
    front = xors (xors swapped (take r (masked mask s block))) (take r (drop r s ++ drop r s))

    are_front : xor_block (sized w r slim big) mask s block ≡ front ++ drop r s
    unfolding xor_block rho1 feistel_swap outer inner whitening front swapped
    are_front =
        ap₂ (λ (n h : ℕ).
        xors (xors (drop h (take n s) ++ xors (drop h (take n s)) (take h (take n s))) (take n (masked mask s block)))
        (take n (drop n s ++ drop n s)) ++ drop n s) rate_is half_is

    length-masked_rate : length (take r (masked mask s block)) ≡ r
    length-masked_rate = length-take-le r (masked mask s block) (omega (arith, length-masked mask s block (omega arith)))

    length-repeated : length (take r (drop r s ++ drop r s)) ≡ r
    length-repeated = length-take-le r (drop r s ++ drop r s) (simp (length-append, length-drop) (omega arith))

    length-fed : length (xors swapped (take r (masked mask s block))) ≡ r
    length-fed = length-xors swapped (take r (masked mask s block)) ∙ omega (arith, length-swapped, length-masked_rate)

    length-front : length front ≡ r
    unfolding front
    length-front =
        length-xors (xors swapped (take r (masked mask s block))) (take r (drop r s ++ drop r s))
        ∙ omega (arith, length-fed, length-repeated)

    -- one of them, of FeistelSwap's word x
    abbrev pub mixed_word : (i x : ℕ) → ℕ
    mixed_word i x =
        bit_xor (bit_xor x (bit_xor (get_or block i 0) (bit_and (get_or s i 0) mask))) (get_or s (r + i % (w - r)) 0)

    front-at : (i : ℕ) → i < r → get_or front i 0 ≡ mixed_word i (swapped_word i)
    unfolding front
    front-at i k =
        xors-at (xors swapped (take r (masked mask s block))) (take r (drop r s ++ drop r s)) i
        (omega (arith, length-fed)) (omega (arith, length-repeated))
        ∙ ap₂ bit_xor
        (xors-at swapped (take r (masked mask s block)) i (omega (arith, length-swapped)) (omega (arith, length-masked_rate))
        ∙ ap₂ bit_xor (swapped-by (ltb i (r / 2)) i refl k)
        (get_or-take r (masked mask s block) i 0 k ∙ masked-at mask s block i (omega arith) (omega arith)))
        (repeated-at i k)

    pub mixed-at : (i x : ℕ) → i < r → x ≡ swapped_word i → mixed_word i x ≡ get_or (xor_block (sized w r slim big) mask s block) i 0
    mixed-at i x k e =
        ap (mixed_word i) e
        ∙ sym (ap (λ (x : List ℕ). get_or x i 0) are_front
        ∙ get_or_append_left front (drop r s) 0 i (omega (arith, length-front)) ∙ front-at i k)

    pub length-mixed : length (xor_block (sized w r slim big) mask s block) ≡ w
    length-mixed = ap length are_front ∙ length-append front (drop r s) ∙ omega (arith, length-front, length-drop r s)

    -- where all of them are written
    pub mixed_all : laid (xor_block (sized w r slim big) mask s block) s r ≡ xor_block (sized w r slim big) mask s block
    unfolding laid
    mixed_all =
        ap (λ (x : List ℕ). take r x ++ drop r s) are_front
        ∙ ap (λ (x : List ℕ). x ++ drop r s) (take_at front (drop r s) r length-front) ∙ sym are_front
