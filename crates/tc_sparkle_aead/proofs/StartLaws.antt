-- The start in the engine's arrays: the state that is made of the key makes nonce and key of the nonce, since its feedback is
-- its whitening and the two cancel.
use Rattle.std.proofs.Common.{◌≡◌, ℕ, ◌+◌, ◌%◌, ◌<◌, ◌≤◌, append_assoc, get_or, ◌-◌, ◌*◌, ◌/◌, true, false, List, [], ◌∷◌, ◌++◌, length, take, drop, replicate, sym, refl, ap, ◌∙◌, ap₂, arith, length-append, length-drop, take-append-drop, length-take, length-take-le, take_all, take-take, take_at, drop_at, drop-drop, mod-eq_of_lt}
use lib.Bits.{bit_xor, xor_comm}
use lib.ListN.{length-replicate}
use lib.Seq.{take-append-le}
use borrow.Rule.Slice.PartMut.{put_mid}
use Rattle.std.proofs.Math.Nat.{mod-lt}
use Rattle.std.proofs.lemmas.List.{get_or_append_left, get_or-take, get_or-drop, drop-replicate}
use Rattle.schwaemm.proofs.Xors.{xors-at}
use Rattle.tc_sparkle_aead.proofs.Fill.{laid}
use Rattle.tc_sparkle_aead.proofs.DuplexLaws.{twice-at}
use Rattle.sparkle.specs.Words.{Words}
use Rattle.sparkle.specs.Sparkle.{xors}
use Rattle.sparkle.proofs.Lengths.{length-xors}
use Rattle.schwaemm.specs.Bytes.{to_words, to_bytes}
use Rattle.schwaemm.specs.Blocks.{after}
use Rattle.schwaemm.specs.Schwaemm.{Params, Sizes, outer, inner, permute, feistel_swap, rho1, whitening, mix, sealing, initialise}
use Rattle.schwaemm.proofs.Xors.{xor_undo, xors_undo}
use Rattle.schwaemm.proofs.ByteWords.{to_words-take, to_words-to_bytes, length-to_words}
use Rattle.schwaemm.proofs.States.{state_length, mix_mixed, length-initialise}
use Rattle.tc_sparkle_aead.specs.Message.{zeros, Fits, sized, in_array, state_in, put_state, plain_by, xor_last, block_step, start_words}
use Rattle.tc_aead_cipher.proofs.VariantLaws.{Small}
use Rattle.tc_sparkle_aead.proofs.StateLaws.{all-in_array, in_array-zeros, state-fits, xor_last-none}

-- what is xored in on both sides is gone
xors_around : (w n : List ℕ) → length w ≡ length n → xors (xors w n) w ≡ n
unfolding xors
xors_around [] [] h = refl
xors_around [] (y ∷ n) h = absurd (omega arith)
xors_around (x ∷ w) [] h = absurd (omega arith)
xors_around (x ∷ w) (y ∷ n) h =
    ap₂ ◌∷◌ (xor_comm (bit_xor x y) x ∙ xor_undo x y) (xors_around w n (omega arith))

-- Words of the key and of the nonce.
module _ (p : Params) (z : Sizes p) (key nonce : List ℕ) (hk : length key ≡ p.key / 4) (hn : length nonce ≡ p.rate / 4) where
  length_white : length (whitening p key) ≡ p.rate / 4
  unfolding whitening
  length_white = simp (length-take, length-append) (omega (arith, z))

  length-left : length (take (p.rate / 8) (whitening p key)) ≡ p.rate / 8
  length-left = length-take-le (p.rate / 8) (whitening p key) (omega (arith, z, length_white))

  length_right : length (drop (p.rate / 8) (whitening p key)) ≡ p.rate / 8
  length_right = simp length-drop (omega (arith, z, length_white))

  -- the rate of the start
  abbrev rate_part : List ℕ
  rate_part = xors (take (p.rate / 8) (whitening p key)) (drop (p.rate / 8) (whitening p key)) ++ take (p.rate / 8) (whitening p key)

  length_mixed_half : length (xors (take (p.rate / 8) (whitening p key)) (drop (p.rate / 8) (whitening p key))) ≡ p.rate / 8
  length_mixed_half = length-xors _ _ ∙ omega (arith, length-left, length_right)

  length_rate_part : length rate_part ≡ p.rate / 4
  length_rate_part = simp length-append (omega (arith, z, length_mixed_half, length-left))

  start-parts : start_words p key ≡ rate_part ++ key
  unfolding start_words
  start-parts = refl

  outer_start : outer p (start_words p key) ≡ rate_part
  unfolding outer
  outer_start = ap (take (p.rate / 4)) start-parts ∙ take_at rate_part key (p.rate / 4) length_rate_part

  inner_start : inner p (start_words p key) ≡ key
  unfolding inner
  inner_start = ap (drop (p.rate / 4)) start-parts ∙ drop_at rate_part key (p.rate / 4) length_rate_part

  -- the feedback is the whitening
  fed_start : feistel_swap p rate_part ≡ whitening p key
  unfolding feistel_swap
  fed_start =
      let left = take (p.rate / 8) (whitening p key) in
      let right = drop (p.rate / 8) (whitening p key) in
      ap₂ (λ (a b : List ℕ). a ++ xors a b) (drop_at (xors left right) left (p.rate / 8) length_mixed_half) (take_at (xors left right) left (p.rate / 8) length_mixed_half)
      ∙ ap (◌++◌ left) (xors_undo left right (omega (arith, length-left, length_right))) ∙ take-append-drop (p.rate / 8) (whitening p key)

  mixed_start : xors (rho1 p (outer p (start_words p key)) nonce) (whitening p (inner p (start_words p key))) ++ inner p (start_words p key) ≡ nonce ++ key
  unfolding rho1
  mixed_start =
      ap₂ (λ (o i : List ℕ). xors (xors (feistel_swap p o) nonce) (whitening p i) ++ i) outer_start inner_start
      ∙ ap (λ (f : List ℕ). xors (xors f nonce) (whitening p key) ++ key) fed_start
      ∙ ap (λ (x : List ℕ). x ++ key) (xors_around (whitening p key) nonce (length_white ∙ sym hn))

  pub length-start : length (start_words p key) ≡ state_length p
  length-start = ap length start-parts ∙ length-append rate_part key ∙ omega (arith, z, length_rate_part, hk)

-- the bytes of a key, read from an array that it was put in
pub key-read : (key k w : List ℕ) → length key ≤ 32 → length k ≡ 32 → k ≡ in_array 32 key → take (length k) (to_bytes w) ≡ k
    → take (length key) (to_bytes w) ≡ key
key-read key k w h hk ek e =
    let n = length key in
    sym (take-take n 32 (to_bytes w) h)
    ∙ ap (take n) (ap (λ (m : ℕ). take m (to_bytes w)) (sym hk) ∙ e ∙ ek) ∙ all-in_array n 32 key refl h

-- the words of a key
pub key-words : (p : Params) → Sizes p → (key w : List ℕ) → length key ≡ p.key → Words w
    → take (length key) (to_bytes w) ≡ key → take (p.key / 4) w ≡ to_words key
key-words p z key w hk ww e =
    let n = p.key / 4 in
    let size : n * 4 ≡ length key = omega (arith, z, hk) in
    ap (take n) (sym (to_words-to_bytes ww)) ∙ to_words-take n (to_bytes w)
    ∙ ap to_words (ap (λ (k : ℕ). take k (to_bytes w)) size ∙ e)

pub put_start : (p : Params) → Sizes p → Small p → (key nonce words r kw : List ℕ) → length key ≡ p.key → length nonce ≡ p.rate
    → kw ≡ to_words key → words ≡ in_array 16 (start_words p kw)
    → r ≡ put_state p words (after p.rate (block_step p true false) 1 (xor_last p 0 (state_in p words)) nonce)
    → r ≡ in_array 16 (initialise p key nonce)
unfolding initialise state_in put_state after block_step plain_by sealing
put_start p z f key nonce words r kw hk hn ek ew er =
    let n = state_length p in
    let s = start_words p (to_words key) in
    let fits = state-fits p z f in
    let lk : length (to_words key) ≡ p.key / 4 = length-to_words key (omega (arith, z)) ∙ omega arith in
    let ln : length (to_words nonce) ≡ p.rate / 4 = length-to_words nonce (omega (arith, z)) ∙ omega arith in
    let hs = length-start p z (to_words key) (to_words nonce) lk ln in
    let hp : length (permute p p.big (to_words nonce ++ to_words key)) ≡ n = length-initialise p z key nonce in
    let the-words : words ≡ s ++ replicate (16 - n) 0 = ew ∙ ap (λ (k : List ℕ). in_array 16 (start_words p k)) ek ∙ in_array-zeros 16 (16 - n) s (omega arith) in
    let mixes : mix p p.big s nonce ≡ permute p p.big (to_words nonce ++ to_words key) =
    mix_mixed p p.big s nonce ∙ ap (permute p p.big) (mixed_start p z (to_words key) (to_words nonce) lk ln) in
    er ∙ rw (
      the-words,
      take_at s (replicate (16 - n) 0) n hs,
      drop_at s (replicate (16 - n) 0) n hs,
      xor_last-none p s,
      take_all p.rate nonce (omega arith),
      mixes,
      in_array-zeros 16 (16 - n) (permute p p.big (to_words nonce ++ to_words key)) (omega arith),
    ) refl

-- The start in words, of r words of the rate and k of the key: its left half is laid over an array that has the rest.
module _ (r k : ℕ) (f : Fits (sized (r + k) r 0 0)) (hk : k ≤ 8) (key : List ℕ) (l : length key ≡ 8) where
  q : List ℕ
  q = take k key

  white : List ℕ
  white = take r (q ++ q)

  left : List ℕ
  left = xors (take (r / 2) white) (drop (r / 2) white)

  length_q : length q ≡ k
  unfolding q
  length_q = length-take-le k key (omega arith)

  length_white_words : length white ≡ r
  unfolding white
  length_white_words = length-take-le r (q ++ q) (simp length-append (omega (arith, f, length_q)))

  length_left_words : length left ≡ r / 2
  unfolding left
  length_left_words =
      length-xors (take (r / 2) white) (drop (r / 2) white)
      ∙ omega (arith, f, length-take (r / 2) white, length-drop (r / 2) white, length_white_words)

  -- what the array has behind the left half
  behind : List ℕ
  behind = take (r / 2) q ++ (q ++ replicate (16 - (r + k)) 0)

  start_is : start_words (sized (r + k) r 0 0) q ≡ left ++ (take (r / 2) q ++ q)
  unfolding start_words whitening left white
  start_is =
      let n : r * 4 / 4 ≡ r = omega arith in
      let h : r * 4 / 8 ≡ r / 2 = omega arith in
      let first : take (r / 2) (take r (q ++ q)) ≡ take (r / 2) q =
      take-take (r / 2) r (q ++ q) (omega arith) ∙ take-append-le (r / 2) q q (omega (arith, f, length_q)) in
      ap₂ (λ (a b : ℕ). xors (take b (take a (q ++ q))) (drop b (take a (q ++ q))) ++ take b (take a (q ++ q)) ++ q) n h
      ∙ ap (λ (x : List ℕ). left ++ x ++ q) first
      ∙ append_assoc left (take (r / 2) q) q

  in_array_start : in_array 16 (start_words (sized (r + k) r 0 0) q) ≡ left ++ behind
  unfolding behind
  in_array_start =
      let n : length (start_words (sized (r + k) r 0 0) q) + (16 - (r + k)) ≡ 16 =
      ap (λ (x : List ℕ). length x + (16 - (r + k))) start_is
      ∙ simp (length-append, length-take) (omega (arith, f, length_left_words, length_q)) in
      in_array-zeros 16 (16 - (r + k)) (start_words (sized (r + k) r 0 0) q) n
      ∙ ap (λ (x : List ℕ). x ++ replicate (16 - (r + k)) 0) start_is
      ∙ append_assoc left (take (r / 2) q ++ q) (replicate (16 - (r + k)) 0)
      ∙ ap (◌++◌ left) (append_assoc (take (r / 2) q) q (replicate (16 - (r + k)) 0))

  -- the target of the loop
  abbrev pub start : List ℕ
  start = in_array 16 (start_words (sized (r + k) r 0 0) (take k key))

  pub start-at : (i : ℕ) → i < r / 2 → bit_xor (get_or key i 0) (get_or key ((r / 2 + i) % k) 0) ≡ get_or start i 0
  unfolding left white q
  start-at i h =
      let two : (j : ℕ) → j < r → get_or (take r (take k key ++ take k key)) j 0 ≡ get_or key (j % k) 0 =
      λ j b.
      get_or-take r (take k key ++ take k key) j 0 b ∙ twice-at (take k key) k j length_q (omega (arith, f))
      ∙ get_or-take k key (j % k) 0 (mod-lt j (omega (arith, f))) in
      let white-long = length_white_words in
      let own : i % k ≡ i = mod-eq_of_lt (omega (arith, f)) in
      let half : length (take (r / 2) (take r (take k key ++ take k key))) ≡ r / 2 = length-take-le (r / 2) (take r (take k key ++ take k key)) (omega arith) in
      let other : i < length (drop (r / 2) (take r (take k key ++ take k key))) = simp length-drop (omega (arith, f, white-long)) in
      sym (ap (λ (x : List ℕ). get_or x i 0) in_array_start
      ∙ get_or_append_left (xors (take (r / 2) (take r (take k key ++ take k key))) (drop (r / 2) (take r (take k key ++ take k key)))) behind 0 i (omega (arith, length_left_words))
      ∙ xors-at (take (r / 2) (take r (take k key ++ take k key))) (drop (r / 2) (take r (take k key ++ take k key))) i (omega arith) other
      ∙ ap₂ bit_xor
      (get_or-take (r / 2) (take r (take k key ++ take k key)) i 0 h ∙ two i (omega arith) ∙ ap (λ (j : ℕ). get_or key j 0) own)
      (get_or-drop (r / 2) (take r (take k key ++ take k key)) i 0 ∙ two (r / 2 + i) (omega (arith, f))))

  pub length_start_array : length start ≡ 16
  unfolding in_array zeros
  length_start_array =
      length-take-le 16 (start_words (sized (r + k) r 0 0) (take k key) ++ replicate 16 0)
      (simp (length-append, length-replicate) (omega arith))

  -- the array before the loop, of which `a` and `b` were written
  module _ (z a b : List ℕ) (ez : z ≡ replicate 16 0) (ea : a ≡ take (r / 2) key) (eb : b ≡ take k key) where
    length-z : length z ≡ 16
    length-z = ap length ez ∙ length-replicate {A = ℕ} 16 0

    length_half : length (take (r / 2) z) ≡ r / 2
    length_half = length-take-le (r / 2) z (omega (arith, f, length-z))

    base : put_mid r (r + k - r) (put_mid (r / 2) (r - r / 2) z a) b ≡ take (r / 2) z ++ behind
    unfolding behind q
    base =
        let h = r / 2 in
        let rest = drop (r - h) (drop h z) in
        let size : length (take h z ++ a) ≡ r =
        simp length-append (omega (arith, f, length_half, ap length ea, length-take-le h key (omega (arith, f)))) in
        let all : h + (r - h) + (r + k - r) ≡ r + k = omega arith in
        let tail : drop (r + k - r) rest ≡ replicate (16 - (r + k)) 0 =
        ap (drop (r + k - r)) (drop-drop (r - h) h z) ∙ drop-drop (r + k - r) (h + (r - h)) z
        ∙ ap₂ (λ (n : ℕ) (x : List ℕ). drop n x) all ez ∙ drop-replicate (r + k) 16 0 in
        let front : take r (take h z ++ (a ++ rest)) ≡ take h z ++ a =
        ap (take r) (sym (append_assoc (take h z) a rest)) ∙ take_at (take h z ++ a) rest r size in
        let back : drop r (take h z ++ (a ++ rest)) ≡ rest =
        ap (drop r) (sym (append_assoc (take h z) a rest)) ∙ drop_at (take h z ++ a) rest r size in
        ap₂ (λ (x y : List ℕ). x ++ (b ++ drop (r + k - r) y)) front back
        ∙ ap₂ (λ (x y : List ℕ). take h z ++ x ++ (y ++ drop (r + k - r) rest)) (ea ∙ sym (take-take h k key (omega (arith, f)))) eb
        ∙ ap (λ (x : List ℕ). take h z ++ take h (take k key) ++ (take k key ++ x)) tail
        ∙ append_assoc (take h z) (take h (take k key)) (take k key ++ replicate (16 - (r + k)) 0)

    pub length-base : length (put_mid r (r + k - r) (put_mid (r / 2) (r - r / 2) z a) b) ≡ 16
    unfolding behind
    length-base =
        ap length base
        ∙ simp (length-append, length-take, length-replicate) (omega (arith, f, length-z, length_q))

    pub start_all : laid start (put_mid r (r + k - r) (put_mid (r / 2) (r - r / 2) z a) b) (r / 2) ≡ start
    unfolding laid q
    start_all =
        ap₂ (λ (x y : List ℕ). x ++ y)
        (ap (take (r / 2)) in_array_start ∙ take_at left behind (r / 2) length_left_words)
        (ap (drop (r / 2)) base ∙ drop_at (take (r / 2) z) behind (r / 2) length_half)
        ∙ sym in_array_start
