-- A block and the state: what `xors` of their words writes, and that the words which a block makes of the state under a
-- mask are those that the specification permutes.
use Rattle.std.proofs.Common.{◌≡◌, ℕ, ◌+◌, ◌*◌, ◌/◌, ◌^◌, ◌<◌, ◌≤◌, Bool, true, false, List, [], ◌∷◌, ◌++◌, length, get_or, take, sym, refl, ap, ◌∙◌, ap₂, mod-eq_of_lt, arith, length-take, length-take-le, take_all, take-take}
use lib.Bits.{bit_xor, bit_and, xor_comm, xor_zero_r, and_mask, and_zero_r}
use Rattle.sparkle.specs.Words.{Below, Words, Bytes}
use Rattle.sparkle.specs.Sparkle.{run, sparkle, xors}
use Rattle.sparkle.specs.declared.sse2.Groups.{Groups}
use Rattle.sparkle.specs.Lanes.{lanes2, shuffled, pairs, joined}
use Rattle.sparkle.proofs.Xor.{xor_assoc, xor_cancel}
use Rattle.sparkle.proofs.Below.{below_at, below-take, below-xors}
use Rattle.sparkle.proofs.Tab.{tabbed}
use Rattle.schwaemm.specs.Bytes.{to_words, to_bytes}
use Rattle.schwaemm.specs.Schwaemm.{Params, Sizes, schwaemm256_256, outer, inner, permute, feistel_swap, rho1, whitening, mix, crypt, sealing, opening}
use Rattle.schwaemm.proofs.ByteWords.{bytes-to_bytes, to_words-to_bytes, to_bytes-take, to_bytes-xors, length-to_bytes}
use Rattle.schwaemm.proofs.Xors.{xors_enough, xors-take}
use Rattle.schwaemm.proofs.States.{state_length, mixed, mix_mixed, mix-state, length-crypt}
use Rattle.tc_sparkle_aead.specs.Message.{state_in, plain_by, mask_of, masked, xor_block}

-- The parts of the state in an array, and what the bytes of a block become.
module _ (p : Params) (z : Sizes p) (words : List ℕ) where
  outer-in : outer p (state_in p words) ≡ take (p.rate / 4) words
  unfolding outer state_in
  outer-in = take-take (p.rate / 4) (state_length p) words (omega arith)

  pub crypt-in : (b : List ℕ) → length b ≤ p.rate → crypt p (state_in p words) b ≡ xors (to_bytes words) b
  unfolding crypt
  crypt-in b l =
      let e : p.rate / 4 * 4 ≡ p.rate = omega arith in
      ap (λ (w : List ℕ). xors (to_bytes w) b) outer-in
      ∙ ap (λ (u : List ℕ). xors u b) (sym (to_bytes-take (p.rate / 4) words))
      ∙ xors_enough (p.rate / 4 * 4) (to_bytes words) b (omega arith)

  -- the same by words, of which the first may be the block's only
  pub crypt-words : (b : List ℕ)
      → take p.rate (to_bytes (xors words b)) ≡ crypt p (state_in p words) (take p.rate (to_bytes b))
  crypt-words b =
      let block = take p.rate (to_bytes b) in
      let n = length-take p.rate (to_bytes b) in
      ap (take p.rate) (to_bytes-xors words b) ∙ xors-take p.rate (to_bytes words) (to_bytes b)
      ∙ xors_enough p.rate (to_bytes words) block (omega arith)
      ∙ sym (crypt-in block (omega arith))

-- ---- The mask

-- what all ones leave of a word
all_left : (x : ℕ) → x < 2 ^ 32 → bit_and x 0xffffffff ≡ x
all_left x h = and_mask x 32 ∙ mod-eq_of_lt h

-- under no mask the block's words; under all ones those xored with the state's
masked-none : (s b : List ℕ) → length b ≤ length s → masked 0 s b ≡ b
unfolding masked
masked-none [] [] h = refl
masked-none [] (y ∷ b) h = absurd (omega arith)
masked-none (x ∷ s) [] h = refl
masked-none (x ∷ s) (y ∷ b) h =
    ap₂ ◌∷◌ (ap (bit_xor y) (and_zero_r x) ∙ xor_zero_r y) (masked-none s b (omega arith))

masked-all : {s : List ℕ} (b : List ℕ) → Words s → masked 0xffffffff s b ≡ xors s b
unfolding masked xors
masked-all b Below.none = refl
masked-all [] (Below.more h hs) = refl
masked-all (y ∷ b) (Below.more {x} h hs) =
    ap₂ ◌∷◌ (ap (bit_xor y) (all_left x h) ∙ xor_comm y x) (masked-all b hs)

-- A state and the words of a block, as many as the rate has at least.
module _ (p : Params) (z : Sizes p) (s b : List ℕ) (hs : length s ≡ state_length p) (ws : Words s) (wb : Words b)
    (enough : p.rate / 4 ≤ length b) (fits : length b ≤ length s) where
  -- the first words of a list as bytes, and as words again
  words_of_rate : (w : List ℕ) → Words w → to_words (take p.rate (to_bytes w)) ≡ take (p.rate / 4) w
  words_of_rate w h =
      let e : p.rate / 4 * 4 ≡ p.rate = omega (arith, z) in
      ap (λ (n : ℕ). to_words (take n (to_bytes w))) (sym e) ∙ ap to_words (to_bytes-take (p.rate / 4) w)
      ∙ to_words-to_bytes (below-take (p.rate / 4) h)

  -- what the block becomes, in bytes
  pub crypt-state : take p.rate (to_bytes (xors s b)) ≡ crypt p s (take p.rate (to_bytes b))
  unfolding state_in
  crypt-state =
      crypt-words p z s b ∙ ap (λ (u : List ℕ). crypt p u (take p.rate (to_bytes b))) (take_all (state_length p) s (omega arith))

  length-block : length (take p.rate (to_bytes b)) ≡ p.rate
  length-block = length-take-le p.rate (to_bytes b) (omega (arith, z, length-to_bytes b))

  -- the words that the state takes up
  plain_words : (opens : Bool) (mask : ℕ) → mask ≡ mask_of opens
      → to_words (plain_by p opens s (take p.rate (to_bytes b))) ≡ take (p.rate / 4) (masked mask s b)
  unfolding plain_by mask_of sealing opening
  plain_words false mask e =
      words_of_rate b wb ∙ ap (take (p.rate / 4)) (sym (ap (λ (m : ℕ). masked m s b) e ∙ masked-none s b fits))
  plain_words true mask e =
      ap to_words (sym crypt-state) ∙ words_of_rate (xors s b) (below-xors ws wb)
      ∙ ap (take (p.rate / 4)) (sym (ap (λ (m : ℕ). masked m s b) e ∙ masked-all b ws))

  length_plain : (opens : Bool) → length (plain_by p opens s (take p.rate (to_bytes b))) ≡ p.rate
  unfolding plain_by sealing opening
  length_plain false = length-block
  length_plain true = length-crypt p z s hs (take p.rate (to_bytes b)) ∙ omega (arith, length-block)

  bytes_plain : (opens : Bool) → Bytes (plain_by p opens s (take p.rate (to_bytes b)))
  unfolding plain_by sealing opening crypt
  bytes_plain false = below-take p.rate (bytes-to_bytes b)
  bytes_plain true = below-xors (bytes-to_bytes (outer p s)) (below-take p.rate (bytes-to_bytes b))

  -- they are permuted as the specification's
  pub mix-block : (opens : Bool) (mask steps : ℕ) → mask ≡ mask_of opens
      → run ((p.rate + p.key) / 8) 0 steps (xor_block p mask s b) ≡ mix p steps s (plain_by p opens s (take p.rate (to_bytes b)))
  unfolding xor_block permute sparkle
  mix-block opens mask steps e =
      let block = plain_by p opens s (take p.rate (to_bytes b)) in
      let same : xor_block p mask s b ≡ mixed p s block =
      ap (λ (w : List ℕ). xors (rho1 p (outer p s) w) (whitening p (inner p s)) ++ inner p s) (sym (plain_words opens mask e)) in
      ap (run ((p.rate + p.key) / 8) 0 steps)
      (same ∙ sym (mix-state p z s block hs (length_plain opens) ws (bytes_plain opens)))
      ∙ sym (mix_mixed p steps s block)

-- ---- Four groups

-- a word of the rate's right half, which the lane's mask leaves exactly where the mask does not
other_mask : (opens : Bool) (mask x y e : ℕ) → mask ≡ mask_of opens → x < 2 ^ 32
    → bit_xor y (bit_xor e (bit_and x (bit_xor mask 0xffffffff))) ≡ bit_xor (bit_xor x y) (bit_xor e (bit_and x mask))
unfolding mask_of
other_mask false mask x y e h hx =
    ap (λ (m : ℕ). bit_xor y (bit_xor e (bit_and x (bit_xor m 0xffffffff)))) h
    ∙ ap (λ (n : ℕ). bit_xor y (bit_xor e n)) (all_left x hx)
    ∙ ap (bit_xor y) (xor_comm e x) ∙ sym (xor_assoc y x e) ∙ ap (λ (n : ℕ). bit_xor n e) (xor_comm y x)
    ∙ ap (bit_xor (bit_xor x y)) (sym (ap (bit_xor e) (ap (bit_and x) h ∙ and_zero_r x) ∙ xor_zero_r e))
other_mask true mask x y e h hx =
    ap (λ (m : ℕ). bit_xor y (bit_xor e (bit_and x (bit_xor m 0xffffffff)))) h
    ∙ ap (λ (n : ℕ). bit_xor y (bit_xor e n)) (and_zero_r x)
    ∙ ap (bit_xor y) (xor_zero_r e) ∙ sym (ap (λ (n : ℕ). bit_xor y n) (xor_cancel e x))
    ∙ ap (bit_xor y) (xor_comm (bit_xor e x) x) ∙ sym (xor_assoc y x (bit_xor e x))
    ∙ ap₂ bit_xor (xor_comm y x) (ap (bit_xor e) (sym (ap (bit_and x) h ∙ all_left x hx)))

-- the words of four groups of words
pub words-joined : (g : Groups) → Words g.s0246 → Words g.s1357 → Words g.s8ace → Words g.s9bdf → Words (joined g)
unfolding joined
words-joined g a b c d =
    Below.more (below_at a 0) (Below.more (below_at b 0) (Below.more (below_at a 1) (Below.more (below_at b 1)
    (Below.more (below_at a 2) (Below.more (below_at b 2) (Below.more (below_at a 3) (Below.more (below_at b 3)
    (Below.more (below_at c 0) (Below.more (below_at d 0) (Below.more (below_at c 1) (Below.more (below_at d 1)
    (Below.more (below_at c 2) (Below.more (below_at d 2) (Below.more (below_at c 3) (Below.more (below_at d 3) Below.none)))))))))))))))

-- the lanes of the mask, and every other word of a block
abbrev pub lane_mask : ℕ → List ℕ
lane_mask mask = mask ∷ (mask ∷ (bit_xor mask 0xffffffff ∷ (bit_xor mask 0xffffffff ∷ [])))

abbrev pub every_other : ℕ → List ℕ → List ℕ
every_other i block = get_or block i 0 ∷ (get_or block (i + 2) 0 ∷ (get_or block (i + 4) 0 ∷ (get_or block (i + 6) 0 ∷ [])))

-- a block and the groups, lane by lane
pub mix-lanes : (g : Groups) (block x y : List ℕ) (opens : Bool) (mask : ℕ) → mask ≡ mask_of opens → Words (joined g) → length block ≡ 8
    → x ≡ lanes2 bit_xor (lanes2 bit_xor (shuffled 0x4e g.s0246) (lanes2 bit_xor (every_other 0 block) (lanes2 bit_and g.s0246 (lane_mask mask)))) g.s8ace
    → y ≡ lanes2 bit_xor (lanes2 bit_xor (shuffled 0x4e g.s1357) (lanes2 bit_xor (every_other 1 block) (lanes2 bit_and g.s1357 (lane_mask mask)))) g.s9bdf
    → pairs x y ++ pairs g.s8ace g.s9bdf ≡ xor_block schwaemm256_256 (mask_of opens) (joined g) block
unfolding joined lanes2 shuffled xor_block masked rho1 feistel_swap outer inner whitening xors
mix-lanes g block x y opens mask em ws lb ex ey =
    let a = g.s0246 in
    let b = g.s1357 in
    let c = g.s8ace in
    let d = g.s9bdf in
    ap₂ (λ (u v : List ℕ). pairs u v ++ pairs c d) ex ey
    ∙ (λ k. bit_xor (bit_xor (get_or a 2 0) (bit_xor (get_or block 0 0) (bit_and (get_or a 0 0) mask))) (get_or c 0 0) ∷ (bit_xor (bit_xor (get_or b 2 0) (bit_xor (get_or block 1 0) (bit_and (get_or b 0 0) mask))) (get_or d 0 0) ∷ (bit_xor (bit_xor (get_or a 3 0) (bit_xor (get_or block 2 0) (bit_and (get_or a 1 0) mask))) (get_or c 1 0) ∷ (bit_xor (bit_xor (get_or b 3 0) (bit_xor (get_or block 3 0) (bit_and (get_or b 1 0) mask))) (get_or d 1 0) ∷ (bit_xor (other_mask opens mask (get_or a 2 0) (get_or a 0 0) (get_or block 4 0) em (below_at ws 4) k) (get_or c 2 0) ∷ (bit_xor (other_mask opens mask (get_or b 2 0) (get_or b 0 0) (get_or block 5 0) em (below_at ws 5) k) (get_or d 2 0) ∷ (bit_xor (other_mask opens mask (get_or a 3 0) (get_or a 1 0) (get_or block 6 0) em (below_at ws 6) k) (get_or c 3 0) ∷ (bit_xor (other_mask opens mask (get_or b 3 0) (get_or b 1 0) (get_or block 7 0) em (below_at ws 7) k) (get_or d 3 0) ∷ pairs c d))))))))
    ∙ ap₂ (λ (m : ℕ) (b : List ℕ). xor_block schwaemm256_256 m (joined g) b) em (tabbed 8 block lb)
