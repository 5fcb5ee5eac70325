-- Every state has (rate + key) / 4 words below 2^32, and what is handed to the permutation is such a state already:
-- `xors` cuts nothing off, and the permutation pads and reduces nothing. The permutation's results are states whatever
-- it is given, so no law here asks for more than the state that is begun with.
use mathlib.Core.Path.{◌≡◌, refl, sym, ap, ◌∙◌}
use mathlib.Core.List.{List, [], ◌∷◌, ◌++◌, append_assoc}
use Prim.Native.Nat.{ℕ, ◌+◌, ◌-◌, ◌*◌, ◌/◌, ◌^◌, ◌≤◌, ◌<◌, min}
use native.Mathlib.Omega.{arith}
use borrow.Author.Tests.{lt-ltb, le-ltb}
use Rattle.std.proofs.lemmas.Bool.{cond_both}
use lib.Dec.{ltb, lit<}
use lib.Pow.{pow-lt, shl_lt}
use lib.Bits.{bit_xor, xor_lt}
use lib.ListN.{length, take, get_or, replicate, length-append, length-take, length-drop, length-set, length-replicate, replicate-append-replicate}
use lib.Seq.{take_at}
use Rattle.sparkle.specs.Words.{Below, Words, Bytes}
use Rattle.sparkle.specs.Sparkle.{xors, state}
use Rattle.sparkle.proofs.Lengths.{length-sparkle, length-xors}
use Rattle.sparkle.proofs.Below.{below_at, below_set, below-take, below-drop, below-append, below-xors, below-replicate}
use Rattle.sparkle.proofs.Bounds.{words-sparkle, state_of_words}
use Rattle.schwaemm.specs.Bytes.{to_words, if_empty}
use Rattle.schwaemm.specs.Schwaemm.{Params, Sizes, outer, inner, permute, feistel_swap, rho1, whitening, mix, crypt, padded, domain, with_domain, last_v, mix_last, initialise, absorb_block, absorb, prepared, message_block, message}
use Rattle.schwaemm.proofs.ByteWords.{length-to_bytes, length-to_words, words-to_words}

-- the words of a state
abbrev pub state_length : Params → ℕ
state_length p = (p.rate + p.key) / 4

-- a block taken up by the state, as `mix` hands it to the permutation
abbrev pub mixed : Params → List ℕ → List ℕ → List ℕ
mixed p s block = xors (rho1 p (outer p s) (to_words block)) (whitening p (inner p s)) ++ inner p s

pub mix_mixed : (p : Params) (k : ℕ) (s block : List ℕ) → mix p k s block ≡ permute p k (mixed p s block)
unfolding mix
mix_mixed p k s block = refl

-- Words below 2^32.
module _ (p : Params) where
  pub words-permute : (k : ℕ) (s : List ℕ) → Words (permute p k s)
  unfolding permute
  words-permute k s = words-sparkle ((p.rate + p.key) / 8) 0 k s

-- Lengths.
module _ (p : Params) (h : Sizes p) where
  branches : (p.rate + p.key) / 8 + (p.rate + p.key) / 8 ≡ state_length p
  branches = omega arith

  pub length-permute : (k : ℕ) (s : List ℕ) → length (permute p k s) ≡ state_length p
  unfolding permute
  length-permute k s = length-sparkle ((p.rate + p.key) / 8) 0 k s ∙ branches

  pub length-mix : (k : ℕ) (s block : List ℕ) → length (mix p k s block) ≡ state_length p
  unfolding mix
  length-mix k s block = length-permute k (mixed p s block)

  pub length-mix_last : (short : ℕ) (s block : List ℕ) → length (mix_last p short s block) ≡ state_length p
  unfolding mix_last
  length-mix_last short s block = length-mix p.big (with_domain p (last_v p short block) s) (padded p block)

  pub length-absorb_block : (s block : List ℕ) → length (absorb_block p s block) ≡ state_length p
  unfolding absorb_block
  length-absorb_block s block = length-mix p.slim s block

  pub length-message_block : (plain : List ℕ → List ℕ → List ℕ) (s block : List ℕ)
      → length (message_block p plain s block) ≡ state_length p
  unfolding message_block
  length-message_block plain s block = length-mix p.slim s (plain s block)

  pub length-initialise : (key nonce : List ℕ) → length (initialise p key nonce) ≡ state_length p
  unfolding initialise
  length-initialise key nonce = length-permute p.big (to_words nonce ++ to_words key)

  pub length-absorb : (s a : List ℕ) → length s ≡ state_length p → length (absorb p s a) ≡ state_length p
  unfolding absorb if_empty
  length-absorb s [] hs = hs
  length-absorb s (x ∷ a) hs = length-mix_last 0 _ _

  pub length-prepared : (key nonce header : List ℕ) → length (prepared p key nonce header) ≡ state_length p
  unfolding prepared
  length-prepared key nonce header = length-absorb (initialise p key nonce) header (length-initialise key nonce)

  pub length-message : (plain : List ℕ → List ℕ → List ℕ) (s d : List ℕ) → length s ≡ state_length p
      → length (message p plain s d) ≡ state_length p
  unfolding message if_empty
  length-message plain s [] hs = hs
  length-message plain s (x ∷ d) hs = length-mix_last 2 _ _

  -- the parts of a state
  module _ (s : List ℕ) (hs : length s ≡ state_length p) where
    pub length-outer : length (outer p s) ≡ p.rate / 4
    unfolding outer
    length-outer = simp length-take (omega arith)

    pub length-inner : length (inner p s) ≡ p.key / 4
    unfolding inner
    length-inner = simp length-drop (omega arith)

    pub length-crypt : (b : List ℕ) → length (crypt p s b) ≡ min p.rate (length b)
    unfolding crypt
    length-crypt b = simp (length-xors, length-to_bytes) (omega (arith, length-outer))

    -- as many words as the rate has
    length_fed : length (feistel_swap p (outer p s)) ≡ p.rate / 4
    unfolding feistel_swap
    length_fed = simp (length-append, length-xors, length-take, length-drop) (omega (arith, length-outer))

    length-whitening : length (whitening p (inner p s)) ≡ p.rate / 4
    unfolding whitening
    length-whitening = simp (length-take, length-append) (omega (arith, length-inner))

    -- the list that `mix` hands to the permutation is as long as a state, for a block of the rate's bytes
    pub mix_exact : (block : List ℕ) → length block ≡ p.rate → length (mixed p s block) ≡ state_length p
    unfolding rho1
    mix_exact block hb =
        let fed = length_fed in
        let words = length-to_words block (omega arith) in
        let white = length-whitening in
        let capacity = length-inner in
        simp (length-append, length-xors) (omega arith)

-- The last block.
module _ (p : Params) where
  pub length-padded : (block : List ℕ) → length (padded p block) ≡ p.rate
  unfolding padded
  length-padded block = simp (length-take, length-append, length-replicate) (omega arith)

  pub padded_full : (block : List ℕ) → length block ≡ p.rate → padded p block ≡ block
  unfolding padded
  padded_full block hb = take_at block (0x80 ∷ replicate p.rate 0) p.rate hb

  pub padded_short : (block : List ℕ) (n : ℕ) → length block + 1 + n ≡ p.rate
      → padded p block ≡ block ++ (0x80 ∷ replicate n 0)
  unfolding padded
  padded_short block n e =
      let r : p.rate ≡ n + (length block + 1) = omega arith in
      ap (λ (k : ℕ). take p.rate (block ++ (0x80 ∷ replicate k 0))) r
      ∙ rw (← replicate-append-replicate {A = ℕ} n (length block + 1) 0, ← append_assoc block (0x80 ∷ replicate n 0) (replicate (length block + 1) 0))
      (take_at (block ++ (0x80 ∷ replicate n 0)) (replicate (length block + 1) 0) p.rate
      (simp (length-append, length-replicate) (omega arith)))

  pub length-with_domain : (v : ℕ) (s : List ℕ) → length (with_domain p v s) ≡ length s
  unfolding with_domain
  length-with_domain v s = simp length-set

-- The v of a short and of a full block.
pub last_v_short : (p : Params) (short : ℕ) (block : List ℕ) → length block < p.rate → short ≡ last_v p short block
unfolding last_v
last_v_short p short block h = rw (lt-ltb _ _ h) refl

pub last_v_full : (p : Params) (short : ℕ) (block : List ℕ) → p.rate ≤ length block → short + 1 ≡ last_v p short block
unfolding last_v
last_v_full p short block h = rw (le-ltb _ _ h) refl

-- The words that are handed to the permutation.
last_v_bound : (p : Params) (short : ℕ) (block : List ℕ) → last_v p short block ≤ short + 1
unfolding last_v
last_v_bound p short block =
    cond_both (ltb (length block) p.rate) short (short + 1) (λ (n : ℕ). n ≤ short + 1) (λ e. omega arith) (λ e. omega arith)

module _ (p : Params) where
  pub words-with_domain : (v : ℕ) {s : List ℕ} → Sizes p → v < 2 ^ 8 → Words s → Words (with_domain p v s)
  unfolding with_domain domain
  words-with_domain v {s} h hv hs =
      let last = (p.rate + p.key) / 4 - 1 in
      let shift : p.key / 8 < 8 = omega arith in
      below_set last
      (xor_lt 32 (get_or s last 0) (bit_xor v (2 ^ (p.key / 8)) * 2 ^ 24) (below_at hs last)
      (shl_lt 8 24 (xor_lt 8 v (2 ^ (p.key / 8)) hv (pow-lt shift))))
      hs

  pub words_mixed : {s block : List ℕ} → Words s → Bytes block → Words (mixed p s block)
  unfolding outer inner rho1 feistel_swap whitening
  words_mixed hs hb =
      let o = below-take (p.rate / 4) hs in
      let i = below-drop (p.rate / 4) hs in
      let r = below-drop (p.rate / 8) o in
      below-append
      (below-xors (below-xors (below-append r (below-xors r (below-take (p.rate / 8) o))) (words-to_words hb))
      (below-take (p.rate / 4) (below-append i i)))
      i

  bytes-padded : {block : List ℕ} → Bytes block → Bytes (padded p block)
  unfolding padded
  bytes-padded hb = below-take p.rate (below-append hb (Below.more (lit< tt) (below-replicate p.rate (lit< tt))))

-- Nothing is cut, padded or reduced.
module _ (p : Params) (h : Sizes p) where
  exact : (w : List ℕ) → length w ≡ state_length p → Words w → state ((p.rate + p.key) / 8) w ≡ w
  exact w hw = state_of_words ((p.rate + p.key) / 8) w (hw ∙ sym (branches p h))

  pub mix-state : (s block : List ℕ) → length s ≡ state_length p → length block ≡ p.rate
      → Words s → Bytes block
      → state ((p.rate + p.key) / 8) (mixed p s block) ≡ mixed p s block
  mix-state s block hs hb ws bs = exact (mixed p s block) (mix_exact p h s hs block hb) (words_mixed p ws bs)

  -- the last block, padded, in a state with its domain constant
  pub mix_last_exact : (short : ℕ) (s block : List ℕ) → length s ≡ state_length p
      → length (mixed p (with_domain p (last_v p short block) s) (padded p block)) ≡ state_length p
  mix_last_exact short s block hs =
      let v = last_v p short block in
      mix_exact p h (with_domain p v s) (length-with_domain p v s ∙ hs) (padded p block) (length-padded p block)

  pub mix_last-state : (short : ℕ) (s block : List ℕ) → short ≤ 2 → length s ≡ state_length p
      → Words s → Bytes block
      → state ((p.rate + p.key) / 8) (mixed p (with_domain p (last_v p short block) s) (padded p block))
      ≡ mixed p (with_domain p (last_v p short block) s) (padded p block)
  mix_last-state short s block hv hs ws bs =
      exact _ (mix_last_exact short s block hs)
      (words_mixed p (words-with_domain p (last_v p short block) h (omega (arith, last_v_bound p short block)) ws)
      (bytes-padded p bs))

  module _ (key nonce : List ℕ) (hk : length key ≡ p.key) (hn : length nonce ≡ p.rate) where
    pub initialise_exact : length (to_words nonce ++ to_words key) ≡ state_length p
    initialise_exact =
        simp length-append (omega (arith, length-to_words nonce (omega arith), length-to_words key (omega arith)))

    pub initialise-state : Bytes key → Bytes nonce
        → state ((p.rate + p.key) / 8) (to_words nonce ++ to_words key) ≡ to_words nonce ++ to_words key
    initialise-state bk bn = exact _ initialise_exact (below-append (words-to_words bn) (words-to_words bk))
