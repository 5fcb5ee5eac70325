-- Laws of the calls' definitions, over plain variables: what the code computes, piece by piece, is the definition.
use Rattle.std.proofs.Common.{◌≡◌, ℕ, ◌+◌, ◌-◌, ◌*◌, ◌<◌, ◌≤◌, List, ◌++◌, length, take, drop, sym, ap, ◌∙◌, ap₂, arith, length-append, length-drop, length-take, take_all}
use Rattle.schwaemm.specs.Blocks.{ready, after, held}
use Rattle.schwaemm.specs.Schwaemm.{Params}
use Rattle.schwaemm.proofs.Cut.{ready_bound, rest_below}
use Rattle.tc_aead_cipher.specs.declared.phase.Phase.{Phase}
use Rattle.tc_aead_cipher.specs.declared.phase.Phase.TheVariants.{Uninitialized, Init, Aad, Data, Final}
use Rattle.tc_sparkle_aead.specs.declared.message.Point.{Point}
use Rattle.tc_sparkle_aead.specs.Message.{in_array, state_in, put_state, buffered_count, buffered, stream, block_count, streamed}
use Rattle.tc_aead_cipher.proofs.VariantLaws.{Small, keep_bound}

-- at most 64 bytes are held
pub buffered_count_bound : (p : Params) → Small p → (phase : Phase) (n : ℕ) → buffered_count p phase n ≤ 64
buffered_count_bound p h Uninitialized n = omega arith
buffered_count_bound p h (Init d) n = omega arith
buffered_count_bound p h (Aad d) n = omega arith
buffered_count_bound p h (Data d) n = omega (arith, keep_bound p (Data d))
buffered_count_bound p h (Final d) n = omega arith

-- of the header at most a block, of the data at most a block and a tag
pub buffered_count_blocks : (p : Params) (phase : Phase) (n : ℕ) → buffered_count p phase n ≤ p.rate + p.key
buffered_count_blocks p Uninitialized n = omega arith
buffered_count_blocks p (Init d) n = omega arith
buffered_count_blocks p (Aad d) n = omega arith
buffered_count_blocks p (Data d) n = omega (arith, keep_bound p (Data d))
buffered_count_blocks p (Final d) n = omega arith

-- the stream from the code's own held count
pub stream-is : (p : Params) (at : Point) (input : List ℕ) (h : ℕ) → h ≡ buffered_count p at.phase at.held → take h at.buffer ++ input ≡ stream p at input
unfolding stream buffered
stream-is p at input h e = ap (λ (n : ℕ). take n at.buffer ++ input) e

pub length-stream : (p : Params) (at : Point) (input : List ℕ) → Small p → length at.buffer ≡ 64 → length (stream p at input) ≡ buffered_count p at.phase at.held + length input
unfolding stream buffered
length-stream p at input small long =
    simp (length-append, length-take) (omega (arith, buffered_count_bound p small at.phase at.held))

-- a point after its blocks
module _ (p : Params) (small : Small p) (k : ℕ) (step : List ℕ → List ℕ → List ℕ) (phase : Phase) (at : Point) (input : List ℕ)
    (long : length at.buffer ≡ 64) (h : ℕ) (eh : h ≡ buffered_count p at.phase at.held) (count : ℕ)
    (ec : count ≡ ready p.rate k (h + length input)) where
  total : h + length input ≡ length (stream p at input)
  total = ap (λ (n : ℕ). n + length input) eh ∙ sym (length-stream p at input small long)

  pub block_count-is : count ≡ block_count p k at input
  unfolding block_count
  block_count-is = ec ∙ ap (ready p.rate k) total

  streamed-is : (words buffer : List ℕ) (rest : ℕ) → words ≡ put_state p at.words (after p.rate step count (state_in p at.words) (take h at.buffer ++ input)) → rest ≡ h + length input - count * p.rate → buffer ≡ in_array 64 (take rest (drop (count * p.rate) (take h at.buffer ++ input))) → ◌≡◌ {A = Point} (record { phase = phase; words = words; buffer = buffer; held = rest }) (streamed p k step phase at input)
  unfolding streamed held
  streamed-is words buffer rest ew er eb =
      let t = stream p at input in
      let s = stream-is p at input h eh in
      let n = ec ∙ ap (ready p.rate k) total in
      let rest_of = drop (ready p.rate k (length t) * p.rate) t in
      let el : rest ≡ length rest_of =
      er ∙ ap₂ (λ (x y : ℕ). x - y * p.rate) total n ∙ sym (length-drop (ready p.rate k (length t) * p.rate) t) in
      let ew' =
      ew ∙ ap₂ (λ (c : ℕ) (l : List ℕ). put_state p at.words (after p.rate step c (state_in p at.words) l)) block_count-is s in
      let eb' =
      eb
      ∙ ap (in_array 64)
      (ap₂ (λ (c : ℕ) (l : List ℕ). take rest (drop (c * p.rate) l)) n s ∙ take_all rest rest_of (omega arith)) in
      λ i. record { phase = phase; words = ew' i; buffer = eb' i; held = el i }

  -- the same where the code has the rate as a number of its own
  pub streamed-rate : (rate : ℕ) → rate ≡ p.rate → (words buffer : List ℕ) → words ≡ put_state p at.words (after p.rate step count (state_in p at.words) (take h at.buffer ++ input)) → buffer ≡ in_array 64 (take (h + length input - count * rate) (drop (count * rate) (take h at.buffer ++ input))) → ◌≡◌ {A = Point} (record { phase = phase; words = words; buffer = buffer; held = h + length input - count * rate }) (streamed p k step phase at input)
  streamed-rate rate er words buffer ew eb =
      let rest = h + length input - count * rate in
      streamed-is words buffer rest ew (ap (λ (n : ℕ). h + length input - count * n) er)
      (eb ∙ ap (λ (n : ℕ). in_array 64 (take rest (drop (count * n) (take h at.buffer ++ input)))) er)

-- how much goes and how much stays
pub gone_bound : (rate k n count : ℕ) → count ≡ ready rate k n → count * rate ≤ n
gone_bound rate k n count e = rw e (ready_bound rate k n)

pub rest_bound : (rate k n count : ℕ) → 0 < rate → count ≡ ready rate k n → n - count * rate ≤ k + rate
rest_bound rate k n count pos e = rw e (rest_below rate k pos n)
