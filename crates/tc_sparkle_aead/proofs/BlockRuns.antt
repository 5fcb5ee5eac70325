-- What holds in the loop over blocks, at any sizes: the blocks that are done have led to the state, and the output begins
-- with what they became where it is written.
use Rattle.std.proofs.Common.{◌≡◌, ℕ, ◌+◌, ◌*◌, ◌/◌, ◌≤◌, Bool, true, false, cond, eqb, List, [], ◌∷◌, ◌++◌, length, take, drop, sym, refl, ap, ◌∙◌, subst, ap₂, inl, inr, append-nil, mul-le-mul_right, add-mul, one-mul, zero-mul, arith, take_at}
use types.Run.{OneOf}
use denote.Enum.Declared.{tag_of}
use lib.Seq.{paste}
use Rattle.std.proofs.lemmas.Slice.{drop-append-drop}
use Rattle.tc_aead_cipher.proofs.CheckLaws.{cond_same}
use Rattle.tc_aead_cipher.specs.contracts.variant.SparkleVariant.{the_type}
use Rattle.tc_aead_cipher.specs.Variant.{params_of}
use Rattle.tc_aead_cipher.specs.declared.variant.SparkleVariant.{SparkleVariant}
use Rattle.tc_aead_cipher.specs.declared.variant.SparkleVariant.TheVariants.{Schwaemm128_128, Schwaemm256_128, Schwaemm192_192, Schwaemm256_256}
use Rattle.sparkle.specs.Words.{Words}
use Rattle.sparkle.specs.Sparkle.{run, xors}
use Rattle.schwaemm.specs.Bytes.{to_bytes}
use Rattle.schwaemm.specs.Blocks.{after, given}
use Rattle.schwaemm.specs.Schwaemm.{Params, Sizes, mix, crypt}
use Rattle.schwaemm.proofs.Cut.{after_add, given_add, length-given}
use Rattle.schwaemm.proofs.States.{state_length, length-mix, length-crypt, words-permute}
use Rattle.tc_sparkle_aead.specs.Message.{sized, plain_by, mask_of, xor_block, wide_params, block_step, blocks_out}
use Rattle.tc_sparkle_aead.proofs.MixLaws.{crypt-state, mix-block}

-- A block makes a state of a state.
module _ (p : Params) where
  pub words-block_step : (big opens : Bool) (s b : List ℕ) → Words (block_step p big opens s b)
  unfolding block_step mix
  words-block_step big opens s b = words-permute p _ _

  module _ (z : Sizes p) (big opens : Bool) where
    pub length-step : (s b : List ℕ) → length (block_step p big opens s b) ≡ state_length p
    unfolding block_step
    length-step s b = length-mix p z _ s _

    pub length-written : (n : ℕ) (s d : List ℕ) → length s ≡ state_length p → n * p.rate ≤ length d
        → length (given p.rate (block_step p big opens) (crypt p) n s d) ≡ n * p.rate
    length-written =
        length-given p.rate (block_step p big opens) (crypt p) (λ s. length s ≡ state_length p) (λ s b k. length-step s b)
        (λ s b hs hb. length-crypt p z s hs b ∙ omega arith)

-- `s₀` is the state where the loop begins, `t` the input, `out₀` the output then; v and out are those after `done` blocks.
pub record Run (p : Params) (big opens write : Bool) (s₀ t out₀ out v : List ℕ) (done : ℕ) : Type 0 where
  pub state : v ≡ after p.rate (block_step p big opens) done s₀ t
  pub whole : length v ≡ state_length p
  pub words : Words v
  pub output : out ≡ blocks_out p big opens write done s₀ t out₀

module _ (p : Params) (big opens write : Bool) (s₀ t out₀ : List ℕ) where
  pub run-start : length s₀ ≡ state_length p → Words s₀ → Run p big opens write s₀ t out₀ out₀ s₀ 0
  unfolding after given blocks_out
  run-start hs ws =
      record { state = refl; whole = hs; words = ws; output = rw (zero-mul p.rate) (sym (cond_same write)) }

  module _ (z : Sizes p) (hs : length s₀ ≡ state_length p) (count : ℕ) (enough : count * p.rate ≤ length t)
      (room : write ≡ true → count * p.rate ≤ length out₀)
      {out v : List ℕ} {done : ℕ} (within : done ≤ count) (r : Run p big opens write s₀ t out₀ out v done) where
    done-fits : done * p.rate ≤ count * p.rate
    done-fits = mul-le-mul_right {m = done} {n = count} p.rate within

    -- what the blocks done give is as long as they are
    length-done : length (given p.rate (block_step p big opens) (crypt p) done s₀ t) ≡ done * p.rate
    length-done = length-written p z big opens done s₀ t hs (omega (arith, done-fits, enough))

    -- a turn: the block b, at `pos` in the input, is taken up, and what it becomes is written
    module _ (b out' next : List ℕ) (pos n mask steps : ℕ) (ep : pos ≡ done * p.rate) (en : n ≡ p.rate)
        (em : mask ≡ mask_of opens) (es : steps ≡ cond big p.big p.slim) (wb : Words b) (eb : length b ≡ 8)
        (small : p.rate / 4 ≤ 8) (large : 8 ≤ state_length p)
        (e-read : take n (to_bytes b) ≡ take n (drop pos t))
        (e-out : out' ≡ cond write (paste out pos (to_bytes (xors v b)) n) out)
        (e-next : next ≡ run ((p.rate + p.key) / 8) 0 steps (xor_block p mask v b)) where
      e-block : take p.rate (to_bytes b) ≡ take p.rate (drop pos t)
      e-block = rw (← en) e-read

      the_next : next ≡ block_step p big opens v (take p.rate (drop pos t))
      unfolding block_step
      the_next =
          e-next ∙ mix-block p z v b r.whole r.words wb (omega arith) (omega (arith, r.whole)) opens mask steps em
          ∙ ap₂ (λ (k : ℕ) (x : List ℕ). mix p k v (plain_by p opens v x)) es e-block

      the-crypted : take p.rate (to_bytes (xors v b)) ≡ crypt p v (take p.rate (drop pos t))
      the-crypted =
          crypt-state p z v b r.whole r.words wb (omega arith) (omega (arith, r.whole)) ∙ ap (crypt p v) e-block

      turn-output : (w : Bool) → w ≡ write → out ≡ blocks_out p big opens w done s₀ t out₀
          → out' ≡ cond w (paste out pos (to_bytes (xors v b)) n) out
          → out' ≡ blocks_out p big opens w (done + 1) s₀ t out₀
      unfolding blocks_out given
      turn-output false ew e f = f ∙ e
      turn-output true ew e f =
          let before = given p.rate (block_step p big opens) (crypt p) done s₀ t in
          let at = length-done ∙ sym ep in
          let old : out ≡ before ++ drop pos out₀ = e ∙ ap (λ (k : ℕ). before ++ drop k out₀) (sym ep) in
          let front : take pos out ≡ before = ap (take pos) old ∙ take_at before (drop pos out₀) pos at in
          let behind : drop (pos + p.rate) out ≡ drop (pos + p.rate) out₀ =
          ap (drop (pos + p.rate)) old ∙ drop-append-drop pos out₀ before (pos + p.rate) (omega arith) at in
          let end : (done + 1) * p.rate ≡ pos + p.rate = rw (add-mul, one-mul, ← ep) refl in
          f ∙ rw (
            en,
            front,
            behind,
            the-crypted,
            given_add p.rate (block_step p big opens) (crypt p) done 1 s₀ t,
            append-nil,
            end,
            ← r.state,
            ← ep,
          ) refl

      pub run-turn : Run p big opens write s₀ t out₀ out' next (done + 1)
      unfolding after
      run-turn =
          record {
            state = the_next ∙ rw (after_add p.rate (block_step p big opens) done 1 s₀ t, ← r.state, ← ep) refl;
            whole = ap length the_next ∙ length-step p z big opens v (take p.rate (drop pos t));
            words = subst Words (sym the_next) (words-block_step p big opens v (take p.rate (drop pos t)));
            output = turn-output write refl r.output e-out;
          }

-- the two variants with a state of 12 words are told apart by the rate
pub wide_variant : (v : SparkleVariant) → OneOf (1 ∷ (2 ∷ [])) (tag_of the_type v) → (r : ℕ) → r ≡ (params_of v).rate
    → wide_params (eqb r 32) ≡ params_of v
unfolding wide_params
wide_variant Schwaemm128_128 (inl h) r e = absurd (omega arith)
wide_variant Schwaemm128_128 (inr h) r e = absurd (omega arith)
wide_variant Schwaemm256_128 h r e = ap (λ (n : ℕ). wide_params (eqb n 32)) e
wide_variant Schwaemm192_192 h r e = ap (λ (n : ℕ). wide_params (eqb n 32)) e
wide_variant Schwaemm256_256 (inl h) r e = absurd (omega arith)
wide_variant Schwaemm256_256 (inr h) r e = absurd (omega arith)

-- the code's two states of 12 words are theirs
pub wide_sized : (sized 12 8 7 11 ≡ wide_params true) × (sized 12 6 7 11 ≡ wide_params false)
unfolding wide_params
wide_sized = (refl, refl)
