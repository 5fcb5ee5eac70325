-- Held bytes and input as one stream: the blocks with held bytes in them are gathered and taken up first, then those that
-- the input has whole.
use Rattle.std.proofs.Common.{◌≡◌, ℕ, ◌+◌, ◌-◌, ◌*◌, ◌<◌, ◌≤◌, min, Bool, true, false, cond, List, [], ◌++◌, length, take, drop, sym, refl, ap, ◌∙◌, ap₂, append_assoc, mul-le-mul_right, add-mul, arith, length-append, length-take-le, take-take, drop-drop, take_at, drop_at}
use Rattle.std.proofs.lemmas.List.{nil_from_length}
use Rattle.std.specs.Int.{div_ceil}
use Rattle.schwaemm.specs.Blocks.{after, given}
use Rattle.schwaemm.specs.Schwaemm.{Params, crypt}
use Rattle.schwaemm.proofs.Cut.{after_add, after-take, after-keeps, given_add, given-take}
use Rattle.schwaemm.proofs.States.{state_length}
use Rattle.tc_aead_cipher.specs.Variant.{params_of}
use Rattle.tc_aead_cipher.specs.declared.variant.SparkleVariant.{SparkleVariant}
use Rattle.tc_aead_cipher.specs.declared.variant.SparkleVariant.TheVariants.{Schwaemm128_128, Schwaemm256_128, Schwaemm192_192, Schwaemm256_256}
use Rattle.tc_aead_cipher.proofs.VariantLaws.{sizes, small}
use Rattle.tc_sparkle_aead.specs.Message.{Held, in_array, state_in, put_state, xor_last, block_step, blocks_out, held_blocks}
use Rattle.tc_sparkle_aead.proofs.StateLaws.{take-in_array, length-state_in, state_put, put_put, xor_last-none}
use Rattle.tc_sparkle_aead.proofs.ByteLaws.{past-held}
use Rattle.tc_sparkle_aead.proofs.BlockRuns.{length-step, length-written}

pub held_first : (v : SparkleVariant) (held count first : ℕ) → held ≤ (params_of v).rate + (params_of v).key
    → first ≡ held_blocks (params_of v) held count → Held (params_of v) held count first
unfolding held_blocks
held_first Schwaemm128_128 held count first h e = record { some = omega arith; small = omega arith; all = λ l. omega arith }
held_first Schwaemm256_128 held count first h e = record { some = omega arith; small = omega arith; all = λ l. omega arith }
held_first Schwaemm192_192 held count first h e = record { some = omega arith; small = omega arith; all = λ l. omega arith }
held_first Schwaemm256_256 held count first h e = record { some = omega arith; small = omega arith; all = λ l. omega arith }

-- rounded up, as the library says it
pub held_value : (v : SparkleVariant) (held count first rate up : ℕ) → rate ≡ (params_of v).rate → up ≡ div_ceil held rate
    → first ≡ min count up → first ≡ held_blocks (params_of v) held count
unfolding held_blocks
held_value Schwaemm128_128 held count first rate up er eu e = omega (arith, (rw er at eu))
held_value Schwaemm256_128 held count first rate up er eu e = omega (arith, (rw er at eu))
held_value Schwaemm192_192 held count first rate up er eu e = omega (arith, (rw er at eu))
held_value Schwaemm256_256 held count first rate up er eu e = omega (arith, (rw er at eu))

pub held_within : (p : Params) (held count first : ℕ) → Held p held count first → first * p.rate ≤ count * p.rate
held_within p held count first k = mul-le-mul_right {m = first} {n = count} p.rate k.some

module _ (v : SparkleVariant) (opens w : Bool) (words held input : List ℕ) (count : ℕ) (hw : length words ≡ 16)
    (hh : length held ≤ (params_of v).rate + (params_of v).key)
    (enough : count * (params_of v).rate ≤ length held + length input) where
  -- no bytes are held
  pub stream-none : (r : List ℕ) → length held ≤ 0
      → r ≡ put_state (params_of v) words (after (params_of v).rate (block_step (params_of v) false opens) count (xor_last (params_of v) 0 (state_in (params_of v) words)) input)
      → r ≡ put_state (params_of v) words (after (params_of v).rate (block_step (params_of v) false opens) count (state_in (params_of v) words) (held ++ input))
  stream-none r none e =
      let h : held ≡ [] = nil_from_length held (omega arith) in
      e ∙ rw (xor_last-none (params_of v) (state_in (params_of v) words), h) refl

  pub output-none : (o out₀ : List ℕ) → length held ≤ 0
      → o ≡ blocks_out (params_of v) false opens w count (xor_last (params_of v) 0 (state_in (params_of v) words)) input out₀
      → o ≡ blocks_out (params_of v) false opens w count (state_in (params_of v) words) (held ++ input) out₀
  output-none o out₀ none e =
      let h : held ≡ [] = nil_from_length held (omega arith) in
      e ∙ rw (xor_last-none (params_of v) (state_in (params_of v) words), h) refl

  module _ (first n : ℕ) (part : List ℕ) (en : n ≡ first * (params_of v).rate) (k : Held (params_of v) (length held) count first)
      (ep : part ≡ in_array 64 (take n (drop 0 (held ++ input)))) where
    first_fits : first * (params_of v).rate ≤ count * (params_of v).rate
    first_fits = held_within (params_of v) (length held) count first k

    long : n ≤ length (held ++ input)
    long = simp length-append (omega (arith, first_fits))

    -- the gathered bytes are the stream's first
    take_part : take n part ≡ take n (held ++ input)
    take_part =
        let t = held ++ input in
        ap (take n) ep ∙ take-in_array n 64 (take n t) (omega (arith, length-take-le n t long)) (omega (arith, k.small))
        ∙ take-take n n t (omega arith)

    after_part : (s : List ℕ) → after (params_of v).rate (block_step (params_of v) false opens) first s part ≡ after (params_of v).rate (block_step (params_of v) false opens) first s (held ++ input)
    after_part s =
        sym (after-take (params_of v).rate (block_step (params_of v) false opens) first n s part (omega arith))
        ∙ ap (after (params_of v).rate (block_step (params_of v) false opens) first s) take_part
        ∙ after-take (params_of v).rate (block_step (params_of v) false opens) first n s (held ++ input) (omega arith)

    given_part : (s : List ℕ) → given (params_of v).rate (block_step (params_of v) false opens) (crypt (params_of v)) first s part ≡ given (params_of v).rate (block_step (params_of v) false opens) (crypt (params_of v)) first s (held ++ input)
    given_part s =
        sym (given-take (params_of v).rate (block_step (params_of v) false opens) (crypt (params_of v)) first n s part (omega arith))
        ∙ ap (given (params_of v).rate (block_step (params_of v) false opens) (crypt (params_of v)) first s) take_part
        ∙ given-take (params_of v).rate (block_step (params_of v) false opens) (crypt (params_of v)) first n s (held ++ input) (omega arith)

    -- the state after the gathered blocks
    abbrev pub first_state : List ℕ
    first_state = after (params_of v).rate (block_step (params_of v) false opens) first (state_in (params_of v) words) (held ++ input)

    whole : length (state_in (params_of v) words) ≡ state_length (params_of v)
    whole = length-state_in (params_of v) (sizes v) (small v) words hw

    length-first : length first_state ≡ state_length (params_of v)
    length-first =
        after-keeps (params_of v).rate (block_step (params_of v) false opens) (λ s. length s ≡ state_length (params_of v))
        (λ s b h. length-step (params_of v) (sizes v) false opens s b) first (state_in (params_of v) words) (held ++ input) whole

    pub first-state : (r : List ℕ)
        → r ≡ put_state (params_of v) words (after (params_of v).rate (block_step (params_of v) false opens) first (xor_last (params_of v) 0 (state_in (params_of v) words)) part)
        → r ≡ put_state (params_of v) words first_state
    first-state r e =
        e ∙ ap (λ s. put_state (params_of v) words (after (params_of v).rate (block_step (params_of v) false opens) first s part)) (xor_last-none (params_of v) (state_in (params_of v) words))
        ∙ ap (put_state (params_of v) words) (after_part (state_in (params_of v) words))

    -- they are all the blocks
    pub stream-first : (r : List ℕ) → first ≡ count
        → r ≡ put_state (params_of v) words (after (params_of v).rate (block_step (params_of v) false opens) first (xor_last (params_of v) 0 (state_in (params_of v) words)) part)
        → r ≡ put_state (params_of v) words (after (params_of v).rate (block_step (params_of v) false opens) count (state_in (params_of v) words) (held ++ input))
    stream-first r ec e =
        first-state r e ∙ ap (λ m. put_state (params_of v) words (after (params_of v).rate (block_step (params_of v) false opens) m (state_in (params_of v) words) (held ++ input))) ec

    pub output-first : (o out₀ : List ℕ)
        → o ≡ blocks_out (params_of v) false opens w first (xor_last (params_of v) 0 (state_in (params_of v) words)) part out₀
        → o ≡ blocks_out (params_of v) false opens w first (state_in (params_of v) words) (held ++ input) out₀
    unfolding blocks_out
    output-first o out₀ e =
        e ∙ ap (λ s. cond w (given (params_of v).rate (block_step (params_of v) false opens) (crypt (params_of v)) first s part ++ drop (first * (params_of v).rate) out₀) out₀) (xor_last-none (params_of v) (state_in (params_of v) words))
        ∙ ap (λ g. cond w (g ++ drop (first * (params_of v).rate) out₀) out₀) (given_part (state_in (params_of v) words))

    -- the blocks behind them
    module _ (more : first < count) (rest : List ℕ) (er : rest ≡ drop (n - length held) input) where
      rest-is : rest ≡ drop (first * (params_of v).rate) (held ++ input)
      rest-is =
          er ∙ past-held held input n (omega (arith, k.all more))
          ∙ ap (λ m. drop m (held ++ input)) en

      both : first + (count - first) ≡ count
      both = omega arith

      pub stream-rest : (v₁ r : List ℕ) → v₁ ≡ put_state (params_of v) words first_state
          → r ≡ put_state (params_of v) v₁ (after (params_of v).rate (block_step (params_of v) false opens) (count - first) (xor_last (params_of v) 0 (state_in (params_of v) v₁)) rest)
          → r ≡ put_state (params_of v) words (after (params_of v).rate (block_step (params_of v) false opens) count (state_in (params_of v) words) (held ++ input))
      stream-rest v₁ r e₁ e =
          e ∙ rw (
            xor_last-none,
            e₁,
            put_put (params_of v) words first_state _ length-first,
            state_put (params_of v) words first_state length-first,
            rest-is,
            ← after_add (params_of v).rate (block_step (params_of v) false opens) first (count - first) (state_in (params_of v) words) (held ++ input),
            both,
          ) refl

      -- the output, of which the part behind the gathered blocks was lent; where nothing is written all of it was
      output-by : (b : Bool) → b ≡ w → (v₁ o₁ o out₀ : List ℕ) (behind : ℕ) → behind ≡ cond b n 0
          → v₁ ≡ put_state (params_of v) words first_state
          → o₁ ≡ blocks_out (params_of v) false opens b first (state_in (params_of v) words) (held ++ input) out₀
          → o ≡ take behind o₁ ++ blocks_out (params_of v) false opens b (count - first) (xor_last (params_of v) 0 (state_in (params_of v) v₁)) rest (drop behind o₁)
          → o ≡ blocks_out (params_of v) false opens b count (state_in (params_of v) words) (held ++ input) out₀
      unfolding blocks_out
      output-by false eb v₁ o₁ o out₀ behind h e₁ e₂ e = e ∙ rw h e₂
      output-by true eb v₁ o₁ o out₀ behind h e₁ e₂ e =
          let s = state_in (params_of v) words in
          let t = held ++ input in
          let rate = (params_of v).rate in
          let one = given rate (block_step (params_of v) false opens) (crypt (params_of v)) first s t in
          let two = given rate (block_step (params_of v) false opens) (crypt (params_of v)) (count - first) first_state (drop (first * rate) t) in
          let size : length one ≡ first * rate = length-written (params_of v) (sizes v) false opens first s t whole (omega (arith, long)) in
          let at : behind ≡ first * rate = h ∙ en in
          let front : take behind o₁ ≡ one = ap (λ m. take m o₁) at ∙ ap (take (first * rate)) e₂ ∙ take_at one (drop (first * rate) out₀) (first * rate) size in
          let back : drop behind o₁ ≡ drop (first * rate) out₀ = ap (λ m. drop m o₁) at ∙ ap (drop (first * rate)) e₂ ∙ drop_at one (drop (first * rate) out₀) (first * rate) size in
          let state : xor_last (params_of v) 0 (state_in (params_of v) v₁) ≡ first_state = xor_last-none (params_of v) _ ∙ ap (state_in (params_of v)) e₁ ∙ state_put (params_of v) words first_state length-first in
          e ∙ rw (front, back, state, rest-is) refl ∙ sym (append_assoc one two _)
          ∙ ap₂ (λ (a b : List ℕ). a ++ b)
          (sym (given_add rate (block_step (params_of v) false opens) (crypt (params_of v)) first (count - first) s t) ∙ ap (λ m. given rate (block_step (params_of v) false opens) (crypt (params_of v)) m s t) both)
          (drop-drop ((count - first) * rate) (first * rate) out₀ ∙ ap (λ m. drop m out₀) (sym (add-mul first (count - first) rate) ∙ ap (λ m. m * rate) both))

      pub output-rest : (v₁ o₁ o out₀ : List ℕ) (behind : ℕ) → behind ≡ cond w n 0
          → v₁ ≡ put_state (params_of v) words first_state
          → o₁ ≡ blocks_out (params_of v) false opens w first (state_in (params_of v) words) (held ++ input) out₀
          → o ≡ take behind o₁ ++ blocks_out (params_of v) false opens w (count - first) (xor_last (params_of v) 0 (state_in (params_of v) v₁)) rest (drop behind o₁)
          → o ≡ blocks_out (params_of v) false opens w count (state_in (params_of v) words) (held ++ input) out₀
      output-rest = output-by w refl
