-- The lines of document 01, "Worked by hand", that are marked P, as one table on the definitions that the calls'
-- contracts cite, and the one theorem that proves it.
use Rattle.std.proofs.Common.{◌≡◌, ℕ, ◌-◌, ◌^◌, List, [], ◌∷◌, length, refl, ap, zero-le, arith, le-ltb, Result, Ok, Err}
use Rattle.sparkle.proofs.WorkedExamples.{ell_of_one, ell_of_two_halves}
use Rattle.sparkle.specs.Words.{ell, rotr}
use Rattle.schwaemm.specs.Blocks.{ready}
use Rattle.schwaemm.specs.Schwaemm.{domain, leading, steps_of, steps}
use Rattle.tc_aead_cipher.specs.Variant.{params_of}
use Rattle.tc_aead_cipher.specs.Refusals.{refusal}
use Rattle.tc_aead_cipher.specs.Checks.{update_len, total_len, end_check}
use Rattle.tc_sparkle_aead.specs.Message.{no_message, streamed, absorb_header}
use Rattle.tc_sparkle_aead.specs.Engine.{new_engine, repeats, update_output_len, output_len}
use Rattle.tc_sparkle_aead.specs.Calls.{started, init_by, init, do_final}
use Rattle.tc_aead_cipher.specs.declared.variant.SparkleVariant.{SparkleVariant}
use Rattle.tc_aead_cipher.specs.declared.variant.SparkleVariant.TheVariants.{Schwaemm128_128, Schwaemm256_128, Schwaemm192_192, Schwaemm256_256}
use Rattle.tc_aead_cipher.specs.declared.phase.Direction.TheVariants.{Encrypt, Decrypt}
use Rattle.tc_aead_cipher.specs.declared.phase.Phase.{Phase}
use Rattle.tc_aead_cipher.specs.declared.phase.Phase.TheVariants.{Uninitialized, Init, Aad}
use Rattle.tc_sparkle_aead.specs.declared.engine.SparkleEngine.{SparkleEngine}
use Rattle.tc_aead_cipher.specs.declared.aead_error.AeadError.TheVariants.{CiphertextTooShort, InputTooLong}
use Rattle.tc_aead_cipher.specs.declared.aead_init_error.AeadInitError.{AeadInitError}
use Rattle.tc_aead_cipher.proofs.CheckLaws.{start_check-opening}

-- An engine of a variant that stands in a phase, whatever else it holds.
pub record In (v : SparkleVariant) (phase : Phase) (e : SparkleEngine) : Type 0 where
  pub variant : e.variant ≡ v
  pub phase-is : e.current.phase ≡ phase

pub record WorkedExamples : Type 0 where
  -- Sealing, variant 1, new message: update_output_len of 0, 16, 17 is 0, 0, 16.
  pub sealing_0 : (e : SparkleEngine) → In Schwaemm128_128 (Init Encrypt) e → update_output_len e 0 ≡ Ok 0
  pub sealing_16 : (e : SparkleEngine) → In Schwaemm128_128 (Init Encrypt) e → update_output_len e 16 ≡ Ok 0
  pub sealing_17 : (e : SparkleEngine) → In Schwaemm128_128 (Init Encrypt) e → update_output_len e 17 ≡ Ok 16
  -- Opening, variant 1: 32 gives 0, 33 gives 16. Variant 2: 48 gives 0, 49 gives 32.
  pub opening_32 : (e : SparkleEngine) → In Schwaemm128_128 (Init Decrypt) e → update_output_len e 32 ≡ Ok 0
  pub opening_33 : (e : SparkleEngine) → In Schwaemm128_128 (Init Decrypt) e → update_output_len e 33 ≡ Ok 16
  pub opening_48 : (e : SparkleEngine) → In Schwaemm256_128 (Init Decrypt) e → update_output_len e 48 ≡ Ok 0
  pub opening_49 : (e : SparkleEngine) → In Schwaemm256_128 (Init Decrypt) e → update_output_len e 49 ≡ Ok 32
  -- Uninitialized, variant 1: output_len(2^64 - 17) = 2^64 - 1; of 2^64 - 16, refusal 7. So of a new engine.
  pub longest : (e : SparkleEngine) → In Schwaemm128_128 Uninitialized e
      → output_len e (2 ^ 64 - 17) ≡ Ok (2 ^ 64 - 1)
  pub too_long : (e : SparkleEngine) → In Schwaemm128_128 Uninitialized e
      → output_len e (2 ^ 64 - 16) ≡ Err InputTooLong
  pub too_long_number : refusal InputTooLong ≡ 7 ∷ []
  pub longest_new : output_len (new_engine Schwaemm128_128) (2 ^ 64 - 17) ≡ Ok (2 ^ 64 - 1)
  pub too_long_new : output_len (new_engine Schwaemm128_128) (2 ^ 64 - 16) ≡ Err InputTooLong
  -- ell(1) = 65537; ell(0x00010002) = 0x00020003.
  pub ell_1 : ell 1 ≡ 65537
  pub ell_10002 : ell 0x00010002 ≡ 0x00020003
  -- Header constants (v = 0), variants 1 and 3: 0x04000000, 0x08000000.
  pub header_constant_1 : domain (params_of Schwaemm128_128) 0 ≡ 0x04000000
  pub header_constant_3 : domain (params_of Schwaemm192_192) 0 ≡ 0x08000000
  -- Steps: variant 1, header 20, message 33: 51; both empty: 10; 16 and 16: 30. Variant 4, header 33, message 32: 44.
  pub steps_20_33 : steps (params_of Schwaemm128_128) 20 33 ≡ 51
  pub steps-empty : steps (params_of Schwaemm128_128) 0 0 ≡ 10
  pub steps_16_16 : steps (params_of Schwaemm128_128) 16 16 ≡ 30
  pub steps_33_32 : steps (params_of Schwaemm256_256) 33 32 ≡ 44
  -- Opening, variant 1, header of 16, end: 5 with 16 and 0, whatever the contents, into an output of any length.
  pub end_too_short : (e : SparkleEngine) → In Schwaemm128_128 (Aad Decrypt) e → (out : List ℕ)
      → (do_final e out).answer ≡ Err (CiphertextTooShort 16 0)
  pub end_after_init : (key nonce header out : List ℕ) → length key ≡ 16 → length nonce ≡ 16 → length header ≡ 16
      → (do_final (init (new_engine Schwaemm128_128) Decrypt key nonce 16 header).engine out).answer
      ≡ Err (CiphertextTooShort 16 0)
  pub end_too_short_number : refusal (CiphertextTooShort 16 0) ≡ 5 ∷ (16 ∷ (0 ∷ []))

-- The end in opening Aad.
ended_in_aad : (e : SparkleEngine) → In Schwaemm128_128 (Aad Decrypt) e → (out : List ℕ)
    → (do_final e out).answer ≡ Err (CiphertextTooShort 16 0)
unfolding do_final end_check total_len
ended_in_aad e s out = rw (s.variant, s.phase-is, le-ltb (length out) 0 zero-le) refl

-- An initial header of 16 bytes leads there.
after-init : (key nonce header : List ℕ) → length key ≡ 16 → length nonce ≡ 16 → length header ≡ 16
    → In Schwaemm128_128 (Aad Decrypt) (init (new_engine Schwaemm128_128) Decrypt key nonce 16 header).engine
unfolding init started absorb_header streamed new_engine
after-init key nonce [] k n h = absurd (omega arith)
after-init key nonce (x ∷ header) k n h =
    let p = params_of Schwaemm128_128 in
    let again = repeats p (new_engine Schwaemm128_128).pair key nonce in
    let taken = start_check-opening Schwaemm128_128 Decrypt (length key) (length nonce) 16 again k n refl refl in
    record {
      variant = ap (λ (r : Result (Unit {0}) AeadInitError). (init_by r (new_engine Schwaemm128_128) Decrypt key nonce (x ∷ header)).engine.variant) taken;
      phase-is =
          ap (λ (r : Result (Unit {0}) AeadInitError). (init_by r (new_engine Schwaemm128_128) Decrypt key nonce (x ∷ header)).engine.current.phase) taken;
    }

ended_after_init : (key nonce header out : List ℕ) → length key ≡ 16 → length nonce ≡ 16 → length header ≡ 16
    → (do_final (init (new_engine Schwaemm128_128) Decrypt key nonce 16 header).engine out).answer
    ≡ Err (CiphertextTooShort 16 0)
ended_after_init key nonce header out k n h = ended_in_aad _ (after-init key nonce header k n h) out

pub worked_examples : WorkedExamples
unfolding ready update_len total_len end_check no_message new_engine update_output_len output_len ell rotr domain leading steps_of steps
worked_examples = record {
  sealing_0 = λ e s. rw (s.variant, s.phase-is) refl;
  sealing_16 = λ e s. rw (s.variant, s.phase-is) refl;
  sealing_17 = λ e s. rw (s.variant, s.phase-is) refl;
  opening_32 = λ e s. rw (s.variant, s.phase-is) refl;
  opening_33 = λ e s. rw (s.variant, s.phase-is) refl;
  opening_48 = λ e s. rw (s.variant, s.phase-is) refl;
  opening_49 = λ e s. rw (s.variant, s.phase-is) refl;
  longest = λ e s. rw (s.variant, s.phase-is) refl;
  too_long = λ e s. rw (s.variant, s.phase-is) refl;
  too_long_number = refl;
  longest_new = refl;
  too_long_new = refl;
  ell_1 = ell_of_one;
  ell_10002 = ell_of_two_halves;
  header_constant_1 = refl;
  header_constant_3 = refl;
  steps_20_33 = refl;
  steps-empty = refl;
  steps_16_16 = refl;
  steps_33_32 = refl;
  end_too_short = ended_in_aad;
  end_after_init = ended_after_init;
  end_too_short_number = refl;
}
