-- The last block in the engine's arrays: its padding, and that it makes `mix_last` of the state.
use Rattle.tc_aead_cipher.specs.Variant.{params_of}
use Rattle.tc_aead_cipher.specs.declared.variant.SparkleVariant.{SparkleVariant}
use Rattle.tc_aead_cipher.specs.declared.variant.SparkleVariant.TheVariants.{Schwaemm128_128, Schwaemm256_128, Schwaemm192_192, Schwaemm256_256}
use Rattle.std.proofs.Common.{◌≡◌, ℕ, ◌*◌, ◌/◌, ◌%◌, ◌^◌, suc, ◌+◌, ◌-◌, ◌<◌, true, false, List, ◌∷◌, ◌++◌, length, set, replicate, refl, ◌∙◌, append_assoc, arith, length-append}
use lib.ListN.{length-replicate, replicate-append-replicate}
use lib.Seq.{set_at}
use Rattle.schwaemm.specs.Blocks.{after}
use Rattle.schwaemm.specs.Schwaemm.{Params, Sizes, padded, domain, with_domain, last_v, mix_last, sealing}
use Rattle.schwaemm.proofs.States.{length-padded, padded_short}
use Rattle.tc_sparkle_aead.specs.Message.{in_array, state_in, put_state, plain_by, xor_last, block_step}
use Rattle.tc_aead_cipher.proofs.VariantLaws.{Small}
use Rattle.tc_sparkle_aead.proofs.StateLaws.{all-in_array, in_array-zeros}

module _ (p : Params) (h : Sizes p) (f : Small p) where
  -- byte 80 behind a short block
  pub set_padded : (block : List ℕ) (n : ℕ) → length block ≡ n → n < p.rate
      → set (in_array 64 block) n 0x80 ≡ in_array 64 (padded p block)
  set_padded block n hn short =
      let j = p.rate - n - 1 in
      let m = 63 - n in
      let behind : j + (m - j) ≡ m = omega arith in
      let all : length (block ++ (0x80 ∷ replicate j 0)) + (m - j) ≡ 64 =
      simp (length-append, length-replicate) (omega arith) in
      rw (
        in_array-zeros 64 (suc m) block (omega arith),
        set_at block 0 (replicate m 0) 0x80 n hn,
        padded_short p block j (omega arith),
        in_array-zeros 64 (m - j) (block ++ (0x80 ∷ replicate j 0)) all,
        append_assoc,
        replicate-append-replicate,
        behind,
      )

  -- the last block is taken up
  pub last_block_lem : (words block b r : List ℕ) (v c short : ℕ) → block ≡ in_array 64 (padded p b) → c ≡ domain p v → v ≡ last_v p short b
      → r ≡ put_state p words (after p.rate (block_step p true false) 1 (xor_last p c (state_in p words)) block)
      → r ≡ put_state p words (mix_last p short (state_in p words) b)
  unfolding mix_last with_domain xor_last after block_step plain_by sealing
  last_block_lem words block b r v c short eb ec ev er =
      er ∙ rw (eb, all-in_array p.rate 64 (padded p b) (length-padded p b) (omega arith), ec, ev) refl

-- the power of the domain constant, as 1 shifted
pub domain_power : (v : SparkleVariant) (n : ℕ) → n ≡ (params_of v).key → 1 * 2 ^ (n / 8) % 2 ^ 32 ≡ 2 ^ ((params_of v).key / 8)
domain_power Schwaemm128_128 n e = rw e refl
domain_power Schwaemm256_128 n e = rw e refl
domain_power Schwaemm192_192 n e = rw e refl
domain_power Schwaemm256_256 n e = rw e refl
