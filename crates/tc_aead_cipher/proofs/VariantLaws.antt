-- What holds of every variant: its sizes meet the specification's conditions, and fit the engine's arrays; its number
-- names it.
use mathlib.Core.Path.{◌≡◌, refl}
use mathlib.Core.Bool.{true, false}
use Prim.Native.Nat.{ℕ, zero, suc, ◌≤◌}
use native.Mathlib.Omega.{arith}
use borrow.Author.Tests.{ne_eqb}
use Rattle.std.proofs.lemmas.Bool.{cond_both}
use Rattle.schwaemm.specs.Schwaemm.{Params, Sizes}
use Rattle.schwaemm.proofs.Variants.{sizes128_128, sizes256_128, sizes192_192, sizes256_256}
use Rattle.tc_aead_cipher.specs.Variant.{params_of, number, is_variant, variant_of}
use Rattle.tc_aead_cipher.specs.Checks.{opening, keep}
use Rattle.tc_aead_cipher.specs.declared.phase.Phase.{Phase}
use Rattle.tc_aead_cipher.specs.declared.variant.SparkleVariant.{SparkleVariant}
use Rattle.tc_aead_cipher.specs.declared.variant.SparkleVariant.TheVariants.{Schwaemm128_128, Schwaemm256_128, Schwaemm192_192, Schwaemm256_256}

pub sizes : (v : SparkleVariant) → Sizes (params_of v)
sizes Schwaemm128_128 = sizes128_128
sizes Schwaemm256_128 = sizes256_128
sizes Schwaemm192_192 = sizes192_192
sizes Schwaemm256_256 = sizes256_256

-- keys, nonces, tags and blocks have at most 32 bytes; the slim and the big steps are few
pub record Small (p : Params) : Type 0 where
  pub rate : p.rate ≤ 32
  pub key : p.key ≤ 32
  pub slim : p.slim ≤ 12
  pub big : p.big ≤ 12

pub small : (v : SparkleVariant) → Small (params_of v)
small Schwaemm128_128 = omega arith
small Schwaemm256_128 = omega arith
small Schwaemm192_192 = omega arith
small Schwaemm256_256 = omega arith

pub keep_bound : (p : Params) (phase : Phase) → keep p phase ≤ p.key
keep_bound p phase = cond_both (opening phase) p.key 0 (λ (n : ℕ). n ≤ p.key) (λ e. omega arith) (λ e. omega arith)

pub number_is_one : (v : SparkleVariant) → is_variant (number v) ≡ true
unfolding is_variant
number_is_one Schwaemm128_128 = refl
number_is_one Schwaemm256_128 = refl
number_is_one Schwaemm192_192 = refl
number_is_one Schwaemm256_256 = refl

pub variant_of_number : (v : SparkleVariant) → variant_of (number v) ≡ v
unfolding variant_of
variant_of_number Schwaemm128_128 = refl
variant_of_number Schwaemm256_128 = refl
variant_of_number Schwaemm192_192 = refl
variant_of_number Schwaemm256_256 = refl

pub no_variant_last : (n : ℕ) → is_variant n ≡ false → variant_of n ≡ Schwaemm256_256
unfolding is_variant variant_of
no_variant_last zero e = refl
no_variant_last (suc zero) e = cc
no_variant_last (suc (suc zero)) e = cc
no_variant_last (suc (suc (suc zero))) e = cc
no_variant_last (suc (suc (suc (suc n)))) e =
    let m = suc (suc (suc (suc n))) in
    rw (ne_eqb m 1 (λ q. omega arith), ne_eqb m 2 (λ q. omega arith), ne_eqb m 3 (λ q. omega arith)) refl
