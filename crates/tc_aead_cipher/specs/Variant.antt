-- The variants: document 01's table.
use Rattle.std.specs.Prelude.{◌≡◌, ℕ, Bool, true, false, cond, ltb, leb, eqb, Result, MatchResult}
use Rattle.schwaemm.specs.Schwaemm.{Params, schwaemm128_128, schwaemm256_128, schwaemm192_192, schwaemm256_256}
use Rattle.tc_aead_cipher.specs.declared.variant.SparkleVariant.{SparkleVariant}
use Rattle.tc_aead_cipher.specs.declared.variant.SparkleVariant.TheVariants.{Schwaemm128_128, Schwaemm256_128, Schwaemm192_192, Schwaemm256_256}
use Rattle.tc_aead_cipher.specs.declared.variant.UnknownVariant.{UnknownVariant}

-- The specification's parameters.
abbrev pub params_of : SparkleVariant → Params
params_of Schwaemm128_128 = schwaemm128_128
params_of Schwaemm256_128 = schwaemm256_128
params_of Schwaemm192_192 = schwaemm192_192
params_of Schwaemm256_256 = schwaemm256_256

-- Document 01's number.
abbrev pub number : SparkleVariant → ℕ
number Schwaemm128_128 = 1
number Schwaemm256_128 = 2
number Schwaemm192_192 = 3
number Schwaemm256_256 = 4

-- Whether a variant has the number.
unfoldable pub is_variant : ℕ → Bool
is_variant n = cond (ltb n 1) false (leb n 4)

-- The variant of a number; of one that no variant has, the last.
unfoldable pub variant_of : ℕ → SparkleVariant
variant_of n =
    cond (eqb n 1) Schwaemm128_128
    (cond (eqb n 2) Schwaemm256_128 (cond (eqb n 3) Schwaemm192_192 Schwaemm256_256))

-- The result is the variant of a number, or an error that has the number, which no variant has.
abbrev pub Decodes : ℕ → Result SparkleVariant UnknownVariant → Type 0
Decodes n r =
    MatchResult r (λ v. (is_variant n ≡ true) × (v ≡ variant_of n)) (λ e. (is_variant n ≡ false) × (e.0 ≡ n))
