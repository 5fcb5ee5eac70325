-- `blocks` is `blocks_of` for the variant's kind of state. Of the two kinds of 12 words the rate tells which is the variant's.
use Rattle.std.proofs.Common.{◌≡◌, refl, sym, ap, ◌∙◌, inl, inr}
use Rattle.tc_aead_cipher.specs.Variant.{params_of}
use Rattle.tc_aead_cipher.specs.declared.variant.SparkleVariant.TheVariants.{Schwaemm256_128, Schwaemm192_192}
use Rattle.tc_sparkle_aead.specs.Message.{sized}
use Rattle.tc_sparkle_aead.proofs.BlockRuns.{wide_variant, wide_sized}
use Rattle.tc_sparkle_aead.proofs.blocks.blocks.Goals as goal

pub returns-in-Schwaemm256_128 : goal.returns-in-Schwaemm256_128
returns-in-Schwaemm256_128 c =
    let e : params_of c.args.variant ≡ sized 12 8 7 11 =
    ap params_of c.in-Schwaemm256_128.is ∙ sym (wide_variant Schwaemm256_128 (inl refl) 32 refl) ∙ sym wide_sized.0 in
    rw e c.blocks_of-in-Schwaemm256_128.ensures

pub returns-in-Schwaemm192_192 : goal.returns-in-Schwaemm192_192
returns-in-Schwaemm192_192 c =
    let e : params_of c.args.variant ≡ sized 12 6 7 11 =
    ap params_of c.in-Schwaemm192_192.is ∙ sym (wide_variant Schwaemm192_192 (inr refl) 24 refl) ∙ sym wide_sized.1 in
    rw e c.blocks_of-in-Schwaemm192_192.ensures
