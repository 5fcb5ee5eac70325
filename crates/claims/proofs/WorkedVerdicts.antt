-- The verdicts of document 01's list of calls for the program `sheet` ("Worked by hand").
use mathlib.Core.Path.{◌≡◌, refl}
use mathlib.Core.List.{[], ◌∷◌}
use Rattle.schwaemm.specs.Bytes.{same}
use Rattle.schwaemm.specs.Blocks.{ready}
use Rattle.tc_aead_cipher.specs.declared.variant.SparkleVariant.TheVariants.{Schwaemm128_128}
use Rattle.tc_aead_cipher.specs.Checks.{update_len, total_len, aad_check, data_check, end_check, start_check}
use Rattle.claims.specs.Reader.{read, notes, verdicts}
use Rattle.claims.specs.Reader.Verdict.{Yes, No, None}
use Rattle.tc_sparkle_aead.specs.Worked.{worked}

-- The first pair is new, the last repeats it.
pub worked-verdicts : verdicts Schwaemm128_128 worked
    ≡ No ∷ (None ∷ (None ∷ (None ∷ (None ∷ (None ∷ (None ∷ (Yes ∷ [])))))))
unfolding verdicts notes read start_check aad_check data_check update_len end_check total_len ready same
worked-verdicts = refl
