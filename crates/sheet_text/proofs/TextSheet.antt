-- The text of the sheet of document 01's list of calls is the block printed there ("Worked by hand").
use mathlib.Core.Path.{◌≡◌, ap}
use mathlib.Core.List.{List, ◌++◌}
use Rattle.tc_aead_cipher.specs.declared.variant.SparkleVariant.TheVariants.{Schwaemm128_128, Schwaemm256_128}
use Rattle.tc_sparkle_aead.specs.Sheet.{Line}
use Rattle.tc_sparkle_aead.specs.Worked.{worked, every_call}
use Rattle.tc_sparkle_aead.proofs.WorkedSheet.{worked-sheet, every_call_lem}
use Rattle.forms.specs.Bytes.{text}
use Rattle.forms.specs.Decimal.{decimal_in}
use Rattle.sheet_text.specs.Text.{line_text, title_text, lines_text, sheet_text}

pub worked-text : sheet_text Schwaemm128_128 worked
    ≡ text "(sheet (variant 1))\n"
    ++ text "(init (ok 0) (work 10) (tag 0))\n"
    ++ text "(aad (ok 0) (work 17) (tag 0))\n"
    ++ text "(data (ok 32) (work 41) (tag 0))\n"
    ++ text "(aad (no 9) (work 41) (tag 0))\n"
    ++ text "(final (no 4 17 16) (work 41) (tag 0))\n"
    ++ text "(final (ok 17) (work 51) (tag 1))\n"
    ++ text "(data (no 10) (work 51) (tag 1))\n"
    ++ text "(init (no 11) (work 0) (tag 0))\n"
unfolding sheet_text title_text line_text decimal_in
worked-text = ap (λ (ls : List Line). title_text Schwaemm128_128 ++ lines_text worked ls) worked-sheet

-- The text of the sheet of a list with every call.
pub every-text : sheet_text Schwaemm256_128 every_call
    ≡ text "(sheet (variant 2))\n"
    ++ text "(init (no 3 15) (work 0) (tag 0))\n"
    ++ text "(mac (ok 0) (work 0) (tag 0))\n"
    ++ text "(init (ok 0) (work 11) (tag 0))\n"
    ++ text "(data (ok 0) (work 22) (tag 0))\n"
    ++ text "(update (ok 32) (work 22) (tag 0))\n"
    ++ text "(output (ok 33) (work 22) (tag 0))\n"
    ++ text "(reset (ok 0) (work 11) (tag 0))\n"
    ++ text "(aad (ok 0) (work 11) (tag 0))\n"
    ++ text "(init (ok 0) (work 11) (tag 0))\n"
    ++ text "(final (ok 16) (work 11) (tag 1))\n"
    ++ text "(mac (ok 16) (work 11) (tag 1))\n"
unfolding sheet_text title_text line_text decimal_in
every-text = ap (λ (ls : List Line). title_text Schwaemm256_128 ++ lines_text every_call ls) every_call_lem
