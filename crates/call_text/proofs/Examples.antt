-- Document 02's lines (2026-01) and two files, by what is written and printed: the words of the forms, which argument
-- stands where, the numbers of lines, and the name that a call has in its sheet.
use mathlib.Core.Path.{◌≡◌, refl}
use mathlib.Core.List.{List, [], ◌∷◌, ◌++◌}
use mathlib.Core.Logic.{inl}
use Prim.Native.Nat.{ℕ}
use native.Mathlib.Omega.{arith}
use lib.ListN.{replicate}
use Rattle.forms.specs.Bytes.{text}
use Rattle.forms.specs.Decimal.{decimal_in, with_digit, decimal_from, decimal_of}
use Rattle.forms.specs.Hex.{is_hex}
use Rattle.forms.specs.Form.{is_number, plain_end, is_open, open_end, items_end, form_end}
use Rattle.tc_aead_cipher.specs.Variant.{is_variant}
use Rattle.tc_aead_cipher.specs.declared.phase.Direction.TheVariants.{Encrypt, Decrypt}
use Rattle.tc_aead_cipher.specs.declared.variant.SparkleVariant.TheVariants.{Schwaemm128_128, Schwaemm256_128, Schwaemm256_256}
use Rattle.tc_aead_cipher.specs.Call.{Call}
use Rattle.tc_sparkle_aead.specs.Message.{zeros}
use Rattle.tc_sparkle_aead.specs.Worked.{every_call}
use Rattle.sheet_text.specs.Text.{sheet_text}
use Rattle.call_text.specs.CallText.{variant_text, call_text, Within, AllWithin, list_text, Written}
use Rattle.call_text.specs.Line.{is_form, item_at, number_in, is_mark, fits, start, past_byte, past_field, compare, compare_all, fields_of, placed, found_as, found_among, found_in, read_variant}
use Rattle.call_text.specs.List.{lines_of, check_calls, check_lines, check_file, read_as, read_file}
use Rattle.call_text.specs.List.FileRead.{refused}
use Rattle.call_text.specs.Run.{printed}
use Rattle.call_text.proofs.RunLaws.{printed-list}

-- ---- Lines

pub variant_lines : (variant_text Schwaemm128_128 ≡ text "(variant 1)") × (variant_text Schwaemm256_256 ≡ text "(variant 4)")
unfolding variant_text decimal_in
variant_lines = (refl, refl)

pub init-line : (call_text (Call.Init Encrypt (0 ∷ (1 ∷ [])) (2 ∷ []) 16 []) ≡ text "(init seal (key 0001) (nonce 02) (tag 16) (header -))")
    × (call_text (Call.Init Decrypt [] [] 0 (3 ∷ [])) ≡ text "(init open (key -) (nonce -) (tag 0) (header 03))")
unfolding call_text decimal_in
init-line = (refl, refl)

pub call-lines : (call_text (Call.Aad (10 ∷ [])) ≡ text "(aad 0a)")
    × (call_text (Call.Data (10 ∷ (11 ∷ [])) (replicate 32 0)) ≡ text "(data 0a0b 32)")
    × (call_text (Call.Final (replicate 17 0)) ≡ text "(final 17)")
    × (call_text (Call.Update 5) ≡ text "(update 5)")
    × (call_text (Call.Output 5) ≡ text "(output 5)")
    × (call_text Call.Mac ≡ text "(mac)")
    × (call_text Call.Reset ≡ text "(reset)")
unfolding call_text decimal_in
call-lines = (refl, refl, refl, refl, refl, refl, refl)

-- ---- A file with every call

abbrev every_file : List ℕ
every_file =
    text "(variant 2)\n"
    ++ text "(init seal (key 00000000000000000000000000000000) (nonce 0000000000000000000000000000000000000000000000000000000000000000) (tag 15) (header -))\n"
    ++ text "(mac)\n"
    ++ text "(init open (key 00000000000000000000000000000000) (nonce 0000000000000000000000000000000000000000000000000000000000000000) (tag 16) (header 00))\n"
    ++ text "(data - 0)\n"
    ++ text "(update 49)\n"
    ++ text "(output 49)\n"
    ++ text "(reset)\n"
    ++ text "(aad 00)\n"
    ++ text "(init seal (key 00000000000000000000000000000000) (nonce 0101010101010101010101010101010101010101010101010101010101010101) (tag 16) (header -))\n"
    ++ text "(final 16)\n"
    ++ text "(mac)\n"

every_within : AllWithin every_call
unfolding zeros
every_within =
    AllWithin.more _ _ (Within.of-init _ _ _ 15 _ refl refl (omega arith) refl)
    (AllWithin.more _ _ Within.of_mac
    (AllWithin.more _ _ (Within.of-init _ _ _ 16 _ refl refl (omega arith) refl)
    (AllWithin.more _ _ (Within.of-data _ [] refl (record { at_most = omega arith; of-zeros = refl }))
    (AllWithin.more _ _ (Within.of_update 49 (omega arith))
    (AllWithin.more _ _ (Within.of_output 49 (omega arith))
    (AllWithin.more _ _ Within.of-reset
    (AllWithin.more _ _ (Within.of_aad _ refl)
    (AllWithin.more _ _ (Within.of-init _ _ _ 16 _ refl refl (omega arith) refl)
    (AllWithin.more _ _ (Within.of_final (replicate 16 0) (record { at_most = omega arith; of-zeros = refl }))
    (AllWithin.more _ _ Within.of_mac AllWithin.none))))))))))

-- The file is the list of these calls.
pub every-written : Written Schwaemm256_128 every_call every_file
unfolding list_text variant_text call_text decimal_in
every-written = record { file_size = omega arith; in-limits = every_within; file-text = inl refl }

-- Its sheet is printed; `every-text` of crates/sheet_text has it in full.
pub every-printed : printed every_file ≡ sheet_text Schwaemm256_128 every_call
every-printed = printed-list every_file Schwaemm256_128 every_call every-written

-- ---- Refused files

-- The third line has a blank too many; the second is a variant's; the first is a call's; the last is empty; there is no byte.
pub refused_files : (read_file (text "(variant 1)\n(mac)\n(mac )\n(mac)\n") ≡ refused 3)
    × (read_file (text "(variant 1)\n(variant 1)\n") ≡ refused 2)
    × (read_file (text "(mac)\n") ≡ refused 1)
    × (read_file (text "(variant 1)\n(mac)\n\n") ≡ refused 3)
    × (read_file [] ≡ refused 1)
unfolding read_file read_as check_file lines_of check_lines check_calls read_variant found_in found_among found_as placed fields_of compare_all compare start past_byte past_field is_mark fits item_at number_in is_form form_end open_end items_end is_open plain_end is_number decimal_of decimal_from with_digit is_hex is_variant
refused_files = (refl, refl, refl, refl, refl)
