-- Examples of what is written and of what is read: where a word ends, digits, depths and places.
use mathlib.Core.Path.{◌≡◌, refl}
use mathlib.Core.Bool.{true, false}
use mathlib.Core.List.{[], ◌∷◌}
use Rattle.std.specs.Prelude.{Ok}
use Rattle.forms.specs.Bytes.{text, all, is_letter}
use Rattle.forms.specs.Decimal.{decimal_in, decimal}
use Rattle.forms.specs.Hex.{hex}
use Rattle.forms.specs.Form.{stop, is_number, plain_end, is_open, open_end, items_end, form_end}

-- The sixteen digits, in lower case, the higher one first; and no bytes.
pub hex_example : hex (1 ∷ (35 ∷ (69 ∷ (103 ∷ (137 ∷ (171 ∷ (205 ∷ (239 ∷ [])))))))) ≡ text "0123456789abcdef"
hex_example = refl

pub hex-none : hex [] ≡ text "-"
hex-none = refl

pub decimal_example : decimal 1234567890 ≡ text "1234567890"
unfolding decimal_in
decimal_example = refl

-- Every letter, and none of the bytes beside them.
pub letters_example : all is_letter (text "abcdefghijklmnopqrstuvwxyz") ≡ true
letters_example = refl

pub no-letters : (is_letter 96 ≡ false) × (is_letter 123 ≡ false)
no-letters = (refl, refl)

-- "to a depth of four": four, and five.
pub four_deep : form_end 4 (text "(a (b (c (d))))") ≡ Ok 15
unfolding form_end open_end items_end is_open plain_end is_number
four_deep = refl

pub five_deep : form_end 4 (text "(a (b (c (d (e)))))") ≡ stop 12
unfolding form_end open_end items_end is_open plain_end is_number
five_deep = refl

-- The first item is a word; one blank; no leading zero, no odd digits.
pub no_word : form_end 4 (text "()") ≡ stop 1
unfolding form_end open_end items_end is_open plain_end is_number
no_word = refl
