-- A line as it is read: held against the shapes of a variant's line and of the calls. Which call a line stands for, and
-- that it stands for no other, is `read_exactly`.
use Rattle.std.specs.Prelude.{Option, Some, None, Ok, Err, is_some, unwrap_or, option_map, option_and_then, ℕ, ◌+◌, Bool, false, cond, ◌||◌, List, [], ◌∷◌, leb, eqb, length, get_or}
use Prim.Native.Char.{code}
use Rattle.std.specs.Option.{option_or}
use Rattle.forms.specs.Bytes.{text, run_at, is_item}
use Rattle.forms.specs.Decimal.{decimal_of}
use Rattle.forms.specs.Hex.{is_hex, hex_bytes}
use Rattle.forms.specs.Form.{form_end}
use Rattle.tc_aead_cipher.specs.declared.call.CallKind.{CallKind}
use Rattle.tc_aead_cipher.specs.declared.call.CallKind.TheVariants.{Init, Aad, Data, Final, Reset, Mac, Update, Output}
use Rattle.tc_aead_cipher.specs.declared.phase.Direction.TheVariants.{Encrypt, Decrypt}
use Rattle.tc_aead_cipher.specs.declared.variant.SparkleVariant.{SparkleVariant}
use Rattle.tc_aead_cipher.specs.Variant.{is_variant, variant_of}
use Rattle.tc_aead_cipher.specs.Call.{Call, call_of}
use Rattle.tc_sparkle_aead.specs.Message.{zeros}
use Rattle.call_text.specs.declared.line.Fields.{Fields}
use Rattle.call_text.specs.declared.line.Found.{Found}

-- A line is one form and nothing else.
unfoldable pub is_form : List ℕ → Bool
is_form s = elim (form_end 4 s) [ Ok n ↦ eqb n (length s) | Err e ↦ false ]

-- The item that begins at a place, and the number that an item is, or 0.
unfoldable pub item_at : List ℕ → ℕ → List ℕ
item_at s at = run_at is_item s at

unfoldable pub number_in : List ℕ → ℕ
number_in item = unwrap_or (decimal_of item) 0

-- ---- Shapes

-- In a shape `#` stands for bytes and `%` for a number; every other byte stands for itself.
abbrev pub shape_of : CallKind → List ℕ
shape_of (Init Encrypt) = text "(init seal (key #) (nonce #) (tag %) (header #))"
shape_of (Init Decrypt) = text "(init open (key #) (nonce #) (tag %) (header #))"
shape_of Aad = text "(aad #)"
shape_of Data = text "(data # %)"
shape_of Final = text "(final %)"
shape_of Reset = text "(reset)"
shape_of Mac = text "(mac)"
shape_of Update = text "(update %)"
shape_of Output = text "(output %)"

abbrev pub variant_shape : List ℕ
variant_shape = text "(variant %)"

unfoldable pub is_mark : ℕ → Bool
is_mark m = eqb m (code "#") || eqb m (code "%")

unfoldable pub fits : (mark : ℕ) → (item : List ℕ) → Bool
fits mark item = cond (eqb mark (code "#")) (is_hex item) (is_some (decimal_of item))

-- The place of one of the last four fields.
abbrev pub begin_at : Fields → ℕ → ℕ
begin_at f i = get_or f.begin i 0

unfoldable pub start : Fields
start = record { at = 0; begin = 0 ∷ (0 ∷ (0 ∷ (0 ∷ []))) }

-- Past a byte, and past a field, whose place is noted.
unfoldable pub past_byte : Fields → Fields
past_byte f = record { at = f.at + 1; begin = f.begin }

unfoldable pub past_field : Fields → ℕ → Fields
past_field f n =
    record { at = f.at + n; begin = begin_at f 1 ∷ (begin_at f 2 ∷ (begin_at f 3 ∷ (f.at ∷ []))) }

-- One byte of a shape held against the line.
unfoldable pub compare : List ℕ → Fields → ℕ → Option Fields
compare s f mark =
    let item = item_at s f.at in
    cond (is_mark mark) (cond (fits mark item) (Some (past_field f (length item))) None)
    (cond (eqb (get_or s f.at 256) mark) (Some (past_byte f)) None)

unfoldable pub compare_all : List ℕ → Fields → (shape : List ℕ) → Option Fields
compare_all s f [] = Some f
compare_all s f (mark ∷ shape) = elim (compare s f mark) [ Some g ↦ compare_all s g shape | None ↦ None ]

-- A place that is the line's end.
abbrev pub at_end : List ℕ → Fields → Option Fields
at_end s f = cond (eqb f.at (length s)) (Some f) None

-- A whole line held against a shape.
unfoldable pub fields_of : (shape s : List ℕ) → Option Fields
fields_of shape s = option_and_then (at_end s) (compare_all s start shape)

-- ---- Calls

-- A call without runs of bytes and without an output.
abbrev pub without_runs : CallKind → ℕ → ℕ → Found
without_runs kind number end =
    record { kind = kind; number = number; first = end; second = end; third = end; room = 0 }

-- A call of a kind, from where its shape's fields begin. A run of bytes that it does not have begins at the line's end.
unfoldable pub placed : List ℕ → CallKind → Fields → Option Found
placed s (Init d) f =
    Some
    (record {
      kind = Init d;
      number = number_in (item_at s (begin_at f 2));
      first = begin_at f 0;
      second = begin_at f 1;
      third = begin_at f 3;
      room = 0;
    })
placed s Aad f =
    Some (record { kind = Aad; number = 0; first = begin_at f 3; second = length s; third = length s; room = 0 })
placed s Data f =
    let n = number_in (item_at s (begin_at f 3)) in
    cond (leb n 32768)
    (Some (record { kind = Data; number = 0; first = begin_at f 2; second = length s; third = length s; room = n }))
    None
placed s Final f =
    let n = number_in (item_at s (begin_at f 3)) in
    cond (leb n 32768)
    (Some (record { kind = Final; number = 0; first = length s; second = length s; third = length s; room = n }))
    None
placed s Reset f = Some (without_runs Reset 0 (length s))
placed s Mac f = Some (without_runs Mac 0 (length s))
placed s Update f = Some (without_runs Update (number_in (item_at s (begin_at f 3))) (length s))
placed s Output f = Some (without_runs Output (number_in (item_at s (begin_at f 3))) (length s))

unfoldable pub found_as : List ℕ → CallKind → Option Found
found_as s kind = option_and_then (placed s kind) (fields_of (shape_of kind) s)

-- The first kind of a list whose shape the line has.
unfoldable pub found_among : List ℕ → List CallKind → Option Found
found_among s [] = None
found_among s (kind ∷ kinds) = option_or (found_as s kind) (found_among s kinds)

abbrev pub all_kinds : List CallKind
all_kinds =
    Init Encrypt ∷ (Init Decrypt ∷ (Aad ∷ (Data ∷ (Final ∷ (Update ∷ (Output ∷ (Mac ∷ (Reset ∷ []))))))))

unfoldable pub found_in : List ℕ → Option Found
found_in s = cond (is_form s) (found_among s all_kinds) None

-- The call that was found.
unfoldable pub call_found : List ℕ → Found → Call
call_found s f =
    call_of f.kind f.number
    (hex_bytes (item_at s f.first))
    (hex_bytes (item_at s f.second))
    (hex_bytes (item_at s f.third))
    (zeros f.room)

-- The call that a line stands for.
unfoldable pub read_call : List ℕ → Option Call
read_call s = option_map (call_found s) (found_in s)

-- ---- The variant

-- The variant of a number, where there is one.
abbrev pub known : ℕ → Option SparkleVariant
known n = cond (is_variant n) (Some (variant_of n)) None

unfoldable pub read_variant : List ℕ → Option SparkleVariant
read_variant s =
    option_and_then (λ f. cond (is_form s) (known (number_in (item_at s (begin_at f 3)))) None) (fields_of variant_shape s)
