-- How document 02 writes a probe's day (2026-01): the variant, then call after call, one form a line.
use Rattle.std.specs.Prelude.{ℕ, suc, ◌+◌, ◌^◌, ◌≤◌, ◌<◌, ◌≡◌, true, List, [], ◌∷◌, ◌++◌, ◌⊎◌, length}
use Rattle.forms.specs.Bytes.{text, all, is_line}
use Rattle.forms.specs.Decimal.{decimal}
use Rattle.forms.specs.Hex.{hex, are_bytes}
use Rattle.tc_aead_cipher.specs.declared.phase.Direction.{Direction}
use Rattle.tc_aead_cipher.specs.declared.phase.Direction.TheVariants.{Encrypt, Decrypt}
use Rattle.tc_aead_cipher.specs.declared.variant.SparkleVariant.{SparkleVariant}
use Rattle.tc_aead_cipher.specs.Variant.{number}
use Rattle.tc_aead_cipher.specs.Call.{Call}
use Rattle.tc_sparkle_aead.specs.Message.{zeros}

-- `(variant 1)`
unfoldable pub variant_text : SparkleVariant → List ℕ
variant_text v = text "(variant " ++ decimal (number v) ++ text ")"

-- "with open for seal"
abbrev pub direction_text : Direction → List ℕ
direction_text Encrypt = text "seal"
direction_text Decrypt = text "open"

-- `(init seal (key 00..) (nonce 00..) (tag 16) (header -))`, `(aad 0a)`, `(data 0a0b 32)`, `(final 17)` with the output's
-- length, `(update 5)`, `(output 5)`, `(mac)` and `(reset)`.
unfoldable pub call_text : Call → List ℕ
call_text (Call.Init d key nonce size header) =
    text "(init " ++ direction_text d
    ++ text " (key "
    ++ hex key
    ++ text ") (nonce "
    ++ hex nonce
    ++ text ") (tag "
    ++ decimal size
    ++ text ") (header "
    ++ hex header
    ++ text "))"
call_text (Call.Aad input) = text "(aad " ++ hex input ++ text ")"
call_text (Call.Data input out) = text "(data " ++ hex input ++ text " " ++ decimal (length out) ++ text ")"
call_text (Call.Final out) = text "(final " ++ decimal (length out) ++ text ")"
call_text (Call.Update n) = text "(update " ++ decimal n ++ text ")"
call_text (Call.Output n) = text "(output " ++ decimal n ++ text ")"
call_text Call.Mac = text "(mac)"
call_text Call.Reset = text "(reset)"

-- "an output has at most 32,768 bytes": the list gives their number, and they are lent as zeros.
pub record Lent (out : List ℕ) : Type 0 where
  pub at_most : length out ≤ 32768
  pub of-zeros : out ≡ zeros (length out)

-- The limits of a call: bytes are bytes, "numbers .. are below 2^64", and the output's.
pub data Within : Call → Type 0 where
  of-init : (d : Direction) (key nonce : List ℕ) (size : ℕ) (header : List ℕ) → are_bytes key ≡ true → are_bytes nonce ≡ true
      → size < 2 ^ 64 → are_bytes header ≡ true → Within (Call.Init d key nonce size header)
  of_aad : (input : List ℕ) → are_bytes input ≡ true → Within (Call.Aad input)
  of-data : (input out : List ℕ) → are_bytes input ≡ true → Lent out → Within (Call.Data input out)
  of_final : (out : List ℕ) → Lent out → Within (Call.Final out)
  of_update : (n : ℕ) → n < 2 ^ 64 → Within (Call.Update n)
  of_output : (n : ℕ) → n < 2 ^ 64 → Within (Call.Output n)
  of_mac : Within Call.Mac
  of-reset : Within Call.Reset

pub data AllWithin : List Call → Type 0 where
  none : AllWithin []
  more : (c : Call) (calls : List Call) → Within c → AllWithin calls → AllWithin (c ∷ calls)

abbrev pub newline : List ℕ
newline = text "\n"

abbrev pub calls_text : List Call → List ℕ
calls_text [] = []
calls_text (c ∷ calls) = call_text c ++ newline ++ calls_text calls

-- "First comes (variant 1) .., then any of" the calls, each line with its newline.
unfoldable pub list_text : SparkleVariant → List Call → List ℕ
list_text v calls = variant_text v ++ newline ++ calls_text calls

-- "at most 65,536 bytes, the last newline optional"
pub record Written (v : SparkleVariant) (calls : List Call) (file : List ℕ) : Type 0 where
  pub file_size : length file ≤ 65536
  pub in-limits : AllWithin calls
  pub file-text : (file ≡ list_text v calls) ⊎ (file ++ newline ≡ list_text v calls)

-- A line in its place: the first is a variant's, every other a call's.
pub data IsVariant : List ℕ → Type 0 where
  of_variant : (v : SparkleVariant) → IsVariant (variant_text v)

pub data IsCall : List ℕ → Type 0 where
  of-call : (c : Call) → Within c → IsCall (call_text c)

-- The first of a list of lines that is no call: n lines stand before it.
pub data WrongCall : (n : ℕ) → List (List ℕ) → Type 0 where
  here : (l : List ℕ) (ls : List (List ℕ)) → (IsCall l → ⊥) → WrongCall 0 (l ∷ ls)
  later : (n : ℕ) (l : List ℕ) (ls : List (List ℕ)) → IsCall l → WrongCall n ls → WrongCall (suc n) (l ∷ ls)

-- "the number (from 1) of the first line that is not such a form in its place; an empty file gives 1"
pub data WrongLine : (number : ℕ) → List (List ℕ) → Type 0 where
  no_line : WrongLine 1 []
  no_variant : (l : List ℕ) (ls : List (List ℕ)) → (IsVariant l → ⊥) → WrongLine 1 (l ∷ ls)
  no_call : (n : ℕ) (l : List ℕ) (ls : List (List ℕ)) → IsVariant l → WrongCall n ls → WrongLine (2 + n) (l ∷ ls)

-- ---- Lines

-- What holds of each line.
pub data Each (P : List ℕ → Type 0) : List (List ℕ) → Type 0 where
  none : Each P []
  more : {l : List ℕ} {ls : List (List ℕ)} → P l → Each P ls → Each P (l ∷ ls)

-- No newline stands in a line.
abbrev pub IsLine : List ℕ → Type 0
IsLine l = all is_line l ≡ true

-- The last line is not empty.
abbrev pub EndsFull : List (List ℕ) → Type 0
EndsFull ls = (front : List (List ℕ)) → ls ≡ front ++ ([] ∷ []) → ⊥

-- Each line and its newline.
abbrev pub joined : List (List ℕ) → List ℕ
joined [] = []
joined (l ∷ ls) = l ++ newline ++ joined ls

-- A line with a name behind its bracket, and behind that a blank or a closing bracket.
pub data Worded (name : List ℕ) : List ℕ → Type 0 where
  items : (s : List ℕ) → Worded name (text "(" ++ name ++ text " " ++ s)
  alone : Worded name (text "(" ++ name ++ text ")")
