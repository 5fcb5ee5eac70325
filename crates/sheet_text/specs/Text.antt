-- The texts of document 01's sheet ("Worked by hand", the block at its end): a line and the title, as bytes.
use Rattle.std.specs.Prelude.{ℕ, ◌≡◌, Bool, true, false, List, [], ◌∷◌, ◌++◌, take}
use Rattle.forms.specs.Bytes.{text}
use Rattle.forms.specs.Decimal.{decimal}
use Rattle.tc_aead_cipher.specs.declared.call.CallKind.{CallKind}
use Rattle.tc_aead_cipher.specs.declared.call.CallKind.TheVariants.{Init, Aad, Data, Final, Reset, Mac, Update, Output}
use Rattle.tc_aead_cipher.specs.declared.variant.SparkleVariant.{SparkleVariant}
use Rattle.tc_aead_cipher.specs.Variant.{number}
use Rattle.tc_aead_cipher.specs.Call.{Call, kind_of}
use Rattle.tc_aead_cipher.specs.Outcome.{Outcome}
use Rattle.tc_sparkle_aead.specs.Sheet.{Line, sheet}
use Rattle.tc_aead_cipher.specs.Outcome.Outcome.{ok, no}

-- Numbers, a blank before each.
abbrev pub spaced : List ℕ → List ℕ
spaced [] = []
spaced (n ∷ ns) = text " " ++ decimal n ++ spaced ns

-- An answer: `(ok 32)`, `(no 4 17 16)`.
abbrev pub outcome_text : Outcome → List ℕ
outcome_text (ok n) = text "(ok " ++ decimal n ++ text ")"
outcome_text (no vs) = text "(no" ++ spaced vs ++ text ")"

-- A call's name, which for a start does not show the direction.
abbrev pub name_text : CallKind → List ℕ
name_text (Init d) = text "init"
name_text Aad = text "aad"
name_text Data = text "data"
name_text Final = text "final"
name_text Reset = text "reset"
name_text Mac = text "mac"
name_text Update = text "update"
name_text Output = text "output"

abbrev pub flag_text : Bool → List ℕ
flag_text true = text "1"
flag_text false = text "0"

-- A refusal that stands alone: `(no 12 3)`.
unfoldable pub refusal_text : List ℕ → List ℕ
refusal_text vs = text "(no" ++ spaced vs ++ text ")\n"

-- A line: `(final (no 4 17 16) (work 41) (tag 0))`.
unfoldable pub line_text : CallKind → Line → List ℕ
line_text kind l =
    text "(" ++ name_text kind ++ text " " ++ outcome_text l.outcome
    ++ text " (work "
    ++ decimal l.steps
    ++ text ") (tag "
    ++ flag_text l.readable
    ++ text "))\n"

-- The title: `(sheet (variant 1))`.
unfoldable pub title_text : SparkleVariant → List ℕ
title_text v = text "(sheet (variant " ++ decimal (number v) ++ text "))\n"

abbrev pub lines_text : List Call → List Line → List ℕ
lines_text [] ls = []
lines_text (c ∷ calls) [] = []
lines_text (c ∷ calls) (l ∷ ls) = line_text (kind_of c) l ++ lines_text calls ls

-- The text of a list's sheet: the title, then a line for each call.
unfoldable pub sheet_text : SparkleVariant → List Call → List ℕ
sheet_text v calls = title_text v ++ lines_text calls (sheet v calls)

-- What a text holds of bytes that may be too many: those that pass the array are left out. No line and no title is
-- longer (`line-fits`, `title-fits`).
unfoldable pub cut : List ℕ → List ℕ
cut s = take 128 s

-- r is the text t with s behind it.
pub record Adds (t s r : List ℕ) : Type 0 where
  pub behind : r ≡ cut (t ++ s)
