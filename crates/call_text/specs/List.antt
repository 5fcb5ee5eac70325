-- A file of lines: accepted, or refused at a line (document 02, 2026-01).
use Rattle.std.specs.Prelude.{Result, Ok, Err, Some, None, ℕ, suc, ◌≤◌, ◌<◌, cond, List, [], ◌∷◌, ltb, eqb, length}
use Prim.Native.Char.{code}
use Rattle.tc_aead_cipher.specs.declared.variant.SparkleVariant.{SparkleVariant}
use Rattle.tc_aead_cipher.specs.Call.{Call}
use Rattle.call_text.specs.declared.list.Refused.{Refused}
use Rattle.call_text.specs.CallText.{Written, WrongLine}
use Rattle.call_text.specs.Line.{found_in, read_call, read_variant}

-- A byte in front of the first line.
abbrev pub in_front : ℕ → List (List ℕ) → List (List ℕ)
in_front b [] = (b ∷ []) ∷ []
in_front b (l ∷ ls) = (b ∷ l) ∷ ls

-- The lines of a file, without their newlines, of which the last is optional. A file without bytes has none.
unfoldable pub lines_of : List ℕ → List (List ℕ)
lines_of [] = []
lines_of (b ∷ s) = cond (eqb b (code "\n")) ([] ∷ lines_of s) (in_front b (lines_of s))

-- The variant of a list, or a line at which the file is refused.
abbrev pub Checked : Type 0
Checked = Result SparkleVariant Refused

abbrev pub refuse : ℕ → Checked
refuse k = Err (record { line = k })

-- Lines as calls of a variant's list, the first of them line k of the file.
unfoldable pub check_calls : SparkleVariant → (k : ℕ) → List (List ℕ) → Checked
check_calls v k [] = Ok v
check_calls v k (l ∷ ls) = elim (found_in l) [ Some f ↦ check_calls v (suc k) ls | None ↦ refuse k ]

unfoldable pub check_lines : List (List ℕ) → Checked
check_lines [] = refuse 1
check_lines (l ∷ ls) = elim (read_variant l) [ Some v ↦ check_calls v 2 ls | None ↦ refuse 1 ]

-- 0 for a longer file, else the number of the first line that is wrong.
unfoldable pub check_file : List ℕ → Checked
check_file file = cond (ltb 65536 (length file)) (refuse 0) (check_lines (lines_of file))

-- ---- The list that an accepted file stands for

abbrev pub calls_of : List (List ℕ) → List Call
calls_of [] = []
calls_of (l ∷ ls) = elim (read_call l) [ Some c ↦ c ∷ calls_of ls | None ↦ calls_of ls ]

-- What a file is read as: a variant and calls, or refused with 12 and a number.
pub data FileRead : Type 0 where
  list : SparkleVariant → List Call → FileRead
  refused : ℕ → FileRead

abbrev pub behind_first : List (List ℕ) → List (List ℕ)
behind_first [] = []
behind_first (l ∷ ls) = ls

unfoldable pub read_as : List (List ℕ) → Checked → FileRead
read_as ls (Ok v) = list v (calls_of (behind_first ls))
read_as ls (Err e) = refused e.line

unfoldable pub read_file : List ℕ → FileRead
read_file file = read_as (lines_of file) (check_file file)

-- The three cases of a file.
pub data FileCase (file : List ℕ) : Type 0 where
  of-list : (v : SparkleVariant) (calls : List Call) → Written v calls file → FileCase file
  of_length : 65536 < length file → FileCase file
  of-line : (k : ℕ) → length file ≤ 65536 → WrongLine (suc k) (lines_of file) → FileCase file
