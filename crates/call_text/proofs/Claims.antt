-- Document 02, 2026-01, sentence by sentence: what a line, a file and what is printed are.
use mathlib.Core.Path.{◌≡◌, refl, sym, ap, ap₂, ◌∙◌}
use mathlib.Core.List.{List, [], ◌∷◌, ◌++◌}
use mathlib.Core.Logic.{◌↔◌, ◌⊎◌}
use Rattle.std.specs.Prelude.{Some}
use Rattle.std.proofs.lemmas.Option.{same_Some}
use Prim.Native.Nat.{ℕ, suc, ◌≤◌, ◌<◌}
use native.Mathlib.Omega.{arith}
use lib.ListN.{length, get_or, take, drop, length-append}
use lib.Seq.{take-append_seam}
use Rattle.forms.specs.Bytes.{text}
use Rattle.forms.specs.Decimal.{decimal}
use Rattle.forms.proofs.DecimalLaws.{decimal_injective}
use Rattle.tc_aead_cipher.specs.declared.variant.SparkleVariant.{SparkleVariant}
use Rattle.tc_aead_cipher.specs.Call.{Call, kind_of}
use Rattle.tc_aead_cipher.specs.Outcome.Outcome.{no}
use Rattle.tc_sparkle_aead.specs.declared.engine.SparkleEngine.{SparkleEngine}
use Rattle.tc_sparkle_aead.specs.Sheet.{step}
use Rattle.sheet_text.specs.Text.{name_text, title_text, sheet_text}
use Rattle.call_text.specs.CallText.{variant_text, call_text, newline, Within, Written, WrongLine, Each, IsLine, EndsFull, joined, Worded}
use Rattle.call_text.specs.Line.{read_call, read_variant}
use Rattle.call_text.specs.List.{lines_of, FileRead, read_file, FileCase}
use Rattle.call_text.specs.List.FileRead.{list, refused}
use Rattle.call_text.specs.Run.{begin_of, printed, Writes}
use Rattle.call_text.proofs.LineLaws.{read_exactly, variant_exactly}
use Rattle.call_text.proofs.LinesLaws.{lines_exactly}
use Rattle.call_text.proofs.FileLaws.{file-accepted, file_too_long, file_wrong, file_case, written_once}
use Rattle.call_text.proofs.RunLaws.{printed-list, printed-refusal, loop_printed, nothing-runs}
use Rattle.call_text.proofs.TwelveAlone.{twelve_alone}

cancel : (s t : List ℕ) → s ++ text ")\n" ≡ t ++ text ")\n" → s ≡ t
cancel s t e =
    let l : length s ≡ length t =
    omega (arith, ap length e, length-append s (text ")\n"), length-append t (text ")\n")) in
    sym (take-append_seam s (text ")\n")) ∙ ap₂ (λ (n : ℕ) (u : List ℕ). take n u) l e ∙ take-append_seam t (text ")\n")

-- ---- A line

-- A line is read as a call exactly when it is what is written for the call, and the call is within the limits; the same
-- of the variant's line.
pub line_of_a_call : (s : List ℕ) (c : Call) → (read_call s ≡ Some c) ↔ ((s ≡ call_text c) × Within c)
line_of_a_call = read_exactly

pub line_of_a_variant : (s : List ℕ) (v : SparkleVariant) → (read_variant s ≡ Some v) ↔ (s ≡ variant_text v)
line_of_a_variant = variant_exactly

-- A call that is written and read again is the same call.
pub written_and_read : (c : Call) → Within c → read_call (call_text c) ≡ Some c
written_and_read c w = (read_exactly (call_text c) c).1 (refl, w)

-- "Each accepted line stands for exactly one variant or call": no line for two calls or two variants, and no two lines
-- for one.
pub one_call_for_a_line : (c d : Call) → Within c → Within d → call_text c ≡ call_text d → c ≡ d
one_call_for_a_line c d w u e =
    same_Some c d (sym (written_and_read c w) ∙ (read_exactly (call_text c) d).1 (e, u))

pub one_variant_for_a_line : (v u : SparkleVariant) → variant_text v ≡ variant_text u → v ≡ u
one_variant_for_a_line v u e =
    same_Some v u
    (sym ((variant_exactly (variant_text v) v).1 refl) ∙ (variant_exactly (variant_text v) u).1 e)

pub one_line_for_a_call : (s t : List ℕ) (c : Call) → read_call s ≡ Some c → read_call t ≡ Some c → s ≡ t
one_line_for_a_call s t c e f = ((read_exactly s c).0 e).0 ∙ sym ((read_exactly t c).0 f).0

pub one_line_for_a_variant : (s t : List ℕ) (v : SparkleVariant) → read_variant s ≡ Some v → read_variant t ≡ Some v → s ≡ t
one_line_for_a_variant s t v e f = (variant_exactly s v).0 e ∙ sym ((variant_exactly t v).0 f)

-- No line is a variant's and a call's.
pub variant_or_call : (v : SparkleVariant) (c : Call) → variant_text v ≡ call_text c → ⊥
unfolding variant_text call_text
variant_or_call v (Call.Init d key nonce size header) e = omega (arith, ap (λ (s : List ℕ). get_or s 1 0) e)
variant_or_call v (Call.Aad input) e = omega (arith, ap (λ (s : List ℕ). get_or s 1 0) e)
variant_or_call v (Call.Data input out) e = omega (arith, ap (λ (s : List ℕ). get_or s 1 0) e)
variant_or_call v (Call.Final out) e = omega (arith, ap (λ (s : List ℕ). get_or s 1 0) e)
variant_or_call v (Call.Update n) e = omega (arith, ap (λ (s : List ℕ). get_or s 1 0) e)
variant_or_call v (Call.Output n) e = omega (arith, ap (λ (s : List ℕ). get_or s 1 0) e)
variant_or_call v Call.Mac e = omega (arith, ap (λ (s : List ℕ). get_or s 1 0) e)
variant_or_call v Call.Reset e = omega (arith, ap (λ (s : List ℕ). get_or s 1 0) e)

-- ---- A file

-- "at most 65,536 bytes, the last newline optional": a file is accepted as a variant and calls exactly when it is their
-- lines. One file is accepted as one list.
pub file_of_a_list : (file : List ℕ) (v : SparkleVariant) (calls : List Call)
    → (read_file file ≡ list v calls) ↔ Written v calls file
file_of_a_list = file-accepted

pub one_list_for_a_file : (file : List ℕ) (v u : SparkleVariant) (calls others : List Call) → Written v calls file
    → Written u others file → (v ≡ u) × (calls ≡ others)
one_list_for_a_file = written_once

-- The lines of a file: those that, each with its newline, are the file, or are it once the last one has its newline.
pub lines_of_a_file : (file : List ℕ) (ls : List (List ℕ))
    → (lines_of file ≡ ls)
    ↔ (Each IsLine ls × ((file ≡ joined ls) ⊎ (EndsFull ls × (file ++ newline ≡ joined ls))))
lines_of_a_file = lines_exactly

-- "12 and 0 for a longer file, else 12 and the number (from 1) of the first line that is not such a form in its place; an
-- empty file gives 1."
pub refused_as_too_long : (file : List ℕ) → (read_file file ≡ refused 0) ↔ (65536 < length file)
refused_as_too_long = file_too_long

pub refused_at_a_line : (file : List ℕ) (k : ℕ)
    → (read_file file ≡ refused (suc k)) ↔ ((length file ≤ 65536) × WrongLine (suc k) (lines_of file))
refused_at_a_line = file_wrong

-- Every file is one of the three.
pub every-file : (file : List ℕ) → FileCase file
every-file = file_case

-- ---- What is printed

-- "A program of its own runs them on one engine and prints 01's sheet, each call named by its form's word."
pub sheet-printed : (file : List ℕ) (v : SparkleVariant) (calls : List Call) → Written v calls file
    → printed file ≡ sheet_text v calls
sheet-printed = printed-list

-- "each call named by its form's word"
pub word_of_a_call : (c : Call) → Worded (name_text (kind_of c)) (call_text c)
unfolding call_text
word_of_a_call (Call.Init d key nonce size header) = Worded.items _
word_of_a_call (Call.Aad input) = Worded.items _
word_of_a_call (Call.Data input out) = Worded.items _
word_of_a_call (Call.Final out) = Worded.items _
word_of_a_call (Call.Update n) = Worded.items _
word_of_a_call (Call.Output n) = Worded.items _
word_of_a_call Call.Mac = Worded.alone
word_of_a_call Call.Reset = Worded.alone

-- What the program's loop writes behind the first text, and nothing else, is the rest of what is printed.
pub loop_of_the_program : (file s : List ℕ) → Writes file (begin_of file).run s
    → printed file ≡ (begin_of file).text ++ s
loop_of_the_program = loop_printed

-- "Before any call runs it refuses": of a refused file no step is made.
pub no_call_of_a_refused_file : (file : List ℕ) (k : ℕ) → read_file file ≡ refused k → Writes file (begin_of file).run []
no_call_of_a_refused_file = nothing-runs

-- "it refuses, printing only `(no 12 3)`": this is printed exactly where the file is refused with 12 and 3.
pub refusal-printed : (file : List ℕ) (k : ℕ)
    → (printed file ≡ text "(no 12 " ++ decimal k ++ text ")\n") ↔ (read_file file ≡ refused k)
unfolding sheet_text title_text
refusal-printed file k = (λ e. back e (read_file file) refl, printed-refusal file k)
  where
    back : printed file ≡ text "(no 12 " ++ decimal k ++ text ")\n" → (r : FileRead) → read_file file ≡ r
        → read_file file ≡ refused k
    back e (list v calls) q =
        let w = (file-accepted file v calls).0 q in
        absurd (omega (arith, ap (λ (s : List ℕ). get_or s 1 0) (sym (printed-list file v calls w) ∙ e)))
    back e (refused m) q =
        let same = ap (drop 7) (sym (printed-refusal file m q) ∙ e) in
        q ∙ ap refused (decimal_injective m k (cancel (decimal m) (decimal k) same))

-- No call of an engine answers with 12.
pub twelve_for_no_call : (e : SparkleEngine) (c : Call) (values : List ℕ) → (step e c).outcome ≡ no (12 ∷ values) → ⊥
twelve_for_no_call = twelve_alone
