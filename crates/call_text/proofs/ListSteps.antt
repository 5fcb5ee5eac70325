-- The line at a place of a file, the place behind it, and the check of a file, line by line.
use mathlib.Core.Path.{◌≡◌, refl, sym, ap, ◌∙◌}
use mathlib.Core.Bool.{true, false, false≢true}
use mathlib.Core.List.{List, [], ◌∷◌}
use Prim.Native.Nat.{ℕ, suc, ◌+◌, ◌≤◌, ◌<◌}
use native.Mathlib.Omega.{arith}
use borrow.Author.Tests.{le-ltb}
use lib.ListN.{length, take, drop, length-take, length-drop, drop_of_length-le}
use lib.Seq.{length-take-le, drop-drop}
use Rattle.forms.specs.Bytes.{front, is_line}
use Rattle.forms.proofs.BytesLaws.{front_le}
use Rattle.std.specs.Prelude.{Option, Some, None, Ok, is_some}
use Rattle.std.proofs.lemmas.List.{drop_min}
use Rattle.std.proofs.lemmas.Option.{none-some}
use Rattle.tc_aead_cipher.specs.declared.variant.SparkleVariant.{SparkleVariant}
use Rattle.call_text.specs.declared.line.Found.{Found}
use Rattle.call_text.specs.Line.{found_in, start, past_byte, is_mark, compare, compare_all, fields_of, read_variant}
use Rattle.call_text.specs.List.{lines_of, refuse, check_calls, check_lines, check_file}
use Rattle.call_text.specs.Run.{line_at, line_end}
use Rattle.call_text.proofs.LinesLaws.{lines_step}

-- ---- The line at a place, and the place behind it

-- Behind the line at a place stands what is behind the first line from there.
pub line-end : (file : List ℕ) (at : ℕ)
    → drop (line_end file at) file ≡ drop (suc (front is_line (drop at file))) (drop at file)
unfolding line_end line_at
line-end file at =
    let rest = drop at file in
    let n = front is_line rest in
    let e : at + length (take n rest) + 1 ≡ at + suc n = omega (arith, length-take-le n rest (front_le is_line rest)) in
    drop_min _ file ∙ ap (λ (m : ℕ). drop m file) e ∙ sym (drop-drop (suc n) at file)

pub line-length : (file : List ℕ) (at : ℕ) → length (line_at file at) ≤ length file
unfolding line_at
line-length file at = simp (length-take, length-drop) (omega arith)

-- A line ends within its file, and the place behind it is further on.
pub line_within : (file : List ℕ) (at : ℕ) → at ≤ length file → at + length (line_at file at) ≤ length file
unfolding line_at
line_within file at h = simp (length-take, length-drop) (omega arith)

pub end_within : (file : List ℕ) (at : ℕ) → line_end file at ≤ length file
unfolding line_end
end_within file at = omega arith

pub end_further : (file : List ℕ) (at : ℕ) → at < length file → at < line_end file at
unfolding line_end
end_further file at h = omega arith

-- ---- The check

-- The lines from a place on: the line there, and those behind it.
lines_at : (file : List ℕ) (at : ℕ) → at < length file
    → lines_of (drop at file) ≡ line_at file at ∷ lines_of (drop (line_end file at) file)
unfolding line_at
lines_at file at h =
    lines_step (drop at file) (omega (arith, length-drop at file))
    ∙ ap (λ (rest : List ℕ). line_at file at ∷ lines_of rest) (sym (line-end file at))

-- A first line that is no variant's, as in a file without bytes, and one that is.
pub first_wrong : (file : List ℕ) → length file ≤ 65536 → read_variant (line_at file 0) ≡ None → check_file file ≡ refuse 1
unfolding check_file check_lines lines_of
first_wrong [] h e = refl
first_wrong (b ∷ s) h e =
    rw (le-ltb 65536 (length (b ∷ s)) h) (ap check_lines (lines_at (b ∷ s) 0 (omega arith)) ∙ rw (check_lines, e) refl)

no_variant : (v : SparkleVariant) → read_variant [] ≡ Some v → ⊥
unfolding read_variant fields_of compare_all compare start past_byte is_mark
no_variant v e = none-some v e

pub first_found : (file : List ℕ) (v : SparkleVariant) → length file ≤ 65536 → read_variant (line_at file 0) ≡ Some v
    → check_file file ≡ check_calls v 2 (lines_of (drop (line_end file 0) file))
unfolding check_file check_lines lines_of line_at
first_found [] v h e = absurd (no_variant v e)
first_found (b ∷ s) v h e =
    rw (le-ltb 65536 (length (b ∷ s)) h) (ap check_lines (lines_at (b ∷ s) 0 (omega arith)) ∙ rw (check_lines, e) refl)

module _ (v : SparkleVariant) (k : ℕ) (file : List ℕ) (at : ℕ) where
  pub call_wrong : at < length file → found_in (line_at file at) ≡ None
      → check_calls v k (lines_of (drop at file)) ≡ refuse k
  unfolding check_calls
  call_wrong h e = rw (lines_at file at h, check_calls, e) refl

  pub call_right : at < length file → (f : Found) → found_in (line_at file at) ≡ Some f
      → check_calls v k (lines_of (drop at file)) ≡ check_calls v (suc k) (lines_of (drop (line_end file at) file))
  unfolding check_calls
  call_right h f e = rw (lines_at file at h, check_calls, e) refl

  pub calls-end : length file ≤ at → check_calls v k (lines_of (drop at file)) ≡ Ok v
  unfolding check_calls lines_of
  calls-end h = rw (drop_of_length-le file {i = at} h) refl

-- The value, where there is one.
pub is_something : {A : Type 0} (o : Option A) → is_some o ≡ true → (a : A) × (o ≡ Some a)
is_something None e = absurd (false≢true e)
is_something (Some a) e = (a, refl)
