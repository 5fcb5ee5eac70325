-- What is printed: the text of the list's sheet, or the refusal.
use mathlib.Core.Path.{◌≡◌, refl, sym, ap, ◌∙◌}
use mathlib.Core.Bool.{Bool, true, false}
use mathlib.Core.List.{List, [], ◌∷◌, ◌++◌, append-nil, map, head-eq_of_cons-eq, tail-eq_of_cons-eq}
use Prim.Native.Nat.{ℕ, zero, suc, ◌+◌, ◌≤◌, ◌<◌}
use native.Mathlib.Omega.{arith}
use borrow.Author.Tests.{lt-ltb, le-ltb}
use lib.ListN.{length, drop, length-drop}
use Rattle.forms.specs.Bytes.{text}
use Rattle.forms.specs.Decimal.{decimal_in, decimal}
use Rattle.tc_aead_cipher.specs.declared.variant.SparkleVariant.{SparkleVariant}
use Rattle.tc_aead_cipher.specs.Refusals.{line_refusal}
use Rattle.tc_aead_cipher.specs.Call.{Call, kind_of}
use Rattle.tc_sparkle_aead.specs.declared.engine.SparkleEngine.{SparkleEngine}
use Rattle.tc_sparkle_aead.specs.Engine.{new_engine}
use Rattle.tc_sparkle_aead.specs.Sheet.{step, line, lines, sheet}
use Rattle.sheet_text.specs.Text.{line_text, title_text, refusal_text, lines_text, sheet_text}
use Rattle.std.specs.Prelude.{Option, Some, None, Ok}
use Rattle.call_text.specs.declared.line.Found.{Found}
use Rattle.call_text.specs.declared.run.Run.{Run}
use Rattle.call_text.specs.declared.run.Shown.{Shown}
use Rattle.call_text.specs.CallText.{variant_text, call_text, Within, AllWithin, Written}
use Rattle.call_text.specs.List.{lines_of, refuse, check_file, read_file}
use Rattle.call_text.specs.List.FileRead.{refused}
use Rattle.call_text.specs.Line.{found_in, call_found}
use Rattle.call_text.specs.Run.{line_at, line_end, begun, begin_of, stopped, answered, next_of, printed_from, printed, Writes}
use Rattle.call_text.proofs.LinesLaws.{lines_step, lines_none, lines-count}
use Rattle.call_text.proofs.FileLaws.{written-lines, written-accepted, refused-check, call_found_lem}
use lib.Dec.{ltb}
use Rattle.call_text.proofs.ListSteps.{line-end, end_further}

-- ---- The line at a place, and the place behind it

-- The first line from a place on is the line at the place, and the others are those from behind it.
line-here : (file : List ℕ) (at : ℕ) (l : List ℕ) (ls : List (List ℕ)) → lines_of (drop at file) ≡ l ∷ ls
    → (at < length file) × (line_at file at ≡ l) × (lines_of (drop (line_end file at) file) ≡ ls)
unfolding line_at
line-here file at l ls e =
    let rest = drop at file in
    let filled : 0 < length rest = omega (arith, lines-count rest, ap length e) in
    let both = sym (lines_step rest filled) ∙ e in (
      omega (arith, length-drop at file),
      head-eq_of_cons-eq both,
      ap lines_of (line-end file at) ∙ tail-eq_of_cons-eq both,
    )

-- ---- Steps

-- From the file's end on nothing is printed.
run_end : (k : ℕ) (file : List ℕ) (r : Run) → length file ≤ r.at → printed_from k file r ≡ []
unfolding printed_from
run_end zero file r h = refl
run_end (suc k) file r h = rw (le-ltb r.at (length file) h) refl

run_step : (k : ℕ) (file : List ℕ) (r : Run) → r.at < length file
    → printed_from (suc k) file r ≡ (next_of file r).text ++ printed_from k file (next_of file r).run
unfolding printed_from
run_step k file r h = rw (lt-ltb r.at (length file) h) refl

begin_refused : (file : List ℕ) (k : ℕ) → check_file file ≡ refuse k → begin_of file ≡ begun file (refuse k)
unfolding begin_of
begin_refused file k e = ap (begun file) e

refusal-line : (k : ℕ) → refusal_text (line_refusal k) ≡ text "(no 12 " ++ decimal k ++ text ")\n"
unfolding refusal_text decimal_in
refusal-line k = ap (λ (s : List ℕ). text "(no 12 " ++ s ++ text ")\n") (append-nil (decimal k))

-- A refusal is printed alone.
pub printed-refusal : (file : List ℕ) (k : ℕ) → read_file file ≡ refused k
    → printed file ≡ text "(no 12 " ++ decimal k ++ text ")\n"
unfolding printed begun
printed-refusal file k e =
    let s = refusal_text (line_refusal k) in
    rw (begin_refused file k (refused-check file k e))
    (ap (λ (t : List ℕ). s ++ t) (run_end (length file) file _ (omega arith)) ∙ append-nil s ∙ refusal-line k)

-- Where a call's line stands, the call is made.
next_call : (file : List ℕ) (r : Run) (c : Call) → length file ≤ 65536 → Within c → line_at file r.at ≡ call_text c
    → next_of file r ≡ answered file r c
unfolding next_of
next_call file r c size w e =
    let f = call_found_lem c w in
    rw (le-ltb 65536 (length file) size, e, f.1) (ap (answered file r) (ap (λ (l : List ℕ). call_found l f.0) e ∙ f.2))

begin_list : (file : List ℕ) (v : SparkleVariant) → check_file file ≡ Ok v
    → begin_of file
    ≡ record { text = title_text v; run = record { engine = new_engine v; at = line_end file 0 } }
unfolding begin_of begun
begin_list file v e = rw e refl

-- Where the lines from a place on are calls, the steps print the sheet's lines of them.
run-lines : (calls : List Call) (k : ℕ) (file : List ℕ) (e : SparkleEngine) (at : ℕ) → length file ≤ 65536
    → AllWithin calls → lines_of (drop at file) ≡ map call_text calls → length file ≤ at + k
    → printed_from k file (record { engine = e; at = at }) ≡ lines_text calls (lines e calls)
unfolding lines answered line_end
run-lines [] k file e at size AllWithin.none f g =
    run_end k file _ (omega (arith, lines_none (drop at file) f, length-drop at file))
run-lines (c ∷ calls) zero file e at size (AllWithin.more _ _ w others) f g =
    absurd (omega (arith, (line-here file at (call_text c) (map call_text calls) f).0))
run-lines (c ∷ calls) (suc k) file e at size (AllWithin.more _ _ w others) f g =
    let r : Run = record { engine = e; at = at } in
    let here = line-here file at (call_text c) (map call_text calls) f in
    run_step k file r here.0
    ∙ ap (λ (s : Shown). s.text ++ printed_from k file s.run) (next_call file r c size w here.1)
    ∙ ap (λ (t : List ℕ). line_text (kind_of c) (line (step e c)) ++ t)
    (run-lines calls k file (step e c).engine (line_end file at) size others here.2 (omega arith))

-- Of a list's text the text of its sheet is printed.
pub printed-list : (file : List ℕ) (v : SparkleVariant) (calls : List Call) → Written v calls file
    → printed file ≡ sheet_text v calls
unfolding printed sheet_text sheet
printed-list file v calls w =
    let accepted = written-accepted file v calls w in
    let here = line-here file 0 (variant_text v) (map call_text calls) (written-lines file v calls w) in
    let from = line_end file 0 in
    let rest = run-lines calls (length file) file (new_engine v) from w.file_size w.in-limits here.2 in
    rw (begin_list file v accepted)
    (ap (λ (t : List ℕ). title_text v ++ t) (rest (omega arith)))

-- ---- A loop over the steps

next_further : (file : List ℕ) (r : Run) → r.at < length file → r.at < (next_of file r).run.at
unfolding next_of stopped answered
next_further file r h = go (ltb 65536 (length file)) refl (found_in (line_at file r.at)) refl
  where
    go : (long : Bool) → ltb 65536 (length file) ≡ long → (o : Option Found) → found_in (line_at file r.at) ≡ o
        → r.at < (next_of file r).run.at
    go true e o f = rw e h
    go false e (Some x) f = rw (e, f) (end_further file r.at h)
    go false e None f = rw (e, f) h

loop_from : (file : List ℕ) (k : ℕ) (r : Run) (s : List ℕ) → length file ≤ r.at + k → Writes file r s
    → printed_from k file r ≡ s
loop_from file k _ _ h (Writes.done r e) = run_end k file r e
loop_from file zero _ _ h (Writes.turn r s l w) = absurd (omega arith)
loop_from file (suc k) _ _ h (Writes.turn r s l w) =
    run_step k file r l
    ∙ ap (λ (t : List ℕ). (next_of file r).text ++ t)
    (loop_from file k (next_of file r).run s (omega (arith, next_further file r l)) w)

-- What is printed is the text that the run begins with, and what the loop writes from there.
pub loop_printed : (file s : List ℕ) → Writes file (begin_of file).run s
    → printed file ≡ (begin_of file).text ++ s
unfolding printed
loop_printed file s w =
    ap (λ (t : List ℕ). (begin_of file).text ++ t) (loop_from file (length file) (begin_of file).run s (omega arith) w)

-- "Before any call runs it refuses": of a refused file no step is made.
pub nothing-runs : (file : List ℕ) (k : ℕ) → read_file file ≡ refused k → Writes file (begin_of file).run []
unfolding begun
nothing-runs file k e = rw (begin_refused file k (refused-check file k e)) (Writes.done (begun file (refuse k)).run (omega arith))
