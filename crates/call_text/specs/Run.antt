-- The run of a file's calls, line of the sheet after line (document 02, 2026-01), and all that is printed.
use Rattle.std.specs.Prelude.{Ok, Err, Some, None, ℕ, zero, suc, ◌+◌, ◌≤◌, ◌<◌, min, cond, List, [], ◌++◌, ltb, length}
use Rattle.forms.specs.Bytes.{run_at, is_line}
use Rattle.tc_aead_cipher.specs.declared.variant.SparkleVariant.TheVariants.{Schwaemm128_128}
use Rattle.tc_aead_cipher.specs.Refusals.{line_refusal}
use Rattle.tc_aead_cipher.specs.Call.{Call, kind_of}
use Rattle.tc_sparkle_aead.specs.declared.engine.SparkleEngine.{SparkleEngine}
use Rattle.tc_sparkle_aead.specs.Engine.{new_engine}
use Rattle.tc_sparkle_aead.specs.Sheet.{step, line}
use Rattle.sheet_text.specs.Text.{line_text, title_text, refusal_text}
use Rattle.call_text.specs.declared.run.Run.{Run}
use Rattle.call_text.specs.declared.run.Shown.{Shown}
use Rattle.call_text.specs.Line.{found_in, call_found}
use Rattle.call_text.specs.List.{Checked, check_file}

-- The line that begins at a place of a file, and the place behind it.
unfoldable pub line_at : List ℕ → ℕ → List ℕ
line_at file at = run_at is_line file at

unfoldable pub line_end : List ℕ → ℕ → ℕ
line_end file at = min (at + length (line_at file at) + 1) (length file)

-- The title and a new engine, in front of the calls; or the refusal, and nothing more.
unfoldable pub begun : List ℕ → Checked → Shown
begun file (Err e) =
    record { text = refusal_text (line_refusal e.line); run = record { engine = new_engine Schwaemm128_128; at = length file } }
begun file (Ok v) = record { text = title_text v; run = record { engine = new_engine v; at = line_end file 0 } }

unfoldable pub begin_of : List ℕ → Shown
begin_of file = begun file (check_file file)

-- Nothing more.
unfoldable pub stopped : List ℕ → SparkleEngine → Shown
stopped file e = record { text = []; run = record { engine = e; at = length file } }

-- The sheet's line of a call, and the engine after it.
unfoldable pub answered : List ℕ → Run → Call → Shown
answered file r c =
    let s = step r.engine c in
    record {
      text = line_text (kind_of c) (line s);
      run = record { engine = s.engine; at = line_end file r.at };
    }

-- The call of the line where the run stands; nothing more where no call stands there.
unfoldable pub next_of : List ℕ → Run → Shown
next_of file r =
    let l = line_at file r.at in
    cond (ltb 65536 (length file)) (stopped file r.engine)
    (elim (found_in l) [ Some f ↦ answered file r (call_found l f) | None ↦ stopped file r.engine ])

-- ---- All that is printed

-- What the steps print until the file's end. The first number bounds them; the file's length is enough.
unfoldable pub printed_from : ℕ → List ℕ → Run → List ℕ
printed_from zero file r = []
printed_from (suc k) file r =
    cond (ltb r.at (length file)) ((next_of file r).text ++ printed_from k file (next_of file r).run) []

unfoldable pub printed : List ℕ → List ℕ
printed file = (begin_of file).text ++ printed_from (length file) file (begin_of file).run

-- What a loop over the steps writes, with no bound: nothing at the file's end, and else a step's text and what it
-- writes from the run behind it.
pub data Writes (file : List ℕ) : Run → List ℕ → Type 0 where
  done : (r : Run) → length file ≤ r.at → Writes file r []
  turn : (r : Run) (s : List ℕ) → r.at < length file → Writes file (next_of file r).run s
      → Writes file r ((next_of file r).text ++ s)
