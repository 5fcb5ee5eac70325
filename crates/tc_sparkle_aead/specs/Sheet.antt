-- A list of an engine's calls, what the engine makes of it, and the sheet of its answers. Each case of `step` is the
-- definition that the call's own contract cites.
use Rattle.std.specs.Prelude.{ℕ, Bool, cond, List, [], ◌∷◌}
use Rattle.tc_aead_cipher.specs.declared.variant.SparkleVariant.{SparkleVariant}
use Rattle.tc_aead_cipher.specs.Variant.{params_of}
use Rattle.tc_aead_cipher.specs.Call.{Call}
use Rattle.tc_aead_cipher.specs.Outcome.{Outcome, outcome, start_outcome}
use Rattle.tc_aead_cipher.specs.Outcome.Outcome.{ok}
use Rattle.tc_sparkle_aead.specs.declared.engine.SparkleEngine.{SparkleEngine}
use Rattle.tc_sparkle_aead.specs.Engine.{new_engine, update_output_len, output_len}
use Rattle.tc_sparkle_aead.specs.Calls.{init, process_aad_bytes, process_bytes, process_bytes_out, do_final, do_final_out, mac_of}
use Rattle.tc_sparkle_aead.specs.Calls.{steps_now}
use Rattle.tc_sparkle_aead.specs.Calls.{reset as resetEngine}

-- What a call leaves: the engine, the outcome, and the output buffer that was lent, if one was.
pub record StepResult : Type 0 where
  pub engine : SparkleEngine
  pub outcome : Outcome
  pub buffer : List ℕ

unfoldable pub step : SparkleEngine → Call → StepResult
step e (Call.Init d key nonce size h) =
    let r = init e d key nonce size h in record { engine = r.engine; outcome = start_outcome r.answer; buffer = [] }
step e (Call.Aad input) =
    let r = process_aad_bytes e input in record { engine = r.engine; outcome = outcome r.answer; buffer = [] }
step e (Call.Data input out) =
    let r = process_bytes e input out in
    record { engine = r.engine; outcome = outcome r.answer; buffer = process_bytes_out e input out }
step e (Call.Final out) =
    let r = do_final e out in
    record { engine = r.engine; outcome = outcome r.answer; buffer = do_final_out e out }
step e Call.Reset = record { engine = resetEngine e; outcome = ok 0; buffer = [] }
step e Call.Mac =
    record { engine = e; outcome = ok (cond (mac_of e).readable (params_of e.variant).key 0); buffer = [] }
step e (Call.Update n) = record { engine = e; outcome = outcome (update_output_len e n); buffer = [] }
step e (Call.Output n) = record { engine = e; outcome = outcome (output_len e n); buffer = [] }

-- A line of a sheet: the outcome, the steps, and whether a tag can be read.
pub record Line : Type 0 where
  pub outcome : Outcome
  pub steps : ℕ
  pub readable : Bool

unfoldable pub line : StepResult → Line
line l = record { outcome = l.outcome; steps = steps_now l.engine; readable = (mac_of l.engine).readable }

-- The lines of a list of calls, each call on the engine as the last one left it.
unfoldable pub lines : SparkleEngine → List Call → List Line
lines e [] = []
lines e (c ∷ calls) = line (step e c) ∷ lines (step e c).engine calls

unfoldable pub sheet : SparkleVariant → List Call → List Line
sheet v calls = lines (new_engine v) calls

-- The engine after a list of calls, and after a list of calls from a new engine.
unfoldable pub run_from : SparkleEngine → List Call → SparkleEngine
run_from e [] = e
run_from e (c ∷ calls) = run_from (step e c).engine calls

unfoldable pub run : SparkleVariant → List Call → SparkleEngine
run v calls = run_from (new_engine v) calls
