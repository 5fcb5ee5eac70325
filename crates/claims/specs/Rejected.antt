-- The engines that document 01's "Agreement" rejects, as machines.
use Rattle.std.specs.Prelude.{Bool, true, false, List, [], ◌∷◌, ℕ, suc, ◌+◌}
use Rattle.tc_sparkle_aead.specs.declared.engine.SparkleEngine.{SparkleEngine}
use Rattle.tc_sparkle_aead.specs.Engine.{new_engine}
use Rattle.tc_sparkle_aead.specs.Calls.{steps_now}
use Rattle.tc_aead_cipher.specs.Call.{Call}
use Rattle.tc_aead_cipher.specs.Outcome.{Outcome}
use Rattle.tc_sparkle_aead.specs.Sheet.{step, Line, line}
use Rattle.tc_aead_cipher.specs.Outcome.Outcome.{ok, no}
use Rattle.claims.specs.Refused.{lent}
use Rattle.claims.specs.Machine.{Reply, Machine}

-- One reporting NotInitialized to everything.
abbrev pub not_initialized : Machine
not_initialized =
    record {
      State = Unit {0};
      new = λ v. tt;
      step = λ s c.
          record {
            state = tt;
            line = record { outcome = no (8 ∷ []); steps = 0; readable = false };
            buffer = lent c;
          };
    }

-- One with a fixed sheet, whatever the sheet and whatever it writes.
abbrev pub fixed : (ℕ → Line) → (ℕ → Call → List ℕ) → Machine
fixed f write =
    record {
      State = ℕ;
      new = λ v. 0;
      step = λ n c. record { state = suc n; line = f n; buffer = write n c };
    }

-- One returning ok over untouched output: the engine with its outputs left untouched.
abbrev pub untouched : Machine
untouched =
    record {
      State = SparkleEngine;
      new = new_engine;
      step = λ e c. record { state = (step e c).engine; line = line (step e c); buffer = lent c };
    }

-- One sealing the first data call and skipping later ones: the engine with a flag, set by an accepted data call and dropped by
-- a start and a reset. Where it is set, data calls are skipped.
pub record Flagged : Type 0 where
  pub engine : SparkleEngine
  pub flag : Bool

abbrev pub accepted : Outcome → Bool
accepted (ok n) = true
accepted (no r) = false

abbrev pub skip_step : Bool → SparkleEngine → Call → Reply Flagged
skip_step b e (Call.Init d key nonce size header) =
    let l = step e (Call.Init d key nonce size header) in
    record { state = record { engine = l.engine; flag = false }; line = line l; buffer = l.buffer }
skip_step b e (Call.Aad input) =
    let l = step e (Call.Aad input) in
    record { state = record { engine = l.engine; flag = b }; line = line l; buffer = l.buffer }
skip_step false e (Call.Data input out) =
    let l = step e (Call.Data input out) in
    record { state = record { engine = l.engine; flag = accepted l.outcome }; line = line l; buffer = l.buffer }
skip_step true e (Call.Data input out) =
    record {
      state = record { engine = e; flag = true };
      line = record { outcome = ok 0; steps = steps_now e; readable = false };
      buffer = out;
    }
skip_step b e (Call.Final out) =
    let l = step e (Call.Final out) in
    record { state = record { engine = l.engine; flag = b }; line = line l; buffer = l.buffer }
skip_step b e Call.Reset =
    let l = step e Call.Reset in
    record { state = record { engine = l.engine; flag = false }; line = line l; buffer = l.buffer }
skip_step b e Call.Mac =
    let l = step e Call.Mac in
    record { state = record { engine = l.engine; flag = b }; line = line l; buffer = l.buffer }
skip_step b e (Call.Update n) =
    let l = step e (Call.Update n) in
    record { state = record { engine = l.engine; flag = b }; line = line l; buffer = l.buffer }
skip_step b e (Call.Output n) =
    let l = step e (Call.Output n) in
    record { state = record { engine = l.engine; flag = b }; line = line l; buffer = l.buffer }

abbrev pub skipping : Machine
skipping =
    record {
      State = Flagged;
      new = λ v. record { engine = new_engine v; flag = false };
      step = λ s c. skip_step s.flag s.engine c;
    }

-- One inventing steps: the engine with more steps than it ran.
abbrev pub inventing : ℕ → Machine
inventing k =
    record {
      State = SparkleEngine;
      new = new_engine;
      step = λ e c.
          let l = step e c in
          record {
            state = l.engine;
            line = record { outcome = l.outcome; steps = steps_now l.engine + suc k; readable = (line l).readable };
            buffer = l.buffer;
          };
    }

-- One saying AlreadyFinalized outside Final: the engine that answers 10 to every data call.
abbrev pub final_step : SparkleEngine → Call → Reply SparkleEngine
final_step e (Call.Init d key nonce size header) =
    let l = step e (Call.Init d key nonce size header) in
    record { state = l.engine; line = line l; buffer = l.buffer }
final_step e (Call.Aad input) =
    let l = step e (Call.Aad input) in record { state = l.engine; line = line l; buffer = l.buffer }
final_step e (Call.Data input out) =
    record {
      state = e;
      line = record { outcome = no (10 ∷ []); steps = steps_now e; readable = false };
      buffer = out;
    }
final_step e (Call.Final out) =
    let l = step e (Call.Final out) in record { state = l.engine; line = line l; buffer = l.buffer }
final_step e Call.Reset = let l = step e Call.Reset in record { state = l.engine; line = line l; buffer = l.buffer }
final_step e Call.Mac = let l = step e Call.Mac in record { state = l.engine; line = line l; buffer = l.buffer }
final_step e (Call.Update n) =
    let l = step e (Call.Update n) in record { state = l.engine; line = line l; buffer = l.buffer }
final_step e (Call.Output n) =
    let l = step e (Call.Output n) in record { state = l.engine; line = line l; buffer = l.buffer }

abbrev pub finalizing : Machine
finalizing = record { State = SparkleEngine; new = new_engine; step = final_step }
