-- What a call that is given by its kind leaves: the answer, the engine and the output.
use Rattle.std.specs.Prelude.{◌≡◌, List, ℕ, Result}
use Rattle.tc_aead_cipher.specs.Call.{Call, call_of}
use Rattle.tc_aead_cipher.specs.declared.refusal.Refusal.{Refusal}
use Rattle.tc_aead_cipher.specs.Outcome.{answered}
use Rattle.tc_sparkle_aead.specs.declared.engine.SparkleEngine.{SparkleEngine}
use Rattle.tc_sparkle_aead.specs.declared.engine.Done.{Done}
use Rattle.tc_sparkle_aead.specs.Sheet.{step}
use Rattle.dispatch.specs.declared.Call.{Call as Given}

-- The call that a kind, a number and three runs of bytes make with an output.
abbrev pub call_made : Given → (out : List ℕ) → Call
call_made g out = call_of g.kind g.number g.first.now g.second.now g.third.now out

-- The answer has the outcome of the call's step, and the engine is the one that it leads to.
abbrev pub Leaves : SparkleEngine → Call → Done (Result ℕ Refusal) → Type 0
Leaves e c r = (answered r.answer ≡ (step e c).outcome) × (r.engine ≡ (step e c).engine)

-- The output that is lent: data calls and ends write it, and no other call touches it.
unfoldable pub output_after : SparkleEngine → Call → (out : List ℕ) → List ℕ
output_after e (Call.Init d key nonce size header) out = out
output_after e (Call.Aad input) out = out
output_after e (Call.Data input lent) out = (step e (Call.Data input lent)).buffer
output_after e (Call.Final lent) out = (step e (Call.Final lent)).buffer
output_after e Call.Reset out = out
output_after e Call.Mac out = out
output_after e (Call.Update n) out = out
output_after e (Call.Output n) out = out
