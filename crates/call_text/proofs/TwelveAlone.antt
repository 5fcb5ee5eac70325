-- 12 is the refusal of a file alone: no call answers with it.
use mathlib.Core.Path.{◌≡◌, ap}
use mathlib.Core.List.{List, ◌∷◌}
use Prim.Native.Nat.{ℕ, ◌≤◌}
use native.Mathlib.Omega.{arith}
use Rattle.tc_aead_cipher.specs.Call.{Call}
use Rattle.tc_aead_cipher.specs.Outcome.{Outcome}
use Rattle.tc_aead_cipher.specs.Outcome.Outcome.{no}
use Rattle.tc_aead_cipher.specs.Reply.{reply_of}
use Rattle.tc_aead_cipher.proofs.ReplyLaws.{answer-number, start-number}
use Rattle.tc_sparkle_aead.specs.declared.engine.SparkleEngine.{SparkleEngine}
use Rattle.tc_sparkle_aead.specs.Engine.{update_output_len, output_len}
use Rattle.tc_sparkle_aead.specs.Calls.{init, process_aad_bytes, process_bytes, do_final}
use Rattle.tc_sparkle_aead.specs.Sheet.{step}

-- Every answer of a call has a number of at most 11.
pub step-number : (e : SparkleEngine) (c : Call) → (reply_of (step e c).outcome).number ≤ 11
unfolding step
step-number e (Call.Init d key nonce size header) = start-number (init e d key nonce size header).answer
step-number e (Call.Aad input) = answer-number (process_aad_bytes e input).answer
step-number e (Call.Data input out) = answer-number (process_bytes e input out).answer
step-number e (Call.Final out) = answer-number (do_final e out).answer
step-number e Call.Reset = omega arith
step-number e Call.Mac = omega arith
step-number e (Call.Update n) = answer-number (update_output_len e n)
step-number e (Call.Output n) = answer-number (output_len e n)

-- No call answers with 12.
pub twelve_alone : (e : SparkleEngine) (c : Call) (values : List ℕ) → (step e c).outcome ≡ no (12 ∷ values) → ⊥
twelve_alone e c values h = omega (arith, step-number e c, ap (λ (o : Outcome). (reply_of o).number) h)
