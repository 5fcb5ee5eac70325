-- Every answer but mac's is a function of what the reader keeps: document 01's checks over the reader's phase and held
-- bytes, at a sealing start whether the pair repeats, and at an opening's end whether the packet is verified.
use mathlib.Core.Path.{◌≡◌, refl, sym, ap, ◌∙◌}
use mathlib.Core.Bool.{Bool, true, false, cond}
use mathlib.Core.List.{List, [], ◌∷◌}
use Prim.Native.Nat.{ℕ}
use lib.ListN.{length}
use Rattle.std.specs.Prelude.{Result, Ok, Err}
use Rattle.schwaemm.specs.Schwaemm.{verified}
use Rattle.tc_aead_cipher.specs.declared.variant.SparkleVariant.{SparkleVariant}
use Rattle.tc_aead_cipher.specs.declared.phase.Phase.{Phase}
use Rattle.tc_aead_cipher.specs.declared.phase.Phase.TheVariants.{Uninitialized, Init, Aad, Data, Final}
use Rattle.tc_aead_cipher.specs.declared.aead_error.AeadError.{AeadError}
use Rattle.tc_sparkle_aead.specs.declared.engine.SparkleEngine.{SparkleEngine}
use Rattle.tc_aead_cipher.specs.Variant.{params_of}
use Rattle.tc_aead_cipher.specs.Checks.{opening, aad_check, header_check, end_check}
use Rattle.tc_sparkle_aead.specs.Calls.{aad_by}
use Rattle.tc_aead_cipher.specs.Call.{Call}
use Rattle.tc_sparkle_aead.specs.Sheet.{step, run}
use Rattle.tc_aead_cipher.specs.Outcome.{Outcome, outcome}
use Rattle.claims.specs.Reader.{Reader, reader_held, reader, loaded_key, loaded_nonce}
use Rattle.claims.specs.Messages.{open_outcome, Asked, end_outcome, answer_of}
use Rattle.claims.proofs.Invariant.{Invariant, engine_of}
use Rattle.claims.proofs.InvariantKept.{invariant_run, aad_some}
use Rattle.claims.proofs.CallOutputs.{message-outcome, seal-end, open_end_lem, end_refused}
use Rattle.claims.proofs.UnrefusedMessages.{header-outcome, start-outcome}
use Rattle.claims.proofs.AcceptedMessages.{update_outcome, total_outcome}

-- a header call answers its check
header-phase : (phase : Phase) (e : SparkleEngine) (x : ℕ) (input : List ℕ)
    → (aad_by (header_check phase) e (x ∷ input)).answer ≡ header_check phase
header-phase Uninitialized e x input = refl
header-phase (Init d) e x input = refl
header-phase (Aad d) e x input = refl
header-phase (Data d) e x input = refl
header-phase (Final d) e x input = refl

header-same : (phase : Phase) (e : SparkleEngine) (input : List ℕ)
    → (aad_by (aad_check phase (length input)) e input).answer ≡ aad_check phase (length input)
header-same phase e [] = unfold aad_check in refl
header-same phase e (x ∷ input) =
    ap (λ (k : Result ℕ AeadError). (aad_by k e (x ∷ input)).answer) (aad_some phase (length input))
    ∙ header-phase phase e x input ∙ sym (aad_some phase (length input))

open_is : (g : Bool) (n : ℕ) → cond g (Outcome.ok n) (Outcome.no (6 ∷ [])) ≡ open_outcome g n
open_is true n = refl
open_is false n = refl

end-answer : (v : SparkleVariant) (e : SparkleEngine) (r : Reader) → Invariant v e r → (out : List ℕ) (k : Result ℕ AeadError)
    → end_check (params_of v) r.phase (reader_held (params_of v) r) (length out) ≡ k → (o : Bool) → opening r.phase ≡ o
    → (step e (Call.Final out)).outcome ≡ end_outcome k o (verified (params_of v) (loaded_key r) (loaded_nonce r) r.header r.body)
end-answer v e r w out (Err x) q o is = end_refused v e r w out x q
end-answer v e r w out (Ok n) q true is =
    (open_end_lem v e r w out n q is).outcome-is
    ∙ open_is (verified (params_of v) (loaded_key r) (loaded_nonce r) r.header r.body) n
end-answer v e r w out (Ok n) q false is = (seal-end v e r w out n q is).outcome-is

pub answer-step : (v : SparkleVariant) (e : SparkleEngine) (r : Reader) → Invariant v e r → (c : Call) → Asked c
    → (step e c).outcome ≡ answer_of v r c
unfolding answer_of
answer-step v e r w (Call.Init d key nonce size h) a = start-outcome v e r w d key nonce size h
answer-step v e r w (Call.Aad input) a =
    header-outcome v e r w input ∙ ap outcome (header-same r.phase (engine_of v r w.mac w.steps) input)
answer-step v e r w (Call.Data input out) a = message-outcome v e r w input out
answer-step v e r w (Call.Final out) a = end-answer v e r w out _ refl _ refl
answer-step v e r w Call.Reset a = unfold step in refl
answer-step v e r w Call.Mac a = absurd a
answer-step v e r w (Call.Update n) a = update_outcome v e r w n
answer-step v e r w (Call.Output n) a = total_outcome v e r w n

-- After any list of calls.
pub answers : (v : SparkleVariant) (calls : List Call) (c : Call) → Asked c
    → (step (run v calls) c).outcome ≡ answer_of v (reader v calls) c
answers v calls = answer-step v (run v calls) (reader v calls) (invariant_run v calls)
