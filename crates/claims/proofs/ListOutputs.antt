-- Every list of calls, resets included: while a message is under way, the bytes handed out since its start, or since the
-- reset that restarted it, are the specification's; an accepted end completes them.
use mathlib.Core.Path.{◌≡◌, refl, sym, ap, subst, ◌∙◌}
use mathlib.Core.List.{List, [], ◌∷◌, ◌++◌, append-nil}
use Prim.Native.Nat.{ℕ}
use native.Mathlib.Omega.{arith}
use lib.ListN.{length, take}
use Rattle.std.specs.Prelude.{Result, Ok, Err}
use Rattle.schwaemm.specs.Schwaemm.{Params}
use Rattle.tc_aead_cipher.specs.declared.variant.SparkleVariant.{SparkleVariant}
use Rattle.tc_aead_cipher.specs.declared.phase.Direction.{Direction}
use Rattle.tc_aead_cipher.specs.declared.phase.Direction.TheVariants.{Encrypt, Decrypt}
use Rattle.tc_aead_cipher.specs.declared.phase.Phase.{Phase}
use Rattle.tc_aead_cipher.specs.declared.phase.Phase.TheVariants.{Uninitialized, Init, Aad, Data, Final}
use Rattle.tc_aead_cipher.specs.declared.aead_error.AeadError.{AeadError}
use Rattle.tc_aead_cipher.specs.declared.aead_init_error.AeadInitError.{AeadInitError}
use Rattle.tc_sparkle_aead.specs.declared.engine.SparkleEngine.{SparkleEngine}
use Rattle.tc_aead_cipher.specs.Variant.{params_of}
use Rattle.tc_aead_cipher.specs.Refusals.{refusal}
use Rattle.tc_aead_cipher.specs.Checks.{aad_check, data_check, end_check, start_check}
use Rattle.tc_sparkle_aead.specs.Engine.{new_engine}
use Rattle.tc_aead_cipher.specs.Call.{Call}
use Rattle.tc_sparkle_aead.specs.Sheet.{step, run_from, run}
use Rattle.tc_aead_cipher.specs.Outcome.{Outcome}
use Rattle.claims.specs.Reader.{Reader, new_reader, reader_held, header_phase, repeated, aad_phase, data_phase, read_start}
use Rattle.claims.specs.Reader.{read_header, read_message, end_by, end_in, read_end, reset_in, read, read_from, reader}
use Rattle.claims.specs.Messages.{count_of, wrote, handed_by, handed, UnderWay, released, finished_bytes}
use Rattle.claims.proofs.Invariant.{Invariant, invariant_new}
use Rattle.claims.proofs.InvariantKept.{invariant_step}
use Rattle.claims.proofs.CallOutputs.{end_refused}
use Rattle.claims.proofs.UnrefusedMessages.{released-none, released-step, wrote-refused}
use Rattle.claims.proofs.Demand2.{passed, end-bytes}

-- ---- A message that is under way after a call was so before it, or has just begun.

under-header : (phase : Phase) (input : List ℕ) → UnderWay (aad_phase phase input) → UnderWay phase
under-header phase [] u = u
under-header Uninitialized (x ∷ input) u = u
under-header (Init d) (x ∷ input) u = tt
under-header (Aad d) (x ∷ input) u = tt
under-header (Data d) (x ∷ input) u = tt
under-header (Final d) (x ∷ input) u = u

header-under : (k : Result ℕ AeadError) (r : Reader) (input : List ℕ) → UnderWay (read_header k r input).reader.phase
    → UnderWay r.phase
header-under (Ok n) r input u = under-header r.phase input u
header-under (Err x) r input u = u

under-data : (phase : Phase) → UnderWay (data_phase phase) → UnderWay phase
under-data Uninitialized u = u
under-data (Init d) u = tt
under-data (Aad d) u = tt
under-data (Data d) u = tt
under-data (Final d) u = u

message-under : (k : Result ℕ AeadError) (r : Reader) (input : List ℕ) → UnderWay (read_message k r input).reader.phase
    → UnderWay r.phase
message-under (Ok n) r input u = under-data r.phase u
message-under (Err x) r input u = u

end-over : (d : Direction) (p : Params) (r : Reader) → UnderWay (end_by d p r).reader.phase → ⊥
end-over Encrypt p r u = u
end-over Decrypt p r u = u

ended-over : (phase : Phase) (p : Params) (r : Reader) → r.phase ≡ phase → UnderWay (end_in phase p r).reader.phase → ⊥
ended-over Uninitialized p r is u = subst UnderWay is u
ended-over (Init d) p r is u = end-over d p r u
ended-over (Aad d) p r is u = end-over d p r u
ended-over (Data d) p r is u = end-over d p r u
ended-over (Final d) p r is u = subst UnderWay is u

-- ---- What a start, an end and a reset leave.

start-nothing : (k : Result (Unit {0}) AeadInitError) (p : Params) (r : Reader) (d : Direction) (key nonce h : List ℕ)
    → UnderWay (read_start k r d key nonce h).reader.phase → [] ≡ released p (read_start k r d key nonce h).reader
start-nothing (Ok _) p r d key nonce h u = sym (released-none p _ h (header_phase d h) h [] refl)
start-nothing (Err x) p r d key nonce h u = absurd u

reset-nothing : (phase : Phase) (p : Params) (r : Reader) → r.phase ≡ phase → UnderWay (reset_in phase r).phase
    → [] ≡ released p (reset_in phase r)
reset-nothing Uninitialized p r is u = absurd (subst UnderWay is u)
reset-nothing (Init d) p r is u = sym (released-none p _ _ (header_phase d r.initial) r.initial [] refl)
reset-nothing (Aad d) p r is u = sym (released-none p _ _ (header_phase d r.initial) r.initial [] refl)
reset-nothing (Data Encrypt) p r is u = absurd u
reset-nothing (Data Decrypt) p r is u = sym (released-none p _ _ (header_phase Decrypt r.initial) r.initial [] refl)
reset-nothing (Final Encrypt) p r is u = absurd (subst UnderWay is u)
reset-nothing (Final Decrypt) p r is u = sym (released-none p _ _ (header_phase Decrypt r.initial) r.initial [] refl)

-- ---- A call, and a list of calls.

module _ (v : SparkleVariant) where
  so_far_step : (e : SparkleEngine) (r : Reader) → Invariant v e r → (c : Call) (before : List ℕ)
      → (UnderWay r.phase → before ≡ released (params_of v) r) → UnderWay (read v r c).reader.phase
      → handed_by c before (wrote (step e c)) ≡ released (params_of v) (read v r c).reader
  unfolding read
  so_far_step e r w (Call.Init d key nonce size h) before was u =
      start-nothing (start_check v d (length key) (length nonce) size (repeated r key nonce)) (params_of v) r d key nonce h u
  so_far_step e r w (Call.Aad input) before was u =
      ap (λ (l : List ℕ). l ++ wrote (step e (Call.Aad input)))
      (was (header-under (aad_check r.phase (length input)) r input u))
      ∙ sym (released-step v e r w (Call.Aad input) tt)
  so_far_step e r w (Call.Data input out) before was u =
      ap (λ (l : List ℕ). l ++ wrote (step e (Call.Data input out)))
      (was (message-under (data_check (params_of v) r.phase (reader_held (params_of v) r) (length input) (length out)) r input u))
      ∙ sym (released-step v e r w (Call.Data input out) tt)
  so_far_step e r w (Call.Final out) before was u =
      by (end_check (params_of v) r.phase (reader_held (params_of v) r) (length out)) refl
    where
      by : (k : Result ℕ AeadError) → end_check (params_of v) r.phase (reader_held (params_of v) r) (length out) ≡ k
          → before ++ wrote (step e (Call.Final out)) ≡ released (params_of v) (read v r (Call.Final out)).reader
      by (Ok n) q =
          absurd (ended-over r.phase (params_of v) r refl
          (subst (λ (k : Result ℕ AeadError). UnderWay (read_end k (params_of v) r).reader.phase) q u))
      by (Err x) q =
          rw (wrote-refused (step e (Call.Final out)) (refusal x) (end_refused v e r w out x q), append-nil) refl
          ∙ was (subst (λ (k : Result ℕ AeadError). UnderWay (read_end k (params_of v) r).reader.phase) q u)
          ∙ sym (ap (λ (k : Result ℕ AeadError). released (params_of v) (read_end k (params_of v) r).reader) q)
  so_far_step e r w Call.Reset before was u = reset-nothing r.phase (params_of v) r refl u
  so_far_step e r w Call.Mac before was u =
      ap (λ (l : List ℕ). l ++ wrote (step e Call.Mac)) (was u) ∙ sym (released-step v e r w Call.Mac tt)
  so_far_step e r w (Call.Update n) before was u =
      ap (λ (l : List ℕ). l ++ wrote (step e (Call.Update n))) (was u) ∙ sym (released-step v e r w (Call.Update n) tt)
  so_far_step e r w (Call.Output n) before was u =
      ap (λ (l : List ℕ). l ++ wrote (step e (Call.Output n))) (was u) ∙ sym (released-step v e r w (Call.Output n) tt)

  so_far_from : (e : SparkleEngine) (r : Reader) → Invariant v e r → (calls : List Call) (before : List ℕ)
      → (UnderWay r.phase → before ≡ released (params_of v) r) → UnderWay (read_from v r calls).phase
      → handed e before calls ≡ released (params_of v) (read_from v r calls)
  unfolding read_from handed
  so_far_from e r w [] before was u = was u
  so_far_from e r w (c ∷ calls) before was u =
      so_far_from (step e c).engine (read v r c).reader (invariant_step v e r w c) calls _
      (λ now. so_far_step e r w c before was now) u

  pub so_far : (calls : List Call) → UnderWay (reader v calls).phase
      → handed (new_engine v) [] calls ≡ released (params_of v) (reader v calls)
  unfolding reader
  so_far calls u = so_far_from (new_engine v) new_reader (invariant_new v) calls [] (λ none. absurd none) u

-- ---- An accepted end.

handed-append : (e : SparkleEngine) (before : List ℕ) (xs ys : List Call)
    → handed e before (xs ++ ys) ≡ handed (run_from e xs) (handed e before xs) ys
unfolding handed run_from
handed-append e before [] ys = refl
handed-append e before (c ∷ xs) ys = handed-append (step e c).engine _ xs ys

end-under : (p : Params) (phase : Phase) (held a n : ℕ) → end_check p phase held a ≡ Ok n → UnderWay phase
unfolding end_check
end-under p Uninitialized held a n e = absurd (let z : ◌≡◌ {A = ℕ} 0 1 = cc in omega arith)
end-under p (Init d) held a n e = tt
end-under p (Aad d) held a n e = tt
end-under p (Data d) held a n e = tt
end-under p (Final d) held a n e = absurd (let z : ◌≡◌ {A = ℕ} 0 1 = cc in omega arith)

pub finished : (v : SparkleVariant) (calls : List Call) (out : List ℕ) (n : ℕ)
    → (step (run v calls) (Call.Final out)).outcome ≡ Outcome.ok n
    → handed (new_engine v) [] (calls ++ (Call.Final out ∷ [])) ≡ finished_bytes (params_of v) (reader v calls)
unfolding handed wrote run
finished v calls out n o =
    let e = run_from (new_engine v) calls in
    let u = end-under (params_of v) _ _ _ n (passed v calls out n o).0 in
    handed-append (new_engine v) [] calls (Call.Final out ∷ [])
    ∙ ap (λ (l : List ℕ). l ++ take (count_of (step e (Call.Final out)).outcome) (step e (Call.Final out)).buffer) (so_far v calls u)
    ∙ ap (λ (x : Outcome). released (params_of v) (reader v calls) ++ take (count_of x) (step e (Call.Final out)).buffer) o
    ∙ sym (end-bytes v calls out n o).bytes
