-- Demand 2, the steps: on every line of every list of calls they are the formula's. Outside Final the step invariant has
-- them; in Final they change only at the end that leads there and at a reset.
use mathlib.Core.Path.{◌≡◌, refl, sym, ap, ◌∙◌}
use mathlib.Core.List.{List, [], ◌∷◌, map}
use Prim.Native.Nat.{ℕ, ◌%◌, ◌^◌}
use native.Mathlib.Omega.{arith}
use lib.ListN.{length}
use Rattle.std.specs.Prelude.{Result, Ok, Err}
use Rattle.schwaemm.specs.Schwaemm.{Params, steps}
use Rattle.tc_aead_cipher.specs.declared.variant.SparkleVariant.{SparkleVariant}
use Rattle.tc_aead_cipher.specs.declared.phase.Direction.{Direction}
use Rattle.tc_aead_cipher.specs.declared.phase.Direction.TheVariants.{Encrypt, Decrypt}
use Rattle.tc_aead_cipher.specs.declared.phase.Phase.{Phase}
use Rattle.tc_aead_cipher.specs.declared.phase.Phase.TheVariants.{Uninitialized, Init, Aad, Data, Final}
use Rattle.tc_aead_cipher.specs.declared.aead_error.AeadError.{AeadError}
use Rattle.tc_aead_cipher.specs.declared.aead_init_error.AeadInitError.{AeadInitError}
use Rattle.tc_sparkle_aead.specs.declared.engine.SparkleEngine.{SparkleEngine}
use Rattle.tc_aead_cipher.specs.Variant.{params_of}
use Rattle.tc_aead_cipher.specs.Checks.{aad_check, data_check, end_check, start_check}
use Rattle.tc_sparkle_aead.specs.Engine.{new_engine, no_steps, reset_steps}
use Rattle.tc_sparkle_aead.specs.Calls.{steps_now}
use Rattle.tc_sparkle_aead.specs.Calls.{reset as resetEngine}
use Rattle.tc_aead_cipher.specs.Call.{Call}
use Rattle.tc_sparkle_aead.specs.Sheet.{step, Line, line, sheet}
use Rattle.claims.specs.Reader.{Reader, new_reader, reader_held, repeated, read_start, aad_phase, read_header, data_phase}
use Rattle.claims.specs.Reader.{Load, loaded_key, loaded_nonce, read_message, read_end, reset_in, read}
use Rattle.claims.specs.Refused.{Active}
use Rattle.claims.specs.Refused.Active.{in-init, in_aad, in-data}
use Rattle.claims.specs.Steps.{steps_before, steps_after_init, message_length, end_steps, final_steps, steps_in, counts}
use Rattle.claims.specs.Messages.{Before, Keeps}
use Rattle.claims.specs.Machine.{engine, lines_of, sheet_of}
use Rattle.claims.proofs.Invariant.{Invariant, invariant_new, phase_agrees}
use Rattle.claims.proofs.InvariantKept.{reader_of, invariant_step}
use Rattle.claims.proofs.Accepted.{end_passed_active}
use Rattle.claims.proofs.StepInvariant.{Counted, counted-new, counted_step, end-counted}
use Rattle.claims.proofs.Demand2.{final_keeps}
use Rattle.claims.proofs.MachineDemand3.{engine-lines}

-- ---- The count in a phase

phase-count : (p : Params) (phase old : Phase) (loads : List Load) (initial header body : List ℕ) (n before : ℕ) (c : Call)
    → (Before phase → n ≡ steps_before p phase header body % 2 ^ 64)
    → ((d : Direction) → phase ≡ Final d → n ≡ final_steps c old p before d (reader_of loads initial phase header body))
    → n ≡ steps_in phase old p before c (reader_of loads initial phase header body)
phase-count p Uninitialized old loads initial header body n before c b f = b tt
phase-count p (Init d) old loads initial header body n before c b f = b tt
phase-count p (Aad d) old loads initial header body n before c b f = b tt
phase-count p (Data d) old loads initial header body n before c b f = b tt
phase-count p (Final d) old loads initial header body n before c b f = f d refl

-- ---- Which calls lead to Final

start_not_final : (k : Result (Unit {0}) AeadInitError) (r : Reader) (d e : Direction) (key nonce h : List ℕ)
    → (read_start k r d key nonce h).reader.phase ≡ Final e → ⊥
start_not_final (Err x) r d e key nonce h q = let z : ◌≡◌ {A = ℕ} 0 1 = cc in omega arith
start_not_final (Ok _) r d e key nonce [] q = let z : ◌≡◌ {A = ℕ} 0 1 = cc in omega arith
start_not_final (Ok _) r d e key nonce (x ∷ h) q = let z : ◌≡◌ {A = ℕ} 0 1 = cc in omega arith

aad_final : (phase : Phase) (input : List ℕ) (d : Direction) → aad_phase phase input ≡ Final d → phase ≡ Final d
aad_final phase [] d q = q
aad_final Uninitialized (x ∷ input) d q = q
aad_final (Init e) (x ∷ input) d q = cc
aad_final (Aad e) (x ∷ input) d q = q
aad_final (Data e) (x ∷ input) d q = q
aad_final (Final e) (x ∷ input) d q = q

header_final : (k : Result ℕ AeadError) (r : Reader) (input : List ℕ) (d : Direction)
    → (read_header k r input).reader.phase ≡ Final d → r.phase ≡ Final d
header_final (Err x) r input d q = q
header_final (Ok n) r input d q = aad_final r.phase input d q

data_final : (phase : Phase) (d : Direction) → data_phase phase ≡ Final d → phase ≡ Final d
data_final Uninitialized d q = q
data_final (Init e) d q = cc
data_final (Aad e) d q = cc
data_final (Data e) d q = q
data_final (Final e) d q = q

message_final : (k : Result ℕ AeadError) (r : Reader) (input : List ℕ) (d : Direction)
    → (read_message k r input).reader.phase ≡ Final d → r.phase ≡ Final d
message_final (Err x) r input d q = q
message_final (Ok n) r input d q = data_final r.phase d q

-- An accepted end leads to Final in the phase's own direction.
taken-steps : (p : Params) (d : Direction) {phase : Phase} → Active d phase → (loads : List Load) (initial header body : List ℕ)
    (n before k : ℕ) → n ≡ steps p (length header) (message_length d p (length body)) % 2 ^ 64
    → (f : Direction) → (read_end (Ok k) p (reader_of loads initial phase header body)).reader.phase ≡ Final f
    → n ≡ end_steps phase p before f (read_end (Ok k) p (reader_of loads initial phase header body)).reader
taken-steps p d t loads initial header body n before k e f q = by d t e q
  where
    to : (d : Direction) → d ≡ f → steps p (length header) (message_length d p (length body)) % 2 ^ 64
        ≡ steps p (length header) (message_length f p (length body)) % 2 ^ 64
    to d z = ap (λ (x : Direction). steps p (length header) (message_length x p (length body)) % 2 ^ 64) z

    by : (d : Direction) {phase : Phase} → Active d phase
        → n ≡ steps p (length header) (message_length d p (length body)) % 2 ^ 64
        → (read_end (Ok k) p (reader_of loads initial phase header body)).reader.phase ≡ Final f
        → n ≡ end_steps phase p before f (read_end (Ok k) p (reader_of loads initial phase header body)).reader
    by Encrypt in-init e q = let z : Encrypt ≡ f = cc in e ∙ to Encrypt z
    by Encrypt in_aad e q = let z : Encrypt ≡ f = cc in e ∙ to Encrypt z
    by Encrypt in-data e q = let z : Encrypt ≡ f = cc in e ∙ to Encrypt z
    by Decrypt in-init e q = let z : Decrypt ≡ f = cc in e ∙ to Decrypt z
    by Decrypt in_aad e q = let z : Decrypt ≡ f = cc in e ∙ to Decrypt z
    by Decrypt in-data e q = let z : Decrypt ≡ f = cc in e ∙ to Decrypt z

-- A reset that leads to Final, or stays there, is a sealing's.
reset-count : (p : Params) (r : Reader) (phase : Phase) (d : Direction) → r.phase ≡ phase → (reset_in phase r).phase ≡ Final d
    → steps_after_init p phase r.initial ≡ steps_after_init p (Final d) (reset_in phase r).initial
unfolding steps_after_init
reset-count p r Uninitialized d h q = absurd (let z : ◌≡◌ {A = ℕ} 0 1 = cc in omega arith)
reset-count p r (Init f) d h q = refl
reset-count p r (Aad f) d h q = refl
reset-count p r (Data Encrypt) d h q = refl
reset-count p r (Data Decrypt) d h q = refl
reset-count p r (Final Encrypt) d h q = refl
reset-count p r (Final Decrypt) d h q = refl

-- ---- The steps after a call

module _ (v : SparkleVariant) (e : SparkleEngine) (r : Reader) (w : Invariant v e r) (n : Counted v e.steps r) where
  -- in Final a call that is neither init nor reset changes nothing
  same-steps : (c : Call) → Keeps c → (d : Direction) → r.phase ≡ Final d → steps_now (step e c).engine ≡ steps_now e
  same-steps c k d q =
      ap steps_now
      (final_keeps e d
      (ap (λ (x : SparkleEngine). x.current.phase) w.same-engine
      ∙ phase_agrees (params_of v) (loaded_key r) (loaded_nonce r) r.header r.body r.phase ∙ q)
      c k)

  end_in_final : (out : List ℕ) (d : Direction) (k : Result ℕ AeadError)
      → end_check (params_of v) r.phase (reader_held (params_of v) r) (length out) ≡ k
      → (read_end k (params_of v) r).reader.phase ≡ Final d
      → steps_now (step e (Call.Final out)).engine
      ≡ end_steps r.phase (params_of v) (steps_now e) d (read_end k (params_of v) r).reader
  end_in_final out d (Err x) passed q =
      same-steps (Call.Final out) tt d q
      ∙ sym (ap (λ (phase : Phase). end_steps phase (params_of v) (steps_now e) d r) q)
  end_in_final out d (Ok k) passed q =
      let t = end_passed_active (params_of v) r.phase (reader_held (params_of v) r) (length out) k passed in
      taken-steps (params_of v) t.0 t.1 r.loads r.initial r.header r.body _ (steps_now e) k
      (end-counted v e r w n out k passed t.1) d q

  -- in Final the steps are those of the end, of the reset, or what they were
  steps_in_final : (c : Call) (d : Direction) → (read v r c).reader.phase ≡ Final d
      → steps_now (step e c).engine
      ≡ final_steps c r.phase (params_of v) (steps_now e) d (read v r c).reader
  unfolding read
  steps_in_final (Call.Init f key nonce size h) d q =
      absurd (start_not_final (start_check v f (length key) (length nonce) size (repeated r key nonce)) r f d key nonce h q)
  steps_in_final (Call.Aad input) d q =
      same-steps (Call.Aad input) tt d (header_final (aad_check r.phase (length input)) r input d q)
  steps_in_final (Call.Data input out) d q =
      same-steps (Call.Data input out) tt d
      (message_final (data_check (params_of v) r.phase (reader_held (params_of v) r) (length input) (length out)) r input d q)
  steps_in_final (Call.Final out) d q =
      end_in_final out d (end_check (params_of v) r.phase (reader_held (params_of v) r) (length out)) refl q
  steps_in_final Call.Reset d q = unfold steps_now in unfold step in unfold resetEngine in unfold reset_steps in
      n.initial ∙ ap (λ (m : ℕ). m % 2 ^ 64) (reset-count (params_of v) r r.phase d refl q)
  steps_in_final Call.Mac d q = unfold step in refl
  steps_in_final (Call.Update k) d q = unfold step in refl
  steps_in_final (Call.Output k) d q = unfold step in refl

  steps-after : (c : Call)
      → steps_now (step e c).engine
      ≡ steps_in (read v r c).reader.phase r.phase (params_of v) (steps_now e) c (read v r c).reader
  steps-after c =
      let q = (read v r c).reader in
      phase-count (params_of v) q.phase r.phase q.loads q.initial q.header q.body _ (steps_now e) c
      (unfold steps_now in (counted_step v e r w n c).current) (steps_in_final c)

engine-counts : (v : SparkleVariant) (calls : List Call) (e : SparkleEngine) (r : Reader) → Invariant v e r
    → Counted v e.steps r → map (λ (l : Line). l.steps) (lines_of engine e calls) ≡ counts v r (steps_now e) calls
unfolding counts line
engine-counts v [] e r w n = refl
engine-counts v (c ∷ calls) e r w n =
    let s = steps-after v e r w n c in
    let q = (read v r c).reader in
    ap (λ (ns : List ℕ). steps_now (step e c).engine ∷ ns)
    (engine-counts v calls (step e c).engine q (invariant_step v e r w c) (counted_step v e r w n c))
    ∙ ap (λ (m : ℕ). m ∷ counts v q m calls) s

-- Demand 2, the steps.
pub engine-counted : (v : SparkleVariant) (calls : List Call)
    → map (λ (l : Line). l.steps) (sheet_of engine v calls) ≡ counts v new_reader 0 calls
unfolding new_engine no_steps steps_now
engine-counted v calls = engine-counts v calls (new_engine v) new_reader (invariant_new v) (counted-new v)

-- The same of the sheet of the engine's own calls.
pub sheet-counted : (v : SparkleVariant) (calls : List Call)
    → map (λ (l : Line). l.steps) (sheet v calls) ≡ counts v new_reader 0 calls
unfolding sheet
sheet-counted v calls =
    sym (ap (map (λ (l : Line). l.steps)) (engine-lines (new_engine v) calls)) ∙ engine-counted v calls
