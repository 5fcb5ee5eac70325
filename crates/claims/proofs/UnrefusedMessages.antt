-- Whole messages: the bytes that a list of calls writes, concatenated, are the specification's, however header and data
-- are cut and whatever refused calls and queries stand between.
use mathlib.Core.Path.{◌≡◌, refl, sym, ap, ap₂, subst, ◌∙◌}
use mathlib.Core.Bool.{Bool, true, false, cond}
use mathlib.Core.List.{List, [], ◌∷◌, ◌++◌, append_assoc, append-nil}
use Prim.Native.Nat.{ℕ}
use native.Mathlib.Omega.{arith}
use lib.ListN.{length, take}
use lib.Seq.{take-nil}
use Rattle.std.specs.Prelude.{Result, Ok, Err}
use Rattle.schwaemm.specs.Blocks.{given}
use Rattle.schwaemm.specs.Schwaemm.{Params, crypt, prepared, message_block, decrypt, seal, body as body_of, verified}
use Rattle.schwaemm.proofs.RoundTrip.{body-seal, decrypt-encrypt}
use Rattle.tc_aead_cipher.specs.declared.variant.SparkleVariant.{SparkleVariant}
use Rattle.tc_aead_cipher.specs.declared.phase.Direction.{Direction}
use Rattle.tc_aead_cipher.specs.declared.phase.Direction.TheVariants.{Encrypt, Decrypt}
use Rattle.tc_aead_cipher.specs.declared.phase.Phase.{Phase}
use Rattle.tc_aead_cipher.specs.declared.phase.Phase.TheVariants.{Uninitialized, Init, Aad, Data, Final}
use Rattle.tc_aead_cipher.specs.declared.aead_error.AeadError.{AeadError}
use Rattle.tc_aead_cipher.specs.declared.aead_init_error.AeadInitError.{AeadInitError}
use Rattle.tc_sparkle_aead.specs.declared.message.Mac.{Mac}
use Rattle.tc_sparkle_aead.specs.declared.engine.SparkleEngine.{SparkleEngine}
use Rattle.tc_aead_cipher.specs.Variant.{params_of}
use Rattle.tc_aead_cipher.specs.Refusals.{refusal}
use Rattle.tc_aead_cipher.specs.Checks.{opening, keep, aad_check, header_check, data_check, end_check, start_check}
use Rattle.tc_sparkle_aead.specs.Engine.{repeats}
use Rattle.tc_sparkle_aead.specs.Message.{plain_of}
use Rattle.tc_sparkle_aead.specs.Calls.{init_by, init, aad_by, process_aad_bytes}
use Rattle.tc_aead_cipher.proofs.VariantLaws.{sizes, small}
use Rattle.tc_aead_cipher.specs.Call.{Call}
use Rattle.tc_sparkle_aead.specs.Sheet.{StepResult, step, run_from, run}
use Rattle.tc_aead_cipher.specs.Outcome.{Outcome, outcome, start_outcome}
use Rattle.claims.specs.Refused.{Active}
use Rattle.claims.specs.Reader.{Reader, reader_held, header_phase, repeated, aad_phase, data_phase, read_header, read_message}
use Rattle.claims.specs.Reader.{Load, loaded_key, loaded_nonce, last_key, after_load, last_nonce, read_start, read_end, read}
use Rattle.claims.specs.Reader.{read_from, reader}
use Rattle.claims.specs.Messages.{released, Writes, count_of, wrote, outputs, header_in, data_of, RefusedByCheck, Between}
use Rattle.claims.specs.Messages.{AllBetween, if_ok, accepted_header, accepted_data, started_engine, OpenedUnrefused}
use Rattle.tc_sparkle_aead.proofs.Points.{ready_zero}
use Rattle.claims.proofs.Invariant.{Invariant, PhaseInvariant, pair_in, engine_of, repeats_agree, last_fits}
use Rattle.claims.proofs.InvariantKept.{reader_of, invariant_step, invariant_from, invariant_run, aad_some}
use Rattle.claims.proofs.InvariantKept.{header-answer}
use Rattle.claims.proofs.Accepted.{active_opening}
use Rattle.claims.proofs.CallOutputs.{message-outcome, message_writes_next, seal-end, open_end_lem, end_refused}

-- ---- The bytes of a list of calls

pub outputs-append : (e : SparkleEngine) (xs ys : List Call) → outputs e (xs ++ ys)
    ≡ outputs e xs ++ outputs (run_from e xs) ys
unfolding outputs run_from
outputs-append e [] ys = refl
outputs-append e (c ∷ xs) ys =
    ap (λ (l : List ℕ). wrote (step e c) ++ l) (outputs-append (step e c).engine xs ys)
    ∙ sym (append_assoc (wrote (step e c)) (outputs (step e c).engine xs) (outputs (run_from (step e c).engine xs) ys))

-- ---- Between start and end

-- an end that the checks refuse changes nothing
not_passed : (g : Bool) (n : ℕ) (o : Outcome) → o ≡ cond g (Outcome.ok n) (Outcome.no (6 ∷ [])) → RefusedByCheck o → ⊥
not_passed true n o e f = let h = f.1 in let z : ◌≡◌ {A = ℕ} 0 1 = cc in omega arith
not_passed false n o e f = let h = f.1 in f.2 (cc)

pub end_unread : (v : SparkleVariant) (e : SparkleEngine) (r : Reader) → Invariant v e r → (out : List ℕ)
    → RefusedByCheck (step e (Call.Final out)).outcome → (read v r (Call.Final out)).reader ≡ r
unfolding read
end_unread v e r w out f =
    by (end_check (params_of v) r.phase (reader_held (params_of v) r) (length out)) refl (opening r.phase) refl
  where
    by : (k : Result ℕ AeadError) → end_check (params_of v) r.phase (reader_held (params_of v) r) (length out) ≡ k
        → (o : Bool) → opening r.phase ≡ o → (read v r (Call.Final out)).reader ≡ r
    by (Err x) q o is = ap (λ (k : Result ℕ AeadError). (read_end k (params_of v) r).reader) q
    by (Ok n) q true is =
        absurd (not_passed (verified (params_of v) (loaded_key r) (loaded_nonce r) r.header r.body) n _
        (open_end_lem v e r w out n q is).outcome-is f)
    by (Ok n) q false is = absurd (not_passed true n _ (seal-end v e r w out n q is).outcome-is f)

-- a message is under way, in a direction, under a key and a nonce
pub record ActiveUnder (d : Direction) (key nonce : List ℕ) (r : Reader) : Type 0 where
  pub active : Active d r.phase
  pub key-is : loaded_key r ≡ key
  pub nonce-is : loaded_nonce r ≡ nonce

active_header : {d : Direction} {phase : Phase} → Active d phase → (input : List ℕ) → Active d (aad_phase phase input)
active_header t [] = t
active_header Active.in-init (x ∷ input) = Active.in_aad
active_header Active.in_aad (x ∷ input) = Active.in_aad
active_header Active.in-data (x ∷ input) = Active.in-data

pub active_message : {d : Direction} {phase : Phase} → Active d phase → Active d (data_phase phase)
active_message Active.in-init = Active.in-data
active_message Active.in_aad = Active.in-data
active_message Active.in-data = Active.in-data

module _ (d : Direction) (key nonce : List ℕ) where
  header_stays_active : (r : Reader) (input : List ℕ) (k : Result ℕ AeadError) → ActiveUnder d key nonce r
      → ActiveUnder d key nonce (read_header k r input).reader
  header_stays_active r input (Ok n) g =
      record { active = active_header g.active input; key-is = g.key-is; nonce-is = g.nonce-is }
  header_stays_active r input (Err x) g = g

  message_stays_active : (r : Reader) (input : List ℕ) (k : Result ℕ AeadError) → ActiveUnder d key nonce r
      → ActiveUnder d key nonce (read_message k r input).reader
  message_stays_active r input (Ok n) g = record { active = active_message g.active; key-is = g.key-is; nonce-is = g.nonce-is }
  message_stays_active r input (Err x) g = g

  pub step_stays_active : (v : SparkleVariant) (e : SparkleEngine) (r : Reader) → Invariant v e r → (c : Call) → Between e c
      → ActiveUnder d key nonce r → ActiveUnder d key nonce (read v r c).reader
  unfolding read
  step_stays_active v e r w (Call.Init d' k n size h) b g = absurd b
  step_stays_active v e r w (Call.Aad input) b g = header_stays_active r input (aad_check r.phase (length input)) g
  step_stays_active v e r w (Call.Data input out) b g =
      message_stays_active r input (data_check (params_of v) r.phase (reader_held (params_of v) r) (length input) (length out)) g
  step_stays_active v e r w (Call.Final out) b g = subst (ActiveUnder d key nonce) (sym (end_unread v e r w out b)) g
  step_stays_active v e r w Call.Reset b g = absurd b
  step_stays_active v e r w Call.Mac b g = g
  step_stays_active v e r w (Call.Update n) b g = g
  step_stays_active v e r w (Call.Output n) b g = g

  pub calls_stay_active : (v : SparkleVariant) (e : SparkleEngine) (r : Reader) → Invariant v e r → (calls : List Call) → AllBetween e calls
      → ActiveUnder d key nonce r → ActiveUnder d key nonce (read_from v r calls)
  unfolding read_from
  calls_stay_active v e r w [] b g = g
  calls_stay_active v e r w (c ∷ calls) b g =
      calls_stay_active v (step e c).engine (read v r c).reader (invariant_step v e r w c) calls b.1
      (step_stays_active v e r w c b.0 g)

-- before the data nothing is given
pub released-none : (p : Params) (loads : List Load) (initial : List ℕ) (phase : Phase) (header body : List ℕ) → body ≡ []
    → released p (reader_of loads initial phase header body) ≡ []
unfolding released given
released-none p loads initial phase header body e =
    ap (λ (b : List ℕ). released p (reader_of loads initial phase header b)) e
    ∙ ap (λ (n : ℕ). given p.rate (message_block p (plain_of p phase)) (crypt p) n (prepared p (last_key loads) (last_nonce loads) header) [])
    (ready_zero p.rate (keep p phase))

-- nothing comes of calls without a buffer
wrote_none : (l : StepResult) → l.buffer ≡ [] → wrote l ≡ []
unfolding wrote
wrote_none l e = ap (take (count_of l.outcome)) e ∙ take-nil (count_of l.outcome)

pub wrote-refused : (l : StepResult) (values : List ℕ) → l.outcome ≡ Outcome.no values → wrote l ≡ []
unfolding wrote
wrote-refused l values o = ap (λ (x : Outcome). take (count_of x) l.buffer) o

-- a header call gives nothing
released-more : (p : Params) (phase : Phase) (loads : List Load) (initial header body : List ℕ) (mac : Mac)
    → PhaseInvariant p phase loads header body mac → (x : ℕ) (input : List ℕ)
    → released p (read_header (header_check phase) (reader_of loads initial phase header body) (x ∷ input)).reader
    ≡ released p (reader_of loads initial phase header body)
released-more p Uninitialized loads initial header body mac st x input = refl
released-more p (Init d) loads initial header body mac st x input =
    released-none p loads initial (Aad d) (header ++ (x ∷ input)) body st.3
    ∙ sym (released-none p loads initial (Init d) header body st.3)
released-more p (Aad d) loads initial header body mac st x input =
    released-none p loads initial (Aad d) (header ++ (x ∷ input)) body st.3
    ∙ sym (released-none p loads initial (Aad d) header body st.3)
released-more p (Data d) loads initial header body mac st x input = refl
released-more p (Final d) loads initial header body mac st x input = refl

released-header : (v : SparkleVariant) (e : SparkleEngine) (r : Reader) → Invariant v e r → (input : List ℕ)
    → released (params_of v) (read v r (Call.Aad input)).reader ≡ released (params_of v) r
unfolding read aad_check
released-header v e r w [] =
    ap (λ (l : List ℕ). released (params_of v) (reader_of r.loads r.initial r.phase l r.body))
    (append-nil r.header)
released-header v e r w (x ∷ input) =
    ap (λ (k : Result ℕ AeadError). released (params_of v) (read_header k r (x ∷ input)).reader) (aad_some r.phase (length input))
    ∙ released-more (params_of v) r.phase r.loads r.initial r.header r.body w.mac
    w.phase_invariant x input

-- a data call gives what it wrote
released-message : (v : SparkleVariant) (e : SparkleEngine) (r : Reader) → Invariant v e r → (input out : List ℕ)
    → released (params_of v) (read v r (Call.Data input out)).reader
    ≡ released (params_of v) r ++ wrote (step e (Call.Data input out))
unfolding wrote read
released-message v e r w input out =
    by (data_check (params_of v) r.phase (reader_held (params_of v) r) (length input) (length out)) refl
  where
    by : (k : Result ℕ AeadError) → data_check (params_of v) r.phase (reader_held (params_of v) r) (length input) (length out) ≡ k
        → released (params_of v) (read v r (Call.Data input out)).reader
        ≡ released (params_of v) r ++ wrote (step e (Call.Data input out))
    by (Ok n) h =
        let o : (step e (Call.Data input out)).outcome ≡ Outcome.ok n = message-outcome v e r w input out ∙ ap outcome h in
        let q = message_writes_next v e r w input out n o in
        q.bytes ∙ ap (λ (x : Outcome). released (params_of v) r ++ take (count_of x)
        (step e (Call.Data input out)).buffer) (sym o)
    by (Err x) h =
        let o : (step e (Call.Data input out)).outcome ≡ Outcome.no (refusal x) =
        message-outcome v e r w input out ∙ ap outcome h in
        ap (λ (k : Result ℕ AeadError). released (params_of v) (read_message k r input).reader) h
        ∙ rw (wrote-refused (step e (Call.Data input out)) (refusal x) o, append-nil) refl

-- what calls between start and end give is what they wrote
pub released-step : (v : SparkleVariant) (e : SparkleEngine) (r : Reader) → Invariant v e r → (c : Call) → Between e c
    → released (params_of v) (read v r c).reader ≡ released (params_of v) r ++ wrote (step e c)
unfolding step
released-step v e r w (Call.Init d key nonce size h) b = absurd b
released-step v e r w (Call.Aad input) b =
    released-header v e r w input ∙ rw (wrote_none (step e (Call.Aad input)) refl, append-nil) refl
released-step v e r w (Call.Data input out) b = released-message v e r w input out
released-step v e r w (Call.Final out) b =
    ap (released (params_of v)) (end_unread v e r w out b)
    ∙ rw (wrote-refused (step e (Call.Final out)) b.0 b.1, append-nil) refl
released-step v e r w Call.Reset b = absurd b
released-step v e r w Call.Mac b = unfold read in rw (wrote_none (step e Call.Mac) refl, append-nil) refl
released-step v e r w (Call.Update n) b =
    unfold read in rw (wrote_none (step e (Call.Update n)) refl, append-nil) refl
released-step v e r w (Call.Output n) b =
    unfold read in rw (wrote_none (step e (Call.Output n)) refl, append-nil) refl

released-from : (v : SparkleVariant) (e : SparkleEngine) (r : Reader) → Invariant v e r → (calls : List Call)
    → AllBetween e calls
    → released (params_of v) (read_from v r calls) ≡ released (params_of v) r ++ outputs e calls
unfolding read_from outputs
released-from v e r w [] b = sym (append-nil (released (params_of v) r))
released-from v e r w (c ∷ calls) b =
    released-from v (step e c).engine (read v r c).reader (invariant_step v e r w c) calls b.1
    ∙ ap (λ (l : List ℕ). l ++ outputs (step e c).engine calls) (released-step v e r w c b.0)
    ∙ append_assoc (released (params_of v) r) (wrote (step e c)) (outputs (step e c).engine calls)

-- ---- What was accepted is what the reader keeps

header-by : (k : Result ℕ AeadError) (e : SparkleEngine) (r : Reader) (input : List ℕ)
    → (read_header k r input).reader.header ≡ r.header ++ if_ok (outcome (aad_by k e input).answer) input
header-by (Ok n) e r [] = refl
header-by (Ok n) e r (x ∷ input) = refl
header-by (Err x) e r input = sym (append-nil r.header)

header_body_by : (k : Result ℕ AeadError) (r : Reader) (input : List ℕ) → (read_header k r input).reader.body ≡ r.body
header_body_by (Ok n) r input = refl
header_body_by (Err x) r input = refl

data-by : (k : Result ℕ AeadError) (r : Reader) (input : List ℕ) → (read_message k r input).reader.body
    ≡ r.body ++ if_ok (outcome k) input
data-by (Ok n) r input = refl
data-by (Err x) r input = sym (append-nil r.body)

data_header_by : (k : Result ℕ AeadError) (r : Reader) (input : List ℕ) → (read_message k r input).reader.header ≡ r.header
data_header_by (Ok n) r input = refl
data_header_by (Err x) r input = refl

if_none : (o : Outcome) → if_ok o [] ≡ []
if_none (Outcome.ok n) = refl
if_none (Outcome.no values) = refl

nothing_added : (a b : List ℕ) (o : Outcome) → a ≡ b → a ≡ b ++ if_ok o []
nothing_added a b o e = e ∙ rw (if_none o, append-nil) refl

pub header-outcome : (v : SparkleVariant) (e : SparkleEngine) (r : Reader) (w : Invariant v e r) (input : List ℕ)
    → (step e (Call.Aad input)).outcome
    ≡ outcome (aad_by (aad_check r.phase (length input)) (engine_of v r w.mac w.steps) input).answer
unfolding step process_aad_bytes
header-outcome v e r w input =
    let K = engine_of v r w.mac w.steps in
    ap (λ (x : SparkleEngine). outcome (aad_by (aad_check x.current.phase (length input)) x input).answer)
    w.same-engine
    ∙ ap (λ (k : Result ℕ AeadError). outcome (aad_by k K input).answer) (header-answer v r w.mac w.steps (length input))

header_step_accepted : (v : SparkleVariant) (e : SparkleEngine) (r : Reader) → Invariant v e r → (c : Call) → Between e c
    → (read v r c).reader.header ≡ r.header ++ if_ok (step e c).outcome (header_in c)
unfolding read
header_step_accepted v e r w (Call.Init d key nonce size h) b = absurd b
header_step_accepted v e r w (Call.Aad input) b =
    header-by (aad_check r.phase (length input)) (engine_of v r w.mac w.steps) r input
    ∙ ap (λ (o : Outcome). r.header ++ if_ok o input) (sym (header-outcome v e r w input))
header_step_accepted v e r w (Call.Data input out) b =
    nothing_added _ r.header (step e (Call.Data input out)).outcome
    (data_header_by (data_check (params_of v) r.phase (reader_held (params_of v) r) (length input) (length out)) r input)
header_step_accepted v e r w (Call.Final out) b =
    nothing_added _ r.header (step e (Call.Final out)).outcome (ap (λ (x : Reader). x.header) (end_unread v e r w out b))
header_step_accepted v e r w Call.Reset b = absurd b
header_step_accepted v e r w Call.Mac b = nothing_added r.header r.header (step e Call.Mac).outcome refl
header_step_accepted v e r w (Call.Update n) b = nothing_added r.header r.header (step e (Call.Update n)).outcome refl
header_step_accepted v e r w (Call.Output n) b = nothing_added r.header r.header (step e (Call.Output n)).outcome refl

data_step_accepted : (v : SparkleVariant) (e : SparkleEngine) (r : Reader) → Invariant v e r → (c : Call) → Between e c
    → (read v r c).reader.body ≡ r.body ++ if_ok (step e c).outcome (data_of c)
unfolding read
data_step_accepted v e r w (Call.Init d key nonce size h) b = absurd b
data_step_accepted v e r w (Call.Aad input) b =
    nothing_added _ r.body (step e (Call.Aad input)).outcome (header_body_by (aad_check r.phase (length input)) r input)
data_step_accepted v e r w (Call.Data input out) b =
    data-by (data_check (params_of v) r.phase (reader_held (params_of v) r) (length input) (length out)) r input
    ∙ ap (λ (o : Outcome). r.body ++ if_ok o input) (sym (message-outcome v e r w input out))
data_step_accepted v e r w (Call.Final out) b =
    nothing_added _ r.body (step e (Call.Final out)).outcome (ap (λ (x : Reader). x.body) (end_unread v e r w out b))
data_step_accepted v e r w Call.Reset b = absurd b
data_step_accepted v e r w Call.Mac b = nothing_added r.body r.body (step e Call.Mac).outcome refl
data_step_accepted v e r w (Call.Update n) b = nothing_added r.body r.body (step e (Call.Update n)).outcome refl
data_step_accepted v e r w (Call.Output n) b = nothing_added r.body r.body (step e (Call.Output n)).outcome refl

header_accepted_from : (v : SparkleVariant) (e : SparkleEngine) (r : Reader) → Invariant v e r → (calls : List Call)
    → AllBetween e calls
    → (read_from v r calls).header ≡ r.header ++ accepted_header e calls
unfolding read_from accepted_header
header_accepted_from v e r w [] b = sym (append-nil r.header)
header_accepted_from v e r w (c ∷ calls) b =
    header_accepted_from v (step e c).engine (read v r c).reader (invariant_step v e r w c) calls b.1
    ∙ ap (λ (l : List ℕ). l ++ accepted_header (step e c).engine calls) (header_step_accepted v e r w c b.0)
    ∙ append_assoc r.header (if_ok (step e c).outcome (header_in c)) (accepted_header (step e c).engine calls)

data_accepted_from : (v : SparkleVariant) (e : SparkleEngine) (r : Reader) → Invariant v e r → (calls : List Call)
    → AllBetween e calls
    → (read_from v r calls).body ≡ r.body ++ accepted_data e calls
unfolding read_from accepted_data
data_accepted_from v e r w [] b = sym (append-nil r.body)
data_accepted_from v e r w (c ∷ calls) b =
    data_accepted_from v (step e c).engine (read v r c).reader (invariant_step v e r w c) calls b.1
    ∙ ap (λ (l : List ℕ). l ++ accepted_data (step e c).engine calls) (data_step_accepted v e r w c b.0)
    ∙ append_assoc r.body (if_ok (step e c).outcome (data_of c)) (accepted_data (step e c).engine calls)

-- ---- A start

-- The reader after an accepted start.
abbrev pub started_reader : Reader → Direction → (key nonce header : List ℕ) → Reader
started_reader r d key nonce header = reader_of (after_load r.loads key nonce) header (header_phase d header) header []

start-answered : (k : Result (Unit {0}) AeadInitError) (e : SparkleEngine) (d : Direction) (key nonce header : List ℕ)
    → (init_by k e d key nonce header).answer ≡ k
start-answered (Ok _) e d key nonce header = refl
start-answered (Err x) e d key nonce header = refl

pub start-outcome : (v : SparkleVariant) (e : SparkleEngine) (r : Reader) → Invariant v e r
    → (d : Direction) (key nonce : List ℕ) (size : ℕ) (h : List ℕ)
    → (step e (Call.Init d key nonce size h)).outcome
    ≡ start_outcome (start_check v d (length key) (length nonce) size (repeated r key nonce))
unfolding step init
start-outcome v e r w d key nonce size h =
    let p = params_of v in
    ap (λ (x : SparkleEngine). start_outcome (init x d key nonce size h).answer) w.same-engine
    ∙ ap start_outcome
    (start-answered (start_check v d (length key) (length nonce) size (repeats p (pair_in r.loads) key nonce))
    (engine_of v r w.mac w.steps) d key nonce h)
    ∙ ap (λ (b : Bool). start_outcome (start_check v d (length key) (length nonce) size b))
    (repeats_agree p (small v) r.loads w.loads_fit key nonce)

pub start-read : (v : SparkleVariant) (e : SparkleEngine) (r : Reader) → Invariant v e r
    → (d : Direction) (key nonce : List ℕ) (size : ℕ) (h : List ℕ) (n : ℕ)
    → (step e (Call.Init d key nonce size h)).outcome ≡ Outcome.ok n
    → (read v r (Call.Init d key nonce size h)).reader ≡ started_reader r d key nonce h
start-read v e r w d key nonce size h n o =
    by (start_check v d (length key) (length nonce) size (repeated r key nonce)) refl
  where
    by : (k : Result (Unit {0}) AeadInitError) → start_check v d (length key) (length nonce) size (repeated r key nonce) ≡ k
        → (read v r (Call.Init d key nonce size h)).reader ≡ started_reader r d key nonce h
    by (Ok _) q = unfold read in ap (λ (k : Result (Unit {0}) AeadInitError). (read_start k r d key nonce h).reader) q
    by (Err x) q =
        absurd (let s = sym o ∙ start-outcome v e r w d key nonce size h ∙ ap start_outcome q in let z : ◌≡◌ {A = ℕ} 0 1 = cc in omega arith)

started_active : (r : Reader) (d : Direction) (key nonce header : List ℕ)
    → ActiveUnder d key nonce (started_reader r d key nonce header)
started_active r d key nonce [] = record { active = Active.in-init; key-is = refl; nonce-is = refl }
started_active r d key nonce (x ∷ header) = record { active = Active.in_aad; key-is = refl; nonce-is = refl }

-- ---- Whole messages, of what was accepted

-- The reader after calls behind an accepted start.
abbrev pub last_reader : SparkleVariant → (before : List Call) → Direction → (key nonce initial : List ℕ) → List Call → Reader
last_reader v before d key nonce initial between =
    read_from v (started_reader (reader v before) d key nonce initial) between

module _ (v : SparkleVariant) (before : List Call) (d : Direction) (key nonce : List ℕ) (size : ℕ) (initial : List ℕ)
    (between : List Call) (out : List ℕ) where
  module _ (k : ℕ) (taken : (step (run v before) (Call.Init d key nonce size initial)).outcome ≡ Outcome.ok k)
      (b : AllBetween (started_engine v before d key nonce size initial) between) where
    pub start_invariant : Invariant v (started_engine v before d key nonce size initial) (started_reader (reader v before) d key nonce initial)
    start_invariant =
        let w = invariant_run v before in
        subst (Invariant v (started_engine v before d key nonce size initial))
        (start-read v (run v before) (reader v before) w d key nonce size initial k taken)
        (invariant_step v (run v before) (reader v before) w (Call.Init d key nonce size initial))

    pub last_invariant : Invariant v (run_from (started_engine v before d key nonce size initial) between)
        (last_reader v before d key nonce initial between)
    last_invariant =
        invariant_from v (started_engine v before d key nonce size initial)
        (started_reader (reader v before) d key nonce initial) start_invariant between

    pub last_active : ActiveUnder d key nonce (last_reader v before d key nonce initial between)
    last_active =
        calls_stay_active d key nonce v (started_engine v before d key nonce size initial) (started_reader (reader v before) d key nonce initial) start_invariant between b
        (started_active (reader v before) d key nonce initial)

    last-released : released (params_of v) (last_reader v before d key nonce initial between)
        ≡ outputs (started_engine v before d key nonce size initial) between
    last-released =
        released-from v (started_engine v before d key nonce size initial)
        (started_reader (reader v before) d key nonce initial) start_invariant between b
        ∙ ap (λ (l : List ℕ). l ++ outputs (started_engine v before d key nonce size initial) between)
        (released-none (params_of v) (after_load (reader v before).loads key nonce) initial (header_phase d initial) initial [] refl)

    -- the bytes of the whole list
    whole-outputs : outputs (run v before) (Call.Init d key nonce size initial ∷ (between ++ (Call.Final out ∷ [])))
        ≡ released (params_of v) (last_reader v before d key nonce initial between) ++ wrote
        (step (run_from (started_engine v before d key nonce size initial) between) (Call.Final out))
    unfolding outputs step
    whole-outputs =
        ap (λ (l : List ℕ). l ++ outputs (started_engine v before d key nonce size initial) (between ++ (Call.Final out ∷ [])))
        (wrote_none (step (run v before) (Call.Init d key nonce size initial)) refl)
        ∙ outputs-append (started_engine v before d key nonce size initial) between (Call.Final out ∷ [])
        ∙ ap₂ (λ (x y : List ℕ). x ++ y) (sym last-released) (append-nil
        (wrote (step (run_from (started_engine v before d key nonce size initial) between) (Call.Final out))))

-- an end's bytes, from its outcome
ended-bytes : (a b out : List ℕ) (n : ℕ) (l : StepResult) → l.outcome ≡ Outcome.ok n → Writes a b out l.buffer n → b
    ≡ a ++ wrote l
unfolding wrote
ended-bytes a b out n l o q = q.bytes ∙ ap (λ (x : Outcome). a ++ take (count_of x) l.buffer) (sym o)

-- an accepted end has passed its checks
end_checked : (v : SparkleVariant) (e : SparkleEngine) (r : Reader) → Invariant v e r → (out : List ℕ) (n : ℕ)
    → (step e (Call.Final out)).outcome ≡ Outcome.ok n
    → (m : ℕ) × (end_check (params_of v) r.phase (reader_held (params_of v) r) (length out) ≡ Ok m)
end_checked v e r w out n o = by (end_check (params_of v) r.phase (reader_held (params_of v) r) (length out)) refl
  where
    by : (x : Result ℕ AeadError) → end_check (params_of v) r.phase (reader_held (params_of v) r) (length out) ≡ x
        → (m : ℕ) × (end_check (params_of v) r.phase (reader_held (params_of v) r) (length out) ≡ Ok m)
    by (Ok m) q = (m, q)
    by (Err x) q = absurd (let s = sym o ∙ end_refused v e r w out x q in let z : ◌≡◌ {A = ℕ} 0 1 = cc in omega arith)

-- A sealing: after any list of calls, an accepted start, any calls between, and an accepted end, the bytes written are the
-- specification's packet for the header and the data that were accepted.
pub sealed_accepted : (v : SparkleVariant) (before : List Call) (key nonce : List ℕ) (size : ℕ) (initial : List ℕ)
    (between : List Call) (out : List ℕ)
    (k n : ℕ) → (step (run v before) (Call.Init Encrypt key nonce size initial)).outcome ≡ Outcome.ok k
    → AllBetween (started_engine v before Encrypt key nonce size initial) between
    → (step (run_from (started_engine v before Encrypt key nonce size initial) between) (Call.Final out)).outcome ≡ Outcome.ok n
    → outputs (run v before) (Call.Init Encrypt key nonce size initial ∷ (between ++ (Call.Final out ∷ [])))
    ≡ seal (params_of v) key nonce (last_reader v before Encrypt key nonce initial between).header
    (last_reader v before Encrypt key nonce initial between).body
sealed_accepted v before key nonce size initial between out k n taken b o =
    let p = params_of v in
    let r = last_reader v before Encrypt key nonce initial between in
    let w = last_invariant v before Encrypt key nonce size initial between out k taken b in
    let g = last_active v before Encrypt key nonce size initial between out k taken b in
    let c = end_checked v _ r w out n o in
    let s = seal-end v _ r w out c.0 c.1 (active_opening g.active) in
    whole-outputs v before Encrypt key nonce size initial between out k taken b
    ∙ sym (ended-bytes _ _ out c.0 _ s.outcome-is s.bytes-are)
    ∙ ap₂ (λ (x y : List ℕ). seal p x y r.header r.body) g.key-is g.nonce-is

-- An opening: the end is accepted only where the packet that was accepted is verified, and then the bytes written are what
-- its body decrypts to.
pub record OpenedAccepted (v : SparkleVariant) (key nonce : List ℕ) (r : Reader) (bytes : List ℕ) : Type 0 where
  pub verifies : verified (params_of v) key nonce r.header r.body ≡ true
  pub bytes-are : bytes ≡ decrypt (params_of v) key nonce r.header (body_of (params_of v) r.body)

cond-ok : (g : Bool) (n m : ℕ) → cond g (Outcome.ok n) (Outcome.no (6 ∷ [])) ≡ Outcome.ok m → g ≡ true
cond-ok true n m e = refl
cond-ok false n m e = absurd (let z : ◌≡◌ {A = ℕ} 0 1 = cc in omega arith)

pub opened-accepted : (v : SparkleVariant) (before : List Call) (key nonce : List ℕ) (size : ℕ) (initial : List ℕ)
    (between : List Call) (out : List ℕ)
    (k n : ℕ) → (step (run v before) (Call.Init Decrypt key nonce size initial)).outcome ≡ Outcome.ok k
    → AllBetween (started_engine v before Decrypt key nonce size initial) between
    → (step (run_from (started_engine v before Decrypt key nonce size initial) between) (Call.Final out)).outcome ≡ Outcome.ok n
    → OpenedAccepted v key nonce (last_reader v before Decrypt key nonce initial between)
    (outputs (run v before) (Call.Init Decrypt key nonce size initial ∷ (between ++ (Call.Final out ∷ []))))
opened-accepted v before key nonce size initial between out k n taken b o =
    let p = params_of v in
    let r = last_reader v before Decrypt key nonce initial between in
    let w = last_invariant v before Decrypt key nonce size initial between out k taken b in
    let g = last_active v before Decrypt key nonce size initial between out k taken b in
    let c = end_checked v _ r w out n o in
    let s = open_end_lem v _ r w out c.0 c.1 (active_opening g.active) in
    let good = cond-ok (verified p (loaded_key r) (loaded_nonce r) r.header r.body) c.0 n (sym s.outcome-is ∙ o) in
    let oks = s.outcome-is ∙ ap (λ (x : Bool). cond x (Outcome.ok c.0) (Outcome.no (6 ∷ []))) good in
    record {
      verifies = sym (ap₂ (λ (x y : List ℕ). verified p x y r.header r.body) g.key-is g.nonce-is) ∙ good;
      bytes-are =
          whole-outputs v before Decrypt key nonce size initial between out k taken b
          ∙ sym (ended-bytes _ _ out c.0 _ oks (s.good_bytes good))
          ∙ ap₂ (λ (x y : List ℕ). decrypt p x y r.header (body_of p r.body)) g.key-is g.nonce-is;
    }

-- The same in what the calls' own outcomes say was accepted: however header and data are cut, the calls that are not
-- refused seal to what the specification gives.
pub sealed_unrefused : (v : SparkleVariant) (before : List Call) (key nonce : List ℕ) (size : ℕ) (initial : List ℕ)
    (between : List Call) (out : List ℕ)
    (k n : ℕ) → (step (run v before) (Call.Init Encrypt key nonce size initial)).outcome ≡ Outcome.ok k
    → AllBetween (started_engine v before Encrypt key nonce size initial) between
    → (step (run_from (started_engine v before Encrypt key nonce size initial) between) (Call.Final out)).outcome ≡ Outcome.ok n
    → outputs (run v before) (Call.Init Encrypt key nonce size initial ∷ (between ++ (Call.Final out ∷ [])))
    ≡ seal (params_of v) key nonce (initial ++ accepted_header (started_engine v before Encrypt key nonce size initial) between)
    (accepted_data (started_engine v before Encrypt key nonce size initial) between)
sealed_unrefused v before key nonce size initial between out k n taken b o =
    let w = start_invariant v before Encrypt key nonce size initial between out k taken b in
    sealed_accepted v before key nonce size initial between out k n taken b o
    ∙ ap₂ (λ (x y : List ℕ). seal (params_of v) key nonce x y) (header_accepted_from v _ _ w between b)
    (data_accepted_from v _ _ w between b)

pub opened_unrefused : (v : SparkleVariant) (before : List Call) (key nonce : List ℕ) (size : ℕ) (initial : List ℕ)
    (between : List Call) (out : List ℕ)
    (k n : ℕ) → (step (run v before) (Call.Init Decrypt key nonce size initial)).outcome ≡ Outcome.ok k
    → AllBetween (started_engine v before Decrypt key nonce size initial) between
    → (step (run_from (started_engine v before Decrypt key nonce size initial) between) (Call.Final out)).outcome ≡ Outcome.ok n
    → OpenedUnrefused v key nonce (initial ++ accepted_header (started_engine v before Decrypt key nonce size initial) between)
    (accepted_data (started_engine v before Decrypt key nonce size initial) between)
    (outputs (run v before) (Call.Init Decrypt key nonce size initial ∷ (between ++ (Call.Final out ∷ []))))
opened_unrefused v before key nonce size initial between out k n taken b o =
    let p = params_of v in
    let w = start_invariant v before Decrypt key nonce size initial between out k taken b in
    let hq = header_accepted_from v _ _ w between b in
    let dq = data_accepted_from v _ _ w between b in
    let q = opened-accepted v before key nonce size initial between out k n taken b o in
    record {
      verifies = sym (ap₂ (λ (x y : List ℕ). verified p key nonce x y) hq dq) ∙ q.verifies;
      bytes-are = q.bytes-are ∙ ap₂ (λ (x y : List ℕ). decrypt p key nonce x (body_of p y)) hq dq;
    }

-- What unrefused calls seal, unrefused calls open: the bytes that were sealed come back as the data that was accepted.
pub returned_unrefused : (v : SparkleVariant) (before after : List Call) (key nonce : List ℕ)
    (size size' : ℕ) (initial initial' : List ℕ) (between between' : List Call) (out out' : List ℕ) (k k' n n' : ℕ)
    → (step (run v before) (Call.Init Encrypt key nonce size initial)).outcome ≡ Outcome.ok k
    → AllBetween (started_engine v before Encrypt key nonce size initial) between
    → (step (run_from (started_engine v before Encrypt key nonce size initial) between) (Call.Final out)).outcome ≡ Outcome.ok n
    → (step (run v after) (Call.Init Decrypt key nonce size' initial')).outcome ≡ Outcome.ok k'
    → AllBetween (started_engine v after Decrypt key nonce size' initial') between'
    → (step (run_from (started_engine v after Decrypt key nonce size' initial') between') (Call.Final out')).outcome ≡ Outcome.ok n'
    → initial' ++ accepted_header (started_engine v after Decrypt key nonce size' initial') between'
    ≡ initial ++ accepted_header (started_engine v before Encrypt key nonce size initial) between
    → accepted_data (started_engine v after Decrypt key nonce size' initial') between'
    ≡ outputs (run v before) (Call.Init Encrypt key nonce size initial ∷ (between ++ (Call.Final out ∷ [])))
    → outputs (run v after) (Call.Init Decrypt key nonce size' initial' ∷ (between' ++ (Call.Final out' ∷ [])))
    ≡ accepted_data (started_engine v before Encrypt key nonce size initial) between
returned_unrefused v before after key nonce size size' initial initial' between between' out out' k k' n n' st b en st' b' en' he de =
    let p = params_of v in
    let H = initial ++ accepted_header (started_engine v before Encrypt key nonce size initial) between in
    let m = accepted_data (started_engine v before Encrypt key nonce size initial) between in
    let kf = (last_fits p _ (start_invariant v before Encrypt key nonce size initial between out k st b).loads_fit refl).key_fits in
    let packet = de ∙ sealed_unrefused v before key nonce size initial between out k n st b en in
    (opened_unrefused v after key nonce size' initial' between' out' k' n' st' b' en').bytes-are
    ∙ ap₂ (λ (x y : List ℕ). decrypt p key nonce x (body_of p y)) he packet
    ∙ ap (decrypt p key nonce H) (body-seal p (sizes v) key nonce H kf m) ∙ decrypt-encrypt p (sizes v) key nonce H m
