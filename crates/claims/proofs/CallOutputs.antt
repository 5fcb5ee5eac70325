-- What each call of a list writes and answers, on an engine and a reader between which the invariant holds.
use mathlib.Core.Path.{◌≡◌, refl, sym, ap, ap₂, subst, ◌∙◌}
use mathlib.Core.Bool.{Bool, true, false, cond}
use mathlib.Core.List.{List, [], ◌∷◌, ◌++◌}
use Prim.Native.Nat.{ℕ, ◌≤◌}
use native.Mathlib.Omega.{arith}
use lib.ListN.{length, drop, length-replicate}
use Rattle.std.specs.Prelude.{Result, Ok, Err}
use Rattle.schwaemm.specs.Schwaemm.{tag, decrypt, seal, body as body_of, verified}
use Rattle.tc_aead_cipher.specs.declared.variant.SparkleVariant.{SparkleVariant}
use Rattle.tc_aead_cipher.specs.declared.phase.Direction.{Direction}
use Rattle.tc_aead_cipher.specs.declared.phase.Direction.TheVariants.{Encrypt, Decrypt}
use Rattle.tc_aead_cipher.specs.declared.phase.Phase.{Phase}
use Rattle.tc_aead_cipher.specs.declared.phase.Phase.TheVariants.{Final}
use Rattle.tc_aead_cipher.specs.declared.aead_error.AeadError.{AeadError}
use Rattle.tc_sparkle_aead.specs.declared.message.Mac.{Mac}
use Rattle.tc_sparkle_aead.specs.declared.engine.Steps.{Steps}
use Rattle.tc_sparkle_aead.specs.declared.engine.SparkleEngine.{SparkleEngine}
use Rattle.tc_aead_cipher.specs.Variant.{params_of}
use Rattle.tc_aead_cipher.specs.Refusals.{refusal}
use Rattle.tc_aead_cipher.specs.Checks.{opens, opening, data_check, end_check}
use Rattle.tc_sparkle_aead.specs.Message.{zeros, no_mac, written, readable, buffered, last_steps, open_block, open_out_by}
use Rattle.tc_sparkle_aead.specs.Calls.{add_steps, begin_data, data_by, data_out_by, data_answer, process_bytes, process_bytes_out, seal_final, open_final_by, open_final, final_by, final_out_by, final_answer, do_final, do_final_out, mac_of}
use Rattle.tc_aead_cipher.proofs.VariantLaws.{sizes}
use Rattle.tc_aead_cipher.specs.Call.{Call}
use Rattle.tc_sparkle_aead.specs.Sheet.{StepResult, step}
use Rattle.tc_aead_cipher.specs.Outcome.{Outcome, outcome}
use Rattle.claims.specs.Refused.{Active}
use Rattle.claims.specs.Reader.{Reader, reader_held, in_phase, read_message, read, Load, loaded_key, loaded_nonce, last_key}
use Rattle.claims.specs.Reader.{last_nonce}
use Rattle.claims.specs.Messages.{released, Writes, message_of}
use Rattle.claims.proofs.Invariant.{Invariant, PhaseInvariant, engine_of, data_point, opened_mac, LoadsFit, is_loaded}
use Rattle.claims.proofs.InvariantKept.{reader_of, in_data, steps_at_data, active_enough, begin_data_lem, active_loaded}
use Rattle.claims.proofs.InvariantKept.{opening-verified, seal-engine, open_engine, data-answer, final_answer_lem}
use Rattle.claims.proofs.Accepted.{data_good, end_good, data_passed_active, end_passed_active, EndPassed}
use Rattle.claims.proofs.Accepted.{released-data, writes, message-writes, seal-bytes, seal-length, open_bytes_lem}
use Rattle.claims.proofs.Accepted.{open_length, last-length, is_open_lem, end-count, active_opening}
use Rattle.claims.proofs.EngineEnd.{seal_bytes, ciphertext, open_bytes, tag_right}

-- What an end past its checks answers and writes: a sealing's, and an opening's, by whether the packet is verified.
pub record SealEnd (v : SparkleVariant) (r : Reader) (out : List ℕ) (n : ℕ) (result : StepResult) : Type 0 where
  pub outcome-is : result.outcome ≡ Outcome.ok n
  pub bytes-are : Writes (released (params_of v) r) (seal (params_of v) (loaded_key r) (loaded_nonce r) r.header r.body) out
      result.buffer n

pub record OpenEnd (v : SparkleVariant) (r : Reader) (out : List ℕ) (n : ℕ) (good : Bool) (result : StepResult) : Type 0 where
  pub outcome-is : result.outcome ≡ cond good (Outcome.ok n) (Outcome.no (6 ∷ []))
  pub good_bytes : good ≡ true
      → Writes (released (params_of v) r) (decrypt (params_of v) (loaded_key r) (loaded_nonce r) r.header
      (body_of (params_of v) r.body)) out result.buffer n
  pub bad_bytes : good ≡ false → result.buffer ≡ zeros n ++ drop n out

pub outcome-ok : (k : Result ℕ AeadError) (n : ℕ) → outcome k ≡ Outcome.ok n → k ≡ Ok n
outcome-ok (Ok m) n e = let z : m ≡ n = cc in ap Ok z
outcome-ok (Err x) n e = absurd (let z : ◌≡◌ {A = ℕ} 0 1 = cc in omega arith)

data-answered : (k : Result ℕ AeadError) (e : SparkleEngine) (input : List ℕ) → (data_by k e input).answer ≡ k
data-answered (Ok n) e input = refl
data-answered (Err x) e input = refl

-- ---- A data call

-- its answer is the reader's check
pub message-outcome : (v : SparkleVariant) (e : SparkleEngine) (r : Reader) → Invariant v e r → (input out : List ℕ)
    → (step e (Call.Data input out)).outcome
    ≡ outcome (data_check (params_of v) r.phase (reader_held (params_of v) r) (length input) (length out))
unfolding step process_bytes
message-outcome v e r w input out =
    let E = engine_of v r w.mac w.steps in
    ap (λ (x : SparkleEngine). outcome (data_by (data_answer x (length input) (length out)) x input).answer) w.same-engine
    ∙ ap outcome (data-answered (data_answer E (length input) (length out)) E input ∙ data-answer v r w.mac w.steps
    (length input) (length out))

pub message_writes_next : (v : SparkleVariant) (e : SparkleEngine) (r : Reader) → Invariant v e r
    → (input out : List ℕ) (n : ℕ)
    → (step e (Call.Data input out)).outcome ≡ Outcome.ok n
    → Writes (released (params_of v) r) (released (params_of v) (read v r (Call.Data input out)).reader) out
    (step e (Call.Data input out)).buffer n
unfolding step read process_bytes_out
message_writes_next v e r w input out n o =
    let p = params_of v in
    let E = engine_of v r w.mac w.steps in
    let K : data_check p r.phase (reader_held p r) (length input) (length out) ≡ Ok n =
    outcome-ok _ n (sym (message-outcome v e r w input out) ∙ o) in
    let A : data_answer E (length input) (length out) ≡ Ok n =
    data-answer v r w.mac w.steps (length input) (length out) ∙ K in
    let t = data_passed_active p r.phase (reader_held p r) (length input) (length out) n K in
    subst (λ (x : SparkleEngine). Writes (released p r) (released p (read v r (Call.Data input out)).reader) out
    (process_bytes_out x input out) n)
    (sym w.same-engine)
    (subst (λ (k : Result ℕ AeadError). Writes (released p r) (released p (read_message k r input).reader) out (process_bytes_out E input out) n) (sym K)
    (subst (λ (k : Result ℕ AeadError). Writes (released p r) (released p (read_message (Ok n) r input).reader) out (data_out_by k E input out) n) (sym A)
    (message-writes v r.loads r.initial w.loads_fit r.header r.body w.mac w.steps t.1
    w.phase_invariant input out n
    (data_good p r.phase (reader_held p r) (length input) (length out) n K))))

-- ---- An end past its checks

wiped : (m n : ℕ) (out : List ℕ) → m ≡ n → written (zeros m) out ≡ zeros n ++ drop n out
unfolding written zeros
wiped m n out e =
    ap₂ (λ (i j : ℕ). zeros i ++ drop j out) e (length-replicate m 0 ∙ e)

module _ (v : SparkleVariant) (loads : List Load) (initial header body : List ℕ) (mac : Mac) (s : Steps)
    (f : LoadsFit (params_of v) loads) (out : List ℕ) (n : ℕ) where
  abbrev key : List ℕ
  key = last_key loads

  abbrev nonce : List ℕ
  nonce = last_nonce loads

  sealed_end : {phase : Phase} → Active Encrypt phase → PhaseInvariant (params_of v) phase loads header body mac
      → (b : Bool) → b ≡ false → (e : SparkleEngine) → e ≡ in_data v loads initial Encrypt header body s
      → EndPassed (params_of v) phase (reader_held (params_of v) (reader_of loads initial phase header body)) (length out) n
      → SealEnd v (reader_of loads initial phase header body) out n
      (record {
        engine = (cond b (open_final e n) (seal_final e n)).engine;
        outcome = outcome (cond b (open_final e n) (seal_final e n)).answer;
        buffer = written (cond b (open_out_by (tag_right e) (params_of e.variant) e.current) (seal_bytes e)) out;
      })
  unfolding seal_final
  sealed_end t st true no-open e is ok = absurd (let z : ◌≡◌ {A = ℕ} 0 1 = cc in omega arith)
  sealed_end {phase} t st false no-open e is ok =
      let p = params_of v in
      let l = active_loaded v loads initial f t header body mac st in
      record {
        outcome-is = refl;
        bytes-are =
            writes (released p (reader_of loads initial phase header body)) (seal p key nonce header body) out
            (seal_bytes e) n
            (seal-bytes v loads initial f header body mac l
            ∙ ap₂ (λ (x : List ℕ) (y : SparkleEngine). x ++ (seal_bytes y))
            (sym (released-data v loads initial f header body mac t)) (sym is))
            (ap (λ (y : SparkleEngine). length (seal_bytes y)) is ∙ seal-length v loads initial f header body mac l
            ∙ sym (end-count v loads initial f header body mac t st out n ok))
            ok.fits;
      }

  opened-end : {phase : Phase} → Active Decrypt phase → PhaseInvariant (params_of v) phase loads header body mac
      → (b : Bool) → b ≡ true → (e : SparkleEngine) → e ≡ in_data v loads initial Decrypt header body s
      → (params_of v).key ≤ length body
      → EndPassed (params_of v) phase (reader_held (params_of v) (reader_of loads initial phase header body)) (length out) n
      → OpenEnd v (reader_of loads initial phase header body) out n (verified (params_of v) key nonce header body)
      (record {
        engine = (cond b (open_final e n) (seal_final e n)).engine;
        outcome = outcome (cond b (open_final e n) (seal_final e n)).answer;
        buffer = written (cond b (open_out_by (tag_right e) (params_of e.variant) e.current) (seal_bytes e)) out;
      })
  unfolding open_final
  opened-end t st false is-opening e is enough ok = absurd (let z : ◌≡◌ {A = ℕ} 0 1 = cc in omega arith)
  opened-end {phase} t st true is-opening e is enough ok =
      let p = params_of v in
      let l = active_loaded v loads initial f t header body mac st in
      subst (λ (g : Bool). OpenEnd v (reader_of loads initial phase header body) out n
      (verified p key nonce header body)
      (record { engine = (open_final_by g e n).engine; outcome = outcome (open_final_by g e n).answer; buffer = written (open_out_by g (params_of e.variant) e.current) out }))
      (sym (ap (λ (y : SparkleEngine). tag_right y) is ∙ opening-verified v loads initial f l header body enough))
      (by l (verified p key nonce header body))
    where
      by : is_loaded loads ≡ true → (g : Bool) → OpenEnd v (reader_of loads initial phase header body) out n g
          (record { engine = (open_final_by g e n).engine; outcome = outcome (open_final_by g e n).answer; buffer = written (open_out_by g (params_of e.variant) e.current) out })
      by l true =
          let p = params_of v in
          record {
            outcome-is = refl;
            good_bytes = λ _.
                writes (released p (reader_of loads initial phase header body))
                (decrypt p key nonce header (body_of p body)) out (open_bytes e) n
                (open_bytes_lem v loads initial f header body mac l enough
                ∙ ap₂ (λ (x : List ℕ) (y : SparkleEngine). x ++ open_bytes y)
                (sym (released-data v loads initial f header body mac t)) (sym is))
                (ap (λ (y : SparkleEngine). length (open_bytes y)) is ∙ last-length v loads initial f header body mac l enough
                ∙ sym (end-count v loads initial f header body mac t st out n ok))
                ok.fits;
            bad_bytes = λ b. absurd (let z : ◌≡◌ {A = ℕ} 0 1 = cc in omega arith);
          }
      by l false =
          let m : length (ciphertext e) ≡ n =
          ap (λ (y : SparkleEngine). length (ciphertext y)) is ∙ open_length v loads initial f header body mac l enough
          ∙ sym (end-count v loads initial f header body mac t st out n ok) in
          record {
            outcome-is = refl;
            good_bytes = λ b. absurd (let z : ◌≡◌ {A = ℕ} 0 1 = cc in omega arith);
            bad_bytes = λ _. wiped (length (ciphertext e)) n out m;
          }

-- the results of a step
module _ (v : SparkleVariant) (r : Reader) (mac : Mac) (s : Steps) (f : LoadsFit (params_of v) r.loads)
    (st : PhaseInvariant (params_of v) r.phase r.loads r.header r.body mac)
    (out : List ℕ) (n : ℕ) (passed : end_check (params_of v) r.phase (reader_held (params_of v) r) (length out) ≡ Ok n) where
  -- the step of an end past its checks
  abbrev result_by : Result ℕ AeadError → StepResult
  result_by k =
      record {
        engine = (final_by k (engine_of v r mac s)).engine;
        outcome = outcome
            (final_by k (engine_of v r mac s)).answer;
        buffer = final_out_by k (engine_of v r mac s) out;
      }

  step_is : step (engine_of v r mac s) (Call.Final out) ≡ result_by (Ok n)
  unfolding step do_final do_final_out
  step_is = ap result_by (final_answer_lem v r mac s (length out) ∙ passed)

  -- what the checks tell, the direction, and the engine in which the data begins
  good : EndPassed (params_of v) r.phase (reader_held (params_of v) r) (length out) n
  good = end_good (params_of v) r.phase (reader_held (params_of v) r) (length out) n passed

  module _ {d : Direction} (t : Active d r.phase) where
    direction : opening (engine_of v r mac s).current.phase ≡ opens d
    direction = is_open_lem v r.loads r.initial f r.header r.body mac t st out n good

    begins : begin_data (engine_of v r mac s)
        ≡ in_data v r.loads r.initial d r.header r.body (steps_at_data (params_of v) r.phase s)
    begins = begin_data_lem v r.loads r.initial f t r.header r.body mac s st

    was-loaded : is_loaded r.loads ≡ true
    was-loaded = active_loaded v r.loads r.initial f t r.header r.body mac st

  enough : Active Decrypt r.phase → (params_of v).key ≤ length r.body
  enough t = active_enough (params_of v) (sizes v) t r.body (length out) n passed

  seal-step : Active Encrypt r.phase → SealEnd v r out n (step (engine_of v r mac s) (Call.Final out))
  seal-step t =
      subst (SealEnd v r out n) (sym step_is)
      (sealed_end v r.loads r.initial r.header r.body mac (steps_at_data (params_of v) r.phase s) f out n t st
      (opening (engine_of v r mac s).current.phase) (direction t) (begin_data (engine_of v r mac s)) (begins t) good)

  open_step : Active Decrypt r.phase
      → OpenEnd v r out n (verified (params_of v) (loaded_key r) (loaded_nonce r) r.header r.body)
      (step (engine_of v r mac s) (Call.Final out))
  open_step t =
      subst (OpenEnd v r out n (verified (params_of v) (loaded_key r) (loaded_nonce r) r.header r.body)) (sym step_is)
      (opened-end v r.loads r.initial r.header r.body mac (steps_at_data (params_of v) r.phase s) f out n t st
      (opening (engine_of v r mac s).current.phase) (direction t) (begin_data (engine_of v r mac s)) (begins t) (enough t) good)

  -- the engine afterwards
  pub seal_engine_step : Active Encrypt r.phase
      → (step (engine_of v r mac s) (Call.Final out)).engine
      ≡ engine_of v (in_phase r (Final Encrypt) r.header r.body)
      (readable (tag (params_of v) (loaded_key r) (loaded_nonce r) r.header r.body))
      (add_steps (last_steps (params_of v)
      (buffered (params_of v) (data_point (params_of v) Encrypt (loaded_key r) (loaded_nonce r) r.header r.body)))
      (steps_at_data (params_of v) r.phase s))
  seal_engine_step t =
      let e = begin_data (engine_of v r mac s) in
      ap (λ (x : StepResult). x.engine) step_is
      ∙ ap (λ (b : Bool). (cond b (open_final e n) (seal_final e n)).engine) (direction t)
      ∙ ap (λ (y : SparkleEngine). (seal_final y n).engine) (begins t)
      ∙ seal-engine v r.loads r.initial f (was-loaded t) r.header r.body
      (steps_at_data (params_of v) r.phase s) n

  pub open_engine_step : Active Decrypt r.phase
      → (step (engine_of v r mac s) (Call.Final out)).engine
      ≡ engine_of v (in_phase r (Final Decrypt) r.header r.body)
      (opened_mac (params_of v) (loaded_key r) (loaded_nonce r) r.header r.body)
      (add_steps (last_steps (params_of v)
      (open_block (params_of v) (data_point (params_of v) Decrypt (loaded_key r) (loaded_nonce r) r.header r.body)))
      (steps_at_data (params_of v) r.phase s))
  open_engine_step t =
      let e = begin_data (engine_of v r mac s) in
      ap (λ (x : StepResult). x.engine) step_is
      ∙ ap (λ (b : Bool). (cond b (open_final e n) (seal_final e n)).engine) (direction t)
      ∙ ap (λ (y : SparkleEngine). (open_final y n).engine) (begins t)
      ∙ open_engine v r.loads r.initial f (was-loaded t) r.header r.body (enough t)
      (steps_at_data (params_of v) r.phase s) n

mac_shown : (good : Bool) (t : List ℕ) (e : SparkleEngine) → e.mac ≡ cond good (readable t) no_mac → mac_of e
    ≡ cond good (readable t) no_mac
unfolding mac_of readable no_mac
mac_shown true t e h = rw h
mac_shown false t e h = rw h

-- the tag afterwards, by whether the packet is verified
abbrev pub end_mac : SparkleVariant → Reader → Mac
end_mac v r =
    let p = params_of v in
    cond (cond (opening r.phase) (verified p (loaded_key r) (loaded_nonce r) r.header r.body) true)
    (readable (tag p (loaded_key r) (loaded_nonce r) r.header (message_of p r))) no_mac

sealing_mac : (v : SparkleVariant) (r : Reader) (e : SparkleEngine) → opening r.phase ≡ false
    → e.mac ≡ readable (tag (params_of v) (loaded_key r) (loaded_nonce r) r.header r.body) → mac_of e ≡ end_mac v r
unfolding message_of
sealing_mac v r e b is =
    rw b (mac_shown true (tag (params_of v) (loaded_key r) (loaded_nonce r) r.header r.body) e is)

opening_mac : (v : SparkleVariant) (r : Reader) (e : SparkleEngine) → opening r.phase ≡ true
    → e.mac ≡ opened_mac (params_of v) (loaded_key r) (loaded_nonce r) r.header r.body → mac_of e ≡ end_mac v r
unfolding message_of opened_mac
opening_mac v r e b is =
    let p = params_of v in
    rw b
    (mac_shown (verified p (loaded_key r) (loaded_nonce r) r.header r.body)
    (tag p (loaded_key r) (loaded_nonce r) r.header
    (decrypt p (loaded_key r) (loaded_nonce r) r.header (body_of p r.body))) e is)

-- an end past its checks, where the invariant holds
pub seal-end : (v : SparkleVariant) (e : SparkleEngine) (r : Reader) → Invariant v e r → (out : List ℕ) (n : ℕ)
    → end_check (params_of v) r.phase (reader_held (params_of v) r) (length out) ≡ Ok n → opening r.phase ≡ false
    → SealEnd v r out n (step e (Call.Final out))
seal-end v e r w out n passed no-open =
    subst (λ (x : SparkleEngine). SealEnd v r out n (step x (Call.Final out))) (sym w.same-engine)
    (let t = end_passed_active (params_of v) r.phase (reader_held (params_of v) r) (length out) n passed in by t.0 t.1)
  where
    by : (d : Direction) → Active d r.phase → SealEnd v r out n (step (engine_of v r w.mac w.steps) (Call.Final out))
    by Encrypt t = seal-step v r w.mac w.steps w.loads_fit w.phase_invariant out n passed t
    by Decrypt t = absurd (let o = active_opening t in let z : ◌≡◌ {A = ℕ} 0 1 = cc in omega arith)

pub open_end_lem : (v : SparkleVariant) (e : SparkleEngine) (r : Reader) → Invariant v e r → (out : List ℕ) (n : ℕ)
    → end_check (params_of v) r.phase (reader_held (params_of v) r) (length out) ≡ Ok n → opening r.phase ≡ true
    → OpenEnd v r out n (verified (params_of v) (loaded_key r) (loaded_nonce r) r.header r.body) (step e (Call.Final out))
open_end_lem v e r w out n passed is-opening =
    subst (λ (x : SparkleEngine). OpenEnd v r out n (verified (params_of v) (loaded_key r) (loaded_nonce r) r.header r.body)
    (step x (Call.Final out)))
    (sym w.same-engine)
    (let t = end_passed_active (params_of v) r.phase (reader_held (params_of v) r) (length out) n passed in by t.0 t.1)
  where
    by : (d : Direction) → Active d r.phase
        → OpenEnd v r out n (verified (params_of v) (loaded_key r) (loaded_nonce r) r.header r.body)
        (step (engine_of v r w.mac w.steps) (Call.Final out))
    by Encrypt t = absurd (let o = active_opening t in let z : ◌≡◌ {A = ℕ} 0 1 = cc in omega arith)
    by Decrypt t = open_step v r w.mac w.steps w.loads_fit w.phase_invariant out n passed t

-- an end that is refused by its checks answers that refusal
final_refused : (k : Result ℕ AeadError) (x : AeadError) (e : SparkleEngine) → k ≡ Err x → (final_by k e).answer ≡ Err x
final_refused (Ok n) x e h = absurd (let z : ◌≡◌ {A = ℕ} 0 1 = cc in omega arith)
final_refused (Err y) x e h = h

pub end_refused : (v : SparkleVariant) (e : SparkleEngine) (r : Reader) → Invariant v e r → (out : List ℕ) (x : AeadError)
    → end_check (params_of v) r.phase (reader_held (params_of v) r) (length out) ≡ Err x
    → (step e (Call.Final out)).outcome ≡ Outcome.no (refusal x)
unfolding step do_final
end_refused v e r w out x h =
    let K = engine_of v r w.mac w.steps in
    ap (λ (y : SparkleEngine). outcome (final_by (final_answer y (length out)) y).answer) w.same-engine
    ∙ ap outcome (final_refused (final_answer K (length out)) x K (final_answer_lem v r w.mac w.steps (length out) ∙ h))

pub end_mac_lem : (v : SparkleVariant) (e : SparkleEngine) (r : Reader) → Invariant v e r → (out : List ℕ) (n : ℕ)
    → end_check (params_of v) r.phase (reader_held (params_of v) r) (length out) ≡ Ok n
    → mac_of (step e (Call.Final out)).engine ≡ end_mac v r
end_mac_lem v e r w out n passed =
    ap (λ (x : SparkleEngine). mac_of (step x (Call.Final out)).engine) w.same-engine
    ∙ (let t = end_passed_active (params_of v) r.phase (reader_held (params_of v) r) (length out) n passed in by t.0 t.1)
  where
    by : (d : Direction) → Active d r.phase
        → mac_of (step (engine_of v r w.mac w.steps) (Call.Final out)).engine ≡ end_mac v r
    by Encrypt t =
        sealing_mac v r _ (active_opening t)
        (ap (λ (x : SparkleEngine). x.mac)
        (seal_engine_step v r w.mac w.steps w.loads_fit w.phase_invariant out n passed t))
    by Decrypt t =
        opening_mac v r _ (active_opening t)
        (ap (λ (x : SparkleEngine). x.mac)
        (open_engine_step v r w.mac w.steps w.loads_fit w.phase_invariant out n passed t))
