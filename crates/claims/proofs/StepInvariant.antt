-- The steps after a call, from those before it and what it ran: an init and a reset set the count, every other call adds to
-- it. And the invariant between the steps and the reader: what the count is, in the words of specs/Steps.antt.
use mathlib.Core.Path.{◌≡◌, refl, sym, ap, subst, ◌∙◌}
use mathlib.Core.Bool.{Bool, true, cond}
use mathlib.Core.List.{List, [], ◌∷◌}
use Prim.Native.Nat.{ℕ, ◌+◌, ◌%◌, ◌^◌, ◌<◌}
use native.Mathlib.Nat.{mod-add-mod}
use native.Mathlib.Omega.{arith}
use lib.ListN.{length}
use Rattle.std.specs.Prelude.{Result, Ok, Err}
use Rattle.schwaemm.specs.Schwaemm.{Params, leading, steps, body as body_of, verified}
use Rattle.schwaemm.proofs.RoundTrip.{length-decrypt}
use Rattle.tc_aead_cipher.specs.declared.variant.SparkleVariant.{SparkleVariant}
use Rattle.tc_aead_cipher.specs.declared.phase.Direction.{Direction}
use Rattle.tc_aead_cipher.specs.declared.phase.Direction.TheVariants.{Encrypt, Decrypt}
use Rattle.tc_aead_cipher.specs.declared.phase.Phase.{Phase}
use Rattle.tc_aead_cipher.specs.declared.phase.Phase.TheVariants.{Uninitialized, Init, Aad, Data, Final}
use Rattle.tc_aead_cipher.specs.declared.aead_error.AeadError.{AeadError}
use Rattle.tc_aead_cipher.specs.declared.aead_init_error.AeadInitError.{AeadInitError}
use Rattle.tc_sparkle_aead.specs.declared.message.Mac.{Mac}
use Rattle.tc_sparkle_aead.specs.declared.engine.Steps.{Steps}
use Rattle.tc_sparkle_aead.specs.declared.engine.SparkleEngine.{SparkleEngine}
use Rattle.tc_aead_cipher.specs.Variant.{params_of}
use Rattle.tc_aead_cipher.specs.Checks.{opening, aad_check, data_check, end_check, start_check}
use Rattle.tc_sparkle_aead.specs.Message.{buffered, stream, block_count, start_point, header_steps}
use Rattle.tc_sparkle_aead.specs.Engine.{new_engine, no_steps, init_steps, refused_steps, reset_steps}
use Rattle.tc_sparkle_aead.specs.Calls.{add_steps, refused, started, init_by, init, steps_now}
use Rattle.tc_sparkle_aead.specs.Calls.{reset as resetEngine}
use Rattle.tc_aead_cipher.proofs.VariantLaws.{sizes, small}
use Rattle.tc_aead_cipher.specs.Call.{Call}
use Rattle.tc_sparkle_aead.specs.Sheet.{step, run_from, run}
use Rattle.claims.specs.Reader.{Load, Reader, new_reader, reader_held, repeated, header_phase, read_start, read_header}
use Rattle.claims.specs.Reader.{read_message, read_end, reset_in, loaded_key, loaded_nonce, read, read_from, reader}
use Rattle.claims.specs.Refused.{Active}
use Rattle.claims.specs.Refused.Active.{in-init, in_aad, in-data}
use Rattle.claims.specs.Steps.{start_steps, steps_before, steps_after_init, message_length}
use Rattle.claims.specs.Messages.{Before, Keeps, message_of, EndsWith}
use Rattle.tc_sparkle_aead.proofs.OpeningEnd.{length-body}
use Rattle.claims.proofs.Invariant.{Invariant, PhaseInvariant, LoadsFit, engine_of, invariant_new, repeats_agree}
use Rattle.claims.proofs.InvariantKept.{reader_of, invariant_step, active_enough}
use Rattle.claims.proofs.Accepted.{end_passed_active, active_opening}
use Rattle.claims.proofs.CallOutputs.{end_mac_lem}
use Rattle.claims.proofs.Ran.{start_ran, ran, so_far, ran_so_far, grows, ran_added}

-- ---- The steps after a call

-- An init that is refused, and one that runs n steps.
abbrev pub started_steps : Result (Unit {0}) AeadInitError → ℕ → Steps → Steps
started_steps (Err x) n s = refused_steps s
started_steps (Ok _) n s = init_steps s (n % 2 ^ 64)

-- The steps after a call, from the reader and the steps before it.
unfoldable pub steps_after : SparkleVariant → Reader → Call → Steps → Steps
steps_after v r (Call.Init d key nonce size h) s =
    started_steps (start_check v d (length key) (length nonce) size (repeated r key nonce))
    (ran v r (Call.Init d key nonce size h)) s
steps_after v r (Call.Aad input) s = add_steps (ran v r (Call.Aad input)) s
steps_after v r (Call.Data input out) s = add_steps (ran v r (Call.Data input out)) s
steps_after v r (Call.Final out) s = add_steps (ran v r (Call.Final out)) s
steps_after v r Call.Reset s = reset_steps s
steps_after v r Call.Mac s = add_steps (ran v r Call.Mac) s
steps_after v r (Call.Update n) s = add_steps (ran v r (Call.Update n)) s
steps_after v r (Call.Output n) s = add_steps (ran v r (Call.Output n)) s

start-runs : (v : SparkleVariant) (r : Reader) (mac : Mac) (s : Steps) (d : Direction) (key nonce header : List ℕ)
    (k : Result (Unit {0}) AeadInitError)
    → (init_by k (engine_of v r mac s) d key nonce header).engine.steps ≡ started_steps k (start_ran k (params_of v) header) s
unfolding started refused header_steps block_count stream buffered start_point leading
start-runs v r mac s d key nonce header (Err x) = refl
start-runs v r mac s d key nonce header (Ok _) = refl

start-steps : (v : SparkleVariant) (r : Reader) (mac : Mac) (s : Steps) → LoadsFit (params_of v) r.loads
    → (d : Direction) (key nonce : List ℕ) (size : ℕ) (h : List ℕ)
    → (step (engine_of v r mac s) (Call.Init d key nonce size h)).engine.steps
    ≡ steps_after v r (Call.Init d key nonce size h) s
unfolding step init steps_after ran
start-steps v r mac s f d key nonce size h =
    ap (λ (b : Bool). (init_by (start_check v d (length key) (length nonce) size b) (engine_of v r mac s) d key nonce h).engine.steps)
    (repeats_agree (params_of v) (small v) r.loads f key nonce)
    ∙ start-runs v r mac s d key nonce h (start_check v d (length key) (length nonce) size (repeated r key nonce))

-- They are the engine's, where the invariant holds.
module _ (v : SparkleVariant) (e : SparkleEngine) (r : Reader) (w : Invariant v e r) (below : e.steps.current < 2 ^ 64) where
  pub steps-step : (c : Call) → (step e c).engine.steps ≡ steps_after v r c e.steps
  unfolding steps_after
  steps-step (Call.Init d key nonce size h) =
      subst (λ (x : SparkleEngine). (step x (Call.Init d key nonce size h)).engine.steps
      ≡ steps_after v r (Call.Init d key nonce size h) x.steps)
      (sym w.same-engine) (start-steps v r w.mac w.steps w.loads_fit d key nonce size h)
  steps-step (Call.Aad input) = ran_added v e r w below (Call.Aad input) tt
  steps-step (Call.Data input out) = ran_added v e r w below (Call.Data input out) tt
  steps-step (Call.Final out) = ran_added v e r w below (Call.Final out) tt
  steps-step Call.Reset = unfold step in unfold resetEngine in refl
  steps-step Call.Mac = ran_added v e r w below Call.Mac tt
  steps-step (Call.Update n) = ran_added v e r w below (Call.Update n) tt
  steps-step (Call.Output n) = ran_added v e r w below (Call.Output n) tt

-- ---- The invariant

-- Of steps and a reader: the count is below 2^64; a reset returns to that after init; and, where the message has not ended,
-- it is that of what has run. In Final it is that of the call that led there.
pub record Counted (v : SparkleVariant) (s : Steps) (r : Reader) : Type 0 where
  pub below : s.current < 2 ^ 64
  pub initial : s.initial ≡ steps_after_init (params_of v) r.phase r.initial % 2 ^ 64
  pub current : Before r.phase → s.current ≡ steps_before (params_of v) r.phase r.header r.body % 2 ^ 64

pub counted-new : (v : SparkleVariant) → Counted v (new_engine v).steps new_reader
unfolding new_engine no_steps steps_after_init steps_before
counted-new v = record { below = omega arith; initial = refl; current = λ b. refl }

-- init
start-counted : (v : SparkleVariant) (r : Reader) (s : Steps) (d : Direction) (key nonce header : List ℕ) (k : Result (Unit {0}) AeadInitError)
    → Counted v (started_steps k (start_ran k (params_of v) header) s) (read_start k r d key nonce header).reader
unfolding init_steps refused_steps no_steps steps_after_init steps_before
start-counted v r s d key nonce header (Err x) = record { below = omega arith; initial = refl; current = λ b. refl }
start-counted v r s d key nonce [] (Ok _) =
    record { below = omega arith; initial = refl; current = λ b. refl }
start-counted v r s d key nonce (x ∷ header) (Ok _) =
    record { below = omega arith; initial = refl; current = λ b. refl }

-- reset
restart_counted : (v : SparkleVariant) (loads : List Load) (d : Direction) (first : List ℕ) (s : Steps)
    → s.initial ≡ start_steps (params_of v) first % 2 ^ 64
    → Counted v (reset_steps s) (reader_of loads first (header_phase d first) first [])
unfolding reset_steps steps_after_init steps_before
restart_counted v loads d [] s is = record { below = omega (arith, is); initial = is; current = λ b. is }
restart_counted v loads d (x ∷ first) s is = record { below = omega (arith, is); initial = is; current = λ b. is }

reset-counted : (v : SparkleVariant) (phase : Phase) (loads : List Load) (initial header body : List ℕ) (s : Steps)
    → Counted v s (reader_of loads initial phase header body)
    → Counted v (reset_steps s) (reset_in phase (reader_of loads initial phase header body))
unfolding reset_steps steps_after_init steps_before
reset-counted v Uninitialized loads initial header body s n =
    record { below = omega (arith, n.initial); initial = n.initial; current = λ b. n.initial }
reset-counted v (Init d) loads initial header body s n = restart_counted v loads d initial s n.initial
reset-counted v (Aad d) loads initial header body s n = restart_counted v loads d initial s n.initial
reset-counted v (Data Encrypt) loads initial header body s n =
    record { below = omega (arith, n.initial); initial = n.initial; current = λ b. absurd b }
reset-counted v (Data Decrypt) loads initial header body s n = restart_counted v loads Decrypt initial s n.initial
reset-counted v (Final Encrypt) loads initial header body s n =
    record { below = omega (arith, n.initial); initial = n.initial; current = λ b. absurd b }
reset-counted v (Final Decrypt) loads initial header body s n = restart_counted v loads Decrypt initial s n.initial

-- The other calls: what they leave of the reader, for which the count after init is the same, and which in Final stays there.
record Stays (p : Params) (old new : Reader) : Type 0 where
  initial-same : steps_after_init p new.phase new.initial ≡ steps_after_init p old.phase old.initial
  was-before : Before new.phase → Before old.phase

stays : (p : Params) (r : Reader) → Stays p r r
stays p r = record { initial-same = refl; was-before = λ b. b }

module _ (p : Params) (loads : List Load) (initial header body : List ℕ) where
  abbrev reader_in : Phase → Reader
  reader_in phase = reader_of loads initial phase header body

  header_stays : (phase : Phase) (k : Result ℕ AeadError) (input : List ℕ)
      → Stays p (reader_in phase) (read_header k (reader_in phase) input).reader
  unfolding steps_after_init
  header_stays phase (Err x) input = stays p (reader_in phase)
  header_stays phase (Ok n) [] = record { initial-same = refl; was-before = λ b. b }
  header_stays Uninitialized (Ok n) (x ∷ input) = record { initial-same = refl; was-before = λ b. b }
  header_stays (Init d) (Ok n) (x ∷ input) = record { initial-same = refl; was-before = λ b. b }
  header_stays (Aad d) (Ok n) (x ∷ input) = record { initial-same = refl; was-before = λ b. b }
  header_stays (Data d) (Ok n) (x ∷ input) = record { initial-same = refl; was-before = λ b. b }
  header_stays (Final d) (Ok n) (x ∷ input) = record { initial-same = refl; was-before = λ b. b }

  message_stays : (phase : Phase) (k : Result ℕ AeadError) (input : List ℕ)
      → Stays p (reader_in phase) (read_message k (reader_in phase) input).reader
  unfolding steps_after_init
  message_stays phase (Err x) input = stays p (reader_in phase)
  message_stays Uninitialized (Ok n) input = record { initial-same = refl; was-before = λ b. b }
  message_stays (Init d) (Ok n) input = record { initial-same = refl; was-before = λ b. b }
  message_stays (Aad d) (Ok n) input = record { initial-same = refl; was-before = λ b. b }
  message_stays (Data d) (Ok n) input = record { initial-same = refl; was-before = λ b. b }
  message_stays (Final d) (Ok n) input = record { initial-same = refl; was-before = λ b. b }

  end_stays : (phase : Phase) (k : Result ℕ AeadError) → Stays p (reader_in phase) (read_end k p (reader_in phase)).reader
  unfolding steps_after_init
  end_stays phase (Err x) = stays p (reader_in phase)
  end_stays Uninitialized (Ok n) = stays p (reader_in Uninitialized)
  end_stays (Init Encrypt) (Ok n) = record { initial-same = refl; was-before = λ b. tt }
  end_stays (Init Decrypt) (Ok n) = record { initial-same = refl; was-before = λ b. tt }
  end_stays (Aad Encrypt) (Ok n) = record { initial-same = refl; was-before = λ b. tt }
  end_stays (Aad Decrypt) (Ok n) = record { initial-same = refl; was-before = λ b. tt }
  end_stays (Data Encrypt) (Ok n) = record { initial-same = refl; was-before = λ b. tt }
  end_stays (Data Decrypt) (Ok n) = record { initial-same = refl; was-before = λ b. tt }
  end_stays (Final d) (Ok n) = stays p (reader_in (Final d))

call_stays : (v : SparkleVariant) (r : Reader) (c : Call) → Keeps c → Stays (params_of v) r (read v r c).reader
unfolding read
call_stays v r (Call.Init d key nonce size h) k = absurd k
call_stays v r (Call.Aad input) k =
    header_stays (params_of v) r.loads r.initial r.header r.body r.phase
    (aad_check r.phase (length input)) input
call_stays v r (Call.Data input out) k =
    message_stays (params_of v) r.loads r.initial r.header r.body r.phase
    (data_check (params_of v) r.phase (reader_held (params_of v) r) (length input) (length out)) input
call_stays v r (Call.Final out) k =
    end_stays (params_of v) r.loads r.initial r.header r.body r.phase
    (end_check (params_of v) r.phase (reader_held (params_of v) r) (length out))
call_stays v r Call.Reset k = absurd k
call_stays v r Call.Mac k = stays (params_of v) r
call_stays v r (Call.Update n) k = stays (params_of v) r
call_stays v r (Call.Output n) k = stays (params_of v) r

-- before the end the formula is that of what has run
so_far_before : (p : Params) (phase : Phase) (header body : List ℕ) → Before phase
    → so_far p phase header body ≡ steps_before p phase header body
so_far_before p Uninitialized header body b = refl
so_far_before p (Init d) header body b = refl
so_far_before p (Aad d) header body b = refl
so_far_before p (Data d) header body b = refl
so_far_before p (Final d) header body b = absurd b

module _ (v : SparkleVariant) (r : Reader) (mac : Mac)
    (st : PhaseInvariant (params_of v) r.phase r.loads r.header r.body mac) (s : Steps) (n : Counted v s r) where
  -- from a message that has not ended, the count goes to the formula of what has run with the call
  added : (c : Call) → Keeps c → Before r.phase
      → (add_steps (ran v r c) s).current ≡ ran_so_far (params_of v) (read v r c).reader % 2 ^ 64
  unfolding add_steps
  added c k b =
      let p = params_of v in
      ap (λ (m : ℕ). (m + ran v r c) % 2 ^ 64)
      (n.current b ∙ ap (λ (m : ℕ). m % 2 ^ 64) (sym (so_far_before p r.phase r.header r.body b)))
      ∙ mod-add-mod (ran_so_far p r) (2 ^ 64) (ran v r c)
      ∙ ap (λ (m : ℕ). m % 2 ^ 64) (sym (grows v r mac st c k))

  kept-counted : (c : Call) → Keeps c → Counted v (add_steps (ran v r c) s) (read v r c).reader
  unfolding add_steps
  kept-counted c k =
      let q = (read v r c).reader in
      let same = call_stays v r c k in
      record {
        below = omega arith;
        initial = n.initial ∙ ap (λ (m : ℕ). m % 2 ^ 64) (sym same.initial-same);
        current = λ b. added c k (same.was-before b)
            ∙ ap (λ (m : ℕ). m % 2 ^ 64) (so_far_before (params_of v) q.phase q.header q.body b);
      }

  after-counted : (c : Call) → Counted v (steps_after v r c s) (read v r c).reader
  unfolding steps_after
  after-counted (Call.Init d key nonce size h) = unfold read in unfold ran in
      start-counted v r s d key nonce h (start_check v d (length key) (length nonce) size (repeated r key nonce))
  after-counted (Call.Aad input) = kept-counted (Call.Aad input) tt
  after-counted (Call.Data input out) = kept-counted (Call.Data input out) tt
  after-counted (Call.Final out) = kept-counted (Call.Final out) tt
  after-counted Call.Reset = unfold read in reset-counted v r.phase r.loads r.initial r.header r.body s n
  after-counted Call.Mac = kept-counted Call.Mac tt
  after-counted (Call.Update k) = kept-counted (Call.Update k) tt
  after-counted (Call.Output k) = kept-counted (Call.Output k) tt

-- Every call keeps it, refused or not, and every list of calls.
pub counted_step : (v : SparkleVariant) (e : SparkleEngine) (r : Reader) → Invariant v e r → Counted v e.steps r → (c : Call)
    → Counted v (step e c).engine.steps (read v r c).reader
counted_step v e r w n c =
    subst (λ (s : Steps). Counted v s (read v r c).reader) (sym (steps-step v e r w n.below c))
    (after-counted v r w.mac w.phase_invariant e.steps n c)

pub counted-from : (v : SparkleVariant) (e : SparkleEngine) (r : Reader) → Invariant v e r → Counted v e.steps r
    → (calls : List Call) → Counted v (run_from e calls).steps (read_from v r calls)
unfolding run_from read_from
counted-from v e r w n [] = n
counted-from v e r w n (c ∷ calls) =
    counted-from v (step e c).engine (read v r c).reader (invariant_step v e r w c) (counted_step v e r w n c) calls

pub counted-run : (v : SparkleVariant) (calls : List Call) → Counted v (run v calls).steps (reader v calls)
unfolding run reader
counted-run v calls = counted-from v (new_engine v) new_reader (invariant_new v) (counted-new v) calls

-- ---- An end past its checks

active_before : {d : Direction} {phase : Phase} → Active d phase → Before phase
active_before in-init = tt
active_before in_aad = tt
active_before in-data = tt

ended_so_far : (p : Params) (d : Direction) {phase : Phase} → Active d phase
    → (loads : List Load) (initial header body : List ℕ) (n : ℕ)
    → ran_so_far p (read_end (Ok n) p (reader_of loads initial phase header body)).reader
    ≡ steps p (length header) (message_length d p (length body))
ended_so_far p Encrypt in-init loads initial header body n = refl
ended_so_far p Encrypt in_aad loads initial header body n = refl
ended_so_far p Encrypt in-data loads initial header body n = refl
ended_so_far p Decrypt in-init loads initial header body n = refl
ended_so_far p Decrypt in_aad loads initial header body n = refl
ended_so_far p Decrypt in-data loads initial header body n = refl

module _ (v : SparkleVariant) (e : SparkleEngine) (r : Reader) (w : Invariant v e r) (n : Counted v e.steps r)
    (out : List ℕ) (k : ℕ)
    (passed : end_check (params_of v) r.phase (reader_held (params_of v) r) (length out) ≡ Ok k) where
  -- the steps of the whole message
  pub end-counted : {d : Direction} → Active d r.phase
      → steps_now (step e (Call.Final out)).engine
      ≡ steps (params_of v) (length r.header) (message_length d (params_of v) (length r.body)) % 2 ^ 64
  unfolding steps_now steps_after read
  end-counted {d} t =
      ap (λ (s : Steps). s.current) (steps-step v e r w n.below (Call.Final out))
      ∙ added v r w.mac w.phase_invariant e.steps n (Call.Final out) tt (active_before t)
      ∙ ap (λ (x : ℕ). x % 2 ^ 64)
      (ap (λ (a : Result ℕ AeadError). ran_so_far (params_of v) (read_end a (params_of v) r).reader) passed
      ∙ ended_so_far (params_of v) d t r.loads r.initial r.header r.body k)

  -- a sealing's data is its message, an opening's decrypts to it
  length-message : (d : Direction) → Active d r.phase
      → message_length d (params_of v) (length r.body) ≡ length (message_of (params_of v) r)
  unfolding message_of
  length-message Encrypt t = rw (active_opening t)
  length-message Decrypt t =
      let p = params_of v in
      let enough = active_enough p (sizes v) t r.body (length out) k passed in
      rw (active_opening t)
      (sym (length-decrypt p (sizes v) (loaded_key r) (loaded_nonce r) r.header (body_of p r.body) ∙ length-body p
      r.body enough))

  -- the tag and the steps
  pub end-ended : EndsWith v r
      (cond (opening r.phase) (verified (params_of v) (loaded_key r) (loaded_nonce r) r.header r.body) true)
      (step e (Call.Final out)).engine
  end-ended =
      let t = end_passed_active (params_of v) r.phase (reader_held (params_of v) r) (length out) k passed in
      record {
        mac_is = end_mac_lem v e r w out k passed;
        steps-are =
            end-counted t.1
            ∙ ap (λ (x : ℕ). steps (params_of v) (length r.header) x % 2 ^ 64) (length-message t.0 t.1);
      }
