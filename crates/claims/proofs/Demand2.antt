-- Demand 2 on the definitions of the calls, for every variant and every list of calls from a new engine, refused calls
-- and queries included: the bytes, the verification, the readable tag, the held bytes and the steps are the
-- specification's.
use mathlib.Core.Path.{◌≡◌, refl, sym, ap, subst, ◌∙◌}
use mathlib.Core.Logic.{◌↔◌}
use mathlib.Core.Bool.{Bool, true, false, cond}
use mathlib.Core.List.{List, [], ◌∷◌}
use Prim.Native.Nat.{ℕ, ◌+◌, ◌%◌, ◌^◌, ◌≤◌, ◌<◌}
use native.Mathlib.Omega.{arith}
use lib.ListN.{length}
use Rattle.std.specs.Prelude.{Result, Ok, Err}
use Rattle.schwaemm.specs.Schwaemm.{Params, tag, verified}
use Rattle.schwaemm.proofs.Cut.{length-held, rest_below}
use Rattle.tc_aead_cipher.specs.declared.variant.SparkleVariant.{SparkleVariant}
use Rattle.tc_aead_cipher.specs.declared.phase.Direction.{Direction}
use Rattle.tc_aead_cipher.specs.declared.phase.Direction.TheVariants.{Encrypt, Decrypt}
use Rattle.tc_aead_cipher.specs.declared.phase.Phase.{Phase}
use Rattle.tc_aead_cipher.specs.declared.phase.Phase.TheVariants.{Uninitialized, Init, Aad, Data, Final}
use Rattle.tc_aead_cipher.specs.declared.aead_error.AeadError.{AeadError}
use Rattle.tc_aead_cipher.specs.declared.aead_init_error.AeadInitError.{AeadInitError}
use Rattle.tc_sparkle_aead.specs.declared.message.Mac.{Mac}
use Rattle.tc_sparkle_aead.specs.declared.engine.SparkleEngine.{SparkleEngine}
use Rattle.tc_aead_cipher.specs.Variant.{params_of}
use Rattle.tc_aead_cipher.specs.Checks.{opening, keep, aad_check, header_check, data_check, end_check, start_check}
use Rattle.tc_sparkle_aead.specs.Message.{no_mac, no_message, readable, final_point}
use Rattle.tc_sparkle_aead.specs.Engine.{no_steps, refused_steps, repeats, reset_steps, new_engine}
use Rattle.tc_sparkle_aead.specs.Calls.{reset as resetEngine}
use Rattle.tc_sparkle_aead.specs.Calls.{mac_of, steps_now, refused, init_by, init, aad_by, process_aad_bytes, data_by, process_bytes, final_by, do_final}
use Rattle.tc_aead_cipher.proofs.VariantLaws.{sizes, small, keep_bound}
use Rattle.tc_aead_cipher.specs.Call.{Call}
use Rattle.tc_sparkle_aead.specs.Sheet.{step, run_from, run}
use Rattle.tc_aead_cipher.specs.Outcome.{Outcome, start_outcome}
use Rattle.claims.specs.Reader.{reader_held, read, reader, Load, loaded_key, loaded_nonce, last_key, last_nonce}
use Rattle.claims.specs.Steps.{steps_before, steps_after_init}
use Rattle.claims.specs.Messages.{released, Writes, Each, end_outcome, answer_of, message_of, EndsWith, finished_bytes}
use Rattle.claims.specs.Messages.{OpenEndExact, Before, Keeps}
use Rattle.tc_sparkle_aead.proofs.Points.{block_point}
use Rattle.claims.proofs.Invariant.{PhaseInvariant, SealingFinal, opened_mac, head_point}
use Rattle.claims.proofs.Invariant.{data_point, point_in, phase_agrees}
use Rattle.claims.proofs.InvariantKept.{reader_of, invariant_run, aad_some}
use Rattle.claims.proofs.Answers.{answers}
use Rattle.claims.proofs.CallOutputs.{SealEnd, OpenEnd, message_writes_next, seal-end, open_end_lem}
use Rattle.claims.proofs.StepInvariant.{counted-run, end-ended}

module _ (v : SparkleVariant) (calls : List Call) where
  -- An accepted data call writes the specification's next bytes.
  pub message-bytes : (input out : List ℕ) (n : ℕ) → (step (run v calls) (Call.Data input out)).outcome ≡ Outcome.ok n
      → Writes (released (params_of v) (reader v calls))
      (released (params_of v) (read v (reader v calls) (Call.Data input out)).reader) out
      (step (run v calls) (Call.Data input out)).buffer n
  message-bytes = message_writes_next v (run v calls) (reader v calls) (invariant_run v calls)

  -- A sealing's end past its checks is accepted, and with its bytes the bytes are the specification's packet.
  pub seal_end_bytes : (out : List ℕ) (n : ℕ) → opening (reader v calls).phase ≡ false
      → end_check (params_of v) (reader v calls).phase (reader_held (params_of v) (reader v calls)) (length out) ≡ Ok n
      → SealEnd v (reader v calls) out n (step (run v calls) (Call.Final out))
  seal_end_bytes out n o passed = seal-end v (run v calls) (reader v calls) (invariant_run v calls) out n passed o

  -- An opening's end past its checks is accepted exactly when the packet is verified; then the bytes are what the packet
  -- decrypts to, else what would have been written is zeros.
  pub open_end_bytes : (out : List ℕ) (n : ℕ) → opening (reader v calls).phase ≡ true
      → end_check (params_of v) (reader v calls).phase (reader_held (params_of v) (reader v calls)) (length out) ≡ Ok n
      → OpenEnd v (reader v calls) out n
      (verified (params_of v) (loaded_key (reader v calls)) (loaded_nonce (reader v calls)) (reader v calls).header (reader v calls).body)
      (step (run v calls) (Call.Final out))
  open_end_bytes out n o passed = open_end_lem v (run v calls) (reader v calls) (invariant_run v calls) out n passed o

exact_ok : (g : Bool) (n : ℕ) (o : Outcome) → o ≡ cond g (Outcome.ok n) (Outcome.no (6 ∷ []))
    → (o ≡ Outcome.ok n) ↔ (g ≡ true)
exact_ok true n o e = (λ _. refl, λ _. e)
exact_ok false n o e =
    (λ h. absurd (let z : ◌≡◌ {A = ℕ} 0 1 = cc in omega arith), λ h. absurd (let z : ◌≡◌ {A = ℕ} 0 1 = cc in omega arith))

exact_no : (g : Bool) (n : ℕ) (o : Outcome) → o ≡ cond g (Outcome.ok n) (Outcome.no (6 ∷ []))
    → (o ≡ Outcome.no (6 ∷ [])) ↔ (g ≡ false)
exact_no false n o e = (λ _. refl, λ _. e)
exact_no true n o e =
    (λ h. absurd (let z : ◌≡◌ {A = ℕ} 0 1 = cc in omega arith), λ h. absurd (let z : ◌≡◌ {A = ℕ} 0 1 = cc in omega arith))

pub open_end_exact : (v : SparkleVariant) (calls : List Call) (out : List ℕ) (n : ℕ) → opening (reader v calls).phase ≡ true
    → end_check (params_of v) (reader v calls).phase (reader_held (params_of v) (reader v calls)) (length out) ≡ Ok n
    → OpenEndExact v (reader v calls) n (step (run v calls) (Call.Final out)).outcome
open_end_exact v calls out n o passed =
    let r = reader v calls in
    let w = (open_end_bytes v calls out n o passed).outcome-is in
    let g = verified (params_of v) (loaded_key r) (loaded_nonce r) r.header r.body in
    record { accepted = exact_ok g n _ w; refused = exact_no g n _ w }

-- ---- The tag

-- After an end past its checks the readable tag is the specification's of the message, unless an opening's packet was not
-- verified, where none can be read; and the steps are the specification's.
pub end_tag_and_steps : (v : SparkleVariant) (calls : List Call) (out : List ℕ) (n : ℕ)
    → end_check (params_of v) (reader v calls).phase (reader_held (params_of v) (reader v calls)) (length out) ≡ Ok n
    → EndsWith v (reader v calls)
    (cond (opening (reader v calls).phase)
    (verified (params_of v) (loaded_key (reader v calls)) (loaded_nonce (reader v calls)) (reader v calls).header
    (reader v calls).body) true)
    (step (run v calls) (Call.Final out)).engine
end_tag_and_steps v calls out n passed =
    end-ended v (run v calls) (reader v calls) (invariant_run v calls) (counted-run v calls) out n passed

-- What an accepted end says: its checks passed, and an opening's packet is verified.
end_passed : (k : Result ℕ AeadError) (o g : Bool) (n : ℕ) → end_outcome k o g ≡ Outcome.ok n → (k ≡ Ok n) × (cond o g true ≡ true)
end_passed (Err x) o g n e = absurd (let z : ◌≡◌ {A = ℕ} 0 1 = cc in omega arith)
end_passed (Ok m) false g n e = (let z : m ≡ n = cc in ap Ok z, refl)
end_passed (Ok m) true true n e = (let z : m ≡ n = cc in ap Ok z, refl)
end_passed (Ok m) true false n e = absurd (let z : ◌≡◌ {A = ℕ} 0 1 = cc in omega arith)

module _ (v : SparkleVariant) (calls : List Call) (out : List ℕ) (n : ℕ)
    (accepted : (step (run v calls) (Call.Final out)).outcome ≡ Outcome.ok n) where
  pub passed : (end_check (params_of v) (reader v calls).phase (reader_held (params_of v) (reader v calls)) (length out) ≡ Ok n)
      × (cond (opening (reader v calls).phase)
      (verified (params_of v) (loaded_key (reader v calls)) (loaded_nonce (reader v calls)) (reader v calls).header
      (reader v calls).body) true ≡ true)
  unfolding answer_of
  passed = end_passed _ _ _ n (sym (answers v calls (Call.Final out) tt) ∙ accepted)

  -- An accepted end completes the bytes.
  pub end-bytes : Writes (released (params_of v) (reader v calls)) (finished_bytes (params_of v) (reader v calls)) out
      (step (run v calls) (Call.Final out)).buffer n
  unfolding finished_bytes
  end-bytes = by (opening (reader v calls).phase) refl
    where
      by : (o : Bool) → opening (reader v calls).phase ≡ o
          → Writes (released (params_of v) (reader v calls)) (finished_bytes (params_of v) (reader v calls)) out
          (step (run v calls) (Call.Final out)).buffer n
      by true o = rw o ((open_end_bytes v calls out n o passed.0).good_bytes (rw o at passed.1))
      by false o = rw o (seal_end_bytes v calls out n o passed.0).bytes-are

  -- After an accepted end the readable tag is the specification's of the message, and the steps are the specification's.
  pub end-accepted : EndsWith v (reader v calls) true (step (run v calls) (Call.Final out)).engine
  end-accepted =
      subst (λ (g : Bool). EndsWith v (reader v calls) g (step (run v calls) (Call.Final out)).engine) passed.1
      (end_tag_and_steps v calls out n passed.0)

no-tag : (mac : Mac) → mac ≡ no_mac → mac.readable ≡ true → ⊥
unfolding no_mac
no-tag mac e h =
    let b : ◌≡◌ {A = Bool} false true =
    sym (ap (λ (m : Mac). m.readable) e) ∙ h in let z : ◌≡◌ {A = ℕ} 0 1 = cc in omega arith

opened-tag : (g : Bool) (t : List ℕ) (mac : Mac) → mac ≡ cond g (readable t) no_mac → mac.readable ≡ true → mac ≡ readable t
opened-tag true t mac e h = e
opened-tag false t mac e h = absurd (no-tag mac e h)

sealed_tag : (p : Params) (key nonce header body : List ℕ) (mac : Mac) → SealingFinal p key nonce header body mac
    → mac.readable ≡ true → mac ≡ readable (tag p key nonce header body)
sealed_tag p key nonce header body mac (SealingFinal.was-reset e) h = absurd (no-tag mac e h)
sealed_tag p key nonce header body mac (SealingFinal.has_ended e) h = e

mac_in : (p : Params) (phase : Phase) (loads : List Load) (initial header body : List ℕ) (mac : Mac)
    → PhaseInvariant p phase loads header body mac → mac.readable ≡ true
    → mac ≡ readable (tag p (last_key loads) (last_nonce loads) header (message_of p (reader_of loads initial phase header body)))
unfolding message_of opened_mac
mac_in p Uninitialized loads initial header body mac st h = absurd (no-tag mac st h)
mac_in p (Init d) loads initial header body mac st h = absurd (no-tag mac st.1 h)
mac_in p (Aad d) loads initial header body mac st h = absurd (no-tag mac st.1 h)
mac_in p (Data d) loads initial header body mac st h = absurd (no-tag mac st.1 h)
mac_in p (Final Encrypt) loads initial header body mac st h =
    sealed_tag p (last_key loads) (last_nonce loads) header body mac st.1 h
mac_in p (Final Decrypt) loads initial header body mac st h =
    opened-tag (verified p (last_key loads) (last_nonce loads) header body) _ mac st.1 h

shown_mac : (e : SparkleEngine) → (mac_of e).readable ≡ true → (e.mac.readable ≡ true) × (mac_of e ≡ e.mac)
unfolding mac_of no_mac
shown_mac e h = by e.mac.readable h
  where
    by : (b : Bool) → (cond b e.mac no_mac).readable ≡ true → (b ≡ true) × (cond b e.mac no_mac ≡ e.mac)
    by true g = (refl, refl)
    by false g = (g, absurd (let z : ◌≡◌ {A = ℕ} 0 1 = cc in omega arith))

-- Whenever a tag can be read it is the specification's, of the message that the reader keeps.
pub mac_bytes : (v : SparkleVariant) (calls : List Call) → (mac_of (run v calls)).readable ≡ true
    → mac_of (run v calls)
    ≡ readable (tag (params_of v) (loaded_key (reader v calls)) (loaded_nonce (reader v calls)) (reader v calls).header
    (message_of (params_of v) (reader v calls)))
mac_bytes v calls h =
    let r = reader v calls in
    let w = invariant_run v calls in
    let e = run v calls in
    let s = shown_mac e h in
    let is : e.mac ≡ w.mac = ap (λ (x : SparkleEngine). x.mac) w.same-engine in
    s.1 ∙ is
    ∙ mac_in (params_of v) r.phase r.loads r.initial r.header r.body w.mac w.phase_invariant
    (sym (ap (λ (m : Mac). m.readable) is) ∙ s.0)

-- ---- What is held

module _ (p : Params) (pos : 0 < p.rate) (key nonce header body : List ℕ) where
  held-phase : (phase : Phase) → (point_in p phase key nonce header body).held ≤ keep p phase + p.rate
  unfolding head_point data_point block_point no_message final_point
  held-phase Uninitialized = omega arith
  held-phase (Init d) = omega (arith, length-held p.rate 0 header, rest_below p.rate 0 pos (length header))
  held-phase (Aad d) = omega (arith, length-held p.rate 0 header, rest_below p.rate 0 pos (length header))
  held-phase (Data d) =
      omega (arith, length-held p.rate (keep p (Data d)) body, rest_below p.rate (keep p (Data d)) pos (length body))
  held-phase (Final d) = omega arith

-- At most a block is held, on an opening a block and a tag; so at most 64 bytes.
pub held_at_most : (v : SparkleVariant) (calls : List Call)
    → (run v calls).current.held ≤ keep (params_of v) (reader v calls).phase + (params_of v).rate
held_at_most v calls =
    let r = reader v calls in
    let w = invariant_run v calls in
    subst (λ (e : SparkleEngine). e.current.held ≤ keep (params_of v) r.phase + (params_of v).rate) (sym w.same-engine)
    (held-phase (params_of v) (sizes v).rate_positive (loaded_key r) (loaded_nonce r) r.header r.body r.phase)

pub held_at_most_64 : (v : SparkleVariant) (calls : List Call) → (run v calls).current.held ≤ 64
held_at_most_64 v calls =
    omega (arith, held_at_most v calls, keep_bound (params_of v) (reader v calls).phase, (small v).rate, (small v).key)

-- The engine's phase is the reader's.
pub phase-is : (v : SparkleVariant) (calls : List Call) → (run v calls).current.phase ≡ (reader v calls).phase
phase-is v calls =
    let r = reader v calls in
    ap (λ (e : SparkleEngine). e.current.phase) (invariant_run v calls).same-engine
    ∙ phase_agrees (params_of v) (loaded_key r) (loaded_nonce r) r.header r.body r.phase

-- ---- The steps

-- Outside Final the steps are those of what has run; so 0 in Uninitialized, after a refused start and for a new engine.
pub steps_before_end : (v : SparkleVariant) (calls : List Call) → Before (reader v calls).phase
    → steps_now (run v calls)
    ≡ steps_before (params_of v) (reader v calls).phase (reader v calls).header (reader v calls).body % 2 ^ 64
unfolding steps_now
steps_before_end v calls b = (counted-run v calls).current b

-- Every reset returns to the count after init.
pub steps-reset : (v : SparkleVariant) (calls : List Call)
    → steps_now (step (run v calls) Call.Reset).engine
    ≡ steps_after_init (params_of v) (reader v calls).phase (reader v calls).initial % 2 ^ 64
unfolding steps_now step resetEngine reset_steps
steps-reset v calls = (counted-run v calls).initial

-- A new engine and a refused start give 0.
pub steps-new : (v : SparkleVariant) → steps_now (new_engine v) ≡ 0
unfolding steps_now new_engine no_steps
steps-new v = refl

steps-start : (k : Result (Unit {0}) AeadInitError) (e : SparkleEngine) (d : Direction) (key nonce header values : List ℕ)
    → start_outcome (init_by k e d key nonce header).answer ≡ Outcome.no values
    → steps_now (init_by k e d key nonce header).engine ≡ 0
unfolding steps_now refused refused_steps no_steps
steps-start (Ok _) e d key nonce header values o = absurd (let z : ◌≡◌ {A = ℕ} 0 1 = cc in omega arith)
steps-start (Err x) e d key nonce header values o = refl

pub steps_refused_start : (e : SparkleEngine) (d : Direction) (key nonce : List ℕ) (size : ℕ) (header values : List ℕ)
    → (step e (Call.Init d key nonce size header)).outcome ≡ Outcome.no values
    → steps_now (step e (Call.Init d key nonce size header)).engine ≡ 0
unfolding step init
steps_refused_start e d key nonce size header values o =
    let p = params_of e.variant in
    steps-start (start_check e.variant d (length key) (length nonce) size
    (repeats p e.pair key nonce)) e d key nonce header values o

-- ---- Until the next init or reset

-- In Final a call that is neither init nor reset changes nothing, so the tag stays readable.
pub final_keeps : (e : SparkleEngine) (d : Direction) → e.current.phase ≡ Final d → (c : Call) → Keeps c → (step e c).engine
    ≡ e
unfolding step process_aad_bytes process_bytes do_final data_check end_check
final_keeps e d is (Call.Init x key nonce size h) k = absurd k
final_keeps e d is (Call.Aad []) k = unfold aad_check in refl
final_keeps e d is (Call.Aad (x ∷ input)) k =
    ap (λ (y : Result ℕ AeadError). (aad_by y e (x ∷ input)).engine) (aad_some e.current.phase (length input) ∙ ap header_check is)
final_keeps e d is (Call.Data input out) k =
    ap (λ (x : Phase). (data_by (data_check (params_of e.variant) x e.current.held (length input) (length out)) e input).engine) is
final_keeps e d is (Call.Final out) k =
    ap (λ (x : Phase). (final_by (end_check (params_of e.variant) x e.current.held (length out)) e).engine) is
final_keeps e d is Call.Reset k = absurd k
final_keeps e d is Call.Mac k = refl
final_keeps e d is (Call.Update n) k = refl
final_keeps e d is (Call.Output n) k = refl

pub final_keeps_all : (e : SparkleEngine) (d : Direction) → e.current.phase ≡ Final d → (calls : List Call)
    → Each Keeps calls
    → run_from e calls ≡ e
unfolding run_from
final_keeps_all e d is [] k = refl
final_keeps_all e d is (c ∷ calls) k =
    let q = final_keeps e d is c k.0 in
    final_keeps_all (step e c).engine d (ap (λ (x : SparkleEngine). x.current.phase) q ∙ is) calls k.1 ∙ q
