-- The invariant gives what `Linked` states; with it demand 3 and the answers of demand 2 hold of the engine.
use mathlib.Core.Path.{◌≡◌, refl, sym, ap, subst, ◌∙◌}
use mathlib.Core.Logic.{◌↔◌}
use mathlib.Core.Bool.{true}
use mathlib.Core.List.{List, ◌∷◌}
use Prim.Native.Nat.{ℕ, ◌≤◌}
use native.Mathlib.Omega.{arith}
use lib.ListN.{length, take}
use Rattle.std.specs.Prelude.{Ok}
use Rattle.schwaemm.specs.Blocks.{held}
use Rattle.schwaemm.specs.Schwaemm.{Params, verified}
use Rattle.tc_aead_cipher.specs.declared.variant.SparkleVariant.{SparkleVariant}
use Rattle.tc_aead_cipher.specs.declared.phase.Direction.TheVariants.{Encrypt, Decrypt}
use Rattle.tc_aead_cipher.specs.declared.phase.Phase.{Phase}
use Rattle.tc_aead_cipher.specs.declared.phase.Phase.TheVariants.{Uninitialized, Init, Aad, Data, Final}
use Rattle.tc_sparkle_aead.specs.declared.message.Mac.{Mac}
use Rattle.tc_sparkle_aead.specs.declared.engine.Steps.{Steps}
use Rattle.tc_sparkle_aead.specs.declared.engine.SparkleEngine.{SparkleEngine}
use Rattle.tc_aead_cipher.specs.Variant.{params_of}
use Rattle.tc_aead_cipher.specs.Checks.{opening, keep, held_data, end_check}
use Rattle.tc_sparkle_aead.specs.Message.{zeros, no_message, final_point}
use Rattle.tc_sparkle_aead.specs.Calls.{begin_data}
use Rattle.tc_aead_cipher.proofs.VariantLaws.{sizes, small}
use Rattle.tc_aead_cipher.specs.Call.{Call}
use Rattle.claims.specs.Shape.{Alike}
use Rattle.tc_sparkle_aead.specs.Sheet.{step, sheet, run}
use Rattle.tc_aead_cipher.specs.Outcome.Outcome.{no}
use Rattle.claims.specs.Reader.{Reader, reader_held, read, reader, verdicts, Load, loaded_key, loaded_nonce, last_key}
use Rattle.claims.specs.Reader.{last_nonce}
use Rattle.claims.specs.Messages.{answer_of}
use Rattle.claims.specs.Refused.{Active, Failed}
use Rattle.claims.specs.Refused.Active.{in-data}
use Rattle.claims.specs.Machine.{engine, after, Demand3}
use Rattle.claims.proofs.Invariant.{Invariant, PhaseInvariant, engine_of, point_in, invariant_new, head_point, data_point}
use Rattle.claims.proofs.Invariant.{LoadsFit, point_held, repeats_agree, held_agrees, phase_agrees, end_enough}
use Rattle.claims.proofs.InvariantKept.{reader_of, invariant_step, invariant_run, begin_data_lem, active_loaded}
use Rattle.claims.proofs.InvariantKept.{opening-verified}
use Rattle.tc_sparkle_aead.proofs.Points.{block_point}
use Rattle.claims.proofs.PublicState.{length-in_array}
use Rattle.claims.proofs.Demand1.{six_leaves}
use Rattle.claims.proofs.Demand3.{Linked, sheets_and_verdicts, first_sheets_and_verdicts}
use Rattle.claims.proofs.MachineDemand3.{engine-answers, engine_meets_3}
use Rattle.claims.proofs.EngineEnd.{tag_right}

-- the held bytes count in Data, where point and reader agree
held_linked : (p : Params) (key nonce header body : List ℕ) (phase : Phase)
    → held_data p phase (point_in p phase key nonce header body).held
    ≡ held_data p phase (point_held p body phase)
held_linked p key nonce header body Uninitialized = refl
held_linked p key nonce header body (Init d) = refl
held_linked p key nonce header body (Aad d) = refl
held_linked p key nonce header body (Data d) = ap (held_data p (Data d)) (held_agrees p key nonce header body d)
held_linked p key nonce header body (Final d) = refl

module _ (v : SparkleVariant) (loads : List Load) (initial header body : List ℕ) (mac : Mac) (s : Steps)
    (f : LoadsFit (params_of v) loads) where
  abbrev key : List ℕ
  key = last_key loads

  abbrev nonce : List ℕ
  nonce = last_nonce loads

  -- an opening in a phase that takes an end, with a tag's bytes
  tag_active : {phase : Phase} → Active Decrypt phase → PhaseInvariant (params_of v) phase loads header body mac
      → (params_of v).key ≤ length body
      → tag_right (begin_data (engine_of v (reader_of loads initial phase header body) mac s))
      ≡ verified (params_of v) key nonce header body
  tag_active {phase} t st enough =
      ap (λ (e : SparkleEngine). tag_right e) (begin_data_lem v loads initial f t header body mac s st)
      ∙ opening-verified v loads initial f (active_loaded v loads initial f t header body mac st) header body enough

  tag_linked : (phase : Phase) → PhaseInvariant (params_of v) phase loads header body mac → (available k : ℕ)
      → end_check (params_of v) phase (reader_held (params_of v) (reader_of loads initial phase header body)) available ≡ Ok k
      → opening phase ≡ true
      → tag_right (begin_data (engine_of v (reader_of loads initial phase header body) mac s))
      ≡ verified (params_of v) key nonce header body
  unfolding end_check
  tag_linked Uninitialized st available k passed opens = absurd (let z : ◌≡◌ {A = ℕ} 0 1 = cc in omega arith)
  tag_linked (Init Encrypt) st available k passed opens = absurd (let z : ◌≡◌ {A = ℕ} 0 1 = cc in omega arith)
  tag_linked (Aad Encrypt) st available k passed opens = absurd (let z : ◌≡◌ {A = ℕ} 0 1 = cc in omega arith)
  tag_linked (Data Encrypt) st available k passed opens = absurd (let z : ◌≡◌ {A = ℕ} 0 1 = cc in omega arith)
  tag_linked (Final d) st available k passed opens = absurd (let z : ◌≡◌ {A = ℕ} 0 1 = cc in omega arith)
  tag_linked (Init Decrypt) st available k passed opens =
      let h = end_enough (params_of v) (Init Decrypt) _ available k refl passed in
      let positive = (sizes v).key_positive in
      absurd (omega arith)
  tag_linked (Aad Decrypt) st available k passed opens =
      let h = end_enough (params_of v) (Aad Decrypt) _ available k refl passed in
      let positive = (sizes v).key_positive in
      absurd (omega arith)
  tag_linked (Data Decrypt) st available k passed opens =
      let h = end_enough (params_of v) (Data Decrypt)
      (reader_held (params_of v) (reader_of loads initial (Data Decrypt) header body)) available k refl passed in
      tag_active in-data st (omega arith)

module _ (v : SparkleVariant) (r : Reader) (mac : Mac) (s : Steps)
    (f : LoadsFit (params_of v) r.loads)
    (st : PhaseInvariant (params_of v) r.phase r.loads r.header r.body mac) where
  engine_linked : Linked v (engine_of v r mac s) r
  engine_linked =
      record {
        variant = refl;
        phase = phase_agrees (params_of v) (loaded_key r) (loaded_nonce r) r.header r.body r.phase;
        held = held_linked (params_of v) (loaded_key r) (loaded_nonce r) r.header r.body r.phase;
        pair = λ key nonce. repeats_agree (params_of v) (small v) r.loads f key nonce;
        tag = tag_linked v r.loads r.initial r.header r.body mac s f r.phase st;
      }

pub linked : (v : SparkleVariant) (e : SparkleEngine) (r : Reader) → Invariant v e r → Linked v e r
linked v e r w =
    subst (λ (x : SparkleEngine). Linked v x r) (sym w.same-engine) (engine_linked v r w.mac w.steps w.loads_fit w.phase_invariant)

pub keeps : (v : SparkleVariant) (e : SparkleEngine) (r : Reader) (c : Call) → Invariant v e r
    → Invariant v (step e c).engine (read v r c).reader
keeps v e r c w = invariant_step v e r w c

-- Demand 3: two lists alike have equal sheets exactly where they have equal verdicts, and so their first k calls.
pub demand_3 : (v : SparkleVariant) (xs ys : List Call) → Alike xs ys → (sheet v xs ≡ sheet v ys) ↔ (verdicts v xs ≡ verdicts v ys)
demand_3 v = sheets_and_verdicts v (Invariant v) (linked v) (invariant_new v) (keeps v)

pub demand_3_call_by_call : (v : SparkleVariant) (k : ℕ) (xs ys : List Call) → Alike xs ys
    → (take k (sheet v xs) ≡ take k (sheet v ys)) ↔ (take k (verdicts v xs) ≡ take k (verdicts v ys))
demand_3_call_by_call v = first_sheets_and_verdicts v (Invariant v) (linked v) (invariant_new v) (keeps v)

pub engine_demand_3 : Demand3 engine
engine_demand_3 = engine_meets_3 Invariant linked invariant_new keeps

-- Demand 2, the answers: every call but mac, after every list of calls, is answered as the tables say.
pub engine-answered : (v : SparkleVariant) (before : List Call) (c : Call) → (c ≡ Call.Mac → ⊥)
    → (engine.step (after engine (engine.new v) before) c).line.outcome ≡ answer_of v (reader v before) c
engine-answered = engine-answers Invariant linked invariant_new keeps

-- Demand 1, the failed tag: the engine's buffer is an array of 64 bytes, so 6 leaves what `Failed` says after every list
-- of calls.
point-array : (p : Params) (phase : Phase) (key nonce header body : List ℕ)
    → length (point_in p phase key nonce header body).buffer ≡ 64
unfolding no_message final_point head_point data_point block_point zeros
point-array p Uninitialized key nonce header body = refl
point-array p (Init d) key nonce header body = length-in_array 64 (held p.rate 0 header)
point-array p (Aad d) key nonce header body = length-in_array 64 (held p.rate 0 header)
point-array p (Data d) key nonce header body = length-in_array 64 (held p.rate (keep p (Data d)) body)
point-array p (Final d) key nonce header body = refl

pub run-array : (v : SparkleVariant) (calls : List Call) → length (run v calls).current.buffer ≡ 64
run-array v calls =
    let r = reader v calls in
    ap (λ (e : SparkleEngine). length e.current.buffer) (invariant_run v calls).same-engine
    ∙ point-array (params_of v) r.phase (loaded_key r) (loaded_nonce r) r.header r.body

pub run_six_leaves : (v : SparkleVariant) (calls : List Call) (c : Call) (values : List ℕ)
    → (step (run v calls) c).outcome ≡ no (6 ∷ values) → (out : List ℕ) × (c ≡ Call.Final out) × Failed (run v calls) out
run_six_leaves v calls c values q = six_leaves (run v calls) c values (run-array v calls) q
