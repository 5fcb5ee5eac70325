-- Whole messages with room: start, header calls, data calls and end are accepted, and write the specification's bytes.
use mathlib.Core.Path.{◌≡◌, refl, sym, ap, ap₂, subst, ◌∙◌}
use mathlib.Core.Bool.{Bool, true, false, cond}
use mathlib.Core.List.{List, [], ◌∷◌, ◌++◌, append_assoc, append-nil}
use Prim.Native.Nat.{ℕ, ◌+◌, ◌-◌, ◌*◌, ◌%◌, ◌^◌, ◌≤◌, ◌<◌}
use native.Mathlib.Nat.{div-mul-le_self}
use native.Mathlib.Omega.{arith}
use borrow.Author.Tests.{le-ltb}
use lib.ListN.{length}
use Rattle.std.specs.Prelude.{Result, Ok, Err}
use Rattle.schwaemm.specs.Blocks.{ready}
use Rattle.schwaemm.specs.Schwaemm.{Params, Sizes, decrypt, seal, tag, steps, body as body_of, verified}
use Rattle.schwaemm.proofs.Cut.{ready_bound}
use Rattle.schwaemm.proofs.RoundTrip.{verified-seal, body-seal, decrypt-encrypt, length-seal}
use Rattle.tc_aead_cipher.specs.declared.variant.SparkleVariant.{SparkleVariant}
use Rattle.tc_aead_cipher.specs.declared.phase.Direction.{Direction}
use Rattle.tc_aead_cipher.specs.declared.phase.Direction.TheVariants.{Encrypt, Decrypt}
use Rattle.tc_aead_cipher.specs.declared.phase.Phase.{Phase}
use Rattle.tc_aead_cipher.specs.declared.phase.Phase.TheVariants.{Init, Aad}
use Rattle.tc_aead_cipher.specs.declared.aead_error.AeadError.{AeadError}
use Rattle.tc_aead_cipher.specs.declared.aead_init_error.AeadInitError.TheVariants.{NonceReuse}
use Rattle.tc_sparkle_aead.specs.declared.message.Mac.{Mac}
use Rattle.tc_sparkle_aead.specs.declared.engine.SparkleEngine.{SparkleEngine}
use Rattle.tc_aead_cipher.specs.Variant.{params_of}
use Rattle.tc_aead_cipher.specs.Checks.{opening, keep, held_data, then, phase_check, update_len, total_len, room, whole, aad_check, header_check, data_check, end_check}
use Rattle.tc_sparkle_aead.specs.Message.{no_mac, readable}
use Rattle.tc_sparkle_aead.specs.Engine.{update_output_len, output_len}
use Rattle.tc_sparkle_aead.specs.Calls.{aad_by, process_aad_bytes, mac_of, steps_now}
use Rattle.tc_aead_cipher.proofs.VariantLaws.{sizes, small, keep_bound}
use Rattle.tc_sparkle_aead.proofs.FinalLaws.{held_data_bound}
use Rattle.tc_aead_cipher.proofs.CheckLaws.{update_len-fits, total_len-opening, total_len-sealing, start_check-opening, start_check-sealing}
use Rattle.tc_aead_cipher.specs.Call.{Call}
use Rattle.tc_sparkle_aead.specs.Sheet.{step, run_from, run}
use Rattle.tc_aead_cipher.specs.Outcome.{Outcome, outcome, start_outcome}
use Rattle.claims.specs.Refused.{Active}
use Rattle.claims.specs.Reader.{Reader, reader_held, header_phase, repeated, aad_phase, read_header, read_message, read}
use Rattle.claims.specs.Reader.{Load, loaded_key, loaded_nonce, read_from, reader}
use Rattle.claims.specs.Messages.{message_of, header_in, data_of, count_of, outputs, Between, AllBetween, Each}
use Rattle.claims.specs.Messages.{started_engine, header_bytes, data_bytes, HeaderCall, DataCall, message_calls, RoomFor}
use Rattle.claims.specs.Messages.{Rooms, Ample, IsAccepted, Accepts, Completes, Rejects, RoundTrip}
use Rattle.claims.specs.Steps.{message_length}
use Rattle.claims.proofs.Invariant.{Invariant, PhaseInvariant, engine_of}
use Rattle.claims.proofs.InvariantKept.{reader_of, invariant_step, invariant_from, invariant_run, aad_some}
use Rattle.claims.proofs.InvariantKept.{header-answer, update_answer, total_answer}
use Rattle.claims.proofs.Accepted.{active_opening}
use Rattle.claims.proofs.CallOutputs.{outcome-ok, end_mac_lem, message-outcome, seal-end, open_end_lem}
use Rattle.claims.proofs.StepInvariant.{Counted, counted_step, counted-from, counted-run, end-counted}
use Rattle.claims.proofs.UnrefusedMessages.{active_message, ActiveUnder, started_reader, start-outcome, start-read, last_reader}
use Rattle.claims.proofs.UnrefusedMessages.{start_invariant, last_invariant, last_active, sealed_accepted}
use Rattle.claims.proofs.UnrefusedMessages.{opened-accepted}

-- ---- Room and acceptance

rooms_append : (e : SparkleEngine) (xs ys : List Call) → Rooms e (xs ++ ys) → Rooms e xs × Rooms (run_from e xs) ys
unfolding run_from
rooms_append e [] ys r = (tt, r)
rooms_append e (c ∷ xs) ys r =
    let q = rooms_append (step e c).engine xs ys r.1 in ((r.0, q.0), q.1)

accepts_append : (e : SparkleEngine) (xs ys : List Call) → Accepts e xs → Accepts (run_from e xs) ys → Accepts e (xs ++ ys)
unfolding run_from
accepts_append e [] ys a b = b
accepts_append e (c ∷ xs) ys a b = (a.0, accepts_append (step e c).engine xs ys a.1 b)

header_between : (e : SparkleEngine) (c : Call) → HeaderCall c → Between e c
header_between e (Call.Init d key nonce size h) b = b
header_between e (Call.Aad input) b = b
header_between e (Call.Data input out) b = tt
header_between e (Call.Final out) b = absurd b
header_between e Call.Reset b = b
header_between e Call.Mac b = b
header_between e (Call.Update n) b = b
header_between e (Call.Output n) b = b

data_between : (e : SparkleEngine) (c : Call) → DataCall c → Between e c
data_between e (Call.Init d key nonce size h) b = b
data_between e (Call.Aad input) b = tt
data_between e (Call.Data input out) b = b
data_between e (Call.Final out) b = absurd b
data_between e Call.Reset b = b
data_between e Call.Mac b = b
data_between e (Call.Update n) b = b
data_between e (Call.Output n) b = b

datas_between : (e : SparkleEngine) (ms : List Call) → Each DataCall ms → AllBetween e ms
datas_between e [] b = tt
datas_between e (c ∷ ms) b = (data_between e c b.0, datas_between (step e c).engine ms b.1)

all_between : (e : SparkleEngine) (hs ms : List Call) → Each HeaderCall hs → Each DataCall ms → AllBetween e (hs ++ ms)
all_between e [] ms bh bm = datas_between e ms bm
all_between e (c ∷ hs) ms bh bm = (header_between e c bh.0, all_between (step e c).engine hs ms bh.1 bm)

-- ---- The header

-- the phases before the data
data BeforeData (d : Direction) : Phase → Type 0 where
  before-init : BeforeData d (Init d)
  before_aad : BeforeData d (Aad d)

before_data_check : {d : Direction} {phase : Phase} → BeforeData d phase → header_check phase ≡ Ok 0
before_data_check before-init = refl
before_data_check before_aad = refl

before_data_more : {d : Direction} {phase : Phase} → BeforeData d phase → (input : List ℕ) → BeforeData d (aad_phase phase input)
before_data_more t [] = t
before_data_more before-init (x ∷ input) = before_aad
before_data_more before_aad (x ∷ input) = before_aad

aad_passes : {d : Direction} {phase : Phase} → BeforeData d phase → (input : List ℕ) → aad_check phase (length input) ≡ Ok 0
unfolding aad_check
aad_passes t [] = refl
aad_passes {phase = phase} t (x ∷ input) = aad_some phase (length input) ∙ before_data_check t

aad_answered : (k : Result ℕ AeadError) (e : SparkleEngine) (input : List ℕ) → k ≡ Ok 0 → (aad_by k e input).answer ≡ Ok 0
aad_answered (Ok n) e [] h = refl
aad_answered (Ok n) e (x ∷ input) h = refl
aad_answered (Err x) e input h = h

header-accepted : (v : SparkleVariant) (e : SparkleEngine) (r : Reader) → Invariant v e r → {d : Direction} → BeforeData d r.phase
    → (input : List ℕ)
    → (step e (Call.Aad input)).outcome ≡ Outcome.ok 0
unfolding step process_aad_bytes
header-accepted v e r w t input =
    let K = engine_of v r w.mac w.steps in
    ap (λ (x : SparkleEngine). outcome (aad_by (aad_check x.current.phase (length input)) x input).answer)
    w.same-engine
    ∙ ap outcome (aad_answered (aad_check K.current.phase (length input)) K input
    (header-answer v r w.mac w.steps (length input) ∙ aad_passes t input))

-- what header calls leave
record HeadersAccepted (v : SparkleVariant) (d : Direction) (e : SparkleEngine) (r : Reader) (calls : List Call) : Type 0 where
  accepted : Accepts e calls
  before-data : BeforeData d (read_from v r calls).phase
  header_is : (read_from v r calls).header ≡ r.header ++ header_bytes calls
  body_is : (read_from v r calls).body ≡ r.body

-- one call more
headers_more : (v : SparkleVariant) (d : Direction) (e : SparkleEngine) (r : Reader) (c : Call) (calls : List Call)
    → IsAccepted c (step e c).outcome → (read v r c).reader.header ≡ r.header ++ header_in c
    → (read v r c).reader.body ≡ r.body
    → HeadersAccepted v d (step e c).engine (read v r c).reader calls → HeadersAccepted v d e r (c ∷ calls)
unfolding read_from
headers_more v d e r c calls t h b q =
    record {
      accepted = (t, q.accepted);
      before-data = q.before-data;
      header_is =
          q.header_is ∙ ap (λ (l : List ℕ). l ++ header_bytes calls) h ∙ append_assoc r.header (header_in c) (header_bytes calls);
      body_is = q.body_is ∙ b;
    }

header_read : (v : SparkleVariant) (r : Reader) {d : Direction} → BeforeData d r.phase → (input : List ℕ)
    → (read v r (Call.Aad input)).reader
    ≡ reader_of r.loads r.initial (aad_phase r.phase input) (r.header ++ input) r.body
unfolding read
header_read v r t input = ap (λ (k : Result ℕ AeadError). (read_header k r input).reader) (aad_passes t input)

headers_accepted : (v : SparkleVariant) (d : Direction) (e : SparkleEngine) (r : Reader) → Invariant v e r → BeforeData d r.phase
    → (calls : List Call) → Each HeaderCall calls → HeadersAccepted v d e r calls
unfolding step read read_from
headers_accepted v d e r w t [] b =
    record { accepted = tt; before-data = t; header_is = sym (append-nil r.header); body_is = refl }
headers_accepted v d e r w t (Call.Init d' key nonce size h ∷ calls) b = absurd b.0
headers_accepted v d e r w t (Call.Aad input ∷ calls) b =
    let is = header_read v r t input in
    let t' : BeforeData d (read v r (Call.Aad input)).reader.phase =
    subst (λ (x : Reader). BeforeData d x.phase) (sym is) (before_data_more t input) in
    headers_more v d e r (Call.Aad input) calls (0, header-accepted v e r w t input) (ap (λ (x : Reader). x.header) is)
    (ap (λ (x : Reader). x.body) is)
    (headers_accepted v d (step e (Call.Aad input)).engine (read v r (Call.Aad input)).reader
    (invariant_step v e r w (Call.Aad input)) t' calls b.1)
headers_accepted v d e r w t (Call.Data input out ∷ calls) b = absurd b.0
headers_accepted v d e r w t (Call.Final out ∷ calls) b = absurd b.0
headers_accepted v d e r w t (Call.Reset ∷ calls) b = absurd b.0
headers_accepted v d e r w t (Call.Mac ∷ calls) b =
    headers_more v d e r Call.Mac calls (count_of (step e Call.Mac).outcome, refl) (sym (append-nil r.header)) refl
    (headers_accepted v d e r w t calls b.1)
headers_accepted v d e r w t (Call.Update n ∷ calls) b =
    headers_more v d e r (Call.Update n) calls tt (sym (append-nil r.header)) refl (headers_accepted v d e r w t calls b.1)
headers_accepted v d e r w t (Call.Output n ∷ calls) b =
    headers_more v d e r (Call.Output n) calls tt (sym (append-nil r.header)) refl (headers_accepted v d e r w t calls b.1)

-- ---- The data

active_check : {d : Direction} {phase : Phase} → Active d phase → phase_check phase ≡ Ok 0
active_check Active.in-init = refl
active_check Active.in_aad = refl
active_check Active.in-data = refl

room_enough : (a n : ℕ) → n ≤ a → room a n ≡ Ok n
room_enough a n h = rw (le-ltb a n h)

data_passes : (p : Params) {d : Direction} {phase : Phase} → Active d phase → (held k a n : ℕ) → update_len p phase held k
    ≡ Ok n → n ≤ a
    → data_check p phase held k a ≡ Ok n
unfolding data_check
data_passes p {phase = phase} t held k a n u h =
    ap (λ (x : Result ℕ AeadError). then x (λ _. then (update_len p phase held k) (room a))) (active_check t)
    ∙ ap (λ (x : Result ℕ AeadError). then x (room a)) u ∙ room_enough a n h

pub update_outcome : (v : SparkleVariant) (e : SparkleEngine) (r : Reader) → Invariant v e r → (k : ℕ)
    → (step e (Call.Update k)).outcome ≡ outcome (update_len (params_of v) r.phase (reader_held (params_of v) r) k)
unfolding step
update_outcome v e r w k =
    ap (λ (x : SparkleEngine). outcome (update_output_len x k)) w.same-engine ∙ ap outcome
    (update_answer v r w.mac w.steps k)

pub total_outcome : (v : SparkleVariant) (e : SparkleEngine) (r : Reader) → Invariant v e r → (k : ℕ)
    → (step e (Call.Output k)).outcome ≡ outcome (total_len (params_of v) r.phase (reader_held (params_of v) r) k)
unfolding step
total_outcome v e r w k =
    ap (λ (x : SparkleEngine). outcome (output_len x k)) w.same-engine ∙ ap outcome
    (total_answer v r w.mac w.steps k)

-- the queries answer, whatever the engine: a sum that stays under 2^64, and the end's always
update_answers : (v : SparkleVariant) (phase : Phase) (held k : ℕ) → k + 64 < 2 ^ 64
    → (n : ℕ) × (update_len (params_of v) phase held k ≡ Ok n) × (n ≤ k + 64)
update_answers v phase held k fits =
    let p = params_of v in
    let h = held_data p phase held in
    let few : h ≤ 64 = omega (arith, held_data_bound p phase held, keep_bound p phase, (small v).rate, (small v).key) in (
      ready p.rate (keep p phase) (h + k) * p.rate,
      update_len-fits p phase held k (omega arith),
      omega (arith, ready_bound p.rate (keep p phase) (h + k)),
    )

total_answers : (v : SparkleVariant) (phase : Phase) (held : ℕ)
    → (n : ℕ) × (total_len (params_of v) phase held 0 ≡ Ok n) × (n ≤ 96)
total_answers v phase held = by (opening phase) refl
  where
    few : held_data (params_of v) phase held ≤ 64
    few =
        omega (arith, held_data_bound (params_of v) phase held, keep_bound (params_of v) phase, (small v).rate, (small v).key)

    by : (b : Bool) → opening phase ≡ b → (n : ℕ) × (total_len (params_of v) phase held 0 ≡ Ok n) × (n ≤ 96)
    by true o =
        let p = params_of v in
        (held_data p phase held + 0 - p.key, total_len-opening p phase held 0 o (omega (arith, few)), omega (arith, few))
    by false o =
        let p = params_of v in (
          held_data p phase held + 0 + p.key,
          total_len-sealing p phase held 0 o (omega (arith, few, (small v).key)),
          omega (arith, few, (small v).key),
        )

room_ample : (e : SparkleEngine) (c : Call) → Ample c → RoomFor e c
unfolding step update_output_len output_len
room_ample e (Call.Init d key nonce size h) a = tt
room_ample e (Call.Aad input) a = tt
room_ample e (Call.Data input out) a =
    let u = update_answers e.variant e.current.phase e.current.held (length input) a.1 in
    (u.0, ap outcome u.1, omega (arith, u.2, a.0))
room_ample e (Call.Final out) a =
    let u = total_answers e.variant e.current.phase e.current.held in
    (u.0, ap outcome u.1, omega (arith, u.2, a))
room_ample e Call.Reset a = tt
room_ample e Call.Mac a = tt
room_ample e (Call.Update n) a = tt
room_ample e (Call.Output n) a = tt

pub rooms_ample : (e : SparkleEngine) (calls : List Call) → Each Ample calls → Rooms e calls
rooms_ample e [] a = tt
rooms_ample e (c ∷ calls) a = (room_ample e c a.0, rooms_ample (step e c).engine calls a.1)

-- what a data call with room answers
message_passes : (v : SparkleVariant) (e : SparkleEngine) (r : Reader) → Invariant v e r → {d : Direction} → Active d r.phase
    → (input out : List ℕ) → RoomFor e (Call.Data input out)
    → (n : ℕ) × (data_check (params_of v) r.phase (reader_held (params_of v) r) (length input) (length out) ≡ Ok n)
message_passes v e r w t input out enough =
    let p = params_of v in
    let k = length input in
    let h = reader_held p r in
    let n = enough.0 in
    let u : update_len p r.phase h k ≡ Ok n = outcome-ok _ n (sym (update_outcome v e r w k) ∙ enough.1) in
    (n, data_passes p t h k (length out) n u enough.2)

-- what data calls leave
record DataAccepted (v : SparkleVariant) (e : SparkleEngine) (r : Reader) (calls : List Call) : Type 0 where
  accepted : Accepts e calls
  header_is : (read_from v r calls).header ≡ r.header
  body_is : (read_from v r calls).body ≡ r.body ++ data_bytes calls

data-more : (v : SparkleVariant) (e : SparkleEngine) (r : Reader) (c : Call) (calls : List Call)
    → IsAccepted c (step e c).outcome → (read v r c).reader.header ≡ r.header
    → (read v r c).reader.body ≡ r.body ++ data_of c
    → DataAccepted v (step e c).engine (read v r c).reader calls → DataAccepted v e r (c ∷ calls)
unfolding read_from
data-more v e r c calls t h b q =
    record {
      accepted = (t, q.accepted);
      header_is = q.header_is ∙ h;
      body_is = q.body_is ∙ ap (λ (l : List ℕ). l ++ data_bytes calls) b ∙ append_assoc r.body (data_of c) (data_bytes calls);
    }

data-accepted : (v : SparkleVariant) (d : Direction) (e : SparkleEngine) (r : Reader) → Invariant v e r → Active d r.phase
    → (calls : List Call) → Each DataCall calls → Rooms e calls
    → DataAccepted v e r calls
unfolding step read read_from
data-accepted v d e r w t [] b rooms = record { accepted = tt; header_is = refl; body_is = sym (append-nil r.body) }
data-accepted v d e r w t (Call.Init d' key nonce size h ∷ calls) b rooms = absurd b.0
data-accepted v d e r w t (Call.Aad input ∷ calls) b rooms = absurd b.0
data-accepted v d e r w t (Call.Data input out ∷ calls) b rooms =
    let q = message_passes v e r w t input out rooms.0 in
    let is = ap (λ (k : Result ℕ AeadError). (read_message k r input).reader) q.1 in
    let t' : Active d (read v r (Call.Data input out)).reader.phase =
    subst (λ (x : Reader). Active d x.phase) (sym is) (active_message t) in
    let body_is : (read v r (Call.Data input out)).reader.body ≡ r.body ++ input =
    ap (λ (x : Reader). x.body) is in
    data-more v e r (Call.Data input out) calls
    (q.0, message-outcome v e r w input out ∙ ap outcome q.1) (ap (λ (x : Reader). x.header) is) body_is
    (data-accepted v d (step e (Call.Data input out)).engine (read v r (Call.Data input out)).reader
    (invariant_step v e r w (Call.Data input out)) t' calls b.1 rooms.1)
data-accepted v d e r w t (Call.Final out ∷ calls) b rooms = absurd b.0
data-accepted v d e r w t (Call.Reset ∷ calls) b rooms = absurd b.0
data-accepted v d e r w t (Call.Mac ∷ calls) b rooms =
    data-more v e r Call.Mac calls (count_of (step e Call.Mac).outcome, refl) refl (sym (append-nil r.body))
    (data-accepted v d e r w t calls b.1 rooms.1)
data-accepted v d e r w t (Call.Update n ∷ calls) b rooms =
    data-more v e r (Call.Update n) calls tt refl (sym (append-nil r.body))
    (data-accepted v d e r w t calls b.1 rooms.1)
data-accepted v d e r w t (Call.Output n ∷ calls) b rooms =
    data-more v e r (Call.Output n) calls tt refl (sym (append-nil r.body))
    (data-accepted v d e r w t calls b.1 rooms.1)

-- ---- The end

end_passes : (p : Params) {d : Direction} {phase : Phase} → Active d phase → (held a n : ℕ) → total_len p phase held 0 ≡ Ok n
    → n ≤ a
    → whole p phase held n ≡ Ok n → end_check p phase held a ≡ Ok n
unfolding end_check
end_passes p {phase = phase} t held a n u h q =
    ap (λ (x : Result ℕ AeadError). then x (λ _. then (then (total_len p phase held 0) (room a)) (whole p phase held)))
    (active_check t)
    ∙ ap (λ (x : Result ℕ AeadError). then (then x (room a)) (whole p phase held)) u
    ∙ ap (λ (x : Result ℕ AeadError). then x (whole p phase held)) (room_enough a n h) ∙ q

seal_passes : (v : SparkleVariant) (e : SparkleEngine) (r : Reader) → Invariant v e r → Active Encrypt r.phase
    → (out : List ℕ)
    → RoomFor e (Call.Final out) → (n : ℕ) × (end_check (params_of v) r.phase (reader_held (params_of v) r) (length out) ≡ Ok n)
seal_passes v e r w t out enough =
    let p = params_of v in
    let h = reader_held p r in
    let n = enough.0 in
    let u : total_len p r.phase h 0 ≡ Ok n = outcome-ok _ n (sym (total_outcome v e r w 0) ∙ enough.1) in
    (n, end_passes p t h (length out) n u enough.2 (rw (active_opening t)))

whole_open : (p : Params) (phase : Phase) (held n : ℕ) → opening phase ≡ true → p.key ≤ held_data p phase held
    → whole p phase held n ≡ Ok n
whole_open p phase held n o k = rw (o, le-ltb (held_data p phase held) p.key k)

-- an opening with a tag's bytes holds them
rest-tag : (rate keep n : ℕ) → keep ≤ n → keep ≤ n - ready rate keep n * rate
unfolding ready
rest-tag rate keep n h = omega (arith, div-mul-le_self (n - (keep + 1)) rate)

active_held : (p : Params) → Sizes p → {phase : Phase} → Active Decrypt phase
    → (loads : List Load) (initial header body : List ℕ) (mac : Mac)
    → PhaseInvariant p phase loads header body mac → p.key ≤ length body
    → p.key ≤ held_data p phase (reader_held p (reader_of loads initial phase header body))
active_held p s Active.in-init loads initial header body mac st enough =
    absurd (omega (arith, ap length st.3))
active_held p s Active.in_aad loads initial header body mac st enough =
    absurd (omega (arith, ap length st.3))
active_held p s Active.in-data loads initial header body mac st enough =
    omega (arith, rest-tag p.rate p.key (length body) enough)

open_passes : (v : SparkleVariant) (e : SparkleEngine) (r : Reader) → Invariant v e r → Active Decrypt r.phase
    → (out : List ℕ)
    → RoomFor e (Call.Final out) → (params_of v).key ≤ length r.body
    → (n : ℕ) × (end_check (params_of v) r.phase (reader_held (params_of v) r) (length out) ≡ Ok n)
open_passes v e r w t out enough tagged =
    let p = params_of v in
    let h = reader_held p r in
    let n = enough.0 in
    let u : total_len p r.phase h 0 ≡ Ok n = outcome-ok _ n (sym (total_outcome v e r w 0) ∙ enough.1) in
    let k =
    active_held p (sizes v) t r.loads r.initial r.header r.body w.mac
    w.phase_invariant tagged in (
      n,
      end_passes p t h (length out) n u enough.2
          (whole_open p r.phase h n (active_opening t) k),
    )

-- ---- Whole messages

run-append : (e : SparkleEngine) (xs ys : List Call) → run_from e (xs ++ ys) ≡ run_from (run_from e xs) ys
unfolding run_from
run-append e [] ys = refl
run-append e (c ∷ xs) ys = run-append (step e c).engine xs ys

read-append : (v : SparkleVariant) (r : Reader) (xs ys : List Call) → read_from v r (xs ++ ys) ≡ read_from v (read_from v r xs) ys
unfolding read_from
read-append v r [] ys = refl
read-append v r (c ∷ xs) ys = read-append v (read v r c).reader xs ys

start_before_data : (d : Direction) (initial : List ℕ) → BeforeData d (header_phase d initial)
start_before_data d [] = before-init
start_before_data d (x ∷ initial) = before_aad

before_data_active : {d : Direction} {phase : Phase} → BeforeData d phase → Active d phase
before_data_active before-init = Active.in-init
before_data_active before_aad = Active.in_aad

-- header and data calls after an accepted start
record MessageAccepted (v : SparkleVariant) (before : List Call) (d : Direction) (key nonce initial : List ℕ) (e : SparkleEngine)
    (hs ms : List Call) : Type 0 where
  accepted : Accepts e (hs ++ ms)
  header_is : (last_reader v before d key nonce initial (hs ++ ms)).header ≡ initial ++ header_bytes hs
  body_is : (last_reader v before d key nonce initial (hs ++ ms)).body ≡ data_bytes ms

message-accepted : (v : SparkleVariant) (before : List Call) (d : Direction) (key nonce initial : List ℕ) (e : SparkleEngine)
    → Invariant v e (started_reader (reader v before) d key nonce initial)
    → (hs ms : List Call) → Each HeaderCall hs → Each DataCall ms → Rooms e (hs ++ ms)
    → MessageAccepted v before d key nonce initial e hs ms
message-accepted v before d key nonce initial e w hs ms bh bm rooms =
    let p = params_of v in
    let r1 = started_reader (reader v before) d key nonce initial in
    let r2 = read_from v r1 hs in
    let room = rooms_append e hs ms rooms in
    let hq = headers_accepted v d e r1 w (start_before_data d initial) hs bh in
    let dq = data-accepted v d (run_from e hs) r2 (invariant_from v e r1 w hs) (before_data_active hq.before-data) ms bm
    room.1 in
    let is = read-append v r1 hs ms in
    record {
      accepted = accepts_append e hs ms hq.accepted dq.accepted;
      header_is = ap (λ (x : Reader). x.header) is ∙ dq.header_is ∙ hq.header_is;
      body_is = ap (λ (x : Reader). x.body) is ∙ dq.body_is ∙ ap (λ (l : List ℕ). l ++ data_bytes ms) hq.body_is;
    }

module _ (v : SparkleVariant) (before : List Call) (key nonce : List ℕ) (size : ℕ) (initial : List ℕ) (hs ms : List Call)
    (out : List ℕ)
    (key_fits : length key ≡ (params_of v).key) (nonce-fits : length nonce ≡ (params_of v).rate)
    (size_fits : size ≡ (params_of v).key)
    (bh : Each HeaderCall hs) (bm : Each DataCall ms) where
  between : (d : Direction) → AllBetween (started_engine v before d key nonce size initial) (hs ++ ms)
  between d = all_between (started_engine v before d key nonce size initial) hs ms bh bm

  -- an accepted start
  sealing_starts : repeated (reader v before) key nonce ≡ false
      → (step (run v before) (Call.Init Encrypt key nonce size initial)).outcome ≡ Outcome.ok 0
  sealing_starts fresh =
      start-outcome v (run v before) (reader v before) (invariant_run v before) Encrypt key nonce size initial
      ∙ ap start_outcome
      (start_check-sealing v Encrypt (length key) (length nonce) size
      (repeated (reader v before) key nonce) key_fits nonce-fits size_fits refl
      ∙ ap (λ (b : Bool). cond b (Err NonceReuse) (Ok tt)) fresh)

  opening_starts : (step (run v before) (Call.Init Decrypt key nonce size initial)).outcome ≡ Outcome.ok 0
  opening_starts =
      start-outcome v (run v before) (reader v before) (invariant_run v before) Decrypt key nonce size initial
      ∙ ap start_outcome
      (start_check-opening v Decrypt (length key) (length nonce) size
      (repeated (reader v before) key nonce) key_fits nonce-fits size_fits refl)

  -- the last reader in its parts
  module _ (d : Direction) (o : (step (run v before) (Call.Init d key nonce size initial)).outcome ≡ Outcome.ok 0)
      (rooms : Rooms (run v before) (message_calls d key nonce size initial hs ms out)) where
    end-room : Rooms (started_engine v before d key nonce size initial) (hs ++ ms)
        × Rooms (run_from (started_engine v before d key nonce size initial) (hs ++ ms)) (Call.Final out ∷ [])
    end-room = rooms_append (started_engine v before d key nonce size initial) (hs ++ ms) (Call.Final out ∷ []) rooms.1

    ready-end : MessageAccepted v before d key nonce initial (started_engine v before d key nonce size initial) hs ms
    ready-end =
        message-accepted v before d key nonce initial (started_engine v before d key nonce size initial)
        (start_invariant v before d key nonce size initial (hs ++ ms) out 0 o (between d)) hs ms bh bm end-room.0

    end_invariant : Invariant v (run_from (started_engine v before d key nonce size initial) (hs ++ ms))
        (last_reader v before d key nonce initial (hs ++ ms))
    end_invariant = last_invariant v before d key nonce size initial (hs ++ ms) out 0 o (between d)

    end-count : Counted v (run_from (started_engine v before d key nonce size initial) (hs ++ ms)).steps
        (last_reader v before d key nonce initial (hs ++ ms))
    end-count =
        let w = invariant_run v before in
        counted-from v (started_engine v before d key nonce size initial) (started_reader (reader v before) d key nonce initial)
        (start_invariant v before d key nonce size initial (hs ++ ms) out 0 o (between d))
        (subst (Counted v (started_engine v before d key nonce size initial).steps)
        (start-read v (run v before) (reader v before) w d key nonce size initial 0 o)
        (counted_step v (run v before) (reader v before) w (counted-run v before) (Call.Init d key nonce size initial)))
        (hs ++ ms)

    end_active : ActiveUnder d key nonce (last_reader v before d key nonce initial (hs ++ ms))
    end_active = last_active v before d key nonce size initial (hs ++ ms) out 0 o (between d)

    -- the steps after the end: those of the whole message
    end-steps : (k : ℕ)
        → end_check (params_of v) (last_reader v before d key nonce initial (hs ++ ms)).phase
        (reader_held (params_of v) (last_reader v before d key nonce initial (hs ++ ms))) (length out) ≡ Ok k
        → steps_now (step (run_from (started_engine v before d key nonce size initial) (hs ++ ms)) (Call.Final out)).engine
        ≡ steps (params_of v) (length (initial ++ header_bytes hs)) (message_length d (params_of v) (length (data_bytes ms))) % 2 ^ 64
    end-steps k passed =
        end-counted v _ _ end_invariant end-count out k passed end_active.active
        ∙ ap₂ (λ (x y : List ℕ). steps (params_of v) (length x) (message_length d (params_of v) (length y)) % 2 ^ 64)
        ready-end.header_is ready-end.body_is

    -- what is said of the last reader's parts is said of what was handed in
    in_parts : (A : Type 0) (g : (key nonce header body : List ℕ) → A)
        → (let r = last_reader v before d key nonce initial (hs ++ ms) in g (loaded_key r) (loaded_nonce r) r.header r.body)
        ≡ g key nonce (initial ++ header_bytes hs) (data_bytes ms)
    in_parts A g =
        let r = last_reader v before d key nonce initial (hs ++ ms) in
        ap₂ (λ (x y : List ℕ). g x y r.header r.body) end_active.key-is end_active.nonce-is
        ∙ ap₂ (λ (x y : List ℕ). g key nonce x y) ready-end.header_is ready-end.body_is

    -- the engine after the whole list
    whole_run : run_from (run v before) (message_calls d key nonce size initial hs ms out)
        ≡ (step (run_from (started_engine v before d key nonce size initial) (hs ++ ms)) (Call.Final out)).engine
    unfolding run_from
    whole_run = run-append (started_engine v before d key nonce size initial) (hs ++ ms) (Call.Final out ∷ [])

  -- After any calls, a sealing with a pair that is not the last loaded and with room for its outputs is accepted, and
  -- writes the specification's packet of the whole header and the whole data, however these are cut.
  pub sealed : repeated (reader v before) key nonce ≡ false
      → Rooms (run v before) (message_calls Encrypt key nonce size initial hs ms out)
      → Completes (run v before) (message_calls Encrypt key nonce size initial hs ms out)
      (seal (params_of v) key nonce (initial ++ header_bytes hs) (data_bytes ms))
      (tag (params_of v) key nonce (initial ++ header_bytes hs) (data_bytes ms))
      (steps (params_of v) (length (initial ++ header_bytes hs)) (length (data_bytes ms)) % 2 ^ 64)
  unfolding message_of
  sealed fresh rooms =
      let p = params_of v in
      let r = last_reader v before Encrypt key nonce initial (hs ++ ms) in
      let o = sealing_starts fresh in
      let w = end_invariant Encrypt o rooms in
      let t = (end_active Encrypt o rooms).active in
      let a = ready-end Encrypt o rooms in
      let q = seal_passes v _ r w t out (end-room Encrypt o rooms).1.0 in
      let f = (seal-end v _ r w out q.0 q.1 (active_opening t)).outcome-is in
      let sealing =
      ap (λ (b : Bool). cond b (decrypt p (loaded_key r) (loaded_nonce r) r.header (body_of p r.body)) r.body)
      (active_opening t) in
      record {
        accepted = ((0, o), accepts_append _ (hs ++ ms) (Call.Final out ∷ []) a.accepted ((q.0, f), tt));
        bytes-are =
            sealed_accepted v before key nonce size initial (hs ++ ms) out 0 q.0 o (between Encrypt) f
            ∙ ap₂ (λ (x y : List ℕ). seal p key nonce x y) a.header_is a.body_is;
        tag_is =
            ap mac_of (whole_run Encrypt o rooms) ∙ end_mac_lem v _ r w out q.0 q.1
            ∙ ap (λ (b : Bool). cond (cond b (verified p (loaded_key r) (loaded_nonce r) r.header r.body) true)
            (readable (tag p (loaded_key r) (loaded_nonce r) r.header (message_of p r))) no_mac) (active_opening t)
            ∙ ap (λ (x : List ℕ). readable (tag p (loaded_key r) (loaded_nonce r) r.header x)) sealing
            ∙ in_parts Encrypt o rooms Mac (λ k n x y. readable (tag p k n x y));
        steps-are = ap steps_now (whole_run Encrypt o rooms) ∙ end-steps Encrypt o rooms q.0 q.1;
      }

  -- After any calls, an opening of a verified packet with room for its outputs is accepted, and writes what the packet's
  -- body decrypts to, however header and packet are cut.
  module _ (rooms : Rooms (run v before) (message_calls Decrypt key nonce size initial hs ms out))
      (tagged : (params_of v).key ≤ length (data_bytes ms)) where
    -- an opening's end past its checks
    open_checked : (n : ℕ)
        × (end_check (params_of v) (last_reader v before Decrypt key nonce initial (hs ++ ms)).phase
        (reader_held (params_of v) (last_reader v before Decrypt key nonce initial (hs ++ ms))) (length out) ≡ Ok n)
    open_checked =
        open_passes v _ _ (end_invariant Decrypt opening_starts rooms) (end_active Decrypt opening_starts rooms).active out
        (end-room Decrypt opening_starts rooms).1.0 (omega (arith, ap length (ready-end Decrypt opening_starts rooms).body_is))

    -- the message is what the packet decrypts to
    open_message : message_of (params_of v) (last_reader v before Decrypt key nonce initial (hs ++ ms))
        ≡ decrypt (params_of v) key nonce (initial ++ header_bytes hs) (body_of (params_of v) (data_bytes ms))
    unfolding message_of
    open_message =
        let p = params_of v in
        let r = last_reader v before Decrypt key nonce initial (hs ++ ms) in
        ap (λ (b : Bool). cond b (decrypt p (loaded_key r) (loaded_nonce r) r.header (body_of p r.body)) r.body)
        (active_opening (end_active Decrypt opening_starts rooms).active)
        ∙ in_parts Decrypt opening_starts rooms (List ℕ) (λ k n x y. decrypt p k n x (body_of p y))

    module _ (g : Bool) (is : verified (params_of v) key nonce (initial ++ header_bytes hs) (data_bytes ms) ≡ g) where
      open_verdict : verified (params_of v) (loaded_key (last_reader v before Decrypt key nonce initial (hs ++ ms)))
          (loaded_nonce (last_reader v before Decrypt key nonce initial (hs ++ ms)))
          (last_reader v before Decrypt key nonce initial (hs ++ ms)).header
          (last_reader v before Decrypt key nonce initial (hs ++ ms)).body ≡ g
      open_verdict = in_parts Decrypt opening_starts rooms Bool (verified (params_of v)) ∙ is

      open_outcome_lem : (step (run_from (started_engine v before Decrypt key nonce size initial) (hs ++ ms)) (Call.Final out)).outcome
          ≡ cond g (Outcome.ok open_checked.0) (Outcome.no (6 ∷ []))
      open_outcome_lem =
          (open_end_lem v _ _ (end_invariant Decrypt opening_starts rooms) out open_checked.0 open_checked.1
          (active_opening (end_active Decrypt opening_starts rooms).active)).outcome-is
          ∙ ap (λ (b : Bool). cond b (Outcome.ok open_checked.0) (Outcome.no (6 ∷ []))) open_verdict

      open_mac : mac_of
          (step (run_from (started_engine v before Decrypt key nonce size initial) (hs ++ ms)) (Call.Final out)).engine
          ≡ cond g (readable (tag (params_of v) key nonce (initial ++ header_bytes hs)
          (decrypt (params_of v) key nonce (initial ++ header_bytes hs) (body_of (params_of v) (data_bytes ms))))) no_mac
      open_mac =
          let p = params_of v in
          let r = last_reader v before Decrypt key nonce initial (hs ++ ms) in
          let H = initial ++ header_bytes hs in
          let t = active_opening (end_active Decrypt opening_starts rooms).active in
          end_mac_lem v _ r (end_invariant Decrypt opening_starts rooms) out open_checked.0 open_checked.1
          ∙ ap₂ (λ (b : Bool) (x : List ℕ). cond (cond b (verified p (loaded_key r) (loaded_nonce r) r.header r.body) true)
          (readable (tag p (loaded_key r) (loaded_nonce r) r.header x)) no_mac)
          t open_message
          ∙ ap (λ (b : Bool). cond b (readable (tag p (loaded_key r) (loaded_nonce r) r.header (decrypt p key nonce H (body_of p (data_bytes ms))))) no_mac) open_verdict
          ∙ in_parts Decrypt opening_starts rooms Mac (λ k n x y. cond g
          (readable (tag p k n x (decrypt p key nonce H (body_of p (data_bytes ms))))) no_mac)

    pub opened : verified (params_of v) key nonce (initial ++ header_bytes hs) (data_bytes ms) ≡ true
        → Completes (run v before) (message_calls Decrypt key nonce size initial hs ms out)
        (decrypt (params_of v) key nonce (initial ++ header_bytes hs) (body_of (params_of v) (data_bytes ms)))
        (tag (params_of v) key nonce (initial ++ header_bytes hs) (decrypt (params_of v) key nonce (initial ++ header_bytes hs) (body_of (params_of v) (data_bytes ms))))
        (steps (params_of v) (length (initial ++ header_bytes hs)) (length (data_bytes ms) - (params_of v).key) % 2 ^ 64)
    opened good =
        let p = params_of v in
        let o = opening_starts in
        let a = ready-end Decrypt o rooms in
        record {
          accepted = (
            (0, o),
            accepts_append _ (hs ++ ms) (Call.Final out ∷ []) a.accepted
                ((open_checked.0, open_outcome_lem true good), tt),
          );
          bytes-are =
              (opened-accepted v before key nonce size initial (hs ++ ms) out 0 open_checked.0 o (between Decrypt)
              (open_outcome_lem true good)).bytes-are
              ∙ ap₂ (λ (x y : List ℕ). decrypt p key nonce x (body_of p y)) a.header_is a.body_is;
          tag_is = ap mac_of (whole_run Decrypt o rooms) ∙ open_mac true good;
          steps-are = ap steps_now (whole_run Decrypt o rooms) ∙ end-steps Decrypt o rooms open_checked.0 open_checked.1;
        }

    -- A packet that is not verified is refused with 6 at the end, and nothing else is refused.
    pub rejected : verified (params_of v) key nonce (initial ++ header_bytes hs) (data_bytes ms) ≡ false
        → Rejects (run v before) (Call.Init Decrypt key nonce size initial ∷ (hs ++ ms)) out
        (steps (params_of v) (length (initial ++ header_bytes hs)) (length (data_bytes ms) - (params_of v).key) % 2 ^ 64)
    unfolding run_from
    rejected bad =
        let o = opening_starts in
        let a = ready-end Decrypt o rooms in
        let w = end_invariant Decrypt o rooms in
        let t = active_opening (end_active Decrypt o rooms).active in
        record {
          accepted = ((0, o), a.accepted);
          outcome-is = open_outcome_lem false bad;
          zeros-are = (
            open_checked.0,
            (open_end_lem v _ _ w out open_checked.0 open_checked.1 t).bad_bytes
                (open_verdict false bad),
          );
          no-tag = open_mac false bad;
          steps-are = end-steps Decrypt o rooms open_checked.0 open_checked.1;
        }

pub opened_sealed : (v : SparkleVariant) (before after : List Call) (key nonce : List ℕ) (size : ℕ)
    (initial initial' : List ℕ) (hs hs' ms ms' : List Call) (out out' : List ℕ)
    → length key ≡ (params_of v).key → length nonce ≡ (params_of v).rate → size ≡ (params_of v).key
    → Each HeaderCall hs → Each DataCall ms → Each HeaderCall hs' → Each DataCall ms'
    → repeated (reader v before) key nonce ≡ false
    → Rooms (run v before) (message_calls Encrypt key nonce size initial hs ms out)
    → Rooms (run v after) (message_calls Decrypt key nonce size initial' hs' ms' out')
    → initial' ++ header_bytes hs' ≡ initial ++ header_bytes hs
    → data_bytes ms' ≡ outputs (run v before) (message_calls Encrypt key nonce size initial hs ms out)
    → RoundTrip v before after (message_calls Encrypt key nonce size initial hs ms out)
    (message_calls Decrypt key nonce size initial' hs' ms' out') (data_bytes ms)
opened_sealed v before after key nonce size initial initial' hs hs' ms ms' out out' kf nf sf bh bm bh' bm' fresh rooms rooms' he de =
    let p = params_of v in
    let H = initial ++ header_bytes hs in
    let m = data_bytes ms in
    let s = sealed v before key nonce size initial hs ms out kf nf sf bh bm fresh rooms in
    let packet : data_bytes ms' ≡ seal p key nonce H m = de ∙ s.bytes-are in
    let tagged : p.key ≤ length (data_bytes ms') = omega (arith, ap length packet, length-seal p (sizes v) key nonce H kf m) in
    let good : verified p key nonce (initial' ++ header_bytes hs') (data_bytes ms') ≡ true =
    ap₂ (λ (x y : List ℕ). verified p key nonce x y) he packet ∙ verified-seal p (sizes v) key nonce H kf m in
    let q = opened v after key nonce size initial' hs' ms' out' kf nf sf bh' bm' rooms' tagged good in
    record {
      sealing-accepted = s.accepted;
      opening-accepted = q.accepted;
      returned =
          q.bytes-are ∙ ap₂ (λ (x y : List ℕ). decrypt p key nonce x (body_of p y)) he packet
          ∙ ap (decrypt p key nonce H) (body-seal p (sizes v) key nonce H kf m) ∙ decrypt-encrypt p (sizes v) key nonce H m;
    }
