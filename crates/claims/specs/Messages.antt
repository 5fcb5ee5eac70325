-- What the claims of demand 2 say about lists of calls. The words of demand 1 are those of Refused.antt.
use Rattle.std.specs.Prelude.{◌≡◌, ◌↔◌, Bool, true, false, cond, List, [], ◌∷◌, ◌++◌, ℕ, ◌+◌, ◌%◌, ◌^◌, ◌≤◌, ◌<◌, length, take, drop, Result, Ok, Err}
use Rattle.schwaemm.specs.Blocks.{ready, given}
use Rattle.schwaemm.specs.Schwaemm.{Params, crypt, prepared, message_block, seal, decrypt, tag, body as body_of, verified, steps}
use Rattle.tc_aead_cipher.specs.declared.variant.SparkleVariant.{SparkleVariant}
use Rattle.tc_aead_cipher.specs.declared.phase.Direction.{Direction}
use Rattle.tc_aead_cipher.specs.declared.phase.Phase.{Phase}
use Rattle.tc_aead_cipher.specs.declared.phase.Phase.TheVariants.{Uninitialized, Init, Aad, Data, Final}
use Rattle.tc_aead_cipher.specs.declared.aead_error.AeadError.{AeadError}
use Rattle.tc_sparkle_aead.specs.declared.engine.SparkleEngine.{SparkleEngine}
use Rattle.tc_aead_cipher.specs.Variant.{params_of}
use Rattle.tc_aead_cipher.specs.Checks.{opening, keep, update_len, total_len, aad_check, data_check, end_check, start_check}
use Rattle.tc_sparkle_aead.specs.Message.{zeros, no_mac, plain_of, readable}
use Rattle.tc_sparkle_aead.specs.Calls.{mac_of, steps_now}
use Rattle.tc_aead_cipher.specs.Call.{Call}
use Rattle.tc_aead_cipher.specs.Outcome.{Outcome, outcome, start_outcome}
use Rattle.tc_sparkle_aead.specs.Sheet.{StepResult, step, run_from, run}
use Rattle.claims.specs.Reader.{Reader, loaded_key, loaded_nonce, reader_held, repeated, read}

-- ---- Lists of calls

-- Every call of a list.
abbrev pub Each : (Call → Type 0) → List Call → Type 0
Each P [] = Unit {0}
Each P (c ∷ calls) = P c × Each P calls

-- What a call wrote: its buffer up to the count that it answers.
abbrev pub count_of : Outcome → ℕ
count_of (Outcome.ok n) = n
count_of (Outcome.no values) = 0

unfoldable pub wrote : StepResult → List ℕ
wrote l = take (count_of l.outcome) l.buffer

-- What the calls of a list wrote, one after the other.
unfoldable pub outputs : SparkleEngine → List Call → List ℕ
outputs e [] = []
outputs e (c ∷ calls) = wrote (step e c) ++ outputs (step e c).engine calls

-- What a header call and a data call bring.
abbrev pub header_in : Call → List ℕ
header_in (Call.Init d key nonce size h) = []
header_in (Call.Aad input) = input
header_in (Call.Data input out) = []
header_in (Call.Final out) = []
header_in Call.Reset = []
header_in Call.Mac = []
header_in (Call.Update n) = []
header_in (Call.Output n) = []

abbrev pub data_of : Call → List ℕ
data_of (Call.Init d key nonce size h) = []
data_of (Call.Aad input) = []
data_of (Call.Data input out) = input
data_of (Call.Final out) = []
data_of Call.Reset = []
data_of Call.Mac = []
data_of (Call.Update n) = []
data_of (Call.Output n) = []

-- What the header calls and the data calls of a list bring.
abbrev pub header_bytes : List Call → List ℕ
header_bytes [] = []
header_bytes (c ∷ calls) = header_in c ++ header_bytes calls

abbrev pub data_bytes : List Call → List ℕ
data_bytes [] = []
data_bytes (c ∷ calls) = data_of c ++ data_bytes calls

-- Header calls and data calls, with queries and mac between them.
abbrev pub HeaderCall : Call → Type 0
HeaderCall (Call.Init d key nonce size h) = ⊥
HeaderCall (Call.Aad input) = Unit {0}
HeaderCall (Call.Data input out) = ⊥
HeaderCall (Call.Final out) = ⊥
HeaderCall Call.Reset = ⊥
HeaderCall Call.Mac = Unit {0}
HeaderCall (Call.Update n) = Unit {0}
HeaderCall (Call.Output n) = Unit {0}

abbrev pub DataCall : Call → Type 0
DataCall (Call.Init d key nonce size h) = ⊥
DataCall (Call.Aad input) = ⊥
DataCall (Call.Data input out) = Unit {0}
DataCall (Call.Final out) = ⊥
DataCall Call.Reset = ⊥
DataCall Call.Mac = Unit {0}
DataCall (Call.Update n) = Unit {0}
DataCall (Call.Output n) = Unit {0}

-- A message from start to end: header calls, then data calls, with queries and mac anywhere between.
abbrev pub message_calls : Direction → (key nonce : List ℕ) → ℕ → (initial : List ℕ) → List Call → List Call
    → (out : List ℕ) → List Call
message_calls d key nonce size initial hs ms out = Call.Init d key nonce size initial ∷ ((hs ++ ms) ++ (Call.Final out ∷ []))

-- ---- Room and acceptance

-- The query answers a length, and the output has at least that length.
abbrev pub RoomFor : SparkleEngine → Call → Type 0
RoomFor e (Call.Init d key nonce size h) = Unit {0}
RoomFor e (Call.Aad input) = Unit {0}
RoomFor e (Call.Data input out) =
    (n : ℕ) × ((step e (Call.Update (length input))).outcome ≡ Outcome.ok n) × (n ≤ length out)
RoomFor e (Call.Final out) = (n : ℕ) × ((step e (Call.Output 0)).outcome ≡ Outcome.ok n) × (n ≤ length out)
RoomFor e Call.Reset = Unit {0}
RoomFor e Call.Mac = Unit {0}
RoomFor e (Call.Update n) = Unit {0}
RoomFor e (Call.Output n) = Unit {0}

abbrev pub Rooms : SparkleEngine → List Call → Type 0
Rooms e [] = Unit {0}
Rooms e (c ∷ calls) = RoomFor e c × Rooms (step e c).engine calls

-- Outputs that have room whatever the engine holds: at most 64 bytes are held, and a tag has at most 32. The second part
-- follows from the first for every output that is a slice, since a slice has fewer than 2^64 bytes.
abbrev pub Ample : Call → Type 0
Ample (Call.Init d key nonce size h) = Unit {0}
Ample (Call.Aad input) = Unit {0}
Ample (Call.Data input out) = (length input + 64 ≤ length out) × (length input + 64 < 2 ^ 64)
Ample (Call.Final out) = 96 ≤ length out
Ample Call.Reset = Unit {0}
Ample Call.Mac = Unit {0}
Ample (Call.Update n) = Unit {0}
Ample (Call.Output n) = Unit {0}

-- A call is accepted; of a query nothing is asked.
abbrev pub IsAccepted : Call → Outcome → Type 0
IsAccepted (Call.Init d key nonce size h) o = (n : ℕ) × (o ≡ Outcome.ok n)
IsAccepted (Call.Aad input) o = (n : ℕ) × (o ≡ Outcome.ok n)
IsAccepted (Call.Data input out) o = (n : ℕ) × (o ≡ Outcome.ok n)
IsAccepted (Call.Final out) o = (n : ℕ) × (o ≡ Outcome.ok n)
IsAccepted Call.Reset o = (n : ℕ) × (o ≡ Outcome.ok n)
IsAccepted Call.Mac o = (n : ℕ) × (o ≡ Outcome.ok n)
IsAccepted (Call.Update k) o = Unit {0}
IsAccepted (Call.Output k) o = Unit {0}

abbrev pub Accepts : SparkleEngine → List Call → Type 0
Accepts e [] = Unit {0}
Accepts e (c ∷ calls) = IsAccepted c (step e c).outcome × Accepts (step e c).engine calls

-- ---- Whole messages with room

-- All of it is accepted and writes these bytes; afterwards this tag can be read, and so many steps have run.
pub record Completes (e : SparkleEngine) (calls : List Call) (bytes tag : List ℕ) (count : ℕ) : Type 0 where
  pub accepted : Accepts e calls
  pub bytes-are : outputs e calls ≡ bytes
  pub tag_is : mac_of (run_from e calls) ≡ readable tag
  pub steps-are : steps_now (run_from e calls) ≡ count

-- Up to the end all is accepted; the end answers 6, writes zeros, and leaves no tag to read.
pub record Rejects (e : SparkleEngine) (calls : List Call) (out : List ℕ) (count : ℕ) : Type 0 where
  pub accepted : Accepts e calls
  pub outcome-is : (step (run_from e calls) (Call.Final out)).outcome ≡ Outcome.no (6 ∷ [])
  pub zeros-are : (n : ℕ) × ((step (run_from e calls) (Call.Final out)).buffer ≡ zeros n ++ drop n out)
  pub no-tag : mac_of (step (run_from e calls) (Call.Final out)).engine ≡ no_mac
  pub steps-are : steps_now (step (run_from e calls) (Call.Final out)).engine ≡ count

-- What one list of calls seals, another opens: under the same key, nonce and header, with the sealed bytes for data, both
-- cut anyhow and with room, both are accepted, and the opening writes the data that was sealed.
pub record RoundTrip (v : SparkleVariant) (before after : List Call) (sealing opening : List Call)
    (m : List ℕ) : Type 0 where
  pub sealing-accepted : Accepts (run v before) sealing
  pub opening-accepted : Accepts (run v after) opening
  pub returned : outputs (run v after) opening ≡ m

-- ---- Whole messages, of what was taken

-- An answer of a check: not 6, which ends a message.
abbrev pub RefusedByCheck : Outcome → Type 0
RefusedByCheck o = (values : List ℕ) × (o ≡ Outcome.no values) × (values ≡ 6 ∷ [] → ⊥)

-- Header calls, data calls, queries, mac, and ends that the checks refuse.
abbrev pub Between : SparkleEngine → Call → Type 0
Between e (Call.Init d key nonce size h) = ⊥
Between e (Call.Aad input) = Unit {0}
Between e (Call.Data input out) = Unit {0}
Between e (Call.Final out) = RefusedByCheck (step e (Call.Final out)).outcome
Between e Call.Reset = ⊥
Between e Call.Mac = Unit {0}
Between e (Call.Update n) = Unit {0}
Between e (Call.Output n) = Unit {0}

abbrev pub AllBetween : SparkleEngine → List Call → Type 0
AllBetween e [] = Unit {0}
AllBetween e (c ∷ calls) = Between e c × AllBetween (step e c).engine calls

-- What of a list's header calls and data calls was taken: the inputs of those that were not refused.
abbrev pub if_ok : Outcome → List ℕ → List ℕ
if_ok (Outcome.ok n) l = l
if_ok (Outcome.no values) l = []

unfoldable pub accepted_header : SparkleEngine → List Call → List ℕ
accepted_header e [] = []
accepted_header e (c ∷ calls) = if_ok (step e c).outcome (header_in c) ++ accepted_header (step e c).engine calls

unfoldable pub accepted_data : SparkleEngine → List Call → List ℕ
accepted_data e [] = []
accepted_data e (c ∷ calls) = if_ok (step e c).outcome (data_of c) ++ accepted_data (step e c).engine calls

-- The engine after a start.
abbrev pub started_engine : SparkleVariant → List Call → Direction → (key nonce : List ℕ) → ℕ
    → (initial : List ℕ) → SparkleEngine
started_engine v before d key nonce size initial = (step (run v before) (Call.Init d key nonce size initial)).engine

-- An opening's end is taken only for a verified packet, and then its calls give what the packet's body decrypts to.
pub record OpenedUnrefused (v : SparkleVariant) (key nonce header packet bytes : List ℕ) : Type 0 where
  pub verifies : verified (params_of v) key nonce header packet ≡ true
  pub bytes-are : bytes ≡ decrypt (params_of v) key nonce header (body_of (params_of v) packet)

-- ---- The answers

-- What is asked: every call but mac.
abbrev pub Asked : Call → Type 0
Asked (Call.Init d key nonce size h) = Unit {0}
Asked (Call.Aad input) = Unit {0}
Asked (Call.Data input out) = Unit {0}
Asked (Call.Final out) = Unit {0}
Asked Call.Reset = Unit {0}
Asked Call.Mac = ⊥
Asked (Call.Update n) = Unit {0}
Asked (Call.Output n) = Unit {0}

-- An end: its refusal, or on an opening 6 where the packet is not verified, or its count.
abbrev pub open_outcome : Bool → ℕ → Outcome
open_outcome true n = Outcome.ok n
open_outcome false n = Outcome.no (6 ∷ [])

abbrev pub end_outcome : Result ℕ AeadError → (opens tag_right : Bool) → Outcome
end_outcome (Err x) opens tag_right = outcome (Err x)
end_outcome (Ok n) true tag_right = open_outcome tag_right n
end_outcome (Ok n) false tag_right = Outcome.ok n

-- The outcome that document 01's tables give to a call, over what the reader keeps. Of mac nothing is asked here: its
-- count goes by whether a tag can be read.
unfoldable pub answer_of : SparkleVariant → Reader → Call → Outcome
answer_of v r (Call.Init d key nonce size h) =
    start_outcome (start_check v d (length key) (length nonce) size (repeated r key nonce))
answer_of v r (Call.Aad input) = outcome (aad_check r.phase (length input))
answer_of v r (Call.Data input out) =
    let p = params_of v in outcome (data_check p r.phase (reader_held p r) (length input) (length out))
answer_of v r (Call.Final out) =
    let p = params_of v in
    end_outcome (end_check p r.phase (reader_held p r) (length out)) (opening r.phase)
    (verified p (loaded_key r) (loaded_nonce r) r.header r.body)
answer_of v r Call.Reset = Outcome.ok 0
answer_of v r Call.Mac = Outcome.ok 0
answer_of v r (Call.Update n) = let p = params_of v in outcome (update_len p r.phase (reader_held p r) n)
answer_of v r (Call.Output n) = let p = params_of v in outcome (total_len p r.phase (reader_held p r) n)

-- ---- Call by call: the bytes, the tag and the steps

-- The bytes that the specification gives, before the end, for the data so far.
unfoldable pub released : Params → Reader → List ℕ
released p r =
    given p.rate (message_block p (plain_of p r.phase)) (crypt p)
    (ready p.rate (keep p r.phase) (length r.body))
    (prepared p (loaded_key r) (loaded_nonce r) r.header) r.body

-- A call that takes the bytes so far, `before`, to `after`, by the n bytes that it writes into the buffer that was lent as
-- `out`; the rest of the buffer is as lent.
pub record Writes (before after out buffer : List ℕ) (n : ℕ) : Type 0 where
  pub bytes : after ≡ before ++ take n buffer
  pub rest : drop n buffer ≡ drop n out
  pub length-same : length buffer ≡ length out

-- The bytes that the calls of a list have handed out since the last start or reset, behind those of `before`.
abbrev pub handed_by : Call → (before more : List ℕ) → List ℕ
handed_by (Call.Init d key nonce size h) before more = []
handed_by (Call.Aad input) before more = before ++ more
handed_by (Call.Data input out) before more = before ++ more
handed_by (Call.Final out) before more = before ++ more
handed_by Call.Reset before more = []
handed_by Call.Mac before more = before ++ more
handed_by (Call.Update n) before more = before ++ more
handed_by (Call.Output n) before more = before ++ more

unfoldable pub handed : SparkleEngine → (before : List ℕ) → List Call → List ℕ
handed e before [] = before
handed e before (c ∷ calls) = handed (step e c).engine (handed_by c before (wrote (step e c))) calls

-- A message is under way: it has a start and no end.
abbrev pub UnderWay : Phase → Type 0
UnderWay Uninitialized = ⊥
UnderWay (Init d) = Unit {0}
UnderWay (Aad d) = Unit {0}
UnderWay (Data d) = Unit {0}
UnderWay (Final d) = ⊥

-- The bytes of a whole message: sealing, the packet; opening, what the packet decrypts to.
unfoldable pub finished_bytes : Params → Reader → List ℕ
finished_bytes p r =
    cond (opening r.phase) (decrypt p (loaded_key r) (loaded_nonce r) r.header (body_of p r.body))
    (seal p (loaded_key r) (loaded_nonce r) r.header r.body)

-- The message of the data so far.
unfoldable pub message_of : Params → Reader → List ℕ
message_of p r = cond (opening r.phase) (decrypt p (loaded_key r) (loaded_nonce r) r.header (body_of p r.body)) r.body

-- An opening's end past its checks answers its count exactly when the packet is verified, and 6 exactly when it is not.
pub record OpenEndExact (v : SparkleVariant) (r : Reader) (n : ℕ) (o : Outcome) : Type 0 where
  pub accepted : (o ≡ Outcome.ok n) ↔ (verified (params_of v) (loaded_key r) (loaded_nonce r) r.header r.body ≡ true)
  pub refused : (o ≡ Outcome.no (6 ∷ [])) ↔ (verified (params_of v) (loaded_key r) (loaded_nonce r) r.header r.body ≡ false)

-- Whether a tag can be read after a call, from what the reader kept before it. An end that is taken makes it readable,
-- unless an opening's packet is not verified; a start and a reset drop it; no other call changes it.
abbrev pub shown_by_end : Result ℕ AeadError → (opens tag_right before : Bool) → Bool
shown_by_end (Err x) opens tag_right before = before
shown_by_end (Ok n) true tag_right before = tag_right
shown_by_end (Ok n) false tag_right before = true

unfoldable pub shown_after : SparkleVariant → Reader → Bool → Call → Bool
shown_after v r before (Call.Init d key nonce size h) = false
shown_after v r before (Call.Aad input) = before
shown_after v r before (Call.Data input out) = before
shown_after v r before (Call.Final out) =
    let p = params_of v in
    shown_by_end (end_check p r.phase (reader_held p r) (length out)) (opening r.phase)
    (verified p (loaded_key r) (loaded_nonce r) r.header r.body) before
shown_after v r before Call.Reset = false
shown_after v r before Call.Mac = before
shown_after v r before (Call.Update n) = before
shown_after v r before (Call.Output n) = before

-- The same after each call of a list.
unfoldable pub shown_tags : SparkleVariant → Reader → Bool → List Call → List Bool
shown_tags v r before [] = []
shown_tags v r before (c ∷ calls) =
    let now = shown_after v r before c in now ∷ shown_tags v (read v r c).reader now calls

-- The tag and the steps of an end past its checks: a sealing's data is its message, an opening's what its packet
-- decrypts to.
pub record EndsWith (v : SparkleVariant) (r : Reader) (good : Bool) (e : SparkleEngine) : Type 0 where
  pub mac_is : mac_of e
      ≡ cond good (readable (tag (params_of v) (loaded_key r) (loaded_nonce r) r.header (message_of (params_of v) r))) no_mac
  pub steps-are : steps_now e ≡ steps (params_of v) (length r.header) (length (message_of (params_of v) r)) % 2 ^ 64

-- Not in Final.
abbrev pub Before : Phase → Type 0
Before Uninitialized = Unit {0}
Before (Init d) = Unit {0}
Before (Aad d) = Unit {0}
Before (Data d) = Unit {0}
Before (Final d) = ⊥

-- Neither init nor reset.
abbrev pub Keeps : Call → Type 0
Keeps (Call.Init d key nonce size h) = ⊥
Keeps (Call.Aad input) = Unit {0}
Keeps (Call.Data input out) = Unit {0}
Keeps (Call.Final out) = Unit {0}
Keeps Call.Reset = ⊥
Keeps Call.Mac = Unit {0}
Keeps (Call.Update n) = Unit {0}
Keeps (Call.Output n) = Unit {0}
