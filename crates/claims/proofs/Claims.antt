-- What is claimed of the engine: every statement in full, each with the sentence of docs/00-demands.md, of docs/01-scope.md
-- or of docs/02-change-requests.md that it renders. The words stand in specs/; the proofs stand in the other files here and
-- are cited.
--
-- `step e c` is what a call's contract says of the call, and `run v calls` the engine after a list of calls from a new engine
-- of variant v, refused calls included (specs/Sheet.antt of `crates/tc_sparkle_aead`); `reader v calls` is what the plain
-- reader of document 01, "Two lists, two sheets", keeps of the same list (specs/Reader.antt).
use mathlib.Core.Path.{◌≡◌}
use mathlib.Core.Logic.{◌↔◌}
use mathlib.Core.Bool.{true, false, cond}
use mathlib.Core.List.{List, [], ◌∷◌, ◌++◌, map}
use Prim.Native.Nat.{ℕ, ◌+◌, ◌-◌, ◌%◌, ◌^◌, ◌≤◌}
use lib.ListN.{length, take, drop}
use Rattle.std.specs.Prelude.{Ok}
use Rattle.schwaemm.specs.Schwaemm.{seal, decrypt, tag, body as body_of, verified, steps}
use Rattle.tc_aead_cipher.specs.declared.variant.SparkleVariant.{SparkleVariant}
use Rattle.tc_aead_cipher.specs.declared.variant.SparkleVariant.TheVariants.{Schwaemm128_128}
use Rattle.tc_aead_cipher.specs.declared.phase.Direction.{Direction}
use Rattle.tc_aead_cipher.specs.declared.phase.Direction.TheVariants.{Encrypt, Decrypt}
use Rattle.tc_aead_cipher.specs.declared.phase.Phase.TheVariants.{Final}
use Rattle.tc_sparkle_aead.specs.declared.engine.SparkleEngine.{SparkleEngine}
use Rattle.tc_aead_cipher.specs.Variant.{params_of}
use Rattle.tc_aead_cipher.specs.Checks.{opening, keep, end_check}
use Rattle.tc_sparkle_aead.specs.Message.{no_mac, readable}
use Rattle.tc_sparkle_aead.specs.Engine.{new_engine}
use Rattle.tc_sparkle_aead.specs.Calls.{mac_of, steps_now}
use Rattle.tc_aead_cipher.specs.Call.{Call}
use Rattle.claims.specs.Shape.{Alike}
use Rattle.tc_sparkle_aead.specs.Sheet.{step, Line, sheet, run_from, run}
use Rattle.tc_aead_cipher.specs.Outcome.Outcome.{ok, no}
use Rattle.tc_aead_cipher.specs.Reply.{reply_of, outcome_of}
use Rattle.tc_sparkle_aead.specs.OpenWhole.{verify, open_whole}
use Rattle.claims.specs.Reader.{new_reader, reader_held, repeated, read, reader, verdicts, loaded_key, loaded_nonce}
use Rattle.claims.specs.Reader.Verdict.{Yes, No, None}
use Rattle.claims.specs.Steps.{counts, steps_before, steps_after_init}
use Rattle.claims.specs.Messages.{Each, outputs, header_bytes, data_bytes, HeaderCall, DataCall, message_calls, Rooms}
use Rattle.claims.specs.Messages.{Ample, Completes, Rejects, RoundTrip, AllBetween, accepted_header, accepted_data}
use Rattle.claims.specs.Messages.{started_engine, OpenedUnrefused, Asked, answer_of, released, Writes, finished_bytes}
use Rattle.claims.specs.Messages.{message_of, OpenEndExact, EndsWith, Before, Keeps, handed, UnderWay, shown_tags}
use Rattle.claims.specs.Refused.{Refused, OfStart, Unchanging, Numbered, Returned, Wiped, Unchanged, Failed, lent}
use Rattle.claims.specs.Machine.{Machine, engine, after, Demand2, Demand3}
use Rattle.claims.specs.Rejected.{not_initialized, fixed, untouched, skipping, inventing, finalizing}
use Rattle.claims.specs.WholeOpening.{NotOpened, Opened}
use Rattle.tc_sparkle_aead.specs.Worked.{worked, row}
use Rattle.tc_sparkle_aead.proofs.WorkedSheet.{worked-sheet}
use Rattle.claims.proofs.Demand1.{returned, refusal-numbers, refusals, start_wipes, start_number_leaves, six_leaves}
use Rattle.claims.proofs.Demand1.{unchanging_number_leaves}
use Rattle.claims.proofs.EngineDemand3.{run_six_leaves, demand_3, demand_3_call_by_call, engine_demand_3}
use Rattle.claims.proofs.UnrefusedMessages.{sealed_unrefused, opened_unrefused, returned_unrefused}
use Rattle.claims.proofs.AcceptedMessages.{sealed, rooms_ample, opened_sealed, opened, rejected}
use Rattle.claims.proofs.Answers.{answers}
use Rattle.claims.proofs.Demand2.{open_end_exact, mac_bytes, steps_before_end, end_tag_and_steps, end-accepted}
use Rattle.claims.proofs.Demand2.{steps-reset, steps-new, steps_refused_start, final_keeps_all, message-bytes}
use Rattle.claims.proofs.Demand2.{end-bytes, phase-is, held_at_most, held_at_most_64}
use Rattle.claims.proofs.ListOutputs.{so_far, finished}
use Rattle.claims.proofs.Shown.{sheet-shown, start_drops, reset_drops}
use Rattle.claims.proofs.EngineCounts.{sheet-counted}
use Rattle.claims.proofs.EngineDemand2.{engine_demand_2}
use Rattle.claims.proofs.Rejected.{not_initialized_fails_2, not_initialized_fails_3, fixed_fails_2, fixed_fails_3}
use Rattle.claims.proofs.Rejected.{untouched_fails_2, untouched_engine_fails_2, skipping_fails_2}
use Rattle.claims.proofs.Rejected.{skipping_engine_fails_2, inventing_fails_2, constant_steps_fail_2}
use Rattle.claims.proofs.Rejected.{finalizing_fails_2, finalized_outside_fails_2}
use Rattle.claims.proofs.WorkedVerdicts.{worked-verdicts}
use Rattle.claims.proofs.WholeOpening.{refused_exactly, opened_exactly, reply_tells, refused-leaves, opened-holds}
use Rattle.claims.proofs.WholeOpening.{as_by_calls, sealed_opens, refused-alike}

-- ---- Demand 1
--
-- For every engine value, every call, every content and every length; 1.3 after every list of calls, and of any engine value
-- whose buffer has its 64 bytes. That a call returns at all is its contract: every call of the engine has one, total and
-- without `requires`.

-- 1.1 "A call that comes with arbitrary contents and lengths, in any phase, returns: with its work done or with one of
-- eleven refusals."
pub work_done_or_refused : (e : SparkleEngine) (c : Call) → Returned (step e c).outcome
work_done_or_refused = returned

pub refusals_are_numbered : (e : SparkleEngine) (c : Call) (r : List ℕ) → (step e c).outcome ≡ no r → Numbered r
refusals_are_numbered = refusal-numbers

-- 1.1, which of the eleven: a number comes back exactly where its line of document 01's tables says.
pub every_refusal_by_its_line : (e : SparkleEngine) (c : Call) (r : List ℕ) → ((step e c).outcome ≡ no r) ↔ Refused e c r
every_refusal_by_its_line = refusals

-- 1.2 "A refused start leaves no message, but the last loaded key and nonce."
pub refused_start_leaves_the_pair : (e : SparkleEngine) (d : Direction) (key nonce header r : List ℕ) (size : ℕ)
    → (step e (Call.Init d key nonce size header)).outcome ≡ no r → Wiped e (Call.Init d key nonce size header)
refused_start_leaves_the_pair = start_wipes

-- 1.2, by the number: 1, 2, 3 and 11 come of a start and leave the same.
pub start_numbers_leave_the_pair : (e : SparkleEngine) (c : Call) (n : ℕ) (values : List ℕ) → OfStart n
    → (step e c).outcome ≡ no (n ∷ values) → Wiped e c
start_numbers_leave_the_pair = start_number_leaves

-- 1.3 "A failed tag ends the message and zeroes what that last call would have written." After every list of calls.
pub failed_tag_ends_and_zeroes : (v : SparkleVariant) (calls : List Call) (c : Call) (values : List ℕ)
    → (step (run v calls) c).outcome ≡ no (6 ∷ values) → (out : List ℕ) × (c ≡ Call.Final out) × Failed (run v calls) out
failed_tag_ends_and_zeroes = run_six_leaves

-- 1.3, for any engine value; the buffer in it is an array of 64 bytes.
pub failed_tag_of_any_engine : (e : SparkleEngine) (c : Call) (values : List ℕ) → length e.current.buffer ≡ 64
    → (step e c).outcome ≡ no (6 ∷ values) → (out : List ℕ) × (c ≡ Call.Final out) × Failed e out
failed_tag_of_any_engine = six_leaves

-- 1.4 "Each other refusal changes neither engine nor buffer." The others are 4, 5 and 7 to 10.
pub other_refusals_change_nothing : (e : SparkleEngine) (c : Call) (n : ℕ) (values : List ℕ) → Unchanging n
    → (step e c).outcome ≡ no (n ∷ values) → Unchanged e c
other_refusals_change_nothing = unchanging_number_leaves

-- ---- Demand 2
--
-- For every variant, after every list of calls.

-- 2.2 "Proved: however the data is cut, unrefused calls seal to what the Schwaemm specification gives." A start that is
-- not refused, any calls between but a start, a reset and an end that ends the message, and an end that is not refused:
-- the bytes written are the packet of the header and the data that were not refused.
pub sealing_is_the_specifications : (v : SparkleVariant) (before : List Call) (key nonce : List ℕ) (size : ℕ)
    (initial : List ℕ) (between : List Call) (out : List ℕ) (k n : ℕ)
    → (step (run v before) (Call.Init Encrypt key nonce size initial)).outcome ≡ ok k
    → AllBetween (started_engine v before Encrypt key nonce size initial) between
    → (step (run_from (started_engine v before Encrypt key nonce size initial) between) (Call.Final out)).outcome ≡ ok n
    → outputs (run v before) (Call.Init Encrypt key nonce size initial ∷ (between ++ (Call.Final out ∷ [])))
    ≡ seal (params_of v) key nonce (initial ++ accepted_header (started_engine v before Encrypt key nonce size initial) between)
    (accepted_data (started_engine v before Encrypt key nonce size initial) between)
sealing_is_the_specifications = sealed_unrefused

-- 2.2, and nothing is refused where the sizes are right, the pair is not the last loaded, and each query answers a length
-- that its output has at least; then tag and steps are the specification's too.
pub sealing_with_room_is_accepted : (v : SparkleVariant) (before : List Call) (key nonce : List ℕ) (size : ℕ)
    (initial : List ℕ) (hs ms : List Call) (out : List ℕ) → length key ≡ (params_of v).key → length nonce ≡ (params_of v).rate
    → size ≡ (params_of v).key → Each HeaderCall hs → Each DataCall ms
    → repeated (reader v before) key nonce ≡ false
    → Rooms (run v before) (message_calls Encrypt key nonce size initial hs ms out)
    → Completes (run v before) (message_calls Encrypt key nonce size initial hs ms out)
    (seal (params_of v) key nonce (initial ++ header_bytes hs) (data_bytes ms))
    (tag (params_of v) key nonce (initial ++ header_bytes hs) (data_bytes ms))
    (steps (params_of v) (length (initial ++ header_bytes hs)) (length (data_bytes ms)) % 2 ^ 64)
sealing_with_room_is_accepted = sealed

-- Outputs that have the room asked for there and below, whatever was called before: a data call's output that has 64 bytes
-- more than its input, where the sum is below 2^64, and an end's output of 96 bytes.
pub ample_outputs_have_room : (e : SparkleEngine) (calls : List Call) → Each Ample calls → Rooms e calls
ample_outputs_have_room = rooms_ample

-- 2.3 "Proved: opening that returns the message." The bytes that one list seals, handed to an opening under the same key,
-- nonce and header, cut anyhow, come back as the data that was sealed, where sizes, pair and outputs are as for 2.2.
pub opening_returns_the_message : (v : SparkleVariant) (before after : List Call) (key nonce : List ℕ) (size : ℕ)
    (initial initial' : List ℕ) (hs hs' ms ms' : List Call) (out out' : List ℕ) → length key ≡ (params_of v).key
    → length nonce ≡ (params_of v).rate → size ≡ (params_of v).key → Each HeaderCall hs → Each DataCall ms
    → Each HeaderCall hs' → Each DataCall ms' → repeated (reader v before) key nonce ≡ false
    → Rooms (run v before) (message_calls Encrypt key nonce size initial hs ms out)
    → Rooms (run v after) (message_calls Decrypt key nonce size initial' hs' ms' out')
    → initial' ++ header_bytes hs' ≡ initial ++ header_bytes hs
    → data_bytes ms' ≡ outputs (run v before) (message_calls Encrypt key nonce size initial hs ms out)
    → RoundTrip v before after (message_calls Encrypt key nonce size initial hs ms out)
    (message_calls Decrypt key nonce size initial' hs' ms' out') (data_bytes ms)
opening_returns_the_message = opened_sealed

-- 2.3, of unrefused calls in the sense of 2.2: where neither the sealing's start and end nor the opening's are refused, the
-- sealed bytes come back as the data that was sealed.
pub unrefused_opening_returns_the_message : (v : SparkleVariant) (before after : List Call) (key nonce : List ℕ)
    (size size' : ℕ) (initial initial' : List ℕ) (between between' : List Call) (out out' : List ℕ) (k k' n n' : ℕ)
    → (step (run v before) (Call.Init Encrypt key nonce size initial)).outcome ≡ ok k
    → AllBetween (started_engine v before Encrypt key nonce size initial) between
    → (step (run_from (started_engine v before Encrypt key nonce size initial) between) (Call.Final out)).outcome ≡ ok n
    → (step (run v after) (Call.Init Decrypt key nonce size' initial')).outcome ≡ ok k'
    → AllBetween (started_engine v after Decrypt key nonce size' initial') between'
    → (step (run_from (started_engine v after Decrypt key nonce size' initial') between') (Call.Final out')).outcome ≡ ok n'
    → initial' ++ accepted_header (started_engine v after Decrypt key nonce size' initial') between'
    ≡ initial ++ accepted_header (started_engine v before Encrypt key nonce size initial) between
    → accepted_data (started_engine v after Decrypt key nonce size' initial') between'
    ≡ outputs (run v before) (Call.Init Encrypt key nonce size initial ∷ (between ++ (Call.Final out ∷ [])))
    → outputs (run v after) (Call.Init Decrypt key nonce size' initial' ∷ (between' ++ (Call.Final out' ∷ [])))
    ≡ accepted_data (started_engine v before Encrypt key nonce size initial) between
unrefused_opening_returns_the_message = returned_unrefused

-- 2.3, of any packet: an opening whose end is not refused had a verified packet, and wrote what its body decrypts to.
pub opening_is_the_specifications : (v : SparkleVariant) (before : List Call) (key nonce : List ℕ) (size : ℕ)
    (initial : List ℕ) (between : List Call) (out : List ℕ) (k n : ℕ)
    → (step (run v before) (Call.Init Decrypt key nonce size initial)).outcome ≡ ok k
    → AllBetween (started_engine v before Decrypt key nonce size initial) between
    → (step (run_from (started_engine v before Decrypt key nonce size initial) between) (Call.Final out)).outcome ≡ ok n
    → OpenedUnrefused v key nonce (initial ++ accepted_header (started_engine v before Decrypt key nonce size initial) between)
    (accepted_data (started_engine v before Decrypt key nonce size initial) between)
    (outputs (run v before) (Call.Init Decrypt key nonce size initial ∷ (between ++ (Call.Final out ∷ []))))
opening_is_the_specifications = opened_unrefused

-- 2.3, and a verified packet is accepted where the sizes are right and each query answers a length that its output has at
-- least.
pub opening_with_room_is_accepted : (v : SparkleVariant) (before : List Call) (key nonce : List ℕ) (size : ℕ)
    (initial : List ℕ) (hs ms : List Call) (out : List ℕ) → length key ≡ (params_of v).key → length nonce ≡ (params_of v).rate
    → size ≡ (params_of v).key → Each HeaderCall hs → Each DataCall ms
    → Rooms (run v before) (message_calls Decrypt key nonce size initial hs ms out)
    → (params_of v).key ≤ length (data_bytes ms)
    → verified (params_of v) key nonce (initial ++ header_bytes hs) (data_bytes ms) ≡ true
    → Completes (run v before) (message_calls Decrypt key nonce size initial hs ms out)
    (decrypt (params_of v) key nonce (initial ++ header_bytes hs) (body_of (params_of v) (data_bytes ms)))
    (tag (params_of v) key nonce (initial ++ header_bytes hs)
    (decrypt (params_of v) key nonce (initial ++ header_bytes hs) (body_of (params_of v) (data_bytes ms))))
    (steps (params_of v) (length (initial ++ header_bytes hs)) (length (data_bytes ms) - (params_of v).key) % 2 ^ 64)
opening_with_room_is_accepted = opened

-- 2.4 "Proved: a tag passes exactly when it is the specification's." After every list of calls, at an opening's end past
-- its checks; `verified` says that the data's last bytes are the specification's tag for what the bytes before decrypt to.
pub passes_exactly_when : (v : SparkleVariant) (calls : List Call) (out : List ℕ) (n : ℕ)
    → opening (reader v calls).phase ≡ true
    → end_check (params_of v) (reader v calls).phase (reader_held (params_of v) (reader v calls)) (length out) ≡ Ok n
    → OpenEndExact v (reader v calls) n (step (run v calls) (Call.Final out)).outcome
passes_exactly_when = open_end_exact

-- 2.4, of a whole message with such sizes and outputs: where the packet has a tag's bytes or more and is not verified, the
-- end alone is refused, with 6.
pub wrong_tag_is_rejected : (v : SparkleVariant) (before : List Call) (key nonce : List ℕ) (size : ℕ) (initial : List ℕ)
    (hs ms : List Call) (out : List ℕ) → length key ≡ (params_of v).key → length nonce ≡ (params_of v).rate
    → size ≡ (params_of v).key → Each HeaderCall hs → Each DataCall ms
    → Rooms (run v before) (message_calls Decrypt key nonce size initial hs ms out)
    → (params_of v).key ≤ length (data_bytes ms)
    → verified (params_of v) key nonce (initial ++ header_bytes hs) (data_bytes ms) ≡ false
    → Rejects (run v before) (Call.Init Decrypt key nonce size initial ∷ (hs ++ ms)) out
    (steps (params_of v) (length (initial ++ header_bytes hs)) (length (data_bytes ms) - (params_of v).key) % 2 ^ 64)
wrong_tag_is_rejected = rejected

-- 2.4, the tag that is shown: whenever one can be read, it is the specification's of the message.
pub readable_tag_is_the_specifications : (v : SparkleVariant) (calls : List Call) → (mac_of (run v calls)).readable ≡ true
    → mac_of (run v calls)
    ≡ readable (tag (params_of v) (loaded_key (reader v calls)) (loaded_nonce (reader v calls)) (reader v calls).header
    (message_of (params_of v) (reader v calls)))
readable_tag_is_the_specifications = mac_bytes

-- 2.4, when one is shown, as document 01 says of mac, "after a successful end, until the next init or reset": on every line
-- of every sheet a tag can be read exactly where `shown_tags` says so, which goes by the calls alone.
pub tag_readable_on_every_line : (v : SparkleVariant) (calls : List Call)
    → map (λ (l : Line). l.readable) (sheet v calls) ≡ shown_tags v new_reader false calls
tag_readable_on_every_line = sheet-shown

-- A start, refused or not, and a reset drop it, whatever the engine.
pub start_drops_the_tag : (e : SparkleEngine) (d : Direction) (key nonce : List ℕ) (size : ℕ) (header : List ℕ)
    → mac_of (step e (Call.Init d key nonce size header)).engine ≡ no_mac
start_drops_the_tag = start_drops

pub reset_drops_the_tag : (e : SparkleEngine) → mac_of (step e Call.Reset).engine ≡ no_mac
reset_drops_the_tag = reset_drops

-- 2.5 "Proved: the step count is the specification's." On every line of every sheet it is that of document 01's formula,
-- which `counts` works out from the calls alone.
pub steps_of_every_line : (v : SparkleVariant) (calls : List Call)
    → map (λ (l : Line). l.steps) (sheet v calls) ≡ counts v new_reader 0 calls
steps_of_every_line = sheet-counted

-- 2.5, by the phase. Before the end: big for the start, and for header and data what has run.
pub steps_are_the_formula : (v : SparkleVariant) (calls : List Call) → Before (reader v calls).phase
    → steps_now (run v calls)
    ≡ steps_before (params_of v) (reader v calls).phase (reader v calls).header (reader v calls).body % 2 ^ 64
steps_are_the_formula = steps_before_end

-- 2.5, after an end past its checks: the steps of the whole message; and the tag, which after a failed one is none.
pub steps_and_tag_after_an_end : (v : SparkleVariant) (calls : List Call) (out : List ℕ) (n : ℕ)
    → end_check (params_of v) (reader v calls).phase (reader_held (params_of v) (reader v calls)) (length out) ≡ Ok n
    → EndsWith v (reader v calls)
    (cond (opening (reader v calls).phase)
    (verified (params_of v) (loaded_key (reader v calls)) (loaded_nonce (reader v calls)) (reader v calls).header
    (reader v calls).body) true)
    (step (run v calls) (Call.Final out)).engine
steps_and_tag_after_an_end = end_tag_and_steps

-- 2.5, after an end that is not refused.
pub steps_and_tag_after_an_accepted_end : (v : SparkleVariant) (calls : List Call) (out : List ℕ) (n : ℕ)
    → (step (run v calls) (Call.Final out)).outcome ≡ ok n
    → EndsWith v (reader v calls) true (step (run v calls) (Call.Final out)).engine
steps_and_tag_after_an_accepted_end = end-accepted

-- 2.5, after a reset, of a new engine, and after a refused start.
pub steps_after_a_reset : (v : SparkleVariant) (calls : List Call)
    → steps_now (step (run v calls) Call.Reset).engine
    ≡ steps_after_init (params_of v) (reader v calls).phase (reader v calls).initial % 2 ^ 64
steps_after_a_reset = steps-reset

pub steps_of_a_new_engine : (v : SparkleVariant) → steps_now (new_engine v) ≡ 0
steps_of_a_new_engine = steps-new

pub steps_after_a_refused_start : (e : SparkleEngine) (d : Direction) (key nonce : List ℕ) (size : ℕ)
    (header values : List ℕ) → (step e (Call.Init d key nonce size header)).outcome ≡ no values
    → steps_now (step e (Call.Init d key nonce size header)).engine ≡ 0
steps_after_a_refused_start = steps_refused_start

-- 2.5 and 2.4, until the next start or reset: in Final other calls change nothing.
pub final_stays : (e : SparkleEngine) (d : Direction) → e.current.phase ≡ Final d → (calls : List Call)
    → Each Keeps calls → run_from e calls ≡ e
final_stays = final_keeps_all

-- 2.2 and 2.3, of every list of calls, with refused calls, queries and resets anywhere: while a message is under way, the
-- bytes handed out since its start, or since the reset that restarted it, are the specification's for the header and the
-- data taken so far.
pub bytes_so_far_are_the_specifications : (v : SparkleVariant) (calls : List Call) → UnderWay (reader v calls).phase
    → handed (new_engine v) [] calls ≡ released (params_of v) (reader v calls)
bytes_so_far_are_the_specifications = so_far

-- An end that is not refused completes them: sealing, to the packet; opening, to what the packet decrypts to.
pub end_completes_the_bytes : (v : SparkleVariant) (calls : List Call) (out : List ℕ) (n : ℕ)
    → (step (run v calls) (Call.Final out)).outcome ≡ ok n
    → handed (new_engine v) [] (calls ++ (Call.Final out ∷ [])) ≡ finished_bytes (params_of v) (reader v calls)
end_completes_the_bytes = finished

-- 2.2 and 2.3, call by call: an accepted data call writes the specification's next bytes, and an accepted end the rest.
pub data_call_writes_the_next_bytes : (v : SparkleVariant) (calls : List Call) (input out : List ℕ) (n : ℕ)
    → (step (run v calls) (Call.Data input out)).outcome ≡ ok n
    → Writes (released (params_of v) (reader v calls))
    (released (params_of v) (read v (reader v calls) (Call.Data input out)).reader) out
    (step (run v calls) (Call.Data input out)).buffer n
data_call_writes_the_next_bytes = message-bytes

pub end_writes_the_rest : (v : SparkleVariant) (calls : List Call) (out : List ℕ) (n : ℕ)
    → (step (run v calls) (Call.Final out)).outcome ≡ ok n
    → Writes (released (params_of v) (reader v calls)) (finished_bytes (params_of v) (reader v calls)) out
    (step (run v calls) (Call.Final out)).buffer n
end_writes_the_rest = end-bytes

-- Document 01, "A number comes back where its line holds": the answers of every call but mac, after every list of calls, are
-- those of its tables over what the reader keeps; the reader's phase is the engine's.
pub answers_are_the_tables : (v : SparkleVariant) (calls : List Call) (c : Call) → Asked c
    → (step (run v calls) c).outcome ≡ answer_of v (reader v calls) c
answers_are_the_tables = answers

pub phase_is_the_readers : (v : SparkleVariant) (calls : List Call)
    → (run v calls).current.phase ≡ (reader v calls).phase
phase_is_the_readers = phase-is

-- Document 01, "So at most 64 bytes are held": no more than a block, on an opening a block and a tag.
pub held_at_most_a_block : (v : SparkleVariant) (calls : List Call)
    → (run v calls).current.held ≤ keep (params_of v) (reader v calls).phase + (params_of v).rate
held_at_most_a_block = held_at_most

pub held_at_most_64_bytes : (v : SparkleVariant) (calls : List Call) → (run v calls).current.held ≤ 64
held_at_most_64_bytes = held_at_most_64

-- ---- Demand 3
--
-- 3.1 "Each call gets the engine as the last one left it, and nobody else writes it." So `lines` and `run` are defined.
-- 3.2 "A verdict is, at a sealing start past its size checks, whether key and nonce equal those last loaded; at an
-- opening's end past its checks, whether the received tag is the specification's." So `read` is defined.
-- 3.3 "A sheet has each call's refusal or count, its numbers, its steps, and whether a tag can be read." So `Line` is.

-- "Take any two lists of an engine's calls (start, header, data, end, reset, tag, both length queries), refused ones
-- included, alike in calls, directions, numbers and buffer lengths, whatever the contents, each run from a new engine, both
-- of one variant. Their answer sheets are equal exactly when their verdicts are, call by call."
pub sheets_equal_exactly_when_verdicts : (v : SparkleVariant) (xs ys : List Call) → Alike xs ys
    → (sheet v xs ≡ sheet v ys) ↔ (verdicts v xs ≡ verdicts v ys)
sheets_equal_exactly_when_verdicts = demand_3

-- "call by call": the same of the first k calls, for every k.
pub first_lines_equal_exactly_when_verdicts : (v : SparkleVariant) (k : ℕ) (xs ys : List Call) → Alike xs ys
    → (take k (sheet v xs) ≡ take k (sheet v ys)) ↔ (take k (verdicts v xs) ≡ take k (verdicts v ys))
first_lines_equal_exactly_when_verdicts = demand_3_call_by_call

-- Document 01's list of calls for the program `sheet` has the sheet that is printed there, and these verdicts.
pub sheet_worked_by_hand : sheet Schwaemm128_128 worked
    ≡ row (ok 0) 10 false
    ∷ (row (ok 0) 17 false
    ∷ (row (ok 32) 41 false
    ∷ (row (no (9 ∷ [])) 41 false
    ∷ (row (no (4 ∷ (17 ∷ (16 ∷ [])))) 41 false
    ∷ (row (ok 17) 51 true ∷ (row (no (10 ∷ [])) 51 true ∷ (row (no (11 ∷ [])) 0 false ∷ [])))))))
sheet_worked_by_hand = worked-sheet

pub verdicts_worked_by_hand : verdicts Schwaemm128_128 worked
    ≡ No ∷ (None ∷ (None ∷ (None ∷ (None ∷ (None ∷ (None ∷ (Yes ∷ [])))))))
verdicts_worked_by_hand = worked-verdicts

-- ---- Engines that the demands reject
--
-- Demands 2 and 3 as predicates over anything that takes the calls (specs/Machine.antt). The engine meets both; each of
-- the six that document 01's "Agreement" names (specs/Rejected.antt) fails one.

pub the_engine_meets_demand_2 : Demand2 engine
the_engine_meets_demand_2 = engine_demand_2

pub the_engine_meets_demand_3 : Demand3 engine
the_engine_meets_demand_3 = engine_demand_3

-- One reporting NotInitialized to everything.
pub not_initialized_fails_demand_2 : Demand2 not_initialized → ⊥
not_initialized_fails_demand_2 = not_initialized_fails_2

pub not_initialized_fails_demand_3 : Demand3 not_initialized → ⊥
not_initialized_fails_demand_3 = not_initialized_fails_3

-- One with a fixed sheet.
pub fixed_sheet_fails_demand_2 : (f : ℕ → Line) (write : ℕ → Call → List ℕ) → Demand2 (fixed f write) → ⊥
fixed_sheet_fails_demand_2 = fixed_fails_2

pub fixed_sheet_fails_demand_3 : (f : ℕ → Line) (write : ℕ → Call → List ℕ) → Demand3 (fixed f write) → ⊥
fixed_sheet_fails_demand_3 = fixed_fails_3

-- One returning ok over untouched output: every machine of that kind, and the engine made so.
pub leaving_output_untouched_fails_demand_2 : (m : Machine)
    → ((s : m.State) (c : Call) → (m.step s c).buffer ≡ lent c) → Demand2 m → ⊥
leaving_output_untouched_fails_demand_2 = untouched_fails_2

pub untouched_output_fails_demand_2 : Demand2 untouched → ⊥
untouched_output_fails_demand_2 = untouched_engine_fails_2

-- One sealing the first data call and skipping later ones: every machine of that kind, and the engine made so.
pub skipping_later_data_fails_demand_2 : (m : Machine)
    → ((s : m.State) (input out input' out' : List ℕ) (n : ℕ)
    → (m.step s (Call.Data input out)).line.outcome ≡ ok n
    → (m.step (m.step s (Call.Data input out)).state (Call.Data input' out')).state
    ≡ (m.step s (Call.Data input out)).state)
    → Demand2 m → ⊥
skipping_later_data_fails_demand_2 = skipping_fails_2

pub skipped_data_fails_demand_2 : Demand2 skipping → ⊥
skipped_data_fails_demand_2 = skipping_engine_fails_2

-- One inventing steps: the engine with more steps than it ran, and every machine with one count on each line.
pub invented_steps_fail_demand_2 : (k : ℕ) → Demand2 (inventing k) → ⊥
invented_steps_fail_demand_2 = inventing_fails_2

pub one_count_on_each_line_fails_demand_2 : (m : Machine) (n : ℕ)
    → ((s : m.State) (c : Call) → (m.step s c).line.steps ≡ n) → Demand2 m → ⊥
one_count_on_each_line_fails_demand_2 = constant_steps_fail_2

-- One saying AlreadyFinalized outside Final: the engine made so, and every machine that does so once.
pub finalized_at_data_fails_demand_2 : Demand2 finalizing → ⊥
finalized_at_data_fails_demand_2 = finalizing_fails_2

pub finalized_outside_final_fails_demand_2 : (m : Machine) (v : SparkleVariant) (before : List Call) (c : Call)
    (values : List ℕ) → (c ≡ Call.Mac → ⊥) → ((d : Direction) → (reader v before).phase ≡ Final d → ⊥)
    → (m.step (after m (m.new v) before) c).line.outcome ≡ no (10 ∷ values) → Demand2 m → ⊥
finalized_outside_final_fails_demand_2 = finalized_outside_fails_2

-- ---- Document 02, 2026-03: open whole or not
--
-- For every variant, every content and every length. `verify` is the answer to a packet for which there is `room`, and
-- `open_whole` the opening's reply and output (specs/OpenWhole.antt of `crates/tc_sparkle_aead`). No engine goes in, so it is
-- as on a new one.

-- "The checks run 1, 2, 5, 4, 6, where 5 counts the packet and 4 needs its length less the tag's." A number comes back
-- exactly where its line of `NotOpened` holds.
pub packet_refused_by_its_line : (v : SparkleVariant) (key nonce header packet : List ℕ) (room : ℕ) (r : List ℕ)
    → (verify v key nonce header packet room ≡ no r) ↔ NotOpened v key nonce header packet room r
packet_refused_by_its_line = refused_exactly

-- The same of success: exactly where every check passes, with the packet's length less the tag's for its count.
pub packet_opened_exactly_when : (v : SparkleVariant) (key nonce header packet : List ℕ) (room n : ℕ)
    → (verify v key nonce header packet room ≡ ok n) ↔ Opened v key nonce header packet room n
packet_opened_exactly_when = opened_exactly

-- The opening's reply has this answer, for the room that its output has.
pub reply_is_the_answer : (v : SparkleVariant) (key nonce header packet out : List ℕ)
    → outcome_of (open_whole v key nonce header packet out).reply ≡ verify v key nonce header packet (length out)
reply_is_the_answer = reply_tells

-- "A refusal leaves the output buffer unchanged; unlike in demand 1, 6 zeroes nothing here."
pub refusal_leaves_the_output : (v : SparkleVariant) (key nonce header packet out r : List ℕ)
    → verify v key nonce header packet (length out) ≡ no r
    → open_whole v key nonce header packet out ≡ record { reply = reply_of (no r); out = out }
refusal_leaves_the_output = refused-leaves

-- "On success it holds what document 01's opening would write, and bytes past the count are untouched." The message, as
-- long as the count, and behind it what was lent.
pub success_holds_the_message : (v : SparkleVariant) (key nonce header packet out : List ℕ) (n : ℕ)
    → verify v key nonce header packet (length out) ≡ ok n
    → (open_whole v key nonce header packet out
    ≡ record {
      reply = reply_of (ok n);
      out = decrypt (params_of v) key nonce header (body_of (params_of v) packet) ++ drop n out;
    })
    × (length (decrypt (params_of v) key nonce header (body_of (params_of v) packet)) ≡ n)
success_holds_the_message = opened-holds

-- "What document 01's opening would write": a start for opening, one data call and the end, with outputs that have room, on
-- a new engine or after any calls, are accepted and write the bytes up to the count.
pub success_is_what_the_calls_write : (v : SparkleVariant) (key nonce header packet out : List ℕ) (n : ℕ)
    → verify v key nonce header packet (length out) ≡ ok n → (before : List Call) (data_out endOut : List ℕ)
    → Rooms (run v before)
    (message_calls Decrypt key nonce (params_of v).key header [] (Call.Data packet data_out ∷ []) endOut)
    → Completes (run v before)
    (message_calls Decrypt key nonce (params_of v).key header [] (Call.Data packet data_out ∷ []) endOut)
    (take n (open_whole v key nonce header packet out).out)
    (tag (params_of v) key nonce header (decrypt (params_of v) key nonce header (body_of (params_of v) packet)))
    (steps (params_of v) (length header) n % 2 ^ 64)
success_is_what_the_calls_write = as_by_calls

-- Demand 2, "opening that returns the message": a sealed packet is accepted where the sizes are right and the output has
-- room, and the message comes back.
pub sealed_packet_returns_the_message : (v : SparkleVariant) (key nonce header m out : List ℕ)
    → length key ≡ (params_of v).key → length nonce ≡ (params_of v).rate → length m ≤ length out
    → open_whole v key nonce header (seal (params_of v) key nonce header m) out
    ≡ record { reply = reply_of (ok (length m)); out = m ++ drop (length m) out }
sealed_packet_returns_the_message = sealed_opens

-- "The agronomists' display must not hold a reading whose tag has failed, not even early blocks." Of two refused packets
-- with equal lengths of key, nonce and packet, reply and output are equal, whatever their contents and headers.
pub nothing_of_a_refused_packet_shows : (v : SparkleVariant)
    (key nonce header packet key' nonce' header' packet' : List ℕ) → length key ≡ length key'
    → length nonce ≡ length nonce' → length packet ≡ length packet' → (out r r' : List ℕ)
    → verify v key nonce header packet (length out) ≡ no r → verify v key' nonce' header' packet' (length out) ≡ no r'
    → open_whole v key nonce header packet out ≡ open_whole v key' nonce' header' packet' out
nothing_of_a_refused_packet_shows = refused-alike
