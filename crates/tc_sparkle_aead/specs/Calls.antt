-- The calls: for every engine value, the answer, the engine afterwards and the lent output (document 01, "At the entry:
-- phase and call" and "Down to the block"). A call that is refused with 4, 5 or 7 to 10 leaves engine and output as they were.
use Rattle.std.specs.Prelude.{ℕ, ◌+◌, ◌%◌, ◌^◌, Bool, true, false, cond, List, [], ◌∷◌, length, Result, Ok, Err}
use Rattle.tc_aead_cipher.specs.declared.phase.Direction.{Direction}
use Rattle.tc_aead_cipher.specs.declared.phase.Direction.TheVariants.{Encrypt, Decrypt}
use Rattle.tc_aead_cipher.specs.declared.phase.Phase.{Phase}
use Rattle.tc_aead_cipher.specs.declared.phase.Phase.TheVariants.{Uninitialized, Init, Aad, Data, Final}
use Rattle.tc_aead_cipher.specs.declared.aead_error.AeadError.TheVariants.{AuthenticationFailed}
use Rattle.tc_aead_cipher.specs.declared.aead_error.AeadError.{AeadError}
use Rattle.tc_aead_cipher.specs.declared.aead_init_error.AeadInitError.{AeadInitError}
use Rattle.tc_sparkle_aead.specs.declared.message.Point.{Point}
use Rattle.tc_sparkle_aead.specs.declared.message.Mac.{Mac}
use Rattle.tc_sparkle_aead.specs.declared.engine.Steps.{Steps}
use Rattle.tc_sparkle_aead.specs.declared.engine.SparkleEngine.{SparkleEngine}
use Rattle.tc_sparkle_aead.specs.declared.engine.Done.{Done}
use Rattle.tc_aead_cipher.specs.Variant.{params_of}
use Rattle.tc_aead_cipher.specs.Checks.{opening, aad_check, data_check, end_check, start_check}
use Rattle.tc_sparkle_aead.specs.Message.{no_message, no_mac, start_point, absorb_header, header_steps, without_header, after_header, data_from, stream_out, written, final_point, seal_end, seal_out, tag_matches, open_end_by, open_out, reset_point}
use Rattle.tc_sparkle_aead.specs.Engine.{repeats, remember, current_key, refused_steps, init_steps, reset_steps}

-- ---- The engine at a point of its message

-- Steps are added modulo 2^64.
unfoldable pub add_steps : ℕ → Steps → Steps
add_steps n s = record { current = (s.current + n) % 2 ^ 64; initial = s.initial }

-- The engine at another point, after n more steps.
unfoldable pub at_point : SparkleEngine → Point → ℕ → SparkleEngine
at_point e at n =
    record {
      variant = e.variant;
      current = at;
      initial = e.initial;
      pair = e.pair;
      mac = e.mac;
      steps = add_steps n e.steps;
    }

-- ---- init

-- A refused start ends the message and loads no pair.
unfoldable pub refused : SparkleEngine → SparkleEngine
refused e =
    record {
      variant = e.variant;
      current = no_message;
      initial = no_message;
      pair = e.pair;
      mac = no_mac;
      steps = refused_steps e.steps;
    }

-- A start that is taken loads its pair and absorbs its header.
unfoldable pub started : SparkleEngine → Direction → List ℕ → List ℕ → List ℕ → SparkleEngine
started e d key nonce header =
    let p = params_of e.variant in
    record {
      variant = e.variant;
      current = absorb_header p d (start_point p d key nonce) header;
      initial = absorb_header p d (start_point p d key nonce) header;
      pair = remember e.pair key nonce;
      mac = no_mac;
      steps = init_steps e.steps ((p.big + header_steps p (start_point p d key nonce) header) % 2 ^ 64);
    }

abbrev pub init_by : Result (Unit {0}) AeadInitError → SparkleEngine → Direction → List ℕ → List ℕ → List ℕ → Done (Result (Unit {0}) AeadInitError)
init_by (Ok _) e d key nonce header = record { answer = Ok tt; engine = started e d key nonce header }
init_by (Err x) e d key nonce header = record { answer = Err x; engine = refused e }

unfoldable pub init : SparkleEngine → Direction → List ℕ → List ℕ → ℕ → List ℕ → Done (Result (Unit {0}) AeadInitError)
init e d key nonce size header =
    let p = params_of e.variant in
    init_by (start_check e.variant d (length key) (length nonce) size (repeats p e.pair key nonce)) e d key nonce header

-- ---- process_aad_bytes

-- The engine after a header call that is taken: Init goes to Aad. Empty input changes nothing.
abbrev pub aad_in : Phase → SparkleEngine → List ℕ → SparkleEngine
aad_in Uninitialized e input = e
aad_in (Init d) e input =
    let p = params_of e.variant in
    at_point e (absorb_header p d e.current input) (header_steps p e.current input)
aad_in (Aad d) e input =
    let p = params_of e.variant in
    at_point e (absorb_header p d e.current input) (header_steps p e.current input)
aad_in (Data d) e input = e
aad_in (Final d) e input = e

abbrev pub aad_by : Result ℕ AeadError → SparkleEngine → List ℕ → Done (Result ℕ AeadError)
aad_by (Err x) e input = record { answer = Err x; engine = e }
aad_by (Ok n) e [] = record { answer = Ok 0; engine = e }
aad_by (Ok n) e (x ∷ input) = record { answer = Ok 0; engine = aad_in e.current.phase e (x ∷ input) }

unfoldable pub process_aad_bytes : SparkleEngine → List ℕ → Done (Result ℕ AeadError)
process_aad_bytes e input = aad_by (aad_check e.current.phase (length input)) e input

-- ---- process_bytes

-- The engine when the data begins.
abbrev pub begin_by : Phase → SparkleEngine → SparkleEngine
begin_by Uninitialized e = e
begin_by (Init d) e = at_point e (without_header d e.current) 0
begin_by (Aad d) e = at_point e (after_header (params_of e.variant) d e.current) (params_of e.variant).big
begin_by (Data d) e = e
begin_by (Final d) e = e

unfoldable pub begin_data : SparkleEngine → SparkleEngine
begin_data e = begin_by e.current.phase e

-- Data in phase Data: the engine afterwards, and what is written.
unfoldable pub data_in : SparkleEngine → List ℕ → SparkleEngine
data_in e input =
    let r = data_from (params_of e.variant) e.current input in at_point e r.point r.steps

unfoldable pub data_out : SparkleEngine → List ℕ → List ℕ
data_out e input = stream_out (params_of e.variant) e.current input

abbrev pub data_by : Result ℕ AeadError → SparkleEngine → List ℕ → Done (Result ℕ AeadError)
data_by (Err x) e input = record { answer = Err x; engine = e }
data_by (Ok n) e input = record { answer = Ok n; engine = data_in (begin_data e) input }

abbrev pub data_out_by : Result ℕ AeadError → SparkleEngine → List ℕ → List ℕ → List ℕ
data_out_by (Err x) e input out = out
data_out_by (Ok n) e input out = written (data_out (begin_data e) input) out

abbrev pub data_answer : SparkleEngine → ℕ → ℕ → Result ℕ AeadError
data_answer e n available = data_check (params_of e.variant) e.current.phase e.current.held n available

unfoldable pub process_bytes : SparkleEngine → List ℕ → List ℕ → Done (Result ℕ AeadError)
process_bytes e input out = data_by (data_answer e (length input) (length out)) e input

unfoldable pub process_bytes_out : SparkleEngine → List ℕ → List ℕ → List ℕ
process_bytes_out e input out = data_out_by (data_answer e (length input) (length out)) e input out

-- ---- do_final

-- The message has ended, after n more steps.
unfoldable pub final_engine : SparkleEngine → Direction → Mac → ℕ → SparkleEngine
final_engine e d mac n =
    record {
      variant = e.variant;
      current = final_point d;
      initial = e.initial;
      pair = e.pair;
      mac = mac;
      steps = add_steps n e.steps;
    }

unfoldable pub finish : SparkleEngine → Result ℕ AeadError → Direction → Mac → ℕ → Done (Result ℕ AeadError)
finish e answer d mac n = record { answer = answer; engine = final_engine e d mac n }

-- An end without a tag that can be read is refused.
abbrev pub answered : Result ℕ AeadError → Mac → Result ℕ AeadError
answered answer mac = cond mac.readable answer (Err AuthenticationFailed)

-- The end of a sealing, and of an opening by whether the received tag is the specification's; of the engine in Data.
unfoldable pub seal_final : SparkleEngine → ℕ → Done (Result ℕ AeadError)
seal_final e n =
    let p = params_of e.variant in
    let r = seal_end p (current_key p e.pair) e.current in
    record { answer = Ok n; engine = final_engine e Encrypt r.mac r.steps }

abbrev pub open_final_by : Bool → SparkleEngine → ℕ → Done (Result ℕ AeadError)
open_final_by true e n =
    let p = params_of e.variant in
    let r = open_end_by true p (current_key p e.pair) e.current in
    record { answer = Ok n; engine = final_engine e Decrypt r.mac r.steps }
open_final_by false e n =
    let p = params_of e.variant in
    let r = open_end_by false p (current_key p e.pair) e.current in
    record { answer = Err AuthenticationFailed; engine = final_engine e Decrypt r.mac r.steps }

unfoldable pub open_final : SparkleEngine → ℕ → Done (Result ℕ AeadError)
open_final e n =
    let p = params_of e.variant in
    open_final_by (tag_matches p (current_key p e.pair) e.current) e n

abbrev pub final_by : Result ℕ AeadError → SparkleEngine → Done (Result ℕ AeadError)
final_by (Err x) e = record { answer = Err x; engine = e }
final_by (Ok n) e = cond (opening e.current.phase) (open_final (begin_data e) n) (seal_final (begin_data e) n)

-- What an end writes.
abbrev pub final_bytes : Bool → SparkleEngine → List ℕ
final_bytes opens e =
    let p = params_of e.variant in
    let key = current_key p e.pair in
    cond opens (open_out p key e.current) (seal_out p key e.current)

abbrev pub final_out_by : Result ℕ AeadError → SparkleEngine → List ℕ → List ℕ
final_out_by (Err x) e out = out
final_out_by (Ok n) e out = written (final_bytes (opening e.current.phase) (begin_data e)) out

abbrev pub final_answer : SparkleEngine → ℕ → Result ℕ AeadError
final_answer e available = end_check (params_of e.variant) e.current.phase e.current.held available

unfoldable pub do_final : SparkleEngine → List ℕ → Done (Result ℕ AeadError)
do_final e out = final_by (final_answer e (length out)) e

unfoldable pub do_final_out : SparkleEngine → List ℕ → List ℕ
do_final_out e out = final_out_by (final_answer e (length out)) e out

-- ---- reset and mac

-- A reset drops the readable tag.
unfoldable pub reset : SparkleEngine → SparkleEngine
reset e =
    record {
      variant = e.variant;
      current = reset_point e.current.phase e.initial;
      initial = e.initial;
      pair = e.pair;
      mac = no_mac;
      steps = reset_steps e.steps;
    }

-- The tag, where it can be read, else zeros.
unfoldable pub mac_of : SparkleEngine → Mac
mac_of e = cond e.mac.readable e.mac no_mac

-- The steps of the current message.
unfoldable pub steps_now : SparkleEngine → ℕ
steps_now e = e.steps.current
