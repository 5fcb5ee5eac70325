-- The plain reader of document 01, "Two lists, two sheets": it is fed the variant and the calls' arguments, no answers and
-- nothing of the engine, and notes a verdict at each call. It shares the tables of checks with the engine.
use Rattle.std.specs.Prelude.{ℕ, ◌-◌, ◌*◌, Bool, true, false, ◌&&◌, ◌||◌, List, [], ◌∷◌, ◌++◌, length, take, Result, Ok, Err}
use Rattle.schwaemm.specs.Bytes.{same}
use Rattle.schwaemm.specs.Blocks.{ready}
use Rattle.schwaemm.specs.Schwaemm.{Params, verified}
use Rattle.tc_aead_cipher.specs.declared.variant.SparkleVariant.{SparkleVariant}
use Rattle.tc_aead_cipher.specs.declared.phase.Direction.{Direction}
use Rattle.tc_aead_cipher.specs.declared.phase.Direction.TheVariants.{Encrypt, Decrypt}
use Rattle.tc_aead_cipher.specs.declared.phase.Phase.{Phase}
use Rattle.tc_aead_cipher.specs.declared.phase.Phase.TheVariants.{Uninitialized, Init, Aad, Data, Final}
use Rattle.tc_aead_cipher.specs.declared.aead_error.AeadError.{AeadError}
use Rattle.tc_aead_cipher.specs.declared.aead_init_error.AeadInitError.{AeadInitError}
use Rattle.tc_aead_cipher.specs.declared.aead_init_error.AeadInitError.TheVariants.{InvalidKeyLength, InvalidNonceLength}
use Rattle.tc_aead_cipher.specs.declared.aead_init_error.AeadInitError.TheVariants.{InvalidMacSize, NonceReuse}
use Rattle.tc_aead_cipher.specs.Variant.{params_of}
use Rattle.tc_aead_cipher.specs.Checks.{keep, aad_check, data_check, end_check, start_check}
use Rattle.tc_aead_cipher.specs.Call.{Call}

-- What is noted at a call: yes, no or none.
pub data Verdict : Type 0 where
  Yes No None : Verdict

abbrev pub verdict_of : Bool → Verdict
verdict_of true = Yes
verdict_of false = No

-- A load: the key and the nonce of a start that was not refused.
pub record Load : Type 0 where
  pub key : List ℕ
  pub nonce : List ℕ

-- What the reader keeps: the phase, "the last loaded pair (none at first)" and, in full, the initial header, the header and
-- the data. What is loaded is a list of loads, the last one first.
pub record Reader : Type 0 where
  pub phase : Phase
  pub loads : List Load
  pub initial : List ℕ
  pub header : List ℕ
  pub body : List ℕ

abbrev pub new_reader : Reader
new_reader = record { phase = Uninitialized; loads = []; initial = []; header = []; body = [] }

-- How many loads are kept: document 01's last loaded pair; and what is kept after one more.
abbrev pub loads_kept : ℕ
loads_kept = 1

abbrev pub after_load : List Load → (key nonce : List ℕ) → List Load
after_load loads key nonce = take loads_kept (record { key = key; nonce = nonce } ∷ loads)

-- Key and nonce of the last load; empty where there is none.
abbrev pub last_key : List Load → List ℕ
last_key [] = []
last_key (l ∷ loads) = l.key

abbrev pub last_nonce : List Load → List ℕ
last_nonce [] = []
last_nonce (l ∷ loads) = l.nonce

-- Whether a pair equals one of the loads.
abbrev pub is_among : List Load → (key nonce : List ℕ) → Bool
is_among [] key nonce = false
is_among (l ∷ loads) key nonce = same l.key key && same l.nonce nonce || is_among loads key nonce

-- Of a reader: whether a pair equals the last loaded, and the loaded pair.
abbrev pub repeated : Reader → (key nonce : List ℕ) → Bool
repeated r key nonce = is_among r.loads key nonce

abbrev pub loaded_key : Reader → List ℕ
loaded_key r = last_key r.loads

abbrev pub loaded_nonce : Reader → List ℕ
loaded_nonce r = last_nonce r.loads

-- The verdict at a call and the reader afterwards.
pub record ReadResult : Type 0 where
  pub verdict : Verdict
  pub reader : Reader

abbrev pub nothing : Reader → ReadResult
nothing r = record { verdict = None; reader = r }

-- The same reader in another phase, with another header and other data.
abbrev pub in_phase : Reader → Phase → List ℕ → List ℕ → Reader
in_phase r phase header body =
    record { phase = phase; loads = r.loads; initial = r.initial; header = header; body = body }

-- Of what is kept, only the last loaded pair.
abbrev pub forgotten : Reader → Reader
forgotten r = record { phase = Uninitialized; loads = r.loads; initial = []; header = []; body = [] }

-- The phase of a message with a header, before its data.
abbrev pub header_phase : Direction → List ℕ → Phase
header_phase d [] = Init d
header_phase d (x ∷ header) = Aad d

-- Document 01's d - r. The checks count it in Data alone (held_data).
abbrev pub reader_held : Params → Reader → ℕ
reader_held p r =
    length r.body - ready p.rate (keep p r.phase) (length r.body) * p.rate

-- An init past its size checks, if sealing, notes whether its pair equals the last loaded.
abbrev pub start_verdict : Direction → Bool → Verdict
start_verdict Encrypt repeats = verdict_of repeats
start_verdict Decrypt repeats = None

-- A refused size notes nothing.
abbrev pub refused_verdict : AeadInitError → Direction → Bool → Verdict
refused_verdict (InvalidKeyLength n) d repeats = None
refused_verdict (InvalidNonceLength n) d repeats = None
refused_verdict (InvalidMacSize n) d repeats = None
refused_verdict NonceReuse d repeats = start_verdict d repeats

abbrev pub read_start : Result (Unit {0}) AeadInitError → Reader → Direction → List ℕ → List ℕ → List ℕ → ReadResult
read_start (Err x) r d key nonce h =
    record { verdict = refused_verdict x d (repeated r key nonce); reader = forgotten r }
read_start (Ok _) r d key nonce h =
    record {
      verdict = start_verdict d (repeated r key nonce);
      reader =
          record {
            phase = header_phase d h;
            loads = after_load r.loads key nonce;
            initial = h;
            header = h;
            body = [];
          };
    }

-- The phase after an accepted header call, and after an accepted data call.
abbrev pub aad_phase : Phase → List ℕ → Phase
aad_phase phase [] = phase
aad_phase Uninitialized (x ∷ input) = Uninitialized
aad_phase (Init d) (x ∷ input) = Aad d
aad_phase (Aad d) (x ∷ input) = Aad d
aad_phase (Data d) (x ∷ input) = Data d
aad_phase (Final d) (x ∷ input) = Final d

abbrev pub data_phase : Phase → Phase
data_phase Uninitialized = Uninitialized
data_phase (Init d) = Data d
data_phase (Aad d) = Data d
data_phase (Data d) = Data d
data_phase (Final d) = Final d

-- An accepted header call appends its input to the header, an accepted data call to the data.
abbrev pub read_header : Result ℕ AeadError → Reader → List ℕ → ReadResult
read_header (Err x) r input = nothing r
read_header (Ok n) r input = nothing (in_phase r (aad_phase r.phase input) (r.header ++ input) r.body)

abbrev pub read_message : Result ℕ AeadError → Reader → List ℕ → ReadResult
read_message (Err x) r input = nothing r
read_message (Ok n) r input = nothing (in_phase r (data_phase r.phase) r.header (r.body ++ input))

-- An opening's end past its checks notes whether the data's last tag bytes are the specification's tag, under the loaded
-- pair and the header, for the message that the bytes before them decrypt to. An end that is taken leads to Final.
abbrev pub end_by : Direction → Params → Reader → ReadResult
end_by Encrypt p r = nothing (in_phase r (Final Encrypt) r.header r.body)
end_by Decrypt p r =
    record {
      verdict = verdict_of (verified p (loaded_key r) (loaded_nonce r) r.header r.body);
      reader = in_phase r (Final Decrypt) r.header r.body;
    }

abbrev pub end_in : Phase → Params → Reader → ReadResult
end_in Uninitialized p r = nothing r
end_in (Init d) p r = end_by d p r
end_in (Aad d) p r = end_by d p r
end_in (Data d) p r = end_by d p r
end_in (Final d) p r = nothing r

abbrev pub read_end : Result ℕ AeadError → Params → Reader → ReadResult
read_end (Err x) p r = nothing r
read_end (Ok n) p r = end_in r.phase p r

-- A reset to the point after init puts back the initial header and empties the data; sealing in Data or Final ends in
-- Final.
abbrev pub restarted : Direction → Reader → Reader
restarted d r = in_phase r (header_phase d r.initial) r.initial []

abbrev pub reset_in : Phase → Reader → Reader
reset_in Uninitialized r = r
reset_in (Init d) r = restarted d r
reset_in (Aad d) r = restarted d r
reset_in (Data Encrypt) r = in_phase r (Final Encrypt) r.header r.body
reset_in (Data Decrypt) r = restarted Decrypt r
reset_in (Final Encrypt) r = r
reset_in (Final Decrypt) r = restarted Decrypt r

-- A call.
unfoldable pub read : SparkleVariant → Reader → Call → ReadResult
read v r (Call.Init d key nonce size h) =
    read_start (start_check v d (length key) (length nonce) size (repeated r key nonce)) r d key nonce h
read v r (Call.Aad input) = read_header (aad_check r.phase (length input)) r input
read v r (Call.Data input out) =
    let p = params_of v in
    read_message (data_check p r.phase (reader_held p r) (length input) (length out)) r input
read v r (Call.Final out) =
    let p = params_of v in read_end (end_check p r.phase (reader_held p r) (length out)) p r
read v r Call.Reset = nothing (reset_in r.phase r)
read v r Call.Mac = nothing r
read v r (Call.Update n) = nothing r
read v r (Call.Output n) = nothing r

-- The verdicts of a list of calls, and the reader after it.
unfoldable pub notes : SparkleVariant → Reader → List Call → List Verdict
notes v r [] = []
notes v r (c ∷ calls) = (read v r c).verdict ∷ notes v (read v r c).reader calls

unfoldable pub verdicts : SparkleVariant → List Call → List Verdict
verdicts v calls = notes v new_reader calls

unfoldable pub read_from : SparkleVariant → Reader → List Call → Reader
read_from v r [] = r
read_from v r (c ∷ calls) = read_from v (read v r c).reader calls

unfoldable pub reader : SparkleVariant → List Call → Reader
reader v calls = read_from v new_reader calls
