-- What a sheet has of an answer.
use Rattle.std.specs.Prelude.{ℕ, List, Result, Ok, Err}
use Rattle.tc_aead_cipher.specs.declared.aead_error.AeadError.{AeadError}
use Rattle.tc_aead_cipher.specs.declared.aead_init_error.AeadInitError.{AeadInitError}
use Rattle.tc_aead_cipher.specs.declared.refusal.Refusal.{Refusal}
use Rattle.tc_aead_cipher.specs.Refusals.{refusal, init_refusal, numbers_of}

-- A count, or document 01's number of a refusal and its values.
pub data Outcome : Type 0 where
  ok : ℕ → Outcome
  no : List ℕ → Outcome

abbrev pub outcome : Result ℕ AeadError → Outcome
outcome (Ok n) = ok n
outcome (Err e) = no (refusal e)

abbrev pub start_outcome : Result (Unit {0}) AeadInitError → Outcome
start_outcome (Ok _) = ok 0
start_outcome (Err e) = no (init_refusal e)

-- The outcome of a call of any kind.
abbrev pub answered : Result ℕ Refusal → Outcome
answered (Ok n) = ok n
answered (Err x) = no (numbers_of x)
