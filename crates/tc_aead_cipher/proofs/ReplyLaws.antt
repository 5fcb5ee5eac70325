-- The reply to an answer has the answer's outcome, and a number of at most 11.
use mathlib.Core.Path.{◌≡◌, refl}
use Prim.Native.Nat.{ℕ, ◌≤◌}
use native.Mathlib.Omega.{arith}
use Rattle.std.specs.Prelude.{Result, Ok, Err}
use Rattle.tc_aead_cipher.specs.declared.aead_error.AeadError.TheVariants.{NotInitialized, AadAfterData, AlreadyFinalized, OutputTooShort, CiphertextTooShort, AuthenticationFailed, InputTooLong}
use Rattle.tc_aead_cipher.specs.declared.aead_error.AeadError.{AeadError}
use Rattle.tc_aead_cipher.specs.declared.aead_init_error.AeadInitError.{AeadInitError}
use Rattle.tc_aead_cipher.specs.declared.aead_init_error.AeadInitError.TheVariants.{InvalidKeyLength, InvalidNonceLength, InvalidMacSize, NonceReuse}
use Rattle.tc_aead_cipher.specs.declared.refusal.Refusal.{Refusal}
use Rattle.tc_aead_cipher.specs.declared.refusal.Refusal.TheVariants.{Start, Call, Line}
use Rattle.tc_aead_cipher.specs.Outcome.{outcome, start_outcome, answered}
use Rattle.tc_aead_cipher.specs.Outcome.Outcome.{no}
use Rattle.tc_aead_cipher.specs.Reply.{reply_of, outcome_of}

pub reply-outcome : (r : Result ℕ AeadError) → outcome_of (reply_of (outcome r)) ≡ outcome r
reply-outcome (Ok n) = refl
reply-outcome (Err (OutputTooShort a b)) = refl
reply-outcome (Err (CiphertextTooShort a b)) = refl
reply-outcome (Err AuthenticationFailed) = refl
reply-outcome (Err InputTooLong) = refl
reply-outcome (Err NotInitialized) = refl
reply-outcome (Err AadAfterData) = refl
reply-outcome (Err AlreadyFinalized) = refl

pub reply-start : (r : Result (Unit {0}) AeadInitError) → outcome_of (reply_of (start_outcome r)) ≡ start_outcome r
reply-start (Ok _) = refl
reply-start (Err (InvalidKeyLength a)) = refl
reply-start (Err (InvalidNonceLength a)) = refl
reply-start (Err (InvalidMacSize a)) = refl
reply-start (Err NonceReuse) = refl

-- The same of an answer of any kind, and the numbers of a refusal of any kind.
pub reply-answered : (r : Result ℕ Refusal) → outcome_of (reply_of (answered r)) ≡ answered r
reply-answered (Ok n) = refl
reply-answered (Err (Start x)) = reply-start (Err x)
reply-answered (Err (Call x)) = reply-outcome (Err x)
reply-answered (Err (Line line)) = refl

-- No answer has a number above 11, and no start's: 12 and what follows are not the engine's.
pub answer-number : (r : Result ℕ AeadError) → (reply_of (outcome r)).number ≤ 11
answer-number (Ok n) = omega arith
answer-number (Err (OutputTooShort a b)) = omega arith
answer-number (Err (CiphertextTooShort a b)) = omega arith
answer-number (Err AuthenticationFailed) = omega arith
answer-number (Err InputTooLong) = omega arith
answer-number (Err NotInitialized) = omega arith
answer-number (Err AadAfterData) = omega arith
answer-number (Err AlreadyFinalized) = omega arith

pub start-number : (r : Result (Unit {0}) AeadInitError) → (reply_of (start_outcome r)).number ≤ 11
start-number (Ok _) = omega arith
start-number (Err (InvalidKeyLength a)) = omega arith
start-number (Err (InvalidNonceLength a)) = omega arith
start-number (Err (InvalidMacSize a)) = omega arith
start-number (Err NonceReuse) = omega arith
