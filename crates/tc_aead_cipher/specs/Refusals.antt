-- The numbers and values of the refusals: document 01's eleven, and those that document 02 adds.
use Rattle.std.specs.Prelude.{ℕ, List, [], ◌∷◌}
use Rattle.tc_aead_cipher.specs.declared.aead_error.AeadError.{AeadError}
use Rattle.tc_aead_cipher.specs.declared.aead_error.AeadError.TheVariants.{NotInitialized, AadAfterData, AlreadyFinalized, OutputTooShort, CiphertextTooShort, AuthenticationFailed, InputTooLong}
use Rattle.tc_aead_cipher.specs.declared.aead_init_error.AeadInitError.{AeadInitError}
use Rattle.tc_aead_cipher.specs.declared.aead_init_error.AeadInitError.TheVariants.{InvalidKeyLength, InvalidNonceLength, InvalidMacSize, NonceReuse}
use Rattle.tc_aead_cipher.specs.declared.refusal.Refusal.{Refusal}
use Rattle.tc_aead_cipher.specs.declared.refusal.Refusal.TheVariants.{Start, Call, Line}

-- A refusal as a sheet has it: its number, then its values.
abbrev pub refusal : AeadError → List ℕ
refusal (OutputTooShort required available) = 4 ∷ (required ∷ (available ∷ []))
refusal (CiphertextTooShort minimum actual) = 5 ∷ (minimum ∷ (actual ∷ []))
refusal AuthenticationFailed = 6 ∷ []
refusal InputTooLong = 7 ∷ []
refusal NotInitialized = 8 ∷ []
refusal AadAfterData = 9 ∷ []
refusal AlreadyFinalized = 10 ∷ []

abbrev pub init_refusal : AeadInitError → List ℕ
init_refusal (InvalidKeyLength actual) = 1 ∷ (actual ∷ [])
init_refusal (InvalidNonceLength actual) = 2 ∷ (actual ∷ [])
init_refusal (InvalidMacSize actual) = 3 ∷ (actual ∷ [])
init_refusal NonceReuse = 11 ∷ []

-- Document 02, 2026-01: a call list that is too long (line 0), or the first of its lines that is wrong.
abbrev pub line_refusal : (line : ℕ) → List ℕ
line_refusal line = 12 ∷ (line ∷ [])

-- The same of a refusal of any kind.
abbrev pub numbers_of : Refusal → List ℕ
numbers_of (Start x) = init_refusal x
numbers_of (Call x) = refusal x
numbers_of (Line line) = line_refusal line
