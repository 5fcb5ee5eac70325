-- The checks and the length queries: document 01's tables over phase and numbers ("At the entry: phase and call").
-- Engine and reader share this file; nothing here knows the engine.
use Rattle.std.specs.Prelude.{ℕ, ◌+◌, ◌-◌, ◌*◌, ◌^◌, min, Bool, true, false, cond, not, eqb, ltb, Result, Ok, Err}
use Rattle.schwaemm.specs.Blocks.{ready}
use Rattle.schwaemm.specs.Schwaemm.{Params}
use Rattle.tc_aead_cipher.specs.declared.variant.SparkleVariant.{SparkleVariant}
use Rattle.tc_aead_cipher.specs.declared.phase.Direction.{Direction}
use Rattle.tc_aead_cipher.specs.declared.phase.Direction.TheVariants.{Encrypt, Decrypt}
use Rattle.tc_aead_cipher.specs.declared.phase.Phase.{Phase}
use Rattle.tc_aead_cipher.specs.declared.phase.Phase.TheVariants.{Uninitialized, Init, Aad, Data, Final}
use Rattle.tc_aead_cipher.specs.declared.aead_error.AeadError.{AeadError}
use Rattle.tc_aead_cipher.specs.declared.aead_error.AeadError.TheVariants.{NotInitialized, AadAfterData, AlreadyFinalized, OutputTooShort, CiphertextTooShort, InputTooLong}
use Rattle.tc_aead_cipher.specs.declared.aead_init_error.AeadInitError.{AeadInitError}
use Rattle.tc_aead_cipher.specs.declared.aead_init_error.AeadInitError.TheVariants.{InvalidKeyLength, InvalidNonceLength, InvalidMacSize, NonceReuse}
use Rattle.tc_aead_cipher.specs.Variant.{params_of}

-- A phase's direction, and whether a direction, and a phase, opens. `Uninitialized` counts as sealing.
abbrev pub direction_of : Phase → Direction
direction_of Uninitialized = Encrypt
direction_of (Init d) = d
direction_of (Aad d) = d
direction_of (Data d) = d
direction_of (Final d) = d

abbrev pub opens : Direction → Bool
opens Encrypt = false
opens Decrypt = true

abbrev pub opening : Phase → Bool
opening Uninitialized = false
opening (Init d) = opens d
opening (Aad d) = opens d
opening (Data d) = opens d
opening (Final d) = opens d

-- The bytes that stay, besides one more: on an opening the tag's.
abbrev pub keep : Params → Phase → ℕ
keep p phase = cond (opening phase) p.key 0

-- The held bytes h: 0 outside Data. At most a block is held, on an opening a block and a tag; a larger count, which no
-- calls lead to, counts as that.
abbrev pub held_data : Params → Phase → ℕ → ℕ
held_data p Uninitialized held = 0
held_data p (Init d) held = 0
held_data p (Aad d) held = 0
held_data p (Data d) held = min held (keep p (Data d) + p.rate)
held_data p (Final d) held = 0

-- The first answer, where it is a refusal, else what the second makes of its count.
abbrev pub then : Result ℕ AeadError → (ℕ → Result ℕ AeadError) → Result ℕ AeadError
then (Ok n) f = f n
then (Err e) f = Err e

-- A sum that must not pass 2^64 - 1.
abbrev pub within64 : ℕ → ℕ → Result ℕ AeadError
within64 sum n = cond (ltb sum (2 ^ 64)) (Ok n) (Err InputTooLong)

-- update_output_len(n): h + n - 1, or for opening h + n - tag - 1, never under 0, rounded down to a multiple of the rate.
unfoldable pub update_len : Params → Phase → ℕ → ℕ → Result ℕ AeadError
update_len p phase held n =
    within64 (held_data p phase held + n) (ready p.rate (keep p phase) (held_data p phase held + n) * p.rate)

-- output_len(n): h + n + tag, or for opening h + n - tag, never under 0.
unfoldable pub total_len : Params → Phase → ℕ → ℕ → Result ℕ AeadError
total_len p phase held n =
    cond (opening phase) (within64 (held_data p phase held + n) (held_data p phase held + n - p.key))
    (within64 (held_data p phase held + n + p.key) (held_data p phase held + n + p.key))

-- A data call and an end: 10 in Final, 8 in Uninitialized.
abbrev pub phase_check : Phase → Result ℕ AeadError
phase_check Uninitialized = Err NotInitialized
phase_check (Init d) = Ok 0
phase_check (Aad d) = Ok 0
phase_check (Data d) = Ok 0
phase_check (Final d) = Err AlreadyFinalized

-- The output must hold what is required.
abbrev pub room : ℕ → ℕ → Result ℕ AeadError
room available required = cond (ltb available required) (Err (OutputTooShort required available)) (Ok required)

-- A header call that is not empty: 8, 9 or 10 by the phase.
abbrev pub header_check : Phase → Result ℕ AeadError
header_check Uninitialized = Err NotInitialized
header_check (Init d) = Ok 0
header_check (Aad d) = Ok 0
header_check (Data d) = Err AadAfterData
header_check (Final d) = Err AlreadyFinalized

-- A header call of n bytes: empty input is accepted in every phase.
unfoldable pub aad_check : Phase → ℕ → Result ℕ AeadError
aad_check phase n = cond (eqb n 0) (Ok 0) (header_check phase)

-- A data call of n bytes into an output of `available`: phase, then 7, then 4. Its count is what is written.
unfoldable pub data_check : Params → Phase → ℕ → ℕ → ℕ → Result ℕ AeadError
data_check p phase held n available = then (phase_check phase) (λ _. then (update_len p phase held n) (room available))

-- On an opening, fewer ciphertext bytes than a tag: 5.
abbrev pub whole : Params → Phase → ℕ → ℕ → Result ℕ AeadError
whole p phase held n =
    cond (opening phase)
    (cond (ltb (held_data p phase held) p.key) (Err (CiphertextTooShort p.key (held_data p phase held))) (Ok n)) (Ok n)

-- An end into an output of `available`: phase, then 4, then 5. Its count is what is written, unless the tag differs.
unfoldable pub end_check : Params → Phase → ℕ → ℕ → Result ℕ AeadError
end_check p phase held available =
    then (phase_check phase) (λ _. then (then (total_len p phase held 0) (room available)) (whole p phase held))

-- A start in a direction: key length, nonce length, tag size; then, for sealing only, whether the pair repeats.
unfoldable pub start_check : SparkleVariant → Direction → ℕ → ℕ → ℕ → Bool → Result (Unit {0}) AeadInitError
start_check v direction key nonce size repeats =
    let p = params_of v in
    cond (not (eqb key p.key)) (Err (InvalidKeyLength key))
    (cond (not (eqb nonce p.rate)) (Err (InvalidNonceLength nonce))
    (cond (not (eqb size p.key)) (Err (InvalidMacSize size))
    (cond (opens direction) (Ok tt) (cond repeats (Err NonceReuse) (Ok tt)))))
