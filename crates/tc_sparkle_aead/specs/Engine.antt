-- The engine's records: what a new engine is, what the length queries answer, and the definitions through which the
-- remembered pair and the step count are reached.
use Rattle.std.specs.Prelude.{ℕ, Bool, true, false, cond, List, take, Result}
use Rattle.schwaemm.specs.Bytes.{same}
use Rattle.schwaemm.specs.Schwaemm.{Params}
use Rattle.tc_aead_cipher.specs.declared.variant.SparkleVariant.{SparkleVariant}
use Rattle.tc_aead_cipher.specs.declared.aead_error.AeadError.{AeadError}
use Rattle.tc_sparkle_aead.specs.declared.engine.Pair.{Pair}
use Rattle.tc_sparkle_aead.specs.declared.engine.Steps.{Steps}
use Rattle.tc_sparkle_aead.specs.declared.engine.SparkleEngine.{SparkleEngine}
use Rattle.tc_aead_cipher.specs.Variant.{params_of}
use Rattle.tc_aead_cipher.specs.Checks.{update_len, total_len}
use Rattle.tc_sparkle_aead.specs.Message.{zeros, in_array, no_message, no_mac}

-- The remembered pair: none at first; whether a key and a nonce repeat it; what is remembered once these are loaded, of
-- the old pair nothing; the key that is loaded.
unfoldable pub no_pair : Pair
no_pair = record { loaded = false; key = zeros 32; nonce = zeros 32 }

unfoldable pub repeats : Params → Pair → List ℕ → List ℕ → Bool
repeats p pair key nonce =
    cond pair.loaded (cond (same (take p.key pair.key) key) (same (take p.rate pair.nonce) nonce) false) false

unfoldable pub remember : Pair → List ℕ → List ℕ → Pair
remember old key nonce = record { loaded = true; key = in_array 32 key; nonce = in_array 32 nonce }

unfoldable pub current_key : Params → Pair → List ℕ
current_key p pair = take p.key pair.key

-- The step count: of a new engine; then, from the count before, after a refused init, after an init that ran n steps,
-- and after a reset.
unfoldable pub no_steps : Steps
no_steps = record { current = 0; initial = 0 }

unfoldable pub refused_steps : Steps → Steps
refused_steps old = no_steps

unfoldable pub init_steps : Steps → ℕ → Steps
init_steps old n = record { current = n; initial = n }

unfoldable pub reset_steps : Steps → Steps
reset_steps old = record { current = old.initial; initial = old.initial }

-- A new engine.
unfoldable pub new_engine : SparkleVariant → SparkleEngine
new_engine v =
    record { variant = v; current = no_message; initial = no_message; pair = no_pair; mac = no_mac; steps = no_steps }

-- The length queries.
unfoldable pub update_output_len : SparkleEngine → ℕ → Result ℕ AeadError
update_output_len e n = update_len (params_of e.variant) e.current.phase e.current.held n

unfoldable pub output_len : SparkleEngine → ℕ → Result ℕ AeadError
output_len e n = total_len (params_of e.variant) e.current.phase e.current.held n
