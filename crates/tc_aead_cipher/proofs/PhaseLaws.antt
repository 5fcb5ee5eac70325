-- What a phase decides, by cases: its direction.
use mathlib.Core.Path.{◌≡◌, refl}
use Rattle.tc_aead_cipher.specs.declared.phase.Phase.{Phase}
use Rattle.tc_aead_cipher.specs.declared.phase.Phase.TheVariants.{Uninitialized, Init, Aad, Data, Final}
use Rattle.tc_aead_cipher.specs.Checks.{direction_of, opens, opening}

pub opens-direction : (phase : Phase) → opens (direction_of phase) ≡ opening phase
opens-direction Uninitialized = refl
opens-direction (Init d) = refl
opens-direction (Aad d) = refl
opens-direction (Data d) = refl
opens-direction (Final d) = refl
