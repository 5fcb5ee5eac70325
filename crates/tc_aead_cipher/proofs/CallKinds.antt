-- The call that is made of a kind: it has that kind, and takes these arguments.
use mathlib.Core.Path.{◌≡◌, refl}
use mathlib.Core.List.{List}
use Prim.Native.Nat.{ℕ}
use Rattle.tc_aead_cipher.specs.declared.call.CallKind.{CallKind}
use Rattle.tc_aead_cipher.specs.declared.call.CallKind.TheVariants.{Init, Aad, Data, Final, Reset, Mac, Update, Output}
use Rattle.tc_aead_cipher.specs.declared.phase.Direction.{Direction}
use Rattle.tc_aead_cipher.specs.Call.{Call, kind_of, call_of}

pub kind_of_call : (kind : CallKind) (n : ℕ) (first second third out : List ℕ) → kind_of (call_of kind n first second third out) ≡ kind
kind_of_call (Init d) n first second third out = refl
kind_of_call Aad n first second third out = refl
kind_of_call Data n first second third out = refl
kind_of_call Final n first second third out = refl
kind_of_call Reset n first second third out = refl
kind_of_call Mac n first second third out = refl
kind_of_call Update n first second third out = refl
kind_of_call Output n first second third out = refl

-- The arguments that each kind takes.
module _ (d : Direction) (n : ℕ) (first second third out : List ℕ) where
  pub call_of_kind : (call_of (Init d) n first second third out ≡ Call.Init d first second n third)
      × (call_of Aad n first second third out ≡ Call.Aad first)
      × (call_of Data n first second third out ≡ Call.Data first out)
      × (call_of Final n first second third out ≡ Call.Final out)
      × (call_of Update n first second third out ≡ Call.Update n)
      × (call_of Output n first second third out ≡ Call.Output n)
  call_of_kind = (refl, refl, refl, refl, refl, refl)
