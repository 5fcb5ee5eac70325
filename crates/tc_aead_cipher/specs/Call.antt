-- The calls of an engine, as they are handed to it: for the engine, the reader and the boundary alike.
use Rattle.std.specs.Prelude.{ℕ, List}
use Rattle.tc_aead_cipher.specs.declared.phase.Direction.{Direction}
use Rattle.tc_aead_cipher.specs.declared.call.CallKind.{CallKind}

-- A call with its arguments; an output buffer with its contents before the call.
pub data Call : Type 0 where
  Init : Direction → (key nonce : List ℕ) → (size : ℕ) → (header : List ℕ) → Call
  Aad : (input : List ℕ) → Call
  Data : (input out : List ℕ) → Call
  Final : (out : List ℕ) → Call
  Reset : Call
  Mac : Call
  Update : (n : ℕ) → Call
  Output : (n : ℕ) → Call

-- A call without its arguments.
abbrev pub kind_of : Call → CallKind
kind_of (Call.Init d key nonce size header) = CallKind.Init d
kind_of (Call.Aad input) = CallKind.Aad
kind_of (Call.Data input out) = CallKind.Data
kind_of (Call.Final out) = CallKind.Final
kind_of Call.Reset = CallKind.Reset
kind_of Call.Mac = CallKind.Mac
kind_of (Call.Update n) = CallKind.Update
kind_of (Call.Output n) = CallKind.Output

-- The call of a kind with the arguments that it takes of a number, three runs of bytes and an output: a start its key, nonce,
-- tag size and header; a header call its input; a data call its input and the output; an end the output; a query its length.
abbrev pub call_of : CallKind → ℕ → (first second third out : List ℕ) → Call
call_of (CallKind.Init d) n first second third out = Call.Init d first second n third
call_of CallKind.Aad n first second third out = Call.Aad first
call_of CallKind.Data n first second third out = Call.Data first out
call_of CallKind.Final n first second third out = Call.Final out
call_of CallKind.Reset n first second third out = Call.Reset
call_of CallKind.Mac n first second third out = Call.Mac
call_of CallKind.Update n first second third out = Call.Update n
call_of CallKind.Output n first second third out = Call.Output n
