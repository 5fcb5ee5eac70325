-- What is alike in two lists of calls.
use Rattle.std.specs.Prelude.{ℕ, ◌≡◌, List, map, length}
use Rattle.tc_aead_cipher.specs.declared.phase.Direction.{Direction}
use Rattle.tc_aead_cipher.specs.Call.{Call}

-- What is alike in two lists: calls, directions, numbers and buffer lengths, not the contents.
pub data Shape : Type 0 where
  Init : Direction → (key nonce size header : ℕ) → Shape
  Aad : (input : ℕ) → Shape
  Data : (input out : ℕ) → Shape
  Final : (out : ℕ) → Shape
  Reset : Shape
  Mac : Shape
  Update : (n : ℕ) → Shape
  Output : (n : ℕ) → Shape

abbrev pub shape : Call → Shape
shape (Call.Init d key nonce size h) = Shape.Init d (length key) (length nonce) size (length h)
shape (Call.Aad input) = Shape.Aad (length input)
shape (Call.Data input out) = Shape.Data (length input) (length out)
shape (Call.Final out) = Shape.Final (length out)
shape Call.Reset = Shape.Reset
shape Call.Mac = Shape.Mac
shape (Call.Update n) = Shape.Update n
shape (Call.Output n) = Shape.Output n

abbrev pub Alike : List Call → List Call → Type 0
Alike xs ys = map shape xs ≡ map shape ys
