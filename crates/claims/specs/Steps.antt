-- The step count of document 01, "Down to the block", from what the reader keeps: the formula of the current message, and
-- the count on each line of a sheet.
use Rattle.std.specs.Prelude.{List, [], ◌∷◌, ℕ, ◌+◌, ◌-◌, ◌*◌, ◌%◌, ◌^◌, length}
use Rattle.schwaemm.specs.Blocks.{ready}
use Rattle.schwaemm.specs.Schwaemm.{Params, leading, steps_of, steps}
use Rattle.tc_aead_cipher.specs.declared.variant.SparkleVariant.{SparkleVariant}
use Rattle.tc_aead_cipher.specs.declared.phase.Direction.{Direction}
use Rattle.tc_aead_cipher.specs.declared.phase.Direction.TheVariants.{Encrypt, Decrypt}
use Rattle.tc_aead_cipher.specs.declared.phase.Phase.{Phase}
use Rattle.tc_aead_cipher.specs.declared.phase.Phase.TheVariants.{Uninitialized, Init, Aad, Data, Final}
use Rattle.tc_aead_cipher.specs.Variant.{params_of}
use Rattle.tc_aead_cipher.specs.Checks.{keep}
use Rattle.tc_aead_cipher.specs.Call.{Call}
use Rattle.claims.specs.Reader.{Reader, read}

-- ---- The formula

-- The specification's steps of what has run before the end: with the start, the header's blocks but its last; in the data
-- the whole header and the blocks that went.
abbrev pub start_steps : Params → (header : List ℕ) → ℕ
start_steps p header = p.big + leading p (length header) * p.slim

unfoldable pub steps_before : Params → Phase → (header body : List ℕ) → ℕ
steps_before p Uninitialized header body = 0
steps_before p (Init d) header body = start_steps p header
steps_before p (Aad d) header body = start_steps p header
steps_before p (Data d) header body =
    p.big + steps_of p (length header) + ready p.rate (keep p (Data d)) (length body) * p.slim
steps_before p (Final d) header body = 0

-- The count after init, to which every reset returns; 0 in Uninitialized.
unfoldable pub steps_after_init : Params → Phase → (initial : List ℕ) → ℕ
steps_after_init p Uninitialized initial = 0
steps_after_init p (Init d) initial = start_steps p initial
steps_after_init p (Aad d) initial = start_steps p initial
steps_after_init p (Data d) initial = start_steps p initial
steps_after_init p (Final d) initial = start_steps p initial

-- After an end: the steps of the whole message. An opening's data has a tag behind its message.
abbrev pub message_length : Direction → Params → ℕ → ℕ
message_length Encrypt p n = n
message_length Decrypt p n = n - p.key

abbrev pub message_steps : Params → Direction → Reader → ℕ
message_steps p d r = steps p (length r.header) (message_length d p (length r.body))

-- ---- On each line

-- The count after a call, from the phase and the count before it and the reader after it. In Final it is that of the end
-- that led there or of a reset, or it has not changed.
abbrev pub end_steps : Phase → Params → ℕ → Direction → Reader → ℕ
end_steps Uninitialized p before d r = before
end_steps (Init _) p before d r = message_steps p d r % 2 ^ 64
end_steps (Aad _) p before d r = message_steps p d r % 2 ^ 64
end_steps (Data _) p before d r = message_steps p d r % 2 ^ 64
end_steps (Final _) p before d r = before

abbrev pub final_steps : Call → Phase → Params → ℕ → Direction → Reader → ℕ
final_steps (Call.Init _ key nonce size header) old p before d r = before
final_steps (Call.Aad input) old p before d r = before
final_steps (Call.Data input out) old p before d r = before
final_steps (Call.Final out) old p before d r = end_steps old p before d r
final_steps Call.Reset old p before d r = steps_after_init p (Final d) r.initial % 2 ^ 64
final_steps Call.Mac old p before d r = before
final_steps (Call.Update n) old p before d r = before
final_steps (Call.Output n) old p before d r = before

abbrev pub steps_in : Phase → Phase → Params → ℕ → Call → Reader → ℕ
steps_in Uninitialized old p before c r = steps_before p Uninitialized r.header r.body % 2 ^ 64
steps_in (Init d) old p before c r = steps_before p (Init d) r.header r.body % 2 ^ 64
steps_in (Aad d) old p before c r = steps_before p (Aad d) r.header r.body % 2 ^ 64
steps_in (Data d) old p before c r = steps_before p (Data d) r.header r.body % 2 ^ 64
steps_in (Final d) old p before c r = final_steps c old p before d r

unfoldable pub counts : SparkleVariant → Reader → ℕ → List Call → List ℕ
counts v r before [] = []
counts v r before (c ∷ calls) =
    let q = (read v r c).reader in
    let n = steps_in q.phase r.phase (params_of v) before c q in
    n ∷ counts v q n calls
