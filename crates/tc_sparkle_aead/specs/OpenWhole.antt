-- A packet that is opened whole or not (document 02, 2026-03), on a new engine: in the specification's words alone.
use Rattle.std.specs.Prelude.{ℕ, Bool, true, false, List, length}
use Rattle.schwaemm.specs.Schwaemm.{body, decrypt, verified}
use Rattle.tc_aead_cipher.specs.declared.variant.SparkleVariant.{SparkleVariant}
use Rattle.tc_aead_cipher.specs.declared.aead_error.AeadError.TheVariants.{AuthenticationFailed}
use Rattle.tc_aead_cipher.specs.Variant.{params_of}
use Rattle.tc_aead_cipher.specs.Refusals.{refusal}
use Rattle.tc_aead_cipher.specs.Outcome.{Outcome}
use Rattle.tc_aead_cipher.specs.Outcome.Outcome.{ok, no}
use Rattle.tc_aead_cipher.specs.Reply.{reply_of}
use Rattle.tc_aead_cipher.specs.PacketCheck.{packet_check}
use Rattle.tc_sparkle_aead.specs.Message.{written}
use Rattle.tc_sparkle_aead.specs.Packet.{PacketResult}

-- The last check, behind those of the lengths: 6 where the packet is not verified.
abbrev pub tag_check : (verified : Bool) → Outcome → Outcome
tag_check verified (no r) = no r
tag_check true (ok n) = ok n
tag_check false (ok n) = no (refusal AuthenticationFailed)

-- The verifying pass: the checks of a packet for which there would be `room`, and whether it is verified.
unfoldable pub verify : SparkleVariant → (key nonce header packet : List ℕ) → (room : ℕ) → Outcome
verify v key nonce header packet room =
    let p = params_of v in
    tag_check (verified p key nonce header packet) (packet_check p (length key) (length nonce) (length packet) room)

-- What an output holds afterwards: the message from its start, or after a refusal, 6 too, what was lent.
abbrev pub opened_output : Outcome → (message out : List ℕ) → List ℕ
opened_output (ok n) message out = written message out
opened_output (no r) message out = out

-- The opening: the answer, and the output.
unfoldable pub open_whole : SparkleVariant → (key nonce header packet out : List ℕ) → PacketResult
open_whole v key nonce header packet out =
    let p = params_of v in
    let answer = verify v key nonce header packet (length out) in
    record { reply = reply_of answer; out = opened_output answer (decrypt p key nonce header (body p packet)) out }
