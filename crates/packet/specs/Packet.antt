-- A whole packet at once, by the number of its variant.
use Rattle.std.specs.Prelude.{ℕ, cond, List, [], ◌∷◌}
use Rattle.tc_aead_cipher.specs.declared.phase.Direction.{Direction}
use Rattle.tc_aead_cipher.specs.Variant.{variant_of, is_variant}
use Rattle.tc_aead_cipher.specs.Outcome.{Outcome}
use Rattle.tc_aead_cipher.specs.Reply.{reply_of}
use Rattle.tc_sparkle_aead.specs.Packet.{PacketResult, variant_packet}

-- The start, the data call and the end, on a new engine of the variant of a number; 23 where no variant has it.
unfoldable pub packet_of : ℕ → Direction → (key nonce header input out : List ℕ) → PacketResult
packet_of v d key nonce header input out =
    cond (is_variant v) (variant_packet (variant_of v) d key nonce header input out)
    (record { reply = reply_of (Outcome.no (23 ∷ [])); out = out })
