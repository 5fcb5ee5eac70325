-- A packet that is opened whole or not, by the number of its variant.
use Rattle.std.specs.Prelude.{ℕ, cond, List, [], ◌∷◌}
use Rattle.tc_aead_cipher.specs.Variant.{variant_of, is_variant}
use Rattle.tc_aead_cipher.specs.Outcome.{Outcome}
use Rattle.tc_aead_cipher.specs.Reply.{reply_of}
use Rattle.tc_sparkle_aead.specs.Packet.{PacketResult}
use Rattle.tc_sparkle_aead.specs.OpenWhole.{open_whole}

-- The opening by the variant of a number; 23 where no variant has it.
unfoldable pub open_whole_of : ℕ → (key nonce header packet out : List ℕ) → PacketResult
open_whole_of v key nonce header packet out =
    cond (is_variant v) (open_whole (variant_of v) key nonce header packet out)
    (record { reply = reply_of (Outcome.no (23 ∷ [])); out = out })
