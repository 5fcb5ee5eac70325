-- Whether a packet may be opened whole, by its lengths (document 02, 2026-03): the checks 1, 2, 5, 4, in this sequence. The
-- last check, 6, stands with the verifying pass.
use Rattle.std.specs.Prelude.{ℕ, ◌-◌, cond, not, eqb, ltb}
use Rattle.schwaemm.specs.Schwaemm.{Params}
use Rattle.tc_aead_cipher.specs.declared.aead_error.AeadError.TheVariants.{OutputTooShort, CiphertextTooShort}
use Rattle.tc_aead_cipher.specs.declared.aead_init_error.AeadInitError.TheVariants.{InvalidKeyLength, InvalidNonceLength}
use Rattle.tc_aead_cipher.specs.Refusals.{refusal, init_refusal}
use Rattle.tc_aead_cipher.specs.Outcome.{Outcome}
use Rattle.tc_aead_cipher.specs.Outcome.Outcome.{ok, no}

-- By the lengths of key, nonce and packet and the output's room: 1, 2, then 5, which counts the packet, then 4, which needs
-- its length less the tag's. The count is what an opening writes.
unfoldable pub packet_check : Params → (key nonce packet room : ℕ) → Outcome
packet_check p key nonce packet room =
    cond (not (eqb key p.key)) (no (init_refusal (InvalidKeyLength key)))
    (cond (not (eqb nonce p.rate)) (no (init_refusal (InvalidNonceLength nonce)))
    (cond (ltb packet p.key) (no (refusal (CiphertextTooShort p.key packet)))
    (cond (ltb room (packet - p.key)) (no (refusal (OutputTooShort (packet - p.key) room))) (ok (packet - p.key)))))
