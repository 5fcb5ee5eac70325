-- `open_whole` writes where the verifying pass counts, and only there.
use Rattle.std.proofs.Common.{sym, ap, ◌∙◌}
use Rattle.tc_aead_cipher.specs.Outcome.{answered}
use Rattle.tc_sparkle_aead.proofs.OpenWholeLaws.{opened_sized}
use Rattle.tc_sparkle_aead.proofs.verify.open_whole.Goals as goal

pub invariant_of-start : goal.invariant_of-start
invariant_of-start c =
    let s = opened_sized _ _ _ _ _ _ _ (sym c.verify.ensures ∙ ap answered c.in_ok-n.was) in
    record { key_fits = s.key_right; nonce_fits = s.nonce_right }

pub decrypt-requires : goal.decrypt-requires
decrypt-requires c =
    let s = opened_sized _ _ _ _ _ _ _ (sym c.verify.ensures ∙ ap answered c.in_ok-n.was) in
    (s.enough, s.fits)
