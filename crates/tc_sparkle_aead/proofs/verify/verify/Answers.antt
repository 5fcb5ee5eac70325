-- `verify` goes by its checks, and behind them by whether the packet is verified.
use Rattle.std.proofs.Common.{sym, ap, ◌∙◌}
use Rattle.tc_aead_cipher.specs.Outcome.{answered}
use Rattle.tc_sparkle_aead.proofs.OpenWholeLaws.{sized}
use Rattle.tc_sparkle_aead.proofs.verify.verify.Goals as goal

pub invariant_of-start : goal.invariant_of-start
invariant_of-start c =
    let s = sized _ _ _ _ _ _ (sym c.packet_check.ensures ∙ ap answered c.in_ok-n.was) in
    record { key_fits = s.key_right; nonce_fits = s.nonce_right }

pub verified-requires : goal.verified-requires
verified-requires c =
    let s = sized _ _ _ _ _ _ (sym c.packet_check.ensures ∙ ap answered c.in_ok-n.was) in s.enough
