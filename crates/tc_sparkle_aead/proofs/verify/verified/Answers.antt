-- `verified` is the verdict of an opening's end, at the point after the packet's blocks.
use Rattle.tc_sparkle_aead.proofs.OpenWholeLaws.{whole-fits, whole-verdict}
use Rattle.tc_sparkle_aead.proofs.verify.verified.Goals as goal

pub open_end-opened-requires : goal.open_end-opened-requires
open_end-opened-requires c =
    let a = c.args in
    whole-fits a.start.variant a.start.key.now a.start.nonce.now a.start.header.now a.sealed.now c.requires _ c.prepare-words.ensures _
    c.data-at.ensures.value

pub returns : goal.returns
returns c =
    let a = c.args in
    whole-verdict a.start.variant a.start.key.now a.start.nonce.now a.start.header.now a.sealed.now c.requires _ c.prepare-words.ensures _
    c.data-at.ensures.value a.start.key_fits _ c.in_array.ensures _ c.open_end-opened.ensures.value
