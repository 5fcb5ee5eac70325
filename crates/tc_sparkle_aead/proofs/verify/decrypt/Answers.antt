-- `decrypt` writes what the packet's blocks become, and behind that what the last block becomes.
use Rattle.std.proofs.Common.{ℕ, ◌+◌, ◌-◌, ◌≤◌, length, refl, ap, arith}
use Rattle.tc_aead_cipher.specs.Variant.{params_of}
use Rattle.tc_aead_cipher.proofs.VariantLaws.{small}
use Rattle.tc_sparkle_aead.proofs.ByteLaws.{part_paste}
use Rattle.tc_sparkle_aead.proofs.OpenWholeLaws.{whole_blocks_fit, whole-held, whole-written}
use Rattle.tc_sparkle_aead.proofs.verify.decrypt.Goals as goal
use Rattle.tc_sparkle_aead.proofs.verify.decrypt.Goals.{After-tag_bytes}

pub data-at-requires : goal.data-at-requires
data-at-requires c = λ e.
    let a = c.args in
    let fits =
    whole_blocks_fit a.start.variant a.start.key.now a.start.nonce.now a.start.header.now a.sealed.now c.requires.0 _ c.prepare-words.ensures in
    omega (arith, fits, c.requires.1)

-- the bytes that are held behind the packet's blocks
stays : (c : goal.After-tag_bytes)
    → let p = params_of c.args.start.variant in
    let held = c.data-at.result.held in
    (p.key ≤ held) × (held ≤ p.key + p.rate) × (held ≤ length c.args.sealed.now)
stays c =
    let a = c.args in
    whole-held a.start.variant a.start.key.now a.start.nonce.now a.start.header.now a.sealed.now c.requires.0 _ c.prepare-words.ensures _
    c.data-at.ensures.value

pub overflow_sub-n : goal.overflow_sub-n
overflow_sub-n c = omega (arith, c.tag_bytes.ensures, (stays (goal.at.overflow_sub-n c).After-tag_bytes).0)

pub shared_ref_as_front-crypt : goal.shared_ref_as_front-crypt
shared_ref_as_front-crypt c =
    omega (arith, c.tag_bytes.ensures, stays (goal.at.shared_ref_as_front-crypt c).After-tag_bytes, small c.args.start.variant)

pub crypt-last-requires : goal.crypt-last-requires
crypt-last-requires c = omega (arith, c.tag_bytes.ensures, stays (goal.at.crypt-last-requires c).After-tag_bytes)

pub overflow_sub-pos : goal.overflow_sub-pos
overflow_sub-pos c = (stays (goal.at.overflow_sub-pos c).After-tag_bytes).2

pub slice_bounds-copy_from_slice-end : goal.slice_bounds-copy_from_slice-end
slice_bounds-copy_from_slice-end c =
    omega (arith, c.tag_bytes.ensures, stays (goal.at.slice_bounds-copy_from_slice-end c).After-tag_bytes, small c.args.start.variant, c.requires.1, c.data-at.auto.output)

pub returns : goal.returns
returns c =
    let a = c.args in
    whole-written a.start.variant a.start.key.now a.start.nonce.now a.start.header.now a.sealed.now c.requires.0 _ c.prepare-words.ensures _
    c.data-at.ensures.value _ _ refl (ap (λ (k : ℕ). c.data-at.result.held - k) c.tag_bytes.ensures) _ _ _ _
    c.crypt-last.ensures c.data-at.ensures.output_after (part_paste _ c.crypt-last.result _ _ _ c.copy_from_slice.ensures.after (omega arith))
