-- `mix_last` takes up the padded block, with its constant in the last word.
use Rattle.std.proofs.Common.{◌≡◌, ◌∙◌, arith}
use Rattle.schwaemm.specs.Schwaemm.{last_v}
use Rattle.schwaemm.proofs.States.{last_v_short, last_v_full}
use Rattle.tc_aead_cipher.specs.Variant.{params_of}
use Rattle.tc_aead_cipher.proofs.VariantLaws.{sizes, small}
use Rattle.tc_sparkle_aead.proofs.LastBlock.{last_block_lem}
use Rattle.tc_sparkle_aead.proofs.blocks.mix_last.Goals as goal
use Rattle.tc_sparkle_aead.proofs.blocks.mix_last.Goals.{Joined-last-nonce_bytes, then-last-nonce_bytes, else-last-nonce_bytes}

-- the v of the block
the-v : (c : goal.Joined-last-nonce_bytes) → c.if-last-nonce_bytes.v ≡ last_v (params_of c.args.variant) c.args.short c.args.last.now
the-v c =
    let v = c.args.variant in
    let rate = c.nonce_bytes.ensures in
    elim c.if-last-nonce_bytes.branch [
      | then-last-nonce_bytes w ↦ w.v-is ∙ last_v_short (params_of v) c.args.short _ (omega (arith, rate, w.if-last-nonce_bytes.true))
      | else-last-nonce_bytes w ↦ w.v-is ∙ last_v_full (params_of v) c.args.short _ (omega (arith, rate, w.if-last-nonce_bytes.false))
    ]

pub returns : goal.returns
returns c =
    let v = c.args.variant in
    let done = rw c.single-mode.ensures at c.blocks-2.ensures.words_after in
    last_block_lem (params_of v) (sizes v) (small v) _ _ _ _ _ _ _ c.pad-block.ensures c.domain_constant.ensures (the-v (goal.at.returns c).Joined-last-nonce_bytes)
    done
