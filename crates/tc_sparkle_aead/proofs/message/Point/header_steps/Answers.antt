-- `header_steps` is the number of blocks times the slim steps, which fits.
use Rattle.std.proofs.Common.{◌≡◌, ◌+◌, ◌*◌, ◌^◌, ◌<◌, length, ◌∙◌, ap₂, arith, rules}
use Rattle.schwaemm.specs.Schwaemm.{absorb_block}
use Rattle.tc_aead_cipher.specs.Variant.{params_of}
use Rattle.tc_sparkle_aead.specs.Message.{header_steps}
use Rattle.tc_aead_cipher.proofs.VariantLaws.{sizes, small}
use Rattle.tc_sparkle_aead.proofs.CallLaws.{buffered_count_bound, block_count-is, gone_bound}
use Rattle.tc_sparkle_aead.proofs.HeaderLaws.{steps_fit}
use Rattle.tc_sparkle_aead.proofs.message.Point.header_steps.Goals as goal
use Rattle.tc_sparkle_aead.proofs.message.Point.header_steps.Goals.{After-buffered_count-held}

-- the bytes that there are
total-fits : (c : After-buffered_count-held) → c.buffered_count-held.result + length c.args.header.now < 2 ^ 63 + 64
total-fits c =
    let s = c.args in
    omega (
      arith,
      c.buffered_count-held.ensures,
      buffered_count_bound (params_of s.variant) (small s.variant) s.self.phase s.self.held,
      c.well_formed,
    )

pub overflow_mul-result : goal.overflow_mul-result
overflow_mul-result c =
    let v = c.args.variant in
    let fits =
    steps_fit (params_of v) (sizes v) (small v) c.block_count-count.result _
    (gone_bound (params_of v).rate 0 _ _ c.block_count-count.ensures) (total-fits (goal.at.overflow_mul-result c).After-buffered_count-held) in
    rw (c.from.ensures, c.slim_steps.ensures) (record { fits = fits })

pub returns : goal.returns
unfolding header_steps
returns c =
    let buffer-length : length c.args.self.buffer ≡ 64 = search rules in
    let p = params_of c.args.variant in
    ap₂ ◌*◌
    (block_count-is p (small c.args.variant) 0 (absorb_block p) c.args.self.phase c.args.self c.args.header.now
    buffer-length _ c.buffered_count-held.ensures _ c.block_count-count.ensures)
    (c.from.ensures ∙ c.slim_steps.ensures)
