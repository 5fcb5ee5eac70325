-- `data_in` is where data leads in phase Data, and writes what its blocks become.
use Rattle.std.proofs.Common.{◌≡◌, ◌*◌, length, refl, ◌∙◌, ap₂, arith, rules}
use Rattle.tc_aead_cipher.proofs.VariantLaws.{sizes, small}
use Rattle.tc_sparkle_aead.proofs.DataLaws.{is-count}
use Rattle.tc_sparkle_aead.proofs.HeaderLaws.{steps_fit}
use Rattle.tc_sparkle_aead.specs.Message.{block_count}
use Rattle.tc_aead_cipher.specs.Variant.{params_of}
use Rattle.tc_aead_cipher.specs.Checks.{keep}
use Rattle.tc_sparkle_aead.proofs.CallLaws.{buffered_count_bound, gone_bound}
use Rattle.tc_sparkle_aead.proofs.message.Point.data_in.Goals as goal
use Rattle.tc_sparkle_aead.proofs.message.Point.data_in.Goals.{After-block_count-count}

-- the number of blocks that the definition takes
block_count-is : (c : After-block_count-count)
    → c.block_count-count.result
    ≡ block_count (params_of c.args.variant)
    (keep (params_of c.args.variant)
    c.args.self.phase)
    c.args.self c.args.input.now
block_count-is c =
    let buffer-length : length c.args.self.buffer ≡ 64 = search rules in
    let at = c.args.self in
    let held = c.buffered_count-held in
    is-count (params_of c.args.variant) (small c.args.variant) _ at c.args.input.now buffer-length
    held.result held.ensures c.block_count-count.result _ (rw (c.keep-keep.ensures, c.as_held.ensures) at c.block_count-count.ensures)
    refl

pub stream_in-requires : goal.stream_in-requires
stream_in-requires c =
    (block_count-is (goal.at.stream_in-requires c).After-block_count-count, rw (block_count-is (goal.at.stream_in-requires c).After-block_count-count) c.requires)

pub overflow_mul-result : goal.overflow_mul-result
overflow_mul-result c =
    let held = c.buffered_count-held in
    let s = c.args in
    let p = params_of s.variant in
    rw (c.from.ensures, c.slim_steps.ensures)
    (record {
      fits =
          steps_fit p (sizes s.variant) (small s.variant) _ _ (gone_bound p.rate _ _ _ c.block_count-count.ensures)
          (omega (arith, held.ensures, buffered_count_bound p (small s.variant) s.self.phase s.self.held));
    })

pub returns : goal.returns
returns c =
    let stream = c.stream_in in
    let steps = ap₂ ◌*◌ (block_count-is (goal.at.returns c).After-block_count-count) (c.from.ensures ∙ c.slim_steps.ensures) in
    record {
      value = λ i. record { point = stream.ensures.value i; steps = steps i };
      output_after = stream.ensures.output_after;
    }
