-- `absorb` takes the blocks that are ready and keeps the rest.
use Rattle.std.proofs.Common.{◌≡◌, ◌+◌, ◌*◌, ◌≤◌, length, take, sym, ◌∙◌, arith, rules, length-take-le}
use Rattle.std.proofs.lemmas.Bool.Decides.{nat_tests}
use Rattle.tc_sparkle_aead.proofs.HeaderLaws.{absorb-none, absorb_some}
use Rattle.tc_sparkle_aead.proofs.CallLaws.{buffered_count_bound, buffered_count_blocks, streamed-rate, gone_bound, rest_bound}
use Rattle.schwaemm.specs.Schwaemm.{absorb_block}
use Rattle.tc_aead_cipher.specs.declared.phase.Phase.TheVariants.{Aad}
use Rattle.tc_aead_cipher.specs.Variant.{params_of}
use Rattle.tc_aead_cipher.proofs.VariantLaws.{sizes, small}
use Rattle.tc_sparkle_aead.proofs.message.Point.absorb.Goals as goal
use Rattle.tc_sparkle_aead.proofs.message.Point.absorb.Goals.{After-buffered_count-held, After-block_count-count}

held_fits : (c : After-buffered_count-held) → c.buffered_count-held.result ≤ 64
held_fits c =
    let s = c.args in
    omega (
      arith,
      c.buffered_count-held.ensures,
      buffered_count_bound (params_of s.variant) (small s.variant) s.self.phase s.self.held,
    )

held-length : (c : After-buffered_count-held) → length (take c.buffered_count-held.result c.args.self.buffer) ≡ c.buffered_count-held.result
held-length c =
    let buffer-length : length c.args.self.buffer ≡ 64 = search rules in
    length-take-le c.buffered_count-held.result c.args.self.buffer (omega (arith, held_fits c))

-- the bytes that go are at most those that there are
gone : (c : After-block_count-count)
    → c.block_count-count.result * (params_of c.args.variant).rate
    ≤ c.buffered_count-held.result + length c.args.header.now
gone c =
    gone_bound (params_of c.args.variant).rate 0 _ _
    c.block_count-count.ensures

pub absorb_blocks-requires : goal.absorb_blocks-requires
absorb_blocks-requires c =
    let s = c.args in
    (omega (arith, held-length (goal.at.absorb_blocks-requires c).After-buffered_count-held, c.buffered_count-held.ensures, buffered_count_blocks (params_of s.variant) s.self.phase s.self.held), omega (arith, held-length (goal.at.absorb_blocks-requires c).After-buffered_count-held, gone (goal.at.absorb_blocks-requires c).After-block_count-count))

pub overflow_mul-gone : goal.overflow_mul-gone
overflow_mul-gone c = rw c.nonce_bytes.ensures (omega (arith, gone (goal.at.overflow_mul-gone c).After-block_count-count, held_fits (goal.at.overflow_mul-gone c).After-buffered_count-held))

pub overflow_sub-rest : goal.overflow_sub-rest
overflow_sub-rest c = rw c.nonce_bytes.ensures (gone (goal.at.overflow_sub-rest c).After-block_count-count)

pub gather-requires : goal.gather-requires
gather-requires c =
    let v = c.args.variant in
    rw c.nonce_bytes.ensures (
      omega (
        arith,
        rest_bound (params_of v).rate 0 _ _ (sizes v).rate_positive c.block_count-count.ensures,
        small v,
      ),
      omega (arith, gone (goal.at.gather-requires c).After-block_count-count, held-length (goal.at.gather-requires c).After-buffered_count-held),
    )

pub returns-then-is_empty : goal.returns-then-is_empty
returns-then-is_empty c =
    let e = c.if-is_empty.ensures in
    sym (absorb-none _ _ _ _ (grind (arith, nat_tests)))

pub returns : goal.returns
returns c =
    let buffer-length : length c.args.self.buffer ≡ 64 = search rules in
    let v = c.args.variant in
    streamed-rate (params_of v) (small v) 0 (absorb_block (params_of v)) (Aad c.args.d) c.args.self c.args.header.now
    buffer-length _ c.buffered_count-held.ensures _ c.block_count-count.ensures _ c.nonce_bytes.ensures _ _
    c.absorb_blocks.ensures c.gather.ensures
    ∙ sym (absorb_some (params_of v) c.args.d c.args.self c.args.header.now (grind (arith, nat_tests)))
