-- `prepare` is the start, and the header's blocks behind it.
use Rattle.std.proofs.Common.{◌≡◌, ◌-◌, ◌*◌, ◌≤◌, length, take, drop, length-drop, length-take-le, sym, true≢false, arith}
use Rattle.std.proofs.lemmas.Bool.Decides.{nat_tests}
use Rattle.tc_aead_cipher.specs.Variant.{params_of}
use Rattle.tc_aead_cipher.proofs.VariantLaws.{sizes}
use Rattle.tc_sparkle_aead.proofs.CallLaws.{gone_bound, rest_bound}
use Rattle.tc_sparkle_aead.proofs.WholeLaws.{prepared-none, prepared_some}
use Rattle.tc_sparkle_aead.proofs.whole.prepare.Goals as goal
use Rattle.tc_sparkle_aead.proofs.whole.prepare.Goals.{After-nonce_bytes}

-- the bytes that go are at most those that there are, and at most a block stays
gone : (c : goal.After-nonce_bytes)
    → c.block_count-count.result * c.nonce_bytes.result ≤ length c.args.start.header.now
gone c =
    rw c.nonce_bytes.ensures
    (gone_bound (params_of c.args.start.variant).rate 0 _ _ c.block_count-count.ensures)

stays : (c : goal.After-nonce_bytes)
    → length c.args.start.header.now - c.block_count-count.result * c.nonce_bytes.result
    ≤ (params_of c.args.start.variant).rate
stays c =
    let v = c.args.start.variant in
    rw c.nonce_bytes.ensures
    (omega (arith, rest_bound (params_of v).rate 0 _ _ (sizes v).rate_positive c.block_count-count.ensures))

-- all that is behind them
rest : (c : goal.After-nonce_bytes)
    → length (take (length c.args.start.header.now - c.block_count-count.result * c.nonce_bytes.result) (drop (c.block_count-count.result * c.nonce_bytes.result) c.args.start.header.now))
    ≡ length c.args.start.header.now - c.block_count-count.result * c.nonce_bytes.result
rest c =
    length-take-le _ _ (omega (arith, length-drop (c.block_count-count.result * c.nonce_bytes.result) c.args.start.header.now))

pub returns-then-is_empty : goal.returns-then-is_empty
returns-then-is_empty c =
    prepared-none c.args.start.variant c.args.start.key.now c.args.start.nonce.now c.args.start.header.now _ c.initialise-w.ensures
    (grind (arith, nat_tests))

pub overflow_mul-gone : goal.overflow_mul-gone
overflow_mul-gone c = omega (arith, gone (goal.at.overflow_mul-gone c).After-nonce_bytes)

pub blocks-requires : goal.blocks-requires
blocks-requires c =
    (gone_bound (params_of c.args.start.variant).rate 0 _ _ c.block_count-count.ensures, λ e. absurd (true≢false (sym e)))

pub slice_bounds-mix_last-count : goal.slice_bounds-mix_last-count
slice_bounds-mix_last-count c = gone (goal.at.slice_bounds-mix_last-count c).After-nonce_bytes

pub slice_bounds-mix_last-start : goal.slice_bounds-mix_last-start
slice_bounds-mix_last-start c = gone (goal.at.slice_bounds-mix_last-start c).After-nonce_bytes

pub mix_last-requires : goal.mix_last-requires
mix_last-requires c =
    (omega (arith, rest (goal.at.mix_last-requires c).After-nonce_bytes, stays (goal.at.mix_last-requires c).After-nonce_bytes), omega arith)

pub returns : goal.returns
returns c =
    prepared_some c.args.start.variant c.args.start.key.now c.args.start.nonce.now c.args.start.header.now _ c.initialise-w.ensures
    _ _ c.block_count-count.ensures c.nonce_bytes.ensures (grind (arith, nat_tests)) _ _
    (rw c.leading.ensures at c.blocks-2.ensures.words_after) c.mix_last.ensures
