-- `data` is where the message's blocks lead from the words alone, and writes what they become where it is told to.
use Rattle.std.proofs.Common.{◌≡◌, ℕ, ◌-◌, ◌*◌, ◌≤◌, true, length, take, drop, length-drop, length-take-le, arith, rules}
use Rattle.schwaemm.specs.Blocks.{ready}
use Rattle.schwaemm.specs.Schwaemm.{Params}
use Rattle.tc_aead_cipher.specs.declared.phase.Direction.{Direction}
use Rattle.tc_aead_cipher.specs.declared.phase.Phase.TheVariants.{Data}
use Rattle.tc_aead_cipher.specs.Variant.{params_of}
use Rattle.tc_aead_cipher.specs.Checks.{keep}
use Rattle.tc_aead_cipher.proofs.VariantLaws.{sizes, small, keep_bound}
use Rattle.tc_sparkle_aead.proofs.CallLaws.{gone_bound, rest_bound}
use Rattle.tc_sparkle_aead.proofs.WholeLaws.{count_none, data-point, data-written}
use Rattle.tc_sparkle_aead.proofs.whole.data.Goals as goal
use Rattle.tc_sparkle_aead.proofs.whole.data.Goals.{Start, After-block_count-count, After-nonce_bytes}

words-length : (c : goal.Start) → length c.args.words ≡ 16
words-length c = search rules

-- the number of blocks that go
counted : (p : Params) (d : Direction) (count kept total : ℕ) → count ≡ ready p.rate kept total → kept ≡ keep p (Data d)
    → count ≡ ready p.rate (keep p (Data d)) total
counted p d count kept total e k = rw k at e

-- the bytes that go are at most those that there are, and few enough stay
gone : (c : goal.After-nonce_bytes)
    → c.block_count-count.result * c.nonce_bytes.result ≤ length c.args.input.now
gone c =
    rw c.nonce_bytes.ensures
    (gone_bound (params_of c.args.variant).rate _ _ _ (counted (params_of c.args.variant) c.args.d _ _ _ c.block_count-count.ensures c.keep.ensures))

stays : (c : goal.After-nonce_bytes)
    → length c.args.input.now - c.block_count-count.result * c.nonce_bytes.result ≤ 64
stays c =
    let v = c.args.variant in
    rw c.nonce_bytes.ensures
    (omega (
      arith,
      rest_bound (params_of v).rate _ _ _ (sizes v).rate_positive (counted (params_of c.args.variant) c.args.d _ _ _ c.block_count-count.ensures c.keep.ensures),
      small v,
      keep_bound (params_of v) (Data c.args.d),
    ))

-- all that is behind them
rest : (c : goal.After-nonce_bytes)
    → length (take (length c.args.input.now - c.block_count-count.result * c.nonce_bytes.result) (drop (c.block_count-count.result * c.nonce_bytes.result) c.args.input.now))
    ≡ length c.args.input.now - c.block_count-count.result * c.nonce_bytes.result
rest c =
    length-take-le _ _ (omega (arith, length-drop (c.block_count-count.result * c.nonce_bytes.result) c.args.input.now))

-- the output holds what they become, where it is written
room : (c : goal.After-block_count-count)
    → c.args.write ≡ true → c.block_count-count.result * (params_of c.args.variant).rate ≤ length c.args.output.now
room c e =
    let p = params_of c.args.variant in
    rw (counted p c.args.d _ _ _ c.block_count-count.ensures c.keep.ensures, ← count_none p c.args.d c.args.words c.args.input.now (keep p (Data c.args.d))) (c.requires e)

pub blocks-requires : goal.blocks-requires
blocks-requires c =
    let p = params_of c.args.variant in (
      gone_bound p.rate _ _ _ (counted (params_of c.args.variant) c.args.d _ _ _ c.block_count-count.ensures c.keep.ensures),
      room (goal.at.blocks-requires c).After-block_count-count,
    )

pub overflow_mul-gone : goal.overflow_mul-gone
overflow_mul-gone c = omega (arith, gone (goal.at.overflow_mul-gone c).After-nonce_bytes)

pub slice_bounds-rest-count : goal.slice_bounds-rest-count
slice_bounds-rest-count c = gone (goal.at.slice_bounds-rest-count c).After-nonce_bytes

pub slice_bounds-rest-start : goal.slice_bounds-rest-start
slice_bounds-rest-start c = gone (goal.at.slice_bounds-rest-start c).After-nonce_bytes

pub in_array-requires : goal.in_array-requires
in_array-requires c =
    (omega arith, omega (arith, rest (goal.at.in_array-requires c).After-nonce_bytes, stays (goal.at.in_array-requires c).After-nonce_bytes))

pub returns : goal.returns
returns c =
    let v = c.args.variant in
    let em = c.opening.ensures in
    let done = rw c.leading-mode.ensures at c.blocks-2.ensures in record {
      value = data-point v c.args.d c.args.words c.args.input.now _ _ em (counted (params_of c.args.variant) c.args.d _ _ _ c.block_count-count.ensures c.keep.ensures) _ c.nonce_bytes.ensures _ _
          done.words_after c.in_array.ensures;
      output_after = data-written v c.args.d c.args.words c.args.input.now _ _ em (counted (params_of c.args.variant) c.args.d _ _ _ c.block_count-count.ensures c.keep.ensures) (words-length (goal.at.returns c).Start) c.args.write _ _
          done.output_after;
    }
