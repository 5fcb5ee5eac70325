-- `stream_in` is the point after the blocks that go, and writes what they become.
use Rattle.std.proofs.Common.{◌≡◌, ◌+◌, ◌*◌, ◌≤◌, length, take, arith, rules, length-append, length-take-le}
use Rattle.tc_aead_cipher.specs.Variant.{params_of}
use Rattle.schwaemm.proofs.RoundTrip.{length_crypted_blocks}
use Rattle.tc_sparkle_aead.proofs.CallLaws.{buffered_count_bound, buffered_count_blocks, streamed-rate, gone_bound, rest_bound}
use Rattle.tc_sparkle_aead.proofs.StateLaws.{state-length}
use Rattle.tc_sparkle_aead.proofs.DataLaws.{count-is, written_at}
use Rattle.tc_sparkle_aead.specs.Message.{plain_of}
use Rattle.tc_aead_cipher.specs.Checks.{keep}
use Rattle.tc_aead_cipher.proofs.VariantLaws.{sizes, small, keep_bound}
use Rattle.schwaemm.specs.Schwaemm.{message_block}
use Rattle.schwaemm.specs.Blocks.{ready}
use Rattle.tc_sparkle_aead.proofs.message.Point.stream_in.Goals as goal
use Rattle.tc_sparkle_aead.proofs.message.Point.stream_in.Goals.{After-buffered_count-held}

-- the number of blocks, from the held count of the code
blockCount-ready : (c : After-buffered_count-held) → c.args.count ≡ ready (params_of c.args.variant).rate (keep (params_of c.args.variant) c.args.self.phase) (c.buffered_count-held.result + length c.args.input.now)
blockCount-ready c =
    let buffer-length : length c.args.self.buffer ≡ 64 = search rules in
    count-is (params_of c.args.variant) (small c.args.variant) _ c.args.self c.args.input.now buffer-length
    c.buffered_count-held.result c.buffered_count-held.ensures c.args.count c.requires.0

gone : (c : After-buffered_count-held) → c.args.count * (params_of c.args.variant).rate ≤ c.buffered_count-held.result + length c.args.input.now
gone c = gone_bound _ _ _ _ (blockCount-ready c)

held-length : (c : After-buffered_count-held) → length (take c.buffered_count-held.result c.args.self.buffer) ≡ c.buffered_count-held.result
held-length c =
    let buffer-length : length c.args.self.buffer ≡ 64 = search rules in
    length-take-le c.buffered_count-held.result c.args.self.buffer (omega (arith, c.buffered_count-held.ensures, buffered_count_bound (params_of c.args.variant) (small c.args.variant) c.args.self.phase c.args.self.held))

pub crypt_blocks-words-requires : goal.crypt_blocks-words-requires
crypt_blocks-words-requires c = (
  omega (arith, held-length (goal.at.crypt_blocks-words-requires c).After-buffered_count-held, c.buffered_count-held.ensures, buffered_count_blocks (params_of c.args.variant) c.args.self.phase c.args.self.held),
  omega (arith, held-length (goal.at.crypt_blocks-words-requires c).After-buffered_count-held, gone (goal.at.crypt_blocks-words-requires c).After-buffered_count-held),
  c.requires.1,
)

pub overflow_sub-rest : goal.overflow_sub-rest
overflow_sub-rest c = rw c.nonce_bytes.ensures (gone (goal.at.overflow_sub-rest c).After-buffered_count-held)

pub gather-requires : goal.gather-requires
gather-requires c =
    let p = params_of c.args.variant in
    rw c.nonce_bytes.ensures (
      omega (arith, rest_bound p.rate _ _ _ (sizes c.args.variant).rate_positive (blockCount-ready (goal.at.gather-requires c).After-buffered_count-held), small c.args.variant, keep_bound p c.args.self.phase),
      omega (arith, gone (goal.at.gather-requires c).After-buffered_count-held, held-length (goal.at.gather-requires c).After-buffered_count-held),
    )

pub returns : goal.returns
unfolding plain_of
returns c =
    let buffer-length : length c.args.self.buffer ≡ 64 = search rules in
    let words-length : length c.args.self.words ≡ 16 = search rules in
    let v = c.args.variant in
    let p = params_of v in
    let at = c.args.self in
    let input = c.args.input.now in
    let h = c.buffered_count-held in
    let count = c.args.count in
    let opens = c.opening.ensures in
    let done = rw opens at c.crypt_blocks-words.ensures in record {
      value = streamed-rate p (small v) (keep p at.phase) (message_block p (plain_of p at.phase)) at.phase at input buffer-length
          h.result h.ensures count (blockCount-ready (goal.at.returns c).After-buffered_count-held) _ c.nonce_bytes.ensures _ _
          done.value c.gather.ensures;
      output_after = written_at p at input _ _ h.result count h.ensures c.requires.0
          (length_crypted_blocks p (sizes v) (plain_of p at.phase) count _ _
          (state-length p at.words (omega (arith, words-length, small v)))
          (simp length-append
          (omega (arith, length-take-le h.result at.buffer (omega (arith, buffer-length, h.ensures, buffered_count_bound p (small v) at.phase at.held)), gone (goal.at.returns c).After-buffered_count-held))))
          done.output_after;
    }
