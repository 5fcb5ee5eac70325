-- `words_in` is the words of the bytes: a turn reads the next one, and all of them are as many as the array has room for.
use Rattle.std.proofs.Common.{◌≡◌, ◌*◌, ◌/◌, length, arith}
use Rattle.schwaemm.specs.Bytes.{to_words}
use Rattle.sparkle.proofs.Below.{below_of}
use Rattle.schwaemm.proofs.ByteWords.{length-to_words, to_bytes-take, to_bytes-to_words}
use Rattle.tc_sparkle_aead.specs.Message.{in_array}
use Rattle.tc_sparkle_aead.proofs.Fill.{fill_turn, fill_end}
use Rattle.tc_sparkle_aead.proofs.StateLaws.{all-in_array}
use Rattle.tc_sparkle_aead.proofs.ByteLaws.{to_words-at}
use Rattle.tc_sparkle_aead.proofs.bytes.words_in.Goals as goal

pub loop-k-preserved : goal.loop-k-preserved
loop-k-preserved c =
    let l = length-to_words c.args.bytes.now (omega arith) in
    fill_turn 8 (to_words c.args.bytes.now) c.loop-k.invariant
    (omega (arith, c.from_le_bytes.ensures, to_words-at c.args.bytes.now c.loop-k.k (omega arith))) (omega arith) (omega arith)

pub returns : goal.returns
returns c =
    let b = c.args.bytes.now in
    let n = length b / 4 in
    let known = c.type_inv.bytes in
    let l = length-to_words b (omega arith) in
    let whole : length b ≡ n * 4 = omega arith in
    rw (
      fill_end 8 (to_words b) c.loop-k.invariant (omega arith) (omega arith),
      whole,
      to_bytes-take n (in_array 8 (to_words b)),
      all-in_array n 8 (to_words b) l (omega arith),
    ) (to_bytes-to_words (below_of b (λ i. omega (arith, known i))) (omega arith))
