-- `bytes_of` writes the bytes of all words over as many zeros.
use Rattle.std.proofs.Common.{◌≡◌, length, arith}
use Rattle.tc_sparkle_aead.proofs.ByteLaws.{bytes_over}
use Rattle.tc_sparkle_aead.proofs.bytes.bytes_of.Goals as goal

pub returns : goal.returns
returns c =
    let l : length c.args.words ≡ 16 = c.well_formed.0.1.0.1 in
    bytes_over c.args.words _ c.put_words.ensures (omega arith)
