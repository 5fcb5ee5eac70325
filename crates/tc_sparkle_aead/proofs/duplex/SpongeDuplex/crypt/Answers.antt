-- `crypt` xors the state's first words with the block's.
use Rattle.std.proofs.Common.{◌≡◌, ℕ, ◌<◌, length, get_or, arith, rules}
use lib.Bits.{bit_xor}
use Rattle.tc_sparkle_aead.proofs.DuplexLaws.{xors_by}
use Rattle.tc_sparkle_aead.proofs.duplex.SpongeDuplex.crypt.Goals as goal

pub returns : goal.returns
returns g c =
    let each : (i : ℕ) → i < 8 → get_or c.from_fn.result i 0 ≡ bit_xor (get_or c.args.self.state.words i 0) (get_or c.args.block i 0) = search rules in
    let hs : length c.args.self.state.words ≡ g.row.WORDS = search rules in
    let hb : length c.args.block ≡ 8 = search rules in
    xors_by c.args.self.state.words c.args.block _ c.from_fn.ensures.items.long hb (omega (arith, c.args.self.state.size)) each
