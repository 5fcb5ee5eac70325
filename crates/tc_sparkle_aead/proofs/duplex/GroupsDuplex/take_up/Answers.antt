-- `take_up` permutes the words that a block makes of the state, as lanes.
use Rattle.std.proofs.Common.{◌≡◌, length, ap, ◌∙◌, ap₂, rules}
use lib.Bits.{bit_xor}
use Rattle.sparkle.specs.Words.{Words}
use Rattle.sparkle.proofs.Below.{below_of}
use Rattle.sparkle.specs.Sparkle.{run}
use Rattle.sparkle.specs.Lanes.{lanes2, joined}
use Rattle.tc_sparkle_aead.proofs.MixLaws.{words-joined, mix-lanes, every_other}
use Rattle.tc_sparkle_aead.proofs.duplex.GroupsDuplex.take_up.Goals as goal

pub returns : goal.returns
unfolding joined
returns c =
    let block = c.args.block in
    let h : length block ≡ 8 = search rules in
    let wa : Words c.args.self.s0246 = below_of _ (λ i. search rules) in
    let wb : Words c.args.self.s1357 = below_of _ (λ i. search rules) in
    let wc : Words c.args.self.s8ace = below_of _ (λ i. search rules) in
    let wd : Words c.args.self.s9bdf = below_of _ (λ i. search rules) in
    let ws = words-joined c.args.self wa wb wc wd in
    c.run_groups.ensures
    ∙ ap (run 8 0 c.args.steps)
    (mix-lanes c.args.self block _ _ c.args.mask _ c.bits-left.ensures ws h
    (c.xor4-3.ensures
    ∙ ap (λ l. lanes2 bit_xor l c.args.self.s8ace)
    (c.xor4-2.ensures
    ∙ ap₂ (lanes2 bit_xor) c.shuffle4.ensures
    (c.xor4.ensures
    ∙ ap (lanes2 bit_xor (every_other 0 block)) c.and4.ensures)))
    (c.xor4-6.ensures
    ∙ ap (λ l. lanes2 bit_xor l c.args.self.s9bdf)
    (c.xor4-5.ensures
    ∙ ap₂ (lanes2 bit_xor) c.shuffle4-2.ensures
    (c.xor4-4.ensures
    ∙ ap (lanes2 bit_xor (every_other 1 block)) c.and4-2.ensures))))
