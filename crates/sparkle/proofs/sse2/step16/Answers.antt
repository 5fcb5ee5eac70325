-- `step16` is a step on the state that the groups hold: the parts as lanes, put together by `step-lanes`.
use Rattle.std.proofs.Common.{ap, ◌∙◌, ap₂}
use lib.Bits.{bit_xor}
use Rattle.sparkle.specs.Sparkle.{rcon}
use Rattle.sparkle.specs.Lanes.{lanes2, shuffled, joined}
use Rattle.sparkle.proofs.LaneLaws.{step-lanes}
use Rattle.sparkle.proofs.sse2.step16.Goals as goal

pub returns : goal.returns
unfolding rcon joined
returns c number is_row =
    let g = c.args.g in
    let first = c.three_quarters-first in
    let low = c.quarter4-low in
    let second = c.three_quarters-second in
    let high = c.last4-high in
    let b = c.xor4 in
    step-lanes number g b.result low.result.x low.result.y high.result.x high.result.y
    c.xor4-3.result c.xor4-5.result
    (b.ensures ∙ ap (lanes2 bit_xor g.s1357) is_row)
    (low.ensures.0 ∙ first.ensures.0) (low.ensures.1 ∙ first.ensures.1)
    (high.ensures.0 ∙ second.ensures.0) (high.ensures.1 ∙ second.ensures.1)
    (c.xor4-3.ensures
    ∙ ap₂ (lanes2 bit_xor) c.ell_of_xor-y.ensures
    (c.shuffle4.ensures ∙ ap (shuffled 0x39) c.xor4-2.ensures))
    (c.xor4-5.ensures
    ∙ ap₂ (lanes2 bit_xor) c.ell_of_xor-x.ensures
    (c.shuffle4-2.ensures ∙ ap (shuffled 0x39) c.xor4-4.ensures))
