-- The items' bytes, and the front of an array of zeros.
use Rattle.std.proofs.Common.{refl, ap, ◌∙◌, min, arith}
use Rattle.tc_sparkle_aead.specs.Message.{zeros}
use Rattle.call_text.proofs.RunSteps.{lent, same-call}
use Rattle.call_text.proofs.run.call_with.Goals as goal

pub returns : goal.returns
unfolding zeros
returns g c =
    let a = c.args in
    let out = lent _ g.row.OUT (omega (arith, c.min.ensures)) refl ∙ ap zeros {y = min a.f.room g.row.OUT} c.min.ensures in
    same-call a.e a.f.kind a.f.number _ c.decoded.ensures c.decoded-2.ensures c.decoded-3.ensures out c.make.ensures.value
