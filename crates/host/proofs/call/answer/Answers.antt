-- What is lent is the third run, and what is shown the output or the tag; in front stands the head.
use mathlib.Core.Path.{◌∙◌}
use native.Mathlib.Omega.{arith}
use Rattle.host.proofs.AnswerLaws.{Lent, Tagged, answer_is}
use Rattle.host.proofs.call.answer.Goals as goal
use Rattle.host.proofs.call.answer.Goals.{in-Data, in_default, in-Mac, in_default-kind}

pub returns : goal.returns
returns c =
    let k = c.args.call in
    let lent : Lent k.kind k.third.now c.match-call.shown =
    elim c.match-call.branch [
      | in-Data w ↦ (let e = w.shown-is ∙ w.copy.ensures in (λ is. e, λ is. e))
      | in_default w ↦ (λ is. absurd (w.in_default.not-Data is), λ is. absurd (w.in_default.not-Final is))
    ] in
    let tagged : Tagged k.kind c.mac-tag.result c.make-called.new.output c.match-call-2.shown =
    elim c.match-call-2.branch [
      | in-Mac w ↦ (λ is. w.shown-is ∙ w.copy_from_slice.ensures.after, λ not. absurd (not w.in-Mac.is))
      | in_default-kind w ↦ (λ is. absurd (w.in_default-kind.not-Mac is), λ not. w.shown-is)
    ] in
    let w =
    answer_is c.args.e k.number k.first.now k.second.now k.third.now _ k.kind lent c.make-called.result _ _ _ _ _ _
    c.make-called.ensures.value c.from-reply.ensures c.make-called.ensures.output_after c.mac-tag.ensures c.steps-steps.ensures tagged
    (omega (arith, c.match-call-2.auto.shown, c.make-called.auto.output, c.match-call.auto.shown, c.split_at_mut-head.ensures.back_len, c.requires))
    c.put_head.ensures in
    record { value = w.0; out_after = w.1 }
