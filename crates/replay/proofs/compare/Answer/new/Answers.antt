-- The parts stand behind one another.
use Rattle.std.proofs.Common.{◌∙◌, ap, ℕ, List, take, arith}
use Rattle.host.specs.Bytes.{number_at}
use Rattle.replay.specs.Answers.{bytes_behind}
use Rattle.replay.proofs.AnswerLaws.{further}
use Rattle.replay.proofs.compare.Answer.new.Goals as goal

pub returns : goal.returns
unfolding bytes_behind
returns c =
    let a = c.args.answer.now in
    let bytes = c.in_ok-bytes.ensures.cases in
    let first = c.in_ok-first.ensures.cases in
    let second = c.in_ok-second.ensures.cases in
    let steps = c.in_ok-steps.ensures.cases in
    let last = c.in_ok-length.ensures.cases in
    let at10 = further a 2 8 bytes.1 first.1 in
    let at18 = further a 10 8 at10 second.1 in
    let at26 = further a 18 8 at18 steps.1 in (
      omega (arith, bytes.2, first.2, second.2, steps.2, last.2),
      c.number-4.ensures ∙ ap (λ (l : List ℕ). number_at l 0) (last.0 ∙ ap (take 8) at26),
      further a 26 8 at26 last.1,
    )
