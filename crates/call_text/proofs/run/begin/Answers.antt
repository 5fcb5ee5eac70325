-- The refusal, or the title and a new engine of the variant.
use Rattle.std.proofs.Common.{ap, ◌∙◌}
use Rattle.tc_aead_cipher.specs.declared.reply.Reply.{Reply}
use Rattle.tc_aead_cipher.specs.Reply.{refusal_of}
use Rattle.sheet_text.specs.Text.{refusal_text}
use Rattle.call_text.proofs.RunSteps.{begin_refused, begin_accepted}
use Rattle.call_text.proofs.run.begin.Goals as goal

pub returns-in-Err : goal.returns-in-Err
returns-in-Err c =
    let text = c.refusal.ensures ∙ ap (λ (r : Reply). refusal_text (refusal_of r)) c.from.ensures in
    begin_refused c.args.file.now c.check.ensures _ c.in-Err.is text c.new.ensures

pub returns-in-Ok : goal.returns-in-Ok
returns-in-Ok c =
    begin_accepted c.args.file.now c.check.ensures _ c.in-Ok.is c.title.ensures c.new-in-Ok.ensures c.line_end.ensures
