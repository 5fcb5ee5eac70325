-- A count, or a refusal.
use borrow.Author.Tests.{eq-eqb, ne_eqb}
use Rattle.sheet_text.proofs.TextArray.{◌⨾◌}
use Rattle.sheet_text.proofs.text.Text.push_outcome.Goals as goal

pub returns-then-reply-eq0 : goal.returns-then-reply-eq0
returns-then-reply-eq0 c =
    rw (eq-eqb _ 0 c.if-reply-eq0.true) (c.push.ensures ⨾ c.push_number.ensures ⨾ c.push-then-reply-eq0.ensures)

pub returns-else-reply-eq0 : goal.returns-else-reply-eq0
returns-else-reply-eq0 c =
    rw (ne_eqb _ 0 c.if-reply-eq0.false)
    (c.push-else-reply-eq0.ensures ⨾ c.push_refusal.ensures ⨾ c.push-else-reply-eq0-2.ensures)
