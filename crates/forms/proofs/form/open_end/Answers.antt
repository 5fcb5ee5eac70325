-- Where a form opens there is a byte.
use Rattle.std.proofs.Common.{sym, ◌∙◌, arith}
use Rattle.forms.specs.Form.{is_open}
use Rattle.forms.proofs.FormSteps.{some_byte}
use Rattle.forms.proofs.form.open_end.Goals as goal

pub slice_bounds-front-count : goal.slice_bounds-front-count
unfolding is_open
slice_bounds-front-count c =
    some_byte c.args.s.now 40 (omega arith) (sym c.is_open.ensures ∙ c.if-not-is_open.false)

pub slice_bounds-front-start : goal.slice_bounds-front-start
unfolding is_open
slice_bounds-front-start c =
    some_byte c.args.s.now 40 (omega arith) (sym c.is_open.ensures ∙ c.if-not-is_open.false)
