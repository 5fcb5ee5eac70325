-- The loop keeps `Reading`, and the depth falls with each form among the items.
use Rattle.std.proofs.Common.{◌-◌, length}
use Rattle.forms.specs.Form.{form_end}
use Rattle.forms.proofs.FormSteps.{Reading}
use Rattle.forms.proofs.form.+form_within.Given as goal

abbrev pub decreases-form_within : goal.decreases-form_within
decreases-form_within l = l.depth

abbrev pub invariant-loop-at : goal.invariant-loop-at
invariant-loop-at l = Reading (l.depth - 1) l.s l.at (form_end l.depth l.s)

abbrev pub decreases-loop-at : goal.decreases-loop-at
decreases-loop-at l = length l.s - l.at
