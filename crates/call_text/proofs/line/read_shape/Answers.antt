-- `read_shape` meets its contract: byte after byte of the shape, then the line's end.
use Rattle.std.proofs.Common.{◌≡◌, ℕ, ◌≤◌, List, length, drop, refl, sym, ap, ◌∙◌, arith}
use Rattle.std.specs.Prelude.{Some}
use lib.ListN.{drop_of_length-le}
use Rattle.call_text.specs.declared.line.Fields.{Fields}
use Rattle.call_text.specs.Line.{start, compare_all}
use Rattle.call_text.proofs.LineSteps.{compare-more, compare_stops, fields_differ, fields_whole, fields_short}
use Rattle.call_text.proofs.line.read_shape.Goals as goal

pub loop-mark-init : goal.loop-mark-init
unfolding start
loop-mark-init c = refl

pub returns-in_err-f : goal.returns-in_err-f
returns-in_err-f c =
    let a = c.args in
    let l = c.loop-mark in
    let stops = compare_stops a.s.now l.f a.shape.now l.mark-index (omega arith) (sym c.compare.ensures ∙ c.in_err-f.was) in
    c.from_residual.ensures ∙ fields_differ a.s.now a.shape.now (l.invariant ∙ stops)

pub loop-mark-preserved : goal.loop-mark-preserved
loop-mark-preserved c =
    let a = c.args in
    let l = c.loop-mark in
    l.invariant ∙ compare-more a.s.now l.f _ a.shape.now l.mark-index (omega arith) (sym c.compare.ensures ∙ c.in_ok-f.was)

-- The whole shape.
whole : (s shape : List ℕ) (f : Fields) (i : ℕ) → length shape ≤ i
    → compare_all s start shape ≡ compare_all s f (drop i shape)
    → compare_all s start shape ≡ Some f
unfolding compare_all
whole s shape f i h e = e ∙ ap (compare_all s f) (drop_of_length-le shape {i = i} h)

pub returns-then-f-s : goal.returns-then-f-s
returns-then-f-s c =
    let a = c.args in
    let l = c.loop-mark in
    fields_whole _ _ _ (whole a.s.now a.shape.now l.f l.mark-index (omega arith) l.invariant) c.if-f-s.true

pub returns-else-f-s : goal.returns-else-f-s
returns-else-f-s c =
    let a = c.args in
    let l = c.loop-mark in
    fields_short _ _ _ (whole a.s.now a.shape.now l.f l.mark-index (omega arith) l.invariant) c.if-f-s.false
