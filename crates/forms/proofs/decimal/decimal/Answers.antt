-- `decimal` meets its contract: the first digit, then turn by turn.
use Rattle.std.proofs.Common.{refl, sym, ap, ◌∙◌, ⊎_elim, arith}
use borrow.Author.Tests.{ne_eqb, lt-ltb, le-ltb}
use lib.ListN.{drop_of_length-le}
use Rattle.forms.specs.Decimal.{decimal_from, decimal_of}
use Rattle.forms.proofs.FormSteps.{decimal-more, decimal_stops}
use Rattle.forms.proofs.decimal.decimal.Goals as goal

pub returns-then-is_empty : goal.returns-then-is_empty
unfolding decimal_of
returns-then-is_empty c = rw (sym c.is_empty.ensures ∙ c.if-is_empty.true) refl

pub returns-then-s-gt1 : goal.returns-then-s-gt1
unfolding decimal_of
returns-then-s-gt1 c =
    rw (sym c.is_empty.ensures ∙ c.if-is_empty.false, c.if-s-eq48.true, lt-ltb 1 _ c.if-s-gt1.true) refl

pub loop-b-init : goal.loop-b-init
unfolding decimal_of
loop-b-init c =
    let some = sym c.is_empty.ensures ∙ c.if-is_empty.false in
    ⊎_elim (λ w. rw (some, w.0, le-ltb 1 _ w.1) refl) (λ ne. rw (some, ne_eqb _ 48 ne) refl) c.else-s-eq48.either

pub returns-in_err-n : goal.returns-in_err-n
returns-in_err-n c =
    let s = c.args.s.now in
    let stops = decimal_stops s c.loop-b.n c.loop-b.b-index (omega arith) (sym c.with_digit.ensures ∙ c.in_err-n.was) in
    c.from_residual.ensures ∙ sym (c.loop-b.invariant ∙ stops)

pub loop-b-preserved : goal.loop-b-preserved
loop-b-preserved c =
    let s = c.args.s.now in
    let more = decimal-more s c.loop-b.n _ c.loop-b.b-index (omega arith) (sym c.with_digit.ensures ∙ c.in_ok-n.was) in
    c.loop-b.invariant ∙ more

pub returns : goal.returns
unfolding decimal_from
returns c =
    let l = c.loop-b in
    sym (l.invariant ∙ ap (decimal_from l.n) (drop_of_length-le c.args.s.now c.loop-b-test.false))
