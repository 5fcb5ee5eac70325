-- What the first line is found to be, and the line at a place of the loop.
use Rattle.std.proofs.Common.{◌<◌, length, refl, sym, ap, ◌∙◌, add-one, arith}
use borrow.Author.Tests.{lt-ltb}
use Rattle.std.proofs.option.Match.{None-if_not_some}
use Rattle.call_text.specs.Line.{found_in, read_variant}
use Rattle.call_text.specs.List.{check_file}
use Rattle.call_text.proofs.ListSteps.{end_within, end_further, first_wrong, first_found, call_wrong, call_right, calls-end, is_something}
use Rattle.call_text.proofs.list.check.Goals as goal

pub returns-then-file-gt-FILE_BYTES : goal.returns-then-file-gt-FILE_BYTES
unfolding check_file
returns-then-file-gt-FILE_BYTES c = rw (lt-ltb 65536 (length c.args.file.now) c.if-file-gt-FILE_BYTES.true) refl

pub returns-in_default : goal.returns-in_default
returns-in_default c =
    let e = ap read_variant (sym c.line_at.ensures) ∙ sym c.variant_in.ensures ∙ c.in_default.is in
    sym (first_wrong c.args.file.now (omega arith) e)

pub loop-at-init : goal.loop-at-init
loop-at-init c =
    let file = c.args.file.now in
    let e = first_found file c.in-Some.v (omega arith) (ap read_variant (sym c.line_at.ensures) ∙ sym c.variant_in.ensures ∙ c.in-Some.is) in
    (rw c.line_end-at.ensures e, omega (arith, c.line_end-at.ensures, end_within file 0), omega arith)

pub returns-then-is_none : goal.returns-then-is_none
returns-then-is_none c =
    let l = c.loop-at in
    let e = ap found_in (sym c.line_at-in-loop-at.ensures) ∙ sym c.found_in.ensures ∙ None-if_not_some _ c.if-is_none.ensures in
    sym (l.invariant.0 ∙ call_wrong _ _ _ _ (omega arith) e)

pub loop-at-smaller : goal.loop-at-smaller
loop-at-smaller c =
    omega (arith, c.line_end-at-in-loop-at.ensures, end_further c.args.file.now c.loop-at.at (omega arith))

pub loop-at-preserved : goal.loop-at-preserved
loop-at-preserved c =
    let file = c.args.file.now in
    let at = c.loop-at.at in
    let k = c.loop-at.k in
    let here : at < length file = omega arith in
    let f = is_something _ c.if-is_none.ensures in
    let found = ap found_in (sym c.line_at-in-loop-at.ensures) ∙ sym c.found_in.ensures ∙ f.1 in
    let e = c.loop-at.invariant.0 ∙ call_right _ k file at here f.0 found in (
      rw (c.line_end-at-in-loop-at.ensures, add-one k) e,
      omega (arith, c.line_end-at-in-loop-at.ensures, end_within file at),
      omega (arith, c.line_end-at-in-loop-at.ensures, end_further file at here),
    )

pub returns : goal.returns
returns c =
    let l = c.loop-at in
    sym (l.invariant.0 ∙ calls-end c.in-Some.v l.k c.args.file.now l.at (omega arith))
