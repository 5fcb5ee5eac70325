-- `end` goes by its check, and where that passes by the direction; a check that passes gives the callees their room.
use Rattle.std.proofs.Common.{◌≡◌, ◌+◌, ◌-◌, ◌≤◌, true, false, length, sym, ◌∙◌, arith}
use Rattle.tc_aead_cipher.specs.Variant.{params_of}
use Rattle.tc_aead_cipher.specs.Checks.{end_check}
use Rattle.tc_sparkle_aead.proofs.WholeLaws.{end_fits, end-opened, end_opened_out, end_sealed, end_sealed_out, seal-fits, open_fits}
use Rattle.tc_sparkle_aead.proofs.whole.end.Goals as goal
use Rattle.tc_sparkle_aead.proofs.whole.end.Goals.{After-opening}

-- the check at the point, and the room where it has passed
checked : (c : goal.After-opening)
    → let a = c.args in
    c.end_check.result ≡ end_check (params_of a.start.variant) a.at.phase a.at.held (length a.output.now - a.n)
checked c = rw c.as_held.ensures at c.end_check.ensures

counted : (c : goal.After-opening)
    → c.args.n + c.in_ok-m.m ≤ length c.args.output.now
counted c =
    let a = c.args in
    end_fits a.start.variant a.at a.start.key.now a.n a.output.now _ (checked c) _ c.in_ok-m.was c.requires.1

pub open_end-opened-requires : goal.open_end-opened-requires
open_end-opened-requires c =
    let a = c.args in
    open_fits a.start.variant a.at a.start.key.now a.n a.output.now _ (checked (goal.at.open_end-opened-requires c).After-opening) _ c.in_ok-m.was c.requires.0
    (sym c.opening.ensures ∙ c.if-opening.true)

pub overflow_add-result : goal.overflow_add-result
overflow_add-result c =
    omega (arith, counted (goal.at.overflow_add-result c).After-opening, c.well_formed)

pub returns-then-opened : goal.returns-then-opened
returns-then-opened c =
    let a = c.args in record {
      value = end-opened a.start.variant a.at a.start.key.now a.n a.output.now _ (checked (goal.at.returns-then-opened c).After-opening) _ c.in_ok-m.was a.start.key_fits
          _ c.in_array-key.ensures _ c.opening.ensures c.if-opening.true _ c.open_end-opened.ensures.value true c.if-opened.true;
      output_after = end_opened_out a.start.variant a.at a.start.key.now a.n a.output.now _ (checked (goal.at.returns-then-opened c).After-opening) _ c.in_ok-m.was a.start.key_fits
          _ c.in_array-key.ensures _ c.opening.ensures c.if-opening.true _ c.open_end-opened.ensures.value _ c.open_end-opened.ensures.output_after;
    }

pub returns-then-opening : goal.returns-then-opening
returns-then-opening c =
    let a = c.args in record {
      value = end-opened a.start.variant a.at a.start.key.now a.n a.output.now _ (checked (goal.at.returns-then-opening c).After-opening) _ c.in_ok-m.was a.start.key_fits
          _ c.in_array-key.ensures _ c.opening.ensures c.if-opening.true _ c.open_end-opened.ensures.value false c.if-opened.false;
      output_after = end_opened_out a.start.variant a.at a.start.key.now a.n a.output.now _ (checked (goal.at.returns-then-opening c).After-opening) _ c.in_ok-m.was a.start.key_fits
          _ c.in_array-key.ensures _ c.opening.ensures c.if-opening.true _ c.open_end-opened.ensures.value _ c.open_end-opened.ensures.output_after;
    }

pub seal_end-requires : goal.seal_end-requires
seal_end-requires c =
    let a = c.args in
    seal-fits a.start.variant a.at a.start.key.now a.n a.output.now _ (checked (goal.at.seal_end-requires c).After-opening) _ c.in_ok-m.was c.requires.0
    (sym c.opening.ensures ∙ c.if-opening.false)

pub overflow_add-result-2 : goal.overflow_add-result-2
overflow_add-result-2 c =
    omega (arith, counted (goal.at.overflow_add-result-2 c).After-opening, c.well_formed)

pub returns : goal.returns
returns c =
    let a = c.args in record {
      value = end_sealed a.start.variant a.at a.start.key.now a.n a.output.now _ (checked (goal.at.returns c).After-opening) _ c.in_ok-m.was a.start.key_fits
          _ c.in_array-key.ensures _ c.opening.ensures c.if-opening.false;
      output_after = end_sealed_out a.start.variant a.at a.start.key.now a.n a.output.now _ (checked (goal.at.returns c).After-opening) _ c.in_ok-m.was a.start.key_fits
          _ c.in_array-key.ensures _ c.opening.ensures c.if-opening.false _ c.seal_end.ensures.output_after;
    }
