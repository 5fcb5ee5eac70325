-- `do_final` goes by its check, and where that passes by the direction; a check that passes gives the callees their room.
use Rattle.std.proofs.Common.{true, false, sym, ◌∙◌}
use Rattle.tc_sparkle_aead.specs.Engine.{current_key}
use Rattle.tc_sparkle_aead.proofs.FinalLaws.{Accepted, seal-fits, final_sealed, final_sealed_out, open_fits, final_opened, final_opened_out, final_refused, final_refused_out}
use Rattle.tc_sparkle_aead.proofs.aead_cipher.do_final.Goals as goal
use Rattle.tc_sparkle_aead.proofs.aead_cipher.do_final.Goals.{After-opening}

-- what is known behind the check, once the direction is asked for
accepted : (c : goal.After-opening)
    → Accepted
    c.args.e
    c.begin_data-data_point.result
    c.args.output.now
    c.in-Ok.n c.opening.result
accepted c =
    record {
      passed = sym (rw c.as_held.ensures at c.end_check-answer.ensures) ∙ c.in-Ok.is;
      begins = c.begin_data-data_point.ensures;
      direction = c.opening.ensures;
    }

pub returns-in_default : goal.returns-in_default
returns-in_default c =
    let s = c.args in
    let checked = rw c.as_held.ensures at c.end_check-answer.ensures in
    record { value = final_refused s.e s.output.now _ _ checked c.in_default.is; output_after = final_refused_out s.e s.output.now _ _ checked c.in_default.is }

pub open_end-end-requires : goal.open_end-end-requires
open_end-end-requires c = open_fits (accepted (goal.at.open_end-end-requires c).After-opening) c.if-opening.true

pub returns-then-end : goal.returns-then-end
unfolding current_key
returns-then-end c =
    let t = accepted (goal.at.returns-then-end c).After-opening in record {
      value = final_opened t c.if-opening.true _ c.begin_steps-first.ensures _ _
          c.open_end-end.ensures.value true c.if-end.true _ c.finish.ensures;
      output_after = final_opened_out t c.if-opening.true _ c.open_end-end.ensures.output_after;
    }

pub returns-then-opening : goal.returns-then-opening
unfolding current_key
returns-then-opening c =
    let t = accepted (goal.at.returns-then-opening c).After-opening in record {
      value = final_opened t c.if-opening.true _ c.begin_steps-first.ensures _ _
          c.open_end-end.ensures.value false c.if-end.false _ c.finish-then-opening.ensures;
      output_after = final_opened_out t c.if-opening.true _ c.open_end-end.ensures.output_after;
    }

pub seal_end-end-requires : goal.seal_end-end-requires
seal_end-end-requires c = seal-fits (accepted (goal.at.seal_end-end-requires c).After-opening) c.if-opening.false

pub returns : goal.returns
unfolding current_key
returns c =
    let t = accepted (goal.at.returns c).After-opening in record {
      value = final_sealed t c.if-opening.false _ c.begin_steps-first.ensures _ _
          c.seal_end-end.ensures.value _ c.finish-2.ensures;
      output_after = final_sealed_out t c.if-opening.false _ c.seal_end-end.ensures.output_after;
    }
