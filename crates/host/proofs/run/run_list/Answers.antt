-- The first byte names the variant; the calls follow.
use mathlib.Core.Path.{sym, ap, ◌∙◌}
use Prim.Native.Nat.{◌-◌}
use lib.ListN.{length}
use Rattle.tc_sparkle_aead.specs.Message.{written}
use Rattle.host.specs.CallList.{Ran}
use Rattle.std.proofs.lemmas.Option.{get_or_from_slice_get}
use Rattle.host.proofs.RunLaws.{list_refused, list_empty, list_run}
use Rattle.host.proofs.run.run_list.Goals as goal

pub returns-in_default : goal.returns-in_default
returns-in_default c =
    let w = list_empty c.args.list.now c.args.answers.now c.in_default.ensures.value in
    record { code = w.0; place = w.1; answers_after = w.2 }

pub returns-in_default-try_from : goal.returns-in_default-try_from
returns-in_default-try_from c =
    let v = get_or_from_slice_get c.args.list.now 0 _ 0 (sym c.in-Some.ensures.value) in
    let w = list_refused c.args.list.now c.args.answers.now (rw v c.in_default-try_from.ensures.0) in
    record { code = w.0; place = w.1; answers_after = w.2 }

pub returns : goal.returns
returns c =
    let list = c.args.list.now in
    let out = c.args.answers.now in
    let v = get_or_from_slice_get c.args.list.now 0 _ 0 (sym c.in-Some.ensures.value) in
    let same =
    list_run list (length out) _ c.new.result (rw v c.in-Ok.ensures.0) (rw v c.in-Ok.ensures.1) c.new.ensures in
    record {
      code = c.run_calls.ensures.code ∙ ap (λ (r : Ran). r.code) same;
      place = c.run_calls.ensures.place ∙ ap (λ (r : Ran). length list - r.left) same;
      answers_after = c.run_calls.ensures.answers_after ∙ ap (λ (r : Ran). written r.answers out) same;
    }
