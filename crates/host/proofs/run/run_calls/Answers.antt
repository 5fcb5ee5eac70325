-- The loop keeps `Walking`: each turn is `walk_turn`, each way out one of `walk_end`, `walk_malformed`, `walk_no_room`.
use mathlib.Core.Path.{◌≡◌, sym, ap, ◌∙◌}
use Prim.Native.Nat.{ℕ, ◌+◌, ◌-◌, ◌≤◌, ◌<◌}
use native.Mathlib.Omega.{arith}
use borrow.Author.Tests.{leb-true}
use lib.ListN.{length, drop, length-take, length-drop}
use lib.Seq.{take_all}
use Rattle.std.proofs.Common.{rules}
use Rattle.host.proofs.RunLaws.{walk_start, walk_end, walk_malformed, walk_no_room, walk_turn, shorter}
use Rattle.host.proofs.run.run_calls.Goals as goal

pub loop-rest-init : goal.loop-rest-init
loop-rest-init c =
    let l = c.args.list.now in
    let size : length (drop 1 l) ≤ length l = simp length-drop (omega arith) in
    rw (take_all (length l - 1) (drop 1 l) (simp length-drop (omega arith)))
    (record { within = size; walking = walk_start (drop 1 l) c.args.answers.now c.args.first (length l) size })

pub returns-in_default : goal.returns-in_default
returns-in_default c =
    let more : 0 < length c.loop-rest.rest.now = search rules in
    let w = walk_malformed c.loop-rest.invariant.walking more c.in_default.ensures in
    record { code = w.0; place = ap (λ (k : ℕ). length c.args.list.now - k) w.1; answers_after = w.2 }

pub returns-then-not-fits : goal.returns-then-not-fits
returns-then-not-fits c =
    let more : 0 < length c.loop-rest.rest.now = search rules in
    let w =
    walk_no_room c.loop-rest.invariant.walking more c.in-Some.ensures c.shown_len-n.result c.shown_len-n.ensures
    (sym c.fits.ensures ∙ c.if-not-fits.true) in
    record { code = w.0; place = ap (λ (k : ℕ). length c.args.list.now - k) w.1; answers_after = w.2 }

pub loop-rest-smaller : goal.loop-rest-smaller
loop-rest-smaller c = shorter _ _ _ _ _ _ _ c.in-Some.ensures

pub loop-rest-preserved : goal.loop-rest-preserved
loop-rest-preserved c =
    let n = c.shown_len-n.result in
    let used = c.loop-rest.used in
    let more : 0 < length c.loop-rest.rest.now = search rules in
    let fits = sym c.fits.ensures ∙ c.if-not-fits.false in
    let room = leb-true _ _ fits in
    let part : used + 34 + n - used ≡ 34 + n = omega arith in
    let end : used + 34 + n ≡ used + (34 + n) = omega arith in
    let long : length c.answer-engine.new.out ≡ 34 + n =
    c.answer-engine.auto.out ∙ simp (length-take, length-drop) (omega (arith, room)) in
    record {
      within = omega (arith, c.loop-rest.invariant.within, shorter _ _ _ _ _ _ _ c.in-Some.ensures);
      walking = rw (part, end)
          (walk_turn c.loop-rest.invariant.walking more c.in-Some.ensures n c.shown_len-n.ensures fits c.answer-engine.result
          c.answer-engine.new.out c.answer-engine.ensures.value c.answer-engine.ensures.out_after long);
    }

pub returns : goal.returns
returns c =
    let none : length c.loop-rest.rest.now ≡ 0 = search rules in
    let w = walk_end c.loop-rest.invariant.walking none in
    record { code = w.0; place = omega (arith, w.1); answers_after = w.2 }
