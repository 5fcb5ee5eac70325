-- `sparkle_opt16` is the permutation of 16 words, by the runs of the groups that hold them.
use Rattle.std.proofs.Common.{ap, ◌∙◌}
use Rattle.sparkle.specs.Sparkle.{run}
use Rattle.sparkle.proofs.Arrays.{array-words}
use Rattle.sparkle.proofs.Bounds.{sparkle-whole}
use Rattle.sparkle.proofs.sse2.sparkle_opt16.Goals as goal

pub returns : goal.returns
returns c =
    let s = c.before in
    c.join.ensures ∙ c.run_groups.ensures
    ∙ ap (run 8 0 s.args.steps) c.split.ensures
    ∙ sparkle-whole 8 0 s.args.steps s.args.w s.well_formed.0.1.0.1 (array-words s.args.w _ s.well_formed.0.1.1)
