-- `permuted` runs a state whose words are 32-bit numbers, as an array's are.
use Rattle.std.proofs.Common.{◌/◌, sym, ap, ◌∙◌, arith}
use Rattle.sparkle.specs.Sparkle.{run, sparkle}
use Rattle.sparkle.proofs.Arrays.{array-words}
use Rattle.sparkle.proofs.Bounds.{state_of_words}
use Rattle.sparkle_bench.proofs.permuted.Goals as goal

pub returns : goal.returns
unfolding sparkle
returns g c =
    let b = g.row.N / 2 in
    c.run.ensures
    ∙ ap (run b c.args.first c.args.count)
    (sym (state_of_words b c.args.words (omega (arith, c.requires.2, c.well_formed.0.1.0.1)) (array-words c.args.words _ c.well_formed.0.1.1)))
