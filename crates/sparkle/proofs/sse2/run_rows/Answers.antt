-- `run_rows` runs `count` steps: a turn reads the row of the next step from the table, and `run_next` takes the step up.
use Rattle.std.proofs.Common.{◌≡◌, ℕ, ◌+◌, ◌<◌, List, [], get_or, ap, ◌∙◌, arith}
use Rattle.sparkle.specs.Sparkle.{run, step}
use Rattle.sparkle.specs.Lanes.{joined, rows_from}
use Rattle.sparkle.proofs.Runs.{run_none, run_next}
use Rattle.sparkle.proofs.Rows.{row_at}
use Rattle.sparkle.proofs.sse2.run_rows.Goals as goal
use Rattle.sparkle.proofs.sse2.run_rows.Goals.{After-step16-g}

pub loop-s-init : goal.loop-s-init
loop-s-init c = (c.requires.0, λ first table. run_none 8 first 0 _ (omega arith))

-- the steps so far and that of a turn, by its row
turn : (c : After-step16-g) (first : ℕ) → c.args.rows ≡ rows_from first 12 → joined c.step16-g.result ≡ run 8 first (c.loop-s.s + 1) (joined c.args.start)
turn c first table =
    let s = c.loop-s.s in
    let in_table : s < 12 = omega (arith, c.loop-s.invariant.0, c.requires.1) in
    c.step16-g.ensures (first + s)
    (ap (λ (l : List (List ℕ)). get_or l s []) table ∙ row_at first 12 s in_table)
    ∙ ap (step 8 (first + s)) (c.loop-s.invariant.1 first table)
    ∙ run_next 8 first s _

pub loop-s-preserved : goal.loop-s-preserved
loop-s-preserved c =
    let some = c.loop-s.invariant.0 in
    (omega arith, turn c.before)

pub returns : goal.returns
returns c first table =
    turn c.before first table ∙ ap (λ (n : ℕ). run 8 first n (joined c.args.start)) (omega arith)
