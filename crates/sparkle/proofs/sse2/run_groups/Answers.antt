-- `run_groups` runs twelve steps a turn and then those that are left. The code's table is the rows of steps 0 to 11.
use Rattle.std.proofs.Common.{◌≡◌, ℕ, ◌+◌, ◌-◌, ◌%◌, ◌<◌, ◌≤◌, List, refl, sym, ap, ◌∙◌, arith}
use Rattle.sparkle.specs.Sparkle.{rcon, run}
use Rattle.sparkle.specs.Lanes.{joined, row, rows_from}
use Rattle.sparkle.proofs.Runs.{run_add, run_none}
use Rattle.sparkle.proofs.sse2.run_groups.Goals as goal
use Rattle.sparkle.proofs.sse2.run_groups.Goals.{else-loop-first-test, then-loop-first-test+else-count-first-gt12}

pub returns-then-count-eq0 : goal.returns-then-count-eq0
returns-then-count-eq0 c = run_none 8 0 _ _ (omega arith)

pub loop-first-init : goal.loop-first-init
unfolding rcon row rows_from
loop-first-init c =
    let e : c.args.count - 0 ≡ c.args.count = omega arith in
    (omega arith, refl, omega arith, refl, ap (λ (n : ℕ). run 8 0 n (joined c.args.start)) e)

-- a turn makes twelve of the steps that are left, and the step `first` is the next
turn : (count first : ℕ) (g h start : List ℕ) → 12 ≤ first → first < count → h ≡ run 8 (first - 12) 12 g
    → run 8 (first - 12) (count - (first - 12)) g ≡ start → run 8 first (count - first) h ≡ start
turn count first g h start some more made left =
    let begun = first - 12 in
    let rest = count - first in
    let e : begun + 12 ≡ first = omega arith in
    let n : 12 + rest ≡ count - begun = omega arith in
    ap (λ (k : ℕ). run 8 k rest h) (sym e)
    ∙ ap (run 8 (begun + 12) rest) made
    ∙ sym (run_add 8 begun 12 rest g)
    ∙ ap (λ (k : ℕ). run 8 begun k g) n
    ∙ left

pub loop-first-preserved : goal.loop-first-preserved
loop-first-preserved c =
    let at = c.loop-first in
    let begun = at.first - 12 in
    let i = at.invariant in
    let made = c.run_rows-g.ensures begun i.3 in
    let e : at.first + 12 - 12 ≡ at.first = omega arith in (
      omega arith,
      omega (arith, i.1),
      omega (arith, c.loop-first-test.true),
      c.rows_from-rows.ensures ∙ ap (λ (k : ℕ). rows_from k 12) (sym e),
      ap (λ (k : ℕ). run 8 k (c.args.count - k) (joined c.run_rows-g.result)) e
          ∙ turn c.args.count at.first (joined at.g) _ _ i.0 c.loop-first-test.true made i.4,
    )

pub returns : goal.returns
returns c =
    let at = c.loop-first in
    let begun = at.first - 12 in
    let i = at.invariant in
    let count = c.args.count in
    elim c.loop-first-test.branch [
      | else-loop-first-test w ↦
          let n : (count - 1) % 12 + 1 ≡ count - begun = omega (arith, i.0, i.1, i.2, c.if-count-eq0.false, w.loop-first-test.false) in
          c.run_rows.ensures begun (w.rows-is ∙ i.3)
          ∙ ap (λ (k : ℕ). run 8 begun k (joined c.loop-first-test.g)) n
          ∙ ap (λ g. run 8 begun (count - begun) (joined g)) w.g-is
          ∙ i.4
      | then-loop-first-test+else-count-first-gt12 w ↦
          let n : (count - 1) % 12 + 1 ≡ count - at.first = omega (arith, i.0, i.1, i.2, w.loop-first-test.true) in
          c.run_rows.ensures at.first (w.rows-is ∙ w.rows_from-rows.ensures)
          ∙ ap (λ (k : ℕ). run 8 at.first k (joined c.loop-first-test.g)) n
          ∙ ap (λ g. run 8 at.first (count - at.first) (joined g)) w.g-is
          ∙ turn count at.first (joined at.g) _ _ i.0 w.loop-first-test.true (w.run_rows-g.ensures begun i.3) i.4
    ]
