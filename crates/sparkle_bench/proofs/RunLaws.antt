-- A run in place: a state that is copied out of a slice, run, and copied back is a run on the slice.
use Rattle.std.proofs.Common.{◌≡◌, ℕ, ◌+◌, List, ◌++◌, take, drop, ap, ap₂, ◌∙◌}
use Rattle.sparkle.specs.Sparkle.{sparkle, sparkle_in}

-- the words u are copied out, and v behind the run are copied back
pub laid_back : (b s k n : ℕ) (w u v : List ℕ) → n ≡ b + b → u ≡ take n w → v ≡ sparkle b s k u → v ++ drop n w ≡ sparkle_in b s k w
unfolding sparkle_in
laid_back b s k n w u v e copied ran =
    ap₂ ◌++◌ (ran ∙ ap (sparkle b s k) (copied ∙ ap (λ (m : ℕ). take m w) e)) (ap (λ (m : ℕ). drop m w) e)
