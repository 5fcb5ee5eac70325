-- Runs of steps: i steps and then j are i + j steps, and only a step's number modulo 2^32 counts.
use Rattle.std.proofs.Common.{◌≡◌, ℕ, zero, suc, ◌+◌, ◌%◌, ◌^◌, ◌<◌, ◌≤◌, List, sym, refl, ap, ◌∙◌, ap₂, add-zero, suc-add, zero-add, arith}
use Rattle.sparkle.specs.Sparkle.{constants, step, run}

-- i steps from s and then j steps from s + i are i + j steps from s
pub run_add : (b s i j : ℕ) (w : List ℕ) → run b s (i + j) w ≡ run b (s + i) j (run b s i w)
unfolding run
run_add b s zero j w = ap₂ (λ (n t : ℕ). run b t n w) (zero-add j) (sym (add-zero s))
run_add b s (suc i) j w =
    ap (λ (n : ℕ). run b s n w) (suc-add i j) ∙ run_add b (suc s) i j (step b s w)
    ∙ ap (λ (t : ℕ). run b t j (run b (suc s) i (step b s w))) (omega arith)

-- a step depends on its number modulo 2^32
pub step_wraps : (b s t : ℕ) (w : List ℕ) → s % 2 ^ 32 ≡ t % 2 ^ 32 → step b s w ≡ step b t w
unfolding step constants
step_wraps b s t w h =
    let e : s % 8 ≡ t % 8 = omega arith in rw (h, e)

pub run_wraps : (b s t k : ℕ) (w : List ℕ) → s % 2 ^ 32 ≡ t % 2 ^ 32 → run b s k w ≡ run b t k w
unfolding run
run_wraps b s t zero w h = refl
run_wraps b s t (suc k) w h =
    ap (λ (v : List ℕ). run b (suc s) k v) (step_wraps b s t w h)
    ∙ run_wraps b (suc s) (suc t) k (step b t w) (omega arith)

-- one step more
pub run_next : (b s i : ℕ) (w : List ℕ) → step b (s + i) (run b s i w) ≡ run b s (i + 1) w
unfolding run
run_next b s i w = sym (run_add b s i 1 w)

-- the same with the step's number modulo 2^32, as the code counts it
pub run_next_wrapped : (b s i : ℕ) (w : List ℕ) {v u : List ℕ} → v ≡ run b s i w → u ≡ step b ((s + i) % 2 ^ 32) v → u ≡ run b s (i + 1) w
run_next_wrapped b s i w {v} before turn =
    turn ∙ step_wraps b ((s + i) % 2 ^ 32) (s + i) v (omega arith) ∙ ap (step b (s + i)) before ∙ run_next b s i w

-- with no step left, the run is over
pub run_none : (b s k : ℕ) (w : List ℕ) → k ≤ 0 → w ≡ run b s k w
unfolding run
run_none b s zero w h = refl
run_none b s (suc k) w h = absurd (omega arith)

-- the last of the steps that are left ends the run
pub run-last : (b first count s left : ℕ) (v₀ v w : List ℕ) → 0 < left → run b s left v ≡ run b first count v₀ → w ≡ step b s v → left ≤ 1
    → w ≡ run b first count v₀
unfolding run
run-last b first count s left v₀ v w some same turn last =
    let e : 1 ≡ left = omega arith in turn ∙ ap (λ (n : ℕ). run b s n v) e ∙ same
