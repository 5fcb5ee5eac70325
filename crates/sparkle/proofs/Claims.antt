-- What document 02's request 2026-02 promises of `sparkle_in`, the definition that the permutation's contract cites. A
-- state has b + b words; the b of the three sizes is 4, 6 or 8 (`branches`), and the laws hold for every b.
use Rattle.std.proofs.Common.{◌≡◌, ℕ, ◌+◌, ◌-◌, ◌%◌, ◌^◌, ◌<◌, ◌≤◌, List, ◌∷◌, ◌++◌, length, take, drop, sym, refl, ap, ◌∙◌, ap₂, mod-eq_of_lt, arith, length-append, length-drop, take-append-drop, length-take-le, take_at, drop_at}
use lib.Bits.{bit_xor}
use Rattle.sparkle.specs.Words.{Words}
use Rattle.sparkle.specs.Sparkle.{rcon, constants, boxes, linear, step, run, state, sparkle, sparkle_in}
use Rattle.sparkle.proofs.Lengths.{length-sparkle}
use Rattle.sparkle.proofs.Below.{below-take}
use Rattle.sparkle.proofs.Bounds.{words-sparkle, state_of_words}
use Rattle.sparkle.proofs.Runs.{run_add, step_wraps, run_wraps}

-- "Running a steps from s and then b steps from s + a equals a + b steps from s": here b is the number of branches, and i
-- and j are the request's a and b. It holds for every array; s + i is taken modulo 2^32. The request asks for it where
-- i + j is below 2^32, as a count is.
pub a_run_in_two : (b s i j : ℕ) (w : List ℕ)
    → sparkle_in b ((s + i) % 2 ^ 32) j (sparkle_in b s i w) ≡ sparkle_in b s (i + j) w
unfolding sparkle sparkle_in
a_run_in_two b s i j w =
    let v = run b s i (state b (take (b + b) w)) in
    let head : take (b + b) (v ++ drop (b + b) w) ≡ v = take_at v _ (b + b) (length-sparkle b s i (take (b + b) w)) in
    ap₂ ◌++◌
    (ap (λ (l : List ℕ). run b ((s + i) % 2 ^ 32) j (state b l)) head
    ∙ ap (run b ((s + i) % 2 ^ 32) j) (state_of_words b v (length-sparkle b s i (take (b + b) w)) (words-sparkle b s i (take (b + b) w)))
    ∙ run_wraps b ((s + i) % 2 ^ 32) (s + i) j v (omega arith)
    ∙ sym (run_add b s i j (state b (take (b + b) w))))
    (drop_at v _ (b + b) (length-sparkle b s i (take (b + b) w)))

-- The words beyond the state stay.
pub words_beyond_stay : (b s k : ℕ) (w : List ℕ) → drop (b + b) (sparkle_in b s k w) ≡ drop (b + b) w
unfolding sparkle_in
words_beyond_stay b s k w = drop_at (sparkle b s k (take (b + b) w)) _ (b + b) (length-sparkle b s k (take (b + b) w))

-- An array that holds a state keeps its length.
pub length_stays : (b s k : ℕ) (w : List ℕ) → b + b ≤ length w → length (sparkle_in b s k w) ≡ length w
unfolding sparkle_in
length_stays b s k w h = simp (length-append, length-drop, length-sparkle) (omega arith)

-- From step 0: the run of the state from step 0, and the words beyond it.
pub from_step_0 : (b k : ℕ) (w : List ℕ) → sparkle_in b 0 k w ≡ run b 0 k (state b (take (b + b) w)) ++ drop (b + b) w
unfolding sparkle sparkle_in
from_step_0 b k w = refl

-- Step s, for every number of 32 bits (document 01): RCON[s mod 8] is xored into word 1 and s into word 3.
pub step_by_its_number : (b s x0 y0 x1 y1 : ℕ) (w : List ℕ) → s < 2 ^ 32
    → step b s (x0 ∷ (y0 ∷ (x1 ∷ (y1 ∷ w)))) ≡ linear b (boxes 0 (x0 ∷ (bit_xor y0 (rcon (s % 8)) ∷ (x1 ∷ (bit_xor y1 s ∷ w)))))
unfolding step constants
step_by_its_number b s x0 y0 x1 y1 w h =
    ap (λ (n : ℕ). linear b (boxes 0 (x0 ∷ (bit_xor y0 (rcon (s % 8)) ∷ (x1 ∷ (bit_xor y1 n ∷ w)))))) (mod-eq_of_lt h)

-- On an array of words that holds a state, which is every array that the code has.
module _ (b : ℕ) (w : List ℕ) (long : b + b ≤ length w) (words : Words w) where
  -- what is run: no word is cut, padded or reduced
  pub runs_the_state : (s k : ℕ) → sparkle_in b s k w ≡ run b s k (take (b + b) w) ++ drop (b + b) w
  unfolding sparkle sparkle_in
  runs_the_state s k =
      ap (λ (l : List ℕ). run b s k l ++ drop (b + b) w)
      (state_of_words b (take (b + b) w) (length-take-le (b + b) w long) (below-take (b + b) words))

  -- 0 steps change nothing
  pub no_steps_lem : (s : ℕ) → sparkle_in b s 0 w ≡ w
  unfolding run
  no_steps_lem s = runs_the_state s 0 ∙ take-append-drop (b + b) w

  -- 1 step is step s
  pub one-step : (s : ℕ) → sparkle_in b s 1 w ≡ step b s (take (b + b) w) ++ drop (b + b) w
  unfolding run
  one-step s = runs_the_state s 1

  -- "the step number wraps at 2^32": the two steps from 2^32 - 1 on are steps 2^32 - 1 and 0
  pub step_number_wraps : sparkle_in b (2 ^ 32 - 1) 2 w ≡ step b 0 (step b (2 ^ 32 - 1) (take (b + b) w)) ++ drop (b + b) w
  unfolding run
  step_number_wraps =
      runs_the_state (2 ^ 32 - 1) 2
      ∙ ap (λ (l : List ℕ). l ++ drop (b + b) w) (step_wraps b (2 ^ 32) 0 (step b (2 ^ 32 - 1) (take (b + b) w)) refl)
