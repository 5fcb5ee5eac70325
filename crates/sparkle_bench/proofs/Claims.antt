-- What `sparkle_run` promises (document 02, 2026-02): when it runs and when it does not, and that a run may be made in two.
use mathlib.Core.Path.{◌≡◌, refl}
use mathlib.Core.Bool.{◌||◌, and-false}
use mathlib.Core.Logic.{◌⊎◌, inl, inr, ◌≢◌}
use mathlib.Core.List.{List}
use Prim.Native.Nat.{ℕ, ◌+◌, ◌%◌, ◌^◌, ◌≤◌, ◌<◌}
use native.Mathlib.Omega.{arith}
use borrow.Author.Tests.{ne_eqb, le-leb, lt-leb}
use lib.Dec.{eqb}
use lib.ListN.{length}
use Rattle.sparkle.specs.Sparkle.{sparkle_in, branches}
use Rattle.sparkle.specs.declared.scalar.StateWords.{StateWords}
use Rattle.sparkle.specs.declared.scalar.StateWords.TheVariants.{Words8, Words12, Words16}
use Rattle.sparkle.proofs.Claims.{a_run_in_two, length_stays}
use Rattle.sparkle_bench.specs.Run.{word_count, begins_with_state, run_reply, sparkle_run}

-- a slice that begins with a state: 0, and the steps are run on it
pub a_state_is_run : (size : StateWords) (s k : ℕ) (w : List ℕ) → word_count size ≤ length w
    → (run_reply (word_count size) w ≡ 0) × (sparkle_run (word_count size) s k w ≡ sparkle_in (branches size) s k w)
unfolding begins_with_state run_reply sparkle_run
a_state_is_run Words8 s k w h = rw (le-leb _ _ h) (refl, refl)
a_state_is_run Words12 s k w h = rw (le-leb _ _ h) (refl, refl)
a_state_is_run Words16 s k w h = rw (le-leb _ _ h) (refl, refl)

-- a size that no state has, or a shorter slice: 1, and the words are as they were
pub words_of_no_state_stay : (n s k : ℕ) (w : List ℕ) → ((n ≢ 8) × (n ≢ 12) × (n ≢ 16)) ⊎ (length w < n)
    → (run_reply n w ≡ 1) × (sparkle_run n s k w ≡ w)
unfolding begins_with_state run_reply sparkle_run
words_of_no_state_stay n s k w (inl h) = rw (ne_eqb n 8 h.0, ne_eqb n 12 h.1, ne_eqb n 16 h.2) (refl, refl)
words_of_no_state_stay n s k w (inr h) = rw (lt-leb _ _ h, and-false (eqb n 8 || eqb n 12 || eqb n 16)) (refl, refl)

-- a state has two words to a branch
word_count_lem : (size : StateWords) → branches size + branches size ≡ word_count size
word_count_lem Words8 = refl
word_count_lem Words12 = refl
word_count_lem Words16 = refl

-- two calls, the second from the step behind the first one's last, are one
pub two_calls_are_one : (size : StateWords) (s i j : ℕ) (w : List ℕ) → word_count size ≤ length w
    → sparkle_run (word_count size) ((s + i) % 2 ^ 32) j (sparkle_run (word_count size) s i w) ≡ sparkle_run (word_count size) s (i + j) w
two_calls_are_one size s i j w h =
    let b = branches size in
    let e = word_count_lem size in
    let long = length_stays b s i w (omega arith) in
    rw ((a_state_is_run size s i w h).1, (a_state_is_run size s (i + j) w h).1, (a_state_is_run size ((s + i) % 2 ^ 32) j (sparkle_in b s i w) (omega arith)).1)
    (a_run_in_two b s i j w)
