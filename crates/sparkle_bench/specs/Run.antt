-- A run on the words at the head of a slice (document 02, 2026-02).
use Rattle.std.specs.Prelude.{ℕ, ◌/◌, Bool, cond, ◌&&◌, ◌||◌, List, eqb, leb, length}
use Rattle.sparkle.specs.Sparkle.{sparkle_in}
use Rattle.sparkle.specs.declared.scalar.StateWords.{StateWords}
use Rattle.sparkle.specs.declared.scalar.StateWords.TheVariants.{Words8, Words12, Words16}

-- The number of words of a state.
abbrev pub word_count : StateWords → ℕ
word_count Words8 = 8
word_count Words12 = 12
word_count Words16 = 16

-- Whether a slice begins with a state of n words: n is 8, 12 or 16, and the slice is not shorter.
unfoldable pub begins_with_state : ℕ → List ℕ → Bool
begins_with_state n w = (eqb n 8 || eqb n 12 || eqb n 16) && leb n (length w)

-- What is returned: 0, or 1 where there is no such state.
unfoldable pub run_reply : ℕ → List ℕ → ℕ
run_reply n w = cond (begins_with_state n w) 0 1

-- The words afterwards: k steps on the state's, the first of them step s, or as they were where there is none.
unfoldable pub sparkle_run : ℕ → ℕ → ℕ → List ℕ → List ℕ
sparkle_run n s k w = cond (begins_with_state n w) (sparkle_in (n / 2) s k w) w
