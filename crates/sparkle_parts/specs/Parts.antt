-- A run of steps made in parts (document 02, 2026-02).
use Rattle.std.specs.Prelude.{◌≡◌, ℕ, ◌+◌, ◌-◌, ◌%◌, ◌^◌, ◌<◌, min, List, [], ◌∷◌, length}
use Rattle.sparkle.specs.Words.{Words}
use Rattle.sparkle.specs.Sparkle.{sparkle_in, branches}
use Rattle.sparkle_parts.specs.declared.PartialRun.{PartialRun}

-- What a value of the struct has: an array of 16 words, and a number of 32 bits for the next step.
abbrev pub Valid : PartialRun → Type 0
Valid r = (length r.words ≡ 16) × Words r.words × (r.next < 2 ^ 32)

-- At most k of the steps that are left; the number of the next step wraps at 2^32.
unfoldable pub advance : ℕ → PartialRun → PartialRun
advance k r =
    record {
      size = r.size;
      words = sparkle_in (branches r.size) r.next (min k r.left) r.words;
      next = (r.next + min k r.left) % 2 ^ 32;
      left = r.left - min k r.left;
    }

-- The same with each number of a list in turn.
unfoldable pub advance_each : List ℕ → PartialRun → PartialRun
advance_each [] r = r
advance_each (k ∷ ks) r = advance_each ks (advance k r)

-- The sum of a list.
unfoldable pub sum : List ℕ → ℕ
sum [] = 0
sum (k ∷ ks) = k + sum ks
