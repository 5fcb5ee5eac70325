-- The number of branches of a state, from its number of words.
use Rattle.std.specs.Prelude.{ℕ, cond, eqb}

-- 4 for 8 words, 6 for 12, and 8 for any other number
abbrev pub branches_of : ℕ → ℕ
branches_of n = cond (eqb n 8) 4 (cond (eqb n 12) 6 8)
