-- Data in blocks of `rate` bytes. `step` is what a block makes of the state, `out` what it gives; a state is a list of
-- words. The recursion is on the number of blocks.
use Rattle.std.specs.Prelude.{ℕ, zero, suc, ◌+◌, ◌-◌, ◌*◌, ◌/◌, List, [], ◌++◌, length, take, drop}

-- How many blocks of n bytes may go while `keep` bytes and one more must stay. Keep is 0 for a header and for sealing,
-- where the last block stays, and the tag's length for opening.
unfoldable pub ready : ℕ → ℕ → ℕ → ℕ
ready rate keep n = (n - (keep + 1)) / rate

-- The state after the first n blocks of d.
unfoldable pub after : ℕ → (List ℕ → List ℕ → List ℕ) → ℕ → List ℕ → List ℕ → List ℕ
after rate step zero s d = s
after rate step (suc n) s d = after rate step n (step s (take rate d)) (drop rate d)

-- What the first n blocks of d give.
unfoldable pub given : ℕ → (List ℕ → List ℕ → List ℕ) → (List ℕ → List ℕ → List ℕ) → ℕ → List ℕ → List ℕ → List ℕ
given rate step out zero s d = []
given rate step out (suc n) s d =
    out s (take rate d) ++ given rate step out n (step s (take rate d)) (drop rate d)

-- What stays of d after the blocks that are ready.
unfoldable pub held : ℕ → ℕ → List ℕ → List ℕ
held rate keep d = drop (ready rate keep (length d) * rate) d
