-- The four-group form's parts (document 01: "works on four groups of four words"): operations on lanes, and how the
-- four groups hold a state. A group is a list of four words.
use Rattle.std.specs.Prelude.{◌≡◌, ℕ, zero, suc, ◌/◌, ◌%◌, ◌^◌, List, [], ◌∷◌, ◌++◌, bit_xor, slice_index}
use Rattle.sparkle.specs.Sparkle.{rcon}
use Rattle.sparkle.specs.declared.scalar.Branch.{Branch}
use Rattle.sparkle.specs.declared.sse2.Groups.{Groups}

-- f 0, f 1, f 2, f 3.
abbrev pub four : (ℕ → ℕ) → List ℕ
four f = f 0 ∷ (f 1 ∷ (f 2 ∷ (f 3 ∷ [])))

-- An operation on each lane.
unfoldable pub lanes : (ℕ → ℕ) → List ℕ → List ℕ
lanes f v = four (λ i. f (slice_index v i))

unfoldable pub lanes2 : (ℕ → ℕ → ℕ) → List ℕ → List ℕ → List ℕ
lanes2 f u v = four (λ i. f (slice_index u i) (slice_index v i))

-- The lanes in another order: two bits of the control for each, as in the SSE2 instruction.
unfoldable pub shuffled : ℕ → List ℕ → List ℕ
shuffled control v = four (λ i. slice_index v (control / 4 ^ i % 4))

-- Branch i of the x words and the y words of four branches.
abbrev pub branch_at : List ℕ → List ℕ → ℕ → Branch
branch_at x y i = record { x = slice_index x i; y = slice_index y i }

-- A map of branches with a constant, on each lane with the lane's constant: the x words, and the y words.
unfoldable pub lanes_x : (ℕ → Branch → Branch) → List ℕ → List ℕ → List ℕ → List ℕ
lanes_x f rc x y = four (λ i. (f (slice_index rc i) (branch_at x y i)).x)

unfoldable pub lanes_y : (ℕ → Branch → Branch) → List ℕ → List ℕ → List ℕ → List ℕ
lanes_y f rc x y = four (λ i. (f (slice_index rc i) (branch_at x y i)).y)

-- The xor of the four lanes, in each of them.
unfoldable pub folded : List ℕ → List ℕ
folded v = four (λ i. bit_xor (bit_xor (bit_xor (slice_index v 0) (slice_index v 1)) (slice_index v 2)) (slice_index v 3))

-- In each lane, t and y agree from bit k on.
abbrev pub Above : ℕ → List ℕ → List ℕ → Type 0
Above k t y = lanes (λ x. x / 2 ^ k) t ≡ lanes (λ x. x / 2 ^ k) y

-- The words of four branches.
abbrev pub pairs : List ℕ → List ℕ → List ℕ
pairs x y =
    slice_index x 0
    ∷ (slice_index y 0 ∷ (slice_index x 1 ∷ (slice_index y 1 ∷ (slice_index x 2 ∷ (slice_index y 2 ∷ (slice_index x 3 ∷ (slice_index y 3 ∷ [])))))))

-- The state that four groups hold.
unfoldable pub joined : Groups → List ℕ
joined g = pairs g.s0246 g.s1357 ++ pairs g.s8ace g.s9bdf

-- The constants of step s in the lanes of words 1, 3, 5, 7.
unfoldable pub row : ℕ → List ℕ
row s = rcon (s % 8) ∷ (s % 2 ^ 32 ∷ (0 ∷ (0 ∷ [])))

-- The rows of n steps, one after the other, the first of them that of step s.
unfoldable pub rows_from : ℕ → ℕ → List (List ℕ)
rows_from s zero = []
rows_from s (suc n) = row s ∷ rows_from (suc s) n
