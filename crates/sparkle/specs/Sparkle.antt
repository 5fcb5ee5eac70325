-- The Sparkle permutation, in the order and words of "Schwaemm and Esch" (the Sparkle submission, finalist edition)
-- and of document 01, "Down to the words". A state is a list of words x0 y0 x1 y1 .., two to a branch. Everything is
-- general in the number of branches, which is 4, 6 or 8 for the states of 8, 12 and 16 words.
use Rattle.std.specs.Prelude.{ℕ, zero, suc, ◌+◌, ◌%◌, ◌^◌, List, [], ◌∷◌, ◌++◌, map, take, drop, replicate, bit_xor, slice_index, slice_index_or, slice_set, Option, Some, None, cond, eqb}
use Rattle.sparkle.specs.Words.{addw, rotr, ell}
use Rattle.sparkle.specs.declared.scalar.Branch.{Branch}
use Rattle.sparkle.specs.declared.scalar.StateWords.{StateWords}
use Rattle.sparkle.specs.declared.scalar.StateWords.TheVariants.{Words8, Words12, Words16}

-- The eight round constants, RCON.
unfoldable pub rcon : ℕ → ℕ
rcon i =
    slice_index_or
    (0xb7e15162
    ∷ 0xbf715880
    ∷ 0x38b4da56
    ∷ 0x324e7738
    ∷ 0xbb1185eb
    ∷ 0x4f7c7b57
    ∷ 0xcfbfa1c8
    ∷ 0xc2b3293d
    ∷ [])
    i
    0

-- A quarter of the ARX box: x takes up y rotated by a, y takes up x rotated by b, x takes up the constant.
unfoldable pub quarter : ℕ → ℕ → ℕ → Branch → Branch
quarter a b c v =
    record {
      x = bit_xor (addw v.x (rotr a v.y)) c;
      y = bit_xor v.y (rotr b (addw v.x (rotr a v.y)));
    }

-- The ARX box with the constant c.
unfoldable pub arx_box : ℕ → Branch → Branch
arx_box c v = quarter 24 16 c (quarter 0 31 c (quarter 17 17 c (quarter 31 24 c v)))

-- Step s xors RCON[s mod 8] into word 1 and s, a 32-bit number, into word 3.
unfoldable pub constants : ℕ → List ℕ → List ℕ
constants s w = slice_set (slice_set w 1 (bit_xor (slice_index w 1) (rcon (s % 8)))) 3 (bit_xor (slice_index w 3) (s % 2 ^ 32))

-- An ARX box on each branch, that of branch i with RCON[i]; i is the number of the first branch given.
unfoldable pub boxes : ℕ → List ℕ → List ℕ
boxes i [] = []
boxes i (x ∷ []) = x ∷ []
boxes i (x ∷ (y ∷ w)) =
    (arx_box (rcon i) (record { x = x; y = y })).x ∷ ((arx_box (rcon i) (record { x = x; y = y })).y ∷ boxes (suc i) w)

-- The xor of acc and of the x words of a list of branches, and of its y words.
unfoldable pub xor_xs : ℕ → List ℕ → ℕ
xor_xs acc [] = acc
xor_xs acc (x ∷ []) = bit_xor acc x
xor_xs acc (x ∷ (y ∷ w)) = xor_xs (bit_xor acc x) w

unfoldable pub xor_ys : ℕ → List ℕ → ℕ
xor_ys acc [] = acc
xor_ys acc (x ∷ []) = acc
xor_ys acc (x ∷ (y ∷ w)) = xor_ys (bit_xor acc y) w

-- Two lists, xored word by word; as long as the shorter.
unfoldable pub xors : List ℕ → List ℕ → List ℕ
xors [] v = []
xors (a ∷ u) [] = []
xors (a ∷ u) (b ∷ v) = bit_xor a b ∷ xors u v

-- Each x word of a list of branches xored with a, each y word with b.
unfoldable pub xor_each : ℕ → ℕ → List ℕ → List ℕ
xor_each a b [] = []
xor_each a b (x ∷ []) = bit_xor x a ∷ []
xor_each a b (x ∷ (y ∷ w)) = bit_xor x a ∷ (bit_xor y b ∷ xor_each a b w)

-- The Feistel round: the right half r takes up the left half l and, in each branch, ell of l's y words in x and ell of
-- l's x words in y.
unfoldable pub feistel : List ℕ → List ℕ → List ℕ
feistel l r = xor_each (ell (xor_ys 0 l)) (ell (xor_xs 0 l)) (xors l r)

-- The linear layer of b branches, so with b words to a half: the right half after the Feistel round, moved by one
-- branch, becomes the left half, and the left half the right one.
unfoldable pub linear : ℕ → List ℕ → List ℕ
linear b w =
    drop 2 (feistel (take b w) (drop b w)) ++ take 2 (feistel (take b w) (drop b w)) ++ take b w

-- Step s on b branches.
unfoldable pub step : ℕ → ℕ → List ℕ → List ℕ
step b s w = linear b (boxes 0 (constants s w))

-- k steps on b branches, the first of them step s.
unfoldable pub run : ℕ → ℕ → ℕ → List ℕ → List ℕ
run b s zero w = w
run b s (suc k) w = run b (suc s) k (step b s w)

-- A list as a state of b branches: its first b + b words, each a 32-bit number, with zeros where there are fewer.
unfoldable pub state : ℕ → List ℕ → List ℕ
state b w = map (λ x. x % 2 ^ 32) (take (b + b) (w ++ replicate (b + b) 0))

-- The permutation of b branches with k steps, the first of them step s (document 02, 2026-02).
unfoldable pub sparkle : ℕ → ℕ → ℕ → List ℕ → List ℕ
sparkle b s k w = run b s k (state b w)

-- The permutation on an array: the words beyond the state's stay as they are.
unfoldable pub sparkle_in : ℕ → ℕ → ℕ → List ℕ → List ℕ
sparkle_in b s k w = sparkle b s k (take (b + b) w) ++ drop (b + b) w

-- The number of branches of a state.
abbrev pub branches : StateWords → ℕ
branches Words8 = 4
branches Words12 = 6
branches Words16 = 8

-- The state that has so many words, two to a branch, if one has.
unfoldable pub state_words : ℕ → Option StateWords
state_words n = cond (eqb n 8) (Some Words8) (cond (eqb n 12) (Some Words12) (cond (eqb n 16) (Some Words16) None))
