-- Two runs past the step number 2^32 - 1, computed on the definition: the Rust original starts at step 0. The program
-- prints them too.
use mathlib.Core.Path.{◌≡◌, refl}
use mathlib.Core.List.{List, [], ◌∷◌}
use Prim.Native.Nat.{ℕ}
use Rattle.std.specs.List.{range_with_len}
use Rattle.sparkle.specs.Words.{addw, rotr, ell}
use Rattle.sparkle.specs.Sparkle.{rcon, quarter, arx_box, constants, boxes, xor_xs, xor_ys, xors, xor_each, feistel, linear, step, run, state, sparkle, sparkle_in}

-- `sparkle_in` on the array whose words are their places. The `unfolding` line opens the whole definition, for the theorems below too.
on_places : ℕ → ℕ → ℕ → List ℕ
unfolding addw rotr ell rcon quarter arx_box constants boxes xor_xs xor_ys xors xor_each feistel linear step run state sparkle sparkle_in
on_places b s k = sparkle_in b s k (range_with_len 0 16)

-- 8 words: steps 2^32 - 1 and 0
two_steps_of_8_words :
    on_places 4 0xffffffff 2
    ≡ 0x00dea8f6 ∷ 0x26246fc0 ∷ 0x22b117ac ∷ 0x573e1c63 ∷ 0xd2ce428e ∷ 0xd014d753 ∷ 0x584865ee ∷ 0xf846ffdc
    ∷ 0x00000008 ∷ 0x00000009 ∷ 0x0000000a ∷ 0x0000000b ∷ 0x0000000c ∷ 0x0000000d ∷ 0x0000000e ∷ 0x0000000f ∷ []
unfolding on_places
two_steps_of_8_words = refl

-- 16 words: steps 2^32 - 2, 2^32 - 1 and 0
three_steps_of_16_words :
    on_places 8 0xfffffffe 3
    ≡ 0x232018cc ∷ 0x4f9ec79c ∷ 0xc8b88a11 ∷ 0x538996c5 ∷ 0xa755e74e ∷ 0xbabb3431 ∷ 0x5b2aada0 ∷ 0xde5ea508
    ∷ 0xd9f172fb ∷ 0x6d6e7d38 ∷ 0x3a37999b ∷ 0xc388a75e ∷ 0xb29855ea ∷ 0xbf88d278 ∷ 0x3b57acc1 ∷ 0xb86b38e6 ∷ []
unfolding on_places
three_steps_of_16_words = refl
