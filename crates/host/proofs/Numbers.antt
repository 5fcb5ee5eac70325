-- The library's numbers of eight bytes are those of the definitions.
use mathlib.Core.Path.{◌≡◌, refl, ◌∙◌}
use mathlib.Core.List.{List}
use Prim.Native.Nat.{ℕ, ◌+◌, ◌-◌, ◌≤◌}
use native.Mathlib.Omega.{arith}
use lib.ListN.{take, drop}
use Rattle.std.proofs.lemmas.List.{get_or-take, get_or-drop}
use Rattle.std.specs.Int.{w64, to_le_bytes, from_le_bytes}
use Rattle.host.specs.Bytes.{word_at, number_at, number}

-- a number that stands in the front of a list
pub number_in_front : (l : List ℕ) (k n : ℕ) → n + 8 ≤ k → number_at (take k l) n ≡ number_at l n
unfolding number_at word_at
number_in_front l k n h =
    rw (
      get_or-take k l n 0 (omega arith),
      get_or-take k l (n + 1) 0 (omega arith),
      get_or-take k l (n + 2) 0 (omega arith),
      get_or-take k l (n + 3) 0 (omega arith),
      get_or-take k l (n + 4) 0 (omega arith),
      get_or-take k l (n + 4 + 1) 0 (omega arith),
      get_or-take k l (n + 4 + 2) 0 (omega arith),
      get_or-take k l (n + 4 + 3) 0 (omega arith),
    )
    refl

-- the number that stands at a place, as the library reads it
pub number_of_bytes : (bytes : List ℕ) (at : ℕ) → from_le_bytes w64 (take (at + 8 - at) (drop at bytes)) ≡ number_at bytes at
unfolding number_at word_at
number_of_bytes bytes at =
    let n : at + 8 - at ≡ 8 = omega arith in
    let b = drop at bytes in
    let read : from_le_bytes w64 (take 8 b) ≡ number_at (take 8 b) 0 = omega arith in
    rw n (read ∙ number_in_front b 8 0 (omega arith) ∙ grind (arith, get_or-drop))

pub bytes_of_number : (n : ℕ) → to_le_bytes w64 n ≡ number n
unfolding number
bytes_of_number n = refl
