-- The specification at its edges: the first step of the permutation, which variant repeats capacity words, and what an
-- empty message leaves.
use mathlib.Core.Path.{◌≡◌, refl}
use mathlib.Core.List.{List, [], ◌∷◌}
use Prim.Native.Nat.{ℕ, ◌+◌, ◌/◌}
use Rattle.sparkle.specs.Sparkle.{run, state, sparkle}
use Rattle.schwaemm.specs.Bytes.{if_empty}
use Rattle.schwaemm.specs.Schwaemm.{Params, permute, whitening, message, schwaemm128_128, schwaemm256_128, schwaemm192_192, schwaemm256_256}

-- The cipher's permutation starts at step 0 (document 02, 2026-02).
pub permute_from_step_0 : (p : Params) (k : ℕ) (s : List ℕ)
    → permute p k s ≡ run ((p.rate + p.key) / 8) 0 k (state ((p.rate + p.key) / 8) s)
unfolding permute sparkle
permute_from_step_0 p k s = refl

-- Only variant 2, whose rate is longer than its capacity, repeats its four capacity words.
module _ (a b c d : ℕ) where
  pub whitening_128_128 : whitening schwaemm128_128 (a ∷ (b ∷ (c ∷ (d ∷ [])))) ≡ a ∷ (b ∷ (c ∷ (d ∷ [])))
  unfolding whitening
  whitening_128_128 = refl

  pub whitening_256_128 : whitening schwaemm256_128 (a ∷ (b ∷ (c ∷ (d ∷ []))))
      ≡ a ∷ (b ∷ (c ∷ (d ∷ (a ∷ (b ∷ (c ∷ (d ∷ [])))))))
  unfolding whitening
  whitening_256_128 = refl

  module _ (e f : ℕ) where
    pub whitening_192_192 : whitening schwaemm192_192 (a ∷ (b ∷ (c ∷ (d ∷ (e ∷ (f ∷ []))))))
        ≡ a ∷ (b ∷ (c ∷ (d ∷ (e ∷ (f ∷ [])))))
    unfolding whitening
    whitening_192_192 = refl

    pub whitening_256_256 : (g h : ℕ) → whitening schwaemm256_256 (a ∷ (b ∷ (c ∷ (d ∷ (e ∷ (f ∷ (g ∷ (h ∷ []))))))))
        ≡ a ∷ (b ∷ (c ∷ (d ∷ (e ∷ (f ∷ (g ∷ (h ∷ [])))))))
    unfolding whitening
    whitening_256_256 g h = refl

-- An empty message takes no block: the state stays.
pub message-none : (p : Params) (plain : List ℕ → List ℕ → List ℕ) (s : List ℕ) → message p plain s [] ≡ s
unfolding message if_empty
message-none p plain s = refl
