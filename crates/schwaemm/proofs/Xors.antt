-- Laws of `xors`, which xors two lists element by element and is as long as the shorter.
use mathlib.Core.Path.{◌≡◌, refl, sym, ap, ◌∙◌}
use mathlib.Core.List.{List, [], ◌∷◌}
use Prim.Native.Nat.{ℕ, zero, suc, ◌≤◌, ◌<◌}
use native.Mathlib.Omega.{arith}
use lib.ListN.{length, take, get_or}
use lib.Seq.{take_all}
use lib.Bits.{bit_xor, xor_comm}
use Rattle.sparkle.specs.Sparkle.{xors}
use Rattle.sparkle.proofs.Lengths.{length-xors}
use Rattle.sparkle.proofs.Xor.{xor_cancel}

-- what is xored in twice is gone
pub xor_undo : (a b : ℕ) → bit_xor a (bit_xor a b) ≡ b
xor_undo a b = cc (xor_comm a (bit_xor a b), xor_comm a b, xor_cancel b a)

pub xors_undo : (k b : List ℕ) → length b ≤ length k → xors k (xors k b) ≡ b
unfolding xors
xors_undo [] [] h = refl
xors_undo [] (y ∷ b) h = absurd (omega arith)
xors_undo (x ∷ k) [] h = refl
xors_undo (x ∷ k) (y ∷ b) h = λ i. xor_undo x y i ∷ xors_undo k b (omega arith) i

pub xors-take : (n : ℕ) (u v : List ℕ) → take n (xors u v) ≡ xors (take n u) (take n v)
unfolding xors
xors-take zero u v = refl
xors-take (suc n) [] v = refl
xors-take (suc n) (a ∷ u) [] = refl
xors-take (suc n) (a ∷ u) (b ∷ v) = ap (◌∷◌ (bit_xor a b)) (xors-take n u v)

-- of the first list no more counts than the second is long
pub xors_enough : (n : ℕ) (u v : List ℕ) → length v ≤ n → xors (take n u) v ≡ xors u v
xors_enough n u v h =
    ap (xors (take n u)) (sym (take_all n v h)) ∙ sym (xors-take n u v)
    ∙ take_all n (xors u v) (omega (arith, length-xors u v))

pub xors-at : (u v : List ℕ) (i : ℕ) → i < length u → i < length v → get_or (xors u v) i 0 ≡ bit_xor (get_or u i 0) (get_or v i 0)
unfolding xors
xors-at [] v i h k = absurd (omega arith)
xors-at (a ∷ u) [] i h k = absurd (omega arith)
xors-at (a ∷ u) (b ∷ v) zero h k = refl
xors-at (a ∷ u) (b ∷ v) (suc i) h k = xors-at u v i (omega arith) (omega arith)
