-- A loop that compares two lists, one element a turn: whether their first i elements are the same.
use Rattle.std.proofs.Common.{◌≡◌, ℕ, zero, suc, ◌+◌, ◌<◌, Bool, ◌&&◌, eqb, List, [], ◌∷◌, length, get_or, take, add-one, arith}
use Rattle.std.proofs.lemmas.Bool.Decides.{nat_tests}
use Rattle.schwaemm.specs.Bytes.{same}

turn : (a b : List ℕ) (i : ℕ) → i < length a → i < length b → same (take i a) (take i b) && eqb (get_or a i 0) (get_or b i 0) ≡ same (take (suc i) a) (take (suc i) b)
unfolding same
turn [] b i h k = absurd (omega arith)
turn (x ∷ a) [] i h k = absurd (omega arith)
turn (x ∷ a) (y ∷ b) zero h k = grind (arith, nat_tests)
turn (x ∷ a) (y ∷ b) (suc i) h k = grind (arith, nat_tests, turn a b i (omega arith) (omega arith))

pub same_turn : (a b : List ℕ) {i j x y : ℕ} {t : Bool} → t ≡ same (take i a) (take i b) → x ≡ get_or a i 0 → y ≡ get_or b i 0 → i < length a → i < length b → j ≡ i + 1
    → t && eqb x y ≡ same (take j a) (take j b)
same_turn a b {i} e f g h k l = rw (e, f, g, l, add-one i) (turn a b i h k)
