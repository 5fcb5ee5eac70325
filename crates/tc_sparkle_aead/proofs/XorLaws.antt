-- A loop that lays bytes xored with others over zeros, one byte a turn.
use Rattle.std.proofs.Common.{◌≡◌, ℕ, ◌+◌, ◌<◌, ◌≤◌, List, length, get_or, set, sym, ◌∙◌, ap₂, arith}
use lib.Bits.{bit_xor}
use Rattle.sparkle.specs.Sparkle.{xors}
use Rattle.sparkle.proofs.Lengths.{length-xors}
use Rattle.schwaemm.proofs.Xors.{xors-at}
use Rattle.tc_sparkle_aead.specs.Message.{zeros, in_array}
use Rattle.tc_sparkle_aead.proofs.Fill.{laid, fill_turn, fill_end}

pub xored_turn : (m : ℕ) (a b : List ℕ) {k i j x y : ℕ} {r : List ℕ} → r ≡ laid (xors a b) (zeros m) k → i ≡ k → x ≡ get_or a k 0 → y ≡ get_or b k 0
    → k < length a → k < length b → k < m → j ≡ k + 1 → set r i (bit_xor x y) ≡ laid (xors a b) (zeros m) j
xored_turn m a b {k} {i} {j} {x} {y} {r} e ei ex ey ha hb hm ej =
    rw (ei, ej)
    (fill_turn m (xors a b) e (ap₂ bit_xor ex ey ∙ sym (xors-at a b k ha hb)) (omega (arith, length-xors a b)) hm)

pub xored_end : (m : ℕ) (a b : List ℕ) {k : ℕ} {r : List ℕ} → r ≡ laid (xors a b) (zeros m) k → k ≡ length b → length b ≤ length a → length b ≤ m
    → r ≡ in_array m (xors a b)
xored_end m a b e ek ha hm = fill_end m (xors a b) e (omega (arith, length-xors a b)) (omega arith)
