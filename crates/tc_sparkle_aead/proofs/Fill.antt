-- A loop that writes an array from its front, one element a turn: after i turns the first i elements of a target stand
-- before what is left of the array. A turn is `laid_turn`, for an array that was zeros `fill_turn`; the end is
-- `fill_end`.
use Rattle.std.proofs.Common.{◌≡◌, ℕ, ◌+◌, ◌-◌, ◌<◌, ◌≤◌, List, ◌++◌, length, get_or, take, drop, set, replicate, sym, ap, ◌∙◌, arith, take_all}
use native.Mathlib.Nat.{zero-add}
use Rattle.std.proofs.lemmas.List.{drop-replicate}
use Rattle.std.proofs.lemmas.List.Edits.{paste_more}
use lib.ListN.{length-replicate}
use Rattle.tc_sparkle_aead.specs.Message.{zeros, in_array}
use Rattle.tc_sparkle_aead.proofs.StateLaws.{in_array-zeros}

-- the first i elements of the target t before what is left of the array d
unfoldable pub laid : List ℕ → List ℕ → ℕ → List ℕ
laid t d i = take i t ++ drop i d

pub laid_turn : (t d : List ℕ) {i x : ℕ} {r : List ℕ} → r ≡ laid t d i → x ≡ get_or t i 0 → i < length t → i < length d → set r i x ≡ laid t d (i + 1)
unfolding laid
laid_turn t d {i} e f h k = rw (e, f) (simp zero-add at (paste_more d 0 t i 0 (omega arith) h))

-- the array was zeros
pub over_zeros : (m : ℕ) (t : List ℕ) → length t ≤ m → t ++ drop (length t) (replicate m 0) ≡ in_array m t
over_zeros m t h = ap (◌++◌ t) (drop-replicate {X = ℕ} (length t) m 0) ∙ sym (in_array-zeros m (m - length t) t (omega arith))

pub length-zeros : (m : ℕ) → length (zeros m) ≡ m
unfolding zeros
length-zeros m = length-replicate m 0

pub fill_turn : (m : ℕ) (t : List ℕ) {i x : ℕ} {r : List ℕ} → r ≡ laid t (zeros m) i → x ≡ get_or t i 0 → i < length t → i < m → set r i x ≡ laid t (zeros m) (i + 1)
fill_turn m t e f h k = laid_turn t (zeros m) e f h (omega (arith, length-zeros m))

pub fill_end : (m : ℕ) (t : List ℕ) {i : ℕ} {r : List ℕ} → r ≡ laid t (zeros m) i → length t ≡ i → i ≤ m → r ≡ in_array m t
unfolding zeros laid
fill_end m t {i} f e h =
    f ∙ ap (λ (a : List ℕ). a ++ drop i (replicate m 0)) (take_all i t (omega arith))
    ∙ ap (λ (k : ℕ). t ++ drop k (replicate m 0)) (sym e)
    ∙ over_zeros m t (omega arith)
