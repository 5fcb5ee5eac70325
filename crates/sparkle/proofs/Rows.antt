-- Rows of constants: the row of a step in a table, and a table by its rows.
use Rattle.std.proofs.Common.{◌≡◌, ℕ, zero, suc, ◌+◌, ◌%◌, ◌^◌, ◌<◌, List, [], ◌∷◌, length, get_or, refl, sym, ap, ap₂, ◌∙◌, add-zero, arith}
use Rattle.std.proofs.lemmas.List.{ext_get_or}
use Rattle.sparkle.specs.Sparkle.{rcon}
use Rattle.sparkle.specs.Lanes.{row, rows_from}

length-rows : (first n : ℕ) → length (rows_from first n) ≡ n
unfolding rows_from
length-rows first zero = refl
length-rows first (suc n) = ap suc (length-rows (suc first) n)

-- row s of a table that begins with step `first`
pub row_at : (first n s : ℕ) → s < n → get_or (rows_from first n) s [] ≡ row (first + s)
unfolding rows_from
row_at first zero s h = absurd (omega arith)
row_at first (suc n) zero h = ap row (sym (add-zero first))
row_at first (suc n) (suc s) h = row_at (suc first) n s (omega arith) ∙ ap row (omega arith)

-- a step's number wraps
pub row_wraps : (s : ℕ) → row (s % 2 ^ 32) ≡ row s
unfolding row
row_wraps s =
    let r : s % 2 ^ 32 % 8 ≡ s % 8 = omega arith in
    let n : s % 2 ^ 32 % 2 ^ 32 ≡ s % 2 ^ 32 = omega arith in
    ap₂ (λ (k m : ℕ). rcon k ∷ (m ∷ (0 ∷ (0 ∷ [])))) r n

-- a table that has row first + i at each place i
pub rows_are : (n first : ℕ) (l : List (List ℕ)) → length l ≡ n
    → ((i : ℕ) → i < n → get_or l i [] ≡ row (first + i)) → l ≡ rows_from first n
rows_are n first l h each =
    ext_get_or [] l (rows_from first n) (h ∙ sym (length-rows first n))
    (λ i k. each i (omega arith) ∙ sym (row_at first n i (omega arith)))
