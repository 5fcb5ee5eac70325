-- Bytes and words, little-endian, and lists of bytes.
use Rattle.std.specs.Prelude.{ℕ, ◌+◌, ◌*◌, ◌/◌, ◌%◌, ◌^◌, Bool, true, false, cond, List, [], ◌∷◌, eqb}

-- The words of a list of bytes, four bytes to a word, the low byte first; bytes that are missing at the end are 0.
unfoldable pub to_words : List ℕ → List ℕ
to_words [] = []
to_words (a ∷ []) = a ∷ []
to_words (a ∷ (b ∷ [])) = (a + b * 2 ^ 8) ∷ []
to_words (a ∷ (b ∷ (c ∷ []))) = (a + b * 2 ^ 8 + c * 2 ^ 16) ∷ []
to_words (a ∷ (b ∷ (c ∷ (d ∷ bytes)))) = (a + b * 2 ^ 8 + c * 2 ^ 16 + d * 2 ^ 24) ∷ to_words bytes

-- The bytes of a list of words, four to a word, the low byte first.
unfoldable pub to_bytes : List ℕ → List ℕ
to_bytes [] = []
to_bytes (x ∷ words) =
    (x % 2 ^ 8) ∷ ((x / 2 ^ 8 % 2 ^ 8) ∷ ((x / 2 ^ 16 % 2 ^ 8) ∷ ((x / 2 ^ 24 % 2 ^ 8) ∷ to_bytes words)))

-- The first where a list is empty, else the second.
unfoldable pub if_empty : List ℕ → List ℕ → List ℕ → List ℕ
if_empty [] x y = x
if_empty (a ∷ l) x y = y

-- Whether two lists are the same.
unfoldable pub same : List ℕ → List ℕ → Bool
same [] [] = true
same [] (b ∷ v) = false
same (a ∷ u) [] = false
same (a ∷ u) (b ∷ v) = cond (eqb a b) (same u v) false
