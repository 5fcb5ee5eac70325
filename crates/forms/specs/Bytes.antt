-- Bytes of text.
use Rattle.std.specs.Prelude.{ℕ, suc, Bool, true, not, cond, ◌&&◌, ◌||◌, List, [], ◌∷◌, leb, eqb, take, drop}
use Prim.Native.Char.{code}
use Prim.Native.String.{String, [] as none, ◌∷◌ as ◌then◌}

-- The bytes of a text of ASCII characters.
abbrev pub text : String → List ℕ
text none = []
text (c then s) = code c ∷ text s

-- ---- Kinds of bytes, each by its test

abbrev pub is_letter : ℕ → Bool
is_letter b = leb (code "a") b && leb b (code "z")

abbrev pub is_digit : ℕ → Bool
is_digit b = leb (code "0") b && leb b (code "9")

abbrev pub is_hex_digit : ℕ → Bool
is_hex_digit b = is_digit b || (leb (code "a") b && leb b (code "f"))

-- Neither a blank nor a closing bracket.
abbrev pub is_item : ℕ → Bool
is_item b = not (eqb b (code " ")) && not (eqb b (code ")"))

-- No newline.
abbrev pub is_line : ℕ → Bool
is_line b = not (eqb b (code "\n"))

-- Whether all bytes are of a kind, and how many in front are.
abbrev pub all : (ℕ → Bool) → List ℕ → Bool
all kind [] = true
all kind (b ∷ s) = kind b && all kind s

abbrev pub front : (ℕ → Bool) → List ℕ → ℕ
front kind [] = 0
front kind (b ∷ s) = cond (kind b) (suc (front kind s)) 0

-- The bytes of a kind that stand in a row from a place on.
abbrev pub run_at : (ℕ → Bool) → List ℕ → ℕ → List ℕ
run_at kind s at = take (front kind (drop at s)) (drop at s)
