-- Document 02's grammar of forms (2026-01), by what is written.
use Rattle.std.specs.Prelude.{ℕ, zero, suc, ◌≡◌, true, List, ◌∷◌, ◌++◌}
use Rattle.forms.specs.Bytes.{text, all, is_letter}
use Rattle.forms.specs.Decimal.{decimal}
use Rattle.forms.specs.Hex.{hex, are_bytes}

-- "a word": one or more letters a to z.
pub data Word : List ℕ → Type 0 where
  letters : (b : ℕ) (s : List ℕ) → all is_letter (b ∷ s) ≡ true → Word (b ∷ s)

-- "words, decimal numbers, hexadecimal strings or forms"
pub data Item (Nested : List ℕ → Type 0) : List ℕ → Type 0 where
  word : (s : List ℕ) → Word s → Item Nested s
  number : (n : ℕ) → Item Nested (decimal n)
  bytes : (bs : List ℕ) → are_bytes bs ≡ true → Item Nested (hex bs)
  form : (s : List ℕ) → Nested s → Item Nested s

-- "each after one space, and a closing bracket"
pub data Items (Nested : List ℕ → Type 0) : List ℕ → Type 0 where
  close : Items Nested (text ")")
  item : (s more : List ℕ) → Item Nested s → Items Nested more → Items Nested (text " " ++ s ++ more)

-- "an opening bracket, a word, then ..": a form around forms of another depth.
pub data FormOf (Nested : List ℕ → Type 0) : List ℕ → Type 0 where
  opened : (w more : List ℕ) → Word w → Items Nested more → FormOf Nested (text "(" ++ w ++ more)

pub data Never : List ℕ → Type 0 where

-- "to a depth of four": the outermost form has depth 1.
abbrev pub Form : (depth : ℕ) → List ℕ → Type 0
Form zero = Never
Form (suc depth) = FormOf (Form depth)

-- Bytes that a form begins with.
abbrev pub Begins : (depth : ℕ) → List ℕ → Type 0
Begins depth s = (t : List ℕ) × Form depth (s ++ t)
