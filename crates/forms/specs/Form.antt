-- Where a form ends, as it is read from the front: behind its closing bracket, or at the first byte that cannot stand
-- there (`form_exactly`, `form_stops`).
use Rattle.std.specs.Prelude.{Result, Ok, Err, ℕ, zero, suc, ◌+◌, ◌%◌, Bool, true, false, not, cond, ◌||◌, List, ltb, leb, eqb, length, get_or, drop}
use Prim.Native.Char.{code}
use Rattle.forms.specs.declared.form.Stopped.{Stopped}
use Rattle.forms.specs.Bytes.{front, is_letter, is_digit, is_hex_digit}

-- The place behind what was read, or where reading stopped.
abbrev pub End : Type 0
End = Result ℕ Stopped

abbrev pub stop : ℕ → End
stop n = Err (record { at = n })

-- Whether the first n bytes are a number without a leading zero; n is not 0.
unfoldable pub is_number : List ℕ → ℕ → Bool
is_number s n =
    cond (ltb (front is_digit s) n) false (cond (eqb n 1) true (not (eqb (get_or s 0 (code "0")) (code "0"))))

-- An item that is not a form: `-`, letters, or digits.
unfoldable pub plain_end : List ℕ → End
plain_end s =
    let letters = front is_letter s in
    let digits = front is_hex_digit s in
    cond (eqb (get_or s 0 0) (code "-")) (Ok 1)
    (cond (leb digits letters)
    (cond (eqb letters 0) (stop 0) (Ok letters))
    (cond (eqb (digits % 2) 0 || is_number s digits) (Ok digits) (stop digits)))

unfoldable pub is_open : List ℕ → Bool
is_open s = eqb (get_or s 0 0) (code "(")

-- A form's bracket and its word.
unfoldable pub open_end : List ℕ → End
open_end s =
    let n = front is_letter (drop 1 s) in
    cond (is_open s) (cond (eqb n 0) (stop 1) (Ok (1 + n))) (stop 0)

-- From an end on: what follows it, or where it stopped.
abbrev pub onward : ℕ → End → (ℕ → End) → End
onward from (Ok n) next = next (from + n)
onward from (Err e) next = stop (from + e.at)

-- The items from a place on, to the closing bracket; `nested` reads a form among them. The first number bounds the items.
unfoldable pub items_end : (nested : List ℕ → End) → ℕ → List ℕ → (at : ℕ) → End
items_end nested zero s at = stop at
items_end nested (suc k) s at =
    let rest = drop (at + 1) s in
    cond (ltb at (length s))
    (cond (eqb (get_or s at 0) (code ")")) (Ok (at + 1))
    (cond (eqb (get_or s at 0) (code " "))
    (onward (at + 1) (cond (is_open rest) (nested rest) (plain_end rest)) (λ next. items_end nested k s next))
    (stop at)))
    (stop at)

-- A form that is at most so deep.
unfoldable pub form_end : (depth : ℕ) → List ℕ → End
form_end zero s = stop 0
form_end (suc depth) s = onward 0 (open_end s) (λ at. items_end (λ rest. form_end depth rest) (length s) s at)
