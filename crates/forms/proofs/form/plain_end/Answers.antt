-- `plain_end` meets its contract, test by test.
use Rattle.std.proofs.Common.{◌≡◌, ℕ, ◌%◌, Bool, true, List, [], ◌∷◌, nat_eq, refl, sym, arith}
use Rattle.std.specs.List.{starts_with}
use Rattle.std.specs.Prelude.{cond, ◌||◌, Ok}
use borrow.Author.Tests.{eq-eqb, ne_eqb, le-leb, lt-leb}
use lib.Dec.{eqb, leb}
use lib.ListN.{get_or}
use Rattle.forms.specs.Bytes.{front, is_letter, is_hex_digit}
use Rattle.forms.specs.Form.{stop, is_number, plain_end}
use Rattle.forms.proofs.form.plain_end.Goals as goal
use Rattle.forms.proofs.form.plain_end.Goals.{then-digits-eq0-via-then-digits-eq0, then-digits-eq0-via-else-digits-eq0+then-is_number}

-- A dash in front.
first_dash : (s : List ℕ) (dash : Bool) → dash ≡ starts_with nat_eq s (45 ∷ []) → eqb (get_or s 0 0) 45 ≡ dash
first_dash [] dash e = sym e
first_dash (b ∷ s) dash e = grind arith

-- The tests, of what the calls answer.
tested : (s : List ℕ) (dash : Bool) {letters digits : ℕ} → dash ≡ starts_with nat_eq s (45 ∷ [])
    → letters ≡ front is_letter s → digits ≡ front is_hex_digit s
    → plain_end s ≡ cond dash (Ok 1)
    (cond (leb digits letters)
    (cond (eqb letters 0) (stop 0) (Ok letters))
    (cond (eqb (digits % 2) 0 || is_number s digits) (Ok digits) (stop digits)))
unfolding plain_end
tested s dash d l h = rw (first_dash s dash d, l, h) refl

pub returns-then-starts_with : goal.returns-then-starts_with
unfolding plain_end
returns-then-starts_with c = rw (first_dash _ _ c.starts_with.ensures.value, c.if-starts_with.true) refl

pub returns-then-letters-eq0 : goal.returns-then-letters-eq0
returns-then-letters-eq0 c =
    let letters = c.front-letters.ensures in
    let digits = c.front-digits.ensures in
    rw (tested _ _ c.starts_with.ensures.value letters digits, c.if-starts_with.false, le-leb _ _ c.if-digits-letters.true, c.if-letters-eq0.true) refl

pub returns-then-digits-letters : goal.returns-then-digits-letters
returns-then-digits-letters c =
    let letters = c.front-letters.ensures in
    let digits = c.front-digits.ensures in
    rw (tested _ _ c.starts_with.ensures.value letters digits, c.if-starts_with.false, le-leb _ _ c.if-digits-letters.true, ne_eqb _ 0 c.if-letters-eq0.false) refl

pub returns-then-digits-eq0 : goal.returns-then-digits-eq0
returns-then-digits-eq0 c =
    let letters = c.front-letters.ensures in
    let digits = c.front-digits.ensures in
    let n = c.front-digits.result in
    let either : (eqb (n % 2) 0 || is_number c.args.s.now n) ≡ true = elim c.then-digits-eq0.branch [
      | then-digits-eq0-via-then-digits-eq0 w ↦ rw (eq-eqb _ 0 w.if-digits-eq0.true) refl
      | then-digits-eq0-via-else-digits-eq0+then-is_number w ↦
          rw (ne_eqb _ 0 w.if-digits-eq0.false, ← w.is_number.ensures, w.if-is_number.true) refl
    ] in
    rw (tested _ _ c.starts_with.ensures.value letters digits, c.if-starts_with.false, lt-leb _ _ c.if-digits-letters.false, either) refl

pub returns : goal.returns
returns c =
    let letters = c.front-letters.ensures in
    let digits = c.front-digits.ensures in
    rw (tested _ _ c.starts_with.ensures.value letters digits, c.if-starts_with.false, lt-leb _ _ c.if-digits-letters.false, ne_eqb _ 0 c.if-digits-eq0.false, ← c.is_number.ensures, c.if-is_number.false) refl
