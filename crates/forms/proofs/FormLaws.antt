-- The bracket reader accepts what the grammar gives, and nothing else. It is first seen as a reader of what is still to
-- come (`items-from`, `form-from`). What it has read is then of the grammar (`form-fits`), and what is of the grammar
-- it reads (`form_reads`).
use mathlib.Core.Path.{◌≡◌, refl, sym, ap, subst, ◌∙◌}
use mathlib.Core.Bool.{Bool, true, false, not, cond, ◌||◌, or-true, and-eq-true_iff, false≢true}
use mathlib.Core.Logic.{◌↔◌, ◌⊎◌, inl, inr, ⊎_elim}
use mathlib.Core.List.{List, [], ◌∷◌, ◌++◌, append_assoc}
use Prim.Native.Nat.{ℕ, zero, suc, ◌+◌, ◌%◌, ◌≤◌, ◌<◌}
use Prim.Native.Char.{code}
use native.Mathlib.Nat.{add-zero}
use native.Mathlib.Omega.{arith}
use borrow.Author.Tests.{ltb-false, lt-ltb, le-ltb, leb-true, leb-false, le-leb, eqb-true, eqb-false, eq-eqb, ne_eqb}
use lib.Dec.{ltb, leb, eqb}
use lib.ListN.{get_or-append, length, get_or, take, drop, length-append, length-take, length-drop, take-append-drop}
use lib.Seq.{take-add, drop-drop, get_or-drop, length-take-le, take-length, drop-append_seam}
use Rattle.std.specs.Prelude.{Ok, Err}
use Rattle.std.proofs.lemmas.Bool.{or_cases, or_parts}
use Rattle.forms.specs.Bytes.{text, all, front, is_letter, is_digit, is_hex_digit}
use Rattle.forms.specs.Decimal.{decimal}
use Rattle.forms.specs.Hex.{hex, hex_bytes, are_bytes, is_hex}
use Rattle.forms.specs.Form.{End, stop, is_number, plain_end, is_open, open_end, onward, items_end, form_end}
use Rattle.forms.specs.Grammar.{Word, Item, Items, Never, Form}
use Rattle.forms.specs.Grammar.Word.{letters}
use Rattle.forms.specs.Grammar.Item.{word, number, bytes, form}
use Rattle.forms.specs.Grammar.Items.{close, item}
use Rattle.forms.specs.Grammar.FormOf.{opened}
use Rattle.forms.proofs.BytesLaws.{front-run, front_le, front-taken, front-whole, all_append, all_digit_hex}
use Rattle.forms.proofs.BytesLaws.{letter_range, digit_range, hex_within}
use Rattle.forms.proofs.DecimalLaws.{decimal_digits, decimal_some, decimal_zero_alone, number-text, ZeroAlone}
use Rattle.forms.proofs.HexLaws.{hex-run, hex-is, hex_exactly}

-- By the cases of a test.
pub split : {A : Type 0} (P : A → Type 0) (c : Bool) {x y : A} → (c ≡ true → P x) → (c ≡ false → P y) → P (cond c x y)
split P true f g = f refl
split P false f g = g refl

-- ---- the reader over what is still to be read

-- An end, seen from so many bytes before.
abbrev pub moved : ℕ → End → End
moved n (Ok m) = Ok (n + m)
moved n (Err e) = stop (n + e.at)

-- An item.
abbrev pub item_end : (List ℕ → End) → List ℕ → End
item_end nested s = cond (is_open s) (nested s) (plain_end s)

-- What follows a blank and an item, seen from the blank.
abbrev pub beyond : End → (ℕ → End) → End
beyond (Ok n) next = moved (suc n) (next n)
beyond (Err e) next = stop (suc e.at)

-- The items from the front on.
abbrev pub items_from : (List ℕ → End) → ℕ → List ℕ → End
items_from nested zero s = stop 0
items_from nested (suc k) [] = stop 0
items_from nested (suc k) (b ∷ s) =
    cond (eqb b (code ")")) (Ok 1)
    (cond (eqb b (code " ")) (beyond (item_end nested s) (λ n. items_from nested k (drop n s))) (stop 0))

moved_on : (at n : ℕ) (e : End) → moved (at + 1 + n) e ≡ moved at (moved (suc n) e)
moved_on at n (Ok m) = ap Ok (omega arith)
moved_on at n (Err e) = ap stop (omega arith)

turn-from : (at : ℕ) (close blank : Bool) (e : End) (f g : ℕ → End)
    → ((n : ℕ) → f (at + 1 + n) ≡ moved (at + 1 + n) (g n))
    → cond close (Ok (at + 1)) (cond blank (onward (at + 1) e f) (stop at))
    ≡ moved at (cond close (Ok 1) (cond blank (beyond e g) (stop 0)))
turn-from at true blank e f g h = refl
turn-from at false true (Ok n) f g h = h n ∙ moved_on at n (g n)
turn-from at false true (Err e) f g h = ap stop (omega arith)
turn-from at false false e f g h = ap stop (sym (add-zero at))

-- `items_end` from a place on, as it reads what stands there.
items-from : (nested : List ℕ → End) (k : ℕ) (s : List ℕ) (at : ℕ)
    → items_end nested k s at ≡ moved at (items_from nested k (drop at s))
unfolding items_end
items-from nested zero s at = ap stop (sym (add-zero at))
items-from nested (suc k) s at = go (items-from nested k s) (drop at s) refl
  where
    first : get_or (drop at s) 0 0 ≡ get_or s at 0
    first = get_or-drop at s 0 0 ∙ ap (λ (i : ℕ). get_or s i 0) (add-zero at)

    go : ((m : ℕ) → items_end nested k s m ≡ moved m (items_from nested k (drop m s))) → (r : List ℕ) → drop at s ≡ r
        → items_end nested (suc k) s at ≡ moved at (items_from nested (suc k) r)
    go f [] e =
        rw (le-ltb at (length s) (omega (arith, length-drop at s, ap length e))) (ap stop (sym (add-zero at)))
    go f (b ∷ r) e =
        let c : get_or s at 0 ≡ b = sym first ∙ ap (λ (l : List ℕ). get_or l 0 0) e in
        let d : drop (at + 1) s ≡ r = sym (drop-drop 1 at s) ∙ ap (drop 1) e in
        rw (lt-ltb at (length s) (omega (arith, length-drop at s, ap length e)), c, d)
        (turn-from at (eqb b (code ")")) (eqb b (code " ")) (item_end nested r) (items_end nested k s) _
        (λ n. f (at + 1 + n) ∙ ap (rest n) (sym (drop-drop n (at + 1) s) ∙ ap (drop n) d)))
      where
        rest : ℕ → List ℕ → End
        rest n l = moved (at + 1 + n) (items_from nested k l)

-- A form's word and its items, seen from the bracket before them.
abbrev pub word_from : (depth : ℕ) → List ℕ → End
word_from depth s =
    let n = front is_letter s in
    cond (eqb n 0) (stop 1) (moved (suc n) (items_from (form_end depth) (suc (length s)) (drop n s)))

-- `form_end` by its first byte.
pub form-from : (depth b : ℕ) (s : List ℕ)
    → form_end (suc depth) (b ∷ s) ≡ cond (eqb b (code "(")) (word_from depth s) (stop 0)
unfolding form_end open_end is_open
form-from depth b s = go (eqb b (code "(")) (eqb n 0)
  where
    n : ℕ
    n = front is_letter s

    nested : List ℕ → End
    nested = form_end depth

    items : ℕ → End
    items at = items_end nested (suc (length s)) (b ∷ s) at

    rest : End
    rest = moved (suc n) (items_from nested (suc (length s)) (drop n s))

    go : (is_form none : Bool)
        → onward 0 (cond is_form (cond none (stop 1) (Ok (1 + n))) (stop 0)) items
        ≡ cond is_form (cond none (stop 1) rest) (stop 0)
    go true true = refl
    go true false =
        let e : 0 + (1 + n) ≡ suc n = omega arith in
        rw e (items-from nested (suc (length s)) (b ∷ s) (suc n))
    go false none = refl

-- ---- what is read is of the grammar

-- What stands before an end is of a grammar, or is its beginning.
pub data Fits (P : List ℕ → Type 0) (s : List ℕ) : End → Type 0 where
  whole : (n : ℕ) → n ≤ length s → P (take n s) → Fits P s (Ok n)
  begun : (n : ℕ) (t : List ℕ) → n ≤ length s → P (take n s ++ t) → Fits P s (stop n)

-- The same from a byte and n bytes more before.
fits_after : {P Q : List ℕ → Type 0} {e : End} (b n : ℕ) (s : List ℕ) → n ≤ length s
    → ((t : List ℕ) → P t → Q (b ∷ (take n s ++ t))) → Fits P (drop n s) e → Fits Q (b ∷ s) (moved (suc n) e)
fits_after b n s h f (whole m g p) =
    whole (suc n + m) (omega (arith, length-drop n s)) (rw (take-add (suc n) m (b ∷ s)) (f (take m (drop n s)) p))
fits_after b n s h f (begun m t g p) =
    begun (suc n + m) t (omega (arith, length-drop n s))
    (rw (take-add (suc n) m (b ∷ s), append_assoc (take n s)) (f (take m (drop n s) ++ t) p))

-- No more bytes than those of a kind in front.
taken-all : (kind : ℕ → Bool) (n : ℕ) (s : List ℕ) → n ≤ front kind s → all kind (take n s) ≡ true
taken-all kind zero s h = refl
taken-all kind (suc n) [] h = refl
taken-all kind (suc n) (b ∷ s) h = go (taken-all kind n s) (kind b) refl
  where
    go : (n ≤ front kind s → all kind (take n s) ≡ true) → (t : Bool) → kind b ≡ t
        → all kind (take (suc n) (b ∷ s)) ≡ true
    go f true e = rw e (f (omega (arith, rw e at h)))
    go f false e = absurd (omega (arith, rw e at h))

word_of : (s : List ℕ) → 0 < length s → all is_letter s ≡ true → Word s
word_of [] h e = absurd (omega arith)
word_of (b ∷ s) h e = letters b s e

-- The letters in front, where there are some.
word-taken : (s : List ℕ) → eqb (front is_letter s) 0 ≡ false → Word (take (front is_letter s) s)
word-taken s e =
    let n = front is_letter s in
    word_of (take n s) (omega (arith, length-take-le n s (front_le is_letter s), eqb-false n 0 e)) (front-taken is_letter s)

some_word : Word (text "a")
some_word = letters (code "a") [] refl

module _ (N : List ℕ → Type 0) where
  some_item : {s : List ℕ} → Fits (Item N) s (stop 0)
  some_item = begun 0 (text "a") (omega arith) (word (text "a") some_word)

  hex-fits : (s : List ℕ) → 0 < length s → length s % 2 ≡ 0 → all is_hex_digit s ≡ true → Item N s
  hex-fits s h even e =
      let x = (hex_exactly s).0 (hex-run s h even e) in
      subst (Item N) (sym x.0) (bytes (hex_bytes s) x.1)

  number_fits : (n : ℕ) (s : List ℕ) → 0 < n → n ≤ length s → is_number s n ≡ true → Item N (take n s)
  unfolding is_number
  number_fits zero s h l e = absurd (omega arith)
  number_fits (suc n) [] h l e = absurd (omega arith)
  number_fits (suc n) (b ∷ s) h l e =
      let g = go (ltb (front is_digit (b ∷ s)) (suc n)) (eqb (suc n) 1) (eqb b (code "0")) e in
      let d = taken-all is_digit (suc n) (b ∷ s) (ltb-false _ _ g.0) in
      let x = number-text (take (suc n) (b ∷ s)) (omega arith) d (alone g.1) in
      subst (Item N) (sym x.1) (number x.0)
    where
      go : (short one nought : Bool) → cond short false (cond one true (not nought)) ≡ true
          → (short ≡ false) × ((one ≡ true) ⊎ (nought ≡ false))
      go true one nought q = absurd (false≢true q)
      go false true nought q = (refl, inl refl)
      go false false true q = absurd (false≢true q)
      go false false false q = (refl, inr refl)

      alone : (eqb (suc n) 1 ≡ true) ⊎ (eqb b (code "0") ≡ false) → ZeroAlone (take (suc n) (b ∷ s))
      alone (inl q) = inl (omega (arith, length-take n s, eqb-true (suc n) 1 q))
      alone (inr q) = inr (eqb-false b (code "0") q)

  plain_fits : (s : List ℕ) → Fits (Item N) s (plain_end s)
  unfolding plain_end
  plain_fits s =
      split Goal (eqb (get_or s 0 0) (code "-")) (dash s)
      (λ _. split Goal (leb (front is_hex_digit s) (front is_letter s))
      (λ _. split Goal (eqb (front is_letter s) 0) (λ _. some_item) letters_fit)
      (λ more. split Goal (eqb (n % 2) 0 || is_number s n)
      (λ e. ⊎_elim (even_fits (leb-false _ _ more)) (digits_fit (leb-false _ _ more)) (or_cases _ _ e))
      (λ e. odd_fits (or_parts _ _ e).0)))
    where
      n : ℕ
      n = front is_hex_digit s

      l : n ≤ length s
      l = front_le is_hex_digit s

      m : length (take n s) ≡ n
      m = length-take-le n s l

      Goal : End → Type 0
      Goal e = Fits (Item N) s e

      dash : (t : List ℕ) → eqb (get_or t 0 0) (code "-") ≡ true → Fits (Item N) t (Ok 1)
      dash [] e = absurd (omega (arith, eqb-true 0 (code "-") e))
      dash (b ∷ t) e = whole 1 (omega arith) (rw (eqb-true b (code "-") e) (bytes [] refl))

      letters_fit : eqb (front is_letter s) 0 ≡ false → Goal (Ok (front is_letter s))
      letters_fit e = whole (front is_letter s) (front_le is_letter s) (word (take (front is_letter s) s) (word-taken s e))

      even_fits : front is_letter s < n → eqb (n % 2) 0 ≡ true → Goal (Ok n)
      even_fits h e =
          whole n l (hex-fits (take n s) (omega (arith, m)) (rw m (eqb-true _ _ e)) (front-taken is_hex_digit s))

      digits_fit : front is_letter s < n → is_number s n ≡ true → Goal (Ok n)
      digits_fit h e = whole n l (number_fits n s (omega arith) l e)

      odd_fits : eqb (n % 2) 0 ≡ false → Goal (stop n)
      odd_fits e =
          let a = length-append (take n s) (text "0") in
          let o = eqb-false (n % 2) 0 e in
          begun n (text "0") l
          (hex-fits (take n s ++ text "0") (omega arith) (omega (arith, m))
          (rw (all_append is_hex_digit (take n s) (text "0"), front-taken is_hex_digit s) refl))

  module _ (nested : List ℕ → End) (item-fits : (s : List ℕ) → Fits (Item N) s (item_end nested s)) where
    items-fits : (k : ℕ) (s : List ℕ) → Fits (Items N) s (items_from nested k s)
    items-fits zero s = begun 0 (text ")") (omega arith) close
    items-fits (suc k) [] = begun 0 (text ")") (omega arith) close
    items-fits (suc k) (b ∷ s) =
        split Goal (eqb b (code ")")) (λ e. whole 1 (omega arith) (rw (eqb-true b (code ")") e) close))
        (λ _. split Goal (eqb b (code " ")) (λ e. go (items-fits k) (eqb-true b (code " ") e) (item-fits s))
        (λ _. begun 0 (text ")") (omega arith) close))
      where
        Goal : End → Type 0
        Goal e = Fits (Items N) (b ∷ s) e

        go : ((r : List ℕ) → Fits (Items N) r (items_from nested k r)) → b ≡ code " " → {e : End}
            → Fits (Item N) s e → Goal (beyond e (λ n. items_from nested k (drop n s)))
        go f q (whole n g i) =
            fits_after b n s g (λ t p. rw q (item (take n s) t i p)) (f (drop n s))
        go f q (begun n t g i) =
            begun (suc n) (t ++ text ")") (omega arith)
            (rw (q, ← append_assoc (take n s)) (item (take n s ++ t) (text ")") i close))

as-item : {N : List ℕ → Type 0} {s : List ℕ} {e : End} → Fits N s e → Fits (Item N) s e
as-item (whole n h p) = whole n h (form _ p)
as-item (begun n t h p) = begun n t h (form _ p)

module _ (depth : ℕ) (nested_fits : (s : List ℕ) → Fits (Item (Form depth)) s (form_end depth s)) where
  item-fits : (s : List ℕ) → Fits (Item (Form depth)) s (item_end (form_end depth) s)
  item-fits s = split (Fits (Item (Form depth)) s) (is_open s) (λ _. nested_fits s) (λ _. plain_fits (Form depth) s)

  some_form : Form (suc depth) (text "(a)")
  some_form = opened (text "a") (text ")") some_word close

  opened-fits : (s : List ℕ) → Fits (Form (suc depth)) s (form_end (suc depth) s)
  unfolding form_end open_end is_open
  opened-fits [] = begun 0 (text "(a)") (omega arith) some_form
  opened-fits (b ∷ s) =
      rw (form-from depth b s)
      (split Goal (eqb b (code "("))
      (λ e. split Goal (eqb n 0) (λ _. begun 1 (text "a)") (omega arith) (rw (eqb-true b (code "(") e) some_form))
      (λ some. fits_after b n s (front_le is_letter s)
      (λ t p. rw (eqb-true b (code "(") e) (opened (take n s) t (word-taken s some) p))
      (items-fits (Form depth) (form_end depth) item-fits (suc (length s)) (drop n s))))
      (λ _. begun 0 (text "(a)") (omega arith) some_form))
    where
      n : ℕ
      n = front is_letter s

      Goal : End → Type 0
      Goal e = Fits (Form (suc depth)) (b ∷ s) e

-- At depth 0 no item is a form, and the reader stops at its bracket.
nested_fits : (depth : ℕ) (s : List ℕ) → Fits (Item (Form depth)) s (form_end depth s)
unfolding form_end
nested_fits zero s = some_item Never
nested_fits (suc depth) s = as-item (opened-fits depth (nested_fits depth) s)

-- What the reader has read is a form, or the beginning of one.
pub form-fits : (depth : ℕ) (s : List ℕ) → Fits (Form (suc depth)) s (form_end (suc depth) s)
form-fits depth = opened-fits depth (nested_fits depth)

-- ---- what is of the grammar is read

-- No more bytes of a kind than stand before one that is of another.
front_within : (kind : ℕ → Bool) (s : List ℕ) (c : ℕ) (v : List ℕ) → kind c ≡ false
    → front kind (s ++ (c ∷ v)) ≤ length s
front_within kind [] c v h = rw h (omega arith)
front_within kind (b ∷ s) c v h = go (front_within kind s c v h) (kind b) refl
  where
    go : front kind (s ++ (c ∷ v)) ≤ length s → (t : Bool) → kind b ≡ t
        → front kind ((b ∷ s) ++ (c ∷ v)) ≤ length (b ∷ s)
    go f true e = rw e (omega arith)
    go f false e = rw e (omega arith)

first_kind : (kind : ℕ → Bool) (s : List ℕ) → all kind s ≡ true → 0 < length s → kind (get_or s 0 0) ≡ true
first_kind kind [] e h = absurd (omega arith)
first_kind kind (b ∷ s) e h = ((and-eq-true_iff (kind b) (all kind s)).0 e).0

is-number : (s v : List ℕ) → 0 < length s → front is_digit (s ++ v) ≡ length s → ZeroAlone s
    → is_number (s ++ v) (length s) ≡ true
unfolding is_number
is-number [] v h e z = absurd (omega arith)
is-number (b ∷ s) v h e z = rw (e, le-ltb (suc (length s)) (suc (length s)) (omega arith)) (go z)
  where
    go : ZeroAlone (b ∷ s) → cond (eqb (suc (length s)) 1) true (not (eqb b (code "0"))) ≡ true
    go (inl q) = rw q refl
    go (inr q) =
        rw (ne_eqb b (code "0") q) (split (λ (t : Bool). t ≡ true) (eqb (suc (length s)) 1) (λ _. refl) (λ _. refl))

-- The digits of some bytes.
hex_digits_lem : (b : ℕ) (bs : List ℕ) → are_bytes (b ∷ bs) ≡ true
    → (length (hex (b ∷ bs)) % 2 ≡ 0) × (all is_hex_digit (hex (b ∷ bs)) ≡ true)
unfolding is_hex
hex_digits_lem b bs h =
    let s = hex (b ∷ bs) in
    let n = length s in
    let x = hex-is (b ∷ bs) h in
    let g = rw (ne_eqb n 0 (omega arith), ne_eqb n 1 (omega arith)) at x in
    let f = (and-eq-true_iff (eqb (n % 2) 0) (eqb (front is_hex_digit s) n)).0 g in
    (eqb-true (n % 2) 0 f.0, front-whole is_hex_digit s (eqb-true (front is_hex_digit s) n f.1))

-- What follows an item begins with no letter and no digit.
data Edge : List ℕ → Type 0 where
  edge : (c : ℕ) (v : List ℕ) → is_letter c ≡ false → is_digit c ≡ false → is_hex_digit c ≡ false
      → Edge (c ∷ v)

items_edge : {N : List ℕ → Type 0} {s : List ℕ} → Items N s → (v : List ℕ) → Edge (s ++ v)
items_edge close v = edge (code ")") v refl refl refl
items_edge (item s more i is) v = edge (code " ") (s ++ more ++ v) refl refl refl

module _ (nested : List ℕ → End) where
  -- From a letter or a digit on.
  module _ (s v : List ℕ) (some : 0 < length s) (high : code "0" ≤ get_or s 0 0) where
    first-same : get_or (s ++ v) 0 0 ≡ get_or s 0 0
    first-same = get_or-append s v 0 0 some

    not_open : eqb (get_or s 0 0) (code "(") ≡ false
    not_open = ne_eqb (get_or s 0 0) (code "(") (omega arith)

    not_dash : eqb (get_or s 0 0) (code "-") ≡ false
    not_dash = ne_eqb (get_or s 0 0) (code "-") (omega arith)

    letters-read : front is_letter (s ++ v) ≡ length s → front is_hex_digit (s ++ v) ≤ length s
        → item_end nested (s ++ v) ≡ Ok (length s)
    unfolding plain_end is_open
    letters-read e h =
        rw (first-same, not_open, not_dash, e, le-leb _ _ h, ne_eqb (length s) 0 (omega arith)) refl

    digits_read : front is_hex_digit (s ++ v) ≡ length s → front is_letter (s ++ v) ≤ length s
        → (eqb (length s % 2) 0 || is_number (s ++ v) (length s)) ≡ true → item_end nested (s ++ v) ≡ Ok (length s)
    unfolding plain_end is_open
    digits_read e h q = go (leb (length s) (front is_letter (s ++ v))) refl
      where
        go : (b : Bool) → leb (length s) (front is_letter (s ++ v)) ≡ b → item_end nested (s ++ v) ≡ Ok (length s)
        go true g = letters-read (omega (arith, leb-true (length s) (front is_letter (s ++ v)) g)) (omega arith)
        go false g = rw (first-same, not_open, not_dash, e, g, q) refl

  word_reads : {s : List ℕ} {v : List ℕ} → Word s → Edge v → item_end nested (s ++ v) ≡ Ok (length s)
  word_reads (letters b s e) (edge c v l d h) =
      let g = first_kind is_letter (b ∷ s) e (omega arith) in
      letters-read (b ∷ s) (c ∷ v) (omega arith) (omega (arith, letter_range b g)) (front-run is_letter (b ∷ s) c v e l)
      (front_within is_hex_digit (b ∷ s) c v h)

  number_reads : (n : ℕ) {v : List ℕ} → Edge v → item_end nested (decimal n ++ v) ≡ Ok (length (decimal n))
  number_reads n (edge c v l d h) =
      let s = decimal n in
      let some = decimal_some n in
      let e = decimal_digits n in
      let z = is-number s (c ∷ v) some (front-run is_digit s c v e d) (decimal_zero_alone n) in
      digits_read s (c ∷ v) some (digit_range (get_or s 0 0) (first_kind is_digit s e some)).0
      (front-run is_hex_digit s c v (all_digit_hex s e) h)
      (front_within is_letter s c v l)
      (rw z (or-true (eqb (length s % 2) 0)))

  bytes_read : (bs : List ℕ) {v : List ℕ} → are_bytes bs ≡ true → Edge v
      → item_end nested (hex bs ++ v) ≡ Ok (length (hex bs))
  unfolding plain_end is_open
  bytes_read [] p (edge c v l d h) = refl
  bytes_read (b ∷ bs) p (edge c v l d h) =
      let s = hex (b ∷ bs) in
      let r = hex_digits_lem b bs p in
      digits_read s (c ∷ v) (omega arith) (hex_within (get_or s 0 0) (first_kind is_hex_digit s r.1 (omega arith))).0
      (front-run is_hex_digit s c v r.1 h)
      (front_within is_letter s c v l)
      (rw (eq-eqb (length s % 2) 0 r.0) refl)

  module _
      (N : List ℕ → Type 0)
      (nested-reads : (s : List ℕ) → N s → (v : List ℕ) → nested (s ++ v) ≡ Ok (length s))
      (nested-opens : (s : List ℕ) → N s → (v : List ℕ) → is_open (s ++ v) ≡ true) where
    item_reads : {s v : List ℕ} → Item N s → Edge v → item_end nested (s ++ v) ≡ Ok (length s)
    item_reads (word s w) h = word_reads w h
    item_reads (number n) h = number_reads n h
    item_reads (bytes bs p) h = bytes_read bs p h
    item_reads {v} (form s p) h = rw (nested-opens s p v) (nested-reads s p v)

    items_reads : {s : List ℕ} → Items N s → (v : List ℕ) (k : ℕ) → length s ≤ k
        → items_from nested k (s ++ v) ≡ Ok (length s)
    items_reads close v zero h = absurd (omega arith)
    items_reads close v (suc k) h = refl
    items_reads (item s more i is) v zero h = absurd (omega arith)
    items_reads (item s more i is) v (suc k) h =
        let l = length-append s more in
        rw (
          append_assoc s more v,
          item_reads i (items_edge is v),
          drop-append_seam s (more ++ v),
          items_reads is v k (omega arith),
        )
        (ap Ok (omega arith))

word-front : {s v : List ℕ} → Word s → Edge v → (0 < length s) × (front is_letter (s ++ v) ≡ length s)
word-front (letters b s e) (edge c v l d h) = (omega arith, front-run is_letter (b ∷ s) c v e l)

form-opens : (depth : ℕ) (s : List ℕ) → Form depth s → (v : List ℕ) → is_open (s ++ v) ≡ true
unfolding is_open
form-opens zero s f v = elim f [ ]
form-opens (suc depth) s (opened w more x is) v = refl

-- A form is read, whatever follows it.
pub form_reads : (depth : ℕ) (s : List ℕ) → Form depth s → (v : List ℕ) → form_end depth (s ++ v) ≡ Ok (length s)
form_reads zero s f v = elim f [ ]
form_reads (suc depth) s (opened w more x is) v =
    let h = word-front x (items_edge is v) in
    let k = suc (length (w ++ (more ++ v))) in
    let l : length more ≤ k = omega (arith, length-append w (more ++ v), length-append more v) in
    rw (
      form-from depth (code "(") (w ++ more ++ v),
      append_assoc w more v,
      h.1,
      ne_eqb (length w) 0 (omega arith),
      drop-append_seam w (more ++ v),
      items_reads (form_end depth) (Form depth) (form_reads depth) (form-opens depth) is v k l,
    )
    (ap Ok (omega (arith, length-append w more)))

whole-fits : {P : List ℕ → Type 0} {s : List ℕ} {e : End} (n : ℕ) → Fits P s e → e ≡ Ok n
    → (n ≤ length s) × P (take n s)
whole-fits {P} {s} n (whole m h p) q =
    let r : m ≡ n = cc in
    subst (λ (k : ℕ). (k ≤ length s) × P (take k s)) r (h, p)
whole-fits n (begun m t h p) q = let z : ◌≡◌ {A = ℕ} 0 1 = cc in absurd (omega arith)

-- The reader ends behind n bytes exactly where they are a form.
pub form_exactly : (depth : ℕ) (s : List ℕ) (n : ℕ)
    → (form_end depth s ≡ Ok n) ↔ ((n ≤ length s) × Form depth (take n s))
unfolding form_end
form_exactly depth s n = (to depth, from)
  where
    to : (d : ℕ) → form_end d s ≡ Ok n → (n ≤ length s) × Form d (take n s)
    to zero q = let z : ◌≡◌ {A = ℕ} 0 1 = cc in absurd (omega arith)
    to (suc d) q = whole-fits n (form-fits d s) q

    from : (n ≤ length s) × Form depth (take n s) → form_end depth s ≡ Ok n
    from x =
        let r = form_reads depth (take n s) x.1 (drop n s) in
        rw (take-append-drop n s, length-take-le n s x.0) at r

-- All bytes are a form exactly where the reader ends behind the last.
pub form-whole : (depth : ℕ) (s : List ℕ) → (form_end depth s ≡ Ok (length s)) ↔ Form depth s
form-whole depth s =
    let x = form_exactly depth s (length s) in
    (λ q. rw (take-length s) at (x.0 q).1, λ f. x.1 (omega arith, rw (take-length s) f))
