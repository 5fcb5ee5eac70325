-- A line agrees with a shape exactly where it is the shape with fitting items at its marks, and those are the items
-- found (`shape-read`, `shape-written`).
use mathlib.Core.Path.{◌≡◌, refl, sym, ap, ◌∙◌}
use mathlib.Core.Bool.{Bool, true, false, not, cond, ◌&&◌, and-eq-true_iff, false≢true}
use mathlib.Core.List.{List, [], ◌∷◌, ◌++◌, append-nil}
use Prim.Native.Nat.{ℕ, suc, ◌+◌, ◌-◌, ◌^◌, ◌≤◌, ◌<◌}
use Prim.Native.Char.{code}
use native.Mathlib.Nat.{add-zero}
use native.Mathlib.Numerals.{add-one}
use native.Mathlib.Omega.{arith}
use borrow.Author.Tests.{ltb-true, ltb-false, not-true, eqb-true, eq-eqb}
use lib.Dec.{ltb, eqb}
use lib.ListN.{length, get_or, drop, length-append, length-drop, take-append-drop, get_or-eq_default}
use lib.Seq.{length-take-le, drop-length, take-append_seam, drop-append_seam, drop-cons, drop-drop, get_or-drop}
use Rattle.std.specs.Prelude.{Option, Some, None, option_and_then}
use Rattle.std.proofs.lemmas.Option.{none-some, cond_some}
use Rattle.forms.specs.Bytes.{all, front, is_item}
use Rattle.forms.specs.Decimal.{decimal, decimal_of}
use Rattle.forms.specs.Hex.{hex, are_bytes, hex_bytes}
use Rattle.forms.proofs.BytesLaws.{front-all, front-run, front_le}
use Rattle.forms.proofs.DecimalLaws.{decimal-item, decimal_exactly}
use Rattle.forms.proofs.HexLaws.{hex-item, hex_exactly}
use Rattle.call_text.specs.declared.line.Fields.{Fields}
use Rattle.call_text.specs.Line.{item_at, number_in, is_mark, fits, begin_at, start, past_byte, past_field, compare, compare_all, at_end, fields_of}

-- The text of a shape with items at its marks, whether they fit there, and how many marks there are.
abbrev pub fill : (shape : List ℕ) (items : List (List ℕ)) → List ℕ
fill [] = λ items. []
fill (m ∷ shape) =
    cond (is_mark m) (λ items. get_or items 0 [] ++ fill shape (drop 1 items)) (λ items. m ∷ fill shape items)

abbrev pub fit : (shape : List ℕ) (items : List (List ℕ)) → Bool
fit [] = λ items. true
fit (m ∷ shape) = cond (is_mark m) (λ items. fits m (get_or items 0 []) && fit shape (drop 1 items)) (fit shape)

abbrev pub marks : (shape : List ℕ) → ℕ
marks [] = 0
marks (m ∷ shape) = let n = marks shape in cond (is_mark m) (suc n) n

-- A shape of bytes, with a blank, a closing bracket or the end behind each mark.
abbrev pub stops : (shape : List ℕ) → Bool
stops [] = true
stops (m ∷ shape) = not (is_mark m) && not (is_item m)

abbrev pub good : (shape : List ℕ) → Bool
good [] = true
good (m ∷ shape) = cond (is_mark m) (stops shape) (ltb m 256) && good shape

good_cons : (m : ℕ) (shape : List ℕ) → good (m ∷ shape) ≡ true
    → (cond (is_mark m) (stops shape) (ltb m 256) ≡ true) × (good shape ≡ true)
good_cons m shape = (and-eq-true_iff (cond (is_mark m) (stops shape) (ltb m 256)) (good shape)).0

-- ---- Items

-- What fits a mark is written as bytes or as a number.
pub bytes_fit : (x : List ℕ) → fits (code "#") x ≡ true → (x ≡ hex (hex_bytes x)) × (are_bytes (hex_bytes x) ≡ true)
unfolding fits
bytes_fit x = (hex_exactly x).0

pub number_fit : (x : List ℕ) → fits (code "%") x ≡ true → (x ≡ decimal (number_in x)) × (number_in x < 2 ^ 64)
unfolding fits number_in
number_fit x h = (decimal_exactly x (number_in x)).0 (go (decimal_of x) refl)
  where
    go : (n : Option ℕ) → decimal_of x ≡ n → decimal_of x ≡ Some (number_in x)
    go (Some n) e = rw (e, number_in) refl
    go None e = absurd (false≢true (rw e at h))

-- It has no blank and no bracket.
fits-item : (mark : ℕ) (x : List ℕ) → fits mark x ≡ true → all is_item x ≡ true
unfolding fits
fits-item mark x h = go (eqb mark (code "#")) refl
  where
    go : (t : Bool) → eqb mark (code "#") ≡ t → all is_item x ≡ true
    go true e = let r = bytes_fit x (rw e at h) in rw r.0 (hex-item (hex_bytes x) r.1)
    go false e = let r = number_fit x (rw e at h) in rw r.0 (decimal-item (number_in x))

-- An item ends where a shape goes on with a blank or a bracket.
item_ends : (shape x : List ℕ) (items : List (List ℕ)) → stops shape ≡ true → all is_item x ≡ true
    → front is_item (x ++ fill shape items) ≡ length x
item_ends [] x items h a = rw append-nil (front-all is_item x a)
item_ends (m ∷ shape) x items h a =
    let g = (and-eq-true_iff (not (is_mark m)) (not (is_item m))).0 h in
    rw (not-true (is_mark m) g.0) (front-run is_item x m (fill shape items) a (not-true (is_item m) g.1))

-- ---- One step

module _ (s : List ℕ) where
  -- The items at the places noted.
  abbrev pub contents : Fields → List (List ℕ)
  contents f =
      item_at s (begin_at f 0) ∷ (item_at s (begin_at f 1) ∷ (item_at s (begin_at f 2) ∷ (item_at s (begin_at f 3) ∷ [])))

  -- Whether a byte of a shape, a mark or not, is met at a place, and where it leads.
  abbrev met : Bool → ℕ → ℕ → Bool
  met true at mark = fits mark (item_at s at)
  met false at mark = eqb (get_or s at 256) mark

  abbrev past : Bool → Fields → Fields
  past true f = past_field f (length (item_at s f.at))
  past false f = past_byte f

  compare-is : (f : Fields) (mark : ℕ) (t : Bool) → is_mark mark ≡ t
      → compare s f mark ≡ cond (met t f.at mark) (Some (past t f)) None
  unfolding compare
  compare-is f mark true e = rw e refl
  compare-is f mark false e = rw e refl

  -- Behind an item, and behind a byte.
  item_split : (at : ℕ) → at ≤ length s
      → (drop at s ≡ item_at s at ++ drop (at + length (item_at s at)) s) × (at + length (item_at s at) ≤ length s)
  unfolding item_at
  item_split at h =
      let r = drop at s in
      let b = front_le is_item r in
      let l = length-drop at s in
      rw (length-take-le (front is_item r) r b)
      (rw (← (drop-drop (front is_item r) at s)) (sym (take-append-drop (front is_item r) r)), omega arith)

  byte_split : (at m : ℕ) → m < 256 → get_or s at 256 ≡ m → (drop at s ≡ m ∷ drop (at + 1) s) × (at + 1 ≤ length s)
  byte_split at m h e = go (ltb at (length s)) refl
    where
      go : (t : Bool) → ltb at (length s) ≡ t → (drop at s ≡ m ∷ drop (at + 1) s) × (at + 1 ≤ length s)
      go true t =
          let l = ltb-true at (length s) t in
          (rw (add-one, ← e) (drop-cons s at 256 l), omega arith)
      go false t = absurd (omega (arith, get_or-eq_default s 256 (ltb-false at (length s) t)))

  -- From a place on, a line is a shape with fitting items.
  record Filled (shape : List ℕ) (at : ℕ) (items : List (List ℕ)) : Type 0 where
    text : drop at s ≡ fill shape items
    fitting : fit shape items ≡ true
    count : length items ≡ marks shape

  -- Where the line agrees to its end it is the shape with the items noted.
  abbrev Noted : (shape : List ℕ) (f g : Fields) → Type 0
  Noted shape f g =
      g.at ≡ length s → (items : List (List ℕ)) × Filled shape f.at items × (contents g ≡ drop (length items) (contents f ++ items))

  abbrev Read : (shape : List ℕ) (f : Fields) → Option Fields → Type 0
  Read shape f None = Unit {0}
  Read shape f (Some g) = Noted shape f g

  read_on : (shape more : List ℕ) (f h : Fields) → ((g : Fields) → Noted shape f g → Noted more h g) → (r : Option Fields)
      → Read shape f r → Read more h r
  read_on shape more f h next None x = x
  read_on shape more f h next (Some g) x = next g x

  read-from : (shape : List ℕ) (f : Fields) → good shape ≡ true → f.at ≤ length s → Read shape f (compare_all s f shape)
  unfolding compare_all past_byte past_field
  read-from [] f h b = λ w. ([], record { text = rw w (drop-length s); fitting = refl; count = refl }, refl)
  read-from (m ∷ shape) f h b =
      go (λ g. read-from shape g (good_cons m shape h).1) (is_mark m) (met (is_mark m) f.at m) refl refl
    where
      go : ((g : Fields) → g.at ≤ length s → Read shape g (compare_all s g shape)) → (t u : Bool) → is_mark m ≡ t
          → met t f.at m ≡ u → Read (m ∷ shape) f (compare_all s f (m ∷ shape))
      go next t false e g = rw (compare_all, compare-is f m t e, g) tt
      go next true true e g =
          let p = item_split f.at b in
          rw (compare_all, compare-is f m true e, g)
          (read_on shape (m ∷ shape) (past true f) f
          (λ k read w.
          let r = read w in
          let q = p.0 ∙ ap (λ (l : List ℕ). item_at s f.at ++ l) r.1.text in (
            item_at s f.at ∷ r.0,
            record { text = rw e q; fitting = rw (e, g) r.1.fitting; count = rw e (ap suc r.1.count) },
            r.2,
          ))
          (compare_all s (past true f) shape) (next (past true f) p.1))
      go next false true e g =
          let p = byte_split f.at m (ltb-true m 256 (rw e at (good_cons m shape h).0)) (eqb-true _ _ g) in
          rw (compare_all, compare-is f m false e, g)
          (read_on shape (m ∷ shape) (past false f) f
          (λ k read w.
          let r = read w in
          let q = p.0 ∙ ap (λ (l : List ℕ). m ∷ l) r.1.text in
          (r.0, record { text = rw e q; fitting = rw e r.1.fitting; count = rw e r.1.count }, r.2))
          (compare_all s (past false f) shape) (next (past false f) p.1))

  -- An item in front, and a byte in front.
  item_join : (at : ℕ) (x rest : List ℕ) → at ≤ length s → front is_item (x ++ rest) ≡ length x → drop at s ≡ x ++ rest
      → (item_at s at ≡ x) × (drop (at + length x) s ≡ rest) × (at + length x ≤ length s)
  unfolding item_at
  item_join at x rest b n e =
      let l = ap length e in (
        rw (e, n) (take-append_seam x rest),
        rw (← (drop-drop (length x) at s), e) (drop-append_seam x rest),
        omega (arith, rw (length-drop, length-append) at l),
      )

  byte_join : (at m : ℕ) (rest : List ℕ) → drop at s ≡ m ∷ rest
      → (get_or s at 256 ≡ m) × (drop (at + 1) s ≡ rest) × (at + 1 ≤ length s)
  byte_join at m rest e =
      let l = ap length e in (
        rw (add-zero, e) at (sym (get_or-drop at s 0 256)),
        rw (← (drop-drop 1 at s), e) refl,
        omega (arith, rw length-drop at l),
      )

  -- The line's end is reached, and items are noted.
  record Reached (r : Option Fields) (items : List (List ℕ)) : Type 0 where
    fields : Fields
    agreed : r ≡ Some fields
    whole : fields.at ≡ length s
    noted : contents fields ≡ items

  -- A line that is the shape with fitting items agrees to its end.
  write_from : (shape : List ℕ) (f : Fields) (items : List (List ℕ)) → good shape ≡ true → f.at ≤ length s
      → Filled shape f.at items
      → Reached (compare_all s f shape) (drop (length items) (contents f ++ items))
  unfolding compare_all past_byte past_field
  write_from [] f [] h b r =
      record { fields = f; agreed = refl; whole = omega (arith, rw length-drop at (ap length r.text)); noted = refl }
  write_from [] f (x ∷ items) h b r = absurd (omega (arith, r.count))
  write_from (m ∷ shape) f items h b r =
      go (λ g items. write_from shape g items (good_cons m shape h).1) (is_mark m) items refl r
    where
      go : ((g : Fields) (items : List (List ℕ)) → g.at ≤ length s → Filled shape g.at items
          → Reached (compare_all s g shape) (drop (length items) (contents g ++ items))) → (t : Bool)
          (items : List (List ℕ)) → is_mark m ≡ t → Filled (m ∷ shape) f.at items
          → Reached (compare_all s f (m ∷ shape)) (drop (length items) (contents f ++ items))
      go next true [] e r = absurd (omega (arith, rw e at r.count))
      go next true (x ∷ items) e r =
          let k = (and-eq-true_iff (fits m x) (fit shape items)).0 (rw e at r.fitting) in
          let n = item_ends shape x items (rw e at (good_cons m shape h).0) (fits-item m x k.0) in
          let p = item_join f.at x (fill shape items) b n (rw e at r.text) in
          let c : length items ≡ marks shape = omega (arith, rw e at r.count) in
          let q = next (past_field f (length x)) items p.2 (record { text = p.1; fitting = k.1; count = c }) in
          rw (compare_all, compare-is f m true e, p.0, k.0) (rw p.0 at q)
      go next false items e r =
          let p = byte_join f.at m (fill shape items) (rw e at r.text) in
          rw (compare_all, compare-is f m false e, p.0, eq-eqb m m refl)
          (next (past_byte f) items p.2
          (record { text = p.1; fitting = rw e at r.fitting; count = rw e at r.count }))

  -- ---- A whole line

  -- The items at a shape's marks, of which there are at most four.
  abbrev pub items_in : Fields → (shape : List ℕ) → List (List ℕ)
  items_in f shape = drop (4 - marks shape) (contents f)

  -- The last of those noted are a shape's.
  last-items : (shape : List ℕ) (f g : Fields) (items : List (List ℕ)) → marks shape ≤ 4 → length items ≡ marks shape
      → contents g ≡ drop (length items) (contents f ++ items) → drop (4 - marks shape) (contents g) ≡ items
  last-items shape f g items l c e =
      let four : length items + (4 - length items) ≡ 4 = omega arith in
      rw (← c, e, drop-drop, four) refl

  -- A line that agrees is the shape with the items found, and they fit.
  pub shape-read : (shape : List ℕ) (f : Fields) → good shape ≡ true → marks shape ≤ 4 → fields_of shape s ≡ Some f
      → (s ≡ fill shape (items_in f shape)) × (fit shape (items_in f shape) ≡ true)
  unfolding fields_of start
  shape-read shape f h l k = go (compare_all s start shape) (read-from shape start h (omega arith)) k
    where
      go : (r : Option Fields) → Read shape start r → option_and_then (at_end s) r ≡ Some f
          → (s ≡ fill shape (items_in f shape)) × (fit shape (items_in f shape) ≡ true)
      go None x e = absurd (none-some f e)
      go (Some g) x e =
          let q = cond_some (eqb g.at (length s)) g f e in
          let r = x (eqb-true _ _ q.0) in
          rw (← q.1, last-items shape start g r.0 l r.1.count r.2) (r.1.text, r.1.fitting)

  -- A line that is the shape with fitting items agrees, and these are found.
  pub shape-written : (shape : List ℕ) (items : List (List ℕ)) → good shape ≡ true → marks shape ≤ 4
      → length items ≡ marks shape → fit shape items ≡ true → s ≡ fill shape items
      → (f : Fields) × (fields_of shape s ≡ Some f) × (items_in f shape ≡ items)
  unfolding fields_of start
  shape-written shape items h l c k e =
      let r = write_from shape start items h (omega arith) (record { text = e; fitting = k; count = c }) in (
        r.fields,
        rw (r.agreed, eq-eqb _ _ r.whole) refl,
        last-items shape start r.fields items l c r.noted,
      )
