-- Where the bracket reader stops: what stands before is the beginning of a form, and with one byte more it is none. For
-- the reader has looked at that byte and at none behind it (`form_local`), so it stops there whatever follows.
use mathlib.Core.Path.{◌≡◌, refl, sym, ap, subst, ◌∙◌}
use mathlib.Core.Bool.{Bool, true, false, cond, ◌||◌}
use mathlib.Core.List.{List, [], ◌∷◌, ◌++◌}
use Prim.Native.Nat.{ℕ, zero, suc, ◌+◌, ◌-◌, ◌%◌, ◌≤◌, ◌<◌}
use Prim.Native.Char.{code}
use native.Mathlib.Omega.{arith}
use borrow.Author.Tests.{leb-true, leb-false, eqb-true}
use lib.Dec.{leb, eqb}
use lib.ListN.{length, get_or, take, drop, length-append, length-drop}
use lib.Seq.{append_snoc, drop-append-le, length-take-le, split_at, take-suc}
use Rattle.std.specs.Prelude.{Ok, Err}
use Rattle.forms.specs.Bytes.{front, is_letter, is_digit, is_hex_digit}
use Rattle.forms.specs.Form.{End, stop, is_number, plain_end, is_open, form_end}
use Rattle.forms.specs.Grammar.{Begins}
use Rattle.forms.proofs.FormLaws.{split, moved, item_end, beyond, items_from, word_from, form-from}
use Rattle.forms.proofs.FormLaws.{Fits, form-fits, form-whole}
use Rattle.forms.proofs.FormLaws.Fits.{whole, begun}

abbrev place : End → ℕ
place (Ok n) = n
place (Err e) = e.at

-- An end at or before c is the same with other bytes behind c.
abbrev Local : (List ℕ → End) → Type 0
Local read = (u : List ℕ) (c : ℕ) (v w : List ℕ) → place (read (u ++ (c ∷ v))) ≤ length u
    → read (u ++ (c ∷ w)) ≡ read (u ++ (c ∷ v))

-- ---- how many bytes of a kind stand in front, with other bytes behind c

front_same : (kind : ℕ → Bool) (u : List ℕ) (c : ℕ) (v w : List ℕ) → front kind (u ++ (c ∷ v)) ≤ length u
    → front kind (u ++ (c ∷ w)) ≡ front kind (u ++ (c ∷ v))
front_same kind [] c v w h = go (kind c) refl
  where
    go : (t : Bool) → kind c ≡ t → front kind (c ∷ w) ≡ front kind (c ∷ v)
    go true e = absurd (omega (arith, rw e at h))
    go false e = rw e refl
front_same kind (b ∷ u) c v w h = go (front_same kind u c v w) (kind b) refl
  where
    go : (front kind (u ++ (c ∷ v)) ≤ length u → front kind (u ++ (c ∷ w)) ≡ front kind (u ++ (c ∷ v))) → (t : Bool)
        → kind b ≡ t → front kind ((b ∷ u) ++ (c ∷ w)) ≡ front kind ((b ∷ u) ++ (c ∷ v))
    go f true e = rw e (ap suc (f (omega (arith, rw e at h))))
    go f false e = rw e refl

first-same : (u : List ℕ) (c : ℕ) (v w : List ℕ) (d : ℕ) → get_or (u ++ (c ∷ w)) 0 d ≡ get_or (u ++ (c ∷ v)) 0 d
first-same [] c v w d = refl
first-same (b ∷ u) c v w d = refl

digits_le : (s : List ℕ) → front is_digit s ≤ front is_hex_digit s
digits_le [] = omega arith
digits_le (b ∷ s) = go (digits_le s) (is_digit b) refl
  where
    go : front is_digit s ≤ front is_hex_digit s → (t : Bool) → is_digit b ≡ t
        → front is_digit (b ∷ s) ≤ front is_hex_digit (b ∷ s)
    go f true e = rw e (omega arith)
    go f false e = rw e (omega arith)

-- ---- items and forms

-- An item ends behind its letters and its digits.
plain_ahead : (s : List ℕ) → eqb (get_or s 0 0) (code "-") ≡ false
    → (front is_letter s ≤ place (plain_end s)) × (front is_hex_digit s ≤ place (plain_end s))
unfolding plain_end
plain_ahead s e =
    rw e
    (split Goal (leb (front is_hex_digit s) (front is_letter s))
    (λ q. split Goal (eqb (front is_letter s) 0) (λ z. omega (arith, leb-true, eqb-true)) (λ _. omega (arith, leb-true)))
    (λ q. split Goal (eqb (front is_hex_digit s % 2) 0 || is_number s (front is_hex_digit s)) (λ _. omega (arith, leb-false))
    (λ _. omega (arith, leb-false))))
  where
    Goal : End → Type 0
    Goal x = (front is_letter s ≤ place x) × (front is_hex_digit s ≤ place x)

plain_local : Local plain_end
unfolding plain_end is_number
plain_local u c v w h = go (eqb (get_or (u ++ (c ∷ v)) 0 0) (code "-")) refl
  where
    go : (t : Bool) → eqb (get_or (u ++ (c ∷ v)) 0 0) (code "-") ≡ t → plain_end (u ++ (c ∷ w)) ≡ plain_end (u ++ (c ∷ v))
    go true e = rw (first-same u c v w 0, e) refl
    go false e =
        let g = plain_ahead (u ++ (c ∷ v)) e in
        let d = digits_le (u ++ (c ∷ v)) in
        rw (
          first-same u c v w 0,
          first-same u c v w (code "0"),
          front_same is_letter u c v w (omega arith),
          front_same is_hex_digit u c v w (omega arith),
          front_same is_digit u c v w (omega arith),
        )
        refl

-- Each case of a test for itself.
cond_local : (l : ℕ) (t : Bool) (x y x' y' : End) → (place x ≤ l → x' ≡ x) → (place y ≤ l → y' ≡ y)
    → place (cond t x y) ≤ l → cond t x' y' ≡ cond t x y
cond_local l true x y x' y' f g h = f h
cond_local l false x y x' y' f g h = g h

moved_place : (n : ℕ) (e : End) → place (moved n e) ≡ n + place e
moved_place n (Ok m) = refl
moved_place n (Err e) = refl

beyond_place : (e : End) (f : ℕ → End) → suc (place e) ≤ place (beyond e f)
beyond_place (Ok n) f = omega (arith, moved_place (suc n) (f n))
beyond_place (Err e) f = omega arith

beyond_local : (e : End) (l : ℕ) (f g : ℕ → End) → ((n : ℕ) → n ≤ l → place (f n) ≤ l - n → g n ≡ f n)
    → place (beyond e f) ≤ suc l → beyond e g ≡ beyond e f
beyond_local (Ok n) l f g same h =
    let p = moved_place (suc n) (f n) in
    ap (moved (suc n)) (same n (omega arith) (omega arith))
beyond_local (Err e) l f g same h = refl

module _ (nested : List ℕ → End) (nested-local : Local nested) where
  item_local : Local (item_end nested)
  unfolding is_open
  item_local u c v w h =
      rw (first-same u c v w 0)
      (cond_local (length u) (is_open (u ++ (c ∷ v))) _ _ _ _ (nested-local u c v w) (plain_local u c v w) h)

  -- Each turn moves on by a byte at least: a bound above what stands before c is enough, whatever stands behind c.
  items_local : (k l : ℕ) (u : List ℕ) (c : ℕ) (v w : List ℕ) → length u < k → length u < l
      → place (items_from nested k (u ++ (c ∷ v))) ≤ length u
      → items_from nested l (u ++ (c ∷ w)) ≡ items_from nested k (u ++ (c ∷ v))
  items_local zero l u c v w p q h = absurd (omega arith)
  items_local (suc k) zero u c v w p q h = absurd (omega arith)
  items_local (suc k) (suc l) [] c v w p q h =
      cond_local 0 (eqb c (code ")")) _ _ _ _ (λ _. refl)
      (cond_local 0 (eqb c (code " ")) _ _ _ _
      (λ g. absurd (omega (arith, beyond_place (item_end nested v) (λ n. items_from nested k (drop n v)))))
      (λ _. refl))
      h
  items_local (suc k) (suc l) (b ∷ u) c v w p q h =
      cond_local (suc (length u)) (eqb b (code ")")) _ _ _ _ (λ _. refl)
      (cond_local (suc (length u)) (eqb b (code " ")) _ _ _ _ (item (λ u'. items_local k l u' c v w)) (λ _. refl))
      h
    where
      e : End
      e = item_end nested (u ++ (c ∷ v))

      f : ℕ → End
      f n = items_from nested k (drop n (u ++ (c ∷ v)))

      g : ℕ → End
      g n = items_from nested l (drop n (u ++ (c ∷ w)))

      item : ((u' : List ℕ) → length u' < k → length u' < l → place (items_from nested k (u' ++ (c ∷ v))) ≤ length u'
          → items_from nested l (u' ++ (c ∷ w)) ≡ items_from nested k (u' ++ (c ∷ v)))
          → place (beyond e f) ≤ suc (length u) → beyond (item_end nested (u ++ (c ∷ w))) g ≡ beyond e f
      item more i =
          rw (item_local u c v w (omega (arith, beyond_place e f)))
          (beyond_local e (length u) f g
          (λ n m j.
          let x = length-drop n u in
          rw (drop-append-le n u (c ∷ w) m, drop-append-le n u (c ∷ v) m)
          (more (drop n u) (omega arith) (omega arith) (rw x (rw (drop-append-le n u (c ∷ v) m) at j))))
          i)

word_ahead : (depth : ℕ) (s : List ℕ) → suc (front is_letter s) ≤ place (word_from depth s)
word_ahead depth s =
    split (λ (e : End). suc (front is_letter s) ≤ place e) (eqb (front is_letter s) 0) (λ q. omega (arith, eqb-true))
    (λ _. rw (moved_place (suc (front is_letter s))) (omega arith))

-- Where the reader ends, it has looked at the byte there and at none behind it.
form_local : (depth : ℕ) → Local (form_end depth)
unfolding form_end
form_local zero u c v w h = refl
form_local (suc depth) [] c v w h =
    rw (form-from depth c w, form-from depth c v)
    (cond_local 0 (eqb c (code "(")) _ _ _ _ (λ g. absurd (omega (arith, word_ahead depth v))) (λ _. refl)
    (rw (form-from depth c v) at h))
form_local (suc depth) (b ∷ u) c v w h =
    rw (form-from depth b (u ++ (c ∷ w)), form-from depth b (u ++ (c ∷ v)))
    (cond_local (suc (length u)) (eqb b (code "(")) _ _ _ _ (opened (form_local depth)) (λ _. refl)
    (rw (form-from depth b (u ++ (c ∷ v))) at h))
  where
    n : ℕ
    n = front is_letter (u ++ (c ∷ v))

    opened : Local (form_end depth) → place (word_from depth (u ++ (c ∷ v))) ≤ suc (length u)
        → word_from depth (u ++ (c ∷ w)) ≡ word_from depth (u ++ (c ∷ v))
    opened nested-local g =
        let i : n ≤ length u = omega (arith, word_ahead depth (u ++ (c ∷ v))) in
        rw (front_same is_letter u c v w i)
        (cond_local (suc (length u)) (eqb n 0) _ _ _ _ (λ _. refl)
        (λ j.
        let x = length-drop n u in
        let y = length-append u (c ∷ v) in
        let z = length-append u (c ∷ w) in
        let k = rw (moved_place (suc n), drop-append-le n u (c ∷ v) i) at j in
        rw (drop-append-le n u (c ∷ w) i, drop-append-le n u (c ∷ v) i)
        (ap (moved (suc n))
        (items_local (form_end depth) nested-local (suc (length (u ++ (c ∷ v)))) (suc (length (u ++ (c ∷ w))))
        (drop n u) c v w (omega arith) (omega arith) (omega arith))))
        g)

stopped-fits : {P : List ℕ → Type 0} {s : List ℕ} {e : End} (n : ℕ) → Fits P s e → e ≡ stop n
    → (n ≤ length s) × ((t : List ℕ) × P (take n s ++ t))
stopped-fits n (whole m h p) q = let z : ◌≡◌ {A = ℕ} 0 1 = cc in absurd (omega arith)
stopped-fits {P} {s} n (begun m t h p) q =
    let r : m ≡ n = ap place q in
    subst (λ (k : ℕ). (k ≤ length s) × ((t : List ℕ) × P (take k s ++ t))) r (h, (t, p))

-- Where the reader stops, the bytes before begin a form, and with one byte more they begin none.
pub form_stops : (depth : ℕ) (s : List ℕ) (k : ℕ) → 0 < depth → form_end depth s ≡ stop k
    → (k ≤ length s) × Begins depth (take k s) × (k < length s → Begins depth (take (suc k) s) → ⊥)
form_stops zero s k h e = absurd (omega arith)
form_stops (suc depth) s k h e = (x.0, x.1, never)
  where
    x : (k ≤ length s) × Begins (suc depth) (take k s)
    x = stopped-fits k (form-fits depth s) e

    form : List ℕ → End
    form = form_end (suc depth)

    u : List ℕ
    u = take k s

    c : ℕ
    c = get_or s k 0

    v : List ℕ
    v = drop (suc k) s

    never : k < length s → Begins (suc depth) (take (suc k) s) → ⊥
    never l b =
        let stop : form (u ++ (c ∷ v)) ≡ stop k = ap form (sym (split_at s k 0 l)) ∙ e in
        let m : place (form (u ++ (c ∷ v))) ≤ length u = rw (stop, length-take-le k s x.0) (omega arith) in
        let again = form_local (suc depth) u c v b.0 m in
        let more = take-suc s k 0 l in
        let same = append_snoc u c b.0 in
        let read = (form-whole (suc depth) (take (suc k) s ++ b.0)).1 b.1 in
        let z : ◌≡◌ {A = ℕ} 0 1 = cc in
        omega arith
