-- The lines of a file: taken from its front one after another, and joined again.
use mathlib.Core.Path.{◌≡◌, refl, sym, ap, ap₂, subst, ◌∙◌}
use mathlib.Core.Bool.{Bool, true, false, cond}
use mathlib.Core.Logic.{◌↔◌, ◌⊎◌, inl, inr}
use mathlib.Core.List.{List, [], ◌∷◌, ◌++◌, append_assoc, cons≢nil}
use Prim.Native.Nat.{ℕ, suc, ◌≤◌, ◌<◌}
use Prim.Native.Char.{code}
use native.Mathlib.Omega.{arith}
use borrow.Author.Tests.{not-true, eqb-true}
use lib.Dec.{eqb}
use lib.ListN.{length, take, drop, length-append}
use lib.Seq.{take-append_seam}
use Rattle.forms.specs.Bytes.{front, is_line}
use Rattle.forms.proofs.BytesLaws.{all_cons}
use Rattle.call_text.specs.CallText.{newline, Each, IsLine, EndsFull, joined}
use Rattle.call_text.specs.CallText.Each.{none, more}
use Rattle.call_text.specs.List.{in_front, lines_of}

-- A line that is not empty.
abbrev pub NotEmpty : List ℕ → Type 0
NotEmpty l = 0 < length l

pub some_full : (ls : List (List ℕ)) → Each NotEmpty ls → EndsFull ls
some_full ls some front e = go front (subst (Each NotEmpty) e some)
  where
    go : (front : List (List ℕ)) → Each NotEmpty (front ++ ([] ∷ [])) → ⊥
    go [] (more h others) = omega arith
    go (l ∷ front) (more h others) = go front others

abbrev Steps : List ℕ → Type 0
Steps s = lines_of s ≡ take (front is_line s) s ∷ lines_of (drop (suc (front is_line s)) s)

-- The first line goes to the first newline, and the other lines are those behind it.
pub lines_step : (s : List ℕ) → 0 < length s
    → lines_of s ≡ take (front is_line s) s ∷ lines_of (drop (suc (front is_line s)) s)
unfolding lines_of
lines_step [] h = absurd (omega arith)
lines_step (b ∷ []) h = go (eqb b (code "\n")) refl
  where
    go : (t : Bool) → eqb b (code "\n") ≡ t → Steps (b ∷ [])
    go true e = rw e refl
    go false e = rw e refl
lines_step (b ∷ (c ∷ s)) h = go (lines_step (c ∷ s) (omega arith)) (eqb b (code "\n")) refl
  where
    go : Steps (c ∷ s) → (t : Bool) → eqb b (code "\n") ≡ t → Steps (b ∷ (c ∷ s))
    go f true e = rw e refl
    go f false e = rw e (ap (in_front b) f)

-- A file without lines has no bytes, and no file has more lines than bytes.
pub lines_none : (s : List ℕ) → lines_of s ≡ [] → length s ≡ 0
lines_none [] e = refl
lines_none (b ∷ s) e = absurd (cons≢nil (sym (lines_step (b ∷ s) (omega arith)) ∙ e))

front-count : (b : ℕ) (ls : List (List ℕ)) → length (in_front b ls) ≤ suc (length ls)
front-count b [] = omega arith
front-count b (l ∷ ls) = omega arith

pub lines-count : (s : List ℕ) → length (lines_of s) ≤ length s
unfolding lines_of
lines-count [] = omega arith
lines-count (b ∷ s) = go (lines-count s) (eqb b (code "\n")) refl
  where
    go : length (lines_of s) ≤ length s → (t : Bool) → eqb b (code "\n") ≡ t → length (lines_of (b ∷ s)) ≤ suc (length s)
    go f true e = rw e (omega arith)
    go f false e = rw e (omega (arith, front-count b (lines_of s)))

-- No newline stands in a line of a file.
line-front : (b : ℕ) (ls : List (List ℕ)) → is_line b ≡ true → Each IsLine ls → Each IsLine (in_front b ls)
line-front b [] e none = more {l = b ∷ []} (rw e refl) none
line-front b (l ∷ ls) e (more h others) = more {l = b ∷ l} (rw e h) others

pub lines-whole : (s : List ℕ) → Each IsLine (lines_of s)
unfolding lines_of
lines-whole [] = none
lines-whole (b ∷ s) = go (lines-whole s) (eqb b (code "\n")) refl
  where
    go : Each IsLine (lines_of s) → (t : Bool) → eqb b (code "\n") ≡ t → Each IsLine (lines_of (b ∷ s))
    go f true e = rw e (more refl f)
    go f false e = rw e (line-front b (lines_of s) (rw e refl) f)

-- ---- Lines joined, and a file's lines joined again

line_first : (l s : List ℕ) → IsLine l → lines_of (l ++ newline ++ s) ≡ l ∷ lines_of s
unfolding lines_of
line_first [] s h = refl
line_first (b ∷ l) s h =
    let g = all_cons is_line b l h in
    rw (not-true (eqb b (code "\n")) g.0) (ap (in_front b) (line_first l s g.1))

-- The lines of what is joined are those that were joined.
pub lines-joined : (ls : List (List ℕ)) → Each IsLine ls → lines_of (joined ls) ≡ ls
unfolding lines_of
lines-joined [] none = refl
lines-joined (l ∷ ls) (more h others) =
    line_first l (joined ls) h ∙ ap (λ (rest : List (List ℕ)). l ∷ rest) (lines-joined ls others)

abbrev Closed : List ℕ → Type 0
Closed s = (lines_of (s ++ newline) ≡ lines_of s) ⊎ (lines_of (s ++ newline) ≡ lines_of s ++ ([] ∷ []))

-- A newline behind a file closes its last line, or is an empty line.
lines-newline : (s : List ℕ) → Closed s
unfolding lines_of
lines-newline [] = inr refl
lines-newline (b ∷ s) = go (lines_of s) (eqb b (code "\n")) refl (lines-newline s)
  where
    go : (ls : List (List ℕ)) (t : Bool) → eqb b (code "\n") ≡ t
        → (lines_of (s ++ newline) ≡ ls) ⊎ (lines_of (s ++ newline) ≡ ls ++ ([] ∷ []))
        → (lines_of (b ∷ (s ++ newline)) ≡ cond t ([] ∷ ls) (in_front b ls))
        ⊎ (lines_of (b ∷ (s ++ newline)) ≡ cond t ([] ∷ ls) (in_front b ls) ++ ([] ∷ []))
    go ls true e (inl f) = inl (rw e (ap (λ (rest : List (List ℕ)). [] ∷ rest) f))
    go ls true e (inr f) = inr (rw e (ap (λ (rest : List (List ℕ)). [] ∷ rest) f))
    go ls false e (inl f) = inl (rw e (ap (in_front b) f))
    go [] false e (inr f) = inl (rw e (ap (in_front b) f))
    go (l ∷ ls) false e (inr f) = inr (rw e (ap (in_front b) f))

-- They are the same without the last newline, where the last line is not empty.
pub lines_open : (s : List ℕ) (ls : List (List ℕ)) → Each IsLine ls → EndsFull ls → s ++ newline ≡ joined ls
    → lines_of s ≡ ls
lines_open s ls h full e = go (lines-newline s)
  where
    closed : lines_of (s ++ newline) ≡ ls
    closed = ap lines_of e ∙ lines-joined ls h

    go : Closed s → lines_of s ≡ ls
    go (inl f) = sym f ∙ closed
    go (inr f) = absurd (full (lines_of s) (sym closed ∙ f))

abbrev Back : List ℕ → Type 0
Back s = (joined (lines_of s) ≡ s) ⊎ (joined (lines_of s) ≡ s ++ newline)

front-joined : (b : ℕ) (s : List ℕ) → 0 < length s → joined (in_front b (lines_of s)) ≡ b ∷ joined (lines_of s)
front-joined b s h = rw (lines_step s h) refl

back-first : (b : ℕ) (s : List ℕ) → Back s → (t : Bool) → eqb b (code "\n") ≡ t → Back (b ∷ s)
unfolding lines_of
back-first b s (inl f) true e = inl (rw e (ap₂ ◌∷◌ (sym (eqb-true b (code "\n") e)) f))
back-first b s (inr f) true e = inr (rw e (ap₂ ◌∷◌ (sym (eqb-true b (code "\n") e)) f))
back-first b [] f false e = inr (rw e refl)
back-first b (c ∷ s) (inl f) false e =
    inl (rw e (front-joined b (c ∷ s) (omega arith) ∙ ap (λ (a : List ℕ). b ∷ a) f))
back-first b (c ∷ s) (inr f) false e =
    inr (rw e (front-joined b (c ∷ s) (omega arith) ∙ ap (λ (a : List ℕ). b ∷ a) f))

-- A file is its lines joined, but for the last newline.
pub lines-back : (s : List ℕ) → (joined (lines_of s) ≡ s) ⊎ (joined (lines_of s) ≡ s ++ newline)
unfolding lines_of
lines-back [] = inl refl
lines-back (b ∷ s) = back-first b s (lines-back s) (eqb b (code "\n")) refl

joined-append : (ls ms : List (List ℕ)) → joined (ls ++ ms) ≡ joined ls ++ joined ms
joined-append [] ms = refl
joined-append (l ∷ ls) ms =
    ap (λ (s : List ℕ). l ++ newline ++ s) (joined-append ls ms)
    ∙ sym (append_assoc (l ++ newline) (joined ls) (joined ms))

each_front : {P : List ℕ → Type 0} (ls ms : List (List ℕ)) → Each P (ls ++ ms) → Each P ls
each_front [] ms x = Each.none
each_front (l ∷ ls) ms (Each.more h others) = Each.more h (each_front ls ms others)

same-front : (s t : List ℕ) → s ++ newline ≡ t ++ newline → s ≡ t
same-front s t e =
    let l : length s ≡ length t = omega (arith, ap length e, length-append s newline, length-append t newline) in
    sym (take-append_seam s newline) ∙ ap₂ (λ (n : ℕ) (u : List ℕ). take n u) l e ∙ take-append_seam t newline

-- The lines of a file are those that, each with its newline, are the file, or are it once a newline stands behind it
-- that closes a line which is not empty.
pub lines_exactly : (file : List ℕ) (ls : List (List ℕ))
    → (lines_of file ≡ ls)
    ↔ (Each IsLine ls × ((file ≡ joined ls) ⊎ (EndsFull ls × (file ++ newline ≡ joined ls))))
lines_exactly file ls = (λ e. to ls e (lines-back file), λ x. from x.0 x.1)
  where
    full : joined (lines_of file) ≡ file ++ newline → EndsFull (lines_of file)
    full f front e =
        let same = same-front file (joined front) (sym f ∙ ap joined e ∙ joined-append front ([] ∷ [])) in
        let each = each_front front ([] ∷ []) (subst (Each IsLine) e (lines-whole file)) in
        let again = sym e ∙ ap lines_of same ∙ lines-joined front each in
        omega (arith, ap length again, length-append front ([] ∷ []))

    to : (ls : List (List ℕ)) → lines_of file ≡ ls → (joined (lines_of file) ≡ file) ⊎ (joined (lines_of file) ≡ file ++ newline)
        → Each IsLine ls × ((file ≡ joined ls) ⊎ (EndsFull ls × (file ++ newline ≡ joined ls)))
    to ls e (inl f) = (subst (Each IsLine) e (lines-whole file), inl (sym f ∙ ap joined e))
    to ls e (inr f) = (subst (Each IsLine) e (lines-whole file), inr (subst EndsFull e (full f), sym f ∙ ap joined e))

    from : Each IsLine ls → (file ≡ joined ls) ⊎ (EndsFull ls × (file ++ newline ≡ joined ls)) → lines_of file ≡ ls
    from each (inl e) = ap lines_of e ∙ lines-joined ls each
    from each (inr x) = lines_open file ls each x.0 x.1
