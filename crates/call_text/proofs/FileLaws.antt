-- What a file is read as: a list exactly where it is that list's text, and else refused with a line's number.
use mathlib.Core.Path.{◌≡◌, refl, sym, ap, ap₂, subst, ◌∙◌}
use mathlib.Core.Bool.{Bool, true, false}
use mathlib.Core.Logic.{◌↔◌, ◌⊎◌, inl, inr}
use mathlib.Core.List.{List, [], ◌∷◌, ◌++◌, map}
use Prim.Native.Nat.{ℕ, zero, suc, ◌+◌, ◌≤◌, ◌<◌}
use native.Mathlib.Omega.{arith}
use borrow.Author.Tests.{ltb-true, ltb-false, lt-ltb, le-ltb}
use lib.Dec.{ltb}
use lib.ListN.{length}
use Rattle.forms.specs.Bytes.{all, is_line}
use Rattle.forms.proofs.BytesLaws.{all_append}
use Rattle.forms.proofs.DecimalLaws.{decimal-line}
use Rattle.forms.proofs.HexLaws.{hex-line}
use Rattle.tc_aead_cipher.specs.declared.phase.Direction.TheVariants.{Encrypt, Decrypt}
use Rattle.tc_aead_cipher.specs.declared.variant.SparkleVariant.{SparkleVariant}
use Rattle.tc_aead_cipher.specs.Variant.{number}
use Rattle.tc_aead_cipher.specs.Call.{Call}
use Rattle.std.specs.Prelude.{Option, Some, None, Ok, Err}
use Rattle.std.proofs.lemmas.Option.{none-some}
use Rattle.call_text.specs.declared.line.Found.{Found}
use Rattle.call_text.specs.CallText.{variant_text, call_text, Within, AllWithin, newline, calls_text, list_text, Written, IsVariant, IsCall, WrongCall, WrongLine, Each, IsLine, EndsFull, joined}
use Rattle.call_text.specs.Line.{found_in, call_found, read_call, read_variant}
use Rattle.call_text.specs.List.{lines_of, Checked, refuse, check_calls, check_lines, check_file, calls_of, FileRead, behind_first, read_as, read_file, FileCase}
use Rattle.call_text.specs.List.FileRead.{list, refused}
use Rattle.call_text.proofs.LinesLaws.{NotEmpty, some_full, lines-joined, lines_open, lines-back}
use Rattle.call_text.proofs.LineLaws.{made, read_exactly, variant_exactly}

-- A call's text is one line, and not empty.
pub call_line : (c : Call) → Within c → all is_line (call_text c) ≡ true
unfolding call_text
call_line (Call.Init Encrypt key nonce size header) (Within.of-init _ _ _ _ _ a b h d) =
    simp (all_append, hex-line key a, hex-line nonce b, decimal-line size, hex-line header d)
call_line (Call.Init Decrypt key nonce size header) (Within.of-init _ _ _ _ _ a b h d) =
    simp (all_append, hex-line key a, hex-line nonce b, decimal-line size, hex-line header d)
call_line (Call.Aad input) (Within.of_aad _ a) = simp (all_append, hex-line input a)
call_line (Call.Data input out) (Within.of-data _ _ a h) = simp (all_append, hex-line input a, decimal-line (length out))
call_line (Call.Final out) (Within.of_final _ h) = simp (all_append, decimal-line (length out))
call_line (Call.Update n) (Within.of_update _ h) = simp (all_append, decimal-line n)
call_line (Call.Output n) (Within.of_output _ h) = simp (all_append, decimal-line n)
call_line Call.Mac Within.of_mac = refl
call_line Call.Reset Within.of-reset = refl

pub call_some : (c : Call) → 0 < length (call_text c)
unfolding call_text
call_some (Call.Init d key nonce size header) = omega arith
call_some (Call.Aad input) = omega arith
call_some (Call.Data input out) = omega arith
call_some (Call.Final out) = omega arith
call_some (Call.Update n) = omega arith
call_some (Call.Output n) = omega arith
call_some Call.Mac = omega arith
call_some Call.Reset = omega arith

-- So is a variant's.
pub variant_line : (v : SparkleVariant) → all is_line (variant_text v) ≡ true
unfolding variant_text
variant_line v = simp (all_append, decimal-line (number v))

pub variant_some : (v : SparkleVariant) → 0 < length (variant_text v)
unfolding variant_text
variant_some v = omega arith

-- The lines of a list.
abbrev pub list_lines : SparkleVariant → List Call → List (List ℕ)
list_lines v calls = variant_text v ∷ map call_text calls

calls-whole : (calls : List Call) → AllWithin calls → Each IsLine (map call_text calls)
calls-whole [] AllWithin.none = Each.none
calls-whole (c ∷ calls) (AllWithin.more _ _ w others) = Each.more (call_line c w) (calls-whole calls others)

calls_some : (calls : List Call) → Each NotEmpty (map call_text calls)
calls_some [] = Each.none
calls_some (c ∷ calls) = Each.more (call_some c) (calls_some calls)

calls-joined : (calls : List Call) → calls_text calls ≡ joined (map call_text calls)
calls-joined [] = refl
calls-joined (c ∷ calls) = ap (λ (s : List ℕ). call_text c ++ newline ++ s) (calls-joined calls)

list-joined : (v : SparkleVariant) (calls : List Call) → list_text v calls ≡ joined (list_lines v calls)
unfolding list_text
list-joined v calls = ap (λ (s : List ℕ). variant_text v ++ newline ++ s) (calls-joined calls)

-- A file is a list's text exactly where its lines are the list's.
pub written-lines : (file : List ℕ) (v : SparkleVariant) (calls : List Call) → Written v calls file
    → lines_of file ≡ list_lines v calls
written-lines file v calls w = go w.file-text
  where
    whole : Each IsLine (list_lines v calls)
    whole = Each.more (variant_line v) (calls-whole calls w.in-limits)

    full : EndsFull (list_lines v calls)
    full = some_full (list_lines v calls) (Each.more (variant_some v) (calls_some calls))

    go : (file ≡ list_text v calls) ⊎ (file ++ newline ≡ list_text v calls) → lines_of file ≡ list_lines v calls
    go (inl e) = ap lines_of (e ∙ list-joined v calls) ∙ lines-joined (list_lines v calls) whole
    go (inr e) = lines_open file (list_lines v calls) whole full (e ∙ list-joined v calls)

lines-written : (file : List ℕ) (v : SparkleVariant) (calls : List Call) → length file ≤ 65536 → AllWithin calls
    → lines_of file ≡ list_lines v calls → Written v calls file
lines-written file v calls size within e = record { file_size = size; in-limits = within; file-text = go (lines-back file) }
  where
    same : joined (lines_of file) ≡ list_text v calls
    same = ap joined e ∙ sym (list-joined v calls)

    go : (joined (lines_of file) ≡ file) ⊎ (joined (lines_of file) ≡ file ++ newline)
        → (file ≡ list_text v calls) ⊎ (file ++ newline ≡ list_text v calls)
    go (inl f) = inl (sym f ∙ same)
    go (inr f) = inr (sym f ∙ same)

-- ---- What was found in a line is what is read

read_found : (l : List ℕ) (c : Call) → read_call l ≡ Some c → (f : Found) × (found_in l ≡ Some f) × (call_found l f ≡ c)
unfolding read_call
read_found l c e = made (call_found l) (found_in l) c e

found_read : (l : List ℕ) (f : Found) → found_in l ≡ Some f → read_call l ≡ Some (call_found l f)
unfolding read_call
found_read l f e = rw e refl

calls_cons : (l : List ℕ) (c : Call) (ls : List (List ℕ)) → read_call l ≡ Some c → calls_of (l ∷ ls) ≡ c ∷ calls_of ls
calls_cons l c ls e = rw (e, calls_of) refl

-- ---- What was checked, and what it is read as

refused-accepted : (k : ℕ) (v : SparkleVariant) → refuse k ≡ Ok v → ⊥
refused-accepted k v e = let z : ◌≡◌ {A = ℕ} 0 1 = cc in omega arith

abbrev line_in : Checked → ℕ
line_in (Ok v) = 0
line_in (Err e) = e.line

same-refused : {j k : ℕ} → refuse j ≡ refuse k → j ≡ k
same-refused e = ap line_in e

same_variant : {v u : SparkleVariant} → ◌≡◌ {A = Checked} (Ok v) (Ok u) → v ≡ u
same_variant e = cc

read-refused : (ls : List (List ℕ)) (c : Checked) (k : ℕ) → read_as ls c ≡ refused k → c ≡ refuse k
unfolding read_as
read-refused ls (Ok v) k e = let z : ◌≡◌ {A = ℕ} 0 1 = cc in absurd (omega arith)
read-refused ls (Err e) k q = let j : e.line ≡ k = cc in ap refuse j

read-list : (ls : List (List ℕ)) (c : Checked) (v : SparkleVariant) (calls : List Call) → read_as ls c ≡ list v calls
    → (c ≡ Ok v) × (calls_of (behind_first ls) ≡ calls)
unfolding read_as
read-list ls (Ok u) v calls e = let q : u ≡ v = cc in (ap Ok q, cc)
read-list ls (Err e) v calls q = let z : ◌≡◌ {A = ℕ} 0 1 = cc in absurd (omega arith)

long-file : (file : List ℕ) → 65536 < length file → check_file file ≡ refuse 0
unfolding check_file
long-file file h = rw (lt-ltb 65536 (length file) h) refl

short_file : (file : List ℕ) → length file ≤ 65536 → check_file file ≡ check_lines (lines_of file)
unfolding check_file
short_file file h = rw (le-ltb 65536 (length file) h) refl

abbrev Size : List ℕ → Type 0
Size file = (65536 < length file) ⊎ (length file ≤ 65536)

size : (file : List ℕ) → Size file
size file = go (ltb 65536 (length file)) refl
  where
    go : (t : Bool) → ltb 65536 (length file) ≡ t → Size file
    go true e = inl (ltb-true 65536 (length file) e)
    go false e = inr (ltb-false 65536 (length file) e)

accepted_short : (file : List ℕ) (v : SparkleVariant) → check_file file ≡ Ok v → length file ≤ 65536
accepted_short file v e = go (size file)
  where
    go : Size file → length file ≤ 65536
    go (inl h) = absurd (refused-accepted 0 v (sym (long-file file h) ∙ e))
    go (inr h) = h

pub refused-check : (file : List ℕ) (k : ℕ) → read_file file ≡ refused k → check_file file ≡ refuse k
unfolding read_file
refused-check file k e = read-refused (lines_of file) (check_file file) k e

abbrev Why : List ℕ → ℕ → Type 0
Why file k = ((65536 < length file) × (k ≡ 0)) ⊎ ((length file ≤ 65536) × WrongLine k (lines_of file))

-- The number of a wrong line is 1 or more, and at most one more than there are lines.
wrong_call_within : (n : ℕ) (ls : List (List ℕ)) → WrongCall n ls → n < length ls
wrong_call_within _ _ (WrongCall.here l ls f) = omega arith
wrong_call_within _ _ (WrongCall.later n l ls is w) = omega (arith, wrong_call_within n ls w)

pub wrong_within : (m : ℕ) (ls : List (List ℕ)) → WrongLine m ls → (0 < m) × (m ≤ suc (length ls))
wrong_within _ _ WrongLine.no_line = omega arith
wrong_within _ _ (WrongLine.no_variant l ls f) = omega arith
wrong_within _ _ (WrongLine.no_call n l ls is w) = omega (arith, wrong_call_within n ls w)

-- A line is found to be a call exactly where it is one.
pub call_found_lem : (c : Call) → Within c
    → (f : Found) × (found_in (call_text c) ≡ Some f) × (call_found (call_text c) f ≡ c)
call_found_lem c w = read_found (call_text c) c ((read_exactly (call_text c) c).1 (refl, w))

found_is : (l : List ℕ) (f : Found) → found_in l ≡ Some f → (l ≡ call_text (call_found l f)) × Within (call_found l f)
found_is l f e = (read_exactly l (call_found l f)).0 (found_read l f e)

found_call : (l : List ℕ) (f : Found) → found_in l ≡ Some f → IsCall l
found_call l f e = let g = found_is l f e in subst IsCall (sym g.0) (IsCall.of-call _ g.1)

call-is : (l : List ℕ) → IsCall l → (f : Found) × (found_in l ≡ Some f)
call-is _ (IsCall.of-call c w) = let g = call_found_lem c w in (g.0, g.1)

pub variant_found_lem : (v : SparkleVariant) → read_variant (variant_text v) ≡ Some v
variant_found_lem v = (variant_exactly (variant_text v) v).1 refl

variant_text_lem : (l : List ℕ) (v : SparkleVariant) → read_variant l ≡ Some v → l ≡ variant_text v
variant_text_lem l v e = (variant_exactly l v).0 e

found_variant : (l : List ℕ) (v : SparkleVariant) → read_variant l ≡ Some v → IsVariant l
found_variant l v e = subst IsVariant (sym (variant_text_lem l v e)) (IsVariant.of_variant _)

variant_is : (l : List ℕ) → IsVariant l → (v : SparkleVariant) × (read_variant l ≡ Some v)
variant_is _ (IsVariant.of_variant v) = (v, variant_found_lem v)

-- Lines are accepted exactly where they are calls, and are then read as those.
calls-accepted : (v : SparkleVariant) (k : ℕ) (calls : List Call) → AllWithin calls
    → check_calls v k (map call_text calls) ≡ Ok v
unfolding check_calls
calls-accepted v k [] AllWithin.none = refl
calls-accepted v k (c ∷ calls) (AllWithin.more _ _ w others) =
    rw (check_calls, (call_found_lem c w).1) (calls-accepted v (suc k) calls others)

calls-read : (calls : List Call) → AllWithin calls → calls_of (map call_text calls) ≡ calls
calls-read [] AllWithin.none = refl
calls-read (c ∷ calls) (AllWithin.more _ _ w others) =
    calls_cons (call_text c) c (map call_text calls) ((read_exactly (call_text c) c).1 (refl, w))
    ∙ ap (λ (cs : List Call). c ∷ cs) (calls-read calls others)

-- A line that is a call, and one that is none.
one_call : (v : SparkleVariant) (k : ℕ) (l : List ℕ) (ls : List (List ℕ)) (f : Found) → found_in l ≡ Some f
    → check_calls v k (l ∷ ls) ≡ check_calls v (suc k) ls
unfolding check_calls
one_call v k l ls f e = rw (check_calls, e) refl

no_call : (v : SparkleVariant) (k : ℕ) (l : List ℕ) (ls : List (List ℕ)) → found_in l ≡ None
    → check_calls v k (l ∷ ls) ≡ refuse k
unfolding check_calls
no_call v k l ls e = rw (check_calls, e) refl

accepted-calls : (v u : SparkleVariant) (k : ℕ) (ls : List (List ℕ)) → check_calls v k ls ≡ Ok u
    → AllWithin (calls_of ls) × (ls ≡ map call_text (calls_of ls)) × (v ≡ u)
unfolding check_calls
accepted-calls v u k [] h = (AllWithin.none, refl, same_variant h)
accepted-calls v u k (l ∷ ls) h = go (accepted-calls v u (suc k) ls) (found_in l) refl
  where
    go : (check_calls v (suc k) ls ≡ Ok u → AllWithin (calls_of ls) × (ls ≡ map call_text (calls_of ls)) × (v ≡ u))
        → (o : Option Found) → found_in l ≡ o
        → AllWithin (calls_of (l ∷ ls)) × (l ∷ ls ≡ map call_text (calls_of (l ∷ ls))) × (v ≡ u)
    go g (Some f) e =
        let r = g (sym (one_call v k l ls f e) ∙ h) in
        let i = found_is l f e in
        rw (calls_cons l _ ls (found_read l f e)) (AllWithin.more _ _ i.1 r.0, ap₂ ◌∷◌ i.0 r.1, r.2)
    go g None e = absurd (refused-accepted k u (sym (no_call v k l ls e) ∙ h))

-- The lines of a list are accepted, and are read as that list.
list-accepted : (v : SparkleVariant) (calls : List Call) → AllWithin calls → check_lines (list_lines v calls) ≡ Ok v
unfolding check_lines
list-accepted v calls within = rw (check_lines, variant_found_lem v) (calls-accepted v 2 calls within)

-- A first line that is a variant's, and one that is none.
one_variant : (l : List ℕ) (ls : List (List ℕ)) (v : SparkleVariant) → read_variant l ≡ Some v
    → check_lines (l ∷ ls) ≡ check_calls v 2 ls
unfolding check_lines
one_variant l ls v e = rw (check_lines, e) refl

no_variant : (l : List ℕ) (ls : List (List ℕ)) → read_variant l ≡ None → check_lines (l ∷ ls) ≡ refuse 1
unfolding check_lines
no_variant l ls e = rw (check_lines, e) refl

accepted-list : (v : SparkleVariant) (ls : List (List ℕ)) → check_lines ls ≡ Ok v
    → AllWithin (calls_of (behind_first ls)) × (ls ≡ list_lines v (calls_of (behind_first ls)))
unfolding check_lines
accepted-list v [] h = absurd (refused-accepted 1 v h)
accepted-list v (l ∷ ls) h = go (read_variant l) refl
  where
    go : (o : Option SparkleVariant) → read_variant l ≡ o → AllWithin (calls_of ls) × (l ∷ ls ≡ list_lines v (calls_of ls))
    go (Some u) e =
        let g = accepted-calls u v 2 ls (sym (one_variant l ls u e) ∙ h) in
        (g.0, ap₂ ◌∷◌ (variant_text_lem l u e ∙ ap variant_text g.2) g.1)
    go None e = absurd (refused-accepted 1 v (sym (no_variant l ls e) ∙ h))

-- Lines are refused at the first that is wrong.
wrong_call : (v : SparkleVariant) (k n : ℕ) (ls : List (List ℕ)) → WrongCall n ls → check_calls v k ls ≡ refuse (k + n)
wrong_call v k _ _ (WrongCall.here l ls f) =
    no_call v k l ls (grind (arith, f, found_call l)) ∙ ap refuse (omega arith)
wrong_call v k _ _ (WrongCall.later n l ls is w) =
    let g = call-is l is in
    one_call v k l ls g.0 g.1 ∙ wrong_call v (suc k) n ls w ∙ ap refuse (omega arith)

refused-call : (v : SparkleVariant) (k m : ℕ) (ls : List (List ℕ)) → check_calls v k ls ≡ refuse m
    → (n : ℕ) × (m ≡ k + n) × WrongCall n ls
unfolding check_calls
refused-call v k m [] h = absurd (refused-accepted m v (sym h))
refused-call v k m (l ∷ ls) h = go (refused-call v (suc k) m ls) (found_in l) refl
  where
    go : (check_calls v (suc k) ls ≡ refuse m → (n : ℕ) × (m ≡ suc k + n) × WrongCall n ls)
        → (o : Option Found) → found_in l ≡ o
        → (n : ℕ) × (m ≡ k + n) × WrongCall n (l ∷ ls)
    go g (Some f) e =
        let r = g (sym (one_call v k l ls f e) ∙ h) in
        (suc r.0, omega arith, WrongCall.later r.0 l ls (found_call l f e) r.2)
    go g None e =
        let r : k ≡ m = same-refused (sym (no_call v k l ls e) ∙ h) in
        (0, omega arith, WrongCall.here l ls (λ is. let f = call-is l is in none-some f.0 (sym e ∙ f.1)))

wrong_line : (m : ℕ) (ls : List (List ℕ)) → WrongLine m ls → check_lines ls ≡ refuse m
unfolding check_lines
wrong_line _ _ WrongLine.no_line = refl
wrong_line _ _ (WrongLine.no_variant l ls f) =
    no_variant l ls (grind (arith, f, found_variant l))
wrong_line _ _ (WrongLine.no_call n l ls is w) =
    let v = variant_is l is in
    one_variant l ls v.0 v.1 ∙ wrong_call v.0 2 n ls w

refused-line : (m : ℕ) (ls : List (List ℕ)) → check_lines ls ≡ refuse m → WrongLine m ls
unfolding check_lines
refused-line m [] h = rw (same-refused (sym h)) WrongLine.no_line
refused-line m (l ∷ ls) h = go (read_variant l) refl
  where
    go : (o : Option SparkleVariant) → read_variant l ≡ o → WrongLine m (l ∷ ls)
    go (Some v) e =
        let g = refused-call v 2 m ls (sym (one_variant l ls v e) ∙ h) in
        rw g.1 (WrongLine.no_call g.0 l ls (found_variant l v e) g.2)
    go None e =
        rw (same-refused (sym h ∙ no_variant l ls e))
        (WrongLine.no_variant l ls (λ is. let v = variant_is l is in none-some v.0 (sym e ∙ v.1)))

pub written-accepted : (file : List ℕ) (v : SparkleVariant) (calls : List Call) → Written v calls file
    → check_file file ≡ Ok v
written-accepted file v calls w =
    short_file file w.file_size ∙ ap check_lines (written-lines file v calls w) ∙ list-accepted v calls w.in-limits

-- A file is read as a list exactly where it is that list's text.
pub file-accepted : (file : List ℕ) (v : SparkleVariant) (calls : List Call)
    → (read_file file ≡ list v calls) ↔ Written v calls file
unfolding read_file read_as
file-accepted file v calls = (read, written)
  where
    read : read_file file ≡ list v calls → Written v calls file
    read e =
        let g = read-list (lines_of file) (check_file file) v calls e in
        let s = accepted_short file v g.0 in
        let a = accepted-list v (lines_of file) (sym (short_file file s) ∙ g.0) in
        lines-written file v calls s (rw g.1 at a.0) (rw g.1 at a.1)

    written : Written v calls file → read_file file ≡ list v calls
    written w =
        let e = written-lines file v calls w in
        rw (written-accepted file v calls w, e) (ap (list v) (calls-read calls w.in-limits))

refused_why : (file : List ℕ) (k : ℕ) → read_file file ≡ refused k → Why file k
refused_why file k e = go (size file)
  where
    check : check_file file ≡ refuse k
    check = refused-check file k e

    go : Size file → Why file k
    go (inl h) = inl (h, same-refused (sym check ∙ long-file file h))
    go (inr h) = inr (h, refused-line k (lines_of file) (sym (short_file file h) ∙ check))

-- It is refused with 0 exactly where it is too long.
pub file_too_long : (file : List ℕ) → (read_file file ≡ refused 0) ↔ (65536 < length file)
unfolding read_file read_as
file_too_long file = (λ e. go (refused_why file 0 e), λ h. rw (long-file file h) refl)
  where
    go : Why file 0 → 65536 < length file
    go (inl h) = h.0
    go (inr h) = absurd (omega (arith, (wrong_within 0 (lines_of file) h.1).0))

-- It is refused with another number exactly where that is the first wrong line's.
pub file_wrong : (file : List ℕ) (k : ℕ)
    → (read_file file ≡ refused (suc k)) ↔ ((length file ≤ 65536) × WrongLine (suc k) (lines_of file))
unfolding read_file read_as
file_wrong file k = (
  λ e. go (refused_why file (suc k) e),
  λ h. rw (short_file file h.0 ∙ wrong_line (suc k) (lines_of file) h.1) refl,
)
  where
    go : Why file (suc k) → (length file ≤ 65536) × WrongLine (suc k) (lines_of file)
    go (inl h) = absurd (omega arith)
    go (inr h) = h

-- Every file is a list's text, or too long, or has a first wrong line; and it is the text of one list only.
pub file_case : (file : List ℕ) → FileCase file
file_case file = go (read_file file) refl
  where
    go : (r : FileRead) → read_file file ≡ r → FileCase file
    go (list v calls) e = FileCase.of-list v calls ((file-accepted file v calls).0 e)
    go (refused zero) e = FileCase.of_length ((file_too_long file).0 e)
    go (refused (suc k)) e = let w = (file_wrong file k).0 e in FileCase.of-line k w.0 w.1

pub written_once : (file : List ℕ) (v u : SparkleVariant) (calls more : List Call) → Written v calls file
    → Written u more file → (v ≡ u) × (calls ≡ more)
written_once file v u calls more w x =
    let e = (file-accepted file v calls).1 w in
    let f = (file-accepted file u more).1 x in
    (cc, cc)
