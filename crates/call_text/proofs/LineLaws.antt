-- A line is read as a call exactly where it is that call written (`read_exactly`), and so for a variant
-- (`variant_exactly`). It begins with its kind, so no other kind is found in it.
use mathlib.Core.Path.{◌≡◌, refl, sym, ap, subst, ◌∙◌}
use mathlib.Core.Bool.{Bool, true, false, cond, ◌&&◌, and-eq-true_iff, false≢true}
use mathlib.Core.Logic.{◌↔◌, ◌⊎◌, inl, inr}
use mathlib.Core.List.Memᴰ
use mathlib.Core.List.Memᴰ.{head}
use mathlib.Core.List.Memᴰ.{tail}
use mathlib.Core.List.{List, [], ◌∷◌, ◌++◌, append_assoc, Memᴰ}
use Rattle.std.specs.Prelude.{Option, Some, None, option_map}
use Rattle.std.specs.Option.{option_or}
use Rattle.std.proofs.lemmas.Option.{none-some, same_Some, cond_some, option_and_then_some}
use Prim.Native.Nat.{ℕ, zero, suc, ◌^◌, ◌≤◌, ◌<◌}
use Prim.Native.Char.{code}
use native.Mathlib.Omega.{arith}
use borrow.Author.Tests.{leb-true, le-ltb, le-leb, eq-eqb}
use lib.Dec.{eqb}
use lib.ListN.{length, get_or, length-replicate}
use Rattle.forms.specs.Bytes.{text}
use Rattle.forms.specs.Decimal.{decimal}
use Rattle.forms.specs.Hex.{hex, are_bytes, hex_bytes}
use Rattle.forms.specs.Grammar.{Word, Item, Items, FormOf, Form}
use Rattle.forms.proofs.DecimalLaws.{decimal_exactly}
use Rattle.forms.proofs.HexLaws.{hex-is, hex-bytes}
use Rattle.forms.proofs.FormLaws.{form-whole}
use Rattle.tc_aead_cipher.specs.declared.call.CallKind.{CallKind}
use Rattle.tc_aead_cipher.specs.declared.phase.Direction.{Direction}
use Rattle.tc_aead_cipher.specs.declared.phase.Direction.TheVariants.{Encrypt, Decrypt}
use Rattle.tc_aead_cipher.specs.Call.{Call, kind_of}
use Rattle.tc_aead_cipher.specs.declared.variant.SparkleVariant.{SparkleVariant}
use Rattle.tc_aead_cipher.specs.declared.variant.SparkleVariant.TheVariants.{Schwaemm128_128, Schwaemm256_128, Schwaemm192_192, Schwaemm256_256}
use Rattle.tc_aead_cipher.specs.Variant.{number, is_variant, variant_of}
use Rattle.tc_aead_cipher.proofs.VariantLaws.{number_is_one, variant_of_number}
use Rattle.tc_sparkle_aead.specs.Message.{zeros}
use Rattle.call_text.specs.CallText.{variant_text, call_text, Lent, Within}
use Rattle.call_text.specs.declared.line.Fields.{Fields}
use Rattle.call_text.specs.declared.line.Found.{Found}
use Rattle.call_text.specs.Line.{is_form, item_at, begin_at, number_in, shape_of, is_mark, fits, fields_of, placed, found_as, found_among, all_kinds, found_in, call_found, read_call, variant_shape, known, read_variant}
use Rattle.call_text.proofs.ShapeLaws.{fill, fit, marks, good, items_in, bytes_fit, number_fit, shape-read, shape-written}

-- The items that a call is written with.
abbrev items_of : Call → List (List ℕ)
items_of (Call.Init d key nonce size header) = hex key ∷ (hex nonce ∷ (decimal size ∷ (hex header ∷ [])))
items_of (Call.Aad input) = hex input ∷ []
items_of (Call.Data input out) = hex input ∷ (decimal (length out) ∷ [])
items_of (Call.Final out) = decimal (length out) ∷ []
items_of Call.Reset = []
items_of Call.Mac = []
items_of (Call.Update n) = decimal n ∷ []
items_of (Call.Output n) = decimal n ∷ []

-- A call's text is its kind's shape with its items.
text_filled : (c : Call) → call_text c ≡ fill (shape_of (kind_of c)) (items_of c)
unfolding call_text is_mark
text_filled (Call.Init Encrypt key nonce size header) = simp append_assoc
text_filled (Call.Init Decrypt key nonce size header) = simp append_assoc
text_filled (Call.Aad input) = refl
text_filled (Call.Data input out) = simp append_assoc
text_filled (Call.Final out) = refl
text_filled Call.Reset = refl
text_filled Call.Mac = refl
text_filled (Call.Update n) = refl
text_filled (Call.Output n) = refl

-- ---- What is read is written

-- What fits the first of several marks, and whether the others fit.
bytes-then : (x : List ℕ) (t : Bool) → (fits (code "#") x && t) ≡ true
    → (x ≡ hex (hex_bytes x)) × (are_bytes (hex_bytes x) ≡ true) × (t ≡ true)
bytes-then x t h =
    let g = (and-eq-true_iff (fits (code "#") x) t).0 h in
    let b = bytes_fit x g.0 in
    (b.0, b.1, g.1)

number-then : (x : List ℕ) (t : Bool) → (fits (code "%") x && t) ≡ true
    → (x ≡ decimal (number_in x)) × (number_in x < 2 ^ 64) × (t ≡ true)
number-then x t h =
    let g = (and-eq-true_iff (fits (code "%") x) t).0 h in
    let n = number_fit x g.0 in
    (n.0, n.1, g.1)

-- Zeros can be lent.
zeros-length : (n : ℕ) → length (zeros n) ≡ n
unfolding zeros
zeros-length n = length-replicate n 0

zeros-lent : (n : ℕ) → n ≤ 32768 → Lent (zeros n)
zeros-lent n h = record { at_most = rw zeros-length h; of-zeros = ap zeros (sym (zeros-length n)) }

-- The items of a start: key, nonce, tag size and header.
abbrev InitFits : (x y z w : List ℕ) → Type 0
InitFits x y z w =
    (fits (code "#") x && (fits (code "#") y && (fits (code "%") z && (fits (code "#") w && true)))) ≡ true

module _ (s : List ℕ) where
  -- The line is a call's text, within the limits, and the call of a kind.
  abbrev IsLine : CallKind → Call → Type 0
  IsLine kind c = (s ≡ call_text c) × Within c × (kind_of c ≡ kind)

  -- A line is a call's where the items at its marks are the call's.
  with_items : (c : Call) (items : List (List ℕ)) → s ≡ fill (shape_of (kind_of c)) items → items ≡ items_of c → Within c
      → IsLine (kind_of c) c
  with_items c items e i w = (e ∙ ap (fill (shape_of (kind_of c))) i ∙ sym (text_filled c), w, refl)

  -- What is found as a kind is a call of that kind.
  init-as : (d : Direction) (x y z w : List ℕ) → s ≡ fill (shape_of (CallKind.Init d)) (x ∷ (y ∷ (z ∷ (w ∷ []))))
      → InitFits x y z w → IsLine (CallKind.Init d) (Call.Init d (hex_bytes x) (hex_bytes y) (number_in z) (hex_bytes w))
  init-as d x y z w e h =
      let k = bytes-then x _ h in
      let n = bytes-then y _ k.2 in
      let t = number-then z _ n.2 in
      let a = bytes-then w true t.2 in
      with_items _ _ e (λ i. k.0 i ∷ (n.0 i ∷ (t.0 i ∷ (a.0 i ∷ []))))
      (Within.of-init d (hex_bytes x) (hex_bytes y) (number_in z) (hex_bytes w) k.1 n.1 t.1 a.1)

  read_placed : (kind : CallKind) (g : Fields) (f : Found) → fields_of (shape_of kind) s ≡ Some g → placed s kind g ≡ Some f
      → IsLine kind (call_found s f)
  unfolding placed call_found is_mark
  read_placed (CallKind.Init Encrypt) g f a e =
      let r = shape-read s (shape_of (CallKind.Init Encrypt)) g refl (omega arith) a in
      rw (← same_Some _ _ e) (init-as Encrypt _ _ _ _ r.0 r.1)
  read_placed (CallKind.Init Decrypt) g f a e =
      let r = shape-read s (shape_of (CallKind.Init Decrypt)) g refl (omega arith) a in
      rw (← same_Some _ _ e) (init-as Decrypt _ _ _ _ r.0 r.1)
  read_placed CallKind.Aad g f a e =
      let r = shape-read s (shape_of CallKind.Aad) g refl (omega arith) a in
      let b = bytes-then _ true r.1 in
      rw (← same_Some _ _ e) (with_items _ _ r.0 (λ i. b.0 i ∷ []) (Within.of_aad _ b.1))
  read_placed CallKind.Data g f a e =
      let q = cond_some _ _ f e in
      let r = shape-read s (shape_of CallKind.Data) g refl (omega arith) a in
      let b = bytes-then _ _ r.1 in
      let n = number-then _ true b.2 in
      rw (← q.1)
      (with_items _ _ r.0 (λ i. b.0 i ∷ ((n.0 ∙ ap decimal (sym (zeros-length _))) i ∷ []))
      (Within.of-data _ _ b.1 (zeros-lent _ (leb-true _ _ q.0))))
  read_placed CallKind.Final g f a e =
      let q = cond_some _ _ f e in
      let r = shape-read s (shape_of CallKind.Final) g refl (omega arith) a in
      let n = number-then _ true r.1 in
      rw (← q.1)
      (with_items _ _ r.0 (λ i. (n.0 ∙ ap decimal (sym (zeros-length _))) i ∷ [])
      (Within.of_final _ (zeros-lent _ (leb-true _ _ q.0))))
  read_placed CallKind.Reset g f a e =
      rw (← same_Some _ _ e)
      (with_items _ _ (shape-read s (shape_of CallKind.Reset) g refl (omega arith) a).0 refl Within.of-reset)
  read_placed CallKind.Mac g f a e =
      rw (← same_Some _ _ e)
      (with_items _ _ (shape-read s (shape_of CallKind.Mac) g refl (omega arith) a).0 refl Within.of_mac)
  read_placed CallKind.Update g f a e =
      let r = shape-read s (shape_of CallKind.Update) g refl (omega arith) a in
      let n = number-then _ true r.1 in
      rw (← same_Some _ _ e) (with_items _ _ r.0 (λ i. n.0 i ∷ []) (Within.of_update _ n.1))
  read_placed CallKind.Output g f a e =
      let r = shape-read s (shape_of CallKind.Output) g refl (omega arith) a in
      let n = number-then _ true r.1 in
      rw (← same_Some _ _ e) (with_items _ _ r.0 (λ i. n.0 i ∷ []) (Within.of_output _ n.1))

  read_as_lem : (kind : CallKind) (f : Found) → found_as s kind ≡ Some f → IsLine kind (call_found s f)
  unfolding found_as
  read_as_lem kind f e =
      option_and_then_some (placed s kind) (fields_of (shape_of kind) s) f e (λ g a. read_placed kind g f a)

-- ---- What is written is read

-- What is written fits its mark, and is read back.
hex-fits : (bs : List ℕ) → are_bytes bs ≡ true → fits (code "#") (hex bs) ≡ true
unfolding fits
hex-fits bs h = hex-is bs h

number_fits : (n : ℕ) → n < 2 ^ 64 → fits (code "%") (decimal n) ≡ true
unfolding fits
number_fits n h = rw ((decimal_exactly (decimal n) n).1 (refl, h)) refl

number-back : (n : ℕ) → n < 2 ^ 64 → number_in (decimal n) ≡ n
unfolding number_in
number-back n h = rw ((decimal_exactly (decimal n) n).1 (refl, h), number_in) refl

-- A call's items fit the marks of its kind's shape.
abbrev Fitting : Call → Type 0
Fitting c =
    let shape = shape_of (kind_of c) in
    (good shape ≡ true) × (marks shape ≤ 4) × (length (items_of c) ≡ marks shape) × (fit shape (items_of c) ≡ true)

init-fits : (key nonce : List ℕ) (size : ℕ) (header : List ℕ) → are_bytes key ≡ true → are_bytes nonce ≡ true
    → size < 2 ^ 64 → are_bytes header ≡ true → InitFits (hex key) (hex nonce) (decimal size) (hex header)
init-fits key nonce size header k n l h =
    rw (hex-fits key k, hex-fits nonce n, number_fits size l, hex-fits header h) refl

items_fit : {c : Call} → Within c → Fitting c
unfolding is_mark
items_fit (Within.of-init Encrypt key nonce size header k n l h) =
    (refl, omega arith, refl, init-fits key nonce size header k n l h)
items_fit (Within.of-init Decrypt key nonce size header k n l h) =
    (refl, omega arith, refl, init-fits key nonce size header k n l h)
items_fit (Within.of_aad input b) = (refl, omega arith, refl, rw (hex-fits input b) refl)
items_fit (Within.of-data input out b l) =
    let n = number_fits (length out) (omega (arith, l.at_most)) in
    (refl, omega arith, refl, rw (hex-fits input b, n) refl)
items_fit (Within.of_final out l) =
    (refl, omega arith, refl, rw (number_fits (length out) (omega (arith, l.at_most))) refl)
items_fit (Within.of_update n l) = (refl, omega arith, refl, rw (number_fits n l) refl)
items_fit (Within.of_output n l) = (refl, omega arith, refl, rw (number_fits n l) refl)
items_fit Within.of_mac = (refl, omega arith, refl, refl)
items_fit Within.of-reset = (refl, omega arith, refl, refl)

-- So its text agrees with that shape, and the items are found.
agrees : {c : Call} → Within c
    → (g : Fields) × (fields_of (shape_of (kind_of c)) (call_text c) ≡ Some g)
    × (items_in (call_text c) g (shape_of (kind_of c)) ≡ items_of c)
agrees {c} w =
    let f = items_fit w in
    shape-written (call_text c) (shape_of (kind_of c)) (items_of c) f.0 f.1 f.2 f.3 (text_filled c)

-- It is found as a call of its kind, and is that call.
abbrev Back : Call → Option Found → Type 0
Back c None = ⊥
Back c (Some f) = call_found (call_text c) f ≡ c

read_back : {c : Call} → Within c → Back c (found_as (call_text c) (kind_of c))
unfolding found_as placed call_found is_mark
read_back (Within.of-init d key nonce size header k n l h) =
    let w = Within.of-init d key nonce size header k n l h in
    let r = agrees w in
    let e = rw (← (items_fit w).2) at r.2 in
    rw r.1
    ((λ i.
    Call.Init d (hex_bytes (get_or (e i) 0 [])) (hex_bytes (get_or (e i) 1 [])) (number_in (get_or (e i) 2 []))
    (hex_bytes (get_or (e i) 3 [])))
    ∙ (λ i. Call.Init d (hex-bytes key k i) (hex-bytes nonce n i) (number-back size l i) (hex-bytes header h i)))
read_back (Within.of_aad input b) =
    let r = agrees (Within.of_aad input b) in
    rw r.1 ((λ i. Call.Aad (hex_bytes (get_or (r.2 i) 0 []))) ∙ ap Call.Aad (hex-bytes input b))
read_back (Within.of-data input out b l) =
    let r = agrees (Within.of-data input out b l) in
    let x = ap (λ (items : List (List ℕ)). get_or items 1 []) r.2 in
    let n = number-back (length out) (omega (arith, l.at_most)) in
    rw (r.1, x, n, le-leb (length out) 32768 l.at_most)
    ((λ i. Call.Data (hex_bytes (get_or (r.2 i) 0 [])) (zeros (length out)))
    ∙ (λ i. Call.Data (hex-bytes input b i) (sym l.of-zeros i)))
read_back (Within.of_final out l) =
    let r = agrees (Within.of_final out l) in
    let x = ap (λ (items : List (List ℕ)). get_or items 0 []) r.2 in
    let n = number-back (length out) (omega (arith, l.at_most)) in
    rw (r.1, x, n, le-leb (length out) 32768 l.at_most) (ap Call.Final (sym l.of-zeros))
read_back (Within.of_update n l) =
    let r = agrees (Within.of_update n l) in
    rw r.1 ((λ i. Call.Update (number_in (get_or (r.2 i) 0 []))) ∙ ap Call.Update (number-back n l))
read_back (Within.of_output n l) =
    let r = agrees (Within.of_output n l) in
    rw r.1 ((λ i. Call.Output (number_in (get_or (r.2 i) 0 []))) ∙ ap Call.Output (number-back n l))
read_back Within.of_mac = rw (agrees Within.of_mac).1 refl
read_back Within.of-reset = rw (agrees Within.of-reset).1 refl

-- ---- One kind only

-- The kind that a call's text begins with.
kind_in : List ℕ → CallKind
kind_in s =
    let b = get_or s 1 0 in
    cond (eqb b (code "i")) (CallKind.Init (cond (eqb (get_or s 6 0) (code "s")) Encrypt Decrypt))
    (cond (eqb b (code "a")) CallKind.Aad
    (cond (eqb b (code "d")) CallKind.Data
    (cond (eqb b (code "f")) CallKind.Final
    (cond (eqb b (code "r")) CallKind.Reset
    (cond (eqb b (code "m")) CallKind.Mac (cond (eqb b (code "u")) CallKind.Update CallKind.Output))))))

-- A line begins with its kind, whatever its items.
kind_filled : (kind : CallKind) (items : List (List ℕ)) → kind_in (fill (shape_of kind) items) ≡ kind
unfolding kind_in is_mark
kind_filled (CallKind.Init Encrypt) items = refl
kind_filled (CallKind.Init Decrypt) items = refl
kind_filled CallKind.Aad items = refl
kind_filled CallKind.Data items = refl
kind_filled CallKind.Final items = refl
kind_filled CallKind.Reset items = refl
kind_filled CallKind.Mac items = refl
kind_filled CallKind.Update items = refl
kind_filled CallKind.Output items = refl

module _ (s : List ℕ) where
  -- A line that is found as a kind begins with it.
  found_kind : (kind : CallKind) (f : Found) → found_as s kind ≡ Some f → kind_in s ≡ kind
  found_kind kind f h =
      let r = read_as_lem s kind f h in
      let c = call_found s f in
      ap kind_in (r.0 ∙ text_filled c) ∙ kind_filled (kind_of c) (items_of c) ∙ r.2

  -- The first of a list, or one of the others.
  among : (kind : CallKind) (kinds : List CallKind) (o : Option Found) → found_as s kind ≡ o
      → found_among s (kind ∷ kinds) ≡ option_or o (found_among s kinds)
  unfolding found_among
  among kind kinds o = ap (λ (p : Option Found). option_or p (found_among s kinds))

  -- What is found among kinds is found as one of them.
  found_among_lem : (kinds : List CallKind) (f : Found) → found_among s kinds ≡ Some f
      → (kind : CallKind) × (found_as s kind ≡ Some f)
  unfolding found_among
  found_among_lem [] f h = absurd (none-some f h)
  found_among_lem (kind ∷ kinds) f h = go (found_among_lem kinds f) (found_as s kind) refl
    where
      go : (found_among s kinds ≡ Some f → (kind : CallKind) × (found_as s kind ≡ Some f)) → (o : Option Found)
          → found_as s kind ≡ o → (kind : CallKind) × (found_as s kind ≡ Some f)
      go next (Some g) e = (kind, e ∙ sym (among kind kinds (Some g) e) ∙ h)
      go next None e = next (sym (among kind kinds None e) ∙ h)

  -- A kind that is found is the one found among kinds.
  one_found : (kind : CallKind) (f : Found) (kinds : List CallKind) → Memᴰ kind kinds → found_as s kind ≡ Some f
      → found_among s kinds ≡ Some f
  one_found kind f [] m h = absurd (Memᴰ.not-nil m)
  one_found kind f (first ∷ kinds) m h =
      go (λ n. one_found kind f kinds n h) (found_as s first) refl (Memᴰ.cases_cons m)
    where
      go : (Memᴰ kind kinds → found_among s kinds ≡ Some f) → (o : Option Found) → found_as s first ≡ o
          → (kind ≡ first) ⊎ Memᴰ kind kinds → found_among s (first ∷ kinds) ≡ Some f
      go next (Some g) e n =
          among first kinds (Some g) e ∙ sym e ∙ ap (found_as s) (sym (found_kind first g e) ∙ found_kind kind f h) ∙ h
      go next None e (inl n) = absurd (none-some f (sym e ∙ ap (found_as s) (sym n) ∙ h))
      go next None e (inr n) = among first kinds None e ∙ next n

-- Every kind is looked for.
all_kinds_lem : (kind : CallKind) → Memᴰ kind all_kinds
all_kinds_lem (CallKind.Init Encrypt) = head refl
all_kinds_lem (CallKind.Init Decrypt) = tail (head refl)
all_kinds_lem CallKind.Aad = tail (tail (head refl))
all_kinds_lem CallKind.Data = tail (tail (tail (head refl)))
all_kinds_lem CallKind.Final = tail (tail (tail (tail (head refl))))
all_kinds_lem CallKind.Update = tail (tail (tail (tail (tail (head refl)))))
all_kinds_lem CallKind.Output = tail (tail (tail (tail (tail (tail (head refl))))))
all_kinds_lem CallKind.Mac = tail (tail (tail (tail (tail (tail (tail (head refl)))))))
all_kinds_lem CallKind.Reset = tail (tail (tail (tail (tail (tail (tail (tail (head refl))))))))

-- ---- Forms

-- A form with one item, among the items of another.
nested : (N : List ℕ → Type 0) (w x more : List ℕ) → Word w → Item N x → Items (FormOf N) more
    → Items (FormOf N) (text " (" ++ (w ++ (text " " ++ (x ++ (text ")" ++ more)))))
nested N w x more h i r =
    let f = FormOf.opened w (text " " ++ (x ++ text ")")) h (Items.item x (text ")") i Items.close) in
    rw (append_assoc w (text " " ++ (x ++ text ")")) more, append_assoc x (text ")") more)
    at (Items.item _ more (Item.form _ f) r)

-- The items of a start behind its direction.
init-items : (key nonce : List ℕ) (size : ℕ) (header : List ℕ) → are_bytes key ≡ true → are_bytes nonce ≡ true
    → are_bytes header ≡ true
    → Items (Form 3)
    (fill (text " (key #) (nonce #) (tag %) (header #))") (hex key ∷ (hex nonce ∷ (decimal size ∷ (hex header ∷ [])))))
unfolding is_mark
init-items key nonce size header k n h =
    nested (Form 2) (text "key") (hex key) _ (Word.letters _ _ refl) (Item.bytes key k)
    (nested (Form 2) (text "nonce") (hex nonce) _ (Word.letters _ _ refl) (Item.bytes nonce n)
    (nested (Form 2) (text "tag") (decimal size) _ (Word.letters _ _ refl) (Item.number size)
    (nested (Form 2) (text "header") (hex header) _ (Word.letters _ _ refl) (Item.bytes header h) Items.close)))

-- A call's text is a form.
call-form : {c : Call} → Within c → Form 4 (fill (shape_of (kind_of c)) (items_of c))
unfolding is_mark
call-form (Within.of-init Encrypt key nonce size header k n l h) =
    FormOf.opened (text "init") _ (Word.letters _ _ refl)
    (Items.item (text "seal") _ (Item.word _ (Word.letters _ _ refl)) (init-items key nonce size header k n h))
call-form (Within.of-init Decrypt key nonce size header k n l h) =
    FormOf.opened (text "init") _ (Word.letters _ _ refl)
    (Items.item (text "open") _ (Item.word _ (Word.letters _ _ refl)) (init-items key nonce size header k n h))
call-form (Within.of_aad input b) =
    FormOf.opened (text "aad") _ (Word.letters _ _ refl) (Items.item (hex input) _ (Item.bytes input b) Items.close)
call-form (Within.of-data input out b l) =
    FormOf.opened (text "data") _ (Word.letters _ _ refl)
    (Items.item (hex input) _ (Item.bytes input b)
    (Items.item (decimal (length out)) _ (Item.number (length out)) Items.close))
call-form (Within.of_final out l) =
    FormOf.opened (text "final") _ (Word.letters _ _ refl)
    (Items.item (decimal (length out)) _ (Item.number (length out)) Items.close)
call-form (Within.of_update n l) =
    FormOf.opened (text "update") _ (Word.letters _ _ refl) (Items.item (decimal n) _ (Item.number n) Items.close)
call-form (Within.of_output n l) =
    FormOf.opened (text "output") _ (Word.letters _ _ refl) (Items.item (decimal n) _ (Item.number n) Items.close)
call-form Within.of_mac = FormOf.opened (text "mac") _ (Word.letters _ _ refl) Items.close
call-form Within.of-reset = FormOf.opened (text "reset") _ (Word.letters _ _ refl) Items.close

-- A form is read whole.
is-form : (s : List ℕ) → Form 4 s → is_form s ≡ true
unfolding is_form
is-form s f = rw ((form-whole 4 s).1 f, is_form) (eq-eqb (length s) (length s) refl)

-- ---- Calls

found_back : (c : Call) (o : Option Found) → found_as (call_text c) (kind_of c) ≡ o → Back c o
    → (f : Found) × (found_as (call_text c) (kind_of c) ≡ Some f) × (call_found (call_text c) f ≡ c)
found_back c None e b = absurd b
found_back c (Some f) e b = (f, e, b)

-- The value of which another is made.
pub made : {A B : Type 0} (g : A → B) (o : Option A) (b : B) → option_map g o ≡ Some b → (a : A) × (o ≡ Some a) × (g a ≡ b)
made g None b e = absurd (none-some b e)
made g (Some a) b e = (a, refl, same_Some _ _ e)

-- A line is read as a call exactly where it is that call's text, within the limits.
pub read_exactly : (s : List ℕ) (c : Call) → (read_call s ≡ Some c) ↔ ((s ≡ call_text c) × Within c)
unfolding read_call found_in
read_exactly s c = (to, λ p. ap read_call p.0 ∙ from p.1)
  where
    to : read_call s ≡ Some c → (s ≡ call_text c) × Within c
    to h =
        let m = made (call_found s) (found_in s) c h in
        let q : found_among s all_kinds ≡ Some m.0 = grind (arith, m.1) in
        let o = found_among_lem s all_kinds m.0 q in
        let r = read_as_lem s o.0 m.0 o.1 in
        (r.0 ∙ ap call_text m.2, subst Within m.2 r.1)

    from : Within c → read_call (call_text c) ≡ Some c
    from w =
        let f = found_back c (found_as (call_text c) (kind_of c)) refl (read_back w) in
        let i = is-form (call_text c) (rw (text_filled c) (call-form w)) in
        let o = one_found (call_text c) (kind_of c) f.0 all_kinds (all_kinds_lem (kind_of c)) f.1 in
        rw (i, o) (ap Some f.2)

-- ---- The variant

-- A variant's number names it.
number_of_variant : (n : ℕ) → is_variant n ≡ true → number (variant_of n) ≡ n
unfolding is_variant variant_of
number_of_variant zero h = absurd (false≢true h)
number_of_variant (suc zero) h = refl
number_of_variant (suc (suc zero)) h = refl
number_of_variant (suc (suc (suc zero))) h = refl
number_of_variant (suc (suc (suc (suc zero)))) h = refl
number_of_variant (suc (suc (suc (suc (suc n))))) h =
    let m = suc (suc (suc (suc (suc n)))) in
    absurd (omega (arith, leb-true m 4 (rw (le-ltb m 1 (omega arith)) at h)))

-- It is small, and the variant's text is a form.
number_small : (v : SparkleVariant) → number v < 2 ^ 64
number_small Schwaemm128_128 = omega arith
number_small Schwaemm256_128 = omega arith
number_small Schwaemm192_192 = omega arith
number_small Schwaemm256_256 = omega arith

variant_form : (v : SparkleVariant) → Form 4 (variant_text v)
unfolding variant_text
variant_form v =
    FormOf.opened (text "variant") _ (Word.letters _ _ refl)
    (Items.item (decimal (number v)) _ (Item.number (number v)) Items.close)

-- A line is read as a variant exactly where it is that variant's text.
pub variant_exactly : (s : List ℕ) (v : SparkleVariant) → (read_variant s ≡ Some v) ↔ (s ≡ variant_text v)
unfolding read_variant variant_text is_mark
variant_exactly s v = (to, λ e. ap read_variant e ∙ from)
  where
    of_fields : (f : Fields) → fields_of variant_shape s ≡ Some f
        → cond (is_form s) (known (number_in (item_at s (begin_at f 3)))) None ≡ Some v → s ≡ variant_text v
    of_fields f a e =
        let x = item_at s (begin_at f 3) in
        let p : known (number_in x) ≡ Some v = grind (arith, e) in
        let q = cond_some (is_variant (number_in x)) (variant_of (number_in x)) v p in
        let r = shape-read s variant_shape f refl (omega arith) a in
        let n = sym (number_of_variant (number_in x) q.0) ∙ ap number q.1 in
        r.0 ∙ ap (λ (y : List ℕ). text "(variant " ++ y ++ text ")") ((number-then x true r.1).0 ∙ ap decimal n)

    to : read_variant s ≡ Some v → s ≡ variant_text v
    to h = option_and_then_some _ (fields_of variant_shape s) v h of_fields

    from : read_variant (variant_text v) ≡ Some v
    from =
        let b = number_small v in
        let x = decimal (number v) in
        let f : fit variant_shape (x ∷ []) ≡ true = rw (number_fits (number v) b) refl in
        let r = shape-written (variant_text v) variant_shape (x ∷ []) refl (omega arith) refl f refl in
        let y = ap (λ (items : List (List ℕ)). get_or items 0 []) r.2 in
        rw (r.1, is-form (variant_text v) (variant_form v), y, number-back (number v) b, number_is_one v)
        (ap Some (variant_of_number v))
