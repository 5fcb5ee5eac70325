-- A run of a list's calls, over plain variables: what a line's call is lent, which call it is, the start and the step.
use mathlib.Core.Path.{◌≡◌, refl, sym, ap, ◌∙◌, subst}
use mathlib.Core.Bool.{Bool, true, false}
use mathlib.Core.List.{List, [], ◌∷◌}
use Prim.Native.Nat.{ℕ, zero, suc, ◌/◌, ◌≤◌, ◌<◌, min}
use native.Mathlib.Omega.{arith}
use borrow.Author.Tests.{leb-true, lt-ltb, le-ltb}
use lib.ListN.{length, take, drop, length-take, length-drop, length-replicate}
use lib.Seq.{take_all, take_at}
use Rattle.forms.specs.Hex.{hex_bytes, decoded_out}
use Rattle.forms.proofs.HexLaws.{hex-length}
use Rattle.tc_aead_cipher.specs.declared.call.CallKind.{CallKind}
use Rattle.tc_aead_cipher.specs.declared.call.CallKind.TheVariants.{Init, Aad, Data, Final, Reset, Mac, Update, Output}
use Rattle.tc_aead_cipher.specs.declared.variant.SparkleVariant.{SparkleVariant}
use Rattle.tc_aead_cipher.specs.declared.variant.SparkleVariant.TheVariants.{Schwaemm128_128}
use Rattle.tc_aead_cipher.specs.Refusals.{line_refusal}
use Rattle.tc_aead_cipher.specs.Call.{Call, kind_of, call_of}
use Rattle.tc_aead_cipher.specs.Outcome.{answered as answer_of}
use Rattle.tc_aead_cipher.specs.declared.reply.Reply.{Reply}
use Rattle.tc_aead_cipher.specs.Reply.{reply_of, outcome_of}
use Rattle.tc_aead_cipher.proofs.ReplyLaws.{reply-answered}
use Rattle.tc_sparkle_aead.specs.declared.engine.SparkleEngine.{SparkleEngine}
use Rattle.tc_sparkle_aead.specs.declared.message.Mac.{Mac as Tag}
use Rattle.tc_sparkle_aead.specs.Message.{zeros}
use Rattle.tc_sparkle_aead.specs.Engine.{new_engine}
use Rattle.tc_sparkle_aead.specs.Calls.{mac_of, steps_now}
use Rattle.tc_sparkle_aead.specs.Sheet.{step, line}
use Rattle.tc_aead_cipher.specs.declared.refusal.Refusal.{Refusal}
use Rattle.tc_sparkle_aead.specs.declared.engine.Done.{Done}
use Rattle.dispatch.specs.Called.{Leaves}
use Rattle.sheet_text.specs.Text.{line_text, title_text, refusal_text}
use Rattle.call_text.specs.declared.line.Fields.{Fields}
use Rattle.call_text.specs.declared.line.Found.{Found}
use Rattle.std.specs.Prelude.{Option, Some, None, Ok, Err, Result}
use Rattle.std.proofs.lemmas.Option.{none-some, same_Some, cond_some, option_and_then_some}
use Rattle.call_text.specs.declared.list.Refused.{Refused}
use Rattle.call_text.specs.declared.run.Run.{Run}
use Rattle.call_text.specs.declared.run.Shown.{Shown}
use Rattle.call_text.specs.Line.{item_at, placed, found_as, found_among, all_kinds, is_form, found_in, call_found, fields_of, shape_of}
use Rattle.call_text.specs.List.{Checked, check_file}
use Rattle.call_text.specs.Run.{line_at, line_end, begun, begin_of, stopped, answered, next_of}

-- ---- What is lent

zeros-length : (n : ℕ) → length (zeros n) ≡ n
unfolding zeros
zeros-length n = length-replicate n 0

zeros-front : (n m : ℕ) → n ≤ m → take n (zeros m) ≡ zeros n
unfolding zeros
zeros-front zero m h = refl
zeros-front (suc n) zero h = absurd (omega arith)
zeros-front (suc n) (suc m) h = ap (λ (rest : List ℕ). 0 ∷ rest) (zeros-front n m (omega arith))

-- An output, the front of an array of zeros.
pub lent : {room : List ℕ} (n size : ℕ) → n ≤ size → room ≡ zeros size → take n room ≡ zeros n
lent n size h e = ap (take n) e ∙ zeros-front n size h

item-length : (s : List ℕ) (at : ℕ) → length (item_at s at) ≤ length s
unfolding item_at
item-length s at = simp (length-take, length-drop) (omega arith)

-- What an item of a line says, in front of an array, as far as it has room.
pub decoded_in : (s : List ℕ) (at size : ℕ) (room : List ℕ) {item after : List ℕ} {n : ℕ} → item ≡ item_at s at
    → length room ≡ size → n ≡ min (length item / 2) (length room) → after ≡ decoded_out item room
    → take n after ≡ take size (hex_bytes (item_at s at))
unfolding decoded_out
decoded_in s at size room {item} {after} {n} ei er en ea =
    let bytes = take (length room) (hex_bytes item) in
    let all : length bytes ≡ n = omega (arith, hex-length item, length-take (length room) (hex_bytes item)) in
    ap (take n) ea
    ∙ take_at bytes (drop (length item / 2) room) n all
    ∙ (λ i. take (er i) (hex_bytes (ei i)))

-- What an item of a line says has room in 32768 bytes.
pub whole : (s : List ℕ) (at : ℕ) → length s ≤ 65536 → take 32768 (hex_bytes (item_at s at)) ≡ hex_bytes (item_at s at)
whole s at h =
    let item = item_at s at in
    take_all 32768 (hex_bytes item) (omega (arith, hex-length item, item-length s at))

-- What an item of a line says, in front of an array that has room for it.
pub decoded : (s : List ℕ) (at : ℕ) → length s ≤ 65536 → (room : List ℕ) {item after : List ℕ} {n : ℕ} → item ≡ item_at s at
    → length room ≡ 32768 → n ≡ min (length item / 2) (length room) → after ≡ decoded_out item room
    → take n after ≡ hex_bytes (item_at s at)
decoded s at h room ei er en ea = decoded_in s at 32768 room ei er en ea ∙ whole s at h

-- A call with equal runs and an equal output.
pub same-call : (e : SparkleEngine) (kind : CallKind) (n : ℕ) (r : Done (Result ℕ Refusal)) {a a' b b' c c' out out' : List ℕ} → a ≡ a'
    → b ≡ b' → c ≡ c' → out ≡ out' → Leaves e (call_of kind n a b c out) r → Leaves e (call_of kind n a' b' c' out') r
same-call e kind n r {a} {a'} {b} {b'} {c} {c'} {out} {out'} ea eb ec eo er =
    let same : call_of kind n a b c out ≡ call_of kind n a' b' c' out' = λ i. call_of kind n (ea i) (eb i) (ec i) (eo i) in
    subst (λ (x : Call). Leaves e x r) same er

-- ---- The call that was found

placed-room : (s : List ℕ) (kind : CallKind) (g : Fields) (f : Found) → placed s kind g ≡ Some f → f.room ≤ 32768
unfolding placed
placed-room s (Init d) g f e = rw (← same_Some _ _ e) (omega arith)
placed-room s Aad g f e = rw (← same_Some _ _ e) (omega arith)
placed-room s Data g f e = let q = cond_some _ _ f e in rw (← q.1) (leb-true _ 32768 q.0)
placed-room s Final g f e = let q = cond_some _ _ f e in rw (← q.1) (leb-true _ 32768 q.0)
placed-room s Reset g f e = rw (← same_Some _ _ e) (omega arith)
placed-room s Mac g f e = rw (← same_Some _ _ e) (omega arith)
placed-room s Update g f e = rw (← same_Some _ _ e) (omega arith)
placed-room s Output g f e = rw (← same_Some _ _ e) (omega arith)

among_room : (s : List ℕ) (kinds : List CallKind) (f : Found) → found_among s kinds ≡ Some f → f.room ≤ 32768
unfolding found_among found_as
among_room s [] f h = absurd (none-some f h)
among_room s (kind ∷ kinds) f h = go (among_room s kinds f) (found_as s kind) refl
  where
    go : (found_among s kinds ≡ Some f → f.room ≤ 32768) → (o : Option Found) → found_as s kind ≡ o → f.room ≤ 32768
    go next (Some g) e =
        let q : found_as s kind ≡ Some f = e ∙ rw (found_among, e) at h in
        option_and_then_some (placed s kind) (fields_of (shape_of kind) s) f q (λ x a. placed-room s kind x f)
    go next None e = next (rw (found_among, e) at h)

-- A call that was found is lent no more than there is.
pub found_room : (s : List ℕ) (f : Found) → found_in s ≡ Some f → f.room ≤ 32768
unfolding found_in
found_room s f h = go (is_form s) refl
  where
    go : (t : Bool) → is_form s ≡ t → f.room ≤ 32768
    go true e = among_room s all_kinds f (rw e at h)
    go false e = absurd (none-some f (rw e at h))

kind-kept : (kind : CallKind) (n : ℕ) (first second third out : List ℕ)
    → kind_of (call_of kind n first second third out) ≡ kind
kind-kept (Init d) n first second third out = refl
kind-kept Aad n first second third out = refl
kind-kept Data n first second third out = refl
kind-kept Final n first second third out = refl
kind-kept Reset n first second third out = refl
kind-kept Mac n first second third out = refl
kind-kept Update n first second third out = refl
kind-kept Output n first second third out = refl

-- A call with other runs or another output is the call that was found where its kind does not take them.
pub by_kind : (e : SparkleEngine) (s : List ℕ) (f : Found) (kind : CallKind) → f.kind ≡ kind → (r : Done (Result ℕ Refusal))
    → (first second third out : List ℕ) → Leaves e (call_of f.kind f.number first second third out) r
    → call_of kind f.number first second third out
    ≡ call_of kind f.number (hex_bytes (item_at s f.first)) (hex_bytes (item_at s f.second))
    (hex_bytes (item_at s f.third)) (zeros f.room)
    → Leaves e (call_found s f) r
unfolding call_found
by_kind e s f kind is r first second third out er same = subst (λ (c : Call). Leaves e c r) (rw is same) er

-- ---- The start

module _ (file : List ℕ) {answer : Checked} (ea : answer ≡ check_file file) where
  pub begin_refused : (x : Refused) → answer ≡ Err x → {text : List ℕ} → text ≡ refusal_text (line_refusal x.line)
      → {e : SparkleEngine}
      → e ≡ new_engine Schwaemm128_128
      → ◌≡◌ {A = Shown} (record { text = text; run = record { engine = e; at = length file } }) (begin_of file)
  unfolding begin_of begun
  begin_refused x is et ee =
      (λ i. record { text = et i; run = record { engine = ee i; at = length file } }) ∙ ap (begun file) (sym is ∙ ea)

  pub begin_accepted : (v : SparkleVariant) → answer ≡ Ok v → {text : List ℕ} → text ≡ title_text v
      → {e : SparkleEngine} → e ≡ new_engine v → {to : ℕ} → to ≡ line_end file 0
      → ◌≡◌ {A = Shown} (record { text = text; run = record { engine = e; at = to } }) (begin_of file)
  unfolding begin_of begun
  begin_accepted v is et ee en =
      (λ i. record { text = et i; run = record { engine = ee i; at = en i } }) ∙ ap (begun file) (sym is ∙ ea)

-- ---- The step

-- The reply to a call's answer says the line of the sheet.
sheet-line : (e : SparkleEngine) (l : List ℕ) (f : Found) (c : Done (Result ℕ Refusal)) → Leaves e (call_found l f) c
    → (reply : Reply) → reply ≡ reply_of (answer_of c.answer) → (steps : ℕ) → steps ≡ steps_now c.engine
    → (tag : Tag) → tag ≡ mac_of c.engine
    → line_text f.kind (record { outcome = outcome_of reply; steps = steps; readable = tag.readable })
    ≡ line_text (kind_of (call_found l f)) (line (step e (call_found l f)))
unfolding line call_found
sheet-line e l f c ec reply er steps es tag et =
    let kind = sym (kind-kept f.kind f.number _ _ _ (zeros f.room)) in
    let outcome = ap outcome_of er ∙ reply-answered c.answer ∙ ec.0 in
    let counted = es ∙ ap steps_now ec.1 in
    let readable = ap (λ (t : Tag). t.readable) et ∙ ap (λ (x : SparkleEngine). (mac_of x).readable) ec.1 in
    λ i. line_text (kind i) (record { outcome = outcome i; steps = counted i; readable = readable i })

pub stopped-at : (file : List ℕ) (e : SparkleEngine) {x : Shown} → x ≡ stopped file e → x.run.at ≡ length file
unfolding stopped
stopped-at file e = ap (λ (x : Shown). x.run.at)

-- a run that stops is at the end of the file
pub stopped_place : (file : List ℕ) (e : SparkleEngine) → (stopped file e).run.at ≡ length file
unfolding stopped
stopped_place file e = refl

module _ (file : List ℕ) (r : Run) where
  pub next_long : 65536 < length file → next_of file r ≡ stopped file r.engine
  unfolding next_of
  next_long h = rw (lt-ltb 65536 (length file) h) refl

  module _ (size : length file ≤ 65536) (l : List ℕ) (el : l ≡ line_at file r.at) where
    pub next_none : found_in l ≡ None → next_of file r ≡ stopped file r.engine
    unfolding next_of
    next_none h = rw (le-ltb 65536 (length file) size, rw el at h) refl

    next_call : (f : Found) → found_in l ≡ Some f → next_of file r ≡ answered file r (call_found l f)
    unfolding next_of
    next_call f h =
        rw (le-ltb 65536 (length file) size, rw el at h) (ap (λ (x : List ℕ). answered file r (call_found x f)) (sym el))

    -- The engine, the line and the place of a call that was made are those of the step.
    pub next_found : (f : Found) → found_in l ≡ Some f → (c : Done (Result ℕ Refusal)) → Leaves r.engine (call_found l f) c
        → (reply : Reply) → reply ≡ reply_of (answer_of c.answer) → (steps : ℕ) → steps ≡ steps_now c.engine
        → (tag : Tag) → tag ≡ mac_of c.engine → (text : List ℕ)
        → text
        ≡ line_text f.kind (record { outcome = outcome_of reply; steps = steps; readable = tag.readable })
        → (to : ℕ) → to ≡ line_end file r.at
        → ◌≡◌ {A = Shown} (record { text = text; run = record { engine = c.engine; at = to } }) (next_of file r)
    unfolding answered
    next_found f h c ec reply er steps es tag et text ex to en =
        let shown = ex ∙ sheet-line r.engine l f c ec reply er steps es tag et in
        (λ i. record { text = shown i; run = record { engine = ec.1 i; at = en i } }) ∙ sym (next_call f h)
