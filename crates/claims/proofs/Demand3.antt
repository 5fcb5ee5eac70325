-- Demand 3: two lists of calls that are alike have equal sheets exactly where they have equal verdicts. For the verdicts
-- that the engine itself decides, this holds of every two engines of equal public state; that these are the plain
-- reader's is taken from an invariant between engine and reader, of which `Linked` is what is used.
use mathlib.Core.Path.{◌≡◌, refl, sym, ap, ap₂, fun_ext, ◌∙◌}
use mathlib.Core.Logic.{◌↔◌}
use mathlib.Core.Bool.{Bool, true, cond}
use mathlib.Core.List.{List, [], ◌∷◌, map}
use Prim.Native.Nat.{ℕ, zero, suc}
use native.Mathlib.Omega.{arith}
use lib.ListN.{length, take}
use Rattle.std.specs.Prelude.{Result, Ok, Err}
use Rattle.schwaemm.specs.Schwaemm.{Params, verified}
use Rattle.tc_aead_cipher.specs.declared.variant.SparkleVariant.{SparkleVariant}
use Rattle.tc_aead_cipher.specs.declared.phase.Direction.{Direction}
use Rattle.tc_aead_cipher.specs.declared.phase.Direction.TheVariants.{Encrypt, Decrypt}
use Rattle.tc_aead_cipher.specs.declared.phase.Phase.{Phase}
use Rattle.tc_aead_cipher.specs.declared.phase.Phase.TheVariants.{Uninitialized, Init, Aad, Data, Final}
use Rattle.tc_aead_cipher.specs.declared.aead_error.AeadError.{AeadError}
use Rattle.tc_aead_cipher.specs.declared.aead_init_error.AeadInitError.{AeadInitError}
use Rattle.tc_sparkle_aead.specs.declared.engine.SparkleEngine.{SparkleEngine}
use Rattle.tc_aead_cipher.specs.Variant.{params_of}
use Rattle.tc_aead_cipher.specs.Checks.{opening, held_data, whole, total_len, end_check, start_check}
use Rattle.tc_sparkle_aead.specs.Engine.{new_engine, repeats}
use Rattle.tc_sparkle_aead.specs.Calls.{begin_data}
use Rattle.tc_aead_cipher.specs.Call.{Call}
use Rattle.claims.specs.Shape.{Shape, shape, Alike}
use Rattle.tc_sparkle_aead.specs.Sheet.{step, Line, line, lines, sheet}
use Rattle.claims.specs.Reader.{Verdict, verdict_of, Reader, new_reader, repeated, reader_held, read_start, read_header}
use Rattle.claims.specs.Reader.{loaded_key, loaded_nonce, read_message, read_end, end_in, read, notes, verdicts}
use Rattle.claims.specs.Reader.Verdict.{None}
use Rattle.claims.proofs.PublicState.{public_of, asked, start_note, end_note, next_is, judged_is, line-is}
use Rattle.claims.proofs.EngineEnd.{tag_right}

-- ---- Two engines of equal public state

-- The verdicts of a list of calls, as the engine decides them.
unfoldable pub asked_all : SparkleEngine → List Call → List Verdict
asked_all e [] = []
asked_all e (c ∷ calls) = asked e c ∷ asked_all (step e c).engine calls

module _ (e f : SparkleEngine) (x y : Call) (u : public_of e ≡ public_of f) (s : shape x ≡ shape y) where
  -- Equal verdicts: equal public states afterwards, and equal lines.
  same_next : asked e x ≡ asked f y → public_of (step e x).engine ≡ public_of (step f y).engine
  same_next w = rw (next_is e x, next_is f y, u, s, w)

  same_line : asked e x ≡ asked f y → line (step e x) ≡ line (step f y)
  same_line w = rw (line-is e x, line-is f y, u, s, w)

  -- Equal lines: equal verdicts.
  same-verdict : line (step e x) ≡ line (step f y) → asked e x ≡ asked f y
  unfolding line
  same-verdict l =
      let o : (step e x).outcome ≡ (step f y).outcome = ap (λ (n : Line). n.outcome) l in
      rw (judged_is e x, judged_is f y, u, s, o)

equal_lines : (xs ys : List Call) (e f : SparkleEngine) → public_of e ≡ public_of f → Alike xs ys
    → asked_all e xs ≡ asked_all f ys → lines e xs ≡ lines f ys
unfolding asked_all lines
equal_lines [] [] e f u a w = refl
equal_lines [] (y ∷ ys) e f u a w = absurd (let z : ◌≡◌ {A = ℕ} 0 1 = cc in omega arith)
equal_lines (x ∷ xs) [] e f u a w = absurd (let z : ◌≡◌ {A = ℕ} 0 1 = cc in omega arith)
equal_lines (x ∷ xs) (y ∷ ys) e f u a w =
    let s : shape x ≡ shape y = cc in
    let v : asked e x ≡ asked f y = cc in
    ap₂ (λ (l : Line) (ls : List Line). l ∷ ls) (same_line e f x y u s v)
    (equal_lines xs ys (step e x).engine (step f y).engine (same_next e f x y u s v) (cc) (cc))

equal_verdicts : (xs ys : List Call) (e f : SparkleEngine) → public_of e ≡ public_of f → Alike xs ys
    → lines e xs ≡ lines f ys → asked_all e xs ≡ asked_all f ys
unfolding asked_all lines
equal_verdicts [] [] e f u a w = refl
equal_verdicts [] (y ∷ ys) e f u a w = absurd (let z : ◌≡◌ {A = ℕ} 0 1 = cc in omega arith)
equal_verdicts (x ∷ xs) [] e f u a w = absurd (let z : ◌≡◌ {A = ℕ} 0 1 = cc in omega arith)
equal_verdicts (x ∷ xs) (y ∷ ys) e f u a w =
    let s : shape x ≡ shape y = cc in
    let l : line (step e x) ≡ line (step f y) = cc in
    let v = same-verdict e f x y u s l in
    ap₂ (λ (b : Verdict) (bs : List Verdict). b ∷ bs) v
    (equal_verdicts xs ys (step e x).engine (step f y).engine (same_next e f x y u s v) (cc) (cc))

-- For the engine's own verdicts demand 3 holds of every two engines of equal public state.
pub lines_and_asked : (xs ys : List Call) (e f : SparkleEngine) → public_of e ≡ public_of f → Alike xs ys
    → (lines e xs ≡ lines f ys) ↔ (asked_all e xs ≡ asked_all f ys)
lines_and_asked xs ys e f u a = (equal_verdicts xs ys e f u a, equal_lines xs ys e f u a)

-- ---- The plain reader's verdicts are the engine's

-- What is used of an engine and the reader of the same calls: the variant, the phase and h; whether a pair repeats; and, at
-- an opening's end past its checks, whether the received tag is the specification's.
pub record Linked (v : SparkleVariant) (e : SparkleEngine) (r : Reader) : Type 0 where
  pub variant : e.variant ≡ v
  pub phase : e.current.phase ≡ r.phase
  pub held : held_data (params_of v) r.phase e.current.held ≡ held_data (params_of v) r.phase (reader_held (params_of v) r)
  pub pair : (key nonce : List ℕ) → repeats (params_of v) e.pair key nonce ≡ repeated r key nonce
  pub tag : (available n : ℕ) → end_check (params_of v) r.phase (reader_held (params_of v) r) available ≡ Ok n
      → opening r.phase ≡ true
      → tag_right (begin_data e)
      ≡ verified (params_of v) (loaded_key r) (loaded_nonce r) r.header r.body

-- a start notes by its check
pub read_start_note : (k : Result (Unit {0}) AeadInitError) (r : Reader) (d : Direction) (key nonce header : List ℕ)
    → start_note k d (repeated r key nonce) ≡ (read_start k r d key nonce header).verdict
read_start_note (Err x) r d key nonce header = refl
read_start_note (Ok _) r d key nonce header = refl

-- an end's check depends on the held bytes through h
pub end_check-held : (p : Params) (phase : Phase) (a b available : ℕ) → held_data p phase a ≡ held_data p phase b
    → end_check p phase a available ≡ end_check p phase b available
unfolding end_check total_len
end_check-held p phase a b available h =
    let w : whole p phase a ≡ whole p phase b = fun_ext (λ n. rw h refl) in
    simp (h, w)

end_note_lem : (p : Params) (r : Reader) (phase : Phase) (n available : ℕ) (tag_right : Bool)
    → end_check p phase (reader_held p r) available ≡ Ok n
    → (opening phase ≡ true → tag_right ≡ verified p (loaded_key r) (loaded_nonce r) r.header r.body)
    → cond (opening phase) (verdict_of tag_right) None ≡ (end_in phase p r).verdict
unfolding end_check
end_note_lem p r Uninitialized n available tag_right c h = refl
end_note_lem p r (Init Encrypt) n available tag_right c h = refl
end_note_lem p r (Init Decrypt) n available tag_right c h = ap verdict_of (h refl)
end_note_lem p r (Aad Encrypt) n available tag_right c h = refl
end_note_lem p r (Aad Decrypt) n available tag_right c h = ap verdict_of (h refl)
end_note_lem p r (Data Encrypt) n available tag_right c h = refl
end_note_lem p r (Data Decrypt) n available tag_right c h = ap verdict_of (h refl)
end_note_lem p r (Final d) n available tag_right c h = absurd (let z : ◌≡◌ {A = ℕ} 0 1 = cc in omega arith)

read_end_note : (p : Params) (r : Reader) (k : Result ℕ AeadError) (available : ℕ) (tag_right : Bool)
    → end_check p r.phase (reader_held p r) available ≡ k
    → ((n : ℕ) → k ≡ Ok n → opening r.phase ≡ true → tag_right ≡ verified p (loaded_key r) (loaded_nonce r) r.header r.body)
    → end_note k (opening r.phase) tag_right ≡ (read_end k p r).verdict
read_end_note p r (Err x) available tag_right c h = refl
read_end_note p r (Ok n) available tag_right c h = end_note_lem p r r.phase n available tag_right c (h n refl)

read_header_note : (k : Result ℕ AeadError) (r : Reader) (input : List ℕ) → (read_header k r input).verdict ≡ None
read_header_note (Err x) r input = refl
read_header_note (Ok n) r input = refl

read_message_note : (k : Result ℕ AeadError) (r : Reader) (input : List ℕ) → (read_message k r input).verdict ≡ None
read_message_note (Err x) r input = refl
read_message_note (Ok n) r input = refl

end-asked : (v w : SparkleVariant) (r : Reader) (phase : Phase) (k available : ℕ) (tag_right : Bool) → w ≡ v → phase ≡ r.phase
    → held_data (params_of v) r.phase k ≡ held_data (params_of v) r.phase (reader_held (params_of v) r)
    → ((n : ℕ) → end_check (params_of v) r.phase (reader_held (params_of v) r) available ≡ Ok n → opening r.phase ≡ true
    → tag_right ≡ verified (params_of v) (loaded_key r) (loaded_nonce r) r.header r.body)
    → end_note (end_check (params_of w) phase k available) (opening phase) tag_right
    ≡ (read_end (end_check (params_of v) r.phase (reader_held (params_of v) r) available) (params_of v) r).verdict
end-asked v w r phase k available tag_right variant q h tag =
    let p = params_of v in
    rw (variant, q, end_check-held p r.phase k (reader_held p r) available h)
    (read_end_note p r (end_check p r.phase (reader_held p r) available) available tag_right refl tag)

module _ (v : SparkleVariant) (e : SparkleEngine) (r : Reader) (l : Linked v e r) where
  pub asked_is_read : (c : Call) → asked e c ≡ (read v r c).verdict
  unfolding asked read
  asked_is_read (Call.Init d key nonce size header) =
      rw (l.variant, l.pair key nonce)
      (read_start_note (start_check v d (length key) (length nonce) size (repeated r key nonce)) r d key nonce header)
  asked_is_read (Call.Aad input) = rw read_header_note
  asked_is_read (Call.Data input out) = rw read_message_note
  asked_is_read (Call.Final out) =
      end-asked v e.variant r e.current.phase e.current.held (length out)
      (tag_right (begin_data e)) l.variant l.phase l.held (l.tag (length out))
  asked_is_read Call.Reset = refl
  asked_is_read Call.Mac = refl
  asked_is_read (Call.Update n) = refl
  asked_is_read (Call.Output n) = refl

-- ---- Demand 3

-- the first lines of a list of calls are the lines of its first calls, and so for verdicts and shapes
take-lines : (k : ℕ) (e : SparkleEngine) (xs : List Call) → lines e (take k xs) ≡ take k (lines e xs)
unfolding lines
take-lines zero e xs = refl
take-lines (suc k) e [] = refl
take-lines (suc k) e (x ∷ xs) = ap (λ (ls : List Line). line (step e x) ∷ ls) (take-lines k (step e x).engine xs)

take-notes : (k : ℕ) (v : SparkleVariant) (r : Reader) (xs : List Call) → notes v r (take k xs) ≡ take k (notes v r xs)
unfolding notes
take-notes zero v r xs = refl
take-notes (suc k) v r [] = refl
take-notes (suc k) v r (x ∷ xs) =
    ap (λ (ns : List Verdict). (read v r x).verdict ∷ ns) (take-notes k v (read v r x).reader xs)

take-map : (k : ℕ) (xs : List Call) → map shape (take k xs) ≡ take k (map shape xs)
take-map zero xs = refl
take-map (suc k) [] = refl
take-map (suc k) (x ∷ xs) = ap (λ (ss : List Shape). shape x ∷ ss) (take-map k xs)

-- `Invariant` is an invariant between the engine and the reader of the same calls that gives what `Linked` states.
module _ (v : SparkleVariant) (Invariant : SparkleEngine → Reader → Type 0)
    (linked : (e : SparkleEngine) (r : Reader) → Invariant e r → Linked v e r)
    (new : Invariant (new_engine v) new_reader)
    (keeps : (e : SparkleEngine) (r : Reader) (c : Call) → Invariant e r → Invariant (step e c).engine (read v r c).reader)
  where
    pub asked_are_notes : (xs : List Call) (e : SparkleEngine) (r : Reader) → Invariant e r
        → asked_all e xs ≡ notes v r xs
    unfolding asked_all notes
    asked_are_notes [] e r f = refl
    asked_are_notes (x ∷ xs) e r f =
        ap₂ (λ (b : Verdict) (bs : List Verdict). b ∷ bs) (asked_is_read v e r (linked e r f) x)
        (asked_are_notes xs (step e x).engine (read v r x).reader (keeps e r x f))

    -- Two lists alike: their sheets are equal exactly where their verdicts are.
    pub sheets_and_verdicts : (xs ys : List Call) → Alike xs ys → (sheet v xs ≡ sheet v ys) ↔ (verdicts v xs ≡ verdicts v ys)
    unfolding sheet verdicts
    sheets_and_verdicts xs ys a =
        let both = lines_and_asked xs ys (new_engine v) (new_engine v) refl a in
        let p = asked_are_notes xs (new_engine v) new_reader new in
        let q = asked_are_notes ys (new_engine v) new_reader new in
        ((λ l. sym p ∙ both.0 l ∙ q), (λ w. both.1 (p ∙ w ∙ sym q)))

    -- Call by call: the same of the first k calls, for every k.
    pub first_sheets_and_verdicts : (k : ℕ) (xs ys : List Call) → Alike xs ys
        → (take k (sheet v xs) ≡ take k (sheet v ys)) ↔ (take k (verdicts v xs) ≡ take k (verdicts v ys))
    unfolding sheet verdicts
    first_sheets_and_verdicts k xs ys a =
        let both = sheets_and_verdicts (take k xs) (take k ys) (take-map k xs ∙ ap (take k) a ∙ sym (take-map k ys)) in
        let p = take-lines k (new_engine v) xs in
        let q = take-lines k (new_engine v) ys in
        let s = take-notes k v new_reader xs in
        let t = take-notes k v new_reader ys in
        ((λ l. sym s ∙ both.0 (p ∙ l ∙ sym q) ∙ t), (λ w. sym p ∙ both.1 (s ∙ w ∙ sym t) ∙ q))
