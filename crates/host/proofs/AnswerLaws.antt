-- An answer, from the pieces that are written one after the other.
use mathlib.Core.Path.{◌≡◌, refl, sym, ap, ap₂, ◌∙◌}
use mathlib.Core.Bool.{Bool, true, false}
use mathlib.Core.List.{List, [], ◌∷◌, ◌++◌, append_assoc}
use Prim.Native.Nat.{ℕ}
use native.Mathlib.Omega.{arith}
use lib.ListN.{length, drop, set, length-drop}
use Rattle.std.specs.Int.{from_bool}
use Rattle.std.specs.Prelude.{Result}
use Rattle.std.proofs.lemmas.List.{nil_from_length}
use denote.Enum.Declared.{tag_of}
use lib.Seq.{take_at, drop_at, sets-eq}
use borrow.Rule.Slice.PartMut.{put_mid}
use Rattle.tc_aead_cipher.specs.declared.call.CallKind.{CallKind}
use Rattle.tc_aead_cipher.specs.declared.call.CallKind.TheVariants.{Init, Aad, Data, Final, Reset, Mac, Update, Output}
use Rattle.tc_aead_cipher.specs.contracts.call.CallKind.{the_type}
use Rattle.tc_aead_cipher.specs.declared.reply.Reply.{Reply}
use Rattle.tc_aead_cipher.specs.Call.{Call, call_of}
use Rattle.tc_aead_cipher.specs.Outcome.{answered}
use Rattle.tc_aead_cipher.specs.Reply.{reply_of}
use Rattle.tc_sparkle_aead.specs.declared.engine.SparkleEngine.{SparkleEngine}
use Rattle.tc_sparkle_aead.specs.declared.message.Mac.{Mac as Tag}
use Rattle.tc_sparkle_aead.specs.Calls.{mac_of, steps_now}
use Rattle.tc_sparkle_aead.specs.Sheet.{step, line}
use Rattle.tc_aead_cipher.specs.declared.refusal.Refusal.{Refusal}
use Rattle.tc_sparkle_aead.specs.declared.engine.Done.{Done}
use Rattle.dispatch.specs.Called.{Leaves, output_after}
use Rattle.host.specs.Bytes.{number}
use Rattle.host.specs.CallList.{shown, shown_count, shown_by, flag, answer_head, answer_of}

-- ---- The head

-- eight bytes that are written behind a front
over : (u rest : List ℕ) (at n : ℕ) → length u ≡ at → put_mid at 8 (u ++ rest) (number n) ≡ (u ++ number n) ++ drop 8 rest
over u rest at n a = rw (take_at u rest at a, drop_at u rest at a) (sym (append_assoc u (number n) (drop 8 rest)))

-- whether a tag can be read, as a byte
as_flag : (b : Bool) → from_bool b ≡ flag b
unfolding flag
as_flag true = refl
as_flag false = refl

module _ (head : List ℕ) (size : length head ≡ 34) (r : Reply) (readable : Bool) (steps n : ℕ) where
  pub head_written : {mark : ℕ} → mark ≡ from_bool readable → {a b c d : List ℕ} → a ≡ number r.first → b ≡ number r.second
      → c ≡ number steps → d ≡ number n
      → put_mid 26 8 (put_mid 18 8 (put_mid 10 8 (put_mid 2 8 (set (set head 0 r.number) 1 mark) a) b) c) d
      ≡ answer_head r readable steps n
  unfolding answer_head number flag
  head_written m ea eb ec ed =
      let f = r.number ∷ (flag readable ∷ []) in
      let u = f ++ number r.first in
      let v = u ++ number r.second in
      let w = v ++ number steps in
      let none : drop 8 (drop 8 (drop 8 (drop 8 (drop 2 head)))) ≡ [] =
      nil_from_length _ (simp length-drop (omega (arith, size))) in
      rw (m, as_flag readable, ea, eb, ec, ed, sets-eq f head 0 (omega (arith, size)))
      (ap (λ (l : List ℕ). put_mid 26 8 (put_mid 18 8 (put_mid 10 8 l (number r.second)) (number steps)) (number n)) (over f (drop 2 head) 2 r.first refl)
      ∙ ap (λ (l : List ℕ). put_mid 26 8 (put_mid 18 8 l (number steps)) (number n)) (over u (drop 8 (drop 2 head)) 10 r.second refl)
      ∙ ap (λ (l : List ℕ). put_mid 26 8 l (number n)) (over v (drop 8 (drop 8 (drop 2 head))) 18 steps refl)
      ∙ over w (drop 8 (drop 8 (drop 8 (drop 2 head)))) 26 n refl
      ∙ ap (λ (l : List ℕ). (w ++ number n) ++ l) none)

-- ---- What an answer shows, by the kind of its call

-- a data call and an end are lent what stands in the third run
abbrev pub Lent : CallKind → (third shown : List ℕ) → Type 0
Lent kind third lent = (kind ≡ Data → lent ≡ third) × (kind ≡ Final → lent ≡ third)

-- the tag is shown where it is asked for, else what the call left
abbrev pub Tagged : CallKind → Tag → (left shown : List ℕ) → Type 0
Tagged kind m left after = (kind ≡ Mac → after ≡ m.bytes) × ((kind ≡ Mac → ⊥) → after ≡ left)

module _ (e : SparkleEngine) (n : ℕ) (first second third lent : List ℕ) where
  lent_is : (kind : CallKind) → Lent kind third lent
      → call_of kind n first second third lent ≡ call_of kind n first second third third
  lent_is (Init d) l = refl
  lent_is Aad l = refl
  lent_is Data l = ap (Call.Data first) (l.0 refl)
  lent_is Final l = ap Call.Final (l.1 refl)
  lent_is Reset l = refl
  lent_is Mac l = refl
  lent_is (Update) l = refl
  lent_is Output l = refl

  counted : (kind : CallKind) → shown_by kind (length third) ≡ shown_count (call_of kind n first second third third)
  unfolding shown_count
  counted (Init d) = refl
  counted Aad = refl
  counted Data = refl
  counted Final = refl
  counted Reset = refl
  counted Mac = refl
  counted Update = refl
  counted Output = refl

  shows : (kind : CallKind) (left after : List ℕ) (m : Tag) → length after ≡ shown_by kind (length third)
      → left ≡ output_after e (call_of kind n first second third third) lent
      → m ≡ mac_of (step e (call_of kind n first second third third)).engine → Tagged kind m left after
      → after ≡ shown e (call_of kind n first second third third)
  unfolding step output_after shown
  shows (Init d) left after m size l t g = nil_from_length after size
  shows Aad left after m size l t g = nil_from_length after size
  shows Data left after m size l t g = g.1 (λ e. let z : ◌≡◌ {A = ℕ} 2 5 = ap (tag_of the_type) e in absurd (omega arith)) ∙ l
  shows Final left after m size l t g = g.1 (λ e. let z : ◌≡◌ {A = ℕ} 3 5 = ap (tag_of the_type) e in absurd (omega arith)) ∙ l
  shows Reset left after m size l t g = nil_from_length after size
  shows Mac left after m size l t g = g.0 refl ∙ ap (λ (x : Tag). x.bytes) t
  shows Update left after m size l t g = nil_from_length after size
  shows Output left after m size l t g = nil_from_length after size

  -- the call as it is made, on what is lent; then the tag, and the head
  module _ (kind : CallKind) (l : Lent kind third lent) (given : Done (Result ℕ Refusal)) (left after head : List ℕ) (m : Tag) (steps : ℕ)
      (reply : Reply) (said : Leaves e (call_of kind n first second third lent) given) (numbers : reply ≡ reply_of (answered given.answer))
      (wrote : left ≡ output_after e (call_of kind n first second third lent) lent)
      (took : m ≡ mac_of given.engine) (ran : steps ≡ steps_now given.engine) (tag : Tagged kind m left after)
      (size : length after ≡ shown_by kind (length third))
      (first_part : head ≡ answer_head reply m.readable steps (length after)) where
    abbrev listed : Call
    listed = call_of kind n first second third third

    engine_after : given.engine ≡ (step e listed).engine
    engine_after = said.1 ∙ ap (λ (c : Call). (step e c).engine) (lent_is kind l)

    pub answer_is : (given.engine ≡ (step e listed).engine) × (head ++ after ≡ answer_of e listed)
    unfolding answer_of line
    answer_is =
        let replied : reply ≡ reply_of (step e listed).outcome =
        numbers ∙ ap reply_of (said.0 ∙ ap (λ (c : Call). (step e c).outcome) (lent_is kind l)) in
        let behind : after ≡ shown e listed =
        shows kind left after m size (wrote ∙ ap (λ (c : Call). output_after e c lent) (lent_is kind l)) (took ∙ ap mac_of engine_after) tag in
        let count : length after ≡ shown_count listed = size ∙ counted kind in
        (engine_after, ap₂ ◌++◌ (first_part ∙ rw (took, ran, replied, engine_after, count) refl) behind)
