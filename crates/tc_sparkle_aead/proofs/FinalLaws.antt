-- An end by its check, over plain variables: what a check that passes tells of the held bytes and of the output's room,
-- and what the call then answers.
use Rattle.std.proofs.Common.{◌≡◌, ℕ, ◌+◌, ◌^◌, ◌≤◌, Bool, true, false, cond, ltb, List, length, sym, refl, ap, ◌∙◌, arith, ltb-false, Result, Ok, Err}
use Rattle.schwaemm.specs.Schwaemm.{Params}
use Rattle.tc_aead_cipher.specs.declared.variant.SparkleVariant.{SparkleVariant}
use Rattle.tc_aead_cipher.specs.declared.phase.Direction.{Direction}
use Rattle.tc_aead_cipher.specs.declared.phase.Direction.TheVariants.{Encrypt, Decrypt}
use Rattle.tc_aead_cipher.specs.declared.phase.Phase.{Phase}
use Rattle.tc_aead_cipher.specs.declared.phase.Phase.TheVariants.{Uninitialized, Init, Aad, Data, Final}
use Rattle.tc_aead_cipher.specs.declared.aead_error.AeadError.{AeadError}
use Rattle.tc_aead_cipher.specs.declared.aead_error.AeadError.TheVariants.{AuthenticationFailed}
use Rattle.tc_sparkle_aead.specs.declared.message.Point.{Point}
use Rattle.tc_sparkle_aead.specs.declared.message.Mac.{Mac}
use Rattle.tc_sparkle_aead.specs.declared.message.End.{End}
use Rattle.tc_sparkle_aead.specs.declared.engine.Pair.{Pair}
use Rattle.tc_sparkle_aead.specs.declared.engine.Done.{Done}
use Rattle.tc_sparkle_aead.specs.declared.engine.SparkleEngine.{SparkleEngine}
use Rattle.tc_aead_cipher.specs.Variant.{params_of}
use Rattle.tc_aead_cipher.specs.Checks.{opening, keep, held_data, then, within64, room, phase_check, total_len, whole, end_check}
use Rattle.tc_sparkle_aead.specs.Message.{no_mac, readable, buffered_count, begin_point, begin_steps, written, seal_end, seal_out, tag_matches, open_end_by, open_end, open_out}
use Rattle.tc_sparkle_aead.specs.Engine.{current_key}
use Rattle.tc_sparkle_aead.specs.Calls.{at_point, begin_data, final_engine, finish, answered, seal_final, open_final, open_final_by, final_by, final_out_by, final_answer, do_final, do_final_out}
use Rattle.tc_sparkle_aead.proofs.BeginLaws.{begin_held, begin_ended, begin_parts}

-- ---- A check that passes.

-- two checks in a row: both pass
record Passed (first : Result ℕ AeadError) (second : ℕ → Result ℕ AeadError) (n : ℕ) : Type 0 where
  count : ℕ
  one : first ≡ Ok count
  two : second count ≡ Ok n

never_passed : {A : Type 0} (x : AeadError) (n : ℕ) → Err x ≡ Ok n → A
never_passed x n e = let z : ◌≡◌ {A = ℕ} 0 1 = cc in absurd (omega arith)

then_passed : (first : Result ℕ AeadError) (second : ℕ → Result ℕ AeadError) {n : ℕ} → then first second ≡ Ok n → Passed first second n
then_passed (Ok m) second e = record { count = m; one = refl; two = e }
then_passed (Err x) second {n} e = never_passed x n e

room_passed : (available required n : ℕ) → room available required ≡ Ok n → required ≤ available
room_passed available required n = by (ltb available required) refl
  where
    by : (t : Bool) → ltb available required ≡ t
        → cond t (Err (AeadError.OutputTooShort required available)) (Ok required) ≡ Ok n → required ≤ available
    by true e passed = never_passed _ n passed
    by false e passed = ltb-false available required e

within64_passed : (sum n m : ℕ) → within64 sum n ≡ Ok m → n ≡ m
within64_passed sum n m = by (ltb sum (2 ^ 64))
  where
    by : (t : Bool) → cond t (Ok n) (Err AeadError.InputTooLong) ≡ Ok m → n ≡ m
    by true passed = cc
    by false passed = never_passed _ m passed

whole_passed : (h key n m : ℕ) → cond (ltb h key) (Err (AeadError.CiphertextTooShort key h)) (Ok n) ≡ Ok m → key ≤ h
whole_passed h key n m = by (ltb h key) refl
  where
    by : (t : Bool) → ltb h key ≡ t → cond t (Err (AeadError.CiphertextTooShort key h)) (Ok n) ≡ Ok m → key ≤ h
    by true e passed = never_passed _ m passed
    by false e passed = ltb-false h key e

pub held_data_bound : (p : Params) (phase : Phase) (held : ℕ) → held_data p phase held ≤ keep p phase + p.rate
held_data_bound p Uninitialized held = omega arith
held_data_bound p (Init d) held = omega arith
held_data_bound p (Aad d) held = omega arith
held_data_bound p (Data d) held = omega arith
held_data_bound p (Final d) held = omega arith

module _ (p : Params) (phase : Phase) (held available n : ℕ) (passed : end_check p phase held available ≡ Ok n) where
  parts : Passed (then (total_len p phase held 0) (room available)) (whole p phase held) n
  unfolding end_check
  parts =
      then_passed (then (total_len p phase held 0) (room available)) (whole p phase held)
      (then_passed (phase_check phase) (λ _. then (then (total_len p phase held 0) (room available)) (whole p phase held)) passed).two

  total : Passed (total_len p phase held 0) (room available) parts.count
  total = then_passed (total_len p phase held 0) (room available) parts.one

  total_room : total.count ≤ available
  total_room = room_passed available total.count parts.count total.two

  pub sealing-room : opening phase ≡ false → held_data p phase held + p.key ≤ available
  unfolding total_len
  sealing-room seals =
      omega (arith, total_room, within64_passed (held_data p phase held + 0 + p.key) _ _ (rw seals at total.one))

  pub opening-room : opening phase ≡ true → held_data p phase held ≤ available + p.key
  unfolding total_len
  opening-room opens =
      omega (arith, total_room, within64_passed (held_data p phase held + 0) _ _ (rw opens at total.one))

  pub opening-whole : opening phase ≡ true → p.key ≤ held_data p phase held
  opening-whole opens = whole_passed (held_data p phase held) p.key _ n (rw opens at parts.two)

-- ---- The call.

-- what an end gives and writes, from the engine's parts
abbrev seal_of : SparkleVariant → Pair → Point → End
seal_of v pair at = seal_end (params_of v) (current_key (params_of v) pair) at

abbrev open_of : SparkleVariant → Pair → Point → End
open_of v pair at = open_end (params_of v) (current_key (params_of v) pair) at

-- the end of an opening gives its tag, and a readable one where the received tag is right
open_end_by_lem : (right : Bool) (e : SparkleEngine) (n : ℕ) (r : End)
    → r ≡ open_end_by right (params_of e.variant) (current_key (params_of e.variant) e.pair) e.current
    → finish e (answered (Ok n) r.mac) Decrypt r.mac r.steps ≡ open_final_by right e n
unfolding finish readable no_mac
open_end_by_lem true e n r is = ap (λ (x : End). finish e (answered (Ok n) x.mac) Decrypt x.mac x.steps) is
open_end_by_lem false e n r is = ap (λ (x : End). finish e (answered (Ok n) x.mac) Decrypt x.mac x.steps) is

-- the check has passed with n, the data begins at a point, and the direction is known
pub record Accepted (e : SparkleEngine) (at : Point) (out : List ℕ) (n : ℕ) (opens : Bool) : Type 0 where
  pub passed : final_answer e (length out) ≡ Ok n
  pub begins : at ≡ begin_point (params_of e.variant) e.current.phase e.current
  pub direction : opens ≡ opening e.current.phase

module _ {e : SparkleEngine} {at : Point} {out : List ℕ} {n : ℕ} {opens : Bool} (t : Accepted e at out n opens) where
  same-held : buffered_count (params_of e.variant) at.phase at.held
      ≡ held_data (params_of e.variant) e.current.phase e.current.held
  same-held = rw t.begins (begin_held (params_of e.variant) e.current.phase e.current refl)

  bound : held_data (params_of e.variant) e.current.phase e.current.held
      ≤ keep (params_of e.variant) e.current.phase + (params_of e.variant).rate
  bound = held_data_bound (params_of e.variant) e.current.phase e.current.held

  -- what is made of the variant, the pair and the point where the data begins
  parts_are : {A : Type 0} (f : SparkleVariant → Pair → Point → A)
      → f e.variant e.pair at ≡ f (begin_data e).variant (begin_data e).pair (begin_data e).current
  unfolding begin_data
  parts_are f = ap (f e.variant e.pair) t.begins ∙ sym (begin_parts e f e.current.phase)

  -- an engine that has ended, by what the end gave
  ended_is : (answer : Mac → Result ℕ AeadError) (first : ℕ)
      → first ≡ begin_steps (params_of e.variant) e.current.phase → (x : Point) (d : Direction) (end end' : End)
      → end ≡ end'
      → finish (at_point e x first) (answer end.mac) d end.mac end.steps
      ≡ finish (begin_data e) (answer end'.mac) d end'.mac end'.steps
  unfolding finish begin_data
  ended_is answer first ef x d end end' ee =
      let begins =
      ap (λ (k : ℕ). final_engine (at_point e x k) d end'.mac end'.steps) ef
      ∙ begin_ended e e.current.phase x d end'.mac end'.steps in
      ap (λ (y : End). finish (at_point e x first) (answer y.mac) d y.mac y.steps) ee
      ∙ (λ i. record { answer = answer end'.mac; engine = begins i })

  -- a sealing
  module _ (seals : opens ≡ false) where
    sealing : opening e.current.phase ≡ false
    sealing = sym t.direction ∙ seals

    pub seal-fits : (buffered_count (params_of e.variant) at.phase at.held ≤ (params_of e.variant).rate)
        × (buffered_count (params_of e.variant) at.phase at.held + (params_of e.variant).key ≤ length out)
    seal-fits =
        rw same-held (
          omega (arith, rw sealing at bound),
          sealing-room (params_of e.variant) e.current.phase e.current.held (length out) n t.passed sealing,
        )

    pub final_sealed : (first : ℕ)
        → first ≡ begin_steps (params_of e.variant) e.current.phase → (x : Point) (end : End)
        → end ≡ seal_end (params_of e.variant) (current_key (params_of e.variant) e.pair) at → (done : Done (Result ℕ AeadError))
        → done ≡ finish (at_point e x first) (Ok n) Encrypt end.mac end.steps
        → done ≡ do_final e out
    unfolding do_final seal_final finish
    final_sealed first ef x end ee done ed =
        rw (t.passed, sealing)
        (ed
        ∙ ended_is (λ m. Ok n) first ef x Encrypt end (seal_of (begin_data e).variant (begin_data e).pair (begin_data e).current)
        (ee ∙ parts_are seal_of))

    pub final_sealed_out : (out₁ : List ℕ)
        → out₁ ≡ written (seal_out (params_of e.variant) (current_key (params_of e.variant) e.pair) at) out → out₁ ≡ do_final_out e out
    unfolding do_final_out
    final_sealed_out out₁ ed =
        rw (t.passed, sealing)
        (ed ∙ parts_are (λ (v : SparkleVariant) (pair : Pair) (x : Point).
        written (seal_out (params_of v) (current_key (params_of v) pair) x) out))

  -- an opening
  module _ (is-opening : opens ≡ true) where
    opened : opening e.current.phase ≡ true
    opened = sym t.direction ∙ is-opening

    pub open_fits : ((params_of e.variant).key ≤ buffered_count (params_of e.variant) at.phase at.held)
        × (buffered_count (params_of e.variant) at.phase at.held ≤ (params_of e.variant).rate + (params_of e.variant).key)
        × (buffered_count (params_of e.variant) at.phase at.held ≤ length out + (params_of e.variant).key)
    open_fits =
        rw same-held (
          opening-whole (params_of e.variant) e.current.phase e.current.held (length out) n t.passed opened,
          omega (arith, rw opened at bound),
          opening-room (params_of e.variant) e.current.phase e.current.held (length out) n t.passed opened,
        )

    pub final_opened : (first : ℕ)
        → first ≡ begin_steps (params_of e.variant) e.current.phase → (x : Point) (end : End)
        → end ≡ open_end (params_of e.variant) (current_key (params_of e.variant) e.pair) at
        → (readable : Bool) → end.mac.readable ≡ readable → (done : Done (Result ℕ AeadError))
        → done ≡ finish (at_point e x first) (cond readable (Ok n) (Err AuthenticationFailed)) Decrypt end.mac end.steps
        → done ≡ do_final e out
    unfolding do_final open_final
    final_opened first ef x end ee readable re done ed =
        let r = open_of (begin_data e).variant (begin_data e).pair (begin_data e).current in
        let p = params_of (begin_data e).variant in
        let right = tag_matches p (current_key p (begin_data e).pair) (begin_data e).current in
        rw (t.passed, opened)
        (ed
        ∙ ap (λ (b : Bool). finish (at_point e x first) (cond b (Ok n) (Err AuthenticationFailed)) Decrypt end.mac end.steps) (sym re)
        ∙ ended_is (answered (Ok n)) first ef x Decrypt end r (ee ∙ parts_are open_of)
        ∙ open_end_by_lem right (begin_data e) n r refl)

    pub final_opened_out : (out₁ : List ℕ) → out₁ ≡ written (open_out (params_of e.variant) (current_key (params_of e.variant) e.pair) at) out → out₁ ≡ do_final_out e out
    unfolding do_final_out
    final_opened_out out₁ ed =
        rw (t.passed, opened)
        (ed ∙ parts_are (λ (v : SparkleVariant) (pair : Pair) (x : Point).
        written (open_out (params_of v) (current_key (params_of v) pair) x) out))

-- a refused end
module _ (e : SparkleEngine) (out : List ℕ) (answer : Result ℕ AeadError) (x : AeadError)
    (checked : answer ≡ final_answer e (length out)) (no : answer ≡ Err x) where
  pub final_refused : ◌≡◌ {A = Done (Result ℕ AeadError)} (record { answer = answer; engine = e }) (do_final e out)
  unfolding do_final
  final_refused =
      ap (λ (k : Result ℕ AeadError). record { answer = k; engine = e }) no
      ∙ sym (ap (λ (k : Result ℕ AeadError). final_by k e) (sym checked ∙ no))

  pub final_refused_out : out ≡ do_final_out e out
  unfolding do_final_out
  final_refused_out = sym (ap (λ (k : Result ℕ AeadError). final_out_by k e out) (sym checked ∙ no))
