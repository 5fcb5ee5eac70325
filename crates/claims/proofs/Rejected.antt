-- The engines that document 01's "Agreement" rejects, each as a machine, or as every machine of that kind, with the demand
-- that it fails.
use mathlib.Core.Path.{◌≡◌, refl, sym, ap, ◌∙◌}
use mathlib.Core.Bool.{Bool, true, false, cond}
use mathlib.Core.List.{List, [], ◌∷◌, ◌++◌, append-nil}
use Prim.Native.Nat.{ℕ, suc, ◌+◌, ◌-◌, ◌*◌, ◌^◌}
use native.Mathlib.Omega.{arith}
use lib.ListN.{length, take, replicate}
use lib.Dec.{eqb, ltb}
use Rattle.std.specs.Prelude.{Result, Ok, Err}
use Rattle.schwaemm.specs.Bytes.{same}
use Rattle.schwaemm.specs.Blocks.{ready}
use Rattle.schwaemm.specs.Schwaemm.{Params, verified, seal, leading}
use Rattle.tc_aead_cipher.specs.declared.variant.SparkleVariant.{SparkleVariant}
use Rattle.tc_aead_cipher.specs.declared.variant.SparkleVariant.TheVariants.{Schwaemm128_128}
use Rattle.tc_aead_cipher.specs.declared.phase.Direction.{Direction}
use Rattle.tc_aead_cipher.specs.declared.phase.Direction.TheVariants.{Encrypt}
use Rattle.tc_aead_cipher.specs.declared.phase.Phase.{Phase}
use Rattle.tc_aead_cipher.specs.declared.phase.Phase.TheVariants.{Uninitialized, Init, Aad, Data, Final}
use Rattle.tc_aead_cipher.specs.declared.aead_error.AeadError.{AeadError}
use Rattle.tc_aead_cipher.specs.declared.aead_init_error.AeadInitError.{AeadInitError}
use Rattle.tc_aead_cipher.specs.declared.aead_init_error.AeadInitError.TheVariants.{InvalidKeyLength, InvalidNonceLength, InvalidMacSize, NonceReuse}
use Rattle.tc_sparkle_aead.specs.declared.engine.SparkleEngine.{SparkleEngine}
use Rattle.tc_aead_cipher.specs.Variant.{params_of}
use Rattle.tc_aead_cipher.specs.Checks.{opening, keep, held_data, within64, then, room, whole, update_len, total_len, aad_check, data_check, end_check, start_check}
use Rattle.tc_sparkle_aead.specs.Engine.{new_engine}
use Rattle.tc_sparkle_aead.specs.Calls.{steps_now}
use Rattle.tc_aead_cipher.specs.Call.{Call}
use Rattle.tc_aead_cipher.specs.Outcome.{outcome, start_outcome}
use Rattle.tc_sparkle_aead.specs.Sheet.{step, Line, line}
use Rattle.tc_aead_cipher.specs.Outcome.Outcome.{ok, no}
use Rattle.claims.specs.Reader.{Reader, new_reader, reader_held, repeated, read, notes, verdicts, reader, read_from}
use Rattle.claims.specs.Reader.{loaded_key, loaded_nonce}
use Rattle.claims.specs.Reader.Verdict.{Yes, No}
use Rattle.claims.specs.Steps.{steps_before, counts}
use Rattle.claims.specs.Messages.{end_outcome, answer_of}
use Rattle.claims.specs.Refused.{lent}
use Rattle.claims.specs.Machine.{Machine, after, sheet_of, bytes_of, Demand2, Demand3}
use Rattle.claims.specs.Machine.AllOk.{none, more}
use Rattle.claims.specs.Rejected.{not_initialized, fixed, untouched, accepted, skip_step, skipping, inventing, finalizing}

-- ---- The calls of the refutations: variant 1, contents 0 or 1

abbrev zeros16 : List ℕ
zeros16 = replicate 16 0

abbrev ones16 : List ℕ
ones16 = replicate 16 1

abbrev begin : List ℕ → Call
begin key = Call.Init Encrypt key zeros16 16 []

-- A start with the right lengths is accepted, one with an empty key is not.
begin_accepted : answer_of Schwaemm128_128 (reader Schwaemm128_128 []) (begin zeros16) ≡ ok 0
unfolding answer_of reader read_from start_check
begin_accepted = refl

begin_refused : answer_of Schwaemm128_128 (reader Schwaemm128_128 []) (begin []) ≡ no (1 ∷ (0 ∷ []))
unfolding answer_of reader read_from start_check
begin_refused = refl

-- Of two starts the second repeats the first pair, or does not: the lists are alike, the verdicts differ.
repeating : verdicts Schwaemm128_128 (begin zeros16 ∷ (begin zeros16 ∷ [])) ≡ No ∷ (Yes ∷ [])
unfolding verdicts notes read start_check same
repeating = refl

changing : verdicts Schwaemm128_128 (begin zeros16 ∷ (begin ones16 ∷ [])) ≡ No ∷ (No ∷ [])
unfolding verdicts notes read start_check same
changing = refl

-- A machine whose sheets of these two lists are equal fails demand 3.
same_sheets_rejected : (m : Machine)
    → sheet_of m Schwaemm128_128 (begin zeros16 ∷ (begin zeros16 ∷ []))
    ≡ sheet_of m Schwaemm128_128 (begin zeros16 ∷ (begin ones16 ∷ []))
    → Demand3 m → ⊥
same_sheets_rejected m equal demand =
    let w = sym repeating ∙ (demand Schwaemm128_128 (begin zeros16 ∷ (begin zeros16 ∷ []))
    (begin zeros16 ∷ (begin ones16 ∷ [])) refl).0 equal ∙ changing in
    let z : ◌≡◌ {A = ℕ} 0 1 = cc in omega arith

-- ---- One reporting NotInitialized to everything

pub not_initialized_fails_2 : Demand2 not_initialized → ⊥
not_initialized_fails_2 demand =
    let a : no (8 ∷ []) ≡ ok 0 =
    demand.answers Schwaemm128_128 [] (begin zeros16) (λ q. let z : ◌≡◌ {A = ℕ} 0 1 = cc in omega arith) ∙ begin_accepted
    in
    let z : ◌≡◌ {A = ℕ} 0 1 = cc in omega arith

pub not_initialized_fails_3 : Demand3 not_initialized → ⊥
not_initialized_fails_3 demand = same_sheets_rejected not_initialized refl demand

-- ---- One with a fixed sheet, whatever the sheet and whatever it writes

module _ (f : ℕ → Line) (write : ℕ → Call → List ℕ) where
  pub fixed_fails_2 : Demand2 (fixed f write) → ⊥
  fixed_fails_2 demand =
      let a : (f 0).outcome ≡ ok 0 =
      demand.answers Schwaemm128_128 [] (begin zeros16) (λ q. let z : ◌≡◌ {A = ℕ} 0 1 = cc in omega arith) ∙ begin_accepted
      in
      let b : (f 0).outcome ≡ no (1 ∷ (0 ∷ [])) =
      demand.answers Schwaemm128_128 [] (begin []) (λ q. let z : ◌≡◌ {A = ℕ} 0 1 = cc in omega arith) ∙ begin_refused
      in
      let z : ◌≡◌ {A = ℕ} 0 1 = cc in omega arith

  pub fixed_fails_3 : Demand3 (fixed f write) → ⊥
  fixed_fails_3 demand = same_sheets_rejected (fixed f write) refl demand

-- ---- One returning ok over untouched output

-- An end after a start writes the tag's 16 bytes.
end-accepted : (out : List ℕ) → length out ≡ 16
    → answer_of Schwaemm128_128 (reader Schwaemm128_128 (begin zeros16 ∷ [])) (Call.Final out) ≡ ok 16
unfolding answer_of reader read_from read start_check end_check total_len ready
end-accepted out q = rw q

-- Every machine that leaves the outputs as they were lent fails demand 2, however right its answers are.
module _ (m : Machine) (untouches : (s : m.State) (c : Call) → (m.step s c).buffer ≡ lent c) (demand : Demand2 m) where
  untouched-bytes : (out : List ℕ) → length out ≡ 16
      → take 16 out ≡ seal (params_of Schwaemm128_128) zeros16 zeros16 [] []
  untouched-bytes out q =
      let s = m.new Schwaemm128_128 in
      let a : (m.step s (begin zeros16)).line.outcome ≡ ok 0 =
      demand.answers Schwaemm128_128 [] (begin zeros16) (λ q. let z : ◌≡◌ {A = ℕ} 0 1 = cc in omega arith) ∙ begin_accepted
      in
      let b : (m.step (m.step s (begin zeros16)).state (Call.Final out)).line.outcome ≡ ok 16 =
      demand.answers Schwaemm128_128 (begin zeros16 ∷ []) (Call.Final out)
      (λ q. let z : ◌≡◌ {A = ℕ} 0 1 = cc in omega arith)
      ∙ end-accepted out q
      in
      let bytes : bytes_of m s (begin zeros16 ∷ (Call.Final out ∷ [])) ≡ take 16 out ++ [] =
      rw (a, b, untouches (m.step s (begin zeros16)).state (Call.Final out))
      in
      sym (append-nil (take 16 out)) ∙ sym bytes
      ∙ demand.seals Schwaemm128_128 zeros16 zeros16 [] 16 [] out (more 0 a (more 16 b none))

  pub untouched_fails_2 : ⊥
  untouched_fails_2 =
      let w : ◌≡◌ {A = List ℕ} zeros16 ones16 = untouched-bytes zeros16 refl ∙ sym (untouched-bytes ones16 refl) in
      let z : ◌≡◌ {A = ℕ} 0 1 = cc in omega arith

pub untouched_engine_fails_2 : Demand2 untouched → ⊥
untouched_engine_fails_2 demand = untouched_fails_2 untouched (λ s c. refl) demand

-- ---- One sealing the first data call and skipping later ones

abbrev byte : Call
byte = Call.Data (0 ∷ []) []

abbrev last : Call
last = Call.Final (replicate 18 0)

byte_accepted : answer_of Schwaemm128_128 (reader Schwaemm128_128 (begin zeros16 ∷ [])) byte ≡ ok 0
unfolding answer_of reader read_from read start_check data_check update_len ready
byte_accepted = refl

last_of_one : answer_of Schwaemm128_128 (reader Schwaemm128_128 (begin zeros16 ∷ (byte ∷ []))) last ≡ ok 17
unfolding answer_of reader read_from read start_check data_check update_len end_check total_len ready
last_of_one = refl

last_of_two : answer_of Schwaemm128_128 (reader Schwaemm128_128 (begin zeros16 ∷ (byte ∷ (byte ∷ [])))) last
    ≡ ok 18
unfolding answer_of reader read_from read start_check data_check update_len end_check total_len ready
last_of_two = refl

-- Every machine on which a data call after an accepted one leaves no trace fails demand 2.
module _ (m : Machine)
    (skips : (s : m.State) (input out input' out' : List ℕ) (n : ℕ)
    → (m.step s (Call.Data input out)).line.outcome ≡ ok n
    → (m.step (m.step s (Call.Data input out)).state (Call.Data input' out')).state
    ≡ (m.step s (Call.Data input out)).state)
    (demand : Demand2 m)
  where
    pub skipping_fails_2 : ⊥
    skipping_fails_2 =
        let s = (m.step (m.new Schwaemm128_128) (begin zeros16)).state in
        let a : (m.step s byte).line.outcome ≡ ok 0 =
        demand.answers Schwaemm128_128 (begin zeros16 ∷ []) byte (λ q. let z : ◌≡◌ {A = ℕ} 0 1 = cc in omega arith)
        ∙ byte_accepted
        in
        let b : (m.step (m.step s byte).state last).line.outcome ≡ ok 17 =
        demand.answers Schwaemm128_128 (begin zeros16 ∷ (byte ∷ [])) last
        (λ q. let z : ◌≡◌ {A = ℕ} 0 1 = cc in omega arith)
        ∙ last_of_one
        in
        let c : (m.step (m.step (m.step s byte).state byte).state last).line.outcome ≡ ok 18 =
        demand.answers Schwaemm128_128 (begin zeros16 ∷ (byte ∷ (byte ∷ []))) last
        (λ q. let z : ◌≡◌ {A = ℕ} 0 1 = cc in omega arith)
        ∙ last_of_two
        in
        let d : (m.step (m.step s byte).state byte).state ≡ (m.step s byte).state = skips s (0 ∷ []) [] (0 ∷ []) [] 0 a in
        let e : ◌≡◌ {A = ℕ} 17 18 = cc in
        omega arith

skipping_skips : (b : Bool) (e : SparkleEngine) (input out input' out' : List ℕ) (n : ℕ)
    → (skip_step b e (Call.Data input out)).line.outcome ≡ ok n
    → (skipping.step (skip_step b e (Call.Data input out)).state (Call.Data input' out')).state
    ≡ (skip_step b e (Call.Data input out)).state
unfolding line
skipping_skips true e input out input' out' n q = refl
skipping_skips false e input out input' out' n q = rw (ap accepted q)

pub skipping_engine_fails_2 : Demand2 skipping → ⊥
skipping_engine_fails_2 demand =
    skipping_fails_2 skipping (λ s input out input' out' n q. skipping_skips s.flag s.engine input out input' out' n q)
    demand

-- ---- One inventing steps

-- a mac call of a new engine leaves 0 steps, a start without header 10
tag-steps : counts Schwaemm128_128 new_reader 0 (Call.Mac ∷ []) ≡ 0 ∷ []
unfolding counts steps_before read
tag-steps = refl

begin_steps_lem : counts Schwaemm128_128 new_reader 0 (begin zeros16 ∷ []) ≡ 10 ∷ []
unfolding counts steps_before read start_check leading ready
begin_steps_lem = refl

pub inventing_fails_2 : (k : ℕ) → Demand2 (inventing k) → ⊥
inventing_fails_2 k demand =
    let w = demand.counted Schwaemm128_128 (Call.Mac ∷ []) ∙ tag-steps in
    let z : steps_now (step (new_engine Schwaemm128_128) Call.Mac).engine + suc k ≡ 0 = cc in
    omega arith

-- Every machine with the same count on each line fails too.
pub constant_steps_fail_2 : (m : Machine) (n : ℕ) → ((s : m.State) (c : Call) → (m.step s c).line.steps ≡ n)
    → Demand2 m → ⊥
constant_steps_fail_2 m n constant demand =
    let s = m.new Schwaemm128_128 in
    let a = demand.counted Schwaemm128_128 (Call.Mac ∷ []) ∙ tag-steps in
    let b = demand.counted Schwaemm128_128 (begin zeros16 ∷ []) ∙ begin_steps_lem in
    let x : (m.step s Call.Mac).line.steps ≡ 0 = cc in
    let y : (m.step s (begin zeros16)).line.steps ≡ 10 = cc in
    omega (arith, constant s Call.Mac, constant s (begin zeros16))

-- ---- One saying AlreadyFinalized outside Final

pub finalizing_fails_2 : Demand2 finalizing → ⊥
finalizing_fails_2 demand =
    let a : no (10 ∷ []) ≡ ok 0 =
    demand.answers Schwaemm128_128 (begin zeros16 ∷ []) byte (λ q. let z : ◌≡◌ {A = ℕ} 0 1 = cc in omega arith)
    ∙ byte_accepted
    in
    let z : ◌≡◌ {A = ℕ} 0 1 = cc in omega arith

-- Document 01's tables give 10 in Final and nowhere else.
record NotTen (k : Result ℕ AeadError) : Type 0 where
  never : (values : List ℕ) → outcome k ≡ no (10 ∷ values) → ⊥

ok-not : (n : ℕ) → NotTen (Ok n)
ok-not n = record { never = λ values q. let z : ◌≡◌ {A = ℕ} 0 1 = cc in omega arith }

cond-not : (b : Bool) {x y : Result ℕ AeadError} → NotTen x → NotTen y → NotTen (cond b x y)
cond-not true x y = x
cond-not false x y = y

then-not : (x : Result ℕ AeadError) (f : ℕ → Result ℕ AeadError) → NotTen x → ((n : ℕ) → NotTen (f n)) → NotTen (then x f)
then-not (Ok n) f x y = y n
then-not (Err e) f x y = x

within_not : (sum n : ℕ) → NotTen (within64 sum n)
within_not sum n =
    cond-not (ltb sum (2 ^ 64)) (ok-not n) (record { never = λ values q. let z : ◌≡◌ {A = ℕ} 7 10 = cc in omega arith })

update_not : (p : Params) (phase : Phase) (held n : ℕ) → NotTen (update_len p phase held n)
unfolding update_len
update_not p phase held n =
    within_not (held_data p phase held + n) (ready p.rate (keep p phase) (held_data p phase held + n) * p.rate)

total_not : (p : Params) (phase : Phase) (held n : ℕ) → NotTen (total_len p phase held n)
unfolding total_len
total_not p phase held n =
    cond-not (opening phase) (within_not (held_data p phase held + n) (held_data p phase held + n - p.key))
    (within_not (held_data p phase held + n + p.key) (held_data p phase held + n + p.key))

room-not : (available required : ℕ) → NotTen (room available required)
room-not available required =
    cond-not (ltb available required) (record { never = λ values q. let z : ◌≡◌ {A = ℕ} 4 10 = cc in omega arith }) (ok-not required)

whole-not : (p : Params) (phase : Phase) (held n : ℕ) → NotTen (whole p phase held n)
whole-not p phase held n =
    cond-not (opening phase)
    (cond-not (ltb (held_data p phase held) p.key) (record { never = λ values q. let z : ◌≡◌ {A = ℕ} 5 10 = cc in omega arith }) (ok-not n)) (ok-not n)

start-not : (k : Result (Unit {0}) AeadInitError) (values : List ℕ) → start_outcome k ≡ no (10 ∷ values) → ⊥
start-not (Ok _) values q = let z : ◌≡◌ {A = ℕ} 0 1 = cc in omega arith
start-not (Err (InvalidKeyLength n)) values q = let z : ◌≡◌ {A = ℕ} 1 10 = cc in omega arith
start-not (Err (InvalidNonceLength n)) values q = let z : ◌≡◌ {A = ℕ} 2 10 = cc in omega arith
start-not (Err (InvalidMacSize n)) values q = let z : ◌≡◌ {A = ℕ} 3 10 = cc in omega arith
start-not (Err NonceReuse) values q = let z : ◌≡◌ {A = ℕ} 11 10 = cc in omega arith

end-not : (k : Result ℕ AeadError) (opens tag_right : Bool) (values : List ℕ) → NotTen k → end_outcome k opens tag_right ≡ no (10 ∷ values) → ⊥
end-not (Err x) opens tag_right values k q = k.never values q
end-not (Ok n) true true values k q = let z : ◌≡◌ {A = ℕ} 0 1 = cc in omega arith
end-not (Ok n) true false values k q = let z : ◌≡◌ {A = ℕ} 6 10 = cc in omega arith
end-not (Ok n) false tag_right values k q = let z : ◌≡◌ {A = ℕ} 0 1 = cc in omega arith

-- a header, a data call and an end, by the phase
header-ten : (phase : Phase) (n : ℕ) (values : List ℕ) → outcome (aad_check phase n) ≡ no (10 ∷ values)
    → (d : Direction) × (phase ≡ Final d)
unfolding aad_check
header-ten Uninitialized n values q =
    absurd ((cond-not (eqb n 0) (ok-not 0) (record { never = λ values q. let z : ◌≡◌ {A = ℕ} 8 10 = cc in omega arith })).never values q)
header-ten (Init d) n values q = absurd ((cond-not (eqb n 0) (ok-not 0) (ok-not 0)).never values q)
header-ten (Aad d) n values q = absurd ((cond-not (eqb n 0) (ok-not 0) (ok-not 0)).never values q)
header-ten (Data d) n values q =
    absurd ((cond-not (eqb n 0) (ok-not 0) (record { never = λ values q. let z : ◌≡◌ {A = ℕ} 9 10 = cc in omega arith })).never values q)
header-ten (Final d) n values q = (d, refl)

data-ten : (p : Params) (phase : Phase) (held n available : ℕ) (values : List ℕ)
    → outcome (data_check p phase held n available) ≡ no (10 ∷ values) → (d : Direction) × (phase ≡ Final d)
unfolding data_check
data-ten p Uninitialized held n available values q = absurd (let z : ◌≡◌ {A = ℕ} 8 10 = cc in omega arith)
data-ten p (Init d) held n available values q =
    absurd ((then-not (update_len p (Init d) held n) (room available) (update_not p (Init d) held n) (room-not available)).never values q)
data-ten p (Aad d) held n available values q =
    absurd ((then-not (update_len p (Aad d) held n) (room available) (update_not p (Aad d) held n) (room-not available)).never values q)
data-ten p (Data d) held n available values q =
    absurd ((then-not (update_len p (Data d) held n) (room available) (update_not p (Data d) held n) (room-not available)).never values q)
data-ten p (Final d) held n available values q = (d, refl)

past-not : (p : Params) (phase : Phase) (held available : ℕ)
    → NotTen (then (then (total_len p phase held 0) (room available)) (whole p phase held))
past-not p phase held available =
    then-not (then (total_len p phase held 0) (room available)) (whole p phase held)
    (then-not (total_len p phase held 0) (room available) (total_not p phase held 0) (room-not available))
    (whole-not p phase held)

end-ten : (p : Params) (phase : Phase) (held available : ℕ) (opens tag_right : Bool) (values : List ℕ)
    → end_outcome (end_check p phase held available) opens tag_right ≡ no (10 ∷ values) → (d : Direction) × (phase ≡ Final d)
unfolding end_check
end-ten p Uninitialized held available opens tag_right values q =
    absurd (let z : ◌≡◌ {A = ℕ} 8 10 = cc in omega arith)
end-ten p (Init d) held available opens tag_right values q =
    absurd (end-not _ opens tag_right values (past-not p (Init d) held available) q)
end-ten p (Aad d) held available opens tag_right values q =
    absurd (end-not _ opens tag_right values (past-not p (Aad d) held available) q)
end-ten p (Data d) held available opens tag_right values q =
    absurd (end-not _ opens tag_right values (past-not p (Data d) held available) q)
end-ten p (Final d) held available opens tag_right values q = (d, refl)

pub ten_only_in_final : (v : SparkleVariant) (r : Reader) (c : Call) (values : List ℕ) → answer_of v r c ≡ no (10 ∷ values)
    → (d : Direction) × (r.phase ≡ Final d)
unfolding answer_of
ten_only_in_final v r (Call.Init d key nonce size header) values q =
    absurd (start-not (start_check v d (length key) (length nonce) size (repeated r key nonce)) values q)
ten_only_in_final v r (Call.Aad input) values q = header-ten r.phase (length input) values q
ten_only_in_final v r (Call.Data input out) values q =
    let p = params_of v in
    data-ten p r.phase (reader_held p r) (length input) (length out) values q
ten_only_in_final v r (Call.Final out) values q =
    let p = params_of v in
    end-ten p r.phase (reader_held p r) (length out) (opening r.phase)
    (verified p (loaded_key r) (loaded_nonce r) r.header r.body) values q
ten_only_in_final v r Call.Reset values q = absurd ((ok-not 0).never values q)
ten_only_in_final v r Call.Mac values q = absurd ((ok-not 0).never values q)
ten_only_in_final v r (Call.Update n) values q =
    let p = params_of v in absurd ((update_not p r.phase (reader_held p r) n).never values q)
ten_only_in_final v r (Call.Output n) values q =
    let p = params_of v in absurd ((total_not p r.phase (reader_held p r) n).never values q)

-- Every machine that answers 10 where the reader is not in Final fails demand 2.
pub finalized_outside_fails_2 : (m : Machine) (v : SparkleVariant) (before : List Call) (c : Call) (values : List ℕ)
    → (c ≡ Call.Mac → ⊥) → ((d : Direction) → (reader v before).phase ≡ Final d → ⊥)
    → (m.step (after m (m.new v) before) c).line.outcome ≡ no (10 ∷ values) → Demand2 m → ⊥
finalized_outside_fails_2 m v before c values other outside says demand =
    let t = ten_only_in_final v (reader v before) c values (sym (demand.answers v before c other) ∙ says) in
    outside t.0 t.1
