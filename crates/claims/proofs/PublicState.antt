-- What of an engine the shapes of its calls and their verdicts decide: phases, counts, steps and whether a tag can be
-- read, and no content. For every engine value the next public state and the line are functions of the public state, the
-- call's shape and the verdict, and the verdict is a function of the public state, the shape and the outcome.
use mathlib.Core.Path.{◌≡◌, refl, sym, ap, ◌∙◌}
use mathlib.Core.Bool.{Bool, true, false, cond}
use mathlib.Core.List.{List, [], ◌∷◌}
use Prim.Native.Nat.{ℕ, zero, suc, ◌+◌, ◌-◌, ◌*◌, ◌%◌, ◌^◌, min}
use native.Mathlib.Omega.{arith}
use lib.ListN.{length, length-take, length-drop, length-append, length-replicate}
use lib.Dec.{eqb, ltb}
use Rattle.std.specs.Prelude.{Result, Ok, Err}
use Rattle.schwaemm.specs.Blocks.{ready, held}
use Rattle.schwaemm.specs.Schwaemm.{Params}
use Rattle.tc_aead_cipher.specs.declared.variant.SparkleVariant.{SparkleVariant}
use Rattle.tc_aead_cipher.specs.declared.phase.Direction.{Direction}
use Rattle.tc_aead_cipher.specs.declared.phase.Direction.TheVariants.{Encrypt, Decrypt}
use Rattle.tc_aead_cipher.specs.declared.phase.Phase.{Phase}
use Rattle.tc_aead_cipher.specs.declared.phase.Phase.TheVariants.{Uninitialized, Init, Aad, Data, Final}
use Rattle.tc_aead_cipher.specs.declared.aead_error.AeadError.{AeadError}
use Rattle.tc_aead_cipher.specs.declared.aead_init_error.AeadInitError.{AeadInitError}
use Rattle.tc_aead_cipher.specs.declared.aead_init_error.AeadInitError.TheVariants.{InvalidKeyLength, InvalidNonceLength, InvalidMacSize, NonceReuse}
use Rattle.tc_sparkle_aead.specs.declared.message.Point.{Point}
use Rattle.tc_sparkle_aead.specs.declared.engine.Steps.{Steps}
use Rattle.tc_sparkle_aead.specs.declared.engine.SparkleEngine.{SparkleEngine}
use Rattle.tc_aead_cipher.specs.Variant.{params_of}
use Rattle.tc_aead_cipher.specs.Checks.{opening, keep, update_len, total_len, aad_check, data_check, end_check, start_check}
use Rattle.tc_sparkle_aead.specs.Message.{zeros, in_array, no_message, no_mac, buffered_count, buffered, stream, block_count, streamed, start_point, absorb_header, header_steps, last_steps, final_point, after_header, without_header, readable, reset_point, open_block}
use Rattle.tc_sparkle_aead.specs.Engine.{init_steps, refused_steps, reset_steps, repeats, update_output_len, output_len}
use Rattle.tc_sparkle_aead.specs.Calls.{add_steps, at_point, aad_in, begin_by, begin_data, data_in, final_engine}
use Rattle.tc_sparkle_aead.specs.Calls.{refused, started, init, init_by, aad_by, process_aad_bytes, data_by, data_answer, final_answer, process_bytes, seal_final, open_final_by, open_final, final_by, do_final, mac_of, steps_now}
use Rattle.tc_sparkle_aead.specs.Calls.{reset as resetEngine}
use Rattle.tc_aead_cipher.proofs.CheckLaws.{StartCase, start_check_case}
use Rattle.tc_aead_cipher.proofs.CheckLaws.StartCase.{refused-before, opens_always, seals_by_pair}
use Rattle.tc_aead_cipher.specs.Call.{Call}
use Rattle.claims.specs.Shape.{Shape, shape}
use Rattle.tc_aead_cipher.specs.Outcome.{Outcome, outcome, start_outcome}
use Rattle.tc_sparkle_aead.specs.Sheet.{step, Line, line}
use Rattle.tc_aead_cipher.specs.Outcome.Outcome.{ok, no}
use Rattle.claims.specs.Reader.{Verdict, verdict_of, start_verdict, refused_verdict}
use Rattle.claims.specs.Reader.Verdict.{Yes, No, None}
use Rattle.claims.specs.Messages.{open_outcome, end_outcome}
use Rattle.claims.proofs.EngineEnd.{ciphertext, tag_right}

-- ---- The public state

-- Of a point of a message: the phase, the count of held bytes, and the size of the array that holds them.
pub record Outside : Type 0 where
  pub phase : Phase
  pub held : ℕ
  pub size : ℕ

abbrev pub outside : Point → Outside
outside at = record { phase = at.phase; held = at.held; size = length at.buffer }

pub record Public : Type 0 where
  pub variant : SparkleVariant
  pub current : Outside
  pub initial : Outside
  pub steps : Steps
  pub readable : Bool

abbrev pub public_of : SparkleEngine → Public
public_of e =
    record {
      variant = e.variant;
      current = outside e.current;
      initial = outside e.initial;
      steps = e.steps;
      readable = e.mac.readable;
    }

-- ---- The verdict as the engine decides it

-- A start: whether the pair repeats, where it seals and its sizes are right.
abbrev pub start_note : Result (Unit {0}) AeadInitError → Direction → Bool → Verdict
start_note (Err x) d repeats = refused_verdict x d repeats
start_note (Ok _) d repeats = start_verdict d repeats

-- An end: whether the tag is right, where it opens and its checks have passed.
abbrev pub end_note : Result ℕ AeadError → Bool → Bool → Verdict
end_note (Err x) opens tag_right = None
end_note (Ok n) opens tag_right = cond opens (verdict_of tag_right) None

unfoldable pub asked : SparkleEngine → Call → Verdict
asked e (Call.Init d key nonce size header) =
    let p = params_of e.variant in
    start_note (start_check e.variant d (length key) (length nonce) size (repeats p e.pair key nonce)) d (repeats p e.pair key nonce)
asked e (Call.Aad input) = None
asked e (Call.Data input out) = None
asked e (Call.Final out) =
    end_note (end_check (params_of e.variant) e.current.phase e.current.held (length out))
    (opening e.current.phase) (tag_right (begin_data e))
asked e Call.Reset = None
asked e Call.Mac = None
asked e (Call.Update n) = None
asked e (Call.Output n) = None

-- ---- Points

-- how many bytes a point holds
abbrev pub public_held : Params → Outside → ℕ
public_held p q = min (buffered_count p q.phase q.held) q.size

-- the point after a stream of n more bytes
abbrev pub flowed : Params → ℕ → Phase → Outside → ℕ → Outside
flowed p keep phase q n =
    record {
      phase = phase;
      held = public_held p q + n - ready p.rate keep (public_held p q + n) * p.rate;
      size = 64;
    }

length-buffered : (p : Params) (at : Point) → length (buffered p at) ≡ public_held p (outside at)
unfolding buffered
length-buffered p at = length-take _ _

length-stream : (p : Params) (at : Point) (input : List ℕ)
    → length (stream p at input) ≡ public_held p (outside at) + length input
unfolding stream
length-stream p at input = rw (length-append, length-buffered)

pub length-in_array : (n : ℕ) (l : List ℕ) → length (in_array n l) ≡ n
unfolding in_array zeros
length-in_array n l = rw (length-take, length-append, length-replicate) (omega arith)

block_count_flowed : (p : Params) (keep : ℕ) (at : Point) (input : List ℕ)
    → block_count p keep at input ≡ ready p.rate keep (public_held p (outside at) + length input)
unfolding block_count
block_count_flowed p keep at input = rw length-stream

streamed_flowed : (p : Params) (keep : ℕ) (s : List ℕ → List ℕ → List ℕ) (phase : Phase) (at : Point) (input : List ℕ)
    → outside (streamed p keep s phase at input) ≡ flowed p keep phase (outside at) (length input)
unfolding streamed held
streamed_flowed p keep s phase at input =
    let h : length (held p.rate keep (stream p at input)) ≡ (flowed p keep phase (outside at) (length input)).held =
    rw (length-drop, length-stream) refl
    in
    λ i. record { phase = phase; held = h i; size = length-in_array 64 (held p.rate keep (stream p at input)) i }

-- the public state at another point, after n more steps
abbrev pub moved : Public → Outside → ℕ → Public
moved u q n =
    record { variant = u.variant; current = q; initial = u.initial; steps = add_steps n u.steps; readable = u.readable }

moved_public : (e : SparkleEngine) (at : Point) (q : Outside) (n m : ℕ) → outside at ≡ q → n ≡ m
    → public_of (at_point e at n) ≡ moved (public_of e) q m
unfolding at_point
moved_public e at q n m h k = rw (k, ← h)

-- ---- What the public state becomes

abbrev pub yes : Verdict → Bool
yes Yes = true
yes No = false
yes None = false

-- init
abbrev pub wiped_next : Public → Public
wiped_next u =
    record { variant = u.variant; current = outside no_message; initial = outside no_message; steps = refused_steps u.steps; readable = false }

abbrev pub start_outside : Direction → Outside
start_outside d = record { phase = Init d; held = 0; size = 64 }

abbrev pub absorb_next : Params → Direction → Outside → ℕ → Outside
absorb_next p d q zero = q
absorb_next p d q (suc n) = flowed p 0 (Aad d) q (suc n)

abbrev pub absorb_steps : Params → Outside → ℕ → ℕ
absorb_steps p q n = ready p.rate 0 (public_held p q + n) * p.slim

abbrev pub start_next : Result (Unit {0}) AeadInitError → Public → Direction → ℕ → Public
start_next (Err x) u d n = wiped_next u
start_next (Ok _) u d n =
    let p = params_of u.variant in
    record {
      variant = u.variant;
      current = absorb_next p d (start_outside d) n;
      initial = absorb_next p d (start_outside d) n;
      steps = init_steps u.steps ((p.big + absorb_steps p (start_outside d) n) % 2 ^ 64);
      readable = false;
    }

-- process_aad_bytes
abbrev pub header_in : Phase → Public → ℕ → Public
header_in Uninitialized u n = u
header_in (Init d) u n =
    let p = params_of u.variant in moved u (absorb_next p d u.current n) (absorb_steps p u.current n)
header_in (Aad d) u n =
    let p = params_of u.variant in moved u (absorb_next p d u.current n) (absorb_steps p u.current n)
header_in (Data d) u n = u
header_in (Final d) u n = u

abbrev pub header_next : Result ℕ AeadError → Public → ℕ → Public
header_next (Err x) u n = u
header_next (Ok k) u zero = u
header_next (Ok k) u (suc n) = header_in u.current.phase u (suc n)

abbrev pub header_shows : Result ℕ AeadError → Outcome
header_shows (Err x) = outcome (Err x)
header_shows (Ok k) = ok 0

-- process_bytes
abbrev pub begin_next : Phase → Public → Public
begin_next Uninitialized u = u
begin_next (Init d) u = moved u (record { phase = Data d; held = 0; size = 64 }) 0
begin_next (Aad d) u = moved u (record { phase = Data d; held = 0; size = 64 }) (params_of u.variant).big
begin_next (Data d) u = u
begin_next (Final d) u = u

abbrev pub data_intake : Public → ℕ → Public
data_intake u n =
    let p = params_of u.variant in
    let k = keep p u.current.phase in
    moved u (flowed p k u.current.phase u.current n) (ready p.rate k (public_held p u.current + n) * p.slim)

abbrev pub data_next : Result ℕ AeadError → Public → ℕ → Public
data_next (Err x) u n = u
data_next (Ok k) u n = data_intake (begin_next u.current.phase u) n

-- do_final
abbrev pub final_next : Public → Direction → Bool → ℕ → Public
final_next u d readable n =
    record {
      variant = u.variant;
      current = outside (final_point d);
      initial = u.initial;
      steps = add_steps (cond (ltb 0 n) (params_of u.variant).big 0) u.steps;
      readable = readable;
    }

abbrev pub end_in : Bool → Public → Bool → Public
end_in false u tag_right = final_next u Encrypt true (public_held (params_of u.variant) u.current)
end_in true u tag_right =
    let p = params_of u.variant in
    final_next u Decrypt tag_right (min (public_held p u.current - p.key) (public_held p u.current))

abbrev pub end_next : Result ℕ AeadError → Public → Bool → Public
end_next (Err x) u tag_right = u
end_next (Ok n) u tag_right = end_in (opening u.current.phase) (begin_next u.current.phase u) tag_right

-- reset
abbrev pub reset_outside : Phase → Outside → Outside
reset_outside Uninitialized initial = outside no_message
reset_outside (Init d) initial = initial
reset_outside (Aad d) initial = initial
reset_outside (Data Encrypt) initial = outside (final_point Encrypt)
reset_outside (Data Decrypt) initial = initial
reset_outside (Final Encrypt) initial = outside (final_point Encrypt)
reset_outside (Final Decrypt) initial = initial

-- The public state after a call, from the public state, the shape and the verdict.
abbrev pub next : Public → Shape → Verdict → Public
next u (Shape.Init d key nonce size header) w =
    start_next (start_check u.variant d key nonce size (yes w)) u d header
next u (Shape.Aad n) w = header_next (aad_check u.current.phase n) u n
next u (Shape.Data n out) w =
    data_next (data_check (params_of u.variant) u.current.phase u.current.held n out) u n
next u (Shape.Final out) w =
    end_next (end_check (params_of u.variant) u.current.phase u.current.held out) u (yes w)
next u Shape.Reset w =
    record {
      variant = u.variant;
      current = reset_outside u.current.phase u.initial;
      initial = u.initial;
      steps = reset_steps u.steps;
      readable = false;
    }
next u Shape.Mac w = u
next u (Shape.Update n) w = u
next u (Shape.Output n) w = u

-- The outcome of a call.
abbrev pub shows : Public → Shape → Verdict → Outcome
shows u (Shape.Init d key nonce size header) w =
    start_outcome (start_check u.variant d key nonce size (yes w))
shows u (Shape.Aad n) w = header_shows (aad_check u.current.phase n)
shows u (Shape.Data n out) w =
    outcome (data_check (params_of u.variant) u.current.phase u.current.held n out)
shows u (Shape.Final out) w =
    end_outcome (end_check (params_of u.variant) u.current.phase u.current.held out) (opening u.current.phase) (yes w)
shows u Shape.Reset w = ok 0
shows u Shape.Mac w = ok (cond u.readable (params_of u.variant).key 0)
shows u (Shape.Update n) w = outcome (update_len (params_of u.variant) u.current.phase u.current.held n)
shows u (Shape.Output n) w = outcome (total_len (params_of u.variant) u.current.phase u.current.held n)

-- The verdict, read off an outcome.
abbrev pub is_reuse : Outcome → Bool
is_reuse (ok n) = false
is_reuse (no []) = false
is_reuse (no (n ∷ values)) = eqb n 11

abbrev pub is_ok : Outcome → Bool
is_ok (ok n) = true
is_ok (no r) = false

abbrev pub judged : Public → Shape → Outcome → Verdict
judged u (Shape.Init d key nonce size header) o =
    start_note (start_check u.variant d key nonce size (is_reuse o)) d (is_reuse o)
judged u (Shape.Aad n) o = None
judged u (Shape.Data n out) o = None
judged u (Shape.Final out) o =
    end_note (end_check (params_of u.variant) u.current.phase u.current.held out) (opening u.current.phase) (is_ok o)
judged u Shape.Reset o = None
judged u Shape.Mac o = None
judged u (Shape.Update n) o = None
judged u (Shape.Output n) o = None

-- ---- The engine's calls on the public state

-- only 11 notes what the pair is
unnoted : (x : AeadInitError) (d : Direction) (b : Bool) → (x ≡ NonceReuse → ⊥) → refused_verdict x d b ≡ None
unnoted (InvalidKeyLength n) d b other = refl
unnoted (InvalidNonceLength n) d b other = refl
unnoted (InvalidMacSize n) d b other = refl
unnoted NonceReuse d b other = absurd (other refl)

-- a sealing past the other checks tells by its verdict, and by its outcome, whether its pair repeats
yes_by_verdict : (b : Bool) → yes (start_note (cond b (Err NonceReuse) (Ok tt)) Encrypt b) ≡ b
yes_by_verdict true = refl
yes_by_verdict false = refl

yes_by_outcome : (b : Bool) → is_reuse (start_outcome (cond b (Err NonceReuse) (Ok tt))) ≡ b
yes_by_outcome true = refl
yes_by_outcome false = refl

-- a start's check needs of the pair only what its verdict tells, and its outcome tells the verdict
module _ (v : SparkleVariant) (key nonce size : ℕ) where
  abbrev check : Direction → Bool → Result (Unit {0}) AeadInitError
  check d b = start_check v d key nonce size b

  verdict-by : {d : Direction} → StartCase v key nonce size d → (b : Bool)
      → check d b ≡ check d (yes (start_note (check d b) d b))
  verdict-by (refused-before x other is) b = is b ∙ sym (is _)
  verdict-by (opens_always is) b = is b ∙ sym (is _)
  verdict-by (seals_by_pair is) b = ap (check Encrypt) (sym (rw (is b) (yes_by_verdict b)))

  judged_by : {d : Direction} → StartCase v key nonce size d → (b : Bool)
      → start_note (check d b) d b
      ≡ start_note (check d (is_reuse (start_outcome (check d b)))) d (is_reuse (start_outcome (check d b)))
  judged_by {d} (refused-before x other is) b = rw (is b, is, unnoted x d b other, unnoted x d _ other)
  judged_by (opens_always is) b = rw (is b, is)
  judged_by (seals_by_pair is) b =
      ap (λ (c : Bool). start_note (check Encrypt c) Encrypt c) (sym (rw (is b) (yes_by_outcome b)))

  pub start-verdict : (d : Direction) (b : Bool) → check d b ≡ check d (yes (start_note (check d b) d b))
  start-verdict d b = verdict-by (start_check_case v key nonce size d) b

  start_judged : (d : Direction) (b : Bool)
      → start_note (check d b) d b
      ≡ start_note (check d (is_reuse (start_outcome (check d b)))) d (is_reuse (start_outcome (check d b)))
  start_judged d b = judged_by (start_check_case v key nonce size d) b

-- an end's answer and the public state after it need of the tag only what the verdict tells
end-verdict : (k : Result ℕ AeadError) (u : Public) (tag_right : Bool)
    → end_next k u tag_right ≡ end_next k u (yes (end_note k (opening u.current.phase) tag_right))
end-verdict (Err x) u tag_right = refl
end-verdict (Ok n) u tag_right = by (opening u.current.phase) tag_right
  where
    by : (o tag_right : Bool) → end_in o (begin_next u.current.phase u) tag_right
        ≡ end_in o (begin_next u.current.phase u) (yes (cond o (verdict_of tag_right) None))
    by true true = refl
    by true false = refl
    by false tag_right = refl

end_verdict_shows : (k : Result ℕ AeadError) (o tag_right : Bool) → end_outcome k o tag_right ≡ end_outcome k o (yes (end_note k o tag_right))
end_verdict_shows (Err x) o tag_right = refl
end_verdict_shows (Ok n) true true = refl
end_verdict_shows (Ok n) true false = refl
end_verdict_shows (Ok n) false tag_right = refl

end_judged : (k : Result ℕ AeadError) (o tag_right : Bool) → end_note k o tag_right ≡ end_note k o (is_ok (end_outcome k o tag_right))
end_judged (Err x) o tag_right = refl
end_judged (Ok n) true true = refl
end_judged (Ok n) true false = refl
end_judged (Ok n) false tag_right = refl

-- The parts of the calls.
absorb_public : (p : Params) (d : Direction) (at : Point) (header : List ℕ)
    → outside (absorb_header p d at header) ≡ absorb_next p d (outside at) (length header)
unfolding absorb_header
absorb_public p d at [] = refl
absorb_public p d at (x ∷ header) = streamed_flowed p 0 _ (Aad d) at (x ∷ header)

header_steps_public : (p : Params) (at : Point) (header : List ℕ)
    → header_steps p at header ≡ absorb_steps p (outside at) (length header)
unfolding header_steps
header_steps_public p at header = rw (block_count_flowed p 0 at header)

start_point_public : (p : Params) (d : Direction) (key nonce : List ℕ) → outside (start_point p d key nonce) ≡ start_outside d
unfolding start_point zeros
start_point_public p d key nonce = refl

start_public : (k : Result (Unit {0}) AeadInitError) (e : SparkleEngine) (d : Direction) (key nonce header : List ℕ)
    → public_of (init_by k e d key nonce header).engine ≡ start_next k (public_of e) d (length header)
unfolding started refused no_mac
start_public (Err x) e d key nonce header = refl
start_public (Ok _) e d key nonce header =
    let p = params_of e.variant in
    let at : outside (absorb_header p d (start_point p d key nonce) header) ≡ absorb_next p d (start_outside d) (length header) =
    absorb_public p d (start_point p d key nonce) header
    ∙ ap (λ (q : Outside). absorb_next p d q (length header)) (start_point_public p d key nonce)
    in
    let n : header_steps p (start_point p d key nonce) header ≡ absorb_steps p (start_outside d) (length header) =
    header_steps_public p (start_point p d key nonce) header
    ∙ ap (λ (q : Outside). absorb_steps p q (length header)) (start_point_public p d key nonce)
    in
    λ i.
    record {
      variant = e.variant;
      current = at i;
      initial = at i;
      steps = init_steps e.steps ((p.big + n i) % 2 ^ 64);
      readable = false;
    }

aad_in_public : (phase : Phase) (e : SparkleEngine) (input : List ℕ)
    → public_of (aad_in phase e input) ≡ header_in phase (public_of e) (length input)
aad_in_public Uninitialized e input = refl
aad_in_public (Init d) e input =
    moved_public e _ _ _ _ (absorb_public (params_of e.variant) d e.current input)
    (header_steps_public (params_of e.variant) e.current input)
aad_in_public (Aad d) e input =
    moved_public e _ _ _ _ (absorb_public (params_of e.variant) d e.current input)
    (header_steps_public (params_of e.variant) e.current input)
aad_in_public (Data d) e input = refl
aad_in_public (Final d) e input = refl

header_public : (k : Result ℕ AeadError) (e : SparkleEngine) (input : List ℕ)
    → public_of (aad_by k e input).engine ≡ header_next k (public_of e) (length input)
header_public (Err x) e input = refl
header_public (Ok n) e [] = refl
header_public (Ok n) e (x ∷ input) = aad_in_public e.current.phase e (x ∷ input)

header_shows_lem : (k : Result ℕ AeadError) (e : SparkleEngine) (input : List ℕ) → outcome (aad_by k e input).answer ≡ header_shows k
header_shows_lem (Err x) e input = refl
header_shows_lem (Ok n) e [] = refl
header_shows_lem (Ok n) e (x ∷ input) = refl

begin_public : (phase : Phase) (e : SparkleEngine) → public_of (begin_by phase e) ≡ begin_next phase (public_of e)
unfolding zeros without_header after_header
begin_public Uninitialized e = refl
begin_public (Init d) e = moved_public e _ _ _ _ refl refl
begin_public (Aad d) e = moved_public e _ _ _ _ refl refl
begin_public (Data d) e = refl
begin_public (Final d) e = refl

begin_data_public : (e : SparkleEngine) → public_of (begin_data e) ≡ begin_next e.current.phase (public_of e)
unfolding begin_data
begin_data_public e = begin_public e.current.phase e

data_in_public : (e : SparkleEngine) (input : List ℕ) → public_of (data_in e input) ≡ data_intake (public_of e) (length input)
unfolding data_in
data_in_public e input =
    let p = params_of e.variant in
    let k = keep p e.current.phase in
    moved_public e _ _ _ _ (streamed_flowed p k _ e.current.phase e.current input)
    (ap (λ (n : ℕ). n * p.slim) (block_count_flowed p k e.current input))

data_public : (k : Result ℕ AeadError) (e : SparkleEngine) (input : List ℕ)
    → public_of (data_by k e input).engine ≡ data_next k (public_of e) (length input)
data_public (Err x) e input = refl
data_public (Ok n) e input =
    data_in_public (begin_data e) input ∙ ap (λ (u : Public). data_intake u (length input)) (begin_data_public e)

data_shows : (k : Result ℕ AeadError) (e : SparkleEngine) (input : List ℕ) → outcome (data_by k e input).answer ≡ outcome k
data_shows (Err x) e input = refl
data_shows (Ok n) e input = refl

length-open_block : (e : SparkleEngine)
    → length (ciphertext e)
    ≡ min (public_held (params_of e.variant) (outside e.current) - (params_of e.variant).key)
    (public_held (params_of e.variant) (outside e.current))
unfolding open_block
length-open_block e = rw (length-take, length-buffered)

open_final_public : (b : Bool) (e : SparkleEngine) (n : ℕ)
    → public_of (open_final_by b e n).engine ≡ end_in true (public_of e) b
unfolding final_engine last_steps readable no_mac
open_final_public true e n = rw (length-open_block e)
open_final_public false e n = rw (length-open_block e)

end_in_public : (o : Bool) (e : SparkleEngine) (n : ℕ)
    → public_of (cond o (open_final e n) (seal_final e n)).engine ≡ end_in o (public_of e) (tag_right e)
unfolding open_final seal_final final_engine last_steps readable
end_in_public true e n = open_final_public (tag_right e) e n
end_in_public false e n = rw (length-buffered (params_of e.variant) e.current)

end_public : (k : Result ℕ AeadError) (e : SparkleEngine)
    → public_of (final_by k e).engine ≡ end_next k (public_of e) (tag_right (begin_data e))
end_public (Err x) e = refl
end_public (Ok n) e =
    end_in_public (opening e.current.phase) (begin_data e) n
    ∙ ap (λ (u : Public). end_in (opening e.current.phase) u (tag_right (begin_data e))) (begin_data_public e)

open_final_shows : (b : Bool) (e : SparkleEngine) (n : ℕ) → outcome (open_final_by b e n).answer ≡ open_outcome b n
open_final_shows true e n = refl
open_final_shows false e n = refl

end_in_shows : (o : Bool) (e : SparkleEngine) (n : ℕ)
    → outcome (cond o (open_final e n) (seal_final e n)).answer ≡ end_outcome (Ok n) o (tag_right e)
unfolding open_final seal_final
end_in_shows true e n = open_final_shows (tag_right e) e n
end_in_shows false e n = refl

end_shows : (k : Result ℕ AeadError) (e : SparkleEngine)
    → outcome (final_by k e).answer ≡ end_outcome k (opening e.current.phase) (tag_right (begin_data e))
end_shows (Err x) e = refl
end_shows (Ok n) e = end_in_shows (opening e.current.phase) (begin_data e) n

reset_point_public : (phase : Phase) (at : Point) → outside (reset_point phase at) ≡ reset_outside phase (outside at)
reset_point_public Uninitialized at = refl
reset_point_public (Init d) at = refl
reset_point_public (Aad d) at = refl
reset_point_public (Data Encrypt) at = refl
reset_point_public (Data Decrypt) at = refl
reset_point_public (Final Encrypt) at = refl
reset_point_public (Final Decrypt) at = refl

reset_public : (e : SparkleEngine) → public_of (resetEngine e) ≡ next (public_of e) Shape.Reset None
unfolding resetEngine no_mac
reset_public e = rw (reset_point_public e.current.phase e.initial)

start_shows : (k : Result (Unit {0}) AeadInitError) (e : SparkleEngine) (d : Direction) (key nonce header : List ℕ)
    → start_outcome (init_by k e d key nonce header).answer ≡ start_outcome k
start_shows (Err x) e d key nonce header = refl
start_shows (Ok _) e d key nonce header = refl

mac_readable : (e : SparkleEngine) → (mac_of e).readable ≡ e.mac.readable
unfolding mac_of no_mac
mac_readable e = go e.mac.readable refl
  where
    go : (b : Bool) → e.mac.readable ≡ b → (cond b e.mac no_mac).readable ≡ b
    go true q = q
    go false q = refl

-- ---- The three functions tell what the engine does

pub next_is : (e : SparkleEngine) (c : Call) → public_of (step e c).engine ≡ next (public_of e) (shape c) (asked e c)
unfolding step asked init process_aad_bytes process_bytes do_final
next_is e (Call.Init d key nonce size header) =
    let p = params_of e.variant in
    let b = repeats p e.pair key nonce in
    start_public (start_check e.variant d (length key) (length nonce) size b) e d key nonce header
    ∙ ap (λ (k : Result (Unit {0}) AeadInitError). start_next k (public_of e) d (length header))
    (start-verdict e.variant (length key) (length nonce) size d b)
next_is e (Call.Aad input) = header_public (aad_check e.current.phase (length input)) e input
next_is e (Call.Data input out) = data_public (data_answer e (length input) (length out)) e input
next_is e (Call.Final out) =
    end_public (final_answer e (length out)) e
    ∙ end-verdict (final_answer e (length out)) (public_of e) (tag_right (begin_data e))
next_is e Call.Reset = reset_public e
next_is e Call.Mac = refl
next_is e (Call.Update n) = refl
next_is e (Call.Output n) = refl

pub shows_is : (e : SparkleEngine) (c : Call) → (step e c).outcome ≡ shows (public_of e) (shape c) (asked e c)
unfolding step asked init process_aad_bytes process_bytes do_final update_output_len output_len
shows_is e (Call.Init d key nonce size header) =
    let p = params_of e.variant in
    let b = repeats p e.pair key nonce in
    start_shows (start_check e.variant d (length key) (length nonce) size b) e d key nonce header
    ∙ ap start_outcome (start-verdict e.variant (length key) (length nonce) size d b)
shows_is e (Call.Aad input) = header_shows_lem (aad_check e.current.phase (length input)) e input
shows_is e (Call.Data input out) = data_shows (data_answer e (length input) (length out)) e input
shows_is e (Call.Final out) =
    end_shows (final_answer e (length out)) e
    ∙ end_verdict_shows (final_answer e (length out)) (opening e.current.phase) (tag_right (begin_data e))
shows_is e Call.Reset = refl
shows_is e Call.Mac = rw (mac_readable e)
shows_is e (Call.Update n) = refl
shows_is e (Call.Output n) = refl

pub judged_is : (e : SparkleEngine) (c : Call) → asked e c ≡ judged (public_of e) (shape c) (step e c).outcome
unfolding step asked init do_final
judged_is e (Call.Init d key nonce size header) =
    let p = params_of e.variant in
    let b = repeats p e.pair key nonce in
    rw (start_shows (start_check e.variant d (length key) (length nonce) size b) e d key nonce header)
    (start_judged e.variant (length key) (length nonce) size d b)
judged_is e (Call.Aad input) = refl
judged_is e (Call.Data input out) = refl
judged_is e (Call.Final out) =
    rw (end_shows (final_answer e (length out)) e)
    (end_judged (final_answer e (length out)) (opening e.current.phase) (tag_right (begin_data e)))
judged_is e Call.Reset = refl
judged_is e Call.Mac = refl
judged_is e (Call.Update n) = refl
judged_is e (Call.Output n) = refl

-- The line of a call, from the public state, the shape and the verdict.
abbrev pub line_by : Public → Shape → Verdict → Line
line_by u s w = record { outcome = shows u s w; steps = (next u s w).steps.current; readable = (next u s w).readable }

pub line-is : (e : SparkleEngine) (c : Call) → line (step e c) ≡ line_by (public_of e) (shape c) (asked e c)
unfolding line steps_now
line-is e c = rw (mac_readable (step e c).engine, shows_is e c, ← next_is e c)
