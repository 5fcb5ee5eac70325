-- The run of a list, call by call: what is still to come, behind what was answered, is what was to come at first.
use mathlib.Core.Path.{◌≡◌, refl, sym, ap, ap₂, ◌∙◌}
use mathlib.Core.Bool.{Bool, true, false, cond}
use mathlib.Core.List.{List, [], ◌∷◌, ◌++◌, append_assoc, append-nil}
use Prim.Native.Nat.{ℕ, zero, suc, ◌+◌, ◌-◌, ◌≤◌, ◌<◌}
use native.Mathlib.Omega.{arith}
use borrow.Author.Tests.{lt-ltb, le-ltb, ltb-false, leb-true}
use borrow.Rule.Slice.PartMut.{put_mid}
use lib.ListN.{length, take, drop, get_or, length-take, length-drop, length-append, take-append-drop}
use lib.Dec.{leb, ltb}
use lib.Seq.{take_at, drop_at, drop-drop, length-take-le}
use Rattle.std.specs.Prelude.{None, Some}
use Rattle.std.specs.List.{slice_get}
use Rattle.std.proofs.lemmas.Option.{none-some, cond_some}
use Rattle.tc_aead_cipher.specs.declared.call.CallKind.{CallKind}
use Rattle.tc_aead_cipher.specs.declared.variant.SparkleVariant.{SparkleVariant}
use Rattle.tc_sparkle_aead.specs.declared.engine.SparkleEngine.{SparkleEngine}
use Rattle.tc_sparkle_aead.specs.Engine.{new_engine}
use Rattle.tc_sparkle_aead.specs.Message.{written}
use Rattle.tc_aead_cipher.specs.Call.{Call, call_of}
use Rattle.tc_sparkle_aead.specs.Sheet.{step}
use Rattle.host.specs.CallList.{Head, head_of, call_length, well_formed, read_of, IsRead, third_run, call_in, shown_by, shown_length, answer_of, Ran, stopped, answered, run_calls, calls_in, answers_of, run_list}
use Rattle.tc_aead_cipher.specs.Variant.{variant_of, is_variant}

-- ---- what was read

by_none : (b : Bool) (k : Head) → cond b (Some k) None ≡ None → b ≡ false
by_none true k e = absurd (none-some k (sym e))
by_none false k e = refl

length_within : (rest : List ℕ) → well_formed rest ≡ true → call_length (head_of rest) ≤ length rest
unfolding well_formed
length_within rest t =
    leb-true (call_length (head_of rest)) (length rest) (grind (arith, t))

pub read_found : (rest : List ℕ) (h : Head) → Some h ≡ read_of rest
    → (h ≡ head_of rest) × (well_formed rest ≡ true) × (call_length h ≤ length rest)
unfolding read_of
read_found rest h e =
    let f = cond_some (well_formed rest) (head_of rest) h (sym e) in
    let same : call_length h ≡ call_length (head_of rest) = ap call_length (sym f.1) in
    (sym f.1, f.0, omega (arith, same, length_within rest f.0))

pub read_none : (rest : List ℕ) → None ≡ read_of rest → well_formed rest ≡ false
unfolding read_of
read_none rest e = by_none (well_formed rest) (head_of rest) (sym e)

module _ (rest : List ℕ) (kind : CallKind) (n : ℕ) (first second third behind : List ℕ) (r : IsRead rest kind n first second third behind) where
  found : (head_of rest ≡ head_of rest) × (well_formed rest ≡ true) × (call_length (head_of rest) ≤ length rest)
  found = read_found rest (head_of rest) r.found

  -- the call that was read is the list's
  same_call : call_of kind n first second third third ≡ call_in (head_of rest) (drop 33 rest)
  unfolding call_in
  same_call = rw (r.kind_is, r.number_is, r.first_is, r.second_is, r.third_is) refl

  -- what its answer shows
  third_length : length third ≡ (head_of rest).third
  unfolding call_length third_run
  third_length = ap length r.third_is ∙ simp (length-take, length-drop) (omega (arith, found.2))

  same_length : shown_by kind (length third) ≡ shown_length (head_of rest)
  unfolding shown_length
  same_length = ap₂ shown_by r.kind_is third_length

  pub shorter : length behind < length rest
  unfolding call_length
  shorter = omega (arith, ap length r.behind_is, length-drop (call_length (head_of rest)) rest, found.2)

-- ---- a turn of the definition

module _ (rest : List ℕ) (e : SparkleEngine) (room : ℕ) where
  run_end : (k : ℕ) → length rest ≡ 0 → run_calls k rest e room ≡ stopped 0 rest
  unfolding run_calls
  run_end zero h = refl
  run_end (suc k) h = rw (le-ltb 0 (length rest) (omega arith)) refl

  run_malformed : (k : ℕ) → 0 < length rest → length rest ≤ k → well_formed rest ≡ false
      → run_calls k rest e room ≡ stopped 21 rest
  unfolding run_calls
  run_malformed zero some enough w = absurd (omega arith)
  run_malformed (suc k) some enough w = rw (lt-ltb 0 (length rest) some, w) refl

  run_no_room : (k : ℕ) → 0 < length rest → length rest ≤ k → well_formed rest ≡ true
      → leb (34 + shown_length (head_of rest)) room ≡ false → run_calls k rest e room ≡ stopped 22 rest
  unfolding run_calls
  run_no_room zero some enough w f = absurd (omega arith)
  run_no_room (suc k) some enough w f = rw (lt-ltb 0 (length rest) some, w, f) refl

  run_call : (k : ℕ) → 0 < length rest → well_formed rest ≡ true → leb (34 + shown_length (head_of rest)) room ≡ true
      → run_calls (suc k) rest e room
      ≡ answered (answer_of e (call_in (head_of rest) (drop 33 rest)))
      (run_calls k (drop (call_length (head_of rest)) rest) (step e (call_in (head_of rest) (drop 33 rest))).engine
      (room - (34 + shown_length (head_of rest))))
  unfolding run_calls
  run_call k some w f = rw (lt-ltb 0 (length rest) some, w, f) refl

head-long : (h : Head) → 33 ≤ call_length h
unfolding call_length
head-long h = omega arith

answered_twice : (u v : List ℕ) (r : Ran) → answered u (answered v r) ≡ answered (u ++ v) r
unfolding answered
answered_twice u v r =
    λ i. record { code = r.code; left = r.left; answers = sym (append_assoc u v r.answers) i }

-- ---- the loop

-- The run W of a list, while the loop has the rest of it to go and `used` bytes of the answers are written.
pub record Walking (W : Ran) (rest out₀ out : List ℕ) (e : SparkleEngine) (used : ℕ) : Type 0 where
  pub fuel : ℕ
  pub enough : length rest ≤ fuel
  pub room : used ≤ length out₀
  pub size : length out ≡ length out₀
  pub run_is : W ≡ answered (take used out) (run_calls fuel rest e (length out₀ - used))
  pub later : drop used out ≡ drop used out₀

pub walk_start : (rest out : List ℕ) (e : SparkleEngine) (fuel : ℕ) → length rest ≤ fuel
    → Walking (run_calls fuel rest e (length out)) rest out out e 0
unfolding answered
walk_start rest out e fuel h =
    let n : length out - 0 ≡ length out = omega arith in
    record {
      fuel = fuel;
      enough = h;
      room = omega arith;
      size = refl;
      run_is = ap (run_calls fuel rest e) (sym n);
      later = refl;
    }

module _ {W : Ran} {rest out₀ out : List ℕ} {e : SparkleEngine} {used : ℕ} (w : Walking W rest out₀ out e used) where
  -- where the run stops
  stop : (code : ℕ) → run_calls w.fuel rest e (length out₀ - used) ≡ stopped code rest
      → (code ≡ W.code) × (length rest ≡ W.left) × (out ≡ written W.answers out₀)
  unfolding answered stopped written
  stop code s =
      let t : W ≡ record { code = code; left = length rest; answers = take used out ++ [] } =
      w.run_is ∙ ap (answered (take used out)) s in
      let u : length (take used out) ≡ used = length-take-le used out (omega (arith, w.size, w.room)) in
      let whole : out ≡ take used out ++ drop used out₀ =
      sym (take-append-drop used out) ∙ ap (λ (l : List ℕ). take used out ++ l) w.later in (
        ap (λ (x : Ran). x.code) (sym t),
        ap (λ (x : Ran). x.left) (sym t),
        rw (t, append-nil (take used out), u) whole,
      )

  pub walk_end : length rest ≡ 0 → (0 ≡ W.code) × (length rest ≡ W.left) × (out ≡ written W.answers out₀)
  walk_end past = stop 0 (run_end rest e _ w.fuel past)

  module _ (more : 0 < length rest) where
    pub walk_malformed : None ≡ read_of rest → (21 ≡ W.code) × (length rest ≡ W.left) × (out ≡ written W.answers out₀)
    walk_malformed r = stop 21 (run_malformed rest e _ w.fuel more w.enough (read_none rest r))

    module _ {kind : CallKind} {n : ℕ} {first second third behind : List ℕ} (r : IsRead rest kind n first second third behind)
        (shown : ℕ) (shown_is : shown ≡ shown_by kind (length third)) where
      well : well_formed rest ≡ true
      well = (read_found rest (head_of rest) r.found).1

      shows : shown ≡ shown_length (head_of rest)
      shows = shown_is ∙ same_length rest kind n first second third behind r

      pub walk_no_room : leb (34 + shown) (length out - used) ≡ false
          → (22 ≡ W.code) × (length rest ≡ W.left) × (out ≡ written W.answers out₀)
      walk_no_room f =
          stop 22 (run_no_room rest e _ w.fuel more w.enough well (rw (← shows, ← w.size) f))

      -- the next call is made and its answer written
      module _ (f : leb (34 + shown) (length out - used) ≡ true) (after : SparkleEngine) (answer : List ℕ)
          (engine : after ≡ (step e (call_of kind n first second third third)).engine)
          (answer_is : answer ≡ answer_of e (call_of kind n first second third third)) (long : length answer ≡ 34 + shown) where
        abbrev next : Call
        next = call_of kind n first second third third

        fits : 34 + shown ≤ length out - used
        fits = leb-true (34 + shown) (length out - used) f

        front : length (take used out) ≡ used
        front = length-take-le used out (omega (arith, w.size, w.room))

        done : length (take used out ++ answer) ≡ used + (34 + shown)
        done = length-append (take used out) answer ∙ ap₂ ◌+◌ front long

        parts : put_mid used (34 + shown) out answer ≡ (take used out ++ answer) ++ drop (34 + shown) (drop used out)
        parts = sym (append_assoc (take used out) answer (drop (34 + shown) (drop used out)))

        unfolded : (k : ℕ) → run_calls (suc k) rest e (length out₀ - used)
            ≡ answered answer (run_calls k behind after (length out₀ - (used + (34 + shown))))
        unfolded k =
            let less : length out₀ - used - (34 + shown) ≡ length out₀ - (used + (34 + shown)) = omega arith in
            let same = same_call rest kind n first second third behind r in
            run_call rest e (length out₀ - used) k more well (rw (← shows, ← w.size) f)
            ∙ rw (← shows, ← same, ← r.behind_is, ← engine, ← answer_is, less) refl

        by_fuel : (k : ℕ) → length rest ≤ k → W ≡ answered (take used out) (run_calls k rest e (length out₀ - used))
            → Walking W behind out₀ (put_mid used (34 + shown) out answer) after (used + (34 + shown))
        by_fuel zero enough run_is = absurd (omega arith)
        by_fuel (suc k) enough run_is =
            record {
              fuel = k;
              enough = omega (arith, shorter rest kind n first second third behind r);
              room = omega (arith, fits, w.size, w.room);
              size =
                  ap length parts
                  ∙ length-append (take used out ++ answer) (drop (34 + shown) (drop used out))
                  ∙ simp length-drop (omega (arith, done, fits, w.size, w.room));
              run_is =
                  run_is
                  ∙ ap (answered (take used out)) (unfolded k)
                  ∙ answered_twice (take used out) answer (run_calls k behind after (length out₀ - (used + (34 + shown))))
                  ∙ ap (λ (l : List ℕ). answered l (run_calls k behind after (length out₀ - (used + (34 + shown)))))
                  (sym (ap (take (used + (34 + shown))) parts ∙ take_at (take used out ++ answer) (drop (34 + shown) (drop used out)) (used + (34 + shown)) done));
              later =
                  ap (drop (used + (34 + shown))) parts
                  ∙ drop_at (take used out ++ answer) (drop (34 + shown) (drop used out)) (used + (34 + shown)) done
                  ∙ ap (drop (34 + shown)) w.later
                  ∙ drop-drop (34 + shown) used out₀;
            }

        pub walk_turn : Walking W behind out₀ (put_mid used (34 + shown) out answer) after (used + (34 + shown))
        walk_turn = by_fuel w.fuel w.enough w.run_is

-- ---- the whole list

-- a list whose first byte is no variant's number is not run
pub list_refused : (list out : List ℕ) → is_variant (get_or list 0 0) ≡ false
    → (21 ≡ (run_list list (length out)).code) × (0 ≡ length list - (run_list list (length out)).left)
    × (out ≡ written (run_list list (length out)).answers out)
unfolding run_list stopped written
list_refused list out is = rw is (refl, omega arith, refl)

pub list_empty : (list out : List ℕ) → None ≡ slice_get list 0
    → (21 ≡ (run_list list (length out)).code) × (0 ≡ length list - (run_list list (length out)).left)
    × (out ≡ written (run_list list (length out)).answers out)
unfolding is_variant
list_empty [] out h = list_refused [] out refl
list_empty (x ∷ list) out h = absurd (none-some x h)

pub list_run : (list : List ℕ) (room : ℕ) (variant : SparkleVariant) (first : SparkleEngine) → is_variant (get_or list 0 0) ≡ true
    → variant ≡ variant_of (get_or list 0 0) → first ≡ new_engine variant
    → run_calls (length list) (drop 1 list) first room ≡ run_list list room
unfolding run_list
list_run list room variant first is var new = rw (is, ← var, ← new) refl

-- ---- the run as a whole

-- One call's part of the definition: whether bytes are left, the call is well-formed, its answer fits.
abbrev turn : Bool → Bool → Bool → List ℕ → List ℕ → Ran → Ran
turn some well fits rest answer later =
    cond some (cond well (cond fits (answered answer later) (stopped 22 rest)) (stopped 21 rest)) (stopped 0 rest)

turn-answers : (s w f : Bool) (rest : List ℕ) (e : SparkleEngine) (c : Call) (calls : List Call) (later : Ran)
    → (later.code ≡ 0 → later.answers ≡ answers_of (step e c).engine calls) → (turn s w f rest (answer_of e c) later).code ≡ 0
    → (turn s w f rest (answer_of e c) later).answers ≡ answers_of e (cond s (cond w (c ∷ calls) []) [])
unfolding answers_of stopped answered
turn-answers true true true rest e c calls later h q = ap (λ (l : List ℕ). answer_of e c ++ l) (h q)
turn-answers true true false rest e c calls later h q = absurd (omega (arith, q))
turn-answers true false f rest e c calls later h q = absurd (omega (arith, q))
turn-answers false w f rest e c calls later h q = refl

turn-left : (s w f : Bool) (rest answer : List ℕ) (later : Ran) → (s ≡ false → length rest ≡ 0) → (later.code ≡ 0 → later.left ≡ 0)
    → (turn s w f rest answer later).code ≡ 0 → (turn s w f rest answer later).left ≡ 0
unfolding stopped answered
turn-left true true true rest answer later none h q = h q
turn-left true true false rest answer later none h q = absurd (omega (arith, q))
turn-left true false f rest answer later none h q = absurd (omega (arith, q))
turn-left false w f rest answer later none h q = none refl

-- Where the code is 0, what is written are the answers of the calls that the list has.
pub run_is_answers : (k : ℕ) (rest : List ℕ) (e : SparkleEngine) (room : ℕ) → (run_calls k rest e room).code ≡ 0
    → (run_calls k rest e room).answers ≡ answers_of e (calls_in k rest)
unfolding run_calls calls_in answers_of stopped
run_is_answers zero rest e room z = refl
run_is_answers (suc k) rest e room z =
    let h = head_of rest in
    let c = call_in h (drop 33 rest) in
    turn-answers (ltb 0 (length rest)) (well_formed rest) (leb (34 + shown_length h) room) rest e c (calls_in k (drop (call_length h) rest)) _
    (run_is_answers k (drop (call_length h) rest) (step e c).engine (room - (34 + shown_length h))) z

-- Where the code is 0, the whole list was read: the rest's length bounds its calls.
pub run_reads_all : (k : ℕ) (rest : List ℕ) (e : SparkleEngine) (room : ℕ) → length rest ≤ k → (run_calls k rest e room).code ≡ 0
    → (run_calls k rest e room).left ≡ 0
unfolding run_calls stopped
run_reads_all zero rest e room n z = omega arith
run_reads_all (suc k) rest e room n z =
    let h = head_of rest in
    let c = call_in h (drop 33 rest) in
    let a = length-drop (call_length h) rest in
    let b = head-long h in
    turn-left (ltb 0 (length rest)) (well_formed rest) (leb (34 + shown_length h) room) rest (answer_of e c) _
    (λ t. let r = ltb-false 0 (length rest) t in omega (arith, r))
    (run_reads_all k (drop (call_length h) rest) (step e c).engine (room - (34 + shown_length h)) (omega (arith, a, b))) z
