-- What request 2026-02 promises of a run made in parts (`specs/Parts.antt`): parts are one part as long as all of them,
-- and once they are as long as the run they are the run.
use Rattle.std.proofs.Common.{◌≡◌, ℕ, ◌+◌, ◌-◌, ◌%◌, ◌^◌, ◌≤◌, min, List, [], ◌∷◌, sym, refl, ap, ◌∙◌, arith}
use Rattle.sparkle.specs.Sparkle.{sparkle_in, branches}
use Rattle.sparkle_parts.specs.Parts.{Valid, advance, advance_each, sum}
use Rattle.sparkle.specs.declared.scalar.StateWords.{StateWords}
use Rattle.sparkle_parts.specs.declared.PartialRun.{PartialRun}
use Rattle.sparkle.proofs.Lengths.{state_in_16}
use Rattle.sparkle.proofs.Claims.{a_run_in_two, no_steps_lem}

-- runs of one size are the same where their words and numbers are
same-run : {size : StateWords} {v w : List ℕ} {m n k l : ℕ} → v ≡ w → m ≡ n → k ≡ l
    → ◌≡◌ {A = PartialRun} (record { size = size; words = v; next = m; left = k }) (record { size = size; words = w; next = n; left = l })
same-run {size} {v} {w} {m} {n} {k} {l} e f g = rw (e, f, g) refl

-- two parts are one
pub advance_twice : (i j : ℕ) (r : PartialRun) → advance j (advance i r) ≡ advance (i + j) r
unfolding advance
advance_twice i j r =
    let b = branches r.size in
    let a = min i r.left in
    let c = min j (r.left - a) in
    let e : a + c ≡ min (i + j) r.left = omega arith in
    same-run (a_run_in_two b r.next a c r.words ∙ ap (λ (n : ℕ). sparkle_in b r.next n r.words) e) (omega arith) (omega arith)

-- where i + j steps are left, a part of at most i runs i of them, and j are left
pub a_part_of_the_run : (i j : ℕ) (r : PartialRun) → r.left ≡ i + j
    → advance i r
    ≡ record {
      size = r.size;
      words = sparkle_in (branches r.size) r.next i r.words;
      next = (r.next + i) % 2 ^ 32;
      left = j;
    }
unfolding advance
a_part_of_the_run i j r h =
    let e : min i r.left ≡ i = omega arith in
    same-run (ap (λ (n : ℕ). sparkle_in (branches r.size) r.next n r.words) e) (rw e refl) (omega arith)

-- `advance_each` takes each number in turn, and `sum` adds them
pub each_in_turn : (i j : ℕ) (r : PartialRun) → advance_each (i ∷ (j ∷ [])) r ≡ advance j (advance i r)
unfolding advance_each
each_in_turn i j r = refl

pub sum_of_three : (i j k : ℕ) → sum (i ∷ (j ∷ (k ∷ []))) ≡ i + j + k
unfolding sum
sum_of_three i j k = omega arith

-- a part, and then each of a list, are one part as long as all of them
advance-on : (i : ℕ) (ks : List ℕ) (r : PartialRun) → advance_each ks (advance i r) ≡ advance (i + sum ks) r
unfolding advance_each sum
advance-on i [] r = ap (λ (n : ℕ). advance n r) (omega arith)
advance-on i (k ∷ ks) r =
    ap (advance_each ks) (advance_twice i k r) ∙ advance-on (i + k) ks r ∙ ap (λ (n : ℕ). advance n r) (omega arith)

-- no part, of a run that the struct can hold
advance-none : (r : PartialRun) → Valid r → advance 0 r ≡ r
unfolding advance
advance-none r h =
    let z : min 0 r.left ≡ 0 = omega arith in
    same-run (rw z (no_steps_lem (branches r.size) r.words (omega (arith, state_in_16 r.size, h.0)) h.1 r.next)) (omega (arith, h.2)) (omega arith)

-- parts made in turn are one part as long as all of them
pub parts_are_one : (ks : List ℕ) (r : PartialRun) → Valid r → advance_each ks r ≡ advance (sum ks) r
unfolding advance_each sum
parts_are_one [] r h = sym (advance-none r h)
parts_are_one (k ∷ ks) r h = advance-on k ks r

-- where they are together at least as many as the steps that are left, they make the whole run, and none is left
pub parts_make_the_run : (ks : List ℕ) (r : PartialRun) → Valid r → r.left ≤ sum ks
    → advance_each ks r
    ≡ record {
      size = r.size;
      words = sparkle_in (branches r.size) r.next r.left r.words;
      next = (r.next + r.left) % 2 ^ 32;
      left = 0;
    }
unfolding advance
parts_make_the_run ks r h enough =
    let e : min (sum ks) r.left ≡ r.left = omega arith in
    parts_are_one ks r h
    ∙ same-run (ap (λ (n : ℕ). sparkle_in (branches r.size) r.next n r.words) e) (rw e refl) (omega arith)
