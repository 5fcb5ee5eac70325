-- A call in front of the rest of a list: where there is none, and what there is else.
use mathlib.Core.Path.{◌≡◌, refl, sym, ap, ◌∙◌}
use mathlib.Core.Bool.{Bool, true, false, cond}
use mathlib.Core.List.{List}
use Prim.Native.Nat.{ℕ, ◌+◌, ◌≤◌, ◌<◌}
use native.Mathlib.Omega.{arith}
use borrow.Author.Tests.{le-ltb, le-leb, lt-leb}
use lib.Dec.{leb, ltb}
use lib.ListN.{length, take, drop, get_or}
use lib.Seq.{drop-drop}
use Rattle.std.proofs.lemmas.List.{get_or-take}
use Rattle.std.specs.Prelude.{Option, None, Some}
use Rattle.std.proofs.lemmas.Option.{none-some, same_Some}
use Rattle.std.specs.List.{IsSplitAt}
use Rattle.tc_aead_cipher.specs.declared.call.CallKind.{CallKind}
use Rattle.host.specs.Bytes.{number_at}
use Rattle.host.specs.CallList.{head_of, call_length, well_formed, read_of, kind_at, kind_read, IsRead, first_run, second_run, third_run}
use Rattle.host.proofs.Numbers.{number_in_front}

-- the kind that was read: none, or one of the nine
abbrev by_tests : (low high : Bool) → CallKind → Option CallKind
by_tests low high kind = cond low None (cond high None (Some kind))

none_by_tests : (s low high t : Bool) (kind : CallKind) → by_tests low high kind ≡ None → cond s false (cond low false (cond high false t)) ≡ false
none_by_tests true low high t kind e = refl
none_by_tests false true high t kind e = refl
none_by_tests false false true t kind e = refl
none_by_tests false false false t kind e = absurd (none-some kind (sym e))

some_by_tests : (low high t : Bool) (kind other : CallKind) → by_tests low high kind ≡ Some other → t ≡ true
    → (other ≡ kind) × (cond low false (cond high false t) ≡ true)
some_by_tests true high t kind other e w = absurd (none-some other e)
some_by_tests false true t kind other e w = absurd (none-some other e)
some_by_tests false false t kind other e w = (sym (same_Some kind other e), w)

module _ (rest : List ℕ) where
  none : well_formed rest ≡ false → None ≡ read_of rest
  unfolding read_of
  none e = rw e refl

  some : well_formed rest ≡ true → Some (head_of rest) ≡ read_of rest
  unfolding read_of
  some e = rw e refl

  -- a call that is longer than the list is none
  too_short : length rest < call_length (head_of rest) → None ≡ read_of rest
  unfolding well_formed
  too_short over =
      let h = head_of rest in
      none (rw (lt-leb (call_length h) (length rest) over) (grind arith))

  pub no_head : length rest < 33 → None ≡ read_of rest
  unfolding call_length
  no_head short = too_short (omega arith)

  -- the head is whole, and the runs stand behind it
  module _ (head runs : List ℕ) (front : (head ≡ take 33 rest) × (runs ≡ drop 33 rest) × (length runs + 33 ≡ length rest))
      (read : Option CallKind) (read_is : read ≡ kind_read (get_or head 0 0)) where
    same_kind : get_or head 0 0 ≡ (head_of rest).kind
    unfolding head_of
    same_kind = ap (λ (l : List ℕ). get_or l 0 0) front.0 ∙ get_or-take 33 rest 0 0 (omega arith)

    pub no_kind : read ≡ None → None ≡ read_of rest
    unfolding well_formed kind_read
    no_kind not =
        let h = head_of rest in
        none (none_by_tests (ltb (length rest) 33) (ltb h.kind 1) (ltb 9 h.kind) (leb (call_length h) (length rest)) (kind_at h.kind)
        (ap kind_read (sym same_kind) ∙ sym read_is ∙ not))

    module _ (a : ℕ) (a_is : a ≡ number_at head 9) where
      first_len : a ≡ (head_of rest).first
      unfolding head_of
      first_len = a_is ∙ rw front.0 (number_in_front rest 33 9 (omega arith))

      pub no_first : length runs < a → None ≡ read_of rest
      unfolding call_length
      no_first over = too_short (omega (arith, front.2, first_len))

      module _ (first rest₁ : List ℕ) (split₁ : IsSplitAt runs a first rest₁) (b : ℕ) (b_is : b ≡ number_at head 17) where
        second_len : b ≡ (head_of rest).second
        unfolding head_of
        second_len = b_is ∙ rw front.0 (number_in_front rest 33 17 (omega arith))

        pub no_second : length rest₁ < b → None ≡ read_of rest
        unfolding call_length
        no_second over = too_short (omega (arith, front.2, first_len, second_len, split₁))

        module _ (second rest₂ : List ℕ) (split₂ : IsSplitAt rest₁ b second rest₂) (c : ℕ) (c_is : c ≡ number_at head 25) where
          third_len : c ≡ (head_of rest).third
          unfolding head_of
          third_len = c_is ∙ rw front.0 (number_in_front rest 33 25 (omega arith))

          pub no_third : length rest₂ < c → None ≡ read_of rest
          unfolding call_length
          no_third over = too_short (omega (arith, front.2, first_len, second_len, third_len, split₁, split₂))

          pub call_read : (third rest₃ : List ℕ) → IsSplitAt rest₂ c third rest₃ → (kind : CallKind) → read ≡ Some kind
              → (n : ℕ) → n ≡ number_at head 1 → IsRead rest kind n first second third rest₃
          unfolding head_of well_formed call_length kind_read first_run second_run third_run
          call_read third rest₃ split₃ kind is n n_is =
              let h = head_of rest in
              let fits : call_length h ≤ length rest = omega (arith, front.2, first_len, second_len, third_len, split₁, split₂, split₃) in
              let tests =
              some_by_tests (ltb h.kind 1) (ltb 9 h.kind) (leb (call_length h) (length rest)) (kind_at h.kind) kind
              (ap kind_read (sym same_kind) ∙ sym read_is ∙ is) (le-leb _ _ fits) in
              record {
                found = some (rw (le-ltb (length rest) 33 (omega (arith, front.2))) tests.1);
                kind_is = tests.0;
                number_is = n_is ∙ rw front.0 (number_in_front rest 33 1 (omega arith));
                first_is = rw (← first_len, ← front.1) split₁.1;
                second_is = rw (← first_len, ← second_len, ← front.1, ← split₁.2) split₂.1;
                third_is = rw (← first_len, ← second_len, ← third_len, ← front.1, ← drop-drop b a runs, ← split₁.2, ← split₂.2) split₃.1;
                behind_is = rw (← first_len, ← second_len, ← third_len, ← drop-drop c (33 + a + b) rest, ← drop-drop b (33 + a) rest, ← drop-drop a 33 rest, ← front.1, ← split₁.2, ← split₂.2) split₃.2;
              }
