-- The answer in front of the rest: where there is none, where it is whole and where it is cut short.
use Rattle.std.proofs.Common.{◌≡◌, ℕ, ◌+◌, ◌-◌, ◌<◌, ◌≤◌, List, length, drop, Some, None, refl, ap, ◌∙◌, arith, length-drop, le-ltb, lt-ltb, le-leb, w64}
use borrow.Author.Tests.{lt-leb}
use lib.Seq.{drop-drop}
use Rattle.std.specs.Int.{from_le_bytes}
use Rattle.host.specs.Bytes.{word_at, number_at}
use Rattle.replay.specs.Answers.{bytes_behind, answer_length}

-- the library reads the number that the definition says
pub le_number : (bytes : List ℕ) → from_le_bytes w64 bytes ≡ number_at bytes 0
unfolding word_at number_at
le_number bytes = omega arith

-- what stands behind m bytes of what stands behind n bytes
pub further : (s : List ℕ) {r t : List ℕ} (n m : ℕ) → r ≡ drop n s → t ≡ drop m r → t ≡ drop (n + m) s
further s n m e f = f ∙ ap (drop m) e ∙ drop-drop m n s

pub answer_none : (rest : List ℕ) → length rest < 34 → None ≡ answer_length rest
unfolding answer_length
answer_none rest h = rw (lt-ltb (length rest) 34 h) refl

-- n bytes stand behind the head, by the head
module _ (rest behind : List ℕ) (n : ℕ) (head : 34 ≤ length rest) (says : n ≡ bytes_behind rest) (is : behind ≡ drop 34 rest) where
  pub answer_whole : n ≤ length behind → Some (34 + n) ≡ answer_length rest
  unfolding answer_length
  answer_whole h =
      let fits : n ≤ length rest - 34 = omega (arith, ap length is, length-drop 34 rest) in
      rw (le-ltb (length rest) 34 head, ← says, le-leb n (length rest - 34) fits) refl

  pub answer_cut : length behind < n → None ≡ answer_length rest
  unfolding answer_length
  answer_cut h =
      let short : length rest - 34 < n = omega (arith, ap length is, length-drop 34 rest) in
      rw (le-ltb (length rest) 34 head, ← says, lt-leb n (length rest - 34) short) refl
