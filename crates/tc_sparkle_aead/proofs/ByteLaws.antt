-- Bytes that are copied into an array of zeros, also a second part behind a first; words that are written one behind the
-- other, and a word that is read.
use Rattle.std.proofs.Common.{◌≡◌, ℕ, add-zero, get_or-drop, ◌+◌, ◌-◌, ◌*◌, ◌^◌, ◌<◌, ◌≤◌, min, List, [], ◌∷◌, ◌++◌, length, get_or, take, drop, replicate, sym, refl, ap, ◌∙◌, ap₂, append_assoc, arith, length-append, length-drop, length-take-le, take_at, drop_at, take_all, take-take, append-nil, drop-drop, drop_of_length-le}
use Rattle.std.proofs.lemmas.List.{drop-replicate, take_rest, take_more, take-append-le, drop-append-le}
use Rattle.std.proofs.lemmas.List.Edits.{paste_all}
use Rattle.std.proofs.lemmas.Bool.{cases_lt}
use mathlib.Core.Logic.{◌⊎◌, inl, inr}
use Rattle.std.proofs.Math.Seq.{paste, drop-append-add, take-append-add}
use Rattle.std.specs.Int.{w32, to_le_bytes}
use borrow.Rule.Slice.PartMut.{put_mid}
use Rattle.schwaemm.specs.Bytes.{to_words, to_bytes}
use Rattle.schwaemm.proofs.ByteWords.{length-to_bytes, to_bytes-append, to_bytes-take, to_words-drop}
use Rattle.tc_sparkle_aead.specs.Message.{in_array, written}
use Rattle.tc_sparkle_aead.proofs.StateLaws.{in_array-zeros}

-- a second part behind a first
pub put_behind : (m : ℕ) (a b : List ℕ) (n k : ℕ) → n ≡ length a → k ≡ length b → n + k ≤ m → put_mid n k (in_array m a) b ≡ in_array m (a ++ b)
put_behind m a b n k ha hb h =
    let z : List ℕ = replicate {A = ℕ} (m - n) 0 in
    let la : length a ≡ n = omega arith in
    let rest : m - n + length a ≡ m = omega arith in
    let both : length (a ++ b) + (m - n - k) ≡ m = omega (arith, length-append a b) in
    rw (in_array-zeros m (m - n) a (omega arith), in_array-zeros m (m - n - k) (a ++ b) both)
    (ap₂ (λ (u v : List ℕ). u ++ (b ++ drop k v)) (take_at a z n la) (drop_at a z n la)
    ∙ ap (λ (v : List ℕ). a ++ (b ++ v)) (drop-replicate {X = ℕ} k (m - n) 0)
    ∙ sym (append_assoc a b (replicate {A = ℕ} (m - n - k) 0)))

-- past the held bytes the stream is the input
pub past-held : (held input : List ℕ) (pos : ℕ) → length held ≤ pos → drop (pos - length held) input ≡ drop pos (held ++ input)
past-held held input pos gone =
    let at : length held + (pos - length held) ≡ pos = omega arith in
    sym (drop-append-add held input (pos - length held)) ∙ ap (λ (k : ℕ). drop k (held ++ input)) at

module _ (n pos : ℕ) (held input : List ℕ) where
  pub stream_behind : length held ≤ pos → take n (drop (pos - length held) input) ≡ take n (drop pos (held ++ input))
  stream_behind h = ap (take n) (past-held held input pos h)

  -- a first part of the held bytes, as many as are wanted, and what is wanted behind them
  seam : (front : ℕ) → pos ≤ length held → front ≡ min n (length held - pos) → (n < length held - pos) ⊎ (length held - pos ≤ n)
      → take front (drop pos held) ++ take (n - front) input ≡ take n (drop pos (held ++ input))
  seam front h e (inl w) =
      let l = length-drop pos held in
      let f : front ≡ n = omega arith in
      let none : n - n ≡ 0 = omega arith in
      rw (f, none, drop-append-le pos held input h)
      (append-nil (take n (drop pos held)) ∙ sym (take-append-le n (drop pos held) input (omega arith)))
  seam front h e (inr w) =
      let x = drop pos held in
      let l = length-drop pos held in
      let f : front ≡ length x = omega arith in
      let more : length x + (n - length x) ≡ n = omega arith in
      rw (f, drop-append-le pos held input h)
      (ap (λ (a : List ℕ). a ++ take (n - length x) input) (take_all (length x) x (omega arith))
      ∙ sym (take-append-add x input (n - length x)) ∙ ap (λ (k : ℕ). take k (x ++ input)) more)

  pub stream_seam : (front : ℕ) → pos ≤ length held → front ≡ min n (length held - pos)
      → take front (drop pos held) ++ take (n - front) input ≡ take n (drop pos (held ++ input))
  stream_seam front h e = seam front h e (cases_lt n (length held - pos))

-- word k behind those before it
pub word_behind : (d w : List ℕ) (k n : ℕ) {o : List ℕ} {x : ℕ} → o ≡ written (to_bytes (take k w)) d → k < length w → x ≡ get_or w k 0 → n ≡ k * 4
    → put_mid n (n + 4 - n) o (to_le_bytes w32 x) ≡ written (to_bytes (take (k + 1) w)) d
unfolding written to_bytes
word_behind d w k n {o} {x} e h f g =
    let t = to_bytes (take k w) in
    let l : length t ≡ n = omega (arith, length-to_bytes (take k w), length-take-le k w (omega arith)) in
    let four : n + 4 - n ≡ 4 = omega arith in
    let le = to_le_bytes w32 (get_or w k 0) in
    rw (e, f, four, take_more w k 0 h, to_bytes-append (take k w) (get_or w k 0 ∷ []))
    (ap₂ (λ (a b : List ℕ). a ++ (le ++ drop 4 b)) (take_at t (drop (length t) d) n l) (drop_at t (drop (length t) d) n l)
    ∙ ap (λ (r : List ℕ). t ++ (le ++ r)) (drop-drop 4 (length t) d)
    ∙ sym (append_assoc t le (drop (length t + 4) d))
    ∙ ap (λ (j : ℕ). (t ++ le) ++ drop j d) (sym (length-append t le)))

-- bytes of words that cover the output
pub bytes_over : (w d : List ℕ) {o : List ℕ} → o ≡ written (to_bytes w) d → length d ≡ length w * 4 → o ≡ to_bytes w
unfolding written
bytes_over w d e h =
    e ∙ ap (◌++◌ (to_bytes w)) (drop_of_length-le d {i = length (to_bytes w)} (omega (arith, length-to_bytes w)))
    ∙ append-nil (to_bytes w)

-- a part that was lent from `at` on, when it comes back
pub lent_back : (l r : List ℕ) (at : ℕ) → take at l ++ (r ++ drop (length l - at) (drop at l)) ≡ take at l ++ r
lent_back l r at =
    ap (λ (x : List ℕ). take at l ++ (r ++ x)) (drop_of_length-le (drop at l) {i = length l - at} (simp length-drop (omega arith)))
    ∙ ap (◌++◌ (take at l)) (append-nil r)

-- the bytes of words written from a place on
pub words_over : (out words : List ℕ) (pos : ℕ) {ys : List ℕ} → ys ≡ written (to_bytes words) (take (length out - pos) (drop pos out)) → pos + length words * 4 ≤ length out
    → put_mid pos (length out - pos) out ys ≡ paste out pos (to_bytes words) (length words * 4)
unfolding written
words_over out words pos e h =
    lent_back out _ pos
    ∙ rw (e, take_rest out pos, ← length-to_bytes words, drop-drop, paste_all out pos (to_bytes words) (length (to_bytes words)) refl) refl

-- the bytes of the first n words, written from a place on
pub words_taken : (out words : List ℕ) (pos n : ℕ) → n ≤ length words → paste out pos (to_bytes (take n words)) (length (take n words) * 4) ≡ paste out pos (to_bytes words) (n * 4)
words_taken out words pos n h =
    rw (length-take-le n words h, ← to_bytes-take n words, take-take (n * 4) (n * 4) (to_bytes words) (omega arith))

-- a part that is read, and what is behind its start
pub part_read : (b r : List ℕ) (pos n : ℕ) → pos + n ≤ length b → take (length (take (pos + n - pos) (drop pos b))) r ≡ take (pos + n - pos) (drop pos b) → take n r ≡ take n (drop pos b)
part_read b r pos n h e =
    let size : pos + n - pos ≡ n = omega arith in
    let rest = length-drop pos b in
    rw (length-take-le n (drop pos b) (omega arith)) at rw size at e

-- a part of the output that n bytes of a list are copied to; from 0 on it is the front
pub part_paste : (d s : List ℕ) (at n k : ℕ) {ys : List ℕ} → ys ≡ take n s → k ≡ n → put_mid at k d ys ≡ paste d at s n
part_paste d s at n k e h =
    rw (e, h) (ap (λ (r : List ℕ). take at d ++ (take n s ++ r)) (drop-drop n at d) ∙ sym (append_assoc (take at d) (take n s) (drop (at + n) d)))

-- word k, from its four bytes
first_word : (b : List ℕ) → 3 < length b → get_or (to_words b) 0 0 ≡ get_or b 0 0 + get_or b 1 0 * 2 ^ 8 + get_or b 2 0 * 2 ^ 16 + get_or b 3 0 * 2 ^ 24
unfolding to_words
first_word [] h = absurd (omega arith)
first_word (x ∷ []) h = absurd (omega arith)
first_word (x ∷ (y ∷ [])) h = absurd (omega arith)
first_word (x ∷ (y ∷ (z ∷ []))) h = absurd (omega arith)
first_word (x ∷ (y ∷ (z ∷ (t ∷ b)))) h = refl

pub to_words-at : (b : List ℕ) (k : ℕ) → k * 4 + 3 < length b → get_or (to_words b) k 0 ≡ get_or b (k * 4) 0 + get_or b (k * 4 + 1) 0 * 2 ^ 8 + get_or b (k * 4 + 2) 0 * 2 ^ 16 + get_or b (k * 4 + 3) 0 * 2 ^ 24
to_words-at b k h =
    let w = first_word (drop (k * 4) b) (simp length-drop (omega arith)) in
    simp (get_or-drop, add-zero) at (rw (← to_words-drop k b) at w)
