-- The tag's bytes: the capacity's bytes xored with the key's.
use Rattle.std.proofs.Common.{◌≡◌, ℕ, ◌*◌, ◌/◌, ◌≤◌, List, ◌++◌, length, take, drop, sym, ap, ◌∙◌, arith, length-drop, take-append-drop, length-take-le, take_at, w8}
use mir.Val.{Val}
use denote.Array.{each}
use denote.Plain.{UInt}
use denote.Shadow.{shadow}
use borrow.Author.Rules.{elem_Fits}
use lib.Seq.{drop-append-le}
use Rattle.sparkle.specs.Words.{Bytes}
use Rattle.sparkle.specs.Sparkle.{xors}
use Rattle.schwaemm.specs.Bytes.{to_words, to_bytes}
use Rattle.schwaemm.specs.Schwaemm.{Params, Sizes, inner, tag_of}
use Rattle.schwaemm.proofs.Xors.{xors_enough}
use Rattle.sparkle.proofs.Below.{below_of, below-take}
use Rattle.schwaemm.proofs.ByteWords.{length-to_bytes, to_bytes-to_words, to_bytes-append, to_bytes-drop, to_bytes-xors}
use Rattle.schwaemm.proofs.States.{state_length}
use Rattle.tc_sparkle_aead.specs.Message.{state_in}
use Rattle.tc_aead_cipher.proofs.VariantLaws.{Small}
use Rattle.tc_sparkle_aead.proofs.StateLaws.{state-fits}

-- what owning an array of bytes tells
pub array-bytes : (b : List ℕ) (us : List Val) → shadow (each ℕ (UInt w8).own_val b us) → Bytes b
array-bytes b us p = below_of b (λ i. (elem_Fits w8 w8 b us i p tt).fits)

-- the bytes of the tag, of the state's bytes and the key
abbrev pub tag_bytes : List ℕ → List ℕ → ℕ → ℕ → List ℕ
tag_bytes state key rate n = xors (drop rate state) (take n key)

-- the specification's tag is these bytes
pub tag_of-bytes : (p : Params) → Sizes p → Small p → (words key : List ℕ) → length words ≡ 16 → length key ≡ 32 → Bytes key
    → tag_bytes (to_bytes words) key p.rate p.key ≡ tag_of p (take p.key key) (state_in p words)
unfolding inner tag_of state_in
tag_of-bytes p h f words key hw hk bytes =
    let s = take (state_length p) words in
    let rest = to_bytes (drop (state_length p) words) in
    let k = take p.key key in
    let u = drop p.rate (to_bytes s) in
    let fits = state-fits p h f in
    let hs = length-take-le (state_length p) words (omega arith) in
    let hk' = length-take-le p.key key (omega arith) in
    let room : p.rate ≤ length (to_bytes s) = simp length-to_bytes (omega arith) in
    let hu : length u ≡ p.key = simp (length-drop, length-to_bytes) (omega arith) in
    let whole : to_bytes words ≡ to_bytes s ++ rest =
    ap to_bytes (sym (take-append-drop (state_length p) words)) ∙ to_bytes-append s (drop (state_length p) words) in
    let words_of_rate : p.rate / 4 * 4 ≡ p.rate = omega arith in
    rw (whole, drop-append-le p.rate (to_bytes s) rest room, ← xors_enough p.key (u ++ rest) k (omega arith), take_at u rest p.key hu)
    (sym (rw (
      to_bytes-xors (drop (p.rate / 4) s) (to_words k),
      to_bytes-to_words (below-take p.key bytes) (omega arith),
      ← to_bytes-drop (p.rate / 4) s,
      words_of_rate,
    )))
