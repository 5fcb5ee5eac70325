-- The end of a message, over plain variables: the last block, the tag and what is written, as the code computes them
-- piece by piece, are what the definitions of `specs.Message` say.
use Rattle.std.proofs.Common.{◌≡◌, ℕ, ◌+◌, ◌-◌, ◌<◌, ◌≤◌, Bool, true, false, cond, ltb, List, [], ◌∷◌, ◌++◌, length, take, drop, replicate, sym, refl, ap, ◌∙◌, ap₂, arith, length-append, length-take-le, take-take, drop-drop, take_at, take-add, drop_at}
use Rattle.std.proofs.lemmas.List.{nil_from_length}
use lib.ListN.{length-replicate}
use lib.Seq.{paste}
use Rattle.schwaemm.specs.Bytes.{if_empty, same}
use Rattle.schwaemm.specs.Schwaemm.{Params, Sizes, crypt, mix_last, tag_of}
use Rattle.schwaemm.proofs.States.{state_length, length-crypt, length-mix_last}
use Rattle.schwaemm.proofs.RoundTrip.{length-tag_of}
use Rattle.tc_sparkle_aead.specs.declared.message.Point.{Point}
use Rattle.tc_aead_cipher.specs.declared.variant.SparkleVariant.{SparkleVariant}
use Rattle.tc_sparkle_aead.specs.declared.message.End.{End}
use Rattle.tc_sparkle_aead.specs.declared.message.Mac.{Mac}
use Rattle.tc_aead_cipher.specs.Variant.{params_of}
use Rattle.tc_sparkle_aead.specs.Message.{zeros, in_array, no_mac, state_in, put_state, buffered_count, buffered, last_state, last_steps, written, readable, seal_tag, seal_last, open_block, received_tag, open_last, open_tag, seal_end, open_end, open_out}
use Rattle.tc_aead_cipher.proofs.VariantLaws.{Small, sizes, small}
use Rattle.tc_sparkle_aead.proofs.StateLaws.{all-in_array, state_put, put_state_lem, length-state_in}
use Rattle.tc_sparkle_aead.proofs.CallLaws.{buffered_count_bound}

-- ---- The state after the last block.

module _ (p : Params) where
  last_state_some : (s block plain : List ℕ) → 0 < length block → last_state p s block plain ≡ mix_last p 2 s plain
  unfolding last_state if_empty
  last_state_some s [] plain some = absurd (omega arith)
  last_state_some s (x ∷ block) plain some = refl

  -- only whether there is a block counts
  last_state-length : (s a b plain : List ℕ) → length a ≡ length b → last_state p s a plain ≡ last_state p s b plain
  unfolding last_state if_empty
  last_state-length s [] [] plain e = refl
  last_state-length s [] (y ∷ b) plain e = absurd (omega arith)
  last_state-length s (x ∷ a) [] plain e = absurd (omega arith)
  last_state-length s (x ∷ a) (y ∷ b) plain e = refl

  length-last_state : Sizes p → (s block plain : List ℕ) → length s ≡ state_length p
      → length (last_state p s block plain) ≡ state_length p
  unfolding last_state if_empty
  length-last_state h s [] plain hs = hs
  length-last_state h s (x ∷ block) plain hs = length-mix_last p h 2 s plain

  module _ (words b : List ℕ) where
    pub put_last_none : length b ≡ 0 → words ≡ put_state p words (last_state p (state_in p words) b b)
    unfolding last_state if_empty
    put_last_none e = rw (nil_from_length b e) (sym (put_state_lem p words))

    pub put_last_some : 0 < length b → (r : List ℕ)
        → r ≡ put_state p words (mix_last p 2 (state_in p words) b)
        → r ≡ put_state p words (last_state p (state_in p words) b b)
    put_last_some some r e = e ∙ ap (put_state p words) (sym (last_state_some (state_in p words) b b some))

-- ---- What is written.

module _ (out : List ℕ) where
  -- bytes at the start of the output
  paste_front : (bytes t : List ℕ) (n : ℕ) → take n bytes ≡ t → length t ≡ n → paste out 0 bytes n ≡ written t out
  unfolding written
  paste_front bytes t n e l =
      let k : 0 + n ≡ length t = omega arith in
      ap₂ (λ (x : List ℕ) (j : ℕ). x ++ drop j out) e k

  -- more bytes behind them
  pub paste_written : (tag t u out₁ out₂ : List ℕ) (n k : ℕ) → out₁ ≡ written t out → length t ≡ n
      → out₂ ≡ paste out₁ n tag k → take k tag ≡ u → length u ≡ k → out₂ ≡ written (t ++ u) out
  unfolding written
  paste_written tag t u out₁ out₂ n k first lt e₂ eu lu =
      let front : take n out₁ ≡ t = ap (take n) first ∙ take_at t (drop (length t) out) n lt in
      let both : length t + k ≡ length (t ++ u) = omega (arith, length-append t u) in
      let rest : drop (n + k) out₁ ≡ drop (length (t ++ u)) out =
      sym (drop-drop k n out₁) ∙ ap (λ (x : List ℕ). drop k (drop n x)) first
      ∙ ap (drop k) (drop_at t (drop (length t) out) n lt) ∙ drop-drop k (length t) out
      ∙ ap (λ (j : ℕ). drop j out) both in
      e₂ ∙ rw (front, eu, rest)

  paste_behind : (bytes tag t u out₁ out₂ : List ℕ) (n k : ℕ) → out₁ ≡ paste out 0 bytes n → take n bytes ≡ t
      → length t ≡ n → out₂ ≡ paste out₁ n tag k → take k tag ≡ u → length u ≡ k → out₂ ≡ written (t ++ u) out
  paste_behind bytes tag t u out₁ out₂ n k e₁ et lt =
      paste_written tag t u out₁ out₂ n k (e₁ ∙ paste_front bytes t n et lt) lt

-- ---- The tag and the bytes of the last block, in their arrays.

module _ (p : Params) (h : Sizes p) (f : Small p) (words : List ℕ) (hw : length words ≡ 16) where
  whole : length (state_in p words) ≡ state_length p
  whole = length-state_in p h f words hw

  -- the tag after a last block
  tag-last : (key block plain words' tag : List ℕ) → words' ≡ put_state p words (last_state p (state_in p words) block plain)
      → tag ≡ in_array 32 (tag_of p key (state_in p words'))
      → tag ≡ in_array 32 (tag_of p key (last_state p (state_in p words) block plain))
  tag-last key block plain words' tag ew et =
      let s = last_state p (state_in p words) block plain in
      et ∙ ap (λ (x : List ℕ). in_array 32 (tag_of p key x))
      (ap (state_in p) ew ∙ state_put p words s (length-last_state p h (state_in p words) block plain whole))

  length-tag : (key block plain : List ℕ) → length key ≡ 32
      → length (tag_of p (take p.key key) (last_state p (state_in p words) block plain)) ≡ p.key
  length-tag key block plain hk =
      length-tag_of p h (take p.key key) (last_state p (state_in p words) block plain)
      (length-take-le p.key key (omega arith)) (length-last_state p h (state_in p words) block plain whole)

  -- as many bytes as the block has
  length_last : (block : List ℕ) (n : ℕ) → length block ≡ n → n ≤ p.rate → length (crypt p (state_in p words) block) ≡ n
  length_last block n l within = omega (arith, length-crypt p h (state_in p words) whole block)

-- ---- The bytes that are held, by the code's own count.

module _ (p : Params) (at : Point) (held : ℕ) (eh : held ≡ buffered_count p at.phase at.held) where
  held-is : take held at.buffer ≡ buffered p at
  unfolding buffered
  held-is = ap (λ (n : ℕ). take n at.buffer) eh

  length-held : Small p → length at.buffer ≡ 64 → length (buffered p at) ≡ held
  length-held f hb =
      ap length (sym held-is)
      ∙ length-take-le held at.buffer (omega (arith, buffered_count_bound p f at.phase at.held))

-- ---- The end of a sealing.

module _ (v : SparkleVariant) (at : Point) (key : List ℕ) (hw : length at.words ≡ 16) (hb : length at.buffer ≡ 64)
    (hk : length key ≡ 32) (held : ℕ)
    (eh : held ≡ buffered_count (params_of v) at.phase at.held) (words tag : List ℕ)
    (ew : words
    ≡ put_state (params_of v) at.words
    (last_state (params_of v) (state_in (params_of v) at.words)
    (take held at.buffer) (take held at.buffer)))
    (et : tag
    ≡ in_array 32
    (tag_of (params_of v) (take (params_of v).key key)
    (state_in (params_of v) words))) where
  tag_sealed : tag ≡ in_array 32 (seal_tag (params_of v) (take (params_of v).key key) at)
  unfolding seal_tag
  tag_sealed =
      let p = params_of v in
      tag-last p (sizes v) (small v) at.words hw (take p.key key) _ _ words
      tag (rw (held-is p at held eh) at ew) et

  pub sealed : (steps : ℕ) → steps ≡ cond (ltb 0 held) (params_of v).big 0
      → ◌≡◌ {A = End} (record { mac = record { readable = true; bytes = tag }; steps = steps }) (seal_end (params_of v) (take (params_of v).key key) at)
  unfolding readable last_steps
  sealed steps es =
      rw (tag_sealed, es, length-held (params_of v) at held eh (small v) hb) refl

  pub sealed_out : (bytes out out₁ out₂ : List ℕ) (k : ℕ) → held ≤ (params_of v).rate
      → bytes
      ≡ in_array 64
      (crypt (params_of v) (state_in (params_of v) at.words)
      (take held at.buffer))
      → out₁ ≡ paste out 0 bytes held → k ≡ (params_of v).key → out₂ ≡ paste out₁ held tag k
      → out₂ ≡ written (seal_last (params_of v) at ++ seal_tag (params_of v) (take (params_of v).key key) at) out
  unfolding seal_last seal_tag
  sealed_out bytes out out₁ out₂ k within eb e₁ ek e₂ =
      let p = params_of v in
      let h = sizes v in
      let f = small v in
      let w = at.words in
      let b = buffered p at in
      let last = length_last p h f w hw b held (length-held p at held eh f hb) within in
      let size = length-tag p h f w hw key b b hk in
      paste_behind out bytes tag _ _ out₁ out₂ held k e₁
      (ap (take held) (rw (held-is p at held eh) at eb) ∙ all-in_array held 64 _ last (omega arith)) last e₂
      (ap (take k) tag_sealed ∙ all-in_array k 32 _ (size ∙ sym ek) (omega arith)) (size ∙ sym ek)

-- ---- The end of an opening.

-- what the code has of an opening before it writes: the bytes that the last block becomes, in an array, its tag, its
-- steps, and whether the tag is the received one
pub record Opening (v : SparkleVariant) (at : Point) (key : List ℕ) (body : ℕ) (plain tag : List ℕ) (steps : ℕ) (equal : Bool) : Type 0 where
  pub within : body ≤ 64
  pub block : length (open_block (params_of v) at) ≡ body
  pub bytes : take body plain ≡ open_last (params_of v) at
  pub last : length (open_last (params_of v) at) ≡ body
  pub mac : tag ≡ in_array 32 (open_tag (params_of v) (take (params_of v).key key) at)
  pub ran : steps ≡ last_steps (params_of v) (open_block (params_of v) at)
  pub verdict : equal ≡ same (received_tag (params_of v) at) (open_tag (params_of v) (take (params_of v).key key) at)

module _ (v : SparkleVariant) (at : Point) (key : List ℕ) (hw : length at.words ≡ 16) (hb : length at.buffer ≡ 64)
    (hk : length key ≡ 32) (held size : ℕ)
    (eh : held ≡ buffered_count (params_of v) at.phase at.held)
    (ez : size ≡ (params_of v).key) (enough : size ≤ held) where
  body_is : length (buffered (params_of v) at) - (params_of v).key ≡ held - size
  body_is = omega (arith, length-held (params_of v) at held eh (small v) hb)

  block-is : take (held - size) at.buffer ≡ open_block (params_of v) at
  unfolding open_block
  block-is =
      rw (body_is, ← held-is (params_of v) at held eh)
      (sym (take-take (held - size) held at.buffer (omega arith)))

  received_is : take size (drop (held - size) at.buffer) ≡ received_tag (params_of v) at
  unfolding received_tag
  received_is =
      let b = at.buffer in
      let split : held ≡ held - size + size = omega arith in
      let bound = buffered_count_bound (params_of v) (small v) at.phase at.held in
      rw (body_is, ← held-is (params_of v) at held eh)
      (sym (ap (λ (n : ℕ). drop (held - size) (take n b)) split ∙ ap (drop (held - size)) (take-add (held - size) size b)
      ∙ drop_at (take (held - size) b) (take size (drop (held - size) b)) (held - size)
      (length-take-le (held - size) b (omega arith))))

  pub opening-is : held ≤ (params_of v).rate + (params_of v).key
      → (plain words tag : List ℕ) (steps : ℕ) (equal : Bool)
      → plain
      ≡ in_array 64
      (crypt (params_of v) (state_in (params_of v) at.words)
      (take (held - size) at.buffer))
      → words
      ≡ put_state (params_of v) at.words
      (last_state (params_of v) (state_in (params_of v) at.words) (take (held - size) plain)
      (take (held - size) plain))
      → tag
      ≡ in_array 32
      (tag_of (params_of v) (take (params_of v).key key)
      (state_in (params_of v) words))
      → steps ≡ cond (ltb 0 (held - size)) (params_of v).big 0
      → equal ≡ same (take size (drop (held - size) at.buffer)) (take size tag)
      → Opening v at key (held - size) plain tag steps equal
  unfolding open_last open_tag last_steps
  opening-is small-enough plain words tag steps equal ep ew et es eq =
      let p = params_of v in
      let h = sizes v in
      let f = small v in
      let w = at.words in
      let body = held - size in
      let fits : body ≤ 64 = omega arith in
      let block = ap length (sym block-is) ∙ length-take-le body at.buffer (omega arith) in
      let last = length_last p h f w hw (open_block (params_of v) at) body block (omega arith) in
      let bytes = ap (take body) (rw block-is at ep) ∙ all-in_array body 64 (open_last (params_of v) at) last fits in
      let mac =
      tag-last p h f w hw (take p.key key) (open_last (params_of v) at) (open_last (params_of v) at) words tag (rw bytes at ew) et
      ∙ ap (λ (s : List ℕ). in_array 32 (tag_of p (take p.key key) s))
      (last_state-length p (state_in p w) (open_last (params_of v) at) (open_block (params_of v) at) (open_last (params_of v) at) (last ∙ sym block)) in
      let length-mac = length-tag p h f w hw key (open_block (params_of v) at) (open_last (params_of v) at) hk in
      record {
        within = fits;
        block = block;
        bytes = bytes;
        last = last;
        mac = mac;
        ran = es ∙ rw block;
        verdict =
            eq ∙ ap₂ same received_is
            (ap (take size) mac ∙ all-in_array size 32 (open_tag (params_of v) (take (params_of v).key key) at) (length-mac ∙ sym ez) (omega arith));
      }

module _ {v : SparkleVariant} {at : Point} {key : List ℕ} {body steps : ℕ} {plain tag : List ℕ} {equal : Bool}
    (o : Opening v at key body plain tag steps equal) where
  -- the received tag is right
  pub opened : equal ≡ true
      → ◌≡◌ {A = End} (record { mac = record { readable = true; bytes = tag }; steps = steps })
      (open_end (params_of v) (take (params_of v).key key) at)
  unfolding readable
  opened right = rw (sym o.verdict ∙ right, o.mac, o.ran) refl

  pub opened_out : (out out₁ : List ℕ) → equal ≡ true → out₁ ≡ paste out 0 plain body
      → out₁ ≡ written (open_out (params_of v) (take (params_of v).key key) at) out
  opened_out out out₁ right e₁ =
      rw (sym o.verdict ∙ right) (e₁ ∙ paste_front out plain (open_last (params_of v) at) body o.bytes o.last)

  -- it is wrong
  pub unopened : (mac : Mac) → equal ≡ false → mac ≡ no_mac
      → ◌≡◌ {A = End} (record { mac = mac; steps = steps }) (open_end (params_of v) (take (params_of v).key key) at)
  unopened mac wrong em = rw (sym o.verdict ∙ wrong, em, o.ran) refl

  pub unopened_out : (out bytes : List ℕ) → equal ≡ false → body ≤ length out → bytes ≡ replicate (length (take body out)) 0
      → bytes ++ drop body out ≡ written (open_out (params_of v) (take (params_of v).key key) at) out
  unfolding zeros written
  unopened_out out bytes wrong room e =
      let size = length-take-le body out room in
      rw (sym o.verdict ∙ wrong, o.block, e, size, length-replicate {A = ℕ} body 0) refl
