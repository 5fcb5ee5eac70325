-- What an opening holds at its end: the blocks that went are the leading blocks of the packet's body, and what is held is
-- the body's last block and the received tag. A sealing's is the case without a tag. From these follow a packet's tag,
-- whether it is verified, and its message.
use Rattle.std.proofs.Common.{◌≡◌, ℕ, ◌+◌, ◌-◌, ◌*◌, ◌<◌, ◌≤◌, List, [], ◌∷◌, ◌++◌, length, take, drop, sym, refl, ap, ◌∙◌, ap₂, arith, length-take-le, drop-drop}
use lib.Seq.{drop-nil}
use Rattle.schwaemm.specs.Bytes.{if_empty, same}
use Rattle.schwaemm.specs.Blocks.{ready, after, given, held}
use Rattle.schwaemm.specs.Schwaemm.{Params, Sizes, crypt, mix_last, leading, prepared, opening, message_block, before_last, last_block, message, crypted, tag_of, decrypt, tag, body, received, verified}
use Rattle.schwaemm.proofs.Cut.{ready-before, rest_above, after-take, given-take, length-held}
use Rattle.std.proofs.lemmas.List.{drop-take}
use Rattle.schwaemm.proofs.States.{state_length, length-message_block, length-prepared}
use Rattle.schwaemm.proofs.RoundTrip.{length-last_block, leading_bound, tag_of_opened}
use Rattle.tc_aead_cipher.specs.declared.phase.Direction.TheVariants.{Decrypt}
use Rattle.tc_aead_cipher.specs.declared.phase.Phase.TheVariants.{Data}
use Rattle.tc_aead_cipher.proofs.VariantLaws.{Small}
use Rattle.tc_sparkle_aead.specs.declared.message.Point.{Point}
use Rattle.tc_sparkle_aead.specs.Message.{zeros, in_array, state_in, buffered, streamed, last_state, open_block, received_tag, open_last, open_tag, tag_matches}
use Rattle.tc_sparkle_aead.proofs.Points.{after_nil, block_point, block_point_nil, buffered-data, state-point, streamed-point}

-- ---- The last block

module _ (p : Params) where
  last_block_some : (c : List ℕ) → 0 < length c → 0 < length (last_block p c)
  unfolding leading
  last_block_some c hc = omega (arith, length-last_block p c, rest_above p.rate 0 (length c) hc)

  if_some : (l x y : List ℕ) → 0 < length l → if_empty l x y ≡ y
  unfolding if_empty
  if_some [] x y hl = absurd (omega arith)
  if_some (a ∷ l) x y hl = refl

  -- the state after the last block is the state after the message
  pub last-state : (plain : List ℕ → List ℕ → List ℕ) (s c : List ℕ)
      → last_state p (before_last p plain s c) (last_block p c) (plain (before_last p plain s c) (last_block p c))
      ≡ message p plain s c
  unfolding last_state message if_empty before_last last_block leading
  last-state plain s [] =
      ap (λ (l : List ℕ). if_empty l (after p.rate (message_block p plain) (ready p.rate 0 0) s [])
      (mix_last p 2 (before_last p plain s []) (plain (before_last p plain s []) l)))
      (drop-nil (ready p.rate 0 0 * p.rate))
      ∙ after_nil p.rate 0 (message_block p plain) s
  last-state plain s (x ∷ c) = if_some (last_block p (x ∷ c)) _ _ (last_block_some (x ∷ c) (omega arith))

-- ---- A packet of at least a tag's bytes

module _ (p : Params) (packet : List ℕ) (enough : p.key ≤ length packet) where
  pub length-body : length (body p packet) ≡ length packet - p.key
  unfolding body
  length-body = length-take-le (length packet - p.key) packet (omega arith)

  pub packet_blocks : ready p.rate p.key (length packet) ≡ leading p (length (body p packet))
  unfolding leading
  packet_blocks = ready-before p.rate p.key (length packet) ∙ ap (ready p.rate 0) (sym length-body)

  body_bound : leading p (length (body p packet)) * p.rate ≤ length packet - p.key
  body_bound = omega (arith, leading_bound p (length (body p packet)), length-body)

  packet-state : (plain : List ℕ → List ℕ → List ℕ) (s : List ℕ)
      → after p.rate (message_block p plain) (ready p.rate p.key (length packet)) s packet
      ≡ before_last p plain s (body p packet)
  unfolding before_last body
  packet-state plain s =
      ap (λ (n : ℕ). after p.rate (message_block p plain) n s packet) packet_blocks
      ∙ sym (after-take p.rate (message_block p plain) _ (length packet - p.key) s packet body_bound)

  pub packet-given : (step out : List ℕ → List ℕ → List ℕ) (s : List ℕ)
      → given p.rate step out (ready p.rate p.key (length packet)) s packet
      ≡ given p.rate step out (leading p (length (body p packet))) s (body p packet)
  unfolding body
  packet-given step out s =
      ap (λ (n : ℕ). given p.rate step out n s packet) packet_blocks
      ∙ sym (given-take p.rate step out _ (length packet - p.key) s packet body_bound)

  -- where the tag begins in what is held
  held-tag : length (held p.rate p.key packet) - p.key
      ≡ length packet - p.key - leading p (length (body p packet)) * p.rate
  held-tag =
      omega (arith, length-held p.rate p.key packet, ap (λ (n : ℕ). n * p.rate) packet_blocks)

  held-is : held p.rate p.key packet ≡ drop (leading p (length (body p packet)) * p.rate) packet
  unfolding held
  held-is = ap (λ (n : ℕ). drop (n * p.rate) packet) packet_blocks

  pub held-block : take (length (held p.rate p.key packet) - p.key) (held p.rate p.key packet)
      ≡ last_block p (body p packet)
  unfolding last_block body
  held-block =
      let k = leading p (length (body p packet)) * p.rate in
      let e : k + (length packet - p.key - k) ≡ length packet - p.key = omega (arith, body_bound) in
      ap₂ (λ (n : ℕ) (l : List ℕ). take n l) held-tag held-is
      ∙ sym (drop-take k (length packet - p.key - k) packet) ∙ ap (λ (n : ℕ). drop k (take n packet)) e

  held-received : drop (length (held p.rate p.key packet) - p.key) (held p.rate p.key packet)
      ≡ received p packet
  unfolding received
  held-received =
      let k = leading p (length (body p packet)) * p.rate in
      let e : k + (length packet - p.key - k) ≡ length packet - p.key = omega (arith, body_bound) in
      ap₂ (λ (n : ℕ) (l : List ℕ). drop n l) held-tag held-is
      ∙ drop-drop (length packet - p.key - k) k packet ∙ ap (λ (n : ℕ). drop n packet) e

-- ---- The point after the blocks of a packet that is opened.

module _ (p : Params) (h : Sizes p) (f : Small p) (key nonce header packet : List ℕ) (enough : p.key ≤ length packet) where
  abbrev start : List ℕ
  start = prepared p key nonce header

  abbrev pub packet_point : Point
  packet_point = block_point p p.key (message_block p (opening p)) (Data Decrypt) start packet

  packet-taken : (s b : List ℕ) → length s ≡ state_length p → length (message_block p (opening p) s b) ≡ state_length p
  packet-taken s b hs = length-message_block p h (opening p) s b

  packet-holds : (d : List ℕ) → buffered p (block_point p p.key (message_block p (opening p)) (Data Decrypt) start d) ≡ held p.rate p.key d
  packet-holds d = buffered-data p h f (message_block p (opening p)) Decrypt start d

  -- from the point where the data begins
  pub packet-streamed : streamed p p.key (message_block p (opening p)) (Data Decrypt)
      (record { phase = Data Decrypt; words = in_array 16 start; buffer = zeros 64; held = 0 }) packet ≡ packet_point
  packet-streamed =
      ap (λ (at : Point). streamed p p.key (message_block p (opening p)) (Data Decrypt) at packet)
      (sym (block_point_nil p p.key (message_block p (opening p)) (Data Decrypt) start))
      ∙ streamed-point p h f p.key (message_block p (opening p)) packet-taken (Data Decrypt) start []
      (length-prepared p h key nonce header) (packet-holds []) packet (Data Decrypt)

  pub packet-words : state_in p packet_point.words ≡ before_last p (opening p) start (body p packet)
  packet-words =
      state-point p h f p.key (message_block p (opening p)) packet-taken (Data Decrypt) start packet
      (length-prepared p h key nonce header) (packet-holds packet) []
      ∙ packet-state p packet enough (opening p) start

  pub packet-block : open_block p packet_point ≡ last_block p (body p packet)
  unfolding open_block
  packet-block = rw (packet-holds packet) (held-block p packet enough)

  packet-received : received_tag p packet_point ≡ received p packet
  unfolding received_tag
  packet-received = rw (packet-holds packet) (held-received p packet enough)

  pub packet-last : open_last p packet_point ≡ crypt p (before_last p (opening p) start (body p packet)) (last_block p (body p packet))
  unfolding open_last
  packet-last = rw (packet-block, packet-words)

  pub packet-tag : open_tag p key packet_point ≡ tag p key nonce header (decrypt p key nonce header (body p packet))
  unfolding open_tag opening
  packet-tag =
      rw (packet-last, packet-block, packet-words)
      (ap (tag_of p key) (last-state p (opening p) start (body p packet))
      ∙ sym (tag_of_opened p h key nonce header (body p packet)))

  -- the received tag is right exactly where the packet is verified
  pub packet-verified : tag_matches p key packet_point ≡ verified p key nonce header packet
  unfolding verified
  packet-verified = ap₂ same packet-received packet-tag

  -- what the blocks and the last block become is the message
  pub packet-message : given p.rate (message_block p (opening p)) (crypt p) (ready p.rate p.key (length packet)) start packet
      ++ open_last p packet_point
      ≡ decrypt p key nonce header (body p packet)
  unfolding decrypt crypted
  packet-message = rw (packet-last, packet-given p packet enough (message_block p (opening p)) (crypt p) start)
