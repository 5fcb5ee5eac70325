-- What is sealed is opened again, and the tag verifies. The same xor seals and opens, and both directions take up the
-- message, so the states agree block by block; one law over the two directions gives both.
use mathlib.Core.Path.{◌≡◌, refl, sym, ap, ap₂, ◌∙◌}
use mathlib.Core.Logic.{◌↔◌}
use mathlib.Core.Bool.{Bool, true, false, cond}
use mathlib.Core.List.{List, [], ◌∷◌, ◌++◌}
use Prim.Native.Nat.{ℕ, zero, suc, ◌+◌, ◌-◌, ◌*◌, ◌≤◌, ◌<◌}
use native.Mathlib.Nat.{zero-mul}
use native.Mathlib.Omega.{arith}
use lib.Dec.{eqb}
use borrow.Author.Tests.{eq-eqb, eqb-true}
use lib.ListN.{length, take, drop, length-append, length-drop, take-append-drop, drop_of_length-le}
use lib.Seq.{length-take-le, take_at, drop_at, take-add}
use Rattle.sparkle.proofs.Lengths.{length-xors}
use Rattle.schwaemm.specs.Bytes.{to_bytes, if_empty, same}
use Rattle.schwaemm.specs.Blocks.{after, given}
use Rattle.schwaemm.specs.Schwaemm.{Params, Sizes, outer, mix, crypt, mix_last, leading, prepared, sealing, opening, message_block, before_last, last_block, message, crypted, tag_of, encrypt, decrypt, tag, seal, body, received, verified}
use Rattle.schwaemm.proofs.Xors.{xors_undo}
use Rattle.schwaemm.proofs.ByteWords.{length-to_bytes, length-to_words}
use Rattle.schwaemm.proofs.Cut.{ready_bound, rest_below, first_and_rest, after-append, given-append, after-keeps, length-given}
use Rattle.schwaemm.proofs.States.{state_length, length-message_block, length-outer, length-inner, length-crypt, length-prepared, length-message}

-- Two ways through blocks, of which the second undoes the first: in a kept state, what the first gives for a block
-- takes the second to the same state and gives the block back.
module _ (rate : ℕ) (step back out undo : List ℕ → List ℕ → List ℕ) (Kept : List ℕ → Type 0)
    (keeps : (s b : List ℕ) → Kept s → Kept (step s b))
    (whole : (s b : List ℕ) → Kept s → length b ≡ rate → length (out s b) ≡ rate)
    (follows : (s b : List ℕ) → Kept s → length b ≡ rate → back s (out s b) ≡ step s b)
    (undoes : (s b : List ℕ) → Kept s → length b ≡ rate → undo s (out s b) ≡ b) where
  after-back : (n : ℕ) (s d : List ℕ) → Kept s → n * rate ≤ length d
      → after rate back n s (given rate step out n s d) ≡ after rate step n s d
  unfolding after given
  after-back zero s d k h = refl
  after-back (suc n) s d k h =
      let e = first_and_rest n rate in
      let b = take rate d in
      let hb = length-take-le rate d (omega arith) in
      let g = given rate step out n (step s b) (drop rate d) in
      rw (take_at (out s b) g rate (whole s b k hb), drop_at (out s b) g rate (whole s b k hb), follows s b k hb)
      (after-back n (step s b) (drop rate d) (keeps s b k) (simp length-drop (omega arith)))

  given_back : (n : ℕ) (s d : List ℕ) → Kept s → n * rate ≤ length d
      → given rate back undo n s (given rate step out n s d) ≡ take (n * rate) d
  unfolding given
  given_back zero s d k h = ap (λ (j : ℕ). take j d) (sym (zero-mul rate))
  given_back (suc n) s d k h =
      let e = first_and_rest n rate in
      let b = take rate d in
      let hb = length-take-le rate d (omega arith) in
      let g = given rate step out n (step s b) (drop rate d) in
      rw (
        take_at (out s b) g rate (whole s b k hb),
        drop_at (out s b) g rate (whole s b k hb),
        follows s b k hb,
        undoes s b k hb,
        e,
        take-add rate (n * rate) d,
        given_back n (step s b) (drop rate d) (keeps s b k) (simp length-drop (omega arith)),
      )

-- what the blocks before the last become, and what the last becomes
abbrev leading_crypted : Params → (List ℕ → List ℕ → List ℕ) → List ℕ → List ℕ → List ℕ
leading_crypted p plain s d = given p.rate (message_block p plain) (crypt p) (leading p (length d)) s d

abbrev last_crypted : Params → (List ℕ → List ℕ → List ℕ) → List ℕ → List ℕ → List ℕ
last_crypted p plain s d = crypt p (before_last p plain s d) (last_block p d)

parts : (p : Params) (plain : List ℕ → List ℕ → List ℕ) (s d : List ℕ)
    → crypted p plain s d ≡ leading_crypted p plain s d ++ last_crypted p plain s d
unfolding crypted
parts p plain s d = refl

-- what comes before the last block, and the last block
pub leading_bound : (p : Params) (n : ℕ) → leading p n * p.rate ≤ n
unfolding leading
leading_bound p n = ready_bound p.rate 0 n

pub length-last_block : (p : Params) (d : List ℕ) → length (last_block p d) ≡ length d - leading p (length d) * p.rate
unfolding last_block
length-last_block p d = length-drop (leading p (length d) * p.rate) d

leading_and_last : (p : Params) (d : List ℕ) → take (leading p (length d) * p.rate) d ++ last_block p d ≡ d
unfolding last_block
leading_and_last p d = take-append-drop (leading p (length d) * p.rate) d

-- the state after data that is not empty
pub message_some : (p : Params) (plain : List ℕ → List ℕ → List ℕ) (s d : List ℕ) → 0 < length d
    → message p plain s d ≡ mix_last p 2 (before_last p plain s d) (plain (before_last p plain s d) (last_block p d))
unfolding message if_empty
message_some p plain s [] hd = absurd (omega arith)
message_some p plain s (x ∷ d) hd = refl

module _ (p : Params) (h : Sizes p) where
  pub crypt-crypt : (s b : List ℕ) → length s ≡ state_length p → length b ≤ p.rate → crypt p s (crypt p s b) ≡ b
  unfolding crypt
  crypt-crypt s b hs hb =
      xors_undo (to_bytes (outer p s)) b (simp length-to_bytes (omega (arith, length-outer p h s hs)))

  -- the last block is no longer than the rate
  pub last_block-fits : (d : List ℕ) → length (last_block p d) ≤ p.rate
  unfolding leading
  last_block-fits d = omega (arith, length-last_block p d, rest_below p.rate 0 h.rate_positive (length d))

  -- whole blocks give whole blocks and lead to states
  whole-block : (s b : List ℕ) → length s ≡ state_length p → length b ≡ p.rate → length (crypt p s b) ≡ p.rate
  whole-block s b hs hb = omega (arith, length-crypt p h s hs b)

  undone_block : (s b : List ℕ) → length s ≡ state_length p → length b ≡ p.rate → crypt p s (crypt p s b) ≡ b
  undone_block s b hs hb = crypt-crypt s b hs (omega arith)

  whole-state : (plain : List ℕ → List ℕ → List ℕ) (s b : List ℕ) → length s ≡ state_length p
      → length (message_block p plain s b) ≡ state_length p
  whole-state plain s b hs = length-message_block p h plain s b

  -- What either direction gives is as long as what it is given.
  module _ (plain : List ℕ → List ℕ → List ℕ) where
    pub length_blocks : (n : ℕ) (s d : List ℕ) → length s ≡ state_length p
        → length (after p.rate (message_block p plain) n s d) ≡ state_length p
    length_blocks = after-keeps p.rate (message_block p plain) (λ s. length s ≡ state_length p) (whole-state plain)

    pub length-before_last : (s d : List ℕ) → length s ≡ state_length p
        → length (before_last p plain s d) ≡ state_length p
    unfolding before_last
    length-before_last s d = length_blocks (leading p (length d)) s d

    pub length_crypted_blocks : (n : ℕ) (s d : List ℕ) → length s ≡ state_length p → n * p.rate ≤ length d
        → length (given p.rate (message_block p plain) (crypt p) n s d) ≡ n * p.rate
    length_crypted_blocks =
        length-given p.rate (message_block p plain) (crypt p) (λ s. length s ≡ state_length p) (whole-state plain)
        whole-block

    pub length-crypted : (s d : List ℕ) → length s ≡ state_length p → length (crypted p plain s d) ≡ length d
    unfolding crypted
    length-crypted s d hs =
        let bound = leading_bound p (length d) in
        let blocks = length_crypted_blocks (leading p (length d)) s d hs bound in
        let last = length-crypt p h (before_last p plain s d) (length-before_last s d hs) (last_block p d) in
        let fits = last_block-fits d in
        let rest = length-last_block p d in
        simp length-append (omega arith)

  -- Two directions, of which the second takes up, for what the first gives, the message that the first took up.
  module _ (plain back : List ℕ → List ℕ → List ℕ)
      (same-plain : (s b : List ℕ) → length s ≡ state_length p → length b ≤ p.rate
      → back s (crypt p s b) ≡ plain s b) where
    -- block by block
    follows : (s b : List ℕ) → length s ≡ state_length p → length b ≡ p.rate
        → message_block p back s (crypt p s b) ≡ message_block p plain s b
    unfolding message_block
    follows s b hs hb = ap (mix p p.slim s) (same-plain s b hs (omega arith))

    after-crypted : (n : ℕ) (s d : List ℕ) → length s ≡ state_length p → n * p.rate ≤ length d
        → after p.rate (message_block p back) n s (given p.rate (message_block p plain) (crypt p) n s d)
        ≡ after p.rate (message_block p plain) n s d
    after-crypted =
        after-back p.rate (message_block p plain) (message_block p back) (crypt p) (crypt p)
        (λ s. length s ≡ state_length p) (whole-state plain) whole-block follows undone_block

    given-crypted : (n : ℕ) (s d : List ℕ) → length s ≡ state_length p → n * p.rate ≤ length d
        → given p.rate (message_block p back) (crypt p) n s (given p.rate (message_block p plain) (crypt p) n s d)
        ≡ take (n * p.rate) d
    given-crypted =
        given_back p.rate (message_block p plain) (message_block p back) (crypt p) (crypt p)
        (λ s. length s ≡ state_length p) (whole-state plain) whole-block follows undone_block

    -- the whole: its blocks, and its last block
    module _ (s d : List ℕ) (hs : length s ≡ state_length p) where
      length-leading : length (leading_crypted p plain s d) ≡ leading p (length d) * p.rate
      length-leading = length_crypted_blocks plain (leading p (length d)) s d hs (leading_bound p (length d))

      leading-whole : leading p (length d) * p.rate ≤ length (leading_crypted p plain s d)
      leading-whole = omega (arith, length-leading)

      before_last-crypted : before_last p back s (crypted p plain s d) ≡ before_last p plain s d
      unfolding before_last
      before_last-crypted =
          rw (
            length-crypted plain s d hs,
            parts p plain s d,
            after-append p.rate (message_block p back) (leading p (length d)) s (leading_crypted p plain s d)
                (last_crypted p plain s d) leading-whole,
          )
          (after-crypted (leading p (length d)) s d hs (leading_bound p (length d)))

      last_block-crypted : last_block p (crypted p plain s d) ≡ last_crypted p plain s d
      unfolding last_block
      last_block-crypted =
          rw (length-crypted plain s d hs, parts p plain s d)
          (drop_at (leading_crypted p plain s d) (last_crypted p plain s d) (leading p (length d) * p.rate) length-leading)

      given-leading : given p.rate (message_block p back) (crypt p) (leading p (length d)) s (crypted p plain s d)
          ≡ take (leading p (length d) * p.rate) d
      given-leading =
          rw (
            parts p plain s d,
            given-append p.rate (message_block p back) (crypt p) (leading p (length d)) s (leading_crypted p plain s d)
                (last_crypted p plain s d) leading-whole,
          )
          (given-crypted (leading p (length d)) s d hs (leading_bound p (length d)))

      -- what the first gives, the second gives back
      crypted-crypted : crypted p back s (crypted p plain s d) ≡ d
      crypted-crypted =
          parts p back s (crypted p plain s d)
          ∙ rw (
            length-crypted plain s d hs,
            before_last-crypted,
            last_block-crypted,
            given-leading,
            crypt-crypt (before_last p plain s d) (last_block p d) (length-before_last plain s d hs) (last_block-fits d),
          )
          (leading_and_last p d)

    -- and both end in the same state
    message-crypted : (s d : List ℕ) → length s ≡ state_length p
        → message p back s (crypted p plain s d) ≡ message p plain s d
    unfolding message if_empty
    message-crypted s [] hs =
        let none : length (crypted p plain s []) ≤ 0 = omega (arith, length-crypted plain s [] hs) in
        ap (message p back s) (drop_of_length-le (crypted p plain s []) none)
    message-crypted s (x ∷ d) hs =
        let m = x ∷ d in
        message_some p back s (crypted p plain s m) (omega (arith, length-crypted plain s m hs))
        ∙ rw (
          before_last-crypted s m hs,
          last_block-crypted s m hs,
          same-plain (before_last p plain s m) (last_block p m) (length-before_last plain s m hs) (last_block-fits m),
        )

  -- Opening what was sealed.
  opening-crypt : (s b : List ℕ) → length s ≡ state_length p → length b ≤ p.rate
      → opening p s (crypt p s b) ≡ sealing p s b
  unfolding opening sealing
  opening-crypt = crypt-crypt

  -- Sealing what was opened.
  sealing-crypt : (s b : List ℕ) → length s ≡ state_length p → length b ≤ p.rate
      → sealing p s (crypt p s b) ≡ opening p s b
  unfolding opening sealing
  sealing-crypt s b hs hb = refl

  module _ (s d : List ℕ) (hs : length s ≡ state_length p) where
    pub open_seal : crypted p (opening p) s (crypted p (sealing p) s d) ≡ d
    open_seal = crypted-crypted (sealing p) (opening p) opening-crypt s d hs

    pub open_state : message p (opening p) s (crypted p (sealing p) s d) ≡ message p (sealing p) s d
    open_state = message-crypted (sealing p) (opening p) opening-crypt s d hs

    pub seal_open : crypted p (sealing p) s (crypted p (opening p) s d) ≡ d
    seal_open = crypted-crypted (opening p) (sealing p) sealing-crypt s d hs

    pub state_of_opened : message p (sealing p) s (crypted p (opening p) s d) ≡ message p (opening p) s d
    state_of_opened = message-crypted (opening p) (sealing p) sealing-crypt s d hs

    -- the same for n blocks
    module _ (n : ℕ) (hn : n * p.rate ≤ length d) where
      pub open_seal_blocks : given p.rate (message_block p (opening p)) (crypt p) n s
          (given p.rate (message_block p (sealing p)) (crypt p) n s d) ≡ take (n * p.rate) d
      open_seal_blocks = given-crypted (sealing p) (opening p) opening-crypt n s d hs hn

      pub open_state_blocks : after p.rate (message_block p (opening p)) n s
          (given p.rate (message_block p (sealing p)) (crypt p) n s d) ≡ after p.rate (message_block p (sealing p)) n s d
      open_state_blocks = after-crypted (sealing p) (opening p) opening-crypt n s d hs hn

      pub seal_open_blocks : given p.rate (message_block p (sealing p)) (crypt p) n s
          (given p.rate (message_block p (opening p)) (crypt p) n s d) ≡ take (n * p.rate) d
      seal_open_blocks = given-crypted (opening p) (sealing p) sealing-crypt n s d hs hn

      pub state_of_opened_blocks : after p.rate (message_block p (sealing p)) n s
          (given p.rate (message_block p (opening p)) (crypt p) n s d) ≡ after p.rate (message_block p (opening p)) n s d
      state_of_opened_blocks = after-crypted (opening p) (sealing p) sealing-crypt n s d hs hn

-- `same` answers true exactly for equal lists.
same_self : (u : List ℕ) → same u u ≡ true
unfolding same
same_self [] = refl
same_self (a ∷ u) = rw (eq-eqb a a refl) (same_self u)

pub same_of_equal : (u v : List ℕ) → u ≡ v → same u v ≡ true
same_of_equal u v e = rw e (same_self v)

pub both_true : (c d : Bool) → cond c d false ≡ true → (c ≡ true) × (d ≡ true)
both_true true d e = (refl, e)
both_true false d e = (e, absurd (let z : ◌≡◌ {A = ℕ} 0 1 = cc in omega arith))

pub equal_of_same : (u v : List ℕ) → same u v ≡ true → u ≡ v
unfolding same
equal_of_same [] [] e = refl
equal_of_same [] (b ∷ v) e = absurd (let z : ◌≡◌ {A = ℕ} 0 1 = cc in omega arith)
equal_of_same (a ∷ u) [] e = absurd (let z : ◌≡◌ {A = ℕ} 0 1 = cc in omega arith)
equal_of_same (a ∷ u) (b ∷ v) e =
    let t = both_true (eqb a b) (same u v) e in
    ap₂ (λ (x : ℕ) (l : List ℕ). x ∷ l) (eqb-true a b t.0) (equal_of_same u v t.1)

-- A packet is its body and the tag received.
parted : (p : Params) (packet : List ℕ) → body p packet ++ received p packet ≡ packet
unfolding body received
parted p packet = take-append-drop (length packet - p.key) packet

pub verified_iff : (p : Params) (key nonce header packet : List ℕ)
    → (verified p key nonce header packet ≡ true)
    ↔ (received p packet ≡ tag p key nonce header (decrypt p key nonce header (body p packet)))
unfolding verified
verified_iff p key nonce header packet = (equal_of_same _ _, same_of_equal _ _)

module _ (p : Params) (h : Sizes p) where
  pub length-tag_of : (key s : List ℕ) → length key ≡ p.key → length s ≡ state_length p → length (tag_of p key s) ≡ p.key
  unfolding tag_of
  length-tag_of key s hk hs =
      simp (length-to_bytes, length-xors) (omega (arith, length-inner p h s hs, length-to_words key (omega arith)))

  -- Whole packets, for every key, nonce and header.
  module _ (key nonce header : List ℕ) where
    start : length (prepared p key nonce header) ≡ state_length p
    start = length-prepared p h key nonce header

    pub decrypt-encrypt : (m : List ℕ) → decrypt p key nonce header (encrypt p key nonce header m) ≡ m
    unfolding encrypt decrypt
    decrypt-encrypt m = open_seal p h (prepared p key nonce header) m start

    pub encrypt-decrypt : (c : List ℕ) → encrypt p key nonce header (decrypt p key nonce header c) ≡ c
    unfolding encrypt decrypt
    encrypt-decrypt c = seal_open p h (prepared p key nonce header) c start

    pub length-encrypt : (m : List ℕ) → length (encrypt p key nonce header m) ≡ length m
    unfolding encrypt
    length-encrypt m = length-crypted p h (sealing p) (prepared p key nonce header) m start

    pub length-decrypt : (c : List ℕ) → length (decrypt p key nonce header c) ≡ length c
    unfolding decrypt
    length-decrypt c = length-crypted p h (opening p) (prepared p key nonce header) c start

    -- the tag of what a ciphertext decrypts to, from the state of opening it
    pub tag_of_opened : (c : List ℕ) → tag p key nonce header (decrypt p key nonce header c)
        ≡ tag_of p key (message p (opening p) (prepared p key nonce header) c)
    unfolding tag decrypt
    tag_of_opened c = ap (tag_of p key) (state_of_opened p h (prepared p key nonce header) c start)

    -- what verifies was sealed
    pub seal-verified : (packet : List ℕ) → verified p key nonce header packet ≡ true
        → seal p key nonce header (decrypt p key nonce header (body p packet)) ≡ packet
    unfolding seal
    seal-verified packet v =
        ap₂ (λ (c t : List ℕ). c ++ t) (encrypt-decrypt (body p packet)) (sym ((verified_iff p key nonce header packet).0 v))
        ∙ parted p packet

    module _ (hk : length key ≡ p.key) (m : List ℕ) where
      pub length-tag : length (tag p key nonce header m) ≡ p.key
      unfolding tag
      length-tag =
          length-tag_of key (message p (sealing p) (prepared p key nonce header) m) hk
          (length-message p h (sealing p) (prepared p key nonce header) m start)

      pub length-seal : length (seal p key nonce header m) ≡ length m + p.key
      unfolding seal
      length-seal = simp length-append (omega (arith, length-encrypt m, length-tag))

      -- where the tag begins
      tag-begins : length (encrypt p key nonce header m) ≡ length (seal p key nonce header m) - p.key
      tag-begins = omega (arith, length-encrypt m, length-seal)

      pub body-seal : body p (seal p key nonce header m) ≡ encrypt p key nonce header m
      unfolding body seal
      body-seal = take_at (encrypt p key nonce header m) (tag p key nonce header m) _ tag-begins

      pub received-seal : received p (seal p key nonce header m) ≡ tag p key nonce header m
      unfolding received seal
      received-seal = drop_at (encrypt p key nonce header m) (tag p key nonce header m) _ tag-begins

      -- what is sealed verifies
      pub verified-seal : verified p key nonce header (seal p key nonce header m) ≡ true
      verified-seal =
          (verified_iff p key nonce header (seal p key nonce header m)).1 (rw (body-seal, received-seal, decrypt-encrypt m))
