-- What `whole.rt` makes of a packet, piece by piece and over plain variables: the specification's state after a header, and
-- the point of the data from the words alone, where no bytes are held.
use Rattle.std.proofs.Common.{◌≡◌, ℕ, ◌+◌, ◌-◌, ◌*◌, ◌<◌, ◌≤◌, Bool, true, false, cond, ltb, List, [], ◌∷◌, ◌++◌, length, take, drop, sym, refl, ap, ◌∙◌, ap₂, arith, length-drop, ltb-false, Result, Ok, Err}
use Rattle.std.proofs.lemmas.List.{take_rest}
use Rattle.schwaemm.specs.Bytes.{if_empty}
use Rattle.schwaemm.specs.Blocks.{ready, after, given, held}
use Rattle.schwaemm.specs.Schwaemm.{Params, leading, crypt, sealing, initialise, absorb_block, message_block, mix_last, absorb, prepared}
use Rattle.schwaemm.proofs.Cut.{ready_bound}
use Rattle.schwaemm.proofs.States.{length-initialise}
use Rattle.schwaemm.proofs.RoundTrip.{length_crypted_blocks}
use Rattle.tc_aead_cipher.specs.declared.variant.SparkleVariant.{SparkleVariant}
use Rattle.tc_aead_cipher.specs.declared.phase.Direction.{Direction}
use Rattle.tc_aead_cipher.specs.declared.phase.Phase.{Phase}
use Rattle.tc_aead_cipher.specs.declared.phase.Phase.TheVariants.{Data}
use Rattle.tc_aead_cipher.specs.declared.aead_error.AeadError.{AeadError}
use Rattle.tc_aead_cipher.specs.declared.aead_error.AeadError.TheVariants.{OutputTooShort, CiphertextTooShort, AuthenticationFailed}
use Rattle.tc_aead_cipher.specs.declared.aead_init_error.AeadInitError.{AeadInitError}
use Rattle.tc_aead_cipher.specs.Variant.{params_of}
use Rattle.tc_aead_cipher.specs.Checks.{direction_of, opening, keep, held_data, then, room, whole, phase_check, update_len, total_len, data_check, end_check, start_check}
use Rattle.tc_aead_cipher.specs.Outcome.{outcome, start_outcome}
use Rattle.tc_aead_cipher.specs.Reply.{reply_of}
use Rattle.tc_aead_cipher.proofs.VariantLaws.{sizes, small}
use Rattle.tc_aead_cipher.proofs.CheckLaws.{start_check_lengths}
use Rattle.tc_sparkle_aead.specs.declared.message.Point.{Point}
use Rattle.tc_sparkle_aead.specs.declared.message.Mac.{Mac}
use Rattle.tc_sparkle_aead.specs.declared.message.End.{End}
use Rattle.tc_sparkle_aead.specs.Message.{in_array, state_in, put_state, readable, buffered_count, buffered, stream, block_count, streamed, plain_by, plain_of, xor_last, block_step, blocks_out, data_from, stream_out, written, seal_end, seal_out, open_end, open_out}
use Rattle.tc_sparkle_aead.specs.Calls.{answered}
use Rattle.tc_sparkle_aead.specs.Packet.{PacketResult, data_point, end_mac, end_bytes, point_end_by, point_end, variant_packet}
use Rattle.tc_sparkle_aead.proofs.Fill.{length-zeros}
use Rattle.tc_sparkle_aead.proofs.StateLaws.{all-in_array, xor_last-none, length-state_in}
use Rattle.tc_sparkle_aead.proofs.ByteLaws.{lent_back}
use Rattle.tc_sparkle_aead.proofs.DataLaws.{data-room}
use Rattle.tc_sparkle_aead.proofs.FinalLaws.{held_data_bound, sealing-room, opening-room, opening-whole}
use Rattle.tc_sparkle_aead.proofs.PacketLaws.{header-last, packet_not_started, packet_no_room, packet-ended}

-- ---- Blocks.

-- a block of the message, and one of the header
step-message : (p : Params) (opens : Bool) → block_step p false opens ≡ message_block p (plain_by p opens)
unfolding block_step message_block
step-message p opens = refl

step-absorb : (p : Params) → block_step p false false ≡ absorb_block p
unfolding block_step absorb_block plain_by sealing
step-absorb p = refl

-- ---- The start and the header.

absorb-none : (p : Params) (s header : List ℕ) → length header ≡ 0 → s ≡ absorb p s header
unfolding absorb if_empty
absorb-none p s [] e = refl
absorb-none p s (x ∷ header) e = absurd (omega arith)

module _ (v : SparkleVariant) (key nonce header w : List ℕ) (start : w ≡ in_array 16 (initialise (params_of v) key nonce)) where
  pub prepared-none : length header ≡ 0 → w ≡ in_array 16 (prepared (params_of v) key nonce header)
  unfolding prepared
  prepared-none none = start ∙ ap (in_array 16) (absorb-none (params_of v) (initialise (params_of v) key nonce) header none)

  pub prepared_some : (count rate : ℕ) → count ≡ ready (params_of v).rate 0 (length header) → rate ≡ (params_of v).rate
      → 0 < length header → (w₁ r : List ℕ)
      → w₁
      ≡ put_state (params_of v) w
      (after (params_of v).rate (block_step (params_of v) false false) count (xor_last (params_of v) 0 (state_in (params_of v) w)) header)
      → r ≡ put_state (params_of v) w₁ (mix_last (params_of v) 0 (state_in (params_of v) w₁) (take (length header - count * rate) (drop (count * rate) header)))
      → r ≡ in_array 16 (prepared (params_of v) key nonce header)
  unfolding prepared leading
  prepared_some count rate ec er some w₁ r ew e =
      let p = params_of v in
      let s = initialise p key nonce in
      let rest = length header - count * rate in
      let words : w₁ ≡ put_state p (in_array 16 s) (after p.rate (absorb_block p) count (state_in p (in_array 16 s)) header) =
      ew ∙ rw (xor_last-none p (state_in p w), step-absorb p, start) refl in
      let block : take rest (drop (count * rate) header) ≡ drop (count * p.rate) header =
      take_rest header (count * rate) ∙ ap (λ (k : ℕ). drop (count * k) header) er in
      e ∙ header-last p (sizes v) (small v) s header w₁ (take rest (drop (count * rate) header)) count (length-initialise p (sizes v) key nonce) some ec words block

-- ---- The data.

module _ (p : Params) (d : Direction) (words input : List ℕ) where
  -- no bytes are held where it begins
  none-held : held_data p (Data d) 0 ≡ 0
  none-held = omega arith

  stream-none : stream p (data_point d words) input ≡ input
  unfolding stream buffered data_point
  stream-none = rw none-held refl

  pub count_none : (k : ℕ) → block_count p k (data_point d words) input ≡ ready p.rate k (length input)
  unfolding block_count
  count_none k = ap (λ (t : List ℕ). ready p.rate k (length t)) stream-none

  streamed-none : (k : ℕ) (next : List ℕ → List ℕ → List ℕ)
      → ◌≡◌ {A = Point}
      (record {
        phase = Data d;
        words = put_state p words (after p.rate next (ready p.rate k (length input)) (state_in p words) input);
        buffer = in_array 64 (held p.rate k input);
        held = length (held p.rate k input);
      })
      (streamed p k next (Data d) (data_point d words) input)
  unfolding streamed block_count data_point
  streamed-none k next =
      ap (λ (t : List ℕ). record {
        phase = Data d;
        words = put_state p words (after p.rate next (ready p.rate k (length t)) (state_in p words) t);
        buffer = in_array 64 (held p.rate k t);
        held = length (held p.rate k t);
      }) (sym stream-none)

  pub given-none : (count : ℕ) → count ≡ ready p.rate (keep p (Data d)) (length input)
      → given p.rate (message_block p (plain_of p (Data d))) (crypt p) count (state_in p words) input
      ≡ stream_out p (data_point d words) input
  unfolding stream_out data_point
  given-none count ec =
      ap₂ (λ (n : ℕ) (t : List ℕ). given p.rate (message_block p (plain_of p (Data d))) (crypt p) n (state_in p words) t)
      (ec ∙ sym (count_none (keep p (Data d)))) (sym stream-none)

module _ (v : SparkleVariant) (d : Direction) (words input : List ℕ) (opens : Bool) (count : ℕ)
    (em : opens ≡ opening (Data d))
    (ec : count ≡ ready (params_of v).rate (keep (params_of v) (Data d)) (length input)) where
  -- the blocks that the direction asks for are those of the message
  the_step : block_step (params_of v) false opens ≡ message_block (params_of v) (plain_of (params_of v) (Data d))
  unfolding plain_of
  the_step = ap (block_step (params_of v) false) em ∙ step-message (params_of v) (opening (Data d))

  pub data-point : (rate : ℕ) → rate ≡ (params_of v).rate → (w buffer : List ℕ)
      → w
      ≡ put_state (params_of v) words
      (after (params_of v).rate (block_step (params_of v) false opens) count (xor_last (params_of v) 0 (state_in (params_of v) words)) input)
      → buffer ≡ in_array 64 (take (length input - count * rate) (drop (count * rate) input))
      → ◌≡◌ {A = Point} (record { phase = Data d; words = w; buffer = buffer; held = length (take (length input - count * rate) (drop (count * rate) input)) })
      (data_from (params_of v) (data_point d words) input).point
  unfolding held data_point
  data-point rate er w buffer ew eb =
      let p = params_of v in
      let k = keep p (Data d) in
      let rest = length input - count * rate in
      let gone : count * rate ≡ ready p.rate k (length input) * p.rate = ap₂ ◌*◌ ec er in
      let ew' : w ≡ put_state p words (after p.rate (message_block p (plain_of p (Data d))) (ready p.rate k (length input)) (state_in p words) input) =
      ew ∙ rw (xor_last-none p (state_in p words), the_step, ec) refl in
      let left : take rest (drop (count * rate) input) ≡ held p.rate k input =
      take_rest input (count * rate) ∙ ap (λ (n : ℕ). drop n input) gone in
      let eb' = eb ∙ ap (in_array 64) left in
      let eh = ap length left in
      (λ i. record { phase = Data d; words = ew' i; buffer = eb' i; held = eh i })
      ∙ streamed-none p d words input k (message_block p (plain_of p (Data d)))

  pub data-written : length words ≡ 16 → (write : Bool) (out out₁ : List ℕ)
      → out₁ ≡ blocks_out (params_of v) false opens write count (xor_last (params_of v) 0 (state_in (params_of v) words)) input out
      → out₁ ≡ cond write (written (stream_out (params_of v) (data_point d words) input) out) out
  unfolding blocks_out written stream_out block_count
  data-written hw false out out₁ e = e
  data-written hw true out out₁ e =
      let p = params_of v in
      let plain = plain_of p (Data d) in
      let g = given p.rate (message_block p plain) (crypt p) count (state_in p words) input in
      let blocks : out₁ ≡ g ++ drop (count * p.rate) out = e ∙ rw (xor_last-none p (state_in p words), the_step) refl in
      let long : length g ≡ count * p.rate =
      length_crypted_blocks p (sizes v) plain count (state_in p words) input (length-state_in p (sizes v) (small v) words hw)
      (rw ec (ready_bound p.rate (keep p (Data d)) (length input))) in
      let given_is : g ≡ stream_out p (data_point d words) input = given-none p d words input count ec in
      blocks ∙ ap (λ (n : ℕ). g ++ drop n out) (sym long) ∙ ap (λ (l : List ℕ). l ++ drop (length l) out) given_is

-- ---- What a check counts is at most what the output holds.

abbrev is_ok : Result ℕ AeadError → ℕ
is_ok (Ok n) = 1
is_ok (Err e) = 0

abbrev count_of : Result ℕ AeadError → ℕ
count_of (Ok n) = n
count_of (Err e) = 0

ok-count : {m n : ℕ} → ◌≡◌ {A = Result ℕ AeadError} (Ok m) (Ok n) → m ≡ n
ok-count e = ap count_of e

not-ok : {x : AeadError} {n : ℕ} → ◌≡◌ {A = Result ℕ AeadError} (Err x) (Ok n) → ⊥
not-ok e =
    let z : ◌≡◌ {A = ℕ} 0 1 = ap is_ok e in omega arith

-- an answer's count is at most a
abbrev Below : ℕ → Result ℕ AeadError → Type 0
Below a r = (n : ℕ) → r ≡ Ok n → n ≤ a

then-below : (a : ℕ) (k : Result ℕ AeadError) (f : ℕ → Result ℕ AeadError) → ((m : ℕ) → Below a (f m)) → Below a (then k f)
then-below a (Ok m) f h n e = h m n e
then-below a (Err x) f h n e = absurd (not-ok e)

then_keeps : (a : ℕ) (k : Result ℕ AeadError) (f : ℕ → Result ℕ AeadError) → Below a k → ((m n : ℕ) → f m ≡ Ok n → m ≡ n) → Below a (then k f)
then_keeps a (Ok m) f h g n e =
    let q = g m n e in
    let b = h m refl in omega (arith, q, b)
then_keeps a (Err x) f h g n e = absurd (not-ok e)

room-below : (a m : ℕ) → Below a (room a m)
room-below a m n e = by (ltb a m) refl e
  where
    by : (b : Bool) → ltb a m ≡ b → cond b (Err (OutputTooShort m a)) (Ok m) ≡ Ok n → n ≤ a
    by true t q = absurd (not-ok q)
    by false t q =
        let s = ok-count q in
        let r = ltb-false a m t in omega (arith, s, r)

whole-keeps : (p : Params) (phase : Phase) (held m n : ℕ) → whole p phase held m ≡ Ok n → m ≡ n
whole-keeps p phase held m n e = by (opening phase) (ltb (held_data p phase held) p.key) e
  where
    by : (b t : Bool) → cond b (cond t (Err (CiphertextTooShort p.key (held_data p phase held))) (Ok m)) (Ok m) ≡ Ok n → m ≡ n
    by true true q = absurd (not-ok q)
    by true false q = ok-count q
    by false t q = ok-count q

pub data-below : (p : Params) (phase : Phase) (held n a : ℕ) → Below a (data_check p phase held n a)
unfolding data_check
data-below p phase held n a =
    then-below a (phase_check phase) (λ _. then (update_len p phase held n) (room a))
    (λ _. then-below a (update_len p phase held n) (room a) (room-below a))

pub end_below : (p : Params) (phase : Phase) (held a : ℕ) → Below a (end_check p phase held a)
unfolding end_check
end_below p phase held a =
    then-below a (phase_check phase) (λ _. then (then (total_len p phase held 0) (room a)) (whole p phase held))
    (λ _. then_keeps a (then (total_len p phase held 0) (room a)) (whole p phase held)
    (then-below a (total_len p phase held 0) (room a) (room-below a)) (whole-keeps p phase held))

-- ---- The end.

-- in Data the held bytes are those that the queries count
held_in_data : (p : Params) (phase : Phase) (d : Direction) (held : ℕ) → phase ≡ Data d
    → buffered_count p phase held ≡ held_data p phase held
held_in_data p phase d held is = rw is refl

-- the end at a point in Data, behind n bytes of the output; k is the key in an array
module _ (v : SparkleVariant) (at : Point) (key : List ℕ) (n : ℕ) (out : List ℕ) (answer : Result ℕ AeadError)
    (checked : answer ≡ end_check (params_of v) at.phase at.held (length out - n)) where
  end_by_lem : (a : Result ℕ AeadError) → answer ≡ a → point_end_by a n (params_of v) key at out ≡ point_end n (params_of v) key at out
  unfolding point_end
  end_by_lem a is = ap (λ (x : Result ℕ AeadError). point_end_by x n (params_of v) key at out) (sym is ∙ checked)

  module _ (m : ℕ) (passed : answer ≡ Ok m) where
    pub end_fits : n ≤ length out → n + m ≤ length out
    end_fits h =
        let b = end_below (params_of v) at.phase at.held (length out - n) m (sym checked ∙ passed) in omega (arith, b)

    module _ (hk : length key ≡ (params_of v).key) (k : List ℕ) (ek : k ≡ in_array 32 key) where
      -- the key in the array
      the-key : take (params_of v).key k ≡ key
      the-key = ap (take (params_of v).key) ek ∙ all-in_array (params_of v).key 32 key hk (small v).key

      -- what is written, at its place
      placed : (opens : Bool) → opens ≡ opening at.phase → (last : List ℕ)
          → last ≡ written (end_bytes opens (params_of v) (take (params_of v).key k) at) (take (length out - n) (drop n out))
          → take n out ++ (last ++ drop (length out - n) (drop n out)) ≡ (point_end n (params_of v) key at out).out
      placed opens eo last el =
          lent_back out last n
          ∙ ap (λ (l : List ℕ). take n out ++ l) (el ∙ rw (take_rest out n, the-key, eo) refl)
          ∙ ap (λ (r : PacketResult). r.out) (end_by_lem (Ok m) passed)

      replied : (opens : Bool) → opens ≡ opening at.phase → (mac : Mac)
          → mac ≡ end_mac opens (params_of v) (take (params_of v).key k) at
          → reply_of (outcome (answered (Ok (n + m)) mac)) ≡ (point_end n (params_of v) key at out).reply
      replied opens eo mac e =
          let the_mac : mac ≡ end_mac (opening at.phase) (params_of v) key at = e ∙ rw (the-key, eo) refl in
          ap (λ (x : Mac). reply_of (outcome (answered (Ok (n + m)) x))) the_mac
          ∙ ap (λ (r : PacketResult). r.reply) (end_by_lem (Ok m) passed)

      -- an opening
      module _ (opens : Bool) (is : opens ≡ opening at.phase) (opened : opens ≡ true) (end : End)
          (ee : end ≡ open_end (params_of v) (take (params_of v).key k) at) where
        pub end_opened_out : (last : List ℕ)
            → last ≡ written (open_out (params_of v) (take (params_of v).key k) at) (take (length out - n) (drop n out))
            → take n out ++ (last ++ drop (length out - n) (drop n out)) ≡ (point_end n (params_of v) key at out).out
        end_opened_out = placed true (sym opened ∙ is)

        pub end-opened : (right : Bool) → end.mac.readable ≡ right
            → reply_of (outcome (cond right (Ok (n + m)) (Err AuthenticationFailed))) ≡ (point_end n (params_of v) key at out).reply
        end-opened right er =
            ap (λ (b : Bool). reply_of (outcome (cond b (Ok (n + m)) (Err AuthenticationFailed)))) (sym er)
            ∙ replied true (sym opened ∙ is) end.mac (ap (λ (x : End). x.mac) ee)

      -- a sealing, whose tag can always be read
      module _ (opens : Bool) (is : opens ≡ opening at.phase) (seals : opens ≡ false) where
        pub end_sealed_out : (last : List ℕ)
            → last ≡ written (seal_out (params_of v) (take (params_of v).key k) at) (take (length out - n) (drop n out))
            → take n out ++ (last ++ drop (length out - n) (drop n out)) ≡ (point_end n (params_of v) key at out).out
        end_sealed_out = placed false (sym seals ∙ is)

        pub end_sealed : reply_of (outcome (Ok (n + m))) ≡ (point_end n (params_of v) key at out).reply
        unfolding readable
        end_sealed = replied false (sym seals ∙ is) (seal_end (params_of v) (take (params_of v).key k) at).mac refl

    -- what the callees ask for
    module _ (is-data : at.phase ≡ Data (direction_of at.phase)) where
      same-held : buffered_count (params_of v) at.phase at.held ≡ held_data (params_of v) at.phase at.held
      same-held = held_in_data (params_of v) at.phase (direction_of at.phase) at.held is-data

      part_length : length (take (length out - n) (drop n out)) ≡ length out - n
      part_length = ap length (take_rest out n) ∙ length-drop n out

      pub seal-fits : opening at.phase ≡ false
          → (buffered_count (params_of v) at.phase at.held ≤ (params_of v).rate)
          × (buffered_count (params_of v) at.phase at.held + (params_of v).key ≤ length (take (length out - n) (drop n out)))
      seal-fits seals =
          rw (same-held, part_length) (
            omega (arith, rw seals at (held_data_bound (params_of v) at.phase at.held)),
            sealing-room (params_of v) at.phase at.held (length out - n) m (sym checked ∙ passed) seals,
          )

      pub open_fits : opening at.phase ≡ true
          → ((params_of v).key ≤ buffered_count (params_of v) at.phase at.held)
          × (buffered_count (params_of v) at.phase at.held ≤ (params_of v).rate + (params_of v).key)
          × (buffered_count (params_of v) at.phase at.held ≤ length (take (length out - n) (drop n out)) + (params_of v).key)
      open_fits opened =
          rw (same-held, part_length) (
            opening-whole (params_of v) at.phase at.held (length out - n) m (sym checked ∙ passed) opened,
            omega (arith, rw opened at (held_data_bound (params_of v) at.phase at.held)),
            opening-room (params_of v) at.phase at.held (length out - n) m (sym checked ∙ passed) opened,
          )

-- ---- The packet, from what each part gives.

-- a data check that passes has room for the blocks
pub whole_room : (v : SparkleVariant) (d : Direction) (words input : List ℕ) (available n : ℕ)
    → data_check (params_of v) (Data d) 0 (length input) available ≡ Ok n
    → block_count (params_of v) (keep (params_of v) (Data d)) (data_point d words) input * (params_of v).rate ≤ available
unfolding data_point
whole_room v d words input available n passed =
    data-room (params_of v) (small v) (Data d) (data_point d words) refl (length-zeros 64) input available n passed

-- the data stays in Data
pub whole_in_data : (p : Params) (d : Direction) (words input : List ℕ) (at : Point) → at ≡ (data_from p (data_point d words) input).point
    → at.phase ≡ Data (direction_of at.phase)
unfolding data_point streamed
whole_in_data p d words input at e =
    let is : at.phase ≡ Data d = ap (λ (x : Point). x.phase) e in is ∙ ap (λ (x : Phase). Data (direction_of x)) (sym is)

module _ (v : SparkleVariant) (d : Direction) (key nonce header input out : List ℕ) (start : Result (Unit {0}) AeadInitError) (size : ℕ)
    (es : size ≡ (params_of v).key) (ec : start ≡ start_check v d (length key) (length nonce) size false) where
  start_is : start ≡ start_check v d (length key) (length nonce) (params_of v).key false
  start_is = rw es at ec

  pub whole_not_started : (x : AeadInitError) → start ≡ Err x
      → record { reply = reply_of (start_outcome (Err x)); out = out } ≡ variant_packet v d key nonce header input out
  whole_not_started x is = sym (packet_not_started v d key nonce header input out x (sym start_is ∙ is))

  module _ (accepted : start ≡ Ok tt) (answer : Result ℕ AeadError)
      (ea : answer ≡ data_check (params_of v) (Data d) 0 (length input) (length out)) where
    taken : start_check v d (length key) (length nonce) (params_of v).key false ≡ Ok tt
    taken = sym start_is ∙ accepted

    pub whole_no_room : (x : AeadError) → answer ≡ Err x
        → record { reply = reply_of (outcome (Err x)); out = out } ≡ variant_packet v d key nonce header input out
    whole_no_room x is = sym (packet_no_room v d key nonce header input out taken x (sym ea ∙ is))

    pub whole-ended : (n : ℕ) → answer ≡ Ok n → (words : List ℕ) → words ≡ in_array 16 (prepared (params_of v) key nonce header)
        → (at : Point) → at ≡ (data_from (params_of v) (data_point d words) input).point
        → (out₁ : List ℕ) → out₁ ≡ written (stream_out (params_of v) (data_point d words) input) out
        → point_end n (params_of v) key at out₁ ≡ variant_packet v d key nonce header input out
    whole-ended n passed words ew at et out₁ eo =
        let p = params_of v in
        let lengths = start_check_lengths v d (length key) (length nonce) p.key false taken in
        ap₂ (point_end n p key) et eo
        ∙ ap (λ (w : List ℕ).
        point_end n p key (data_from p (data_point d w) input).point (written (stream_out p (data_point d w) input) out)) ew
        ∙ sym (packet-ended v d key nonce header input out taken lengths.0 n (sym ea ∙ passed))
