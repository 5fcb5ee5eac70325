-- A whole packet at once: by points of the message it is the same as by the calls of a new engine. The point where the data
-- begins has the specification's state, `prepared`, and a new engine has no pair that could repeat.
use Rattle.std.proofs.Common.{◌≡◌, ℕ, ◌+◌, ◌*◌, ◌<◌, ◌≤◌, min, Bool, true, false, cond, List, [], ◌∷◌, ◌++◌, length, take, drop, refl, ap, ◌∙◌, arith, length-drop, take-append-drop, Result, Ok, Err}
use Rattle.schwaemm.specs.Bytes.{if_empty}
use Rattle.schwaemm.specs.Blocks.{after, held}
use Rattle.schwaemm.specs.Schwaemm.{Params, Sizes, leading, initialise, absorb_block, mix_last, absorb, prepared}
use Rattle.schwaemm.proofs.Cut.{after-keeps, rest_below, length-held}
use Rattle.schwaemm.proofs.States.{state_length, length-initialise, length-absorb_block, length-mix_last}
use Rattle.tc_aead_cipher.specs.declared.variant.SparkleVariant.{SparkleVariant}
use Rattle.tc_aead_cipher.specs.declared.phase.Direction.{Direction}
use Rattle.tc_aead_cipher.specs.declared.phase.Phase.{Phase}
use Rattle.tc_aead_cipher.specs.declared.phase.Phase.TheVariants.{Data}
use Rattle.tc_aead_cipher.specs.declared.aead_error.AeadError.{AeadError}
use Rattle.tc_aead_cipher.specs.declared.aead_init_error.AeadInitError.{AeadInitError}
use Rattle.tc_aead_cipher.specs.Variant.{params_of}
use Rattle.tc_aead_cipher.specs.Checks.{opening, held_data, update_len, data_check, start_check}
use Rattle.tc_aead_cipher.specs.Outcome.{outcome, start_outcome}
use Rattle.tc_aead_cipher.specs.Reply.{reply_of}
use Rattle.tc_aead_cipher.proofs.VariantLaws.{Small, sizes, small}
use Rattle.tc_sparkle_aead.specs.declared.message.Point.{Point}
use Rattle.tc_sparkle_aead.specs.declared.engine.Pair.{Pair}
use Rattle.tc_sparkle_aead.specs.declared.engine.SparkleEngine.{SparkleEngine}
use Rattle.tc_sparkle_aead.specs.Message.{in_array, state_in, put_state, no_mac, readable, buffered, stream, block_count, streamed, start_point, absorb_header, without_header, after_header, begin_point, data_from, stream_out, written, seal_end, tag_matches, open_end_by}
use Rattle.tc_sparkle_aead.specs.Engine.{no_pair, repeats, remember, current_key, new_engine}
use Rattle.tc_sparkle_aead.specs.Calls.{at_point, started, init_by, init, begin_by, begin_data, data_in, data_out, process_bytes, process_bytes_out, answered, seal_final, open_final_by, open_final, final_by, final_bytes, final_out_by, final_answer, do_final, do_final_out}
use Rattle.tc_sparkle_aead.specs.Calls.{data_by as engineDataBy, data_out_by}
use Rattle.tc_sparkle_aead.specs.Sheet.{step}
use Rattle.tc_sparkle_aead.specs.Packet.{PacketResult, end_by, end_packet, data_by, data_packet, start_by, variant_packet, data_point, point_end_by, point_end}
use Rattle.tc_sparkle_aead.proofs.StateLaws.{all-in_array, state_put, put_put, state-fits}
use Rattle.tc_sparkle_aead.proofs.Points.{put_state-array}
use Rattle.tc_sparkle_aead.proofs.BeginLaws.{begin_current, begin_parts}

-- ---- The point where the data begins.

module _ (p : Params) (h : Sizes p) (f : Small p) where
  -- the last block of a header is taken up
  pub header-last : (s header w block : List ℕ) (count : ℕ) → length s ≡ state_length p → 0 < length header
      → count ≡ leading p (length header)
      → w ≡ put_state p (in_array 16 s) (after p.rate (absorb_block p) count (state_in p (in_array 16 s)) header)
      → block ≡ drop (count * p.rate) header
      → put_state p w (mix_last p 0 (state_in p w) block) ≡ in_array 16 (absorb p s header)
  unfolding absorb if_empty state_in
  header-last s [] w block count hs some ec ew eb = absurd (omega arith)
  header-last s (x ∷ header) w block count hs some ec ew eb =
      let n = state_length p in
      let d = x ∷ header in
      let found = all-in_array n 16 s hs (state-fits p h f) in
      let s₁ = after p.rate (absorb_block p) (leading p (length d)) s d in
      let ew₁ : w ≡ put_state p (in_array 16 s) s₁ = ew ∙ rw (ec, found) refl in
      let hs₁ = after-keeps p.rate (absorb_block p) (λ t. length t ≡ n) (λ t b k. length-absorb_block p h t b) (leading p (length d)) s d hs in
      let last = mix_last p 0 s₁ (drop (leading p (length d) * p.rate) d) in
      rw (ew₁, eb, ec, state_put p (in_array 16 s) s₁ hs₁, put_put p (in_array 16 s) s₁ last hs₁)
      (put_state-array p h f s last hs (length-mix_last p h 0 _ _))

  -- of the header at most a block is held
  held_fits : (header : List ℕ) → length (held p.rate 0 header) ≤ p.rate
  held_fits header =
      omega (arith, length-held p.rate 0 header, rest_below p.rate 0 h.rate_positive (length header))

  held-block : (header : List ℕ)
      → take (min (length (held p.rate 0 header)) p.rate) (in_array 64 (held p.rate 0 header)) ≡ held p.rate 0 header
  held-block header =
      let block = held p.rate 0 header in
      let fits = held_fits header in
      let all : min (length block) p.rate ≡ length block = omega arith in
      ap (λ (n : ℕ). take n (in_array 64 block)) all ∙ all-in_array (length block) 64 block refl (omega arith)

  module _ (d : Direction) (key nonce : List ℕ) where
    -- after a start and its header, the data begins with the specification's state
    pub begins-prepared : (header : List ℕ)
        → let at = absorb_header p d (start_point p d key nonce) header in
        begin_point p at.phase at ≡ data_point d (in_array 16 (prepared p key nonce header))
    unfolding absorb_header start_point without_header after_header streamed stream buffered block_count leading held prepared absorb if_empty data_point
    begins-prepared [] = refl
    begins-prepared (x ∷ header) =
        ap (data_point d)
        (header-last (initialise p key nonce) (x ∷ header) _ _ _ (length-initialise p h key nonce) (omega arith) refl refl
        (held-block (x ∷ header)))

    -- no bytes of the data are held there
    none-held : held_data p (Data d) 0 ≡ 0
    none-held = omega arith

    pub check-prepared : (header : List ℕ) (n available : ℕ)
        → let at = absorb_header p d (start_point p d key nonce) header in
        data_check p at.phase at.held n available ≡ data_check p (Data d) 0 n available
    unfolding absorb_header start_point streamed data_check update_len
    check-prepared [] n available = rw none-held refl
    check-prepared (x ∷ header) n available = rw none-held refl

-- ---- The end.

-- the key that a start loads is the key
pub key-remembered : (p : Params) → Small p → (old : Pair) (key nonce : List ℕ) → length key ≡ p.key
    → current_key p (remember old key nonce) ≡ key
unfolding current_key remember
key-remembered p f old key nonce hk = all-in_array p.key 32 key hk f.key

-- an end that is taken, by its direction and by whether the received tag is right
ended_by : (opens right : Bool) (e : SparkleEngine) (n m : ℕ) (out : List ℕ)
    → let p = params_of e.variant in
    let key = current_key p e.pair in
    end_by n (outcome (cond opens (open_final_by right e m) (seal_final e m)).answer) out
    ≡ record {
      reply =
          reply_of (outcome (answered (Ok (n + m))
          (cond opens (open_end_by right p key e.current).mac (seal_end p key e.current).mac)));
      out = out;
    }
unfolding seal_final readable no_mac
ended_by true true e n m out = refl
ended_by true false e n m out = refl
ended_by false right e n m out = refl

module _ (e : SparkleEngine) (d : Direction) (is : e.current.phase ≡ Data d) (n : ℕ) (out : List ℕ) where
  -- the data has begun
  begun : begin_data e ≡ e
  unfolding begin_data
  begun = ap (λ (phase : Phase). begin_by phase e) is

  end_by_lem : (k : Result ℕ AeadError)
      → end_by n (outcome (final_by k e).answer) (take n out ++ final_out_by k e (drop n out))
      ≡ point_end_by k n (params_of e.variant) (current_key (params_of e.variant) e.pair) e.current out
  unfolding open_final
  end_by_lem (Err x) = ap (λ (l : List ℕ). record { reply = reply_of (outcome (Err x)); out = l }) (take-append-drop n out)
  end_by_lem (Ok m) =
      let p = params_of e.variant in
      rw begun
      (ended_by (opening e.current.phase) (tag_matches p (current_key p e.pair) e.current) e n m
      (take n out ++ written (final_bytes (opening e.current.phase) e) (drop n out)))

  -- an end on an engine is the end at its point under its key
  pub end_at_point : end_packet n e out
      ≡ point_end n (params_of e.variant) (current_key (params_of e.variant) e.pair) e.current out
  unfolding end_packet step do_final do_final_out point_end
  end_at_point =
      end_by_lem (final_answer e (length (drop n out)))
      ∙ ap (λ (k : ℕ). point_end_by (final_answer e k) n (params_of e.variant) (current_key (params_of e.variant) e.pair) e.current out)
      (length-drop n out)

-- ---- The packet.

module _ (v : SparkleVariant) (d : Direction) (key nonce header input out : List ℕ) where
  -- the start goes by a check in which nothing repeats
  start-by : (k : Result (Unit {0}) AeadInitError) → start_check v d (length key) (length nonce) (params_of v).key false ≡ k
      → variant_packet v d key nonce header input out
      ≡ start_by (start_outcome (init_by k (new_engine v) d key nonce header).answer) (init_by k (new_engine v) d key nonce header).engine input out
  unfolding variant_packet step init new_engine repeats no_pair
  start-by k e =
      ap (λ (x : Result (Unit {0}) AeadInitError).
      start_by (start_outcome (init_by x (new_engine v) d key nonce header).answer) (init_by x (new_engine v) d key nonce header).engine input out) e

  pub packet_not_started : (x : AeadInitError) → start_check v d (length key) (length nonce) (params_of v).key false ≡ Err x
      → variant_packet v d key nonce header input out ≡ record { reply = reply_of (start_outcome (Err x)); out = out }
  packet_not_started x e = start-by (Err x) e

  -- the engine after the start
  abbrev e₁ : SparkleEngine
  e₁ = started (new_engine v) d key nonce header

  module _ (passed : start_check v d (length key) (length nonce) (params_of v).key false ≡ Ok tt) where
    data-by : (k : Result ℕ AeadError) → data_check (params_of v) (Data d) 0 (length input) (length out) ≡ k
        → variant_packet v d key nonce header input out
        ≡ data_by (outcome (engineDataBy k e₁ input).answer) (engineDataBy k e₁ input).engine (data_out_by k e₁ input out)
    unfolding data_packet step process_bytes process_bytes_out started new_engine
    data-by k e =
        start-by (Ok tt) passed
        ∙ ap (λ (x : Result ℕ AeadError). data_by (outcome (engineDataBy x e₁ input).answer) (engineDataBy x e₁ input).engine (data_out_by x e₁ input out))
        (check-prepared (params_of v) (sizes v) (small v) d key nonce header (length input) (length out) ∙ e)

    pub packet_no_room : (x : AeadError) → data_check (params_of v) (Data d) 0 (length input) (length out) ≡ Err x
        → variant_packet v d key nonce header input out ≡ record { reply = reply_of (outcome (Err x)); out = out }
    packet_no_room x e = data-by (Err x) e

    -- where the data begins
    begins : begin_point (params_of v) e₁.current.phase e₁.current ≡ data_point d (in_array 16 (prepared (params_of v) key nonce header))
    unfolding started new_engine
    begins = begins-prepared (params_of v) (sizes v) (small v) d key nonce header

    in-data : (data_in (begin_data e₁) input).current.phase ≡ Data d
    unfolding data_in at_point streamed begin_data data_point started new_engine
    in-data = ap (λ (at : Point). at.phase) (begin_current e₁ e₁.current.phase ∙ begins)

    -- the end, from the parts of the engine in which the data begins
    abbrev ended : ℕ → SparkleVariant → Pair → Point → PacketResult
    ended n w pair at =
        let p = params_of w in point_end n p (current_key p pair) (data_from p at input).point (written (stream_out p at input) out)

    pub packet-ended : length key ≡ (params_of v).key → (n : ℕ) → data_check (params_of v) (Data d) 0 (length input) (length out) ≡ Ok n
        → let p = params_of v in
        let at = data_point d (in_array 16 (prepared p key nonce header)) in
        variant_packet v d key nonce header input out
        ≡ point_end n p key (data_from p at input).point (written (stream_out p at input) out)
    unfolding data_in data_out at_point begin_data started new_engine
    packet-ended hk n e =
        let p = params_of v in
        let at = data_point d (in_array 16 (prepared p key nonce header)) in
        data-by (Ok n) e
        ∙ end_at_point (data_in (begin_data e₁) input) d in-data n (written (data_out (begin_data e₁) input) out)
        ∙ begin_parts e₁ (ended n) e₁.current.phase
        ∙ ap (ended n v (remember no_pair key nonce)) begins
        ∙ ap (λ (k : List ℕ). point_end n p k (data_from p at input).point (written (stream_out p at input) out))
        (key-remembered p (small v) no_pair key nonce hk)
