-- Every call keeps the invariant, so after a list of calls the engine is a function of what the reader keeps, but for the
-- tag and the steps. By cases on the call and the phase; refused calls leave both as they are, since their checks agree.
use mathlib.Core.Path.{◌≡◌, refl, sym, ap, subst, ◌∙◌}
use mathlib.Core.Bool.{Bool, true, false, cond}
use mathlib.Core.List.{List, [], ◌∷◌, ◌++◌, append-nil}
use Prim.Native.Nat.{ℕ, suc, ◌*◌, ◌≤◌, ◌<◌}
use native.Mathlib.Omega.{arith}
use borrow.Author.Tests.{ne_eqb}
use lib.ListN.{length, length-append}
use Rattle.std.specs.Prelude.{Result, Ok, Err}
use Rattle.schwaemm.specs.Bytes.{same}
use Rattle.schwaemm.specs.Blocks.{held}
use Rattle.schwaemm.specs.Schwaemm.{Params, Sizes, crypt, prepared, sealing, opening as openingBlock, before_last, last_block, tag_of, decrypt, tag, body as body_of, verified, leading}
use Rattle.tc_aead_cipher.specs.declared.variant.SparkleVariant.{SparkleVariant}
use Rattle.tc_aead_cipher.specs.declared.phase.Direction.{Direction}
use Rattle.tc_aead_cipher.specs.declared.phase.Direction.TheVariants.{Encrypt, Decrypt}
use Rattle.tc_aead_cipher.specs.declared.phase.Phase.{Phase}
use Rattle.tc_aead_cipher.specs.declared.phase.Phase.TheVariants.{Uninitialized, Init, Aad, Data, Final}
use Rattle.tc_aead_cipher.specs.declared.aead_error.AeadError.{AeadError}
use Rattle.tc_aead_cipher.specs.declared.aead_init_error.AeadInitError.{AeadInitError}
use Rattle.tc_sparkle_aead.specs.declared.message.Mac.{Mac}
use Rattle.tc_sparkle_aead.specs.declared.engine.Steps.{Steps}
use Rattle.tc_sparkle_aead.specs.declared.engine.SparkleEngine.{SparkleEngine}
use Rattle.tc_aead_cipher.specs.Variant.{params_of}
use Rattle.tc_aead_cipher.specs.Checks.{keep, aad_check, header_check, data_check, end_check, start_check, update_len, total_len}
use Rattle.tc_sparkle_aead.specs.Message.{no_message, no_mac, state_in, buffered, block_count, absorb_header, plain_of, last_steps, final_point, readable, after_header, plain_by, without_header, seal_tag, open_block, received_tag, open_last, open_tag}
use Rattle.tc_sparkle_aead.specs.Engine.{current_key, refused_steps, reset_steps, new_engine, update_output_len, output_len}
use Rattle.tc_sparkle_aead.specs.Calls.{add_steps, at_point, refused, started, init_by, init, aad_by, process_aad_bytes, begin_data, data_in, data_by, process_bytes, final_engine, seal_final, open_final_by, open_final, final_by, do_final, data_answer, final_answer}
use Rattle.tc_sparkle_aead.specs.Calls.{reset as resetEngine}
use Rattle.tc_aead_cipher.proofs.VariantLaws.{sizes, small}
use Rattle.tc_aead_cipher.proofs.CheckLaws.{start_check_lengths}
use Rattle.tc_aead_cipher.specs.Call.{Call}
use Rattle.tc_sparkle_aead.specs.Sheet.{step, run_from, run}
use Rattle.claims.specs.Reader.{Load, after_load, last_key, last_nonce, loaded_key, loaded_nonce, Reader, new_reader, in_phase}
use Rattle.claims.specs.Reader.{header_phase, reader_held, repeated, read_start, read_header, read_message, read_end, reset_in}
use Rattle.claims.specs.Reader.{read, read_from, reader}
use Rattle.claims.specs.Refused.{Active}
use Rattle.claims.specs.Refused.Active.{in-init, in_aad, in-data}
use Rattle.tc_sparkle_aead.proofs.Points.{block_point}
use Rattle.tc_sparkle_aead.proofs.OpeningEnd.{last-state, packet-block, packet-last, packet-tag, packet-verified}
use Rattle.claims.proofs.Invariant.{head_point, data_point, point_in, initial_in, pair_in, engine_of}
use Rattle.claims.proofs.Invariant.{opened_mac, PhaseInvariant, Fits, Invariant, invariant_new, holds-init, holds_aad}
use Rattle.claims.proofs.Invariant.{head-point, started-point, begin_point_init}
use Rattle.claims.proofs.Invariant.{begin_point_aad, holds-data, state-data}
use Rattle.claims.proofs.Invariant.{data-point, is_loaded, LoadsFit, load_fits, pair-load, key_back}
use Rattle.claims.proofs.Invariant.{repeats_agree, point_held, data_agrees, update_agrees, total_agrees, end_agrees}
use Rattle.claims.proofs.Invariant.{phase_agrees, end_enough, SealingFinal}

-- ---- The calls

-- a reader by its parts, and the engine in its data
abbrev pub reader_of : List Load → (initial : List ℕ) → Phase → (header body : List ℕ) → Reader
reader_of loads initial phase header body =
    record { phase = phase; loads = loads; initial = initial; header = header; body = body }

abbrev pub in_data : SparkleVariant → List Load → (initial : List ℕ) → Direction → (header body : List ℕ) → Steps
    → SparkleEngine
in_data v loads initial d header body s = engine_of v (reader_of loads initial (Data d) header body) no_mac s

-- the steps when the data has begun
abbrev pub steps_at_data : Params → Phase → Steps → Steps
steps_at_data p Uninitialized s = s
steps_at_data p (Init d) s = add_steps 0 s
steps_at_data p (Aad d) s = add_steps p.big s
steps_at_data p (Data d) s = s
steps_at_data p (Final d) s = s

module _ (v : SparkleVariant) where
  abbrev p : Params
  p = params_of v

  module _ (loads : List Load) (initial : List ℕ) where
    abbrev key : List ℕ
    key = last_key loads

    abbrev nonce : List ℕ
    nonce = last_nonce loads

    -- the reader by its other parts, and the engine in its data
    abbrev reader_in : Phase → (header body : List ℕ) → Reader
    reader_in phase header body = reader_of loads initial phase header body

    abbrev data_engine : Direction → (header body : List ℕ) → Steps → SparkleEngine
    data_engine d header body s = in_data v loads initial d header body s

    module _ (f : LoadsFit p loads) where
      -- a header begun anew
      restart : (l : is_loaded loads ≡ true) (d : Direction) (first : List ℕ) (s : Steps)
          → Invariant v
          (record {
            variant = v;
            current = head_point p (header_phase d first) key nonce first;
            initial = head_point p (header_phase d first) key nonce first;
            pair = pair_in loads;
            mac = no_mac;
            steps = s;
          })
          (reader_of loads first (header_phase d first) first [])
      restart l d [] s =
          record { mac = no_mac; steps = s; same-engine = refl; loads_fit = f; phase_invariant = (l, refl, refl, refl) }
      restart l d (x ∷ first) s =
          record { mac = no_mac; steps = s; same-engine = refl; loads_fit = f; phase_invariant = (l, refl, omega arith, refl) }

      -- reset
      reset-keeps : (phase : Phase) (header body : List ℕ) (mac : Mac) (s : Steps)
          → PhaseInvariant p phase loads header body mac
          → Invariant v (resetEngine (engine_of v (reader_in phase header body) mac s)) (reset_in phase (reader_in phase header body))
      unfolding resetEngine head_point data_point block_point no_message final_point
      reset-keeps Uninitialized header body mac s st =
          record { mac = no_mac; steps = reset_steps s; same-engine = refl; loads_fit = f; phase_invariant = refl }
      reset-keeps (Init d) header body mac s st = restart st.0 d initial (reset_steps s)
      reset-keeps (Aad d) header body mac s st = restart st.0 d initial (reset_steps s)
      reset-keeps (Data Encrypt) header body mac s st =
          record { mac = no_mac; steps = reset_steps s; same-engine = refl; loads_fit = f; phase_invariant = (st.0, SealingFinal.was-reset refl) }
      reset-keeps (Data Decrypt) header body mac s st = restart st.0 Decrypt initial (reset_steps s)
      reset-keeps (Final Encrypt) header body mac s st =
          record { mac = no_mac; steps = reset_steps s; same-engine = refl; loads_fit = f; phase_invariant = (st.0, SealingFinal.was-reset refl) }
      reset-keeps (Final Decrypt) header body mac s st = restart st.0 Decrypt initial (reset_steps s)

      -- the data begins
      module _ (d : Direction) (s : Steps) where
        begin_init : begin_data (engine_of v (reader_in (Init d) [] []) no_mac s)
            ≡ engine_of v (reader_in (Data d) [] []) no_mac (add_steps 0 s)
        unfolding begin_data at_point head_point data_point block_point without_header after_header
        begin_init =
            λ i. record {
              variant = v;
              current = begin_point_init p (sizes v) (small v) key nonce d i;
              initial = initial_in p (Data d) key nonce initial;
              pair = pair_in loads;
              mac = no_mac;
              steps = add_steps 0 s;
            }

        begin_aad : (header : List ℕ) → 0 < length header
            → begin_data (engine_of v (reader_in (Aad d) header []) no_mac s)
            ≡ engine_of v (reader_in (Data d) header []) no_mac (add_steps p.big s)
        unfolding begin_data at_point head_point data_point block_point without_header after_header buffered held
        begin_aad header some =
            λ i. record {
              variant = v;
              current = begin_point_aad p (sizes v) (small v) key nonce d header some i;
              initial = initial_in p (Data d) key nonce initial;
              pair = pair_in loads;
              mac = no_mac;
              steps = add_steps p.big s;
            }

        pub data-in : (header body input : List ℕ)
            → data_in (in_data v loads initial d header body s) input
            ≡ in_data v loads initial d header (body ++ input)
            (add_steps (block_count p (keep p (Data d)) (data_point p d key nonce header body) input * p.slim) s)
        unfolding data_in at_point data_point block_point
        data-in header body input =
            λ i. record {
              variant = v;
              current = data-point p (sizes v) (small v) d key nonce header body input i;
              initial = initial_in p (Data d) key nonce initial;
              pair = pair_in loads;
              mac = no_mac;
              steps = add_steps (block_count p (keep p (Data d)) (data_point p d key nonce header body) input * p.slim) s;
            }

      -- a phase that takes data, in a direction
      pub begin_data_lem : {phase : Phase} {d : Direction} → Active d phase → (header body : List ℕ) (mac : Mac) (s : Steps)
          → PhaseInvariant p phase loads header body mac
          → begin_data (engine_of v (reader_in phase header body) mac s) ≡ in_data v loads initial d header body (steps_at_data p phase s)
      unfolding begin_data data_point block_point without_header after_header
      begin_data_lem {d = d} in-init header body mac s st =
          (λ i. begin_data (engine_of v (reader_in (Init d) (st.2 i) (st.3 i)) (st.1 i) s))
          ∙ begin_init d s
          ∙ sym (λ i. engine_of v (reader_in (Data d) (st.2 i) (st.3 i)) no_mac (add_steps 0 s))
      begin_data_lem {d = d} in_aad header body mac s st =
          (λ i. begin_data (engine_of v (reader_in (Aad d) header (st.3 i)) (st.1 i) s))
          ∙ begin_aad d s header st.2
          ∙ sym (λ i. engine_of v (reader_in (Data d) header (st.3 i)) no_mac (add_steps p.big s))
      begin_data_lem {d = d} in-data header body mac s st = λ i. engine_of v (reader_in (Data d) header body) (st.1 i) s

      pub active_loaded : {phase : Phase} {d : Direction} → Active d phase → (header body : List ℕ) (mac : Mac)
          → PhaseInvariant p phase loads header body mac → is_loaded loads ≡ true
      active_loaded in-init header body mac st = st.0
      active_loaded in_aad header body mac st = st.0
      active_loaded in-data header body mac st = st.0

      -- a header call
      more-header : (d : Direction) (l : is_loaded loads ≡ true) (header body input : List ℕ) (s : Steps) (e : SparkleEngine)
          → 0 < length (header ++ input) → body ≡ []
          → e ≡ engine_of v (reader_in (Aad d) (header ++ input) body) no_mac s
          → Invariant v e (reader_in (Aad d) (header ++ input) body)
      more-header d l header body input s e some none is =
          record { mac = no_mac; steps = s; same-engine = is; loads_fit = f; phase_invariant = (l, refl, some, none) }

      header-in : (phase : Phase) (d : Direction) (header body : List ℕ) (mac : Mac) (s : Steps) (x : ℕ) (input : List ℕ)
          → buffered p (head_point p phase key nonce header) ≡ held p.rate 0 header → mac ≡ no_mac
          → ◌≡◌ {A = SparkleEngine}
          (record {
            variant = v;
            current = absorb_header p d (head_point p phase key nonce header) (x ∷ input);
            initial = initial_in p (Aad d) key nonce initial;
            pair = pair_in loads;
            mac = mac;
            steps = s;
          })
          (engine_of v (reader_in (Aad d) (header ++ (x ∷ input)) body) no_mac s)
      header-in phase d header body mac s x input holds no-mac =
          λ i. record {
            variant = v;
            current = head-point p (sizes v) (small v) key nonce phase header holds d x input i;
            initial = initial_in p (Aad d) key nonce initial;
            pair = pair_in loads;
            mac = no-mac i;
            steps = s;
          }

      header-keeps : (phase : Phase) (header body : List ℕ) (mac : Mac) (s : Steps)
          → PhaseInvariant p phase loads header body mac → (x : ℕ) (input : List ℕ)
          → Invariant v (aad_by (header_check phase) (engine_of v (reader_in phase header body) mac s) (x ∷ input)).engine
          (read_header (header_check phase) (reader_in phase header body) (x ∷ input)).reader
      unfolding at_point head_point block_point
      header-keeps Uninitialized header body mac s st x input =
          record { mac = mac; steps = s; same-engine = refl; loads_fit = f; phase_invariant = st }
      header-keeps (Init d) header body mac s st x input =
          more-header d st.0 header body (x ∷ input) _ _ (simp length-append (omega arith)) st.3
          (header-in (Init d) d header body mac _ x input
          (ap (λ (l : List ℕ). buffered p (head_point p (Init d) key nonce l)) st.2
          ∙ holds-init p (sizes v) (small v) key nonce d ∙ ap (held p.rate 0) (sym st.2))
          st.1)
      header-keeps (Aad d) header body mac s st x input =
          more-header d st.0 header body (x ∷ input) _ _ (simp length-append (omega arith)) st.3
          (header-in (Aad d) d header body mac _ x input (holds_aad p (sizes v) (small v) key nonce d header) st.1)
      header-keeps (Data d) header body mac s st x input =
          record { mac = mac; steps = s; same-engine = refl; loads_fit = f; phase_invariant = st }
      header-keeps (Final d) header body mac s st x input =
          record { mac = mac; steps = s; same-engine = refl; loads_fit = f; phase_invariant = st }

      -- a data call
      into_data : (d : Direction) (l : is_loaded loads ≡ true) (header body input : List ℕ) (s : Steps) (e : SparkleEngine)
          → e ≡ data_engine d header body s → Invariant v (data_in e input) (reader_in (Data d) header (body ++ input))
      into_data d l header body input s e is =
          record {
            mac = no_mac;
            steps = add_steps (block_count p (keep p (Data d)) (data_point p d key nonce header body) input * p.slim) s;
            same-engine = ap (λ (x : SparkleEngine). data_in x input) is ∙ data-in d s header body input;
            loads_fit = f;
            phase_invariant = (l, refl);
          }

      data-keeps : {phase : Phase} {d : Direction} → Active d phase → (header body : List ℕ) (mac : Mac) (s : Steps)
          → PhaseInvariant p phase loads header body mac → (input : List ℕ) (k : Result ℕ AeadError)
          → Invariant v (data_by k (engine_of v (reader_in phase header body) mac s) input).engine
          (read_message k (reader_in phase header body) input).reader
      data-keeps t header body mac s st input (Err x) =
          record { mac = mac; steps = s; same-engine = refl; loads_fit = f; phase_invariant = st }
      data-keeps {d = d} in-init header body mac s st input (Ok k) =
          into_data d st.0 header body input _ _ (begin_data_lem {d = d} in-init header body mac s st)
      data-keeps {d = d} in_aad header body mac s st input (Ok k) =
          into_data d st.0 header body input _ _ (begin_data_lem {d = d} in_aad header body mac s st)
      data-keeps {d = d} in-data header body mac s st input (Ok k) =
          into_data d st.0 header body input _ _ (begin_data_lem {d = d} in-data header body mac s st)

      -- the end
      module _ (l : is_loaded loads ≡ true) (header body : List ℕ) where
        current_key_lem : current_key p (pair_in loads) ≡ key
        current_key_lem = key_back p (small v) loads f l

        -- a sealing
        pub sealing-state : state_in p (data_point p Encrypt key nonce header body).words
            ≡ before_last p (sealing p) (prepared p key nonce header) body
        unfolding before_last leading plain_of plain_by
        sealing-state = state-data p (sizes v) (small v) Encrypt key nonce header body

        pub sealing-block : buffered p (data_point p Encrypt key nonce header body) ≡ last_block p body
        unfolding last_block leading held
        sealing-block = holds-data p (sizes v) (small v) Encrypt key nonce header body

        pub sealing-tag : seal_tag p (current_key p (pair_in loads)) (data_point p Encrypt key nonce header body) ≡ tag p key nonce header body
        unfolding seal_tag tag sealing
        sealing-tag =
            rw (current_key_lem, sealing-state, sealing-block)
            (ap (tag_of p key)
            (last-state p (sealing p) (prepared p key nonce header) body))

        pub seal-engine : (s : Steps) (k : ℕ)
            → (seal_final (data_engine Encrypt header body s) k).engine
            ≡ engine_of v (reader_in (Final Encrypt) header body) (readable (tag p key nonce header body))
            (add_steps (last_steps p (buffered p (data_point p Encrypt key nonce header body))) s)
        unfolding seal_final final_engine
        seal-engine s k =
            ap (λ (t : List ℕ). final_engine (data_engine Encrypt header body s) Encrypt (readable t)
            (last_steps p (buffered p (data_point p Encrypt key nonce header body)))) sealing-tag

        -- an opening
        module _ (enough : p.key ≤ length body) where
          pub opening-block : open_block p (data_point p Decrypt key nonce header body) ≡ last_block p (body_of p body)
          unfolding data_point plain_of plain_by
          opening-block = packet-block p (sizes v) (small v) key nonce header body enough

          pub opening-last : open_last p (data_point p Decrypt key nonce header body)
              ≡ crypt p
              (before_last p (openingBlock p) (prepared p key nonce header) (body_of p body))
              (last_block p (body_of p body))
          unfolding data_point plain_of plain_by
          opening-last = packet-last p (sizes v) (small v) key nonce header body enough

          pub opening-tag : open_tag p (current_key p (pair_in loads)) (data_point p Decrypt key nonce header body)
              ≡ tag p key nonce header (decrypt p key nonce header (body_of p body))
          unfolding data_point plain_of plain_by
          opening-tag = rw current_key_lem (packet-tag p (sizes v) (small v) key nonce header body enough)

          pub opening-verified : same (received_tag p (data_point p Decrypt key nonce header body))
              (open_tag p (current_key p (pair_in loads)) (data_point p Decrypt key nonce header body))
              ≡ verified p key nonce header body
          unfolding data_point plain_of plain_by
          opening-verified = rw current_key_lem (packet-verified p (sizes v) (small v) key nonce header body enough)

          pub open_engine : (s : Steps) (k : ℕ)
              → (open_final (data_engine Decrypt header body s) k).engine
              ≡ engine_of v (reader_in (Final Decrypt) header body) (opened_mac p key nonce header body)
              (add_steps (last_steps p (open_block p (data_point p Decrypt key nonce header body))) s)
          unfolding open_final final_engine opened_mac
          open_engine s k =
              ap (λ (b : Bool). (open_final_by b (data_engine Decrypt header body s) k).engine) opening-verified ∙ by
              (verified p key nonce header body)
            where
              by : (b : Bool) → (open_final_by b (data_engine Decrypt header body s) k).engine
                  ≡ engine_of v (reader_in (Final Decrypt) header body)
                  (cond b (readable (tag p key nonce header (decrypt p key nonce header (body_of p body)))) no_mac)
                  (add_steps (last_steps p (open_block p (data_point p Decrypt key nonce header body))) s)
              by true =
                  ap (λ (t : List ℕ). final_engine (data_engine Decrypt header body s) Decrypt (readable t)
                  (last_steps p (open_block p (data_point p Decrypt key nonce header body)))) opening-tag
              by false = refl

        sealed_keeps : (s : Steps) (k : ℕ) (e : SparkleEngine) → e ≡ data_engine Encrypt header body s
            → Invariant v (seal_final e k).engine (reader_in (Final Encrypt) header body)
        sealed_keeps s k e is =
            record {
              mac = readable (tag p key nonce header body);
              steps = add_steps (last_steps p (buffered p (data_point p Encrypt key nonce header body))) s;
              same-engine = ap (λ (x : SparkleEngine). (seal_final x k).engine) is ∙ seal-engine s k;
              loads_fit = f;
              phase_invariant = (l, SealingFinal.has_ended refl);
            }

        opened-keeps : p.key ≤ length body → (s : Steps) (k : ℕ) (e : SparkleEngine) → e ≡ data_engine Decrypt header body s
            → Invariant v (open_final e k).engine (reader_in (Final Decrypt) header body)
        opened-keeps enough s k e is =
            record {
              mac = opened_mac p key nonce header body;
              steps = add_steps (last_steps p (open_block p (data_point p Decrypt key nonce header body))) s;
              same-engine = ap (λ (x : SparkleEngine). (open_final x k).engine) is ∙ open_engine enough s k;
              loads_fit = f;
              phase_invariant = (l, refl, enough);
            }

      seal-keeps : {phase : Phase} → Active Encrypt phase → (header body : List ℕ) (mac : Mac) (s : Steps)
          → PhaseInvariant p phase loads header body mac → (k : Result ℕ AeadError)
          → Invariant v (final_by k (engine_of v (reader_in phase header body) mac s)).engine
          (read_end k p (reader_in phase header body)).reader
      unfolding head_point data_point block_point
      seal-keeps t header body mac s st (Err x) =
          record { mac = mac; steps = s; same-engine = refl; loads_fit = f; phase_invariant = st }
      seal-keeps in-init header body mac s st (Ok k) =
          sealed_keeps st.0 header body _ k _ (begin_data_lem {d = Encrypt} in-init header body mac s st)
      seal-keeps in_aad header body mac s st (Ok k) =
          sealed_keeps st.0 header body _ k _ (begin_data_lem {d = Encrypt} in_aad header body mac s st)
      seal-keeps in-data header body mac s st (Ok k) =
          sealed_keeps st.0 header body _ k _ (begin_data_lem {d = Encrypt} in-data header body mac s st)

      open_keeps : {phase : Phase} → Active Decrypt phase → (header body : List ℕ) (mac : Mac) (s : Steps)
          → PhaseInvariant p phase loads header body mac → (k : Result ℕ AeadError)
          → ((j : ℕ) → k ≡ Ok j → p.key ≤ length body)
          → Invariant v (final_by k (engine_of v (reader_in phase header body) mac s)).engine
          (read_end k p (reader_in phase header body)).reader
      unfolding head_point data_point block_point
      open_keeps t header body mac s st (Err x) enough =
          record { mac = mac; steps = s; same-engine = refl; loads_fit = f; phase_invariant = st }
      open_keeps in-init header body mac s st (Ok k) enough =
          opened-keeps st.0 header body (enough k refl) _ k _ (begin_data_lem {d = Decrypt} in-init header body mac s st)
      open_keeps in_aad header body mac s st (Ok k) enough =
          opened-keeps st.0 header body (enough k refl) _ k _ (begin_data_lem {d = Decrypt} in_aad header body mac s st)
      open_keeps in-data header body mac s st (Ok k) enough =
          opened-keeps st.0 header body (enough k refl) _ k _ (begin_data_lem {d = Decrypt} in-data header body mac s st)

-- a start
start-keeps : (v : SparkleVariant) (r : Reader) (mac : Mac) (s : Steps)
    → (LoadsFit (params_of v) r.loads)
    → (d : Direction) (key nonce header : List ℕ) (k : Result (Unit {0}) AeadInitError) → (k ≡ Ok tt → Fits (params_of v) key nonce)
    → Invariant v (init_by k (engine_of v r mac s) d key nonce header).engine (read_start k r d key nonce header).reader
unfolding started refused
start-keeps v r mac s f d key nonce header (Err x) g =
    record { mac = no_mac; steps = refused_steps s; same-engine = refl; loads_fit = f; phase_invariant = refl }
start-keeps v r mac s f d key nonce header (Ok _) g =
    let p = params_of v in
    let n = (started (engine_of v r mac s) d key nonce header).steps in
    let e : started (engine_of v r mac s) d key nonce header
    ≡ record {
      variant = v;
      current = head_point p (header_phase d header) key nonce header;
      initial = head_point p (header_phase d header) key nonce header;
      pair = pair_in (after_load r.loads key nonce);
      mac = no_mac;
      steps = n;
    } =
    λ i. record {
      variant = v;
      current = started-point p (sizes v) (small v) key nonce d header i;
      initial = started-point p (sizes v) (small v) key nonce d header i;
      pair = pair-load r.loads key nonce i;
      mac = no_mac;
      steps = n;
    }
    in
    subst (λ (x : SparkleEngine). Invariant v x (read_start (Ok tt) r d key nonce header).reader) (sym e)
    (restart v (after_load r.loads key nonce) header (load_fits p r.loads key nonce f (g refl)) refl d header n)

-- ---- A call

pub aad_some : (phase : Phase) (n : ℕ) → aad_check phase (suc n) ≡ header_check phase
unfolding aad_check
aad_some phase n = rw (ne_eqb (suc n) 0 (λ e. omega arith))

-- a data call and an end, by the phase
message-step : (v : SparkleVariant) (phase : Phase) (loads : List Load) (initial header body : List ℕ) (mac : Mac)
    (s : Steps)
    → (LoadsFit (params_of v) loads) → PhaseInvariant (params_of v) phase loads header body mac
    → (input : List ℕ) (held a : ℕ)
    → Invariant v
    (data_by (data_check (params_of v) phase held (length input) a)
    (engine_of v (reader_of loads initial phase header body) mac s) input).engine
    (read_message (data_check (params_of v) phase held (length input) a)
    (reader_of loads initial phase header body) input).reader
unfolding data_check
message-step v Uninitialized loads initial header body mac s f st input held a =
    record { mac = mac; steps = s; same-engine = refl; loads_fit = f; phase_invariant = st }
message-step v (Init d) loads initial header body mac s f st input held a =
    data-keeps v loads initial f {d = d} in-init header body mac s st input
    (data_check (params_of v) (Init d) held (length input) a)
message-step v (Aad d) loads initial header body mac s f st input held a =
    data-keeps v loads initial f {d = d} in_aad header body mac s st input
    (data_check (params_of v) (Aad d) held (length input) a)
message-step v (Data d) loads initial header body mac s f st input held a =
    data-keeps v loads initial f {d = d} in-data header body mac s st input
    (data_check (params_of v) (Data d) held (length input) a)
message-step v (Final d) loads initial header body mac s f st input held a =
    record { mac = mac; steps = s; same-engine = refl; loads_fit = f; phase_invariant = st }

pub active_enough : (p : Params) → Sizes p → {phase : Phase} → Active Decrypt phase
    → (body : List ℕ) (a k : ℕ) → end_check p phase (point_held p body phase) a ≡ Ok k → p.key ≤ length body
active_enough p h in-init body a k e =
    absurd (omega (arith, end_enough p (Init Decrypt) (point_held p body (Init Decrypt)) a k refl e))
active_enough p h in_aad body a k e =
    absurd (omega (arith, end_enough p (Aad Decrypt) (point_held p body (Aad Decrypt)) a k refl e))
active_enough p h in-data body a k e =
    omega (arith, end_enough p (Data Decrypt) (point_held p body (Data Decrypt)) a k refl e)

end_step : (v : SparkleVariant) (phase : Phase) (loads : List Load) (initial header body : List ℕ) (mac : Mac) (s : Steps)
    → (LoadsFit (params_of v) loads) → PhaseInvariant (params_of v) phase loads header body mac
    → (a : ℕ)
    → Invariant v
    (final_by (end_check (params_of v) phase (point_held (params_of v) body phase) a)
    (engine_of v (reader_of loads initial phase header body) mac s)).engine
    (read_end (end_check (params_of v) phase (point_held (params_of v) body phase) a) (params_of v)
    (reader_of loads initial phase header body)).reader
end_step v Uninitialized loads initial header body mac s f st a =
    unfold end_check in record { mac = mac; steps = s; same-engine = refl; loads_fit = f; phase_invariant = st }
end_step v (Init Encrypt) loads initial header body mac s f st a =
    seal-keeps v loads initial f in-init header body mac s st
    (end_check (params_of v) (Init Encrypt) (point_held (params_of v) body (Init Encrypt)) a)
end_step v (Aad Encrypt) loads initial header body mac s f st a =
    seal-keeps v loads initial f in_aad header body mac s st
    (end_check (params_of v) (Aad Encrypt) (point_held (params_of v) body (Aad Encrypt)) a)
end_step v (Data Encrypt) loads initial header body mac s f st a =
    seal-keeps v loads initial f in-data header body mac s st
    (end_check (params_of v) (Data Encrypt) (point_held (params_of v) body (Data Encrypt)) a)
end_step v (Init Decrypt) loads initial header body mac s f st a =
    open_keeps v loads initial f in-init header body mac s st
    (end_check (params_of v) (Init Decrypt) (point_held (params_of v) body (Init Decrypt)) a)
    (active_enough (params_of v) (sizes v) in-init body a)
end_step v (Aad Decrypt) loads initial header body mac s f st a =
    open_keeps v loads initial f in_aad header body mac s st
    (end_check (params_of v) (Aad Decrypt) (point_held (params_of v) body (Aad Decrypt)) a)
    (active_enough (params_of v) (sizes v) in_aad body a)
end_step v (Data Decrypt) loads initial header body mac s f st a =
    open_keeps v loads initial f in-data header body mac s st
    (end_check (params_of v) (Data Decrypt) (point_held (params_of v) body (Data Decrypt)) a)
    (active_enough (params_of v) (sizes v) in-data body a)
end_step v (Final d) loads initial header body mac s f st a =
    unfold end_check in record { mac = mac; steps = s; same-engine = refl; loads_fit = f; phase_invariant = st }

-- the engine's checks are the reader's
module _ (v : SparkleVariant) (r : Reader) (mac : Mac) (s : Steps) where
  pub data-answer : (k a : ℕ) → data_answer (engine_of v r mac s) k a
      ≡ data_check (params_of v) r.phase (reader_held (params_of v) r) k a
  data-answer k a =
      let p = params_of v in
      let at = point_in p r.phase (loaded_key r) (loaded_nonce r) r.header r.body in
      ap (λ (phase : Phase). data_check p phase at.held k a)
      (phase_agrees p (loaded_key r) (loaded_nonce r) r.header r.body r.phase)
      ∙ data_agrees p (loaded_key r) (loaded_nonce r) r.header r.body r.phase k a

  pub final_answer_lem : (a : ℕ) → final_answer (engine_of v r mac s) a
      ≡ end_check (params_of v) r.phase (reader_held (params_of v) r) a
  final_answer_lem a =
      let p = params_of v in
      let at = point_in p r.phase (loaded_key r) (loaded_nonce r) r.header r.body in
      ap (λ (phase : Phase). end_check p phase at.held a) (phase_agrees p (loaded_key r) (loaded_nonce r) r.header r.body
      r.phase)
      ∙ end_agrees p (loaded_key r) (loaded_nonce r) r.header r.body r.phase a

  pub update_answer : (k : ℕ) → update_output_len (engine_of v r mac s) k
      ≡ update_len (params_of v) r.phase (reader_held (params_of v) r) k
  unfolding update_output_len
  update_answer k =
      let p = params_of v in
      let at = point_in p r.phase (loaded_key r) (loaded_nonce r) r.header r.body in
      ap (λ (phase : Phase). update_len p phase at.held k) (phase_agrees p (loaded_key r) (loaded_nonce r) r.header r.body
      r.phase)
      ∙ update_agrees p (loaded_key r) (loaded_nonce r) r.header r.body r.phase k

  pub total_answer : (k : ℕ) → output_len (engine_of v r mac s) k ≡ total_len (params_of v) r.phase (reader_held (params_of v) r) k
  unfolding output_len
  total_answer k =
      let p = params_of v in
      let at = point_in p r.phase (loaded_key r) (loaded_nonce r) r.header r.body in
      ap (λ (phase : Phase). total_len p phase at.held k) (phase_agrees p (loaded_key r) (loaded_nonce r) r.header r.body
      r.phase)
      ∙ total_agrees p (loaded_key r) (loaded_nonce r) r.header r.body r.phase k

  pub header-answer : (k : ℕ) → aad_check (engine_of v r mac s).current.phase k ≡ aad_check r.phase k
  header-answer k =
      ap (λ (phase : Phase). aad_check phase k) (phase_agrees (params_of v) (loaded_key r) (loaded_nonce r) r.header r.body
      r.phase)

-- a call on the engine that the reader gives
module _ (v : SparkleVariant) (r : Reader) (mac : Mac) (s : Steps) (f : LoadsFit (params_of v) r.loads)
    (st : PhaseInvariant (params_of v) r.phase r.loads r.header r.body mac) where
  unchanged : Invariant v (engine_of v r mac s) r
  unchanged = record { mac = mac; steps = s; same-engine = refl; loads_fit = f; phase_invariant = st }

  start-step : (d : Direction) (key nonce : List ℕ) (size : ℕ) (h : List ℕ)
      → Invariant v (init (engine_of v r mac s) d key nonce size h).engine
      (read v r (Call.Init d key nonce size h)).reader
  unfolding init read
  start-step d key nonce size h =
      let p = params_of v in
      let k = start_check v d (length key) (length nonce) size (repeated r key nonce) in
      subst (λ (b : Bool). Invariant v (init_by (start_check v d (length key) (length nonce) size b) (engine_of v r mac s) d key nonce h).engine
      (read_start k r d key nonce h).reader)
      (sym (repeats_agree p (small v) r.loads f key nonce))
      (start-keeps v r mac s f d key nonce h k
      (λ e. let g = start_check_lengths v d (length key) (length nonce) size (repeated r key nonce) e in record { key_fits = g.0; nonce-fits = g.1 }))

  header_some : (x : ℕ) (input : List ℕ)
      → Invariant v (aad_by (aad_check (engine_of v r mac s).current.phase (suc (length input))) (engine_of v r mac s)
      (x ∷ input)).engine
      (read_header (aad_check r.phase (suc (length input))) r (x ∷ input)).reader
  header_some x input =
      subst (λ (k : Result ℕ AeadError). Invariant v (aad_by k (engine_of v r mac s) (x ∷ input)).engine
      (read_header (aad_check r.phase (suc (length input))) r (x ∷ input)).reader)
      (sym (header-answer v r mac s (suc (length input))))
      (subst (λ (k : Result ℕ AeadError). Invariant v (aad_by k (engine_of v r mac s) (x ∷ input)).engine (read_header k r (x ∷ input)).reader)
      (sym (aad_some r.phase (length input)))
      (header-keeps v r.loads r.initial f r.phase r.header r.body mac s st x input))

  header-step : (input : List ℕ)
      → Invariant v (process_aad_bytes (engine_of v r mac s) input).engine (read v r (Call.Aad input)).reader
  unfolding process_aad_bytes read aad_check
  header-step [] =
      subst (λ (l : List ℕ). Invariant v (engine_of v r mac s) (in_phase r r.phase l r.body))
      (sym (append-nil r.header)) unchanged
  header-step (x ∷ input) = header_some x input

  call_step : (c : Call) → Invariant v (step (engine_of v r mac s) c).engine (read v r c).reader
  unfolding step process_bytes do_final
  call_step (Call.Init d key nonce size h) = start-step d key nonce size h
  call_step (Call.Aad input) = header-step input
  call_step (Call.Data input out) = unfold read in
      subst (λ (k : Result ℕ AeadError). Invariant v (data_by k (engine_of v r mac s) input).engine
      (read v r (Call.Data input out)).reader)
      (sym (data-answer v r mac s (length input) (length out)))
      (message-step v r.phase r.loads r.initial r.header r.body mac s f st input
      (reader_held (params_of v) r) (length out))
  call_step (Call.Final out) = unfold read in
      subst (λ (k : Result ℕ AeadError). Invariant v (final_by k (engine_of v r mac s)).engine
      (read v r (Call.Final out)).reader)
      (sym (final_answer_lem v r mac s (length out)))
      (end_step v r.phase r.loads r.initial r.header r.body mac s f st (length out))
  call_step Call.Reset =
      unfold read in reset-keeps v r.loads r.initial f r.phase r.header r.body mac s st
  call_step Call.Mac = unfold read in unchanged
  call_step (Call.Update k) = unfold read in unchanged
  call_step (Call.Output k) = unfold read in unchanged

-- ---- Every call, refused or not, and every list of calls

pub invariant_step : (v : SparkleVariant) (e : SparkleEngine) (r : Reader) → Invariant v e r → (c : Call)
    → Invariant v (step e c).engine (read v r c).reader
invariant_step v e r w c =
    subst (λ (x : SparkleEngine). Invariant v (step x c).engine (read v r c).reader) (sym w.same-engine)
    (call_step v r w.mac w.steps w.loads_fit w.phase_invariant c)

pub invariant_from : (v : SparkleVariant) (e : SparkleEngine) (r : Reader) → Invariant v e r → (calls : List Call)
    → Invariant v (run_from e calls) (read_from v r calls)
unfolding run_from read_from
invariant_from v e r w [] = w
invariant_from v e r w (c ∷ calls) =
    invariant_from v (step e c).engine (read v r c).reader (invariant_step v e r w c) calls

pub invariant_run : (v : SparkleVariant) (calls : List Call) → Invariant v (run v calls) (reader v calls)
unfolding run reader
invariant_run v calls = invariant_from v (new_engine v) new_reader (invariant_new v) calls
