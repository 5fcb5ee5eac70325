-- Document 01's list of calls for the program `sheet` ("Worked by hand") has the sheet printed there, and a list with every
-- call has this one. By computing: no line needs the permutation.
use Rattle.std.proofs.Common.{◌≡◌, ℕ, true, false, List, [], ◌∷◌, ◌++◌, take, refl}
use Rattle.tc_aead_cipher.specs.declared.variant.SparkleVariant.{SparkleVariant}
use Rattle.tc_aead_cipher.specs.declared.phase.Direction.{Direction}
use Rattle.tc_aead_cipher.specs.Call.{Call}
use Rattle.tc_sparkle_aead.specs.declared.engine.SparkleEngine.{SparkleEngine}
use Rattle.schwaemm.specs.Bytes.{same}
use Rattle.schwaemm.specs.Blocks.{ready, held}
use Rattle.tc_aead_cipher.specs.declared.variant.SparkleVariant.TheVariants.{Schwaemm128_128, Schwaemm256_128}
use Rattle.tc_aead_cipher.specs.Checks.{update_len, total_len, aad_check, data_check, end_check, start_check}
use Rattle.tc_aead_cipher.specs.Outcome.Outcome.{ok, no}
use Rattle.tc_sparkle_aead.specs.Message.{zeros, in_array, no_message, no_mac, readable, buffered, stream, block_count, streamed, start_point, absorb_header, header_steps, after_header, without_header, last_steps, final_point}
use Rattle.tc_sparkle_aead.specs.Engine.{no_pair, repeats, remember, no_steps, refused_steps, init_steps, reset_steps, new_engine, update_output_len, output_len}
use Rattle.tc_sparkle_aead.specs.Calls.{add_steps, at_point, refused, started, init, process_aad_bytes, begin_data, data_in, process_bytes, process_bytes_out, do_final_out, final_engine, seal_final, do_final, reset, mac_of, steps_now}
use Rattle.tc_sparkle_aead.specs.Sheet.{step, line, lines, sheet, run_from, run}
use Rattle.tc_sparkle_aead.specs.Worked.{worked, every_call, row}

pub worked-sheet : sheet Schwaemm128_128 worked
    ≡ row (ok 0) 10 false
    ∷ (row (ok 0) 17 false
    ∷ (row (ok 32) 41 false
    ∷ (row (no (9 ∷ [])) 41 false
    ∷ (row (no (4 ∷ (17 ∷ (16 ∷ [])))) 41 false
    ∷ (row (ok 17) 51 true ∷ (row (no (10 ∷ [])) 51 true ∷ (row (no (11 ∷ [])) 0 false ∷ [])))))))
unfolding sheet lines step line init process_aad_bytes process_bytes do_final mac_of steps_now started refused repeats remember add_steps at_point begin_data data_in final_engine seal_final new_engine no_pair no_steps refused_steps init_steps no_message no_mac readable zeros in_array buffered stream block_count streamed start_point absorb_header header_steps after_header without_header last_steps final_point start_check aad_check data_check update_len end_check total_len ready held same
worked-sheet = refl

pub every_call_lem : sheet Schwaemm256_128 every_call
    ≡ row (no (3 ∷ (15 ∷ []))) 0 false
    ∷ (row (ok 0) 0 false
    ∷ (row (ok 0) 11 false
    ∷ (row (ok 0) 22 false
    ∷ (row (ok 32) 22 false
    ∷ (row (ok 33) 22 false
    ∷ (row (ok 0) 11 false
    ∷ (row (ok 0) 11 false
    ∷ (row (ok 0) 11 false ∷ (row (ok 16) 11 true ∷ (row (ok 16) 11 true ∷ []))))))))))
unfolding sheet lines step line init process_aad_bytes process_bytes do_final mac_of steps_now started refused repeats remember add_steps at_point begin_data data_in final_engine seal_final new_engine no_pair no_steps refused_steps init_steps no_message no_mac readable zeros in_array buffered stream block_count streamed start_point absorb_header header_steps after_header without_header last_steps final_point start_check aad_check data_check update_len end_check total_len ready held same reset reset_steps update_output_len output_len
every_call_lem = refl

-- The engine after the first six calls of document 01's list: 51 steps, and a tag that can be read.
pub worked-run : (steps_now (run Schwaemm128_128 (take 6 worked)) ≡ 51)
    × ((mac_of (run Schwaemm128_128 (take 6 worked))).readable ≡ true)
unfolding run run_from step init process_aad_bytes process_bytes do_final mac_of steps_now started refused repeats remember add_steps at_point begin_data data_in final_engine seal_final new_engine no_pair no_steps refused_steps init_steps no_message no_mac readable zeros in_array buffered stream block_count streamed start_point absorb_header header_steps after_header without_header last_steps final_point start_check aad_check data_check update_len end_check total_len ready held same
worked-run = (refl, refl)

-- A list in two parts: the second runs on the engine that the first leaves.
lines_cut : (e : SparkleEngine) (xs ys : List Call) → lines e (xs ++ ys) ≡ lines e xs ++ lines (run_from e xs) ys
unfolding lines run_from
lines_cut e [] ys = refl
lines_cut e (c ∷ xs) ys = λ i. line (step e c) ∷ lines_cut (step e c).engine xs ys i

pub sheet-cut : (v : SparkleVariant) (xs ys : List Call) → sheet v (xs ++ ys) ≡ sheet v xs ++ lines (run v xs) ys
unfolding sheet run
sheet-cut v xs ys = lines_cut (new_engine v) xs ys

-- The output that a call leaves: that of its contract, and none where none is lent.
pub data-buffer : (e : SparkleEngine) (input out : List ℕ) → (step e (Call.Data input out)).buffer ≡ process_bytes_out e input out
unfolding step
data-buffer e input out = refl

pub end-buffer : (e : SparkleEngine) (out : List ℕ) → (step e (Call.Final out)).buffer ≡ do_final_out e out
unfolding step
end-buffer e out = refl

pub no_buffer : (e : SparkleEngine) (d : Direction) (key nonce header input : List ℕ) (size n : ℕ)
    → ((step e (Call.Init d key nonce size header)).buffer ≡ []) × ((step e (Call.Aad input)).buffer ≡ [])
    × ((step e Call.Reset).buffer ≡ []) × ((step e Call.Mac).buffer ≡ []) × ((step e (Call.Update n)).buffer ≡ [])
    × ((step e (Call.Output n)).buffer ≡ [])
unfolding step
no_buffer e d key nonce header input size n = (refl, refl, refl, refl, refl, refl)
