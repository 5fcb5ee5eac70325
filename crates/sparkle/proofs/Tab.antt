-- A list of known length, written out: a definition by cases computes on the library's list of n values, and `tabbed` says
-- that a list of n elements is one.
use Rattle.std.proofs.Common.{◌≡◌, ℕ, List, map, length, get_or, sym, ◌∙◌, arith, ext_get_or}
use Rattle.std.specs.List.{range_with_len}
use Rattle.std.proofs.lemmas.List.FromFn.{length-map-range_with_len, get_or-map-range_with_len}

pub tabbed : (n : ℕ) (w : List ℕ) → length w ≡ n → map (λ i. get_or w i 0) (range_with_len 0 n) ≡ w
tabbed n w h =
    let all = length-map-range_with_len (λ i. get_or w i 0) 0 n in
    ext_get_or 0 _ w (all ∙ sym h) (λ i l. get_or-map-range_with_len (λ i. get_or w i 0) 0 n i i 0 (omega arith) (omega arith))
