-- What the proofs of the functions on a line share: a step of each definition.
use mathlib.Core.Path.{◌≡◌, refl, sym, ◌∙◌}
use mathlib.Core.Bool.{true}
use mathlib.Core.List.{List, [], ◌∷◌}
use denote.Ref.{Bor}
use Prim.Native.Nat.{ℕ, zero, suc, ◌+◌, ◌-◌, ◌≤◌, ◌<◌}
use native.Mathlib.Numerals.{add-one}
use native.Mathlib.Omega.{arith}
use borrow.Author.Tests.{eq-eqb, ne_eqb}
use lib.ListN.{length, get_or, drop, length-take, length-drop}
use lib.Seq.{drop-cons}
use Rattle.forms.specs.Bytes.{front, is_item}
use Rattle.call_text.specs.declared.line.Fields.{Fields}
use Rattle.call_text.specs.declared.line.Found.{Found}
use Rattle.tc_aead_cipher.specs.declared.call.CallKind.{CallKind}
use Rattle.tc_aead_cipher.specs.declared.call.CallKind.TheVariants.{Aad}
use Rattle.std.specs.Prelude.{Option, Some, None}
use Rattle.std.specs.Option.{MatchOption}
use Rattle.std.specs.Bool.{IsTrue}
use Rattle.std.specs.Fn.{Mut, Called}
use Rattle.std.specs.Iterator.Runs.{Run, ItemsMapTo, CallKeepsClosure, AllItemsGive, IsFirstToGive}
use Rattle.call_text.specs.Line.{is_form, item_at, start, compare, compare_all, fields_of, found_as, found_among, found_in, all_kinds}

-- An item ends where the line does.
pub item-length : (s : List ℕ) (at : ℕ) → length (item_at s at) ≤ length s - at
unfolding item_at
item-length s at = omega (arith, length-take (front is_item (drop at s)) (drop at s), length-drop at s)

-- What is left of the shape, from a place on: one byte more, or a difference.
pub compare-more : (s : List ℕ) (f g : Fields) (shape : List ℕ) (i : ℕ) → i < length shape
    → compare s f (get_or shape i 0) ≡ Some g → compare_all s f (drop i shape) ≡ compare_all s g (drop (i + 1) shape)
unfolding compare_all
compare-more s f g shape i h e = rw (add-one i, drop-cons shape i 0 h, compare_all, e) refl

pub compare_stops : (s : List ℕ) (f : Fields) (shape : List ℕ) (i : ℕ) → i < length shape
    → compare s f (get_or shape i 0) ≡ None → compare_all s f (drop i shape) ≡ None
unfolding compare_all
compare_stops s f shape i h e = rw (drop-cons shape i 0 h, compare_all, e) refl

pub fields_differ : (s shape : List ℕ) → compare_all s start shape ≡ None → None ≡ fields_of shape s
unfolding fields_of
fields_differ s shape e = rw e refl

pub fields_whole : (s : List ℕ) (f : Fields) (shape : List ℕ) → compare_all s start shape ≡ Some f → f.at ≡ length s
    → Some f ≡ fields_of shape s
unfolding fields_of
fields_whole s f shape e h = rw (e, eq-eqb f.at (length s) h) refl

pub fields_short : (s : List ℕ) (f : Fields) (shape : List ℕ) → compare_all s start shape ≡ Some f
    → (f.at ≡ length s → ⊥) → None ≡ fields_of shape s
unfolding fields_of
fields_short s f shape e h = rw (e, ne_eqb f.at (length s) h) refl

pub form_found : (s : List ℕ) → is_form s ≡ true → found_in s ≡ found_among s all_kinds
unfolding found_in
form_found s e = rw e refl

-- Kinds whose shapes the line does not have can be left out in front.
found_past : (s : List ℕ) (kinds : List CallKind) (n : ℕ)
    → ((k : ℕ) → k < n → None ≡ found_as s (get_or kinds k Aad)) → found_among s (drop n kinds) ≡ found_among s kinds
unfolding found_among
found_past s kinds zero h = refl
found_past s [] (suc n) h = refl
found_past s (kind ∷ kinds) (suc n) h =
    rw (← h 0 (omega arith)) (found_past s kinds n (λ k l. h (suc k) (omega arith)))

-- What `find_map` finds, by what it says of its run.
module _ {S F : Type 0} {steps : S → Option (Bor CallKind) → S → Type 0}
    (g : Mut F (Bor CallKind × Unit {0}) (Option Found)) (f : F) (s : List ℕ)
    (calls : (x : Bor CallKind) (r : Option Found) (q : F) → Called g f (x, tt) r q → (q ≡ f) × (r ≡ found_as s x.now))
    (p : Run steps) (m : ItemsMapTo p (λ y. y.now) all_kinds) where
  keeps : CallKeepsClosure g f
  keeps a r q c = (calls a.0 r q c).0

  pub found_mapped : (r : Option Found)
      → MatchOption r (IsTrue p.whole × AllItemsGive p g f None)
      (λ y. (i : ℕ) × (i < p.len) × (p.len ≡ i + 1) × IsFirstToGive p g f (Some y) None i)
      → r ≡ found_among s all_kinds
  unfolding found_among
  found_mapped None h =
      found_past s all_kinds 9 (λ k l. grind (arith, calls, m.2 k Aad (omega (arith, m.1 h.0)), h.1 keeps k))
  found_mapped (Some y) h =
      let i = h.0 in
      let c = h.3 keeps in
      let here : Some y ≡ found_as s (get_or all_kinds i Aad) = grind (arith, calls, m.2 i Aad h.1, c.0) in
      let past = found_past s all_kinds i (λ k l. grind (arith, calls, m.2 k Aad (omega arith), c.1 k l)) in
      sym (rw (drop-cons all_kinds i Aad (omega (arith, m.0)), found_among, ← here) refl) ∙ past
