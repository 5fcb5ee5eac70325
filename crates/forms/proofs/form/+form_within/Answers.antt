-- `form_within` meets its contract: what an item's end says of the form's.
use Rattle.std.proofs.Common.{◌≡◌, ℕ, ◌+◌, ◌-◌, Bool, true, false, List, length, take, drop, refl, sym, ap, ◌∙◌, arith}
use Rattle.std.proofs.lemmas.Result.{err_from_is_err_and}
use Rattle.forms.specs.Form.{End, plain_end, is_open, form_end}
use Rattle.forms.proofs.FormSteps.{from_place, not_opened, opened, ended, item_end, nested_item, plain_item, closed, no_item, item-read, item_stops}
use Rattle.forms.proofs.form.+form_within.Goals as goal
use Rattle.forms.proofs.form.+form_within.Goals.{then-is_open, else-is_open}

-- The bytes behind a blank.
abbrev part : List ℕ → ℕ → List ℕ
part s at = take (length s - (at + 1)) (drop (at + 1) s)

-- What is read of an item, a form or not.
nested : (depth : ℕ) (s : List ℕ) (at : ℕ) {o : Bool} {e : End} → o ≡ is_open (part s at) → o ≡ true
    → e ≡ form_end depth (part s at)
    → e ≡ item_end depth (drop (at + 1) s)
nested depth s at o t e = e ∙ nested_item depth (part s at) (sym o ∙ t) ∙ ap (item_end depth) (from_place s (at + 1))

plain : (depth : ℕ) (s : List ℕ) (at : ℕ) {o : Bool} {e : End} → o ≡ is_open (part s at) → o ≡ false
    → e ≡ plain_end (part s at)
    → e ≡ item_end depth (drop (at + 1) s)
plain depth s at o t e = e ∙ plain_item depth (part s at) (sym o ∙ t) ∙ ap (item_end depth) (from_place s (at + 1))

pub returns-then-depth-eq0 : goal.returns-then-depth-eq0
unfolding form_end
returns-then-depth-eq0 t c = rw c.if-depth-eq0.true refl

pub returns-in_err-at : goal.returns-in_err-at
returns-in_err-at t c =
    let p = err_from_is_err_and c.from_residual.result c.from_residual.ensures.1 in
    rw (p.1, p.2) (sym (not_opened c.args.depth _ c.args.s.now c.if-depth-eq0.false (sym c.open_end.ensures ∙ c.in_err-at.was)))

pub loop-at-init : goal.loop-at-init
loop-at-init t c = opened c.args.depth _ c.args.s.now c.if-depth-eq0.false (sym c.in_ok-at.ensures)

pub returns-then-b-eq41 : goal.returns-then-b-eq41
returns-then-b-eq41 t c = sym (closed _ _ _ _ c.loop-at.invariant c.loop-at-test.true c.if-b-eq41.true)

pub returns-then-b-ne32 : goal.returns-then-b-ne32
returns-then-b-ne32 t c =
    sym (no_item _ _ _ _ c.loop-at.invariant c.loop-at-test.true c.if-b-eq41.false c.if-b-ne32.true)

pub overflow_add-at : goal.overflow_add-at
overflow_add-at t c =
    let depth = c.args.depth - 1 in
    let s = c.args.s.now in
    let at = c.loop-at.at in
    let item : c.if-is_open.item ≡ item_end depth (drop (at + 1) s) = elim c.if-is_open.branch [
      | then-is_open w ↦ nested depth s at c.is_open.ensures w.if-is_open.true (w.item-is ∙ w.form_within-item.ensures)
      | else-is_open w ↦ plain depth s at c.is_open.ensures w.if-is_open.false (w.item-is ∙ w.plain_end-item.ensures)
    ] in
    omega (arith, (item-read _ _ _ _ c.loop-at.invariant c.loop-at-test.true _ c.if-b-ne32.false (sym item ∙ c.in-Ok.is)).inside)

pub loop-at-preserved : goal.loop-at-preserved
loop-at-preserved t c =
    let depth = c.args.depth - 1 in
    let s = c.args.s.now in
    let at = c.loop-at.at in
    let item : c.if-is_open.item ≡ item_end depth (drop (at + 1) s) = elim c.if-is_open.branch [
      | then-is_open w ↦ nested depth s at c.is_open.ensures w.if-is_open.true (w.item-is ∙ w.form_within-item.ensures)
      | else-is_open w ↦ plain depth s at c.is_open.ensures w.if-is_open.false (w.item-is ∙ w.plain_end-item.ensures)
    ] in
    item-read _ _ _ _ c.loop-at.invariant c.loop-at-test.true _ c.if-b-ne32.false (sym item ∙ c.in-Ok.is)

pub overflow_add-result-in-Err : goal.overflow_add-result-in-Err
overflow_add-result-in-Err t c =
    let depth = c.args.depth - 1 in
    let s = c.args.s.now in
    let at = c.loop-at.at in
    let item : c.if-is_open.item ≡ item_end depth (drop (at + 1) s) = elim c.if-is_open.branch [
      | then-is_open w ↦ nested depth s at c.is_open.ensures w.if-is_open.true (w.item-is ∙ w.form_within-item.ensures)
      | else-is_open w ↦ plain depth s at c.is_open.ensures w.if-is_open.false (w.item-is ∙ w.plain_end-item.ensures)
    ] in
    omega (arith, (item_stops _ _ _ _ c.loop-at.invariant c.loop-at-test.true _ c.if-b-ne32.false (sym item ∙ c.in-Err.is)).1)

pub returns-in-Err : goal.returns-in-Err
returns-in-Err t c =
    let depth = c.args.depth - 1 in
    let s = c.args.s.now in
    let at = c.loop-at.at in
    let item : c.if-is_open.item ≡ item_end depth (drop (at + 1) s) = elim c.if-is_open.branch [
      | then-is_open w ↦ nested depth s at c.is_open.ensures w.if-is_open.true (w.item-is ∙ w.form_within-item.ensures)
      | else-is_open w ↦ plain depth s at c.is_open.ensures w.if-is_open.false (w.item-is ∙ w.plain_end-item.ensures)
    ] in
    sym (item_stops _ _ _ _ c.loop-at.invariant c.loop-at-test.true _ c.if-b-ne32.false (sym item ∙ c.in-Err.is)).0

pub returns-after-loop-at : goal.returns-after-loop-at
returns-after-loop-at t c = sym (ended _ _ _ _ c.loop-at.invariant c.loop-at-test.false)
