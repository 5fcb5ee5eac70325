-- A kind has room for all that it takes, and what it does not take may be cut.
use Rattle.std.proofs.Common.{refl, ap, ⊎_elim, arith}
use Rattle.tc_aead_cipher.specs.declared.call.CallKind.TheVariants.{Init, Aad, Data, Final, Reset, Mac, Update, Output}
use Rattle.tc_sparkle_aead.specs.Message.{zeros}
use Rattle.call_text.proofs.RunSteps.{by_kind, same-call, whole}
use Rattle.call_text.proofs.run.call.Goals as goal

pub returns-in-Init : goal.returns-in-Init
returns-in-Init c =
    let a = c.args in
    let l = c.requires.0 in
    let e = same-call a.e a.f.kind a.f.number _ (whole a.s.now a.f.first l) (whole a.s.now a.f.second l) (whole a.s.now a.f.third l) refl
    c.call_with.ensures in
    by_kind a.e a.s.now a.f (Init _) c.in-Init.is _ _ _ _ _ e refl

pub returns-in-Aad : goal.returns-in-Aad
returns-in-Aad c =
    let a = c.args in
    let e = same-call a.e a.f.kind a.f.number _ (whole a.s.now a.f.first c.requires.0) refl refl (ap zeros (omega arith))
    c.call_with-in-Aad.ensures in
    ⊎_elim (λ k. by_kind a.e a.s.now a.f Aad k _ _ _ _ _ e refl)
    (⊎_elim (λ k. by_kind a.e a.s.now a.f Data k _ _ _ _ _ e refl) (λ k. by_kind a.e a.s.now a.f Final k _ _ _ _ _ e refl))
    c.in-Aad.is

pub returns-in-Reset : goal.returns-in-Reset
returns-in-Reset c =
    let a = c.args in
    let e = c.call_with-in-Reset.ensures in
    ⊎_elim (λ k. by_kind a.e a.s.now a.f Reset k _ _ _ _ _ e refl)
    (⊎_elim (λ k. by_kind a.e a.s.now a.f Mac k _ _ _ _ _ e refl)
    (⊎_elim (λ k. by_kind a.e a.s.now a.f Update k _ _ _ _ _ e refl) (λ k. by_kind a.e a.s.now a.f Output k _ _ _ _ _ e refl)))
    c.in-Reset.is
