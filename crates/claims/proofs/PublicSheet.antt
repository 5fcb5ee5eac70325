-- A sheet is a function of the shapes of its calls and of their verdicts.
use mathlib.Core.Path.{◌≡◌, refl, ap, ap₂, ◌∙◌}
use mathlib.Core.List.{List, [], ◌∷◌, map}
use Rattle.tc_aead_cipher.specs.declared.variant.SparkleVariant.{SparkleVariant}
use Rattle.tc_sparkle_aead.specs.declared.engine.SparkleEngine.{SparkleEngine}
use Rattle.tc_sparkle_aead.specs.Engine.{new_engine}
use Rattle.tc_aead_cipher.specs.Call.{Call}
use Rattle.claims.specs.Shape.{Shape, shape}
use Rattle.tc_sparkle_aead.specs.Sheet.{step, Line, lines, sheet}
use Rattle.claims.specs.Reader.{Verdict, new_reader, verdicts}
use Rattle.claims.proofs.Invariant.{Invariant, invariant_new}
use Rattle.claims.proofs.PublicState.{Public, public_of, next, next_is, line_by, line-is}
use Rattle.claims.proofs.Demand3.{asked_all, asked_are_notes}
use Rattle.claims.proofs.EngineDemand3.{linked, keeps}

-- A sheet from shapes and verdicts.
abbrev pub public_lines : Public → List Shape → List Verdict → List Line
public_lines u [] ws = []
public_lines u (s ∷ ss) [] = []
public_lines u (s ∷ ss) (w ∷ ws) = line_by u s w ∷ public_lines (next u s w) ss ws

lines_public : (calls : List Call) (e : SparkleEngine)
    → lines e calls ≡ public_lines (public_of e) (map shape calls) (asked_all e calls)
unfolding lines asked_all
lines_public [] e = refl
lines_public (c ∷ calls) e =
    ap₂ (λ (l : Line) (ls : List Line). l ∷ ls) (line-is e c)
    (lines_public calls (step e c).engine
    ∙ ap (λ (u : Public). public_lines u (map shape calls) (asked_all (step e c).engine calls)) (next_is e c))

-- A variant's sheet of a list is a function of the list's shapes and its verdicts.
pub sheet_public : (v : SparkleVariant) (calls : List Call)
    → sheet v calls ≡ public_lines (public_of (new_engine v)) (map shape calls) (verdicts v calls)
unfolding sheet verdicts
sheet_public v calls =
    lines_public calls (new_engine v)
    ∙ ap (public_lines (public_of (new_engine v)) (map shape calls))
    (asked_are_notes v (Invariant v) (linked v) (invariant_new v) (keeps v) calls (new_engine v) new_reader (invariant_new v))
