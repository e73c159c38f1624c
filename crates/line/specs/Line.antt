-- The line that the programs print for a reply (paper 01, "Settled examples").
use Rattle.std.specs.Prelude.{ℕ, cond, List, [], ◌∷◌, ◌++◌, ◌==◌, codes, decimal, slice_index}
use Rattle.decision.specs.declared.Reply.{Reply}
use Rattle.decision.specs.Answers.{REFUSED, CLEAR, NONE, HORN}
use Rattle.line.specs.declared.Method.{Method}
use Rattle.line.specs.declared.Method.TheVariants.{Horn, Ball}
use Rattle.line.specs.declared.Verdict.{Verdict}
use Rattle.line.specs.declared.Verdict.TheVariants.{Clear, None, Spent}
use Rattle.line.specs.declared.Line.{Line}
use Rattle.line.specs.declared.Line.TheVariants.{Refused, Decided}

-- A reply that is no refusal was decided by balls unless it says by rounds, and is spent unless it says clear or none.
abbrev pub method_of : ℕ → Method
method_of road = cond (road == HORN) Horn Ball

abbrev pub verdict_of : ℕ → Verdict
verdict_of verdict = cond (verdict == CLEAR) Clear (cond (verdict == NONE) None Spent)

abbrev pub line_of : Reply → Line
line_of r =
    cond (r.verdict == REFUSED)
    (Refused r.number r.place)
    (Decided r.batch (method_of r.road) (verdict_of r.verdict) r.calls (r.marks0 ∷ r.marks1 ∷ r.marks2 ∷ r.marks3 ∷ []))

abbrev pub method_text : Method → List ℕ
method_text Horn = codes "horn"
method_text Ball = codes "ball"

abbrev pub verdict_text : Verdict → List ℕ
verdict_text Clear = codes "clear"
verdict_text None = codes "none"
verdict_text Spent = codes "spent"

-- a number after a space
abbrev pub spaced : ℕ → List ℕ
spaced n = codes " " ++ decimal n

abbrev pub line_text : Line → List ℕ
line_text (Refused number place) = codes "refused " ++ (decimal number ++ (codes " place " ++ decimal place))
line_text (Decided batch method verdict calls marks) =
    codes "batch "
    ++ (decimal batch
    ++ (codes " "
    ++ (method_text method
    ++ (codes " "
    ++ (verdict_text verdict
    ++ (codes " calls "
    ++ (decimal calls
    ++ (codes " marks"
    ++ (spaced (slice_index marks 0) ++ (spaced (slice_index marks 1) ++ (spaced (slice_index marks 2) ++ spaced (slice_index marks 3))))))))))))
