-- What a caller of the reader learns from its answer.
use Rattle.std.specs.Prelude.{◌≡◌, List, ℕ, ◌≤◌, Result as Outcome, Ok}
use Rattle.words.specs.Bits.{width}
use Rattle.words.specs.declared.Refused.{Refused as Refusal}
use Rattle.formula.specs.declared.sheet.Sheet.{Sheet}
use Rattle.formula.specs.Machine.{Table, result_in}
use Rattle.formula.specs.Reading.{formula_of}
use Rattle.formula.specs.Sheet.{parse}

-- What was read can be worked on: the table holds it, and an assignment has room for its variables.
pub read_ready : (s : List ℕ) (r : Outcome (Unit {0}) Refusal) (sheet : Sheet) → result_in (λ _. formula_of sheet) r ≡ parse s → r ≡ Ok tt →
    (sheet.n ≤ width) × Table sheet.n sheet.count sheet.cells
read_ready s r sheet h e = (sheet.small, sheet.holds)
