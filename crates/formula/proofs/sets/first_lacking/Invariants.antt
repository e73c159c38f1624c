-- Before each turn, which clause of a is lacking depends on those from i on, which begin at `place`.
use Rattle.std.proofs.Common.{◌≡◌, ◌+◌, ◌*◌, ◌≤◌, drop}
use Rattle.formula.specs.Machine.{row_cells, held}
use Rattle.formula.specs.Sheet.{header_words}
use Rattle.formula.specs.Sets.{first_lacking}
use Rattle.formula.proofs.sets.first_lacking.Given as goal

abbrev pub invariant-loop-i : goal.invariant-loop-i
invariant-loop-i l =
    let cs = held l.a.count l.a.cells.now in
    let ds = held l.b.count l.b.cells.now in
    (first_lacking l.place (drop l.i cs) ds ≡ first_lacking header_words cs ds) × (l.place ≤ header_words + row_cells * l.i)
