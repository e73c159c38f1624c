-- `Sheet::draw` has room for each clause: so many as were drawn are in the sheet.
use Rattle.std.proofs.Common.{◌≡◌}
use Rattle.trials.proofs.sheets.Sheet.draw.Given as goal

abbrev pub invariant-loop-i : goal.invariant-loop-i
invariant-loop-i l = l.self.count ≡ l.i
