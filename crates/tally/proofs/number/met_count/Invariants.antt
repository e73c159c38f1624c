-- `number::met_count` meets its contract: literal by literal.
use mathlib.Core.Path.{◌≡◌}
use Prim.Native.Nat.{◌+◌}
use lib.ListN.{drop}
use Rattle.std.specs.Prelude.{map}
use Rattle.words.specs.Lists.{count}
use Rattle.words.specs.Machine.{bits_of}
use Rattle.formula.specs.Formula.{met, literal_of}
use Rattle.tally.proofs.number.met_count.Given as goal

abbrev pub invariant-loop-word : goal.invariant-loop-word
invariant-loop-word l =
    let here = met (bits_of l.assignment) in
    l.number + count here (map literal_of (drop l.word-index l.clause)) ≡ count here (map literal_of l.clause)
