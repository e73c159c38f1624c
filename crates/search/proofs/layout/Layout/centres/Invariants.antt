-- `centres` meets its contract: after j whole blocks the product of their words, cut at the most, is made.
use Rattle.std.specs.Prelude.{◌≡◌, ◌^◌, min}
use Rattle.search.specs.Blocks.{block_words}
use Rattle.search.specs.Machine.{most_centres}
use Rattle.search.proofs.layout.Layout.centres.Given as goal

abbrev pub invariant-loop-j : goal.invariant-loop-j
invariant-loop-j l = l.made ≡ min (block_words l.self.whole ^ l._j) most_centres
