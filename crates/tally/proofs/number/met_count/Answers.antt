use native.Mathlib.Numerals.{add-one}
use native.Mathlib.Omega.{arith}
use Rattle.std.specs.Prelude.{◌≡◌, ◌+◌, map, drop}
use Rattle.words.specs.Lists.{count}
use Rattle.words.specs.Machine.{bits_of}
use Rattle.words.proofs.CountLaws.{count_le}
use Rattle.formula.specs.Formula.{met, literal_of}
use Rattle.tally.proofs.MachineLaws.{word_in, word_known, word_counted, none_counted, byte_digit}
use Rattle.tally.proofs.number.met_count.Goals as goal
use Rattle.tally.proofs.number.met_count.Goals.{After-from-number}

pub loop-word-init : goal.loop-word-init
loop-word-init c = omega arith

pub invariant_of-literal : goal.invariant_of-literal
invariant_of-literal c = record { known = word_known _ c.requires _ (word_in c.args.clause.now c.loop-word.word-index (omega arith)) }

-- one literal more
counted : (c : After-from-number) →
    let m = met (bits_of c.args.assignment) in
    let j = c.loop-word.word-index in
    let ws = c.args.clause.now in
    count m (map literal_of (drop j ws)) ≡ c.from-number.result + count m (map literal_of (drop (j + 1) ws))
counted c =
    rw (c.from-number.ensures, c.is_met.ensures, byte_digit, add-one)
    (word_counted (met (bits_of c.args.assignment)) c.args.clause.now c.loop-word.word-index (omega arith))

pub overflow_add-number : goal.overflow_add-number
overflow_add-number c =
    omega (
      arith,
      counted c,
      c.loop-word.invariant,
      count_le (met (bits_of c.args.assignment)) (map literal_of c.args.clause.now),
      c.requires.short,
    )

pub loop-word-preserved : goal.loop-word-preserved
loop-word-preserved c = omega (arith, counted c, c.loop-word.invariant)

pub returns : goal.returns
returns c = omega (arith, c.loop-word.invariant, none_counted (met (bits_of c.args.assignment)) c.args.clause.now c.loop-word.word-index (omega arith))
