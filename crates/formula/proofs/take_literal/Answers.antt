-- `take_literal` is `take_literal`, for every list of literals whose variables are the set: each way out is a law of WordLaws.antt.
use Rattle.std.proofs.Common.{◌≡◌, true, false, sym, ◌∙◌, ◌-◌, ◌/◌}
use Rattle.words.specs.Refusals.{number_of}
use Rattle.words.specs.Bits.{bit}
use Rattle.words.specs.Machine.{bits_of}
use Rattle.formula.specs.Formula.{bit_of, literal_of}
use Rattle.formula.specs.Machine.{kind_number}
use Rattle.formula.proofs.WordLaws.{literal_other, literal_zero, literal_unknown, literal_repeated, literal_read}
use Rattle.formula.proofs.take_literal.Goals as goal
use Rattle.formula.proofs.take_literal.Goals.{then-variable-eq0-via-then-variable-eq0, then-variable-eq0-via-else-variable-eq0+then-n-variable}

pub returns-in_default : goal.returns-in_default
unfolding kind_number number_of
returns-in_default c before set = rw c.at.ensures (literal_other _ before _ _ c.in_default.ensures)

pub returns-then-variable-eq0 : goal.returns-then-variable-eq0
unfolding kind_number number_of
returns-then-variable-eq0 c before set =
    elim c.then-variable-eq0.branch [
      | then-variable-eq0-via-then-variable-eq0 w ↦
          rw c.at-then-variable-eq0.ensures (literal_zero _ before _ _ _ c.in-Some.ensures w.if-variable-eq0.true)
      | then-variable-eq0-via-else-variable-eq0+then-n-variable w ↦
          rw c.at-then-variable-eq0.ensures (literal_unknown _ before _ _ _ c.in-Some.ensures w.if-variable-eq0.false w.if-n-variable.true)
    ]

pub returns-then-test : goal.returns-then-test
unfolding kind_number number_of bit_of literal_of
returns-then-test c before set =
    let seen : bit (bits_of c.args.seen) (c.in-Some.word / 2 - 1) ≡ true = rw (← c.bit.ensures.0) (sym c.test.ensures ∙ c.if-test.true) in
    rw c.at-then-test.ensures (literal_repeated _ before _ _ _ c.in-Some.ensures c.if-variable-eq0.false c.if-n-variable.false _ set seen)

pub returns : goal.returns
unfolding kind_number bit_of literal_of
returns c before set =
    let new : bit (bits_of c.args.seen) (c.in-Some.word / 2 - 1) ≡ false = rw (← c.bit.ensures.0) (sym c.test.ensures ∙ c.if-test.false) in
    literal_read _ before _ _ _ c.in-Some.ensures c.if-variable-eq0.false c.if-n-variable.false _ set new
