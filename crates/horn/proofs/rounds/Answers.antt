use mathlib.Core.Path.{◌≡◌, refl, sym, ap, ◌∙◌}
use native.Mathlib.Omega.{arith}
use Rattle.std.specs.Prelude.{Some, None}
use Rattle.words.specs.Bits.{toggle}
use Rattle.formula.proofs.TableLaws.{table_wider}
use Rattle.horn.proofs.MachineLaws.{begins, round_start, round_spent, round_clear, round_none, round_unmet, round_next, zero_found}
use Rattle.horn.proofs.rounds.Goals as goal

pub loop-made-init : goal.loop-made-init
loop-made-init c =
    let table = c.args.sheet.now.holds in
    let occ = c.of-occ.ensures in
    let planes = rw occ.count at c.start-planes.ensures in
    rw c.zero-at.ensures
    (round_start c.args.budget table planes.result_len (begins table occ.occurs planes.starts planes.starts_2))

-- no clause is false
pub returns-in_default : goal.returns-in_default
returns-in_default c =
    let occ = c.of-occ.ensures in
    let zero = zero_found c.loop-made.invariant occ.occurs occ.count None c.in_default.ensures.by_index in
    round_clear c.args.sheet.now.holds c.loop-made.invariant c.loop-made-test.true _ zero refl _ refl

pub clause-requires : goal.clause-requires
clause-requires c =
    let occ = c.of-occ.ensures in
    let (inside, zero) = zero_found c.loop-made.invariant occ.occurs occ.count (Some c.in-Some.first) c.in-Some.ensures.by_index in
    inside

pub first_positive-requires : goal.first_positive-requires
first_positive-requires c = c.clause.ensures.each

-- the first false clause has no positive literal
pub returns-in_default-first_positive : goal.returns-in_default-first_positive
returns-in_default-first_positive c =
    let occ = c.of-occ.ensures in
    let (inside, zero) = zero_found c.loop-made.invariant occ.occurs occ.count (Some c.in-Some.first) c.in-Some.ensures.by_index in
    round_none c.args.sheet.now.holds c.loop-made.invariant c.loop-made-test.true _ zero (λ e. omega arith)
    (sym (rw c.clause.ensures.literals at c.in_default-first_positive.ensures))

-- or it has one, which is set
pub loop-made-preserved : goal.loop-made-preserved
loop-made-preserved c =
    let table = c.args.sheet.now.holds in
    let occ = c.of-occ.ensures in
    let inv = c.loop-made.invariant in
    let (inside, zero) = zero_found inv occ.occurs occ.count (Some c.in-Some.first) c.in-Some.ensures.by_index in
    let literal = c.in-Some-first_positive.literal in
    let word = rw c.clause.ensures.literals at c.in-Some-first_positive.ensures in
    let some : literal.word ≡ 0 → ⊥ = λ e. omega arith in
    let unmet = round_unmet table inv c.loop-made-test.true _ zero (λ e. omega arith) c.requires literal.word
    word some in
    let set = rw occ.count at c.set.ensures in
    round_next table inv c.loop-made-test.true _ zero (λ e. omega arith) c.requires literal.word word some _ _
    (c.toggled-at.ensures ∙ ap (toggle _) c.bit.ensures.0) set.size
    (set.shows _ _ (table_wider _ _ _ _ c.args.sheet.now.small table) occ.occurs unmet inv.shows)

pub returns : goal.returns
returns c = round_spent c.args.sheet.now.holds c.loop-made.invariant c.loop-made-test.false
