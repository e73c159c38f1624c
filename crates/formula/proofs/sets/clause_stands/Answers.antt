-- `sets::clause_stands` meets its contract: clauses with other masks are other sets.
use Rattle.std.proofs.Common.{◌≡◌, false, map, ap, sym, ◌∙◌}
use Rattle.formula.specs.Formula.{literal_of}
use Rattle.formula.specs.Machine.{clause_at}
use Rattle.formula.specs.Sets.{same_set}
use Rattle.words.proofs.ListLaws.{some_found, some_next, some_none}
use Rattle.formula.proofs.MaskLaws.{mask_differs}
use Rattle.formula.proofs.TableLaws.{held_cons, held_end}
use Rattle.formula.proofs.sets.clause_stands.Goals as goal
use Rattle.formula.proofs.sets.clause_stands.Goals.{else-own-masks-via-then-own-masks+else-same_set, else-own-masks-via-else-own-masks}

pub returns-then-same_set : goal.returns-then-same_set
returns-then-same_set c =
    some_found _ _ c.loop-k.k c.loop-k.invariant (held_cons c.args.clauses.count _ c.loop-k.k c.loop-k-test.true)
    (ap (same_set _) (sym c.clause.ensures.literals) ∙ sym c.same_set.ensures ∙ c.if-same_set.true)

pub loop-k-preserved : goal.loop-k-preserved
loop-k-preserved c =
    some_next _ _ c.loop-k.k c.loop-k.invariant (held_cons c.args.clauses.count _ c.loop-k.k c.loop-k-test.true) other
  where
    other : same_set (map literal_of c.args.clause.now) (clause_at c.args.clauses.cells.now c.loop-k.k) ≡ false
    other =
        elim c.else-own-masks.branch [
          | else-own-masks-via-then-own-masks+else-same_set w ↦
              ap (same_set _) (sym w.clause.ensures.literals) ∙ sym w.same_set.ensures ∙ w.if-same_set.false
          | else-own-masks-via-else-own-masks w ↦
              mask_differs _ _ (λ e. w.if-own-masks.false (c.mask-own.ensures ∙ e ∙ sym (c.requires.each c.loop-k.k c.loop-k-test.true)))
        ]

pub returns : goal.returns
returns c = some_none _ _ c.loop-k.k c.loop-k.invariant (held_end c.args.clauses.count _ c.loop-k.k c.loop-k-test.false)
