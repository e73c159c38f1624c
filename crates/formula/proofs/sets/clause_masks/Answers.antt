use Rattle.std.proofs.Common.{rules, ℕ, ◌≡◌, subst, ◌∙◌, ap, arith}
use Rattle.formula.specs.Machine.{mask_of, Masks}
use Rattle.formula.proofs.MaskLaws.{masks_none, masks_next}
use Rattle.formula.proofs.sets.clause_masks.Goals as goal

pub loop-i-init : goal.loop-i-init
loop-i-init c = masks_none _ _ (search rules)

pub loop-i-preserved : goal.loop-i-preserved
loop-i-preserved c =
    masks_next c.loop-i.i _ _ (omega (arith, c.args.clauses.fit.room)) c.loop-i.invariant _ (c.mask.ensures ∙ ap mask_of c.clause.ensures.literals)

pub returns : goal.returns
returns c =
    let all : c.loop-i.i ≡ c.args.clauses.count = omega arith in
    subst (λ (x : ℕ). Masks x c.args.clauses.cells.now c.loop-i.masks) all c.loop-i.invariant
