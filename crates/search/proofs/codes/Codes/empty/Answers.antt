-- `empty` meets its contract: no variables make no blocks.
use Rattle.std.specs.Prelude.{None, List, ℕ, ◌/◌, ◌%◌, min}
use Rattle.std.proofs.Common.{[], sym, arith}
use native.Mathlib.Nat.{zero-div, zero-mod}
use Rattle.code.specs.declared.plan.Plan.{Plan}
use Rattle.search.specs.Blocks.{Holds}
use Rattle.search.specs.Machine.{plan_in}
use Rattle.search.proofs.CodesLaws.{holds_none, plan_variables, plan_reach, plan_laid, plan_blocks, plan_held}
use Rattle.search.proofs.codes.Codes.empty.Goals as goal

module _ (p : Plan) (cells : List ℕ) where
  wholes : Holds (0 / p.size) p.size p.radius None cells
  wholes = holds_none _ _ cells (zero-div p.size)

  rest : Holds (0 % p.size) (0 % p.size) (min p.radius (0 % p.size)) None cells
  rest = holds_none _ _ cells (zero-mod p.size)

pub invariant_of-result : goal.invariant_of-result
invariant_of-result c =
    let p = c.args.plan in
    let none = sym (zero-div p.size) in
    record {
      laid = plan_laid (plan_in p) 0 _ _ _ none (wholes p _) (rest p _) (omega arith);
      variables = plan_variables (plan_in p) 0 _ [] [] none (wholes p []) (rest p []);
      reach = plan_reach (plan_in p) 0 _ [] [] none (wholes p []) (rest p []) p.within (omega arith);
    }

pub returns-clause-laid : goal.returns-clause-laid
returns-clause-laid c =
    let p = c.args.plan in
    plan_blocks (plan_in p) 0 _ _ _ (sym (zero-div p.size)) (wholes p _) (rest p _)

pub returns-clause-held : goal.returns-clause-held
returns-clause-held c =
    let p = c.args.plan in
    plan_held (plan_in p) 0 _ _ _ (sym (zero-div p.size)) (wholes p _) (rest p _)
