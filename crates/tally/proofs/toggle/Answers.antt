-- `toggle` meets its contract: the sheet's refusal, that of the variable, or a pass over the clauses.
use mathlib.Core.Path.{ap, ◌∙◌}
use mathlib.Core.Logic.{inl, inr}
use Prim.Native.Nat.{ℕ, ◌-◌}
use native.Mathlib.Omega.{arith}
use Rattle.words.specs.Bits.{toggle}
use Rattle.formula.proofs.ResultLaws.{passed_on}
use Rattle.tally.specs.Tally.{tally_in}
use Rattle.tally.specs.Machine.{changed}
use Rattle.tally.proofs.MachineLaws.{toggle_stops, toggle_none, toggle_made}
use Rattle.tally.proofs.toggle.Goals as goal
use Rattle.tally.proofs.toggle.Goals.{then-variable-eq0-via-then-variable-eq0, then-variable-eq0-via-else-variable-eq0+then-sheet-variable}

pub returns-in_err-read : goal.returns-in_err-read
returns-in_err-read c =
    rw (passed_on c.from_residual.result _ c.from_residual.ensures.1) (toggle_stops _ _ _ c.in_err-read.ensures _)

pub returns-then-variable-eq0 : goal.returns-then-variable-eq0
returns-then-variable-eq0 c =
    rw c.at.ensures
    (toggle_none _ _ c.read.new.self c.in_ok-read.ensures _
    (elim c.then-variable-eq0.branch [
      | then-variable-eq0-via-then-variable-eq0 w ↦ inl w.if-variable-eq0.true
      | then-variable-eq0-via-else-variable-eq0+then-sheet-variable w ↦ inr w.if-sheet-variable.true
    ]))

pub returns : goal.returns
unfolding tally_in changed
returns c =
    let v = c.args.variable in
    toggle_made _ _ c.read.new.self c.in_ok-read.ensures _ (omega arith) c.if-sheet-variable.false _ _
    c.store.ensures (c.toggled-after.ensures ∙ ap (λ (m : ℕ). toggle m (v - 1)) c.from_words-before.ensures) _ _
    c.pass.ensures
