-- `recounted` meets its contract, by whether the number was 0 and is 0.
use mathlib.Core.Path.{◌∙◌}
use native.Mathlib.Omega.{arith}
use Rattle.tally.proofs.MachineLaws.{recounted_none, recounted_leaves, recounted_stays, recounted_falls}
use Rattle.tally.proofs.recounted.Goals as goal

pub returns-in-0-eq0 : goal.returns-in-0-eq0
returns-in-0-eq0 c = recounted_none _ _ _ c.in-0-eq0.is-0 c.in-0-eq0.is-1

pub returns-in-0-default : goal.returns-in-0-default
returns-in-0-default c = rw c.saturating_sub.ensures at c.min.ensures ∙ recounted_leaves _ _ _ c.in-0-default.is-0 c.in-0-default.is-1.1

pub returns-in_default-eq0 : goal.returns-in_default-eq0
returns-in_default-eq0 c = omega arith ∙ recounted_falls _ _ _ c.in_default-eq0.is-0.1 c.in_default-eq0.is-1

pub returns-in_default : goal.returns-in_default
returns-in_default c = recounted_stays _ _ _ c.in_default.is-0.1 c.in_default.is-1.1
