-- A reply has the numbers of its decision, variant by variant.
use mathlib.Core.Path.{◌∙◌}
use Rattle.decision.specs.Answers.{ending_number, numbers_of, reply_of}
use Rattle.decision.specs.Machine.{verdict_in, decision_in}
use Rattle.decision.proofs.ReplyFromDecision.from.Goals as goal

pub returns-in-Clear : goal.returns-in-Clear
unfolding reply_of numbers_of decision_in verdict_in ending_number
returns-in-Clear c = c.counted.ensures ∙ rw c.in-Clear.is

pub returns-in-None : goal.returns-in-None
unfolding reply_of numbers_of decision_in verdict_in ending_number
returns-in-None c = c.counted-in-None.ensures ∙ rw (c.in-None.is, c.zero.ensures)

pub returns-in-Spent : goal.returns-in-Spent
unfolding reply_of numbers_of decision_in verdict_in ending_number
returns-in-Spent c = c.counted-in-Spent.ensures ∙ rw (c.in-Spent.is, c.zero-in-Spent.ensures)

pub returns-in-Refused : goal.returns-in-Refused
unfolding reply_of numbers_of decision_in verdict_in
returns-in-Refused c = c.declined.ensures ∙ rw c.in-Refused.is
