-- The laws that `clause_counts` and the operations on a tally cite, one for each way through them.
use Rattle.std.specs.Prelude.{◌≡◌, List, [], ℕ, get_or, Result as Outcome, Ok, Err}
use Rattle.std.proofs.Common.{ap, ◌∙◌}
use Rattle.words.specs.declared.Refused.{Refused as Declined}
use Rattle.words.specs.Refusals.{number_of}
use Rattle.formula.specs.Formula.{Formula}
use Rattle.formula.specs.Sheet.{Result, accepted, refused, parse}
use Rattle.ball.specs.Ball.{State, Reading as ClauseReading, reading}
use Rattle.tally.specs.Tally.{Tally}
use Rattle.tally.specs.Machine.{Comes}
use Rattle.engine.specs.declared.exports.TallyReply.{TallyReply}
use Rattle.engine.specs.Replies.{clause_counts_of, clause_counts_to, tally_reply_of, TallyMade}
use Rattle.engine.specs.Machine.{outcome_reply}

-- ---- a clause's reading

module _ (s : List ℕ) (i : ℕ) (at : State) where
  -- the sheet's refusal,
  pub counts_declined : (q : Declined) → refused (number_of q.reason) q.place ≡ parse s →
      record { met = 0; «open» = 0; number = number_of q.reason; place = q.place } ≡ clause_counts_to s i at
  unfolding clause_counts_to clause_counts_of
  counts_declined q e = ap (clause_counts_of i at) e

  -- and otherwise the reading in the formula that was read.
  pub counts_read : (f : Formula) → accepted f ≡ parse s → (x : ClauseReading) → x ≡ reading at (get_or f.clauses i []) →
      record { met = x.met; «open» = x.«open»; number = 0; place = 0 } ≡ clause_counts_to s i at
  unfolding clause_counts_to clause_counts_of
  counts_read f e x g = rw g (ap (clause_counts_of i at) e)

-- ---- a tally

-- what an operation comes to, in numbers
pub tally_made : (f : Tally → Result Tally) (t : Tally) (o : Outcome (Unit {0}) Declined) (u : Tally) (r : TallyReply) → Comes f t o u →
    r ≡ outcome_reply o → TallyMade f t r u
unfolding outcome_reply tally_reply_of
tally_made f t (Ok done) u r h e = record { reply = e ∙ ap tally_reply_of h.answer; tally = h.tally }
tally_made f t (Err x) u r h e = record { reply = e ∙ ap tally_reply_of h.answer; tally = h.tally }
