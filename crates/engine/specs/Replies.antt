-- The numbers of an answer on codes, on two sheets, on a clause and on a tally, as a host in C has them. In every reply `number` and `place` are
-- the refusal's, and what does not belong to an answer is 0.
use Rattle.std.specs.Prelude.{◌≡◌, List, [], ℕ, get_or}
use Rattle.formula.specs.Formula.{Formula}
use Rattle.formula.specs.Sheet.{Result, accepted, refused, parse}
use Rattle.code.specs.Operations.{Answer, given, declined}
use Rattle.alike.specs.Alike.{Comparison, are_alike, are_different, declined as one_declined, comparison}
use Rattle.ball.specs.Ball.{State, reading}
use Rattle.tally.specs.Tally.{Tally, left}
use Rattle.engine.specs.declared.exports.NumberReply.{NumberReply}
use Rattle.engine.specs.declared.exports.AlikeReply.{AlikeReply}
use Rattle.engine.specs.declared.exports.CountsReply.{CountsReply}
use Rattle.engine.specs.declared.exports.TallyReply.{TallyReply}
use Rattle.decision.specs.Answers.{REFUSED}

-- ---- codes, volumes and floors

-- The number asked for, or the refusal.
unfoldable pub result_of : Answer → NumberReply
result_of (given n) = record { result = n; number = 0; place = 0 }
result_of (declined n p) = record { result = 0; number = n; place = p }

-- ---- two sheets

abbrev pub ALIKE : ℕ
ALIKE = 1

abbrev pub DIFFERENT : ℕ
DIFFERENT = 2

-- A refusal says which sheet it is about.
unfoldable pub comparison_of : Comparison → AlikeReply
comparison_of are_alike = record { answer = ALIKE; sheet = 0; number = 0; place = 0 }
comparison_of are_different = record { answer = DIFFERENT; sheet = 0; number = 0; place = 0 }
comparison_of (one_declined sheet number place) = record { answer = REFUSED; sheet = sheet; number = number; place = place }

-- What `alike` gives.
unfoldable pub alike_to : List ℕ → List ℕ → AlikeReply
alike_to s t = comparison_of (comparison s t)

-- ---- a clause

-- The reading of clause i, counted from 0; past the last clause it is that of no literal.
unfoldable pub clause_counts_of : ℕ → State → Result Formula → CountsReply
clause_counts_of i s (accepted f) =
    let r = reading s (get_or f.clauses i []) in record { met = r.met; «open» = r.«open»; number = 0; place = 0 }
clause_counts_of i s (refused number place) = record { met = 0; «open» = 0; number = number; place = place }

-- What `clause_counts` gives.
unfoldable pub clause_counts_to : List ℕ → ℕ → State → CountsReply
clause_counts_to sheet i s = clause_counts_of i s (parse sheet)

-- ---- a tally

-- Nothing refused is 0 and 0.
unfoldable pub tally_reply_of : Result Tally → TallyReply
tally_reply_of (accepted t) = record { number = 0; place = 0 }
tally_reply_of (refused number place) = record { number = number; place = place }

-- What `tally_begin` or `tally_toggle`, as the operation f, makes of the tally t that was lent: the reply r, and the tally u.
pub record TallyMade (f : Tally → Result Tally) (t : Tally) (r : TallyReply) (u : Tally) : Type 0 where
  pub reply : r ≡ tally_reply_of (f t)
  pub tally : u ≡ left t (f t)
