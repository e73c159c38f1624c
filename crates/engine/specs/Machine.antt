-- The numbers of a tally's outcome.
use Rattle.std.specs.Prelude.{Result, Ok, Err}
use Rattle.words.specs.declared.Refused.{Refused}
use Rattle.words.specs.Refusals.{number_of}
use Rattle.engine.specs.declared.exports.TallyReply.{TallyReply}

-- the numbers of what an operation on a tally comes to
unfoldable pub outcome_reply : Result (Unit {0}) Refused → TallyReply
outcome_reply (Ok done) = record { number = 0; place = 0 }
outcome_reply (Err r) = record { number = number_of r.reason; place = r.place }
