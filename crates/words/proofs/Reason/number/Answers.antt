-- The discriminants are the numbers of the definition.
use Rattle.words.specs.declared.Reason.TheVariants.{RaggedLength, ShortHeader, WrongKind, TruncatedClause, AboveLimit, UnknownVariable, RepeatedVariable, BadPlan, ShortTable, NoSuchVariable, OtherSearch, Finished, ClauseDropped, ShortList}
use Rattle.words.specs.declared.Reason.{Reason}
use Rattle.words.specs.Refusals.{number_of}
use Rattle.words.specs.contracts.Reason.{the_type}
use Rattle.std.specs.Prelude.{◌≡◌, refl, ◌+◌}
use denote.Enum.Declared.{tag_of}
use Rattle.words.proofs.Reason.number.Goals as goal

tagged : (r : Reason) → tag_of the_type r + 1 ≡ number_of r
unfolding number_of
tagged RaggedLength = refl
tagged ShortHeader = refl
tagged WrongKind = refl
tagged TruncatedClause = refl
tagged AboveLimit = refl
tagged UnknownVariable = refl
tagged RepeatedVariable = refl
tagged BadPlan = refl
tagged ShortTable = refl
tagged NoSuchVariable = refl
tagged OtherSearch = refl
tagged Finished = refl
tagged ClauseDropped = refl
tagged ShortList = refl

pub returns : goal.returns
returns c = tagged c.args.self
