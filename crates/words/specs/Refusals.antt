-- The numbers of the refusals (paper 01, "When the engine declines"; 02, papers 2, 11, 12 and 13).
use Rattle.std.specs.Prelude.{ℕ}
use Rattle.words.specs.declared.Reason.{Reason}
use Rattle.words.specs.declared.Reason.TheVariants.{RaggedLength, ShortHeader, WrongKind, TruncatedClause, AboveLimit, UnknownVariable, RepeatedVariable, BadPlan, ShortTable, NoSuchVariable, OtherSearch, Finished, ClauseDropped, ShortList}

unfoldable pub number_of : Reason → ℕ
number_of RaggedLength = 1
number_of ShortHeader = 2
number_of WrongKind = 3
number_of TruncatedClause = 4
number_of AboveLimit = 5
number_of UnknownVariable = 6
number_of RepeatedVariable = 7
number_of BadPlan = 8
number_of ShortTable = 9
number_of NoSuchVariable = 10
number_of OtherSearch = 11
number_of Finished = 12
number_of ClauseDropped = 13
number_of ShortList = 14
