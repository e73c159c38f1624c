-- What the machine's answer stands for.
use Rattle.std.specs.Prelude.{Bool, cond, ℕ, Result, Ok, Err}
use Rattle.words.specs.Refusals.{number_of}
use Rattle.alike.specs.declared.Which.{Which}
use Rattle.alike.specs.declared.Which.TheVariants.{First, Second}
use Rattle.alike.specs.declared.Declined.{Declined}
use Rattle.alike.specs.Alike.{FIRST, SECOND, Comparison, are_alike, are_different, declined}

unfoldable pub number_of_sheet : Which → ℕ
number_of_sheet First = FIRST
number_of_sheet Second = SECOND

-- whether they are alike, or the refusal by its numbers
unfoldable pub comparison_in : Result Bool Declined → Comparison
comparison_in (Ok same) = cond same are_alike are_different
comparison_in (Err d) = declined (number_of_sheet d.sheet) (number_of d.refused.reason) d.refused.place
