-- The discriminants are the numbers of the definition.
use Rattle.std.specs.Prelude.{◌≡◌, refl}
use denote.Enum.Declared.{tag_of}
use Rattle.decision.specs.declared.Ending.{Ending}
use Rattle.decision.specs.declared.Ending.TheVariants.{Refused, Clear, None, Spent}
use Rattle.decision.specs.contracts.Ending.{the_type}
use Rattle.decision.specs.Answers.{ending_number}
use Rattle.decision.proofs.Ending.number.Goals as goal

tagged : (e : Ending) → tag_of the_type e ≡ ending_number e
unfolding ending_number
tagged Refused = refl
tagged Clear = refl
tagged None = refl
tagged Spent = refl

pub returns : goal.returns
returns c = tagged c.args.self
