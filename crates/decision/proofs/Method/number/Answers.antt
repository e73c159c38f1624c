-- The discriminants are the numbers of the definition.
use Rattle.std.specs.Prelude.{◌≡◌, refl}
use denote.Enum.Declared.{tag_of}
use Rattle.decision.specs.declared.Method.{Method}
use Rattle.decision.specs.declared.Method.TheVariants.{Unnamed, Horn, Balls}
use Rattle.decision.specs.contracts.Method.{the_type}
use Rattle.decision.specs.Answers.{method_number}
use Rattle.decision.proofs.Method.number.Goals as goal

tagged : (m : Method) → tag_of the_type m ≡ method_number m
unfolding method_number
tagged Unnamed = refl
tagged Horn = refl
tagged Balls = refl

pub returns : goal.returns
returns c = tagged c.args.self
