-- The discriminants are the numbers of the definition.
use Rattle.std.specs.Prelude.{◌≡◌, refl, ◌+◌}
use denote.Enum.Declared.{tag_of}
use Rattle.alike.specs.declared.Which.{Which}
use Rattle.alike.specs.declared.Which.TheVariants.{First, Second}
use Rattle.alike.specs.contracts.Which.{the_type}
use Rattle.alike.specs.Machine.{number_of_sheet}
use Rattle.alike.proofs.Which.number.Goals as goal

tagged : (w : Which) → tag_of the_type w + 1 ≡ number_of_sheet w
unfolding number_of_sheet
tagged First = refl
tagged Second = refl

pub returns : goal.returns
returns c = tagged c.args.self
