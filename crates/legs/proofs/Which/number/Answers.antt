-- The discriminants are the numbers of the definition.
use Rattle.std.specs.Prelude.{◌≡◌, ◌+◌, refl}
use denote.Enum.Declared.{tag_of}
use Rattle.legs.specs.declared.Which.{Which}
use Rattle.legs.specs.declared.Which.TheVariants.{First, Longer}
use Rattle.legs.specs.contracts.Which.{the_type}
use Rattle.legs.specs.Machine.{sheet_number}
use Rattle.legs.proofs.Which.number.Goals as goal

tagged : (w : Which) → tag_of the_type w + 1 ≡ sheet_number w
unfolding sheet_number
tagged First = refl
tagged Longer = refl

pub returns : goal.returns
returns c = tagged c.args.self
