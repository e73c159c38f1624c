-- What a leg's balls leave.
use Rattle.std.specs.Prelude.{cond, [], ℕ, Result, Ok, Err}
use Rattle.formula.specs.Formula.{Formula}
use Rattle.tree.specs.Legs.{Progress}
use Rattle.search.specs.Run.{Plan}
use Rattle.horn.specs.Horn.{is_horn}
use Rattle.decision.specs.Answers as Spec
use Rattle.decision.specs.Answers.{answered}
use Rattle.decision.specs.declared.Method.TheVariants.{Balls}
use Rattle.legs.specs.declared.Checkpoint.{Checkpoint}
use Rattle.legs.specs.declared.LegEnd.{LegEnd}
use Rattle.legs.specs.declared.Before.{Before}
use Rattle.words.specs.Refusals.{number_of}
use Rattle.legs.specs.declared.Declined.{Declined as Refusal}
use Rattle.legs.specs.declared.Which.{Which}
use Rattle.legs.specs.declared.Which.TheVariants.{First, Longer}
use Rattle.legs.specs.Legs.{Check, Passed, Declined, FIRST, LONGER, refused_leg, moved_to, decided_leg, centres, checks, unless_declined, balls_leg}

-- the number of a sheet, in refusals
unfoldable pub sheet_number : Which → ℕ
sheet_number First = FIRST
sheet_number Longer = LONGER

-- what the machine's checks say, as the definition's
abbrev pub check_in : Result (Unit {0}) Refusal → Check
check_in (Ok u) = Passed
check_in (Err d) = Declined (sheet_number d.sheet) (number_of d.why.reason) d.why.place

-- what a leg leaves, or the refusal that came before it
abbrev pub end_in : Checkpoint → Result LegEnd Refusal → LegEnd
end_in r (Ok e) = e
end_in r (Err d) = refused_leg (sheet_number d.sheet) (number_of d.why.reason) d.why.place r

-- a formula without clauses
abbrev pub header_in : (batch n : ℕ) → Formula
header_in batch n = record { batch = batch; n = n; clauses = [] }

-- what a leg over balls leaves
unfoldable pub progress_end : ℕ → Checkpoint → Progress → LegEnd
progress_end batch r l = decided_leg (record { batch = batch; method = Balls; verdict = answered l.answer }) (moved_to r l.next)

-- the leg on a formula, with what came before it: its checks and its balls, and by its method
unfoldable pub checked_leg : Before → Plan → ℕ → Checkpoint → Formula → LegEnd
checked_leg b p A r f =
    unless_declined (checks (sheet_number b.name) (centres p f) p r (header_in b.batch b.n) f b.lacking) r (balls_leg p A r f)

unfoldable pub sheet_leg : Before → Plan → ℕ → Checkpoint → Formula → LegEnd
sheet_leg b p A r f = cond (is_horn f.clauses) (decided_leg (Spec.judged p A f) r) (checked_leg b p A r f)
