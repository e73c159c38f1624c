-- The machine's decision, read as the definition's, and the codes that it is made by.
use Rattle.std.specs.Prelude.{◌≡◌, false, Result, Ok, Err}
use Rattle.words.specs.Machine.{bits_of}
use Rattle.words.specs.Refusals.{number_of}
use Rattle.words.specs.declared.Refused.{Refused as Declined}
use Rattle.formula.specs.Formula.{Formula}
use Rattle.tree.specs.Budget.{clear, none, spent}
use Rattle.code.specs.Code.{code}
use Rattle.search.specs.Run.{Plan, blocks}
use Rattle.search.specs.Machine.{blocks_of}
use Rattle.search.specs.declared.codes.Codes.{Codes}
use Rattle.horn.specs.Horn.{is_horn}
use Rattle.decision.specs.Answers as Spec
use Rattle.decision.specs.Answers.{answered}
use Rattle.decision.specs.declared.Verdict.{Verdict}
use Rattle.decision.specs.declared.Verdict.TheVariants.{Clear, None, Spent, Refused}
use Rattle.decision.specs.declared.Decision.{Decision}

unfoldable pub verdict_in : Verdict → Spec.Verdict
verdict_in (Clear a c) = answered (clear (bits_of a) c)
verdict_in (None c) = answered (none c)
verdict_in (Spent c) = answered (spent c)
verdict_in (Refused r) = Spec.refused r.number r.place

unfoldable pub decision_in : Decision → Spec.Decision
decision_in d = record { batch = d.batch; method = d.method; verdict = verdict_in d.verdict }

-- a decision, or the refusal that came before it
abbrev pub outcome_in : Result Decision Declined → Spec.Decision
outcome_in (Ok d) = decision_in d
outcome_in (Err r) = Spec.refusal (number_of r.reason) r.place

-- Where the clauses are searched by balls, the codes are of as many variables,
abbrev pub Coded : Formula → Codes → Type 0
Coded f c = is_horn f.clauses ≡ false → f.n ≡ c.n

-- and their blocks are those of a plan.
abbrev pub Planned : Plan → Formula → Codes → Type 0
Planned p f c = is_horn f.clauses ≡ false → blocks_of c ≡ blocks code p f.n
