-- What the two numbers that `clause_counts` gives say of a clause of an accepted sheet.
use Rattle.std.specs.Prelude.{◌≡◌, ℕ, ◌≤◌, ltb, length, get_or}
use mathlib.Core.List.{List, []}
use Rattle.std.proofs.Math.ListN.{get_or-eq_default}
use Rattle.formula.specs.Formula.{Clause, Formula, some_met}
use Rattle.formula.specs.Sheet.{accepted, parse}
use Rattle.ball.specs.Ball.{State, true?, is_true, restricted}
use Rattle.ball.specs.Names.{ones_of, zeros_of}
use Rattle.ball.proofs.ReadingLaws.{NoFlippedMet, reading_true, reading_ones, reading_zeros}
use Rattle.ball.proofs.ClauseLaws.{counting_none}
use Rattle.engine.specs.Replies.{clause_counts_of, clause_counts_to}

module _ (sheet : List ℕ) (f : Formula) (read : parse sheet ≡ accepted f) (i : ℕ) (s : State) where
  abbrev clause : Clause
  clause = get_or f.clauses i []

  -- Past the last clause both are 0.
  pub counts_past : length f.clauses ≤ i → clause_counts_to sheet i s ≡ record { met = 0; «open» = 0; number = 0; place = 0 }
  unfolding clause_counts_to clause_counts_of
  counts_past h = rw (read, get_or-eq_default f.clauses [] h, counting_none s)

  -- The first is above 0 exactly if the assignment meets a literal of the clause.
  pub counts_true : ltb 0 (clause_counts_to sheet i s).met ≡ some_met s.assignment clause
  unfolding clause_counts_to clause_counts_of is_true true?
  counts_true = rw read (reading_true s clause)

  -- While no flipped literal of the clause is met they are the ones and the zeros of the clause restricted to the variables that are
  -- not flipped.
  pub counts_name : NoFlippedMet s clause →
      ((clause_counts_to sheet i s).met ≡ ones_of s.assignment (restricted s clause))
      × ((clause_counts_to sheet i s).«open» ≡ zeros_of s.assignment (restricted s clause))
  unfolding clause_counts_to clause_counts_of
  counts_name h = rw read (reading_ones s clause h, reading_zeros s clause)
