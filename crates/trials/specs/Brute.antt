-- What the trial of all assignments answers. A clause is the bits of its positive and of its negative variables.
use Rattle.std.specs.Prelude.{ℕ, zero, suc, ◌+◌, ◌-◌, ◌*◌, ◌/◌, ◌%◌, ◌^◌, Bool, not, ◌&&◌, List, Option, map, filter, find, fold, ◌==◌, bit_and, count_ones, nat_le}
use Rattle.std.specs.List.{list_all, range_with_len}
use Rattle.trials.specs.declared.brute.Clause.{Clause}

-- no positive variable is true, and every negative one is
abbrev pub falsified : ℕ → Clause → Bool
falsified m c = bit_and c.positive m == 0 && bit_and c.negative m == c.negative

-- the assignment makes every clause true
abbrev pub meets_all : ℕ → List Clause → Bool
meets_all m clauses = list_all (λ c. not (falsified m c)) clauses

-- the lowest n bits of x the other way round
unfoldable pub reversed : ℕ → ℕ → ℕ
reversed x zero = 0
reversed x (suc v) = 2 * reversed x v + x / 2 ^ v % 2

-- the assignments of n variables, in the order where variable 1, which has the lowest bit, weighs least
abbrev pub assignments : ℕ → List ℕ
assignments n = range_with_len 0 (2 ^ n)

-- The first assignment of n variables that does, where variable 1 weighs most and 0 precedes 1.
abbrev pub first_model : ℕ → List Clause → Option ℕ
first_model n clauses = find (λ m. meets_all m clauses) (map (λ x. reversed x n) (assignments n))

-- The variables that are 1 in every model of n variables; all where there is no model.
abbrev pub in_all_models : ℕ → List Clause → ℕ
in_all_models n clauses = fold bit_and (2 ^ 32 - 1) (filter (λ m. meets_all m clauses) (assignments n))

-- Each clause has at most one positive variable.
abbrev pub every_horn : List Clause → Bool
every_horn clauses = list_all (λ c. nat_le (count_ones c.positive) 1) clauses
