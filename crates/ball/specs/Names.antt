-- The names of clauses (source 000, section 2.5).
use Rattle.std.specs.Prelude.{ℕ, not}
use Rattle.words.specs.Lists.{count}
use Rattle.formula.specs.Formula.{Clause, met}

-- Under an assignment a clause has a name by its p literals that are true, the ones, and its m literals that are false, the zeros.
unfoldable pub ones_of : ℕ → Clause → ℕ
ones_of m c = count (met m) c

unfoldable pub zeros_of : ℕ → Clause → ℕ
zeros_of m c = count (λ l. not (met m l)) c
