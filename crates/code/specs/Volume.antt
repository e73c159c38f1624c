-- The volume of a ball and the floor of paper 01: the sphere covering bound.
use Rattle.std.specs.Prelude.{ℕ, zero, suc, ◌+◌, ◌*◌, ◌^◌, leb}
use Rattle.words.specs.Lists.{first, span}

-- the binomial C(t, i)
unfoldable pub choose : ℕ → ℕ → ℕ
choose zero zero = 1
choose zero (suc i) = 0
choose (suc t) zero = 1
choose (suc t) (suc i) = choose t i + choose t (suc i)

-- V(t, s): the sum of C(t, i) for i from 0 to s
unfoldable pub volume : ℕ → ℕ → ℕ
volume t zero = choose t 0
volume t (suc s) = volume t s + choose t (suc s)

-- the least m with m * V(t, s) at least 2 ^ t
unfoldable pub floor : ℕ → ℕ → ℕ
floor t s = first (λ m. leb (2 ^ t) (m * volume t s)) (span 0 (2 ^ t)) (2 ^ t)
