-- How fast the code closes, and the most words that it can have (02, paper 8; source 000, lemma 2).
use Rattle.std.specs.Prelude.{ℕ, zero, suc, ◌+◌, ◌-◌, ◌*◌, ◌/◌, ◌^◌, ◌≤◌}
use Rattle.code.specs.Volume.{volume, floor}

-- The rate: U words are uncovered before a word joins, and U' after.
unfoldable pub Rate : ℕ → ℕ → ℕ → ℕ → Type 0
Rate t s U U' = U' * 2 ^ t ≤ U * (2 ^ t - volume t s)

-- what the rate alone says of how many words are uncovered once k words have joined
unfoldable pub guaranteed : ℕ → ℕ → ℕ → ℕ
guaranteed t s zero = 2 ^ t
guaranteed t s (suc k) = guaranteed t s k * (2 ^ t - volume t s) / 2 ^ t

-- ---- bounds on the number of the code's words, for planners

unfoldable pub most_words : ℕ → ℕ → ℕ
most_words t s = t * floor t s + 1

-- a sharper one
unfoldable pub sharp_words : ℕ → ℕ → ℕ
sharp_words t s = t * (floor t s - 1) + 1

-- the figure of lemma 2: t × 2 ^ t / V(t, s), rounded up
unfoldable pub lemma_words : ℕ → ℕ → ℕ
lemma_words t s = (t * 2 ^ t + (volume t s - 1)) / volume t s
