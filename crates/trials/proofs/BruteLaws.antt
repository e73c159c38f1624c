-- Laws of the trial of all assignments (specs/Brute.antt).
use Rattle.std.specs.Prelude.{◌≡◌, ℕ, zero, suc, ◌+◌, ◌*◌, ◌/◌, ◌%◌, ◌^◌, ◌<◌, ◌≤◌}
use Rattle.std.proofs.Common.{pow-suc, add-one, arith, pow_pos, pow_mono}
use Rattle.trials.specs.Brute.{reversed}

-- one bit more
pub reversed_next : (x v : ℕ) → reversed x (v + 1) ≡ 2 * reversed x v + x / 2 ^ v % 2
unfolding reversed
reversed_next x v = rw (add-one v)

pub reversed_lt : (x v : ℕ) → reversed x v < 2 ^ v
unfolding reversed
reversed_lt x zero = pow_pos 0
reversed_lt x (suc v) = let below = reversed_lt x v in rw (pow-suc 2 v) (omega arith)

-- there are few bits
pub reversed_few : (x v : ℕ) → v ≤ 12 → reversed x v < 2 ^ 12
reversed_few x v h = let few : 2 ^ v ≤ 2 ^ 12 = pow_mono {j = 12} h in omega (arith, reversed_lt x v)
