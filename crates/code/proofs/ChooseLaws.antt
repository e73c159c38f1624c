-- The laws of the binomials, for all t and i: each follows from the one before by a product and an exact division, and their sum is
-- whole at t.
use Rattle.std.specs.Prelude.{◌≡◌, refl, ℕ, zero, suc, ◌+◌, ◌-◌, ◌*◌, ◌/◌, ◌^◌, ◌≤◌, min}
use Rattle.std.proofs.Common.{sym, ◌∙◌, le_of_lt, le_refl, le_trans, lt_of_not-le, mul_comm, mul-le-mul, add-one, arith, pow_mono}
use Rattle.std.proofs.Math.Nat.{eq-sub_of_add-eq, min-eq_left, min-eq_right, mul-div_cancel_left, mul-sub}
use Rattle.std.proofs.Math.Decide.{dec_le}
use Rattle.code.specs.Volume.{choose, volume}
use Rattle.code.proofs.VolumeLaws.{volume_full, volume_most}

-- (i + 1) × C(t, i + 1) + i × C(t, i) = t × C(t, i)
choose_sum : (t i : ℕ) → suc i * choose t (suc i) + i * choose t i ≡ t * choose t i
unfolding choose
choose_sum zero zero = refl
choose_sum zero (suc i) = omega arith
choose_sum (suc zero) zero = refl
choose_sum (suc (suc t)) zero = omega (arith, choose_sum (suc t) zero)
choose_sum (suc t) (suc i) = omega (arith, choose_sum t i, choose_sum t (suc i))

-- (i + 1) × C(t, i + 1) = C(t, i) × (t − i); both are 0 from i = t on.
pub choose_next : (t i : ℕ) → suc i * choose t (suc i) ≡ choose t i * (t - i)
choose_next t i = rw (mul-sub, mul_comm (choose t i) t, mul_comm (choose t i) i) (eq-sub_of_add-eq _ _ (choose_sum t i))

-- So the division is exact.
pub choose_quotient : (t i : ℕ) → choose t i * (t - i) / (i + 1) ≡ choose t (i + 1)
choose_quotient t i = rw (add-one, ← choose_next t i) (mul-div_cancel_left (choose t (suc i)) (omega arith))

-- ---- the sum on its way

-- a binomial is at most the whole space,
choose_most : (t i : ℕ) → choose t i ≤ 2 ^ t
unfolding volume
choose_most t zero = volume_most t zero
choose_most t (suc i) = let most = volume_most t (suc i) in omega arith

-- and so a product is at most this, whatever the limit l on the lengths
pub product_most : (t i l : ℕ) → t ≤ l → choose t i * (t - i) ≤ 2 ^ l * l
product_most t i l h = mul-le-mul (le_trans (choose_most t i) (pow_mono h)) (omega arith)

pub volume_next : (t i : ℕ) → volume t i + choose t (i + 1) ≡ volume t (i + 1)
unfolding volume
volume_next t i = rw add-one refl

-- The sum may stop at the smaller of s and t.
pub volume_last : (t s : ℕ) → volume t (min s t) ≡ volume t s
volume_last t s = go (dec_le s t)
  where
    go : Dec (s ≤ t) → volume t (min s t) ≡ volume t s
    go (yes h) = rw (min-eq_left h) refl
    go (no h) =
        let over = le_of_lt (lt_of_not-le h) in
        rw (min-eq_right over) (volume_full t t (le_refl t) ∙ sym (volume_full t s over))
