-- The sphere covering bound: no covering code of length t and radius s, of any words, has fewer than floor(t, s) words.
use Rattle.std.specs.Prelude.{◌≡◌, ◌⊎◌, Bool, leb, length}
use Rattle.std.proofs.Math.Path.{refl, ap}
use Rattle.std.proofs.Common.{sym, ◌∙◌, inl, inr, lt_of_not-le, suc-mul, le_of_suc-le-suc, le-mul_of_pos_right, zero-add, eq-or-lt_of_le, le_antisymm, div-lt_iff_lt-mul, leb-true, le-leb, pow_pos}
use Rattle.std.proofs.Math.Bool.{true, false, cond}
use Rattle.std.proofs.lemmas.Bool.{false≢true}
use mathlib.Core.List.{List, [], ◌∷◌}
use Prim.Native.Nat.{ℕ, zero, suc, ◌+◌, ◌-◌, ◌*◌, ◌/◌, ◌^◌, ◌≤◌, ◌<◌, zero-le}
use Rattle.std.proofs.Math.Nat.{lt-div-mul-add, lt_of_mul-lt-mul_right}
use native.Mathlib.Omega.{arith}
use Rattle.std.specs.Int.{div_ceil}
use Rattle.std.proofs.lemmas.Grind.{div_ceil_times}
use Rattle.words.specs.Lists.{first, span}
use Rattle.words.proofs.ListLaws.{length_span}
use Rattle.code.specs.Covering.{Covers}
use Rattle.code.specs.Code.{words_of, gain, ball}
use Rattle.code.specs.Volume.{volume, floor}
use Rattle.code.proofs.CodeLaws.{outside_most, covers_outside}
use Rattle.code.proofs.VolumeLaws.{volume_pos, ball_most}

-- ---- the first number that passes a test

module _ (p : ℕ → Bool) where
  first_passes : (xs : List ℕ) (d : ℕ) → p d ≡ true → p (first p xs d) ≡ true
  unfolding first
  first_passes [] d e = e
  first_passes (x ∷ xs) d e = go (p x) refl (first_passes xs d e)
    where
      go : (b : Bool) → p x ≡ b → p (first p xs d) ≡ true → p (cond b x (first p xs d)) ≡ true
      go true e' h = e'
      go false e' h = h

  first_least : (i n d m : ℕ) → d ≡ i + n → i ≤ m → p m ≡ true → first p (span i n) d ≤ m
  unfolding first span
  first_least i zero d m q l e = omega arith
  first_least i (suc n) d m q l e = go (p i) refl (eq-or-lt_of_le l) (λ l'. first_least (suc i) n d m (omega arith) l' e)
    where
      go : (b : Bool) → p i ≡ b → (i ≡ m) ⊎ (i < m) → (i < m → first p (span (suc i) n) d ≤ m) →
          cond b i (first p (span (suc i) n) d) ≤ m
      go true e' c h = l
      go false e' (inl c) h = absurd (false≢true (sym e' ∙ ap p c ∙ e))
      go false e' (inr c) h = h c

-- ---- the floor

-- The floor is enough,
pub floor_enough : (t s : ℕ) → 2 ^ t ≤ floor t s * volume t s
unfolding floor
floor_enough t s =
    let enough = le-leb _ _ (le-mul_of_pos_right (2 ^ t) (volume_pos t s)) in
    leb-true _ _ (first_passes (λ m. leb (2 ^ t) (m * volume t s)) _ (2 ^ t) enough)

-- and it is least.
pub floor_least : (t s m : ℕ) → 2 ^ t ≤ m * volume t s → floor t s ≤ m
unfolding floor
floor_least t s m h = first_least (λ n. leb (2 ^ t) (n * volume t s)) 0 (2 ^ t) (2 ^ t) m (sym (zero-add _)) zero-le (le-leb _ _ h)

pub floor_pos : (t s : ℕ) → 0 < floor t s
floor_pos t s = go (floor t s) (floor_enough t s)
  where
    go : (m : ℕ) → 2 ^ t ≤ m * volume t s → 0 < m
    go zero h = absurd (omega (arith, pow_pos t))
    go (suc m) h = omega arith

-- One ball less than the floor is not enough.
pub floor_less : (t s : ℕ) → (floor t s - 1) * volume t s < 2 ^ t
floor_less t s = lt_of_not-le (λ h. omega (arith, floor_least t s (floor t s - 1) h, floor_pos t s))

-- No covering code, of any words, has fewer words.
pub sphere_bound : (t s : ℕ) (c : List ℕ) → Covers t s c → floor t s ≤ length c
unfolding ball gain words_of
sphere_bound t s c h =
    let most = outside_most s (volume t s) c (words_of t) (ball_most t s) in
    floor_least t s (length c) (omega (arith, ap length (covers_outside t s c h), length_span 0 (2 ^ t)))

-- The floor as a quotient, rounded up.
pub floor_quotient : (t s : ℕ) → (2 ^ t + (volume t s - 1)) / volume t s ≡ floor t s
floor_quotient t s =
    le_antisymm
    (le_of_suc-le-suc ((div-lt_iff_lt-mul (volume_pos t s)).1 (rw suc-mul (omega (arith, floor_enough t s, volume_pos t s)))))
    (floor_least t s _ (omega (arith, lt-div-mul-add {a = 2 ^ t + (volume t s - 1)} (volume_pos t s), volume_pos t s)))

pub floor_ceil : (t s : ℕ) → div_ceil (2 ^ t) (volume t s) ≡ floor t s
floor_ceil t s =
    let near = div_ceil_times (2 ^ t) (volume t s) (volume_pos t s) in
    le_antisymm
    (le_of_suc-le-suc (lt_of_mul-lt-mul_right (volume t s) (rw suc-mul (omega (arith, near.1, floor_enough t s)))))
    (floor_least t s _ near.0)
