-- Laws of one clause's number: what a toggle does to it, and that it stays the number of met literals.
use Rattle.std.specs.Prelude.{◌≡◌, Bool, cond, ◌&&◌, length}
use Rattle.std.proofs.Math.Path.{refl, sym, ap, subst}
use Rattle.std.proofs.Common.{◌∙◌, eqb-true}
use Rattle.std.proofs.Math.Bool.{true, false, not, beq, and-false}
use Prim.Native.Nat.{ℕ, ◌+◌, ◌-◌, ◌/◌, ◌≤◌, min}
use Rattle.std.proofs.Math.Nat.{min-eq_left}
use native.Mathlib.Omega.{arith}
use Rattle.words.specs.Lists.{In, count}
use Rattle.words.proofs.ListLaws.{in_some}
use Rattle.words.specs.Bits.{bit, toggle}
use Rattle.words.proofs.BitLaws.{digit, bit_toggle_same}
use Rattle.words.proofs.CountLaws.{count_le, some_same}
use Rattle.formula.specs.Formula.{Literal, Clause, WellFormedClause, bit_of, met, names, once}
use Rattle.formula.specs.Counts.{holds, opposite, sign_word, Steps}
use Rattle.formula.proofs.CountLaws.{names?, is, names_digit, named_once, met_steps}
use Rattle.formula.proofs.SignLaws.{sign_half, sign_bit, sign_unmet, sign_split}
use Rattle.tally.specs.Tally.{met_by, moved}

-- ---- by its literals

-- the literal that names v moves the number;
pub moved_by : (m v : ℕ) (c : Clause) (x : ℕ) → once c ≡ true → (l : Literal) → In l c → names? v l ≡ true →
    min (cond (met m l) (x + 1) (x - 1)) (length c) ≡ moved m v c x
unfolding moved met_by names
moved_by m v c x o l i e = sym (rw (in_some (names? v) c l i e, named_once v (met m) c o l i e))

-- a clause without one stays.
pub moved_not : (m v : ℕ) (c : Clause) (x : ℕ) → names v c ≡ false → x ≡ moved m v c x
unfolding moved
moved_not m v c x e = sym (rw e)

-- ---- the number of met literals

module _ {n : ℕ} (c : Clause) (f : WellFormedClause n c) (m v : ℕ) (h : 1 ≤ v) where
  -- the literal of v that the toggle meets
  w : ℕ
  w = sign_word (not (bit m (v - 1))) (v - 1)

  half : w / 2 ≡ v
  unfolding w
  half = sign_half _ (v - 1) ∙ omega arith

  steps : Steps w (opposite w) (count (met m)) (count (met (toggle m (v - 1)))) c
  unfolding w
  steps =
      let b = not (bit m (v - 1)) in
      subst (λ (u : ℕ). Steps (sign_word b (v - 1)) (opposite (sign_word b (v - 1))) (count (met m)) (count (met (toggle m u))) c)
      (sign_bit b (v - 1)) (met_steps _ (omega (arith, sign_half b (v - 1))) c f m (sign_unmet b (v - 1) m refl))

  -- a literal of v is met after the toggle exactly if it is that one
  met_is : (l : Literal) → (names? v l && met (toggle m (v - 1)) l) ≡ is w l
  unfolding met bit_of w
  met_is l =
      let b = not (bit m (v - 1)) in
      let next : v - 1 + 1 ≡ v = omega arith in
      go (names? v l) refl ∙ sym (sign_split b (v - 1) l ∙ ap (λ (x : ℕ). beq l.positive b && names? x l) next)
    where
      turn : (a b : Bool) → beq a b ≡ (beq b a && true)
      turn true true = refl
      turn true false = refl
      turn false true = refl
      turn false false = refl

      go : (b : Bool) → names? v l ≡ b →
          (b && beq (bit (toggle m (v - 1)) (l.variable - 1)) l.positive) ≡ (beq l.positive (not (bit m (v - 1))) && b)
      go true e =
          let same : l.variable ≡ v = eqb-true l.variable v e in
          rw (same, bit_toggle_same m (v - 1)) (turn (not (bit m (v - 1))) l.positive)
      go false e = sym (and-false (beq l.positive (not (bit m (v - 1)))))

  met_holds : met_by (toggle m (v - 1)) v c ≡ holds w c
  unfolding met_by holds
  met_holds = some_same _ (is w) c (λ l i. met_is l)

  -- The number of met literals stays that.
  pub moved_met : moved (toggle m (v - 1)) v c (count (met m) c) ≡ count (met (toggle m (v - 1))) c
  unfolding moved
  moved_met = rw met_holds (go (names v c) (holds w c) refl refl)
    where
      x : ℕ
      x = count (met m) c

      y : ℕ
      y = count (met (toggle m (v - 1))) c

      named : digit (names v c) ≡ digit (holds w c) + digit (holds (opposite w) c)
      named = ap (λ (u : ℕ). digit (names u c)) (sym half) ∙ names_digit w c f

      within : {z : ℕ} → z ≡ y → min z (length c) ≡ y
      within e = min-eq_left (omega (arith, count_le (met (toggle m (v - 1))) c)) ∙ e

      go : (a b : Bool) → names v c ≡ a → holds w c ≡ b → cond a (min (cond b (x + 1) (x - 1)) (length c)) x ≡ y
      go true true p q = within (omega (arith, steps.sum, named, ap digit p, ap digit q))
      go true false p q = within (omega (arith, steps.sum, named, ap digit p, ap digit q))
      go false b p q = omega (arith, steps.sum, named, ap digit p)
