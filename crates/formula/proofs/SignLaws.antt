-- Laws of the literal of a bit with a sign, and of its word.
use Rattle.std.specs.Prelude.{◌≡◌, Bool, not, ◌&&◌, ℕ, ◌+◌, ◌-◌, ◌*◌, ◌/◌, ◌<◌}
use Rattle.std.proofs.Math.Path.{refl, ap}
use Rattle.std.proofs.Common.{◌∙◌}
use Rattle.std.proofs.Math.Bool.{true, false, cond, beq}
use native.Mathlib.Omega.{arith}
use Rattle.words.specs.Bits.{bit, width}
use Rattle.formula.specs.Formula.{Literal, bit_of, met, literal_word, literal_of}
use Rattle.formula.specs.Counts.{sign_word}
use Rattle.formula.specs.Machine.{IsLiteral}
use Rattle.formula.proofs.ParseEncode.{half_literal, literal_word_lem}
use Rattle.formula.proofs.CountLaws.{is, is_split, names?}

module _ (b : Bool) (v : ℕ) where
  -- the literal of the bit v with the sign b
  abbrev it : Literal
  it = record { variable = v + 1; positive = b }

  is_it : literal_of (sign_word b v) ≡ it
  is_it = literal_word_lem it

  pub sign_known : v < width → IsLiteral (sign_word b v)
  unfolding literal_word
  sign_known h = go b
    where
      go : (x : Bool) → IsLiteral (2 * (v + 1) + cond x 0 1)
      go true = (omega arith, omega arith)
      go false = (omega arith, omega arith)

  pub sign_half : sign_word b v / 2 ≡ v + 1
  sign_half = half_literal it

  pub sign_bit : bit_of (literal_of (sign_word b v)) ≡ v
  unfolding bit_of
  sign_bit = ap (λ (l : Literal). l.variable - 1) is_it ∙ omega arith

  -- it is not met where the bit is the other value
  pub sign_unmet : (m : ℕ) → not (bit m v) ≡ b → met m (literal_of (sign_word b v)) ≡ false
  unfolding met
  sign_unmet m e = rw (sign_bit, ap (λ (l : Literal). l.positive) is_it, ← e) (go (bit m v))
    where
      go : (x : Bool) → beq x (not x) ≡ false
      go true = refl
      go false = refl

  -- a literal is this one by its sign and its variable
  pub sign_split : (l : Literal) → is (sign_word b v) l ≡ (beq l.positive b && names? (v + 1) l)
  unfolding literal_of
  sign_split l =
      is_split (sign_word b v) l ∙ ap (λ (x : Literal). beq l.positive x.positive && names? x.variable l) is_it
