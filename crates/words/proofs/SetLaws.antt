-- Laws of a set of variables: its bits are those of its low half and then those of its high one, each of 64 bits, as the occurrence
-- table has them; and of two sets.
use Rattle.std.specs.Prelude.{◌≡◌, refl, Bool, true, false, not, ◌&&◌, ℕ, ◌+◌, ◌-◌, ◌*◌, ◌/◌, ◌%◌, ◌^◌, ◌≤◌, ◌<◌, eqb, ltb}
use Rattle.std.proofs.Math.Path.{sym}
use Rattle.std.proofs.Common.{ap, ap₂, ◌∙◌, true≢false, zero-add, add-zero, lit<, ne_eqb, ltb-true, ltb-false}
use native.Mathlib.Omega.{arith}
use Rattle.std.specs.Int.Bits.{bit_and, and_lt, xor_block, xor_zero_r}
use Rattle.std.specs.Int.Count.{count_trailing_zeros}
use Rattle.std.proofs.Math.Pow.{pow-add, pow-lt, split}
use Rattle.std.proofs.lemmas.Bool.{eqb-false, not-true}
use Rattle.words.proofs.ListLaws.{and_left, and_right, and_both}
use Rattle.words.specs.Bits.{bit, toggle, width}
use Rattle.words.proofs.BitLaws.{bit_zero, bit-bit_and, trailing_at}
use Rattle.words.specs.Machine.{Set, set_of, Meets}
use Rattle.words.proofs.WordLaws.{bit_rest, bit_block}

-- the halves of a set, the low one first
abbrev pub low : Set → ℕ
low s = set_of s % 2 ^ 64

abbrev pub high : Set → ℕ
high s = set_of s / 2 ^ 64

-- both halves have 64 bits
abbrev pub Fits : Set → Type 0
Fits s = (low s < 2 ^ 64) × (high s < 2 ^ 64)

-- and they do where the set has its width.
pub fits_width : (s : Set) → set_of s < 2 ^ width → Fits s
fits_width s h = (omega arith, omega arith)

-- The halves make the set.
pub halves : (s : Set) → high s * 2 ^ 64 + low s ≡ set_of s
halves s = split (set_of s) 64

-- A variable's bit stands in one of the two.
by_word : (P : ℕ → Type 0) → ((u : ℕ) → u < 64 → P u) → ((u : ℕ) → u < 64 → P (64 + u)) → (v : ℕ) → v < width → P v
by_word P low high v l = go (ltb v 64) refl
  where
    go : (b : Bool) → ltb v 64 ≡ b → P v
    go true e = low v (ltb-true v 64 e)
    go false e =
        let at : 64 + (v - 64) ≡ v = omega (arith, ltb-false v 64 e) in
        rw at at (high (v - 64) (omega arith))

low_bit : (s : Set) (v : ℕ) → v < 64 → bit (set_of s) v ≡ bit (low s) v
low_bit s v l = ap (λ (m : ℕ). bit m v) (sym (halves s)) ∙ bit_rest 64 (high s) (low s) v l

high_bit : (s : Set) → Fits s → (v : ℕ) → bit (set_of s) (64 + v) ≡ bit (high s) v
high_bit s fits v = ap (λ (m : ℕ). bit m (64 + v)) (sym (halves s)) ∙ bit_block 64 (high s) (low s) v fits.0

-- ---- one variable

module _ (s : Set) (fits : Fits s) (v : ℕ) where
  pub low_has : v < 64 → bit (low s) (v % 64) ≡ bit (set_of s) v
  low_has l = let at : v % 64 ≡ v = omega arith in rw at (sym (low_bit s v l))

  pub high_has : 64 ≤ v → v < width → bit (high s) (v % 64) ≡ bit (set_of s) v
  high_has h l = let at : 64 + v % 64 ≡ v = omega arith in sym (high_bit s fits (v % 64)) ∙ ap (bit (set_of s)) at

  pub low_toggled : v < 64 → set_of (record { bits = high s * 2 ^ 64 + toggle (low s) (v % 64) }) ≡ toggle (set_of s) v
  unfolding toggle
  low_toggled l =
      let at : v % 64 ≡ v = omega arith in
      let e = xor_block 64 (high s) 0 (low s) (2 ^ v) fits.0 (pow-lt l) in
      rw at (sym (rw (zero-add, xor_zero_r, halves s) at e))

  pub high_toggled : 64 ≤ v → v < width → set_of (record { bits = toggle (high s) (v % 64) * 2 ^ 64 + low s }) ≡ toggle (set_of s) v
  unfolding toggle
  high_toggled h l =
      let at : v % 64 + 64 ≡ v = omega arith in
      let e = xor_block 64 (high s) (2 ^ (v % 64)) (low s) 0 fits.0 (lit< tt) in
      sym (rw (add-zero, xor_zero_r, ← pow-add, at, halves s) at e)

-- ---- two sets

-- What acts on each bit of the halves acts on each bit of the sets.
pub by_bits : (f : Bool → Bool → Bool) (a b r : Set) → Fits a → Fits b → Fits r →
    ((u : ℕ) → u < 64 → bit (low r) u ≡ f (bit (low a) u) (bit (low b) u)) →
    ((u : ℕ) → u < 64 → bit (high r) u ≡ f (bit (high a) u) (bit (high b) u)) →
    (v : ℕ) → v < width → bit (set_of r) v ≡ f (bit (set_of a) v) (bit (set_of b) v)
by_bits f a b r p q fits low high =
    by_word (λ v. bit (set_of r) v ≡ f (bit (set_of a) v) (bit (set_of b) v))
    (λ u l. low_bit r u l ∙ low u l ∙ sym (ap₂ f (low_bit a u l) (low_bit b u l)))
    (λ u l. high_bit r fits u ∙ high u l ∙ sym (ap₂ f (high_bit a p u) (high_bit b q u)))

module _ (a b : Set) (p : set_of a < 2 ^ width) (q : set_of b < 2 ^ width) where
  -- the variables of both sets
  abbrev met : ℕ
  met = bit_and (set_of a) (set_of b)

  abbrev common : ℕ → Bool
  common v = bit (set_of a) v && bit (set_of b) v

  met_none : met ≡ 0 → (v : ℕ) → common v ≡ true → ⊥
  met_none e v h = true≢false (sym h ∙ sym (bit-bit_and _ _ v) ∙ ap (λ (x : ℕ). bit x v) e ∙ bit_zero v)

  met_some : (met ≡ 0 → ⊥) → (v : ℕ) × (v < width) × (common v ≡ true)
  met_some d =
      let at = trailing_at width met d (and_lt width _ _ p q) in
      (count_trailing_zeros width met, at.0, sym (bit-bit_and _ _ _) ∙ at.1)

  pub sets_meet : Meets (set_of a) (set_of b) (not (eqb met 0))
  sets_meet =
      record {
        each = λ v l x y. ap not (ne_eqb met 0 (λ e. met_none e v (and_both _ _ x y)));
        some = λ e.
            let h = met_some (eqb-false met 0 (not-true _ e)) in
            (h.0, h.1, and_left _ _ h.2, and_right (bit (set_of a) h.0) _ h.2);
      }
