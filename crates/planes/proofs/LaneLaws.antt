-- The laws of the lanes of a word: each word operation acts on each lane apart.
use Rattle.std.specs.Prelude.{◌≡◌, refl, Bool, true, false, not, ℕ, ◌-◌, ◌^◌, ◌≤◌, ◌<◌, leb}
use Rattle.std.proofs.Common.{sym, ap, ◌∙◌, arith, pow_pos, pow_mono, le-leb, leb-true, leb-false}
use Rattle.std.proofs.Math.Nat.{sub-zero}
use Rattle.std.proofs.Math.Pow.{pow-lt}
use Rattle.std.proofs.lemmas.Bool.{lt-leb}
use Rattle.words.specs.Bits.{bit}
use Rattle.words.proofs.BitLaws.{bit_zero, bit_high}
use Rattle.planes.specs.Machine.{lanes}
pub use Rattle.words.proofs.BitLaws.{one_shl, bit_not, bit-bit_xor, bit-bit_and, bit-bit_or}

-- ---- tests of numbers

pub same_order : (a b c d : ℕ) → (a ≤ b → c ≤ d) → (b < a → d < c) → leb a b ≡ leb c d
same_order a b c d f g = go (leb a b) refl
  where
    go : (t : Bool) → leb a b ≡ t → t ≡ leb c d
    go true e = sym (le-leb c d (f (leb-true a b e)))
    go false e = sym (lt-leb c d (g (leb-false a b e)))

-- ---- lanes

-- all bits from s on
pub bit_from : (s j : ℕ) → s < lanes → j < lanes → bit (2 ^ lanes - 1 - (2 ^ s - 1)) j ≡ leb s j
bit_from s j h l = bit_not lanes (2 ^ s - 1) j (omega (arith, pow-lt h, pow_pos s)) l ∙ go (leb s j) refl
  where
    go : (b : Bool) → leb s j ≡ b → not (bit (2 ^ s - 1) j) ≡ b
    go true e = ap not (bit_high j (2 ^ s - 1) (omega (arith, pow_pos s, pow_mono (leb-true s j e))))
    go false e =
        let less : bit (2 ^ s - 1) j ≡ bit (2 ^ s - 1 - 0) j = ap (λ (x : ℕ). bit x j) (sym (sub-zero (2 ^ s - 1))) in
        ap not (less ∙ bit_not s 0 j (pow_pos s) (leb-false s j e) ∙ ap not (bit_zero j))
