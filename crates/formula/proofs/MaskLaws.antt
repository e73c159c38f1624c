-- Laws of masks: their bits, that the same sets have the same masks, and the steps of the loops that make and store them.
use Rattle.std.specs.Prelude.{◌≡◌, refl, Bool, true, false, ◌||◌, List, [], ◌∷◌, map, ℕ, ◌+◌, ◌*◌, ◌%◌, ◌^◌, ◌<◌, eqb, length, get_or, set}
use Rattle.std.proofs.Common.{sym, ap, ◌∙◌, one-mul, arith, lit<, length-set, pow_pos, shl_exact, get_or-set_same, get_or-set_other, eqb-true}
use Rattle.std.proofs.Math.Bool.{or-false}
use Rattle.std.specs.Int.Bits.{bit_or}
use Rattle.std.specs.List.{fold}
use Rattle.std.proofs.lemmas.Nat.{or_lt}
use Rattle.std.proofs.Math.Pow.{pow-lt}
use Rattle.std.proofs.lemmas.Bool.{eqb-false}
use Rattle.words.specs.Lists.{In, some}
use Rattle.words.proofs.ListLaws.{some_in, in_some, both_ways, refute}
use Rattle.words.specs.Bits.{bit}
use Rattle.words.proofs.BitLaws.{bit_zero, bit_power, bit-bit_or, bits_ext}
use Rattle.formula.specs.Formula.{Literal, Clause, clause_limit, literal_word, literal_of}
use Rattle.formula.proofs.ParseAccepted.{word_literal}
use Rattle.formula.specs.Sets.{same_set}
use Rattle.formula.proofs.SetLaws.{same_set_means}
use Rattle.formula.specs.Machine.{clause_at, mask_bits, mask_of, Masks}

-- a literal has bit v of a mask
abbrev Marks : ℕ → Literal → Bool
Marks v l = eqb (literal_word l % mask_bits) v

mask_lt : (c : Clause) → mask_of c < 2 ^ mask_bits
unfolding mask_of
mask_lt [] = pow_pos mask_bits
mask_lt (l ∷ c) =
    let inside : literal_word l % mask_bits < mask_bits = omega arith in
    or_lt mask_bits (2 ^ (literal_word l % mask_bits)) (mask_of c) (pow-lt inside) (mask_lt c)

mask_bit : (c : Clause) (v : ℕ) → bit (mask_of c) v ≡ some (Marks v) c
unfolding mask_of some
mask_bit [] v = bit_zero v
mask_bit (l ∷ c) v = rw (bit-bit_or, bit_power, mask_bit c v) refl

-- The same sets have the same masks, so that other masks are those of other sets.
mask_same : (c d : Clause) → same_set c d ≡ true → mask_of c ≡ mask_of d
mask_same c d same =
    let means = (same_set_means c d).0 same in
    bits_ext mask_bits _ _ (mask_lt c) (mask_lt d) (λ v l.
    rw (mask_bit c v, mask_bit d v) (both_ways _ _ (there v c d (λ x. (means x).0)) (there v d c (λ x. (means x).1))))
  where
    there : (v : ℕ) (c d : Clause) → ((x : Literal) → In x c → In x d) → some (Marks v) c ≡ true → some (Marks v) d ≡ true
    there v c d into e = let (x, i, m) = some_in (Marks v) c e in in_some (Marks v) d x (into x i) m

pub mask_differs : (c d : Clause) → (mask_of c ≡ mask_of d → ⊥) → same_set c d ≡ false
mask_differs c d n = refute (same_set c d) (λ e. n (mask_same c d e))

-- ---- by words

or_assoc : (a b c : Bool) → ((a || b) || c) ≡ (a || (b || c))
or_assoc true b c = refl
or_assoc false b c = refl

-- the bits so far with that of one more word
abbrev pub marked : ℕ → ℕ → ℕ
marked bits w = bit_or bits (2 ^ (w % mask_bits))

marked_lt : (bits w : ℕ) → bits < 2 ^ mask_bits → marked bits w < 2 ^ mask_bits
marked_lt bits w h = let inside : w % mask_bits < mask_bits = omega arith in or_lt mask_bits bits _ h (pow-lt inside)

mask_from : (bits : ℕ) (ws : List ℕ) → bits < 2 ^ mask_bits → fold marked bits ws ≡ bit_or bits (mask_of (map literal_of ws))
unfolding mask_of
mask_from bits [] h =
    bits_ext mask_bits _ _ h (or_lt mask_bits bits 0 h (pow_pos mask_bits)) (λ v l. sym (rw (bit-bit_or, bit_zero v) (or-false (bit bits v))))
mask_from bits (w ∷ ws) h =
    let own = 2 ^ (literal_word (literal_of w) % mask_bits) in
    let rest = mask_of (map literal_of ws) in
    let inside : literal_word (literal_of w) % mask_bits < mask_bits = omega arith in
    let both = or_lt mask_bits own rest (pow-lt inside) (mask_lt (map literal_of ws)) in
    mask_from (marked bits w) ws (marked_lt bits w h)
    ∙ ap (λ (x : ℕ). bit_or (bit_or bits (2 ^ (x % mask_bits))) rest) (sym (word_literal w))
    ∙ bits_ext mask_bits _ _ (or_lt mask_bits _ rest (or_lt mask_bits bits own h (pow-lt inside)) (mask_lt (map literal_of ws)))
    (or_lt mask_bits bits _ h both)
    (λ v l. rw (bit-bit_or, bit-bit_or, bit-bit_or, bit-bit_or) (or_assoc (bit bits v) (bit own v) (bit rest v)))

-- A clause's mask is folded from its words.
pub mask_words : (ws : List ℕ) → fold marked 0 ws ≡ mask_of (map literal_of ws)
mask_words ws =
    mask_from 0 ws (pow_pos mask_bits)
    ∙ bits_ext mask_bits _ _ (or_lt mask_bits 0 _ (pow_pos mask_bits) (mask_lt (map literal_of ws))) (mask_lt (map literal_of ws))
    (λ v l. rw (bit-bit_or, bit_zero v) refl)

-- a word's bit, as the machine shifts it
pub mark_of : (w : ℕ) → 1 * 2 ^ (w % mask_bits) % 2 ^ mask_bits ≡ 2 ^ (w % mask_bits)
mark_of w = shl_exact 1 (w % mask_bits) mask_bits (lit< tt) (omega arith) ∙ one-mul _

pub shifted_words : (bits : ℕ) (ws : List ℕ) → fold (λ b w. bit_or b (1 * 2 ^ (w % mask_bits) % 2 ^ mask_bits)) bits ws ≡ fold marked bits ws
shifted_words bits [] = refl
shifted_words bits (w ∷ ws) = rw (mark_of w) (shifted_words (marked bits w) ws)

-- ---- clause by clause

pub masks_none : (cells masks : List ℕ) → length masks ≡ clause_limit → Masks 0 cells masks
masks_none cells masks size = record { size = size; each = λ i l. absurd (omega arith) }

pub masks_next : (k : ℕ) (cells masks : List ℕ) → k < clause_limit → Masks k cells masks → (x : ℕ) → x ≡ mask_of (clause_at cells k) → Masks (k + 1) cells (set masks k x)
masks_next k cells masks inside m x is =
    record {
      size = simp length-set m.size;
      each = λ i l. go i (eqb i k) refl l;
    }
  where
    go : (i : ℕ) (b : Bool) → eqb i k ≡ b → i < k + 1 → get_or (set masks k x) i 0 ≡ mask_of (clause_at cells i)
    go i true e l =
        let same : i ≡ k = eqb-true i k e in
        rw same (get_or-set_same masks k x 0 (rw m.size inside) ∙ is)
    go i false e l =
        let other : i ≡ k → ⊥ = eqb-false i k e in
        get_or-set_other masks k i x 0 other ∙ m.each i (omega (arith, other))
