-- Laws of the words of an assignment: their bits, one bit toggled, where two differ, bits joined, and the words of a number. Each
-- is one law over the word's index.
use Rattle.std.specs.Prelude.{◌≡◌, refl, Bool, true, false, List, [], ◌∷◌, map, fold, reverse, ℕ, zero, suc, ◌+◌, ◌-◌, ◌*◌, ◌/◌, ◌%◌, ◌^◌, ◌≤◌, ◌<◌, eqb, ltb, length, get_or, set}
use Rattle.std.proofs.Common.{sym, ap, ◌∙◌, true≢false, add-zero, zero-add, mul_assoc, div-one, add-one, arith, lit<, ext_get_or, pow-add, pow_mono, pow_pos, mod-lt, shr-shr, ltb-true, ltb-false}
use Rattle.std.proofs.Math.Nat.{zero-div, div-eq_of_lt}
use Rattle.std.specs.Int.Bits.{bit_or, bit_xor, xor_zero_r, block_half, block_odd}
use Rattle.std.proofs.lemmas.Nat.{or_shifted, xor_lt, xor_block, trailing_le}
use Rattle.std.specs.Int.Count.{count_trailing_zeros, trailing_of_zero}
use Rattle.std.proofs.Math.Pow.{pow-lt, shl_exact, split, high, low}
use Rattle.words.specs.Lists.{span}
use Rattle.words.specs.Bits.{bit, toggle, width, from_words, word_at}
use Rattle.words.proofs.BitLaws.{bit_suc, bit_low, bit_zero, bit-bit_xor, xor_same, xor_equal, trailing_below, trailing_at}
use Rattle.words.specs.Machine.{words_in, bits_of, word_count, Small, Lent, FirstDifference}
use Rattle.words.specs.declared.Assignment.{Assignment}

-- an assignment has words for its whole width,
pub words_count : (a : Assignment) → length (words_in a) ≡ word_count
unfolding words_in
words_count a = refl

-- and each of them has 32 bits
pub words_small : (a : Assignment) → Small (words_in a)
unfolding words_in word_at
words_small a zero = mod-lt _ (lit< tt)
words_small a (suc zero) = mod-lt _ (lit< tt)
words_small a (suc (suc zero)) = mod-lt _ (lit< tt)
words_small a (suc (suc (suc zero))) = mod-lt _ (lit< tt)
words_small a (suc (suc (suc (suc i)))) = lit< tt

-- ---- bits

-- a power of a further word
power_next : (i v : ℕ) → 2 ^ (32 * suc i + v) ≡ 2 ^ (32 * i + v) * 2 ^ 32
power_next i v = let at : 32 * suc i + v ≡ (32 * i + v) + 32 = omega arith in ap (λ (x : ℕ). 2 ^ x) at ∙ pow-add 2 (32 * i + v) 32

-- below a block's border the bits are those of the rest,
pub bit_rest : (k a r v : ℕ) → v < k → bit (a * 2 ^ k + r) v ≡ bit r v
bit_rest zero a r v l = absurd (omega arith)
bit_rest (suc k) a r zero l = bit_low _ ∙ ap (λ (x : ℕ). eqb x 1) (block_odd a k r) ∙ sym (bit_low r)
bit_rest (suc k) a r (suc v) l =
    bit_suc _ v ∙ ap (λ (x : ℕ). bit x v) (block_half a k r) ∙ bit_rest k a (r / 2) v (omega arith) ∙ sym (bit_suc r v)

-- and from it on those of the block.
pub bit_block : (k a r v : ℕ) → r < 2 ^ k → bit (a * 2 ^ k + r) (k + v) ≡ bit a v
unfolding bit
bit_block k a r v l =
    ap (λ (x : ℕ). eqb (x % 2) 1) (sym (shr-shr (a * 2 ^ k + r) k v) ∙ ap (λ (x : ℕ). x / 2 ^ v) (high a k l))

-- bit 32 i + v of the number is bit v of word i
bit_in : (ws : List ℕ) → Small ws → (i v : ℕ) → v < 32 → bit (from_words ws) (32 * i + v) ≡ bit (get_or ws i 0) v
unfolding from_words
bit_in [] s i v l = bit_zero (32 * i + v) ∙ sym (bit_zero v)
bit_in (w ∷ ws) s zero v l = rw zero-add (bit_rest 32 (from_words ws) w v l)
bit_in (w ∷ ws) s (suc i) v l =
    let at : 32 * suc i + v ≡ 32 + (32 * i + v) = omega arith in
    ap (bit _) at ∙ bit_block 32 (from_words ws) w (32 * i + v) (s 0) ∙ bit_in ws (λ j. s (suc j)) i v l

-- to toggle it is to toggle that bit of the word
toggle_in : (ws : List ℕ) → Small ws → (i v : ℕ) → i < length ws → v < 32 →
    from_words (set ws i (toggle (get_or ws i 0) v)) ≡ toggle (from_words ws) (32 * i + v)
unfolding from_words toggle
toggle_in [] s i v h l = absurd (omega arith)
toggle_in (w ∷ ws) s zero v h l =
    let e = xor_block 32 (from_words ws) 0 w (2 ^ v) (s 0) (pow-lt l) in
    rw zero-add (sym (rw (zero-add, xor_zero_r) at e))
toggle_in (w ∷ ws) s (suc i) v h l =
    let e = xor_block 32 (from_words ws) (2 ^ (32 * i + v)) w 0 (s 0) (lit< tt) in
    rw (toggle_in ws (λ j. s (suc j)) i v (omega arith) l, power_next i v) (sym (rw (add-zero, xor_zero_r) at e))

-- the word and the bit where bit v stands
place : (v : ℕ) → 32 * (v / 32) + v % 32 ≡ v
place v = omega arith

inside : (v : ℕ) → v % 32 < 32
inside v = omega arith

-- Bit v of the number is bit v % 32 of word v / 32;
pub from_words_bit : (ws : List ℕ) → Small ws → (v : ℕ) → bit (from_words ws) v ≡ bit (get_or ws (v / 32) 0) (v % 32)
from_words_bit ws s v = ap (bit (from_words ws)) (sym (place v)) ∙ bit_in ws s (v / 32) (v % 32) (inside v)

-- to toggle it is to toggle that bit of the word.
pub from_words_toggle : (ws : List ℕ) → Small ws → (v : ℕ) → v < 32 * length ws →
    from_words (set ws (v / 32) (toggle (get_or ws (v / 32) 0) (v % 32))) ≡ toggle (from_words ws) v
from_words_toggle ws s v h = toggle_in ws s (v / 32) (v % 32) (omega arith) (inside v) ∙ ap (toggle (from_words ws)) (place v)

-- ---- where two differ

-- The lowest bit of a xor b that is set is the first in which a and b differ.
pub first_difference : (k a b : ℕ) → a < 2 ^ k → b < 2 ^ k → FirstDifference k a b (count_trailing_zeros k (bit_xor a b))
first_difference k a b p q =
    let x = bit_xor a b in
    record {
      within = trailing_le k x;
      before = λ v l. xor_same (bit a v) (bit b v) (sym (bit-bit_xor a b v) ∙ trailing_below k x v l);
      here = λ l e.
          let some : x ≡ 0 → ⊥ = λ z. omega (arith, ap (count_trailing_zeros k) z, trailing_of_zero k) in
          true≢false (sym (trailing_at k x some (xor_lt k a b p q)).1 ∙ bit-bit_xor a b _ ∙ xor_equal _ _ e);
    }

-- the bits below v are the same
abbrev pub Agree : List ℕ → List ℕ → ℕ → Type 0
Agree ws ws' v = (u : ℕ) → u < v → bit (from_words ws) u ≡ bit (from_words ws') u

module _ (ws ws' : List ℕ) (p : Small ws) (q : Small ws') (i : ℕ) (below : Agree ws ws' (32 * i)) where
  abbrev x : ℕ
  x = bit_xor (get_or ws i 0) (get_or ws' i 0)

  abbrev first : FirstDifference 32 (get_or ws i 0) (get_or ws' i 0) (count_trailing_zeros 32 x)
  first = first_difference 32 (get_or ws i 0) (get_or ws' i 0) (p i) (q i)

  agree_further : Agree ws ws' (32 * i + count_trailing_zeros 32 x)
  agree_further u l = go (ltb u (32 * i)) refl
    where
      go : (b : Bool) → ltb u (32 * i) ≡ b → bit (from_words ws) u ≡ bit (from_words ws') u
      go true e = below u (ltb-true _ _ e)
      go false e =
          let v : ℕ = u - 32 * i in
          let at : 32 * i + v ≡ u = omega (arith, ltb-false u (32 * i) e) in
          let inside : v < 32 = omega (arith, first.within) in
          rw (← at) (bit_in ws p i v inside ∙ first.before v (omega arith) ∙ sym (bit_in ws' q i v inside))

  -- past words that are the same,
  pub agree_next : x ≡ 0 → Agree ws ws' (32 * (i + 1))
  agree_next e u l = agree_further u (omega (arith, ap (count_trailing_zeros 32) e, trailing_of_zero 32))

  -- to the first that are not.
  pub agree_ends : i < word_count → (x ≡ 0 → ⊥) → FirstDifference width (from_words ws) (from_words ws') (32 * i + count_trailing_zeros 32 x)
  agree_ends h e =
      let inside = (trailing_at 32 x e (xor_lt 32 (get_or ws i 0) (get_or ws' i 0) (p i) (q i))).0 in
      record {
        within = omega (arith, inside);
        before = agree_further;
        here = λ l same. first.here inside (sym (bit_in ws p i _ inside) ∙ same ∙ bit_in ws' q i _ inside);
      }

-- ---- bits joined above the others

-- below 2^(32 i + v), word i is below 2^v
top_in : (ws : List ℕ) (i v : ℕ) → from_words ws < 2 ^ (32 * i + v) → get_or ws i 0 < 2 ^ v
unfolding from_words
top_in [] i v h = pow_pos v
top_in (w ∷ ws) zero v h = let h' = rw (zero-add v) at h in omega arith
top_in (w ∷ ws) (suc i) v h = top_in ws i v (omega (arith, power_next i v))

-- x joined at bit 32 i + v: x 2^v is added to word i, and what has no room there goes to the next word
join_in : (ws : List ℕ) (i v x : ℕ) → v ≤ 32 → i < length ws → from_words ws < 2 ^ (32 * i + v) →
    x * 2 ^ (32 * i + v) + from_words ws < 2 ^ (32 * length ws) →
    let both = x * 2 ^ v + get_or ws i 0 in
    from_words (set (set ws i (both % 2 ^ 32)) (suc i) (both / 2 ^ 32)) ≡ x * 2 ^ (32 * i + v) + from_words ws
unfolding from_words
join_in [] i v x l h below room = absurd (omega arith)
join_in (w ∷ []) zero v x l h below room = let room' = rw (zero-add v) at room in rw (zero-add v) (omega arith)
join_in (w ∷ y ∷ ws) zero v x l h below room =
    let below' = rw (zero-add v) at below in
    rw (zero-add v) (omega (arith, pow_mono l))
join_in (w ∷ ws) (suc i) v x l h below room =
    let p = power_next i v in
    let q : x * 2 ^ (32 * suc i + v) ≡ x * 2 ^ (32 * i + v) * 2 ^ 32 = ap (λ (y : ℕ). x * y) p ∙ sym (mul_assoc x _ _) in
    let room' = rw (power_next (length ws) 0, add-zero) at rw (← add-zero (32 * suc (length ws))) at room in
    let e = join_in ws i v x l (omega arith) (omega (arith, p)) (omega (arith, q)) in
    omega (arith, q, e)

-- A number x joined to them above v bits: word v / 32 is below 2^(v % 32), x 2^(v % 32) is added to it, and what has no room there
-- goes to the next word.
module _ (ws : List ℕ) (v : ℕ) (below : from_words ws < 2 ^ v) where
  placed : from_words ws < 2 ^ (32 * (v / 32) + v % 32)
  placed = rw (place v) below

  pub from_words_top : get_or ws (v / 32) 0 < 2 ^ (v % 32)
  from_words_top = top_in ws (v / 32) (v % 32) placed

  pub from_words_joined : (x : ℕ) → v < 32 * length ws → x * 2 ^ v + from_words ws < 2 ^ (32 * length ws) →
      let both = x * 2 ^ (v % 32) + get_or ws (v / 32) 0 in
      from_words (set (set ws (v / 32) (both % 2 ^ 32)) (v / 32 + 1) (both / 2 ^ 32)) ≡ x * 2 ^ v + from_words ws
  from_words_joined x h room =
      let fits = rw (← place v) at room in
      rw add-one (join_in ws (v / 32) (v % 32) x (omega arith) (omega arith) placed fits)
      ∙ ap (λ (n : ℕ). x * 2 ^ n + from_words ws) (place v)

-- ---- the words of a number

-- Word i of the number of some words is the one among them.
pub from_words_word : (ws : List ℕ) → Small ws → (i : ℕ) → word_at (from_words ws) i ≡ get_or ws i 0
unfolding from_words word_at
from_words_word [] s i = rw zero-div
from_words_word (w ∷ ws) s zero = rw div-one (low (from_words ws) 32 (s 0))
from_words_word (w ∷ ws) s (suc i) =
    let m : ℕ = from_words ws * 2 ^ 32 + w in
    let at : 32 * suc i ≡ 32 + 32 * i = omega arith in
    let rest = sym (shr-shr m 32 (32 * i)) ∙ ap (λ (x : ℕ). x / 2 ^ (32 * i)) (high (from_words ws) 32 (s 0)) in
    ap (λ (n : ℕ). m / 2 ^ n % 2 ^ 32) at ∙ ap (λ (x : ℕ). x % 2 ^ 32) rest ∙ from_words_word ws (λ j. s (suc j)) i

-- Words with the same number are the same words.
pub from_words_same : (a b : List ℕ) → Lent a → Lent b → from_words a ≡ from_words b → a ≡ b
from_words_same a b p q e =
    ext_get_or 0 a b (p.size ∙ sym q.size)
    (λ i l. sym (from_words_word a p.each i) ∙ ap (λ (m : ℕ). word_at m i) e ∙ from_words_word b q.each i)

-- The words of a number from word i on make what is left of it.
from_words_at : (c i m : ℕ) → m < 2 ^ (32 * (i + c)) → from_words (map (word_at m) (span i c)) ≡ m / 2 ^ (32 * i)
unfolding from_words word_at span
from_words_at zero i m h = sym (div-eq_of_lt (rw add-zero at h))
from_words_at (suc c) i m h =
    let at : 32 * suc i ≡ 32 * i + 32 = omega arith in
    let next : i + suc c ≡ suc i + c = omega arith in
    ap (λ (x : ℕ). x * 2 ^ 32 + word_at m i) (from_words_at c (suc i) m (rw next at h))
    ∙ rw (at, ← shr-shr) (split (m / 2 ^ (32 * i)) 32)

-- An assignment's words make it.
pub words_number : (m : ℕ) → m < 2 ^ width → from_words (word_at m 0 ∷ word_at m 1 ∷ word_at m 2 ∷ word_at m 3 ∷ []) ≡ m
unfolding span
words_number m h = from_words_at word_count 0 m h ∙ div-one m

-- The words of an assignment are those of its number, and make it.
module _ (a : Assignment) (fits : bits_of a < 2 ^ width) where
  pub words_made : from_words (words_in a) ≡ bits_of a
  unfolding words_in
  words_made = words_number (bits_of a) fits

  pub words_at : (i : ℕ) → word_at (bits_of a) i ≡ get_or (words_in a) i 0
  words_at i = ap (λ (m : ℕ). word_at m i) (sym words_made) ∙ from_words_word (words_in a) (words_small a) i

-- the words that are lent, one by one
pub words_listed : (ws : List ℕ) → length ws ≡ word_count → ws ≡ get_or ws 0 0 ∷ get_or ws 1 0 ∷ get_or ws 2 0 ∷ get_or ws 3 0 ∷ []
words_listed (a ∷ b ∷ c ∷ d ∷ []) e = refl
words_listed [] e = absurd (omega arith)
words_listed (a ∷ []) e = absurd (omega arith)
words_listed (a ∷ b ∷ []) e = absurd (omega arith)
words_listed (a ∷ b ∷ c ∷ []) e = absurd (omega arith)
words_listed (a ∷ b ∷ c ∷ d ∷ x ∷ ws) e = absurd (omega arith)

-- a word joined below a number
joins : (a b : ℕ) → a < 2 ^ 96 → b < 2 ^ 32 → bit_or (a * 2 ^ 32 % 2 ^ width) b ≡ a * 2 ^ 32 + b
joins a b p q = ap (λ (x : ℕ). bit_or x b) (shl_exact 96 32 width p lit) ∙ or_shifted a 32 b q
  where
    lit : 96 + 32 ≤ width
    lit = omega arith

-- The words that are lent, joined from the highest down, make their number.
pub words_folded : (ws : List ℕ) → length ws ≡ word_count → Small ws →
    fold (λ (m w : ℕ). bit_or (m * 2 ^ 32 % 2 ^ width) w) 0 (reverse ws) ≡ from_words ws
unfolding from_words
words_folded (a ∷ b ∷ c ∷ d ∷ []) e s =
    let p = s 0 in
    let q = s 1 in
    let r = s 2 in
    let t = s 3 in
    let two : ℕ = d * 2 ^ 32 + c in
    let three : ℕ = two * 2 ^ 32 + b in
    rw (joins d c (omega arith) r, joins two b (omega arith) q, joins three a (omega arith) p) (omega arith)
words_folded [] e s = absurd (omega arith)
words_folded (a ∷ []) e s = absurd (omega arith)
words_folded (a ∷ b ∷ []) e s = absurd (omega arith)
words_folded (a ∷ b ∷ c ∷ []) e s = absurd (omega arith)
words_folded (a ∷ b ∷ c ∷ d ∷ g ∷ ws) e s = absurd (omega arith)
