-- The laws of bits: toggling changes that bit and no other; distance counts the bits that differ; distances of blocks add up.
use Rattle.std.specs.Prelude.{◌≡◌, refl, Bool, true, false, cond, not, ◌&&◌, ◌||◌, ℕ, zero, suc, ◌+◌, ◌-◌, ◌*◌, ◌/◌, ◌%◌, ◌^◌, ◌≤◌, ◌<◌, min, max}
use Rattle.std.proofs.Common.{sym, ◌∙◌, true≢false, suc-le-suc, add-suc, div-lt_iff_lt-mul, pow-suc, div-one, one-mul, mod-lt, mul-div_cancel, not-suc-le-zero, le_of_suc-le-suc, one-add, arith, lit<, shl_exact, shr-shr, eq-eqb, ne_eqb, eqb-true}
use Rattle.std.proofs.Math.Path.{ap, ap₂}
use Rattle.std.proofs.Math.Bool.{xor, not-not}
use Rattle.std.proofs.Math.Nat.{suc_inj, div-eq_of_lt, zero-div, mul-mod_left, mul-add-mod_self_right}
use Rattle.std.proofs.Math.Dec.{eqb, eqb-zero-suc, eqb-suc-zero, eqb-suc-suc}
use Rattle.std.specs.Int.Bits.{bit_and, bit_or, bit_xor, differ, and_step, or_step, xor_step, xor_self}
use Rattle.std.proofs.lemmas.Nat.{and_shr, or_shr, xor_shr, xor_comm, xor_lt, xor_block, ones_cat, ones-le}
use Rattle.std.specs.Int.Count.{count_trailing_zeros, under, ones, ones_step}
use Rattle.std.proofs.Math.Pow.{pow-lt}
use Rattle.std.proofs.lemmas.Bool.{eqb-false}
use Rattle.words.specs.Bits.{bit, toggle, distance}

-- ---- tests of numbers

-- a test as a number
abbrev pub digit : Bool → ℕ
digit b = cond b 1 0

-- a remainder by 2 is 0 or 1
pub by_parity : (P : ℕ → Type 0) (x : ℕ) → (x % 2 ≡ 0 → P 0) → (x % 2 ≡ 1 → P 1) → P (x % 2)
by_parity P x even odd = go (x % 2) refl (mod-lt x (lit< tt))
  where
    go : (d : ℕ) → x % 2 ≡ d → d < 2 → P d
    go zero e l = even e
    go (suc zero) e l = odd e
    go (suc (suc d)) e l = absurd (omega arith)

-- tests of facts that follow from each other
pub same_test : (a b c d : ℕ) → (a ≡ b → c ≡ d) → (c ≡ d → a ≡ b) → eqb a b ≡ eqb c d
same_test a b c d f g = go (eqb a b) refl
  where
    go : (t : Bool) → eqb a b ≡ t → t ≡ eqb c d
    go true e = sym (eq-eqb c d (f (eqb-true a b e)))
    go false e = sym (ne_eqb c d (λ q. eqb-false a b e (g q)))

-- ---- one bit

-- how many numbers below n pass the test
unfoldable pub count : ℕ → (ℕ → Bool) → ℕ
count zero p = 0
count (suc n) p = cond (p 0) 1 0 + count n (λ v. p (suc v))

-- a digit, and the test whether it is 1
digit_is : (d : ℕ) → d < 2 → d ≡ cond (eqb d 1) 1 0
digit_is zero l = refl
digit_is (suc zero) l = refl
digit_is (suc (suc d)) l = absurd (omega arith)

-- a bit above the lowest is a bit of the half
pub bit_suc : (m v : ℕ) → bit m (suc v) ≡ bit (m / 2) v
unfolding bit
bit_suc m v = ap (λ (x : ℕ). eqb (x % 2) 1) (ap (λ (k : ℕ). m / 2 ^ k) (sym (one-add v)) ∙ sym (shr-shr m 1 v))

pub bit_low : (m : ℕ) → bit m 0 ≡ eqb (m % 2) 1
unfolding bit
bit_low m = ap (λ (x : ℕ). eqb (x % 2) 1) (div-one m)

pub bit_zero : (v : ℕ) → bit 0 v ≡ false
unfolding bit
bit_zero v = rw (zero-div (2 ^ v))

-- a number below 2^v has no bit v
pub bit_high : (v m : ℕ) → m < 2 ^ v → bit m v ≡ false
unfolding bit
bit_high v m h = rw (div-eq_of_lt h)

-- a power of two has one bit
pub bit_power : (v w : ℕ) → bit (2 ^ v) w ≡ eqb v w
bit_power zero zero = bit_low 1
bit_power zero (suc w) = bit_suc 1 w ∙ bit_zero w ∙ sym (eqb-zero-suc w)
bit_power (suc v) zero = rw (bit_low, pow-suc, mul-mod_left, eqb-suc-zero)
bit_power (suc v) (suc w) = rw (bit_suc, pow-suc, mul-div_cancel (2 ^ v) {n = 2} (lit< tt), eqb-suc-suc) (bit_power v w)

-- the binary digit that a bit is read from
digit_bit : (a v : ℕ) → a / 2 ^ v % 2 ≡ cond (bit a v) 1 0
unfolding bit
digit_bit a v = digit_is (a / 2 ^ v % 2) (mod-lt (a / 2 ^ v) (lit< tt))

-- An operation that works digit by digit, as f does, works bit by bit, as g does.
module _ (op f : ℕ → ℕ → ℕ) (g : Bool → Bool → Bool)
    (shr : (a b v : ℕ) → op a b / 2 ^ v ≡ op (a / 2 ^ v) (b / 2 ^ v))
    (step : (a b : ℕ) → op a b ≡ op (a / 2) (b / 2) * 2 + f (a % 2) (b % 2))
    (both : eqb (f 1 1 % 2) 1 ≡ g true true) (left : eqb (f 1 0 % 2) 1 ≡ g true false)
    (right : eqb (f 0 1 % 2) 1 ≡ g false true) (neither : eqb (f 0 0 % 2) 1 ≡ g false false) where
  rule : (x y : Bool) → eqb (f (cond x 1 0) (cond y 1 0) % 2) 1 ≡ g x y
  rule true true = both
  rule true false = left
  rule false true = right
  rule false false = neither

  bit_op : (a b v : ℕ) → bit (op a b) v ≡ g (bit a v) (bit b v)
  unfolding bit
  bit_op a b v =
      ap (λ (x : ℕ). eqb (x % 2) 1) (shr a b v ∙ step (a / 2 ^ v) (b / 2 ^ v))
      ∙ ap (λ (x : ℕ). eqb x 1) (mul-add-mod_self_right _ 2 _ ∙ ap₂ (λ (x y : ℕ). f x y % 2) (digit_bit a v) (digit_bit b v))
      ∙ rule (bit a v) (bit b v)

pub bit-bit_xor : (a b v : ℕ) → bit (bit_xor a b) v ≡ xor (bit a v) (bit b v)
unfolding xor
bit-bit_xor = bit_op bit_xor differ xor xor_shr xor_step refl refl refl refl

pub bit-bit_and : (a b v : ℕ) → bit (bit_and a b) v ≡ (bit a v && bit b v)
bit-bit_and = bit_op bit_and min ◌&&◌ and_shr and_step refl refl refl refl

pub bit-bit_or : (a b v : ℕ) → bit (bit_or a b) v ≡ (bit a v || bit b v)
bit-bit_or = bit_op bit_or max ◌||◌ or_shr or_step refl refl refl refl

-- 1 shifted by less than k loses no bit in k bits
pub one_shl : (k s : ℕ) → s < k → 1 * 2 ^ s % 2 ^ k ≡ 2 ^ s
one_shl k s h = shl_exact {a = 1} 1 s k (lit< tt) (omega arith) ∙ one-mul (2 ^ s)

-- the complement in k bits
pub bit_not : (k x v : ℕ) → x < 2 ^ k → v < k → bit (2 ^ k - 1 - x) v ≡ not (bit x v)
bit_not zero x v h l = absurd (not-suc-le-zero l)
bit_not (suc k) x zero h l =
    let y = 2 ^ suc k - 1 - x in
    let odd : y % 2 ≡ 1 - x % 2 = omega (arith, pow-suc 2 k) in
    rw (bit_low y, bit_low x, odd) (by_parity (λ a. eqb (1 - a) 1 ≡ not (eqb a 1)) x (λ e. refl) (λ e. refl))
bit_not (suc k) x (suc v) h l =
    let y = 2 ^ suc k - 1 - x in
    let half : y / 2 ≡ 2 ^ k - 1 - x / 2 = omega (arith, pow-suc 2 k) in
    rw (bit_suc y v, bit_suc x v, half) (bit_not k (x / 2) v (omega (arith, pow-suc 2 k)) (le_of_suc-le-suc l))

-- the bits of a that b has not
pub bit_without : (k a b v : ℕ) → b < 2 ^ k → v < k → bit (bit_and a (2 ^ k - 1 - b)) v ≡ (bit a v && not (bit b v))
bit_without k a b v h l = bit-bit_and a _ v ∙ ap (λ (y : Bool). bit a v && y) (bit_not k b v h l)

xor_false : (b : Bool) → xor b false ≡ b
unfolding xor
xor_false true = refl
xor_false false = refl

pub xor_same : (a b : Bool) → xor a b ≡ false → a ≡ b
unfolding xor
xor_same true true e = refl
xor_same true false e = absurd (true≢false e)
xor_same false true e = absurd (true≢false e)
xor_same false false e = refl

pub xor_equal : (a b : Bool) → a ≡ b → xor a b ≡ false
unfolding xor
xor_equal true b e = ap (xor true) (sym e)
xor_equal false b e = ap (xor false) (sym e)

xor_true : (b : Bool) → xor b true ≡ not b
unfolding xor
xor_true true = refl
xor_true false = refl

-- two truth values that are not the same are opposite
pub not_same : (a b : Bool) → (a ≡ b → ⊥) → b ≡ not a
not_same true true h = absurd (h refl)
not_same true false h = refl
not_same false true h = refl
not_same false false h = absurd (h refl)

-- Toggling changes that bit,
pub bit_toggle_same : (m v : ℕ) → bit (toggle m v) v ≡ not (bit m v)
unfolding toggle
bit_toggle_same m v = bit-bit_xor m (2 ^ v) v ∙ rw (bit_power, eq-eqb v v refl) (xor_true (bit m v))

-- and no other.
pub bit_toggle_other : (m v w : ℕ) → (v ≡ w → ⊥) → bit (toggle m v) w ≡ bit m w
unfolding toggle
bit_toggle_other m v w h = bit-bit_xor m (2 ^ v) w ∙ rw (bit_power, ne_eqb v w h) (xor_false (bit m w))

pub toggle_lt : (n m v : ℕ) → m < 2 ^ n → v < n → toggle m v < 2 ^ n
unfolding toggle
toggle_lt n m v h l = xor_lt n m (2 ^ v) h (pow-lt l)

-- half of a number of n + 1 bits has n bits
half_lt : (n x : ℕ) → x < 2 ^ suc n → x / 2 < 2 ^ n
half_lt n x h = (div-lt_iff_lt-mul (lit< tt)).1 (rw pow-suc at h)

-- Numbers of n bits are equal where their bits are.
pub bits_ext : (n a b : ℕ) → a < 2 ^ n → b < 2 ^ n → ((v : ℕ) → v < n → bit a v ≡ bit b v) → a ≡ b
bits_ext zero a b p q h = omega arith
bits_ext (suc n) a b p q h =
    let below : (v : ℕ) → v < n → bit (a / 2) v ≡ bit (b / 2) v =
    λ v l. sym (bit_suc a v) ∙ h (suc v) (suc-le-suc l) ∙ bit_suc b v in
    let high : a / 2 ≡ b / 2 = bits_ext n (a / 2) (b / 2) (half_lt n a p) (half_lt n b q) below in
    let lowest : eqb (a % 2) 1 ≡ eqb (b % 2) 1 = sym (bit_low a) ∙ h 0 (omega arith) ∙ bit_low b in
    let low : a % 2 ≡ b % 2 = digit_is (a % 2) (mod-lt a (lit< tt)) ∙ ap digit lowest ∙ sym (digit_is (b % 2) (mod-lt b (lit< tt))) in
    omega arith

-- Toggling twice changes nothing.
pub toggle_twice : (n m v : ℕ) → m < 2 ^ n → v < n → toggle (toggle m v) v ≡ m
toggle_twice n m v h l = bits_ext n _ m (toggle_lt n (toggle m v) v (toggle_lt n m v h l) l) h (λ w p. go w (eqb v w) refl)
  where
    go : (w : ℕ) (t : Bool) → eqb v w ≡ t → bit (toggle (toggle m v) v) w ≡ bit m w
    go w true e =
        let same : v ≡ w = eqb-true v w e in
        rw (← same, bit_toggle_same (toggle m v) v, bit_toggle_same m v) (not-not (bit m v))
    go w false e =
        let other = eqb-false v w e in
        bit_toggle_other (toggle m v) v w other ∙ bit_toggle_other m v w other

-- ---- the lowest bit that is set

pub trailing_below : (k x j : ℕ) → j < count_trailing_zeros k x → bit x j ≡ false
unfolding count_trailing_zeros
trailing_below zero x j l = absurd (not-suc-le-zero l)
trailing_below (suc k) x j l = go (trailing_below k (x / 2)) (x % 2) refl j l
  where
    go : ((i : ℕ) → i < count_trailing_zeros k (x / 2) → bit (x / 2) i ≡ false) → (d : ℕ) → x % 2 ≡ d → (i : ℕ) →
        i < under d (count_trailing_zeros k (x / 2)) → bit x i ≡ false
    go below zero e zero h = rw (bit_low, e)
    go below zero e (suc i) h = bit_suc x i ∙ below i (le_of_suc-le-suc h)
    go below (suc d) e i h = absurd (not-suc-le-zero h)

pub trailing_at : (k x : ℕ) → (x ≡ 0 → ⊥) → x < 2 ^ k → (count_trailing_zeros k x < k) × (bit x (count_trailing_zeros k x) ≡ true)
unfolding count_trailing_zeros
trailing_at zero x p h = absurd (p (omega arith))
trailing_at (suc k) x p h =
    let t = count_trailing_zeros k (x / 2) in
    by_parity (λ d. (under d t < suc k) × (bit x (under d t) ≡ true)) x
    (λ e. let b = trailing_at k (x / 2) (λ q. p (omega arith)) (omega (arith, pow-suc 2 k)) in (suc-le-suc b.0, bit_suc x t ∙ b.1))
    (λ e. (omega arith, rw (bit_low, e)))

-- ---- counting

pub count_same : (n : ℕ) (p q : ℕ → Bool) → ((v : ℕ) → v < n → p v ≡ q v) → count n p ≡ count n q
unfolding count
count_same zero p q h = refl
count_same (suc n) p q h =
    let rest = count_same n (λ v. p (suc v)) (λ v. q (suc v)) (λ v l. h (suc v) (suc-le-suc l)) in
    ap₂ (λ (b : Bool) (k : ℕ). cond b 1 0 + k) (h 0 (omega arith)) rest

-- a test that fails at one more place passes at one less
count_less : (n v : ℕ) (p q : ℕ → Bool) → v < n → p v ≡ true → q v ≡ false →
    ((w : ℕ) → (v ≡ w → ⊥) → p w ≡ q w) → count n p ≡ suc (count n q)
unfolding count
count_less zero v p q l e f h = absurd (not-suc-le-zero l)
count_less (suc n) zero p q l e f h =
    let rest = count_same n (λ w. p (suc w)) (λ w. q (suc w)) (λ w l'. h (suc w) (λ z. let z' : 0 ≡ suc w = z in omega arith)) in
    rw (e, f, rest) (omega arith)
count_less (suc n) (suc v) p q l e f h =
    let below : count n (λ w. p (suc w)) ≡ suc (count n (λ w. q (suc w))) =
    count_less n v (λ w. p (suc w)) (λ w. q (suc w)) (le_of_suc-le-suc l) e f (λ w d. h (suc w) (λ z. d (suc_inj z))) in
    rw (h 0 (λ z. let z' : suc v ≡ 0 = z in omega arith), below) (add-suc _ _)

count_all : (n : ℕ) → count n (λ v. true) ≡ n
unfolding count
count_all zero = refl
count_all (suc n) = ap (λ (x : ℕ). 1 + x) (count_all n) ∙ one-add n

count_none : (n : ℕ) (p : ℕ → Bool) → count n p ≡ 0 → (v : ℕ) → v < n → p v ≡ false
unfolding count
count_none zero p e v l = absurd (not-suc-le-zero l)
count_none (suc n) p e zero l = go (p 0) e
  where
    go : (b : Bool) → cond b 1 0 + count n (λ w. p (suc w)) ≡ 0 → b ≡ false
    go true z = absurd (omega arith)
    go false z = refl
count_none (suc n) p e (suc v) l = count_none n (λ w. p (suc w)) (omega arith) v (le_of_suc-le-suc l)

-- ---- distance

ones_zero : ones 0 ≡ 0
unfolding ones
ones_zero = refl

ones_count : (n x : ℕ) → x < 2 ^ n → ones x ≡ count n (bit x)
unfolding count
ones_count zero x h = let e : x ≡ 0 = omega arith in ap ones e ∙ ones_zero
ones_count (suc n) x h =
    ones_step x
    ∙ ap₂ (λ (d k : ℕ). d + k)
    (digit_is (x % 2) (mod-lt x (lit< tt)) ∙ ap (λ (b : Bool). cond b 1 0) (sym (bit_low x)))
    (ones_count n (x / 2) (half_lt n x h) ∙ count_same n (bit (x / 2)) (λ v. bit x (suc v)) (λ v l. sym (bit_suc x v)))

-- Distance counts the bits that differ below a width.
pub distance_count : (n a b : ℕ) → a < 2 ^ n → b < 2 ^ n → distance a b ≡ count n (λ v. xor (bit a v) (bit b v))
unfolding distance
distance_count n a b p q = ones_count n (bit_xor a b) (xor_lt n a b p q) ∙ count_same n _ _ (λ v l. bit-bit_xor a b v)

pub distance_self : (a : ℕ) → distance a a ≡ 0
unfolding distance
distance_self a = rw xor_self ones_zero

pub distance_comm : (a b : ℕ) → distance a b ≡ distance b a
unfolding distance
distance_comm a b = ap ones (xor_comm a b)

-- Numbers of n bits differ in at most n,
pub distance_most : (n a b : ℕ) → a < 2 ^ n → b < 2 ^ n → distance a b ≤ n
unfolding distance
distance_most n a b p q = ones-le n (bit_xor a b) (xor_lt n a b p q)

-- and in all of them where each bit of one is opposite to the other's.
pub distance_opposite : (n a : ℕ) → a < 2 ^ n → distance (2 ^ n - 1 - a) a ≡ n
unfolding xor
distance_opposite n a h =
    distance_count n (2 ^ n - 1 - a) a (omega arith) h
    ∙ count_same n _ (λ v. true) (λ v l. ap (λ (b : Bool). xor b (bit a v)) (bit_not n a v h l) ∙ opposite (bit a v))
    ∙ count_all n
  where
    opposite : (b : Bool) → xor (not b) b ≡ true
    opposite true = refl
    opposite false = refl

-- Distances of blocks add up.
pub distance_blocks : (k a b r s : ℕ) → r < 2 ^ k → s < 2 ^ k →
    distance (a * 2 ^ k + r) (b * 2 ^ k + s) ≡ distance a b + distance r s
unfolding distance
distance_blocks k a b r s p q = rw (xor_block k a b r s p q) (ones_cat k (bit_xor a b) (bit_xor r s) (xor_lt k r s p q))

-- Toggling a bit in which a and b differ brings them nearer by one.
pub distance_toggle : (n a b v : ℕ) → a < 2 ^ n → b < 2 ^ n → v < n → (bit a v ≡ bit b v → ⊥) →
    distance a b ≡ suc (distance (toggle a v) b)
unfolding xor
distance_toggle n a b v p q l d =
    distance_count n a b p q
    ∙ count_less n v (λ w. xor (bit a w) (bit b w)) (λ w. xor (bit (toggle a v) w) (bit b w)) l (differs (bit a v) (bit b v) d)
    (ap (λ (x : Bool). xor x (bit b v)) (bit_toggle_same a v) ∙ agrees (bit a v) (bit b v) d)
    (λ w h. ap (λ (x : Bool). xor x (bit b w)) (sym (bit_toggle_other a v w h)))
    ∙ ap suc (sym (distance_count n (toggle a v) b (toggle_lt n a v p l) q))
  where
    differs : (x y : Bool) → (x ≡ y → ⊥) → xor x y ≡ true
    differs true true h = absurd (h refl)
    differs true false h = refl
    differs false true h = refl
    differs false false h = absurd (h refl)

    agrees : (x y : Bool) → (x ≡ y → ⊥) → xor (not x) y ≡ false
    agrees true true h = absurd (h refl)
    agrees true false h = refl
    agrees false true h = refl
    agrees false false h = absurd (h refl)

-- Numbers at distance 0 are equal.
pub distance_zero : (n a b : ℕ) → a < 2 ^ n → b < 2 ^ n → distance a b ≡ 0 → a ≡ b
distance_zero n a b p q e =
    let none = count_none n _ (sym (distance_count n a b p q) ∙ e) in
    bits_ext n a b p q (λ v l. xor_same (bit a v) (bit b v) (none v l))
