-- How fast the code closes, for all t and s: the rate at each step, how many steps halve what is uncovered, and so how many words
-- the code has at most.
use Rattle.std.specs.Prelude.{◌≡◌, not, ℕ, zero, suc, ◌+◌, ◌-◌, ◌*◌, ◌/◌, ◌^◌, ◌≤◌, ◌<◌, length}
use Rattle.std.proofs.Common.{ap, ◌∙◌, le_refl, le_trans, le_of_eq, not-suc-le-zero, suc-mul, mul-le-mul_left, mul-le-mul_right, le_of_mul-le-mul_right, le-div_iff_mul-le, sub-add_cancel, add-zero, add-suc, zero-mul, pow-suc, arith, pow_pos}
use Rattle.std.proofs.Math.Nat.{one-le-pow, pow-zero}
use Rattle.std.proofs.Math.Numerals.{unary_clauses}
use Rattle.std.proofs.Math.Decide.{dec_le}
use Rattle.words.specs.Lists.{keep}
use Rattle.words.proofs.ListLaws.{length_span}
use Rattle.code.specs.Covering.{Covers}
use Rattle.code.specs.Code.{words_of, near, ball, chosen, without, code, uncovered}
use Rattle.code.specs.Volume.{volume, floor}
use Rattle.code.specs.Closing.{Rate, guaranteed, most_words, sharp_words, lemma_words}
use Rattle.code.proofs.KeepLaws.{words_within, length_in, keep_split}
use Rattle.code.proofs.ChosenLaws.{chosen_lt}
use Rattle.code.proofs.RateLaws.{step_rate}
use Rattle.code.proofs.CodeLaws.{outside_nil, code_covers, greedy_steps, code_closes, code_closed}
use Rattle.code.proofs.VolumeLaws.{ball_size, volume_pos, volume_most}
use Rattle.code.proofs.FloorLaws.{floor_enough, floor_pos, floor_less}

-- ---- every step

-- In the beginning all words are uncovered.
pub code_starts : (t s : ℕ) → uncovered t s 0 ≡ 2 ^ t
unfolding uncovered words_of
code_starts t s = ap length (outside_nil s (words_of t)) ∙ length_span 0 (2 ^ t)

-- If U words are uncovered before word k joins and U' after, then U' × 2 ^ t ≤ U × (2 ^ t − V(t, s)). (Past the last word both are 0.)
pub code_rate : (t s k : ℕ) → Rate t s (uncovered t s k) (uncovered t s (suc k))
unfolding Rate uncovered code
code_rate t s k = go (dec_le (suc k) (length (code t s)))
  where
    go : Dec (k < length (code t s)) → Rate t s (uncovered t s k) (uncovered t s (suc k))
    go (yes l) =
        greedy_steps (λ before after. Rate t s (length before) (length after)) t s (λ left x h i. step_rate t s left h)
        (2 ^ t) (words_of t) (words_within t) k l
    go (no h) = rw (code_closed t s (suc k) (omega arith)) (omega arith)

-- The first step does just that: no larger V would do.
pub code_first : (t s : ℕ) → uncovered t s 1 ≡ 2 ^ t - volume t s
unfolding uncovered code Covers without ball words_of
code_first t s =
    greedy_steps (λ before after. before ≡ words_of t → length after ≡ 2 ^ t - volume t s) t s
    (λ left x h i e. rw e (omega (arith, split, size)))
    (2 ^ t) (words_of t) (words_within t) 0 word (outside_nil s (words_of t))
  where
    w : ℕ
    w = chosen t s (words_of t)

    size : length (keep (near s w) (words_of t)) ≡ volume t s
    size = ball_size t s w (chosen_lt t s (words_of t))

    split : length (keep (near s w) (words_of t)) + length (keep (λ x. not (near s w x)) (words_of t)) ≡ 2 ^ t
    split = keep_split (near s w) (words_of t) ∙ length_span 0 (2 ^ t)

    word : 0 < length (code t s)
    word = length_in (code_covers t s 0 (pow_pos t)).1

-- The rate of j steps together.
pub code_rates : (t s j k : ℕ) → uncovered t s (k + j) * (2 ^ t) ^ j ≤ uncovered t s k * (2 ^ t - volume t s) ^ j
unfolding Rate
code_rates t s zero k = rw (add-zero, pow-zero, pow-zero) (le_refl _)
code_rates t s (suc j) k =
    let first = mul-le-mul_right (2 ^ t - volume t s) (code_rates t s j k) in
    let last = mul-le-mul_right ((2 ^ t) ^ j) (code_rate t s (k + j)) in
    rw (add-suc, pow-suc, pow-suc) (omega arith)

-- What is uncovered is at most what the rate alone says.
pub code_guaranteed : (t s k : ℕ) → uncovered t s k ≤ guaranteed t s k
unfolding guaranteed Rate
code_guaranteed t s zero = le_of_eq (code_starts t s)
code_guaranteed t s (suc k) =
    (le-div_iff_mul-le (pow_pos t)).1 (le_trans (code_rate t s k) (mul-le-mul_right (2 ^ t - volume t s) (code_guaranteed t s k)))

-- Each word that joins covers a new one: at most as many join as are left.
pub code_goes_on : (t s k : ℕ) → length (code t s) ≤ k + uncovered t s k
code_goes_on t s k = go (dec_le (length (code t s)) k)
  where
    by : (j : ℕ) → k + j ≤ length (code t s) → uncovered t s (k + j) + j ≤ uncovered t s k
    by zero l = rw (add-zero, add-zero) (le_refl _)
    by (suc j) l =
        let rest = by j (omega arith) in
        let next = code_closes t s (k + j) (omega arith) in
        rw (add-suc k j) (omega arith)

    go : Dec (length (code t s) ≤ k) → length (code t s) ≤ k + uncovered t s k
    go (yes l) = omega arith
    go (no h) = omega (arith, by (length (code t s) - k) (omega arith))

-- Its size, by the rate alone: take any k.
pub code_by_rate : (t s k : ℕ) → length (code t s) ≤ k + guaranteed t s k
code_by_rate t s k = omega (arith, code_goes_on t s k, code_guaranteed t s k)

-- ---- halving

-- the first two terms of the binomial
two_terms : (d v q : ℕ) → d ^ suc q + suc q * v * d ^ q ≤ (d + v) ^ suc q
two_terms d v zero = rw (pow-suc, pow-suc, pow-zero, pow-zero) (omega arith)
two_terms d v (suc q) = let h = simp unary_clauses at (mul-le-mul_right (d + v) (two_terms d v q)) in simp unary_clauses (omega arith)

twice_power : (d v q : ℕ) → 1 ≤ q → d ≤ q * v → d ^ q * 2 ≤ (d + v) ^ q
twice_power d v zero l h = absurd (not-suc-le-zero l)
twice_power d v (suc q) l h =
    let terms = rw (pow-suc d q) at (two_terms d v q) in
    rw (pow-suc d q) (omega (arith, mul-le-mul_left (d ^ q) h))

-- m balls outside one hold as many words as are outside it: then m steps leave at most half
module _ (t s m : ℕ) (l : 1 ≤ m) (h : 2 ^ t ≤ suc m * volume t s) where
  halves : (k : ℕ) → uncovered t s (k + m) * 2 ≤ uncovered t s k
  halves k =
      let d : ℕ = 2 ^ t - volume t s in
      let back : d + volume t s ≡ 2 ^ t = sub-add_cancel (volume_most t s) in
      let twice : d ^ m * 2 ≤ (2 ^ t) ^ m = rw back at (twice_power d (volume t s) m l (omega arith)) in
      le_of_mul-le-mul_right {k = (2 ^ t) ^ m}
      (omega (arith, code_rates t s m k, mul-le-mul_left (uncovered t s k) twice))
      (one-le-pow m (2 ^ t) (pow_pos t))

  halved : (i : ℕ) → uncovered t s (i * m) * 2 ^ i ≤ 2 ^ t
  halved zero = rw (zero-mul, pow-zero) (omega (arith, code_starts t s))
  halved (suc i) = let more = mul-le-mul_right (2 ^ i) (halves (i * m)) in rw (suc-mul, pow-suc) (omega (arith, halved i))

  size_halved : length (code t s) ≤ t * m + 1
  size_halved =
      let one : uncovered t s (t * m) ≤ 1 = le_of_mul-le-mul_right {k = 2 ^ t} (omega (arith, halved t)) (pow_pos t) in
      omega (arith, code_goes_on t s (t * m))

-- floor(t, s) steps at least halve what is uncovered.
pub code_halves : (t s k : ℕ) → uncovered t s (k + floor t s) * 2 ≤ uncovered t s k
code_halves t s = halves t s (floor t s) (floor_pos t s) (rw suc-mul (omega (arith, floor_enough t s)))

-- ---- the size

-- One step less than floor(t, s) halves it too, where that is a step; and one ball that holds all words is enough.
pub code_sharp : (t s : ℕ) → length (code t s) ≤ sharp_words t s
unfolding sharp_words
code_sharp t s = go (floor t s) (floor_enough t s)
  where
    go : (q : ℕ) → 2 ^ t ≤ q * volume t s → length (code t s) ≤ t * (q - 1) + 1
    go zero h = absurd (omega (arith, pow_pos t))
    go (suc zero) h = omega (arith, code_goes_on t s 1, code_first t s)
    go (suc (suc m)) h = let less : suc (suc m) - 1 ≡ suc m = omega arith in rw less (size_halved t s (suc m) (omega arith) h)

-- The code has at most t × floor(t, s) + 1 words.
pub code_most : (t s : ℕ) → length (code t s) ≤ most_words t s
unfolding sharp_words most_words
code_most t s = let fewer : floor t s - 1 ≤ floor t s = omega arith in omega (arith, code_sharp t s, mul-le-mul_left t fewer)

-- a quotient that is rounded up, from a smaller one
rounded_up : (t n v q c : ℕ) → 1 ≤ t → 0 < v → q * v < n → c ≤ t * q + 1 → c ≤ (t * n + (v - 1)) / v
rounded_up t n v q c l pos below most =
    let rows = mul-le-mul_left t below in
    (le-div_iff_mul-le pos).1 (omega (arith, mul-le-mul_right v most))

-- Lemma 2 of source 000, for the greedy code: at most t × 2 ^ t / V(t, s) words, rounded up.
pub code_lemma_2 : (t s : ℕ) → 1 ≤ t → length (code t s) ≤ lemma_words t s
unfolding sharp_words lemma_words
code_lemma_2 t s l = rounded_up t (2 ^ t) (volume t s) _ _ l (volume_pos t s) (floor_less t s) (code_sharp t s)
