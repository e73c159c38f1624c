-- The laws of the volume, for all t and s: the recurrence, the whole space, and the balls' sizes.
use Rattle.std.specs.Prelude.{◌≡◌, refl, ◌++◌, ℕ, zero, suc, ◌+◌, ◌*◌, ◌/◌, ◌%◌, ◌^◌, ◌≤◌, ◌<◌, leb, length}
use Rattle.std.proofs.Common.{sym, ap, ap₂, ◌∙◌, zero-le, le_of_eq, le_trans, add_comm, div-lt_iff_lt-mul, add-zero, zero-add, div-add-mod', mod-lt, le_of_suc-le-suc, not-suc-le-zero, zero-mul, one-mul, one-add, arith, leb-true, le-leb, length-append, pow_pos}
use Rattle.std.proofs.Math.Nat.{pow-succ', two-pow-succ}
use Rattle.std.proofs.Math.Dec.{leb-zero, leb-suc-suc, leb-suc-zero}
use Rattle.std.specs.Int.Count.{ones}
use Rattle.words.specs.Lists.{keep, span}
use Rattle.words.proofs.ListLaws.{length_keep, length_span}
use Rattle.words.specs.Bits.{distance}
use Rattle.words.proofs.BitLaws.{distance_blocks}
use Rattle.code.specs.Code.{words_of, near, ball}
use Rattle.code.specs.Volume.{choose, volume}
use Rattle.code.specs.Covering.{Within}
use Rattle.code.proofs.KeepLaws.{words_within, keep_more, keep_same, keep_none, keep_append, keep_shift, span_append}

choose_zero : (t : ℕ) → choose t 0 ≡ 1
unfolding choose
choose_zero zero = refl
choose_zero (suc t) = refl

pub volume_zero : (t : ℕ) → volume t 0 ≡ 1
unfolding volume
volume_zero t = choose_zero t

-- V(t + 1, s + 1) = V(t, s + 1) + V(t, s).
pub volume_step : (t s : ℕ) → volume (suc t) (suc s) ≡ volume t (suc s) + volume t s
unfolding volume choose
volume_step t zero = omega (arith, choose_zero t)
volume_step t (suc s) = rw (volume_step t s) (omega arith)

-- A ball of radius t or more is the whole space.
pub volume_full : (t s : ℕ) → t ≤ s → volume t s ≡ 2 ^ t
unfolding volume choose
volume_full zero zero h = refl
volume_full zero (suc s) h = rw (volume_full zero s (omega arith))
volume_full (suc t) zero h = absurd (not-suc-le-zero h)
volume_full (suc t) (suc s) h =
    rw (two-pow-succ, volume_step) (ap₂ ◌+◌ (volume_full t (suc s) (omega arith)) (volume_full t s (le_of_suc-le-suc h)))

-- ---- balls

-- the words of length t + 1 are those of length t, without and with the bit t
words_suc : (t : ℕ) → span 0 (2 ^ suc t) ≡ span 0 (2 ^ t) ++ span (2 ^ t + 0) (2 ^ t)
words_suc t = rw (two-pow-succ, add-zero, span_append, zero-add) refl

-- how many words of length t, at e more, are within s of r
around : ℕ → ℕ → ℕ → ℕ → ℕ
around t r e s = length (keep (λ x. leb (e + distance r x) s) (words_of t))

-- the distance of two words, by their bits from t up and below t
apart : (t a b r x : ℕ) {y : ℕ} → r < 2 ^ t → x < 2 ^ t → b * 2 ^ t + x ≡ y →
    distance (a * 2 ^ t + r) y ≡ distance a b + distance r x
apart t a b r x h l e = rw (← e) (distance_blocks t a b r x h l)

-- the ball around a word of length t + 1, by the words' bit t
halves : (t s a r : ℕ) → r < 2 ^ t →
    length (ball (suc t) s (a * 2 ^ t + r)) ≡ around t r (distance a 0) s + around t r (distance a 1) s
unfolding ball around near words_of Within
halves t s a r h =
    rw (words_suc, keep_append, length-append, keep_shift) (ap₂ ◌+◌ (half 0 (λ x. rw (zero-mul, zero-add))) (half 1 (λ x. rw one-mul)))
  where
    half : (b : ℕ) {f : ℕ → ℕ} → ((x : ℕ) → b * 2 ^ t + x ≡ f x) →
        length (keep (λ x. near s (a * 2 ^ t + r) (f x)) (words_of t)) ≡ around t r (distance a b) s
    half b e =
        ap length (keep_same _ _ (words_of t) (λ x i. ap (λ (d : ℕ). leb d s) (apart t a b r x h (words_within t x i) (e x))))

-- a word whose bit t agrees is as near as its other bits are, and one whose bit t differs is one further away
agreeing : (t r s : ℕ) → around t r 0 s ≡ length (ball t s r)
unfolding around ball near
agreeing t r s = ap length (keep_same _ _ (words_of t) (λ x i. ap (λ (d : ℕ). leb d s) (zero-add (distance r x))))

differing : (t r s : ℕ) → around t r 1 (suc s) ≡ length (ball t s r)
unfolding around ball near
differing t r s = ap length (keep_same _ _ (words_of t) (λ x i. rw (one-add, leb-suc-suc)))

differing_zero : (t r : ℕ) → around t r 1 0 ≡ 0
unfolding around
differing_zero t r = ap length (keep_none _ (words_of t) (λ x i. rw (one-add, leb-suc-zero)))

both : (t r : ℕ) → ((n : ℕ) → length (ball t n r) ≡ volume t n) → (s : ℕ) →
    around t r 0 s + around t r 1 s ≡ volume (suc t) s
both t r below zero = rw (agreeing, differing_zero, below, volume_zero, volume_zero)
both t r below (suc s) = rw (agreeing, differing, below (suc s), below s) (sym (volume_step t s))

empty_word : (s : ℕ) → length (ball 0 s 0) ≡ volume 0 s
unfolding ball near words_of keep span distance ones
empty_word s = rw (leb-zero s) (sym (volume_full 0 s zero-le))

-- The ball around any word of length t holds exactly V(t, s) words.
pub ball_size : (t s w : ℕ) → w < 2 ^ t → length (ball t s w) ≡ volume t s
unfolding distance ones
ball_size zero s w h = let e : w ≡ 0 = omega arith in rw e (empty_word s)
ball_size (suc t) s w h =
    rw (← div-add-mod' w (2 ^ t), halves t s (w / 2 ^ t) (w % 2 ^ t) low)
    (go (w / 2 ^ t) high (both t (w % 2 ^ t) (λ n. ball_size t n (w % 2 ^ t) low) s))
  where
    low : w % 2 ^ t < 2 ^ t
    low = mod-lt w (pow_pos t)

    high : w / 2 ^ t < 2
    high = (div-lt_iff_lt-mul (pow_pos t)).1 (rw pow-succ' at h)

    go : (a : ℕ) → a < 2 → around t (w % 2 ^ t) 0 s + around t (w % 2 ^ t) 1 s ≡ volume (suc t) s →
        around t (w % 2 ^ t) (distance a 0) s + around t (w % 2 ^ t) (distance a 1) s ≡ volume (suc t) s
    go zero l e = e
    go (suc zero) l e = add_comm _ _ ∙ e
    go (suc (suc a)) l e = absurd (omega arith)

-- The ball around any number, of whatever length, holds no more.
pub ball_most : (t s w : ℕ) → length (ball t s w) ≤ volume t s
unfolding ball near Within
ball_most t s w =
    rw (← ball_size t s (w % 2 ^ t) low)
    (keep_more _ _ (words_of t) (λ x i e. le-leb _ _ (le_trans (closer x (words_within t x i)) (leb-true _ _ e))))
  where
    low : w % 2 ^ t < 2 ^ t
    low = mod-lt w (pow_pos t)

    closer : (x : ℕ) → x < 2 ^ t → distance (w % 2 ^ t) x ≤ distance w x
    closer x l =
        let e : distance w x ≡ distance (w / 2 ^ t) 0 + distance (w % 2 ^ t) x =
        rw div-add-mod' at (apart t (w / 2 ^ t) 0 (w % 2 ^ t) x {y = x} low l (rw (zero-mul, zero-add))) in
        omega arith

pub volume_pos : (t s : ℕ) → 0 < volume t s
unfolding volume
volume_pos t zero = rw choose_zero (omega arith)
volume_pos t (suc s) = let h = volume_pos t s in omega arith

pub volume_most : (t s : ℕ) → volume t s ≤ 2 ^ t
unfolding ball words_of
volume_most t s =
    le_trans (le_of_eq (sym (ball_size t s 0 (pow_pos t))))
    (le_trans (length_keep (near s 0) (words_of t)) (le_of_eq (length_span 0 (2 ^ t))))
