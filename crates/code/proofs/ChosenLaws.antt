-- The word that joins the code next: it has length t and covers a new word.
use Rattle.std.specs.Prelude.{◌≡◌, ◌⊎◌, Bool, List, length}
use Rattle.std.proofs.Math.Path.{refl}
use Rattle.std.proofs.Common.{ap, inl, inr, le_refl, lt_of_lt_of_le, le_of_suc-le-suc, not-suc-le-zero, eq-or-lt_of_le, arith, ltb-true, ltb-false, leb-true, leb-false, pow_pos}
use Rattle.std.proofs.Math.Bool.{true, false, cond}
use Prim.Native.Nat.{ℕ, zero, suc, ◌^◌, ◌≤◌, ◌<◌, zero-le, suc-le-suc}
use Rattle.std.proofs.Math.Nat.{le_step, le_of_eq, le_of_lt, lt_of_le_of_lt}
use Rattle.std.proofs.Math.Dec.{leb-zero}
use Rattle.words.specs.Lists.{keep, In}
use Rattle.words.proofs.ListLaws.{keep_in, in_keep}
use Rattle.words.proofs.BitLaws.{distance_self}
use Rattle.code.specs.Covering.{Within}
use Rattle.code.specs.Code.{near, gain, beats, best, chosen, without}
use Rattle.code.proofs.KeepLaws.{length_in, keep_split}

-- ---- the best number

pub beats_true : (a b : ℕ) → beats a b ≡ true → b < a
unfolding beats
beats_true a b e = omega (arith, ltb-true, leb-true)

pub beats_false : (a b : ℕ) → beats a b ≡ false → a ≤ b
unfolding beats
beats_false a b e = omega (arith, ltb-false, leb-false)

module _ (f : ℕ → ℕ) where
  last_or : (b : Bool) (n m : ℕ) → m ≤ n → cond b n m ≤ n
  last_or true n m h = le_refl n
  last_or false n m h = h

  pub best_le : (n : ℕ) → best f n ≤ n
  unfolding best
  best_le zero = zero-le
  best_le (suc n) = le_step (last_or (beats (f n) (f (best f n))) n (best f n) (best_le n))

  pub best_lt : (n : ℕ) → 0 < n → best f n < n
  unfolding best
  best_lt zero l = absurd (not-suc-le-zero l)
  best_lt (suc n) l = suc-le-suc (last_or (beats (f n) (f (best f n))) n (best f n) (best_le n))

  -- nothing has a larger f
  pub best_most : (n v : ℕ) → v < n → f v ≤ f (best f n)
  unfolding best
  best_most zero v l = absurd (not-suc-le-zero l)
  best_most (suc n) v l = go (beats (f n) (f (best f n))) refl (eq-or-lt_of_le (le_of_suc-le-suc l)) (best_most n v)
    where
      go : (b : Bool) → beats (f n) (f (best f n)) ≡ b → (v ≡ n) ⊎ (v < n) → (v < n → f v ≤ f (best f n)) →
          f v ≤ f (cond b n (best f n))
      go true e (inl i) h = le_of_eq (ap f i)
      go true e (inr i) h = le_of_lt (lt_of_le_of_lt (h i) (beats_true (f n) (f (best f n)) e))
      go false e (inl i) h = rw i (beats_false _ _ e)
      go false e (inr i) h = h i

  -- on a tie it is the smallest: what is smaller has a smaller f
  pub best_first : (n v : ℕ) → v < best f n → f v < f (best f n)
  unfolding best
  best_first zero v l = absurd (not-suc-le-zero l)
  best_first (suc n) v l = go (beats (f n) (f (best f n))) refl l (best_first n v)
    where
      go : (b : Bool) → beats (f n) (f (best f n)) ≡ b → v < cond b n (best f n) →
          (v < best f n → f v < f (best f n)) → f v < f (cond b n (best f n))
      go true e l' below = lt_of_le_of_lt (best_most n v l') (beats_true (f n) (f (best f n)) e)
      go false e l' below = below l'

-- ---- one step

-- a word is in its own ball
near_self : (s w : ℕ) → near s w w ≡ true
unfolding near
near_self s w = rw (distance_self w) (leb-zero s)

pub chosen_lt : (t s : ℕ) (left : List ℕ) → chosen t s left < 2 ^ t
unfolding chosen
chosen_lt t s left = best_lt _ (2 ^ t) (pow_pos t)

-- a word that joins while x is not yet covered holds one such word at least
pub chosen_gains : (t s : ℕ) (left : List ℕ) → Within t left → (x : ℕ) → In x left → 0 < gain s left (chosen t s left)
unfolding chosen gain Within
chosen_gains t s left h x i =
    lt_of_lt_of_le (length_in (in_keep (near s x) left x i (near_self s x))) (best_most (gain s left) (2 ^ t) x (h x i))

pub without_less : (t s : ℕ) (left : List ℕ) → Within t left → (x : ℕ) → In x left →
    length (without s (chosen t s left) left) < length left
unfolding without gain
without_less t s left h x i =
    let g : 0 < length (keep (near s (chosen t s left)) left) = chosen_gains t s left h x i in
    omega (arith, keep_split (near s (chosen t s left)) left)

pub without_within : (t s w : ℕ) (left : List ℕ) → Within t left → Within t (without s w left)
unfolding Within without
without_within t s w left h x i = h x (keep_in _ left x i).0
