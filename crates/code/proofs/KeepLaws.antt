-- Laws of keep, the elements of a list that pass a test, and of its length; of runs of numbers, and of sums over a list.
use Rattle.std.specs.Prelude.{◌≡◌, Bool, ◌&&◌}
use Rattle.std.proofs.Math.Path.{refl, sym, ap}
use Rattle.std.proofs.Common.{◌∙◌, zero-add, add-zero, suc-add, add-suc, add-le-add, zero-mul, suc-mul}
use Rattle.std.proofs.Math.Bool.{true, false, cond, not, and_comm}
use Rattle.std.proofs.lemmas.Bool.{false≢true}
use mathlib.Core.List.Memᴰ
use mathlib.Core.List.{List, [], ◌∷◌, ◌++◌}
use Prim.Native.Nat.{ℕ, zero, suc, ◌+◌, ◌*◌, ◌^◌, ◌≤◌, ◌<◌, zero-le, suc-le-suc}
use Rattle.std.proofs.Math.Nat.{mul-zero}
use native.Mathlib.Omega.{arith}
use Rattle.std.proofs.Math.ListN.{length}
use Rattle.words.specs.Lists.{keep, count, span, In}
use Rattle.words.proofs.ListLaws.{length_keep, span_in}
use Rattle.code.specs.Covering.{Within}
use Rattle.code.specs.Code.{words_of}

module _ {A : Type 0} where
  pub length_in : {x : A} {xs : List A} → In x xs → 0 < length xs
  length_in (Memᴰ.head e) = suc-le-suc zero-le
  length_in (Memᴰ.tail i) = suc-le-suc zero-le

  pub keep_all : (p : A → Bool) (xs : List A) → ((x : A) → In x xs → p x ≡ true) → keep p xs ≡ xs
  unfolding keep
  keep_all p [] h = refl
  keep_all p (x ∷ xs) h = rw (h x (Memᴰ.head refl), keep_all p xs (λ y i. h y (Memᴰ.tail i)))

  pub keep_none : (p : A → Bool) (xs : List A) → ((x : A) → In x xs → p x ≡ false) → keep p xs ≡ []
  unfolding keep
  keep_none p [] h = refl
  keep_none p (x ∷ xs) h = rw (h x (Memᴰ.head refl), keep_none p xs (λ y i. h y (Memᴰ.tail i)))

  pub keep_same : (p q : A → Bool) (xs : List A) → ((x : A) → In x xs → p x ≡ q x) → keep p xs ≡ keep q xs
  unfolding keep
  keep_same p q [] h = refl
  keep_same p q (x ∷ xs) h = rw (h x (Memᴰ.head refl), keep_same p q xs (λ y i. h y (Memᴰ.tail i)))

  pub keep_append : (p : A → Bool) (xs ys : List A) → keep p (xs ++ ys) ≡ keep p xs ++ keep p ys
  unfolding keep
  keep_append p [] ys = refl
  keep_append p (x ∷ xs) ys = rw (keep_append p xs ys) (go (p x))
    where
      go : (b : Bool) →
          cond b (x ∷ (keep p xs ++ keep p ys)) (keep p xs ++ keep p ys) ≡ cond b (x ∷ keep p xs) (keep p xs) ++ keep p ys
      go true = refl
      go false = refl

  pub keep_keep : (p q : A → Bool) (xs : List A) → keep p (keep q xs) ≡ keep (λ x. q x && p x) xs
  unfolding keep
  keep_keep p q [] = refl
  keep_keep p q (x ∷ xs) = go (q x) (keep_keep p q xs)
    where
      go : (b : Bool) → keep p (keep q xs) ≡ keep (λ y. q y && p y) xs →
          keep p (cond b (x ∷ keep q xs) (keep q xs)) ≡ cond (b && p x) (x ∷ keep (λ y. q y && p y) xs) (keep (λ y. q y && p y) xs)
      go true h = rw h
      go false h = h

  -- what passes and what does not make up the list
  pub keep_split : (p : A → Bool) (xs : List A) → length (keep p xs) + length (keep (λ x. not (p x)) xs) ≡ length xs
  unfolding keep
  keep_split p [] = refl
  keep_split p (x ∷ xs) = go (p x) (keep_split p xs)
    where
      go : (b : Bool) → length (keep p xs) + length (keep (λ y. not (p y)) xs) ≡ length xs →
          length (cond b (x ∷ keep p xs) (keep p xs))
          + length (cond (not b) (x ∷ keep (λ y. not (p y)) xs) (keep (λ y. not (p y)) xs))
          ≡ suc (length xs)
      go true h = omega arith
      go false h = omega arith

  -- a part of a list has no more that pass
  pub keep_less : (p q : A → Bool) (xs : List A) → length (keep p (keep q xs)) ≤ length (keep p xs)
  keep_less p q xs =
      let other_way = keep_same (λ x. q x && p x) (λ x. p x && q x) xs (λ x i. and_comm (q x) (p x)) in
      rw (keep_keep p q xs, other_way, ← keep_keep q p xs) (length_keep q (keep p xs))

  -- a weaker test passes no fewer
  pub keep_more : (p q : A → Bool) (xs : List A) → ((x : A) → In x xs → p x ≡ true → q x ≡ true) →
      length (keep p xs) ≤ length (keep q xs)
  unfolding keep
  keep_more p q [] h = zero-le
  keep_more p q (x ∷ xs) h = go (p x) (q x) (h x (Memᴰ.head refl)) (keep_more p q xs (λ y i. h y (Memᴰ.tail i)))
    where
      go : (a b : Bool) → (a ≡ true → b ≡ true) → length (keep p xs) ≤ length (keep q xs) →
          length (cond a (x ∷ keep p xs) (keep p xs)) ≤ length (cond b (x ∷ keep q xs) (keep q xs))
      go true true i h' = omega arith
      go true false i h' = absurd (false≢true (i refl))
      go false true i h' = omega arith
      go false false i h' = h'

-- ---- runs of numbers

pub span_append : (i m n : ℕ) → span i (m + n) ≡ span i m ++ span (i + m) n
unfolding span
span_append i zero n = rw (zero-add, add-zero)
span_append i (suc m) n = rw (suc-add, add-suc, ← suc-add i m) (ap (λ (l : List ℕ). i ∷ l) (span_append (suc i) m n))

-- the words of length t are the numbers below 2 ^ t
pub words_within : (t : ℕ) → Within t (words_of t)
unfolding Within words_of
words_within t x i = let l = span_in 0 (2 ^ t) x i in omega arith

-- a run that starts a later passes a test as the run itself passes the shifted test
pub keep_shift : (p : ℕ → Bool) (a i n : ℕ) → length (keep p (span (a + i) n)) ≡ length (keep (λ x. p (a + x)) (span i n))
unfolding keep span
keep_shift p a i zero = refl
keep_shift p a i (suc n) = go (p (a + i)) (rw (← add-suc a i) (keep_shift p a (suc i) n))
  where
    go : (b : Bool) → length (keep p (span (suc (a + i)) n)) ≡ length (keep (λ x. p (a + x)) (span (suc i) n)) →
        length (cond b ((a + i) ∷ keep p (span (suc (a + i)) n)) (keep p (span (suc (a + i)) n)))
        ≡ length (cond b (i ∷ keep (λ x. p (a + x)) (span (suc i) n)) (keep (λ x. p (a + x)) (span (suc i) n)))
    go true h = ap suc h
    go false h = h

-- ---- sums over a list

-- the sum of f over the elements
pub total : (ℕ → ℕ) → List ℕ → ℕ
total f [] = 0
total f (x ∷ xs) = f x + total f xs

pub total_le : (f g : ℕ → ℕ) (xs : List ℕ) → ((x : ℕ) → In x xs → f x ≤ g x) → total f xs ≤ total g xs
unfolding total
total_le f g [] h = zero-le
total_le f g (x ∷ xs) h = add-le-add (h x (Memᴰ.head refl)) (total_le f g xs (λ y i. h y (Memᴰ.tail i)))

pub total_same : (n : ℕ) (xs : List ℕ) → total (λ x. n) xs ≡ length xs * n
unfolding total
total_same n [] = sym (zero-mul n)
total_same n (x ∷ xs) = rw suc-mul (omega (arith, total_same n xs))

module _ (p : ℕ → ℕ → Bool) where
  total_cons : (x : ℕ) (xs ys : List ℕ) →
      total (λ y. count (λ z. p z y) (x ∷ xs)) ys ≡ count (p x) ys + total (λ y. count (λ z. p z y) xs) ys
  unfolding total count keep
  total_cons x xs [] = refl
  total_cons x xs (y ∷ ys) = go (p x y) (total_cons x xs ys)
    where
      go : (b : Bool) →
          total (λ y'. count (λ z. p z y') (x ∷ xs)) ys ≡ count (p x) ys + total (λ y'. count (λ z. p z y') xs) ys →
          length (cond b (x ∷ keep (λ z. p z y) xs) (keep (λ z. p z y) xs)) + total (λ y'. count (λ z. p z y') (x ∷ xs)) ys
          ≡ length (cond b (y ∷ keep (p x) ys) (keep (p x) ys)) + (count (λ z. p z y) xs + total (λ y'. count (λ z. p z y') xs) ys)
      go true h = omega arith
      go false h = omega arith

  -- The pairs that pass, counted from either side.
  pub total_swap : (xs ys : List ℕ) → total (λ x. count (p x) ys) xs ≡ total (λ y. count (λ x. p x y) xs) ys
  unfolding total count keep
  total_swap [] ys = sym (total_same 0 ys ∙ mul-zero _)
  total_swap (x ∷ xs) ys = ap (λ (n : ℕ). count (p x) ys + n) (total_swap xs ys) ∙ sym (total_cons x xs ys)
