-- Laws of `count`: how many elements of a list pass a test.
use Rattle.std.specs.Prelude.{◌≡◌, Bool, cond, ◌&&◌, ◌||◌, ℕ, zero, suc, ◌+◌, ◌≤◌, eqb}
use Rattle.std.proofs.Math.Path.{refl, sym, ap}
use Rattle.std.proofs.Common.{◌∙◌, pos_of_ne-zero, eqb-true}
use Rattle.std.proofs.Math.Bool.{true, false, not}
use mathlib.Core.List.Memᴰ
use mathlib.Core.List.{List, [], ◌∷◌}
use native.Mathlib.Omega.{arith}
use Rattle.std.proofs.Math.Dec.{eqb-suc-zero}
use Rattle.std.proofs.Math.ListN.{length}
use Rattle.std.proofs.lemmas.Bool.{eqb-false, not-true, not-false}
use Rattle.words.specs.Lists.{In, some, every, keep, count}
use Rattle.words.proofs.ListLaws.{length_keep}
use Rattle.words.proofs.BitLaws.{digit}

pub digit_not : (b : Bool) → digit (not b) + digit b ≡ 1
digit_not true = refl
digit_not false = refl

module _ {A : Type 0} where
  pub count_cons : (p : A → Bool) (x : A) (xs : List A) → count p (x ∷ xs) ≡ digit (p x) + count p xs
  unfolding count keep
  count_cons p x xs = go (p x)
    where
      go : (b : Bool) → length (cond b (x ∷ keep p xs) (keep p xs)) ≡ digit b + length (keep p xs)
      go true = omega arith
      go false = omega arith

  pub count_le : (p : A → Bool) (xs : List A) → count p xs ≤ length xs
  unfolding count
  count_le p xs = length_keep p xs

  -- what holds of each element holds of the sums
  pub count_moves : (p q u d : A → Bool) (xs : List A) →
      ((x : A) → In x xs → digit (q x) + digit (d x) ≡ digit (p x) + digit (u x)) →
      count q xs + count d xs ≡ count p xs + count u xs
  unfolding count keep
  count_moves p q u d [] h = refl
  count_moves p q u d (x ∷ xs) h =
      let below = count_moves p q u d xs (λ y i. h y (Memᴰ.tail i)) in
      omega (arith, h x (Memᴰ.head refl), count_cons p x xs, count_cons q x xs, count_cons u x xs, count_cons d x xs)

  pub count_none : (xs : List A) → count (λ x. false) xs ≡ 0
  unfolding count keep
  count_none [] = refl
  count_none (x ∷ xs) = count_none xs

  pub count_adds : (p q u : A → Bool) (xs : List A) → ((x : A) → In x xs → digit (q x) ≡ digit (p x) + digit (u x)) →
      count q xs ≡ count p xs + count u xs
  count_adds p q u xs h = omega (arith, count_none xs, count_moves p q u (λ x. false) xs (λ x i. omega (arith, h x i)))

  pub count_same : (p q : A → Bool) (xs : List A) → ((x : A) → In x xs → p x ≡ q x) → count p xs ≡ count q xs
  count_same p q xs h = omega (arith, count_none xs, count_adds q p (λ x. false) xs (λ x i. omega (arith, ap digit (h x i))))

  pub some_count : (p : A → Bool) (xs : List A) → some p xs ≡ not (eqb (count p xs) 0)
  unfolding some count keep
  some_count p [] = refl
  some_count p (x ∷ xs) = go (some_count p xs) (p x)
    where
      go : some p xs ≡ not (eqb (length (keep p xs)) 0) → (b : Bool) →
          (b || some p xs) ≡ not (eqb (length (cond b (x ∷ keep p xs) (keep p xs))) 0)
      go below true = rw (eqb-suc-zero (length (keep p xs)))
      go below false = below

  pub every_count : (p : A → Bool) (xs : List A) → every p xs ≡ eqb (count (λ x. not (p x)) xs) 0
  unfolding every count keep
  every_count p [] = refl
  every_count p (x ∷ xs) = go (every_count p xs) (p x)
    where
      others : List A
      others = keep (λ y. not (p y)) xs

      go : every p xs ≡ eqb (length others) 0 → (b : Bool) → (b && every p xs) ≡ eqb (length (cond (not b) (x ∷ others) others)) 0
      go below true = below
      go below false = sym (eqb-suc-zero (length others))

  pub some_same : (p q : A → Bool) (xs : List A) → ((x : A) → In x xs → p x ≡ q x) → some p xs ≡ some q xs
  some_same p q xs h =
      some_count p xs ∙ ap (λ (t : ℕ). not (eqb t 0)) (count_same p q xs h) ∙ sym (some_count q xs)

  -- where at most one element passes, whether one does is how many do
  pub some_digit : (p : A → Bool) (xs : List A) → count p xs ≤ 1 → digit (some p xs) ≡ count p xs
  some_digit p xs h = ap digit (some_count p xs) ∙ go (count p xs) h
    where
      go : (t : ℕ) → t ≤ 1 → digit (not (eqb t 0)) ≡ t
      go zero l = refl
      go (suc zero) l = refl
      go (suc (suc t)) l = absurd (omega arith)

  -- a test that some element passes, and one that none passes
  pub count_some : (p : A → Bool) (xs : List A) → some p xs ≡ true → 1 ≤ count p xs
  count_some p xs e = pos_of_ne-zero (eqb-false _ 0 (not-true _ (sym (some_count p xs) ∙ e)))

  pub count_zero : (p : A → Bool) (xs : List A) → some p xs ≡ false → count p xs ≡ 0
  count_zero p xs e = eqb-true _ 0 (not-false _ (sym (some_count p xs) ∙ e))

  -- the elements that pass one test and then another
  pub count_keep : (p q : A → Bool) (xs : List A) → count q (keep p xs) ≡ count (λ x. p x && q x) xs
  unfolding count keep
  count_keep p q [] = refl
  count_keep p q (x ∷ xs) =
      go (p x)
      ∙ ap (λ (n : ℕ). digit (p x && q x) + n) (count_keep p q xs)
      ∙ sym (count_cons (λ y. p y && q y) x xs)
    where
      go : (b : Bool) → count q (cond b (x ∷ keep p xs) (keep p xs)) ≡ digit (b && q x) + count q (keep p xs)
      go true = count_cons q x (keep p xs)
      go false = omega arith
