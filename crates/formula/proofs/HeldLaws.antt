-- Laws of the clauses that a table holds, by their numbers: a test that all pass, one that none passes, and the first that passes one.
use Rattle.std.specs.Prelude.{◌≡◌, ◌⊎◌, Bool, ◌&&◌, ◌||◌, List, map}
use Rattle.std.proofs.Math.Path.{refl, ap}
use Rattle.std.proofs.Common.{sym, ◌∙◌, inl, inr, true≢false, eq-or-lt_of_le}
use Rattle.std.proofs.Math.Bool.{true, false, cond}
use Prim.Native.Nat.{ℕ, zero, suc, ◌+◌, ◌≤◌, ◌<◌}
use native.Mathlib.Omega.{arith}
use Rattle.words.specs.Lists.{some, every, first, span}
use Rattle.words.proofs.ListLaws.{and_both}
use Rattle.formula.specs.Formula.{Clause}
use Rattle.formula.specs.Machine.{clause_at, held}

module _ {A : Type 0} (p : A → Bool) (f : ℕ → A) where
  every_run : (i n : ℕ) → ((j : ℕ) → i ≤ j → j < i + n → p (f j) ≡ true) → every p (map f (span i n)) ≡ true
  unfolding every span
  every_run i zero h = refl
  every_run i (suc n) h =
      and_both (p (f i)) _ (h i (omega arith) (omega arith)) (every_run (suc i) n (λ j l r. h j (omega arith) (omega arith)))

  every_fails : (i n r : ℕ) → i ≤ r → r < i + n → p (f r) ≡ false → every p (map f (span i n)) ≡ false
  unfolding every span
  every_fails i zero r l h e = absurd (omega arith)
  every_fails i (suc n) r l h e = go (p (f i)) refl (λ c. every_fails (suc i) n r c (omega arith) e) (eq-or-lt_of_le l)
    where
      go : (b : Bool) → p (f i) ≡ b → (i < r → every p (map f (span (suc i) n)) ≡ false) → (i ≡ r) ⊎ (i < r) →
          (b && every p (map f (span (suc i) n))) ≡ false
      go false q below c = refl
      go true q below (inl c) = absurd (true≢false (sym q ∙ ap (λ (x : ℕ). p (f x)) c ∙ e))
      go true q below (inr c) = below c

  some_run : (i n : ℕ) → ((j : ℕ) → i ≤ j → j < i + n → p (f j) ≡ false) → some p (map f (span i n)) ≡ false
  unfolding some span
  some_run i zero h = refl
  some_run i (suc n) h = rw (h i (omega arith) (omega arith)) (some_run (suc i) n (λ j l r. h j (omega arith) (omega arith)))

  some_at : (i n : ℕ) → some p (map f (span i n)) ≡ true → (j : ℕ) × (i ≤ j) × (j < i + n) × (p (f j) ≡ true)
  unfolding some span
  some_at i zero e = absurd (true≢false (sym e))
  some_at i (suc n) e = go (some_at (suc i) n) (p (f i)) refl e
    where
      go : (some p (map f (span (suc i) n)) ≡ true → (j : ℕ) × (suc i ≤ j) × (j < suc i + n) × (p (f j) ≡ true)) →
          (b : Bool) → p (f i) ≡ b → (b || some p (map f (span (suc i) n))) ≡ true →
          (j : ℕ) × (i ≤ j) × (j < i + suc n) × (p (f j) ≡ true)
      go later true q e' = (i, omega arith, omega arith, q)
      go later false q e' = let (j, l, h, here) = later e' in (j, omega arith, omega arith, here)

  first_run : (i n r : ℕ) (d : A) → i ≤ r → r < i + n → p (f r) ≡ true →
      ((j : ℕ) → i ≤ j → j < r → p (f j) ≡ false) → first p (map f (span i n)) d ≡ f r
  unfolding first span
  first_run i zero r d l h e b = absurd (omega arith)
  first_run i (suc n) r d l h e b =
      go (λ c. first_run (suc i) n r d c (omega arith) e (λ j x y. b j (omega arith) y)) (eq-or-lt_of_le l)
    where
      go : (i < r → first p (map f (span (suc i) n)) d ≡ f r) → (i ≡ r) ⊎ (i < r) →
          cond (p (f i)) (f i) (first p (map f (span (suc i) n)) d) ≡ f r
      go below (inl c) = let q : p (f i) ≡ true = ap (λ (x : ℕ). p (f x)) c ∙ e in rw q (ap f c)
      go below (inr c) = rw (b i (omega arith) c) (below c)

module _ (k : ℕ) (cells : List ℕ) (p : Clause → Bool) where
  pub held_every : ((i : ℕ) → i < k → p (clause_at cells i) ≡ true) → every p (held k cells) ≡ true
  unfolding held
  held_every h = every_run p (clause_at cells) 0 k (λ i l r. h i (omega arith))

  pub held_fails : (r : ℕ) → r < k → p (clause_at cells r) ≡ false → every p (held k cells) ≡ false
  unfolding held
  held_fails r l = every_fails p (clause_at cells) 0 k r (omega arith) (omega arith)

  pub held_none : ((i : ℕ) → i < k → p (clause_at cells i) ≡ false) → some p (held k cells) ≡ false
  unfolding held
  held_none h = some_run p (clause_at cells) 0 k (λ i l r. h i (omega arith))

  pub held_some : some p (held k cells) ≡ true → (i : ℕ) × (i < k) × (p (clause_at cells i) ≡ true)
  unfolding held
  held_some e = let (i, l, h, here) = some_at p (clause_at cells) 0 k e in (i, omega arith, here)

  pub held_first : (r : ℕ) (d : Clause) → r < k → p (clause_at cells r) ≡ true →
      ((i : ℕ) → i < r → p (clause_at cells i) ≡ false) → first p (held k cells) d ≡ clause_at cells r
  unfolding held
  held_first r d l here before = first_run p (clause_at cells) 0 k r d (omega arith) (omega arith) here (λ i z u. before i u)
