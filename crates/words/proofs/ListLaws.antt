-- The laws of tests over lists: what each test says of the members, and what it comes to element by element.
use Rattle.std.specs.Prelude.{◌≡◌, ◌⊎◌, Bool, ◌&&◌, ◌||◌, get_or, drop}
use Rattle.std.proofs.Math.Path.{refl, sym, ap}
use Rattle.std.proofs.Common.{◌∙◌, inl, inr, true≢false, eq-or-lt_of_le, suc-add, add-zero, add-suc, add-one, arith}
use Rattle.std.proofs.Math.Logic.{⊎_elim}
use Rattle.std.proofs.Math.Bool.{true, false, cond, not, or-false, or_assoc}
use Rattle.std.specs.Bool.{beq}
use Rattle.std.proofs.lemmas.Bool.{false≢true}
use mathlib.Core.List.Memᴰ
use mathlib.Core.List.{List, [], ◌∷◌, ◌++◌}
use Prim.Native.Nat.{ℕ, zero, suc, ◌+◌, ◌≤◌, ◌<◌, zero-le, suc-le-suc}
use Rattle.std.proofs.Math.Nat.{le_step}
use Rattle.std.proofs.Math.ListN.{length}
use Rattle.words.specs.Lists.{some, every, keep, first, In, span}

-- ---- tests

-- a conjunction taken apart, and a disjunction
pub and_left : (a b : Bool) → (a && b) ≡ true → a ≡ true
and_left true b e = refl
and_left false b e = e

pub and_right : (a b : Bool) → (a && b) ≡ true → b ≡ true
and_right true b e = e
and_right false b e = absurd (false≢true e)

pub and_both : (a b : Bool) → a ≡ true → b ≡ true → (a && b) ≡ true
and_both a b p q = rw (p, q)

pub or_cases : (a b : Bool) → (a || b) ≡ true → (a ≡ true) ⊎ (b ≡ true)
or_cases true b e = inl refl
or_cases false b e = inr e

pub or_left : (a b : Bool) → a ≡ true → (a || b) ≡ true
or_left a b e = rw e

pub or_right : (a b : Bool) → b ≡ true → (a || b) ≡ true
or_right true b e = refl
or_right false b e = e

-- a test that is not passed fails
pub refute : (b : Bool) → (b ≡ true → ⊥) → b ≡ false
refute true h = absurd (h refl)
refute false h = refl

-- two constructors are never the same: from that `cc` proves 0 ≡ 1, and from this anything follows
pub apart : {X : Type 0} → ◌≡◌ {A = ℕ} 0 1 → X
apart z = absurd (omega arith)

-- two tests agree where each holds if the other does
pub both_ways : (a b : Bool) → (a ≡ true → b ≡ true) → (b ≡ true → a ≡ true) → a ≡ b
both_ways true b h g = sym (h refl)
both_ways false true h g = g refl
both_ways false false h g = refl

-- two truth values are equal where the test says so
pub beq_true : (a b : Bool) → beq a b ≡ true → a ≡ b
beq_true true true e = refl
beq_true true false e = absurd (false≢true e)
beq_true false true e = absurd (false≢true e)
beq_true false false e = refl

-- ---- lists

module _ {A : Type 0} where
  pub every_in : (p : A → Bool) (xs : List A) → every p xs ≡ true → (x : A) → In x xs → p x ≡ true
  unfolding every
  every_in p [] e x i = absurd (Memᴰ.not-nil i)
  every_in p (y ∷ ys) e x i =
      ⊎_elim
      (λ h. ap p h ∙ and_left (p y) (every p ys) e)
      (λ h. every_in p ys (and_right (p y) (every p ys) e) x h)
      (Memᴰ.cases_cons i)

  pub in_every : (p : A → Bool) (xs : List A) → ((x : A) → In x xs → p x ≡ true) → every p xs ≡ true
  unfolding every
  in_every p [] h = refl
  in_every p (y ∷ ys) h = and_both (p y) (every p ys) (h y (Memᴰ.head refl)) (in_every p ys (λ x i. h x (Memᴰ.tail i)))

  pub some_in : (p : A → Bool) (xs : List A) → some p xs ≡ true → (x : A) × In x xs × (p x ≡ true)
  unfolding some
  some_in p [] e = absurd (false≢true e)
  some_in p (y ∷ ys) e =
      ⊎_elim
      (λ h. (y, Memᴰ.head refl, h))
      (λ h. let (x, i, q) = some_in p ys h in (x, Memᴰ.tail i, q))
      (or_cases (p y) (some p ys) e)

  pub in_some : (p : A → Bool) (xs : List A) (x : A) → In x xs → p x ≡ true → some p xs ≡ true
  unfolding some
  in_some p [] x i q = absurd (Memᴰ.not-nil i)
  in_some p (y ∷ ys) x i q =
      ⊎_elim
      (λ h. or_left (p y) (some p ys) (sym (ap p h) ∙ q))
      (λ h. or_right (p y) (some p ys) (in_some p ys x h q))
      (Memᴰ.cases_cons i)

  -- not every element passes where some element fails
  pub not_every : (p : A → Bool) (xs : List A) → not (every p xs) ≡ some (λ x. not (p x)) xs
  unfolding every some
  not_every p [] = refl
  not_every p (x ∷ xs) = go (p x) (not_every p xs)
    where
      go : (b : Bool) → not (every p xs) ≡ some (λ y. not (p y)) xs → not (b && every p xs) ≡ (not b || some (λ y. not (p y)) xs)
      go true below = below
      go false below = refl

  pub some_fails : (p : A → Bool) (xs : List A) → every p xs ≡ false → some (λ x. not (p x)) xs ≡ true
  some_fails p xs e = sym (not_every p xs) ∙ ap not e

  -- some element passes one of two tests where some passes the first or some passes the second
  pub some_or : (p q : A → Bool) (xs : List A) → some (λ x. p x || q x) xs ≡ (some p xs || some q xs)
  unfolding some
  some_or p q [] = refl
  some_or p q (x ∷ xs) = rw (some_or p q xs) (swap (p x) (q x) (some p xs) (some q xs))
    where
      swap : (a b c d : Bool) → ((a || b) || (c || d)) ≡ ((a || c) || (b || d))
      swap true b c d = refl
      swap false true true d = refl
      swap false true false d = refl
      swap false false c d = refl

  pub some_append : (p : A → Bool) (xs ys : List A) → some p (xs ++ ys) ≡ (some p xs || some p ys)
  unfolding some
  some_append p [] ys = refl
  some_append p (x ∷ xs) ys = rw (some_append p xs ys) (sym (or_assoc (p x) (some p xs) (some p ys)))

  pub some_last : (p : A → Bool) (xs : List A) (x : A) → some p (xs ++ (x ∷ [])) ≡ (some p xs || p x)
  unfolding some
  some_last p xs x = some_append p xs (x ∷ []) ∙ ap (λ (b : Bool). some p xs || b) (or-false (p x))

  pub keep_in : (p : A → Bool) (xs : List A) (x : A) → In x (keep p xs) → In x xs × (p x ≡ true)
  unfolding keep
  keep_in p [] x i = absurd (Memᴰ.not-nil i)
  keep_in p (y ∷ ys) x i = go (λ i'. keep_in p ys x i') (p y) refl i
    where
      go : (In x (keep p ys) → In x ys × (p x ≡ true)) → (b : Bool) → p y ≡ b → In x (cond b (y ∷ keep p ys) (keep p ys)) →
          In x (y ∷ ys) × (p x ≡ true)
      go below true e i' =
          ⊎_elim
          (λ h. (Memᴰ.head h, ap p h ∙ e))
          (λ h. (Memᴰ.tail (below h).0, (below h).1))
          (Memᴰ.cases_cons i')
      go below false e i' = (Memᴰ.tail (below i').0, (below i').1)

  pub in_keep : (p : A → Bool) (xs : List A) (x : A) → In x xs → p x ≡ true → In x (keep p xs)
  unfolding keep
  in_keep p [] x i q = absurd (Memᴰ.not-nil i)
  in_keep p (y ∷ ys) x i q = go (λ h. in_keep p ys x h q) (p y) refl (Memᴰ.cases_cons i)
    where
      go : (In x ys → In x (keep p ys)) → (b : Bool) → p y ≡ b → (x ≡ y) ⊎ In x ys →
          In x (cond b (y ∷ keep p ys) (keep p ys))
      go below true e (inl h) = Memᴰ.head h
      go below true e (inr h) = Memᴰ.tail (below h)
      go below false e (inl h) = absurd (false≢true (sym e ∙ sym (ap p h) ∙ q))
      go below false e (inr h) = below h

  pub length_keep : (p : A → Bool) (xs : List A) → length (keep p xs) ≤ length xs
  unfolding keep
  length_keep p [] = zero-le
  length_keep p (y ∷ ys) = go (length_keep p ys) (p y)
    where
      go : length (keep p ys) ≤ length ys → (b : Bool) → length (cond b (y ∷ keep p ys) (keep p ys)) ≤ suc (length ys)
      go h true = suc-le-suc h
      go h false = le_step h

  -- where some element passes, the first one does and stands in the list
  pub first_has : (p : A → Bool) (xs : List A) (d : A) → some p xs ≡ true → In (first p xs d) xs × (p (first p xs d) ≡ true)
  unfolding some first
  first_has p [] d e = absurd (false≢true e)
  first_has p (y ∷ ys) d e = go (λ e'. first_has p ys d e') (p y) refl e
    where
      go : (some p ys ≡ true → In (first p ys d) ys × (p (first p ys d) ≡ true)) →
          (b : Bool) → p y ≡ b → (b || some p ys) ≡ true →
          In (cond b y (first p ys d)) (y ∷ ys) × (p (cond b y (first p ys d)) ≡ true)
      go below true q e' = (Memᴰ.head refl, q)
      go below false q e' = (Memᴰ.tail (below e').0, (below e').1)

  -- where none passes there is no first one
  pub first_none : (p : A → Bool) (xs : List A) (d : A) → some p xs ≡ false → first p xs d ≡ d
  unfolding some first
  first_none p [] d e = refl
  first_none p (y ∷ ys) d e = go (λ e'. first_none p ys d e') (p y) e
    where
      go : (some p ys ≡ false → first p ys d ≡ d) → (b : Bool) → (b || some p ys) ≡ false → cond b y (first p ys d) ≡ d
      go below true e' = absurd (true≢false e')
      go below false e' = below e'

  -- where a list has at most one element and some element passes, each one does
  pub only_passes : (p : A → Bool) (xs : List A) → length xs ≤ 1 → some p xs ≡ true → (x : A) → In x xs → p x ≡ true
  unfolding some
  only_passes p [] h e x i = absurd (Memᴰ.not-nil i)
  only_passes p (y ∷ []) h e x i =
      ⊎_elim (λ q. ap p q ∙ sym (or-false (p y)) ∙ e) (λ j. absurd (Memᴰ.not-nil j)) (Memᴰ.cases_cons i)
  only_passes p (y ∷ z ∷ ys) h e x i = absurd (omega arith)

-- a run of numbers holds just those from its start to its end
pub in_span : (i n x : ℕ) → i ≤ x → x < i + n → In x (span i n)
unfolding span
in_span i zero x l h = absurd (omega arith)
in_span i (suc n) x l h =
    ⊎_elim
    (λ e. Memᴰ.head (sym e))
    (λ l'. Memᴰ.tail (in_span (suc i) n x l' (omega arith)))
    (eq-or-lt_of_le l)

pub span_in : (i n x : ℕ) → In x (span i n) → (i ≤ x) × (x < i + n)
unfolding span
span_in i zero x m = absurd (Memᴰ.not-nil m)
span_in i (suc n) x m =
    ⊎_elim
    (λ e. (omega arith, omega arith))
    (λ m'. let h = span_in (suc i) n x m' in (omega arith, omega arith))
    (Memᴰ.cases_cons m)

pub length_span : (i n : ℕ) → length (span i n) ≡ n
unfolding span
length_span i zero = refl
length_span i (suc n) = ap suc (length_span (suc i) n)

pub get_or_span : (i n j d : ℕ) → j < n → get_or (span i n) j d ≡ i + j
unfolding span
get_or_span i zero j d h = absurd (omega arith)
get_or_span i (suc n) zero d h = sym (add-zero i)
get_or_span i (suc n) (suc j) d h = get_or_span (suc i) n j d (omega arith) ∙ rw (suc-add, add-suc)

-- ---- a test over a list, element by element: what it comes to where the elements from j on decide

module _ {A : Type 0} (p : A → Bool) (xs : List A) (j : ℕ) where
  module _ (left : some p (drop j xs) ≡ some p xs) where
    pub some_found : {x : A} → drop j xs ≡ x ∷ drop (suc j) xs → p x ≡ true → true ≡ some p xs
    unfolding some
    some_found here e = (rw (here, e)) ∙ left

    pub some_next : {x : A} → drop j xs ≡ x ∷ drop (suc j) xs → p x ≡ false → some p (drop (j + 1) xs) ≡ some p xs
    unfolding some
    some_next here e = (rw (here, e, add-one)) ∙ left

    pub some_none : drop j xs ≡ [] → false ≡ some p xs
    unfolding some
    some_none end = (rw end) ∙ left

  module _ (left : every p (drop j xs) ≡ every p xs) where
    pub every_fails : {x : A} → drop j xs ≡ x ∷ drop (suc j) xs → p x ≡ false → false ≡ every p xs
    unfolding every
    every_fails here e = (rw (here, e)) ∙ left

    pub every_next : {x : A} → drop j xs ≡ x ∷ drop (suc j) xs → p x ≡ true → every p (drop (j + 1) xs) ≡ every p xs
    unfolding every
    every_next here e = (rw (here, e, add-one)) ∙ left

    pub every_holds : drop j xs ≡ [] → true ≡ every p xs
    unfolding every
    every_holds end = (rw end) ∙ left
