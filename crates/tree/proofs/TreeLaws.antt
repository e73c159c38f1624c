-- Laws of `try` and `explore` for every tree: what is found, when something is found, and how many calls it takes.
use Rattle.std.specs.Prelude.{◌≡◌, ◌⊎◌, Bool, true, false}
use Rattle.std.proofs.Math.Path.{refl, ap, ap₂}
use Rattle.std.proofs.Common.{◌∙◌, le_of_suc-le-suc, add-zero, zero-add, zero-mul, one-mul, mul-add, mul-le-mul_right, add-le-add, pow-suc, mul_comm, add-one}
use Rattle.std.proofs.Math.Logic.{inl, inr, ⊎_elim}
use mathlib.Core.List.Memᴰ
use mathlib.Core.List.{List, [], ◌∷◌}
use Prim.Native.Nat.{ℕ, zero, suc, ◌+◌, ◌*◌, ◌^◌, ◌≤◌}
use Rattle.std.proofs.Math.Nat.{le_refl, le_trans, pow-zero, pow-le-pow_left}
use native.Mathlib.Omega.{arith}
use Rattle.std.proofs.Math.ListN.{length}
use Rattle.words.specs.Lists.{In}
use Rattle.words.proofs.ListLaws.{apart}
use Rattle.tree.specs.Explore.{Outcome, found, none, calls, plus, after, try, call, Tree, explore, powers}

-- the outcome found an assignment
abbrev pub Finds : Outcome → Type 0
Finds o = (m : ℕ) × (c : ℕ) × (o ≡ found m c)

-- the outcome found this assignment
abbrev pub Gives : Outcome → ℕ → Type 0
Gives o m = (c : ℕ) × (o ≡ found m c)

-- ---- plus and after

pub calls_plus : (c : ℕ) (o : Outcome) → calls (plus c o) ≡ c + calls o
unfolding calls plus
calls_plus c (found m d) = refl
calls_plus c (none d) = refl

pub plus_zero : (o : Outcome) → plus 0 o ≡ o
unfolding plus
plus_zero (found m c) = ap (found m) (zero-add c)
plus_zero (none c) = ap none (zero-add c)

plus_gives : (c : ℕ) (o : Outcome) (m d : ℕ) → plus c o ≡ found m d → Gives o m
unfolding plus
plus_gives c (found m' d') m d e = (d', cc)
plus_gives c (none d') m d e = apart (cc)

plus_finds : (c : ℕ) (o : Outcome) → Finds o → Finds (plus c o)
unfolding plus
plus_finds c o (m, d, e) = (m, c + d, rw e)

-- what the second gives, the first did not find
pub after_gives : (o p : Outcome) (m c : ℕ) → after o p ≡ found m c → Gives o m ⊎ ((Finds o → ⊥) × Gives p m)
unfolding after
after_gives (found m' d) p m c e = inl (d, cc)
after_gives (none d) p m c e = inr (λ h. apart (cc h.2), plus_gives d p m c e)

after_finds : (o p : Outcome) → Finds o ⊎ Finds p → Finds (after o p)
unfolding after
after_finds (found m c) p h = (m, c, refl)
after_finds (none c) p (inl h) = apart (cc h.2)
after_finds (none c) p (inr h) = plus_finds c p h

after_calls : (o p : Outcome) → calls (after o p) ≤ calls o + calls p
unfolding after calls
after_calls (found m c) p = omega arith
after_calls (none c) p = omega (arith, calls_plus c p)

-- the first one's calls count
pub after_least : (o p : Outcome) → calls o ≤ calls (after o p)
unfolding after calls
after_least (found m c) p = le_refl c
after_least (none c) p = omega (arith, calls_plus c p)

-- nothing found afterwards changes nothing
pub after_nothing : (o : Outcome) → after o (none 0) ≡ o
unfolding after plus
after_nothing (found m c) = refl
after_nothing (none c) = ap none (add-zero c)

-- ---- one call

pub call_gives : (b : Bool) (m : ℕ) (o : Outcome) (m' c : ℕ) → call b m o ≡ found m' c →
    ((b ≡ true) × (m' ≡ m)) ⊎ ((b ≡ false) × Gives o m')
unfolding call
call_gives true m o m' c e = inl (refl, cc)
call_gives false m o m' c e = inr (refl, plus_gives _ o m' c e)

call_goal : (b : Bool) (m : ℕ) (o : Outcome) → b ≡ true → Finds (call b m o)
unfolding call
call_goal b m o e = (m, 1, rw e)

call_below : (b : Bool) (m : ℕ) (o : Outcome) → (b ≡ false → Finds o) → Finds (call b m o)
unfolding call
call_below true m o h = (m, 1, refl)
call_below false m o h = plus_finds _ o (h refl)

call_calls : (b : Bool) (m : ℕ) (o : Outcome) (B : ℕ) → (b ≡ false → calls o ≤ B) → calls (call b m o) ≤ 1 + B
unfolding call calls
call_calls true m o B h = omega arith
call_calls false m o B h = rw calls_plus (omega (arith, h refl))

call_same : (b : Bool) (m : ℕ) (o p : Outcome) → (b ≡ false → o ≡ p) → call b m o ≡ call b m p
call_same true m o p h = unfold call in refl
call_same false m o p h = ap (call false m) (h refl)

-- A call counts at least itself.
call_some : (b : Bool) (m : ℕ) (o : Outcome) → 1 ≤ calls (call b m o)
unfolding call calls
call_some true m o = le_refl 1
call_some false m o = rw calls_plus (omega arith)

-- ---- 1 + k + … + k^r

powers_zero : (k : ℕ) → powers k 0 ≡ 1
unfolding powers
powers_zero k = pow-zero k

powers_suc : (k r : ℕ) → powers k (suc r) ≡ 1 + k * powers k r
unfolding powers
powers_suc k zero = rw (pow-zero, pow-suc, pow-zero) (omega arith)
powers_suc k (suc r) =
    ap (λ (x : ℕ). x + k ^ suc (suc r)) (powers_suc k r)
    ∙ rw (pow-suc k (suc r), mul-add) (omega (arith, mul_comm k (k ^ suc r)))

pub powers_none : (r : ℕ) → powers 0 r ≡ 1
powers_none zero = powers_zero 0
powers_none (suc r) = powers_suc 0 r ∙ rw zero-mul (add-zero 1)

pub powers_one : (r : ℕ) → powers 1 r ≡ r + 1
powers_one zero = powers_zero 1
powers_one (suc r) = powers_suc 1 r ∙ rw (one-mul, powers_one r) (omega arith)

pub powers_two : (r : ℕ) → powers 2 r + 1 ≡ 2 ^ (r + 1)
powers_two zero = ap (λ (x : ℕ). x + 1) (powers_zero 2)
powers_two (suc r) =
    let below : powers 2 r + 1 ≡ 2 ^ suc r = powers_two r ∙ ap (λ (x : ℕ). 2 ^ x) (add-one r) in
    let double : 2 ^ (suc r + 1) ≡ 2 ^ suc r * 2 = ap (λ (x : ℕ). 2 ^ x) (add-one (suc r)) ∙ pow-suc 2 (suc r) in
    omega (arith, powers_suc 2 r)

-- with k at least 1 they are as many as with 1, or more
pub powers_most : (k r : ℕ) → 1 ≤ k → r + 1 ≤ powers k r
powers_most k zero h = rw powers_zero (le_refl 1)
powers_most k (suc r) h =
    let more : 1 * powers k r ≤ k * powers k r = mul-le-mul_right (powers k r) h in
    rw powers_suc (omega (arith, one-mul (powers k r), powers_most k r h))

-- and with a larger k they are no fewer.
pub powers_more : {j k : ℕ} (r : ℕ) → j ≤ k → powers j r ≤ powers k r
unfolding powers
powers_more {j} {k} zero h = rw (pow-zero j, pow-zero k) (le_refl 1)
powers_more (suc r) h = add-le-add (powers_more r h) (pow-le-pow_left h (suc r))

-- ---- a list in order

module _ {A : Type 0} (s : A → Outcome) where
  -- What is found was found at an element.
  pub try_gives : (xs : List A) (m c : ℕ) → try s xs ≡ found m c → (x : A) × In x xs × Gives (s x) m
  unfolding try
  try_gives [] m c e = apart (cc)
  try_gives (x ∷ xs) m c e =
      ⊎_elim
      (λ g. (x, Memᴰ.head refl, g))
      (λ (_, g). let (y, i, g') = try_gives xs m g.0 g.1 in (y, Memᴰ.tail i, g'))
      (after_gives (s x) (try s xs) m c e)

  -- Where an element finds something, so does the list.
  pub try_hit : (xs : List A) (x : A) → In x xs → Finds (s x) → Finds (try s xs)
  unfolding try
  try_hit [] x i h = absurd (Memᴰ.not-nil i)
  try_hit (y ∷ ys) x i h =
      after_finds (s y) (try s ys) (⊎_elim (λ e. inl (rw e at h)) (λ i'. inr (try_hit ys x i' h)) (Memᴰ.cases_cons i))

  -- Two searches that agree on the elements agree on the list.
  try_same : (s' : A → Outcome) (xs : List A) → ((x : A) → In x xs → s x ≡ s' x) → try s xs ≡ try s' xs
  unfolding try
  try_same s' [] h = refl
  try_same s' (x ∷ xs) h = ap₂ after (h x (Memᴰ.head refl)) (try_same s' xs (λ y i. h y (Memᴰ.tail i)))

  pub try_calls : (B : ℕ) (xs : List A) → ((x : A) → In x xs → calls (s x) ≤ B) → calls (try s xs) ≤ length xs * B
  unfolding try calls
  try_calls B [] h = omega arith
  try_calls B (x ∷ xs) h =
      let below : calls (try s xs) ≤ length xs * B = try_calls B xs (λ y i. h y (Memᴰ.tail i)) in
      omega (arith, after_calls (s x) (try s xs), h x (Memᴰ.head refl))

-- a list in which nothing stands
none_in : {A : Type 0} (xs : List A) → ((x : A) → In x xs → ⊥) → xs ≡ []
none_in [] h = refl
none_in (x ∷ xs) h = absurd (h x (Memᴰ.head refl))

-- ---- a tree

module _ {X L : Type 0} (t : Tree X L) where
  -- every call counts
  pub explore_some : (r : ℕ) (x : X) → 1 ≤ calls (explore t r x)
  unfolding explore
  explore_some zero x = call_some (t.goal x) (t.out x) (none 0)
  explore_some (suc r) x = call_some (t.goal x) (t.out x) _

  -- What is found is the number of a goal at which an invariant holds: P is indexed by the moves that are left.
  pub explore_gives : (P : ℕ → X → Type 0) →
      ((r : ℕ) (x : X) (l : L) → P (suc r) x → t.goal x ≡ false → In l (t.moves x) → P r (t.move x l)) →
      (r : ℕ) (x : X) → P r x → (m c : ℕ) → explore t r x ≡ found m c →
      (r' : ℕ) × (y : X) × P r' y × (t.goal y ≡ true) × (m ≡ t.out y)
  unfolding explore
  explore_gives P keeps zero x h m c e =
      ⊎_elim (λ g. (0, x, h, g.0, g.1)) (λ g. apart (cc g.1.1)) (call_gives (t.goal x) (t.out x) (none 0) m c e)
  explore_gives P keeps (suc r) x h m c e =
      ⊎_elim
      (λ g. (suc r, x, h, g.0, g.1))
      (λ g.
      let (l, i, f) = try_gives (λ l'. explore t r (t.move x l')) (t.moves x) m g.1.0 g.1.1 in
      explore_gives P keeps r (t.move x l) (keeps r x l h g.0 i) m f.0 f.1)
      (call_gives (t.goal x) (t.out x) _ m c e)

  -- Where a node that can still reach a goal is one or has a move to such a node, something is found.
  pub explore_hit : (P : ℕ → X → Type 0) → ((x : X) → P 0 x → t.goal x ≡ true) →
      ((r : ℕ) (x : X) → P (suc r) x → t.goal x ≡ false → (l : L) × In l (t.moves x) × P r (t.move x l)) →
      (r : ℕ) (x : X) → P r x → Finds (explore t r x)
  unfolding explore
  explore_hit P here there zero x h = call_goal (t.goal x) (t.out x) (none 0) (here x h)
  explore_hit P here there (suc r) x h =
      call_below (t.goal x) (t.out x) _
      (λ e.
      let (l, i, h') = there r x h e in
      try_hit (λ l'. explore t r (t.move x l')) (t.moves x) l i (explore_hit P here there r (t.move x l) h'))

  -- With at most k moves from each node there are at most 1 + k + … + k^r calls.
  pub explore_calls : (k : ℕ) → ((x : X) → t.goal x ≡ false → length (t.moves x) ≤ k) →
      (r : ℕ) (x : X) → calls (explore t r x) ≤ powers k r
  unfolding explore calls
  explore_calls k few zero x = rw powers_zero (call_calls (t.goal x) (t.out x) (none 0) 0 (λ e. le_refl 0))
  explore_calls k few (suc r) x =
      rw powers_suc (call_calls (t.goal x) (t.out x) _ (k * powers k r)
      (λ e.
      let each = try_calls (λ l. explore t r (t.move x l)) (powers k r) (t.moves x) (λ l i. explore_calls k few r (t.move x l)) in
      le_trans each (mul-le-mul_right (powers k r) (few x e))))

  -- Where no path has more than r moves, a larger depth changes nothing.
  pub explore_room : (P : ℕ → X → Type 0) → ((x : X) (l : L) → P 0 x → t.goal x ≡ false → In l (t.moves x) → ⊥) →
      ((r : ℕ) (x : X) (l : L) → P (suc r) x → t.goal x ≡ false → In l (t.moves x) → P r (t.move x l)) →
      (r r' : ℕ) → r ≤ r' → (x : X) → P r x → explore t r' x ≡ explore t r x
  unfolding explore try
  explore_room P ends keeps zero zero l x h = refl
  explore_room P ends keeps (suc r) zero l x h = absurd (omega arith)
  explore_room P ends keeps zero (suc r') l x h =
      call_same (t.goal x) (t.out x) _ _ (λ e. ap (try _) (none_in (t.moves x) (λ m i. ends x m h e i)))
  explore_room P ends keeps (suc r) (suc r') l x h =
      call_same (t.goal x) (t.out x) _ _
      (λ e. try_same _ _ (t.moves x) (λ m i. explore_room P ends keeps r r' (le_of_suc-le-suc l) (t.move x m) (keeps r x m h e i)))
