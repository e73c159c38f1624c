-- Rounds decide: what they find is a model, and where there is a model they find one. Of a Horn formula they find the least model, and
-- there are at most n + 1 of them.
use Rattle.std.specs.Prelude.{◌≡◌, eqb, length}
use Rattle.std.proofs.Math.Path.{refl, sym}
use Rattle.std.proofs.Common.{ap, ◌∙◌, subst, le_trans, pow_pos}
use Rattle.std.proofs.Math.Bool.{Bool, true, false, not}
use Rattle.std.specs.Bool.{beq}
use Rattle.std.proofs.lemmas.Bool.{false≢true}
use mathlib.Core.List.{List, []}
use Prim.Native.Nat.{ℕ, suc, ◌+◌, ◌-◌, ◌^◌, ◌≤◌, ◌<◌}
use Rattle.std.proofs.Math.Nat.{sub-zero}
use native.Mathlib.Omega.{arith}
use borrow.Author.Tests.{eqb-true, eqb-false, leb-true, le-leb, not-true, not-false}
use Rattle.words.specs.Lists.{In}
use Rattle.words.proofs.ListLaws.{every_in, in_every, some_in, in_some, some_fails, keep_in, in_keep, length_keep, first_has, only_passes}
use Rattle.words.specs.Bits.{bit, toggle, distance}
use Rattle.words.proofs.BitLaws.{bit_zero, bit_not, bit_toggle_same, bit_toggle_other, toggle_lt, distance_most, distance_toggle, distance_zero}
use Rattle.formula.specs.Formula.{Literal, Clause, WellFormedClause, bit_of, met, some_met, all_true, Satisfiable}
use Rattle.formula.proofs.ModelLaws.{Known, clause_unmet, one_variable}
use Rattle.tree.specs.Explore.{found, calls, explore, powers}
use Rattle.tree.proofs.TreeLaws.{Finds, powers_one, explore_gives, explore_hit, explore_calls, explore_room}
use Rattle.tree.proofs.Decides.{Decides}
use Rattle.horn.specs.Horn.{positives, is_horn, first_false, horn_tree, rounds}

-- every variable set in m is set in w
unfoldable pub Subset : ℕ → ℕ → Type 0
Subset m w = (v : ℕ) → bit m v ≡ true → bit w v ≡ true

zero_subset : (w : ℕ) → Subset 0 w
unfolding Subset
zero_subset w v e = absurd (false≢true (sym (bit_zero v) ∙ e))

-- m with a variable more that is set in w
subset_more : (m w v : ℕ) → Subset m w → bit w v ≡ true → Subset (toggle m v) w
unfolding Subset
subset_more m w v h e u e' = go (eqb v u) refl
  where
    go : (b : Bool) → eqb v u ≡ b → bit w u ≡ true
    go true q = subst (λ (x : ℕ). bit w x ≡ true) (eqb-true v u q) e
    go false q = h u (sym (bit_toggle_other m v u (eqb-false v u q)) ∙ e')

-- a positive literal is met where its variable is set, and a negative one where it is not
positive_met : (m : ℕ) (l : Literal) → l.positive ≡ true → met m l ≡ bit m (bit_of l)
unfolding met
positive_met m l e = ap (λ (b : Bool). beq (bit m (bit_of l)) b) e ∙ go (bit m (bit_of l))
  where
    go : (b : Bool) → beq b true ≡ b
    go true = refl
    go false = refl

negative_met : (m : ℕ) (l : Literal) → l.positive ≡ false → met m l ≡ not (bit m (bit_of l))
unfolding met
negative_met m l e = ap (λ (b : Bool). beq (bit m (bit_of l)) b) e ∙ go (bit m (bit_of l))
  where
    go : (b : Bool) → beq b false ≡ not b
    go true = refl
    go false = refl

-- ---- one round

module _ (cs : List Clause) (m : ℕ) (g : all_true m cs ≡ false) where
  abbrev clause : Clause
  clause = first_false cs m

  -- the clause of a round is a false one of the formula
  round_clause : In clause cs × (some_met m clause ≡ false)
  unfolding all_true first_false
  round_clause =
      let (i, e) = first_has (λ c. not (some_met m c)) cs [] (some_fails (some_met m) cs g) in
      (i, not-true (some_met m clause) e)

  -- a literal that a round may set stands in that clause, and its variable is not set
  round_in : (l : Literal) → In l (positives clause) → In l clause × (l.positive ≡ true)
  unfolding positives
  round_in l i = keep_in (λ x. x.positive) clause l i

  round_unset : (l : Literal) → In l (positives clause) → bit m (bit_of l) ≡ false
  round_unset l i =
      let (j, p) = round_in l i in
      sym (positive_met m l p) ∙ clause_unmet m clause round_clause.1 l j

  -- A move sets its variable, and no other changes.
  pub round_sets : (l : Literal) → In l (positives clause) →
      (bit (toggle m (bit_of l)) (bit_of l) ≡ true) × ((v : ℕ) → (bit_of l ≡ v → ⊥) → bit (toggle m (bit_of l)) v ≡ bit m v)
  round_sets l i = (bit_toggle_same m (bit_of l) ∙ ap not (round_unset l i), bit_toggle_other m (bit_of l))

  -- A model in which all that is set so far is set sets one of them besides.
  round_hits : (w : ℕ) → all_true w cs ≡ true → Subset m w → (l : Literal) × In l (positives clause) × (bit w (bit_of l) ≡ true)
  unfolding all_true some_met Subset positives
  round_hits w model h =
      let (l, i, e) = some_in (met w) clause (every_in (some_met w) cs model clause round_clause.0) in
      go l i e l.positive refl
    where
      go : (l : Literal) → In l clause → met w l ≡ true → (b : Bool) → l.positive ≡ b →
          (l : Literal) × In l (positives clause) × (bit w (bit_of l) ≡ true)
      go l i e true p = (l, in_keep (λ x. x.positive) clause l i p, sym (positive_met w l p) ∙ e)
      go l i e false p =
          let unset = not-true (bit w (bit_of l)) (sym (negative_met w l p) ∙ e) in
          let before = not-false (bit m (bit_of l)) (sym (negative_met m l p) ∙ clause_unmet m clause round_clause.1 l i) in
          absurd (false≢true (sym unset ∙ h (bit_of l) before))

-- ---- Horn formulas

-- each clause has at most one positive literal
pub horn_few : (cs : List Clause) → is_horn cs ≡ true → (c : Clause) → In c cs → length (positives c) ≤ 1
unfolding is_horn
horn_few cs h c i = leb-true (length (positives c)) 1 (every_in _ cs h c i)

-- where no clause has two literals,
pub short_horn : (cs : List Clause) → ((c : Clause) → In c cs → length c ≤ 1) → is_horn cs ≡ true
unfolding is_horn positives
short_horn cs h = in_every _ cs (λ c i. le-leb _ 1 (le_trans (length_keep _ c) (h c i)))

-- and so where there is one variable, or none.
pub small_horn : (n : ℕ) (cs : List Clause) → ((c : Clause) → In c cs → WellFormedClause n c) → n ≤ 1 → is_horn cs ≡ true
small_horn n cs each h = short_horn cs (λ c i. one_variable c (each c i) h)

-- ---- all rounds

module _ (n : ℕ) (cs : List Clause) where
  pub rounds_calls : (k : ℕ) → ((c : Clause) → In c cs → length (positives c) ≤ k) → calls (rounds n cs) ≤ powers k n
  unfolding rounds horn_tree
  rounds_calls k few = explore_calls (horn_tree cs) k (λ m g. few _ (round_clause cs m g).0) n 0

  -- Of a Horn formula there are at most n + 1,
  pub rounds_bounded : is_horn cs ≡ true → calls (rounds n cs) ≤ n + 1
  rounds_bounded h = rw (powers_one n) at (rounds_calls 1 (horn_few cs h))

  -- and what they find is the least model: each variable set there is set in every model.
  pub rounds_least : is_horn cs ≡ true → (m c : ℕ) → rounds n cs ≡ found m c → (w : ℕ) → all_true w cs ≡ true → Subset m w
  unfolding rounds horn_tree
  rounds_least h m c e w model =
      let (r, y, p, g, o) = explore_gives (horn_tree cs) (λ q x. Subset x w) keeps n 0 (zero_subset w) m c e in rw o p
    where
      keeps : (r x : ℕ) (l : Literal) → Subset x w → all_true x cs ≡ false → In l (positives (first_false cs x)) →
          Subset (toggle x (bit_of l)) w
      keeps r x l p g i =
          let (l', i', e') = round_hits cs x g w model p in
          let ls = positives (first_false cs x) in
          let sets : Literal → Bool = λ a. bit w (bit_of a) in
          subset_more x w (bit_of l) p
          (only_passes sets ls (horn_few cs h _ (round_clause cs x g).0) (in_some sets ls l' i' e') l i)

-- ---- a formula over n variables

module _ (n : ℕ) (cs : List Clause) (known : Known n cs) where
  -- a literal that a round may set is one of the n variables
  round_known : (m : ℕ) (g : all_true m cs ≡ false) (l : Literal) → In l (positives (first_false cs m)) → bit_of l < n
  unfolding Known bit_of
  round_known m g l i = let h = known _ (round_clause cs m g).0 l (round_in cs m g l i).0 in omega arith

  -- A round that sets a variable of w comes nearer to w.
  abbrev Towards : ℕ → ℕ → ℕ → Type 0
  Towards w q x = (x < 2 ^ n) × (distance x w ≤ q)

  nearer : (w : ℕ) → w < 2 ^ n → (q x : ℕ) → Towards w (suc q) x → (g : all_true x cs ≡ false) → (l : Literal) →
      In l (positives (first_false cs x)) → bit w (bit_of l) ≡ true → Towards w q (toggle x (bit_of l))
  nearer w below q x (p, d) g l i e =
      let small = round_known x g l i in
      let apart : bit x (bit_of l) ≡ bit w (bit_of l) → ⊥ = λ z. false≢true (sym (round_unset cs x g l i) ∙ z ∙ e) in
      (toggle_lt n x (bit_of l) p small, omega (arith, distance_toggle n x w (bit_of l) p below small apart))

  start : (w : ℕ) → w < 2 ^ n → Towards w n 0
  start w below = (pow_pos n, distance_most n 0 w (pow_pos n) below)

  rounds_sound : (m c : ℕ) → rounds n cs ≡ found m c → (m < 2 ^ n) × (all_true m cs ≡ true)
  unfolding rounds horn_tree
  rounds_sound m c e =
      let (r, y, p, g, o) = explore_gives (horn_tree cs) (λ q x. x < 2 ^ n)
      (λ q x l p g i. toggle_lt n x (bit_of l) p (round_known x g l i)) n 0 (pow_pos n) m c e in
      (rw o p, rw o g)

  rounds_complete : Satisfiable n cs → Finds (rounds n cs)
  unfolding rounds horn_tree Satisfiable
  rounds_complete (w, below, model) = explore_hit (horn_tree cs) Live here there n 0 (start w below, zero_subset w)
    where
      Live : ℕ → ℕ → Type 0
      Live q x = Towards w q x × Subset x w

      here : (x : ℕ) → Live 0 x → all_true x cs ≡ true
      here x ((p, d), s) = rw (distance_zero n x w p below (omega arith)) model

      there : (q x : ℕ) → Live (suc q) x → all_true x cs ≡ false →
          (l : Literal) × In l (positives (first_false cs x)) × Live q (toggle x (bit_of l))
      there q x (t, s) g =
          let (l, i, e) = round_hits cs x g w model s in
          (l, i, (nearer w below q x t g l i e, subset_more x w (bit_of l) s e))

  -- Rounds decide, whether the formula is Horn or not.
  pub rounds_decide : Decides n cs (rounds n cs)
  rounds_decide = record { sound = rounds_sound; complete = rounds_complete }

  -- They end by themselves: with all n variables set, no clause that is false has a positive literal.
  pub rounds_room : (r : ℕ) → n ≤ r → explore (horn_tree cs) r 0 ≡ rounds n cs
  unfolding rounds horn_tree
  rounds_room r l = explore_room (horn_tree cs) (Towards full) ends keeps n r l 0 (start full small)
    where
      full : ℕ
      full = 2 ^ n - 1

      small : full < 2 ^ n
      small = let some : 0 < 2 ^ n = pow_pos n in omega arith

      set : (v : ℕ) → v < n → bit full v ≡ true
      set v h = rw (sub-zero (2 ^ n - 1)) at (bit_not n 0 v (pow_pos n) h) ∙ ap not (bit_zero v)

      keeps : (q x : ℕ) (l : Literal) → Towards full (suc q) x → all_true x cs ≡ false → In l (positives (first_false cs x)) →
          Towards full q (toggle x (bit_of l))
      keeps q x l t g i = nearer full small q x t g l i (set (bit_of l) (round_known x g l i))

      ends : (x : ℕ) (l : Literal) → Towards full 0 x → all_true x cs ≡ false → In l (positives (first_false cs x)) → ⊥
      ends x l (p, d) g i =
          let same = distance_zero n x full p small (omega arith) in
          false≢true (sym (round_unset cs x g l i) ∙ ap (λ (y : ℕ). bit y (bit_of l)) same ∙ set (bit_of l) (round_known x g l i))
