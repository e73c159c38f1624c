-- The laws of a clause's reading: yes or no, which clauses are dead or short, lone opposites, and the names that source 000 gives to
-- clauses.
use Rattle.std.specs.Prelude.{◌≡◌, Bool, ◌&&◌, List, [], ◌∷◌, eqb, leb, ltb}
use Rattle.std.proofs.Math.Path.{refl}
use Rattle.std.proofs.Common.{sym, ap, ap₂, ◌∙◌}
use Rattle.std.proofs.Math.Bool.{true, false, not, and_comm, and-true, and-false, true≢false, not-not}
use Prim.Native.Nat.{ℕ, zero, suc, ◌+◌, ◌≤◌}
use native.Mathlib.Omega.{arith}
use Rattle.std.proofs.Math.Dec.{eqb-suc-zero}
use Rattle.std.proofs.Math.ListN.{length}
use borrow.Author.Tests.{lt-ltb, eq-eqb, eqb-true, not-true}
use Rattle.words.specs.Lists.{In, some, every, count}
use Rattle.words.proofs.ListLaws.{every_in, some_in, in_some, keep_in, in_keep, and_left, and_right, and_both, both_ways, refute}
use Rattle.words.specs.Bits.{bit}
use Rattle.words.proofs.BitLaws.{digit}
use Rattle.words.proofs.CountLaws.{count_same, count_adds, count_some, count_keep, some_count, every_count}
use Rattle.formula.specs.Formula.{Literal, Clause, met, is_opposite, some_met}
use Rattle.formula.proofs.CountLaws.{opposite_bit, opposite_met}
use Rattle.ball.specs.Names.{ones_of, zeros_of}
use Rattle.ball.specs.Ball.{State, is_flipped, is_open, reading, true?, is_true, is_dead, restricted, meets_s, flipped_met, is_lone, has_lone_opposite, meets_l}

-- a literal is open, by whether it is met and flipped
pub open_is : (s : State) (l : Literal) (a f : Bool) → met s.assignment l ≡ a → is_flipped s l ≡ f → is_open s l ≡ (not a && not f)
unfolding is_open
open_is s l a f e e' = ap₂ (λ (x y : Bool). not x && not y) e e'

-- ---- yes or no

-- what the machine tests
pub true_met : (s : State) (c : Clause) → is_true s c ≡ not (eqb (reading s c).met 0)
unfolding is_true true?
true_met s c = go (reading s c).met
  where
    go : (n : ℕ) → ltb 0 n ≡ not (eqb n 0)
    go zero = refl
    go (suc n) = rw (lt-ltb 0 (suc n) (omega arith), eqb-suc-zero n)

-- A clause reads as true exactly if the assignment meets a literal of it.
pub reading_true : (s : State) (c : Clause) → is_true s c ≡ some_met s.assignment c
unfolding reading some_met
reading_true s c = true_met s c ∙ sym (some_count (met s.assignment) c)

-- a literal of a false clause is not met
pub false_unmet : (s : State) (c : Clause) → is_true s c ≡ false → (l : Literal) → In l c → met s.assignment l ≡ false
unfolding some_met
false_unmet s c e l i =
    let m = s.assignment in
    refute (met m l) (λ q. true≢false (sym (in_some (met m) c l i q) ∙ sym (reading_true s c) ∙ e))

-- ---- dead clauses

-- what a dead clause is: false, and each of its literals flipped
module _ (s : State) (c : Clause) (e : is_dead s c ≡ true) where
  pub dead_false : is_true s c ≡ false
  unfolding is_dead
  dead_false = not-true (is_true s c) (and_left (not (is_true s c)) (every (is_flipped s) c) e)

  pub dead_flipped : (l : Literal) → In l c → is_flipped s l ≡ true
  unfolding is_dead
  dead_flipped = every_in (is_flipped s) c (and_right (not (is_true s c)) (every (is_flipped s) c) e)

-- Of a false clause the open literals are those that are not flipped:
false_open : (s : State) (c : Clause) → is_true s c ≡ false → (reading s c).«open» ≡ length (restricted s c)
unfolding reading restricted count
false_open s c e = count_same (is_open s) _ c (λ l i. open_is s l false _ (false_unmet s c e l i) refl)

-- so a test of how many are not flipped is one of the second number.
false_reading : (s : State) (c : Clause) (p : ℕ → Bool) →
    (not (is_true s c) && p (length (restricted s c))) ≡ (eqb (reading s c).met 0 && p (reading s c).«open»)
false_reading s c p =
    ap (λ (b : Bool). not b && p (length (restricted s c))) (true_met s c) ∙ go (eqb (reading s c).met 0) refl
  where
    go : (b : Bool) → eqb (reading s c).met 0 ≡ b → (not (not b) && p (length (restricted s c))) ≡ (b && p (reading s c).«open»)
    go true e = ap p (sym (false_open s c (true_met s c ∙ ap not e)))
    go false e = refl

-- nothing is left of a clause exactly if each of its literals is flipped
flipped_left : (s : State) (c : Clause) → every (is_flipped s) c ≡ eqb (length (restricted s c)) 0
unfolding restricted count
flipped_left s c = every_count (is_flipped s) c

-- A clause is dead exactly if both numbers are 0,
pub dead_reading : (s : State) (c : Clause) → is_dead s c ≡ (eqb (reading s c).met 0 && eqb (reading s c).«open» 0)
unfolding is_dead
dead_reading s c = ap (λ (b : Bool). not (is_true s c) && b) (flipped_left s c) ∙ false_reading s c (λ n. eqb n 0)

-- and it meets S exactly if the first is 0 and the second at most 2.
pub short_reading : (s : State) (c : Clause) → meets_s s c ≡ (eqb (reading s c).met 0 && leb (reading s c).«open» 2)
unfolding meets_s
short_reading s c = false_reading s c (λ n. leb n 2)

-- what meets S or L is false
pub short_false : (s : State) (c : Clause) → meets_s s c ≡ true → is_true s c ≡ false
unfolding meets_s
short_false s c e = not-true (is_true s c) (and_left (not (is_true s c)) (leb (length (restricted s c)) 2) e)

pub lone_false : (cs : List Clause) (s : State) (c : Clause) → meets_l cs s c ≡ true → is_true s c ≡ false
unfolding meets_l
lone_false cs s c e = not-true (is_true s c) (and_left (not (is_true s c)) (some (has_lone_opposite cs s) (restricted s c)) e)

-- ---- lone opposites

-- the literals that are left are those of the clause that are not flipped
pub left_in : (s : State) (c : Clause) (l : Literal) → In l (restricted s c) → In l c × (is_flipped s l ≡ false)
unfolding restricted
left_in s c l i = let (j, e) = keep_in (λ x. not (is_flipped s x)) c l i in (j, not-true (is_flipped s l) e)

pub in_left : (s : State) (c : Clause) (l : Literal) → In l c → is_flipped s l ≡ false → In l (restricted s c)
unfolding restricted
in_left s c l i e = in_keep (λ x. not (is_flipped s x)) c l i (ap not e)

-- what it means that the opposite of l is alone: no flipped literal is met, one literal is left, and it is the opposite
module _ (s : State) (l : Literal) (c : Clause) (e : is_lone s l c ≡ true) where
  abbrev one? : Bool
  one? = eqb (length (restricted s c)) 1

  abbrev left? : Bool
  left? = some (is_opposite l) (restricted s c)

  pub lone_flipped : (x : Literal) → In x c → is_flipped s x ≡ true → met s.assignment x ≡ false
  unfolding is_lone flipped_met
  lone_flipped x i f =
      let unmet = not-true (flipped_met s c) (and_right (one? && left?) (not (flipped_met s c)) e) in
      refute (met s.assignment x) (λ m. true≢false (sym (in_some _ c x i (and_both (is_flipped s x) _ f m)) ∙ unmet))

  pub lone_one : length (restricted s c) ≡ 1
  unfolding is_lone
  lone_one = eqb-true _ 1 (and_left one? left? (and_left (one? && left?) (not (flipped_met s c)) e))

  pub lone_left : some (is_opposite l) (restricted s c) ≡ true
  unfolding is_lone
  lone_left = and_right one? left? (and_left (one? && left?) (not (flipped_met s c)) e)

-- the opposite of a flipped literal is flipped
opposite_flipped : (s : State) (l x : Literal) → is_opposite l x ≡ true → is_flipped s x ≡ is_flipped s l
unfolding is_flipped
opposite_flipped s l x e = ap (bit s.flipped) (opposite_bit l x e)

-- so a flipped literal has no lone opposite.
pub flipped_lone : (cs : List Clause) (s : State) (l : Literal) → is_flipped s l ≡ true → has_lone_opposite cs s l ≡ false
unfolding has_lone_opposite
flipped_lone cs s l f =
    refute (some (is_lone s l) cs) (λ e.
    let (c, i, lone) = some_in (is_lone s l) cs e in
    let (x, j, opp) = some_in (is_opposite l) (restricted s c) (lone_left s l c lone) in
    true≢false (sym f ∙ sym (opposite_flipped s l x opp) ∙ (left_in s c x j).1))

-- Lone opposites by the two numbers: where l is not met and not flipped, its opposite is met and not flipped.
module _ (s : State) (l : Literal) (unmet : met s.assignment l ≡ false) (fresh : is_flipped s l ≡ false) (c : Clause) where
  -- the literals that are met, by whether they are flipped
  abbrev flipped_ones : ℕ
  flipped_ones = count (λ x. is_flipped s x && met s.assignment x) c

  abbrev fresh_ones : ℕ
  fresh_ones = count (λ x. not (is_flipped s x) && met s.assignment x) c

  met_splits : (reading s c).met ≡ fresh_ones + flipped_ones
  unfolding reading
  met_splits = count_adds _ _ _ c (λ x i. go (is_flipped s x) (met s.assignment x))
    where
      go : (f b : Bool) → digit b ≡ digit (not f && b) + digit (f && b)
      go true b = omega arith
      go false b = omega arith

  left_splits : length (restricted s c) ≡ fresh_ones + (reading s c).«open»
  unfolding reading restricted count is_open
  left_splits = count_adds _ _ _ c (λ x i. go (is_flipped s x) (met s.assignment x))
    where
      go : (f b : Bool) → digit (not f) ≡ digit (not f && b) + digit (not b && not f)
      go true true = refl
      go true false = refl
      go false true = refl
      go false false = refl

  -- the opposite of l is met, and not flipped
  opposite_fresh : (x : Literal) → is_opposite l x ≡ true → (not (is_flipped s x) && met s.assignment x) ≡ true
  opposite_fresh x e = rw (opposite_flipped s l x e, fresh, opposite_met l x e s.assignment, unmet)

  opposite_left : some (is_opposite l) (restricted s c) ≡ some (is_opposite l) c
  opposite_left =
      both_ways _ _
      (λ e. let (x, i, o) = some_in _ _ e in in_some (is_opposite l) c x (left_in s c x i).0 o)
      (λ e. let (x, i, o) = some_in _ _ e in
      in_some (is_opposite l) (restricted s c) x (in_left s c x i (opposite_flipped s l x o ∙ fresh)) o)

  opposite_counted : some (is_opposite l) c ≡ true → 1 ≤ fresh_ones
  opposite_counted e =
      let (x, i, o) = some_in _ _ e in
      count_some _ c (in_some (λ y. not (is_flipped s y) && met s.assignment y) c x i (opposite_fresh x o))

  -- The opposite is alone in a clause exactly if the clause holds it and has the numbers 1 and 0.
  pub lone_reading : is_lone s l c ≡ (some (is_opposite l) c && (eqb (reading s c).met 1 && eqb (reading s c).«open» 0))
  unfolding is_lone flipped_met
  lone_reading =
      rw (opposite_left, some_count (λ x. is_flipped s x && met s.assignment x) c) (go (some (is_opposite l) c) refl)
    where
      left : ℕ
      left = length (restricted s c)

      ones : ℕ
      ones = (reading s c).met

      zeros : ℕ
      zeros = (reading s c).«open»

      numbers : 1 ≤ fresh_ones → (eqb left 1 && eqb flipped_ones 0) ≡ (eqb ones 1 && eqb zeros 0)
      numbers h =
          both_ways _ _
          (λ e.
          let one : left ≡ 1 = eqb-true left 1 (and_left (eqb left 1) (eqb flipped_ones 0) e) in
          let none : flipped_ones ≡ 0 = eqb-true flipped_ones 0 (and_right (eqb left 1) (eqb flipped_ones 0) e) in
          let met : ones ≡ 1 = omega (arith, met_splits, left_splits) in
          let unmet : zeros ≡ 0 = omega (arith, left_splits) in
          and_both _ _ (eq-eqb ones 1 met) (eq-eqb zeros 0 unmet))
          (λ e.
          let one : ones ≡ 1 = eqb-true ones 1 (and_left (eqb ones 1) (eqb zeros 0) e) in
          let none : zeros ≡ 0 = eqb-true zeros 0 (and_right (eqb ones 1) (eqb zeros 0) e) in
          let met : left ≡ 1 = omega (arith, met_splits, left_splits) in
          let unmet : flipped_ones ≡ 0 = omega (arith, met_splits) in
          and_both _ _ (eq-eqb left 1 met) (eq-eqb flipped_ones 0 unmet))

      go : (b : Bool) → some (is_opposite l) c ≡ b → ((eqb left 1 && b) && not (not (eqb flipped_ones 0)))
          ≡ (b && (eqb ones 1 && eqb zeros 0))
      go true e = rw (and-true (eqb left 1), not-not) (numbers (opposite_counted e))
      go false e = rw (and-false (eqb left 1))

-- ---- the names of clauses (source 000, section 2.5)

-- no flipped literal of the clause is met
unfoldable pub NoFlippedMet : State → Clause → Type 0
NoFlippedMet s c = (l : Literal) → In l c → is_flipped s l ≡ true → met s.assignment l ≡ false

-- The open literals are the zeros of the clause restricted to the variables that are not flipped;
pub reading_zeros : (s : State) (c : Clause) → (reading s c).«open» ≡ zeros_of s.assignment (restricted s c)
unfolding reading zeros_of restricted is_open
reading_zeros s c =
    count_same (is_open s) _ c (λ l i. and_comm (not (met s.assignment l)) (not (is_flipped s l)))
    ∙ sym (count_keep (λ l. not (is_flipped s l)) (λ l. not (met s.assignment l)) c)

-- while no flipped literal of the clause is met, the literals that are met are its ones.
pub reading_ones : (s : State) (c : Clause) → NoFlippedMet s c → (reading s c).met ≡ ones_of s.assignment (restricted s c)
unfolding reading ones_of restricted NoFlippedMet
reading_ones s c none =
    count_same (met s.assignment) _ c (λ l i. go (is_flipped s l) (met s.assignment l) (none l i))
    ∙ sym (count_keep (λ l. not (is_flipped s l)) (met s.assignment) c)
  where
    go : (f b : Bool) → (f ≡ true → b ≡ false) → b ≡ (not f && b)
    go true b h = h refl
    go false b h = refl

-- So the reading is then the name of the clause that is left.
pub reading_name : (s : State) (c : Clause) → NoFlippedMet s c →
    reading s c ≡ record { met = ones_of s.assignment (restricted s c); «open» = zeros_of s.assignment (restricted s c) }
reading_name s c none = rw (← reading_ones s c none, ← reading_zeros s c) refl

-- ---- the empty clause (source 000, section 2.2)

-- Of a dead clause the path leaves the empty clause: none of its flipped literals is met, and it has no others.
pub dead_empty : (s : State) (c : Clause) → is_dead s c ≡ true → NoFlippedMet s c × (restricted s c ≡ [])
unfolding NoFlippedMet is_dead
dead_empty s c e = (
  λ l i f. false_unmet s c (dead_false s c e) l i,
  none (restricted s c) (eqb-true _ 0 (sym (flipped_left s c) ∙ and_right (not (is_true s c)) (every (is_flipped s) c) e)),
)
  where
    none : (xs : Clause) → length xs ≡ 0 → xs ≡ []
    none [] h = refl
    none (x ∷ xs) h = absurd (omega arith)

-- And a clause of which it leaves the empty one is dead.
pub empty_dead : (s : State) (c : Clause) → NoFlippedMet s c → restricted s c ≡ [] → is_dead s c ≡ true
unfolding NoFlippedMet is_dead some_met
empty_dead s c none e =
    let flipped : every (is_flipped s) c ≡ true = flipped_left s c ∙ rw e in
    let failing : is_true s c ≡ false = reading_true s c ∙ refute _ (λ q.
    let (l, i, m) = some_in (met s.assignment) c q in
    true≢false (sym m ∙ none l i (every_in (is_flipped s) c flipped l i))) in
    rw (failing, flipped)
