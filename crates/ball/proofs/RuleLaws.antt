-- What a branching rule owes, and what one ball then promises: what it finds is a model, it finds one where one is in reach, and
-- how many calls it takes. Lemma 1 of source 000 is `hits`.
use Rattle.std.specs.Prelude.{◌≡◌, Bool, ◌||◌, eqb, length}
use Rattle.std.proofs.Math.Path.{refl}
use Rattle.std.proofs.Common.{sym, ap, ◌∙◌, subst, ⊎_elim, true≢false, le_of_eq}
use Rattle.std.proofs.Math.Bool.{true, false, not}
use Rattle.std.specs.Bool.{beq}
use Rattle.std.proofs.lemmas.Bool.{false≢true}
use mathlib.Core.List.Memᴰ
use mathlib.Core.List.{List, []}
use Prim.Native.Nat.{ℕ, suc, ◌^◌, ◌≤◌, ◌<◌}
use native.Mathlib.Omega.{arith}
use borrow.Author.Tests.{eqb-true, eqb-false, not-true}
use Rattle.words.specs.Lists.{In, some, every}
use Rattle.words.proofs.ListLaws.{every_in, some_in, some_fails, first_has, first_none, only_passes, and_left, and_right, or_cases, refute}
use Rattle.words.specs.Bits.{bit, toggle, distance}
use Rattle.words.proofs.BitLaws.{not_same, bit_toggle_same, bit_toggle_other, toggle_lt, distance_toggle, distance_zero}
use Rattle.formula.specs.Formula.{Literal, Clause, bit_of, met, is_opposite, some_met, all_true}
use Rattle.formula.proofs.CountLaws.{opposite_met}
use Rattle.formula.proofs.ModelLaws.{Known}
use Rattle.tree.specs.Explore.{found, calls, powers}
use Rattle.ball.specs.Ball.{State, is_true, is_dead, is_flipped, restricted, meets_s, is_lone, has_lone_opposite, meets_l, flip, Rule, is_tried, tried, branch, select, skip, rule, ball_tree, ball_search}
use Rattle.ball.proofs.ReadingLaws.{reading_true, false_unmet, dead_false, dead_flipped, short_false, lone_false, in_left, lone_one, lone_left, lone_flipped}
use Rattle.tree.proofs.TreeLaws.{Finds, explore_gives, explore_hit, explore_calls}

-- A goal of a ball's tree is a model: the theorems on one ball cite no other law of readings.
pub goal_model : (s : State) (cs : List Clause) → every (is_true s) cs ≡ all_true s.assignment cs
unfolding all_true
goal_model s cs = λ i. every (λ c. reading_true s c i) cs

-- w agrees with the state on every flipped variable
unfoldable pub Agrees : State → ℕ → Type 0
Agrees s w = (v : ℕ) → bit s.flipped v ≡ true → bit w v ≡ bit s.assignment v

-- What the literals that a call tries owe where some clause is false.
pub record Branches (n k : ℕ) (cs : List Clause) (s : State) (ls : List Literal) : Type 0 where
  -- at most k are tried,
  pub few : length ls ≤ k
  -- each over the variables 1 to n,
  pub known : (l : Literal) → In l ls → bit_of l < n
  -- not met,
  pub unmet : (l : Literal) → In l ls → met s.assignment l ≡ false
  -- and not flipped on this path;
  pub fresh : (l : Literal) → In l ls → is_flipped s l ≡ false
  -- and every model that agrees with the flipped variables meets one of them.
  pub hits : (w : ℕ) → all_true w cs ≡ true → Agrees s w → (l : Literal) × In l ls × (met w l ≡ true)

-- A lawful rule: wherever some clause is false.
unfoldable pub Lawful : ℕ → ℕ → List Clause → Rule → Type 0
Lawful n k cs rule = (s : State) → every (is_true s) cs ≡ false → Branches n k cs s (rule s)

-- ---- one ball under a lawful rule

-- a literal that w meets and m does not: they differ in its variable
differs : (m w : ℕ) (l : Literal) → met m l ≡ false → met w l ≡ true → bit m (bit_of l) ≡ bit w (bit_of l) → ⊥
unfolding met
differs m w l p q e = false≢true (sym p ∙ ap (λ (b : Bool). beq b l.positive) e ∙ q)

-- flipping a variable in which the assignment differs from w keeps the agreement
agrees_flip : (s : State) (l : Literal) (w : ℕ) → (bit s.assignment (bit_of l) ≡ bit w (bit_of l) → ⊥) →
    Agrees s w → Agrees (flip s l) w
unfolding Agrees flip
agrees_flip s l w d h v e = go (eqb (bit_of l) v) refl
  where
    go : (b : Bool) → eqb (bit_of l) v ≡ b → bit w v ≡ bit (toggle s.assignment (bit_of l)) v
    go true q =
        let at : ℕ → Type 0 = λ u. bit w u ≡ bit (toggle s.assignment (bit_of l)) u in
        subst at (eqb-true (bit_of l) v q) (not_same _ _ d ∙ sym (bit_toggle_same s.assignment (bit_of l)))
    go false q =
        let other : bit_of l ≡ v → ⊥ = eqb-false (bit_of l) v q in
        h v (sym (bit_toggle_other s.flipped (bit_of l) v other) ∙ e)
        ∙ sym (bit_toggle_other s.assignment (bit_of l) v other)

module _ (n k : ℕ) (cs : List Clause) (rule : Rule) (lawful : Lawful n k cs rule) where
  branches : (s : State) → every (is_true s) cs ≡ false → Branches n k cs s (rule s)
  unfolding Lawful
  branches s g = lawful s g

  -- What a ball finds is a model below 2^n.
  pub ball_gives : (r : ℕ) (s : State) → s.assignment < 2 ^ n → (m c : ℕ) → ball_search cs rule r s ≡ found m c →
      (m < 2 ^ n) × (all_true m cs ≡ true)
  unfolding ball_search ball_tree flip
  ball_gives r s h m c e =
      let (r', y, p, g, o) = explore_gives (ball_tree cs rule) (λ q x. x.assignment < 2 ^ n)
      (λ q x l p g i. toggle_lt n x.assignment (bit_of l) p ((branches x g).known l i)) r s h m c e in
      (rw o p, rw o (sym (goal_model y cs) ∙ g))

  -- A ball finds something where a model is in reach that agrees with the flipped variables.
  pub ball_hit : (w : ℕ) → w < 2 ^ n → all_true w cs ≡ true → (r : ℕ) (s : State) → s.assignment < 2 ^ n →
      distance s.assignment w ≤ r → Agrees s w → Finds (ball_search cs rule r s)
  unfolding ball_search ball_tree
  ball_hit w below model r s h near agrees = explore_hit (ball_tree cs rule) Live here there r s (h, near, agrees)
    where
      Live : ℕ → State → Type 0
      Live q x = (x.assignment < 2 ^ n) × (distance x.assignment w ≤ q) × Agrees x w

      here : (x : State) → Live 0 x → every (is_true x) cs ≡ true
      here x (p, d, a) = goal_model x cs ∙ rw (distance_zero n x.assignment w p below (omega arith)) model

      there : (q : ℕ) (x : State) → Live (suc q) x → every (is_true x) cs ≡ false →
          (l : Literal) × In l (rule x) × Live q (flip x l)
      there q x (p, d, a) g =
          let b : Branches n k cs x (rule x) = branches x g in
          let (l, i, m) = b.hits w model a in
          let apart : bit x.assignment (bit_of l) ≡ bit w (bit_of l) → ⊥ = differs x.assignment w l (b.unmet l i) m in
          let nearer = distance_toggle n x.assignment w (bit_of l) p below (b.known l i) apart in
          let still = toggle_lt n x.assignment (bit_of l) p (b.known l i) in
          (l, i, (unfold flip in still, unfold flip in omega arith, agrees_flip x l w apart a))

  pub ball_calls : (r : ℕ) (s : State) → calls (ball_search cs rule r s) ≤ powers k r
  unfolding ball_search ball_tree
  ball_calls = explore_calls (ball_tree cs rule) k (λ s g. (branches s g).few)

-- ---- rules that select a clause and skip some of its literals

-- What a selection and its skipping owe: the clause is a false one, and no model that agrees with the flipped variables meets a
-- literal skipped.
pub record Fair (cs : List Clause) (select : State → Clause) (skip : State → Literal → Bool) (s : State) : Type 0 where
  pub chosen : In (select s) cs
  pub failing : is_true s (select s) ≡ false
  pub spared : (w : ℕ) → all_true w cs ≡ true → Agrees s w → (l : Literal) → In l (select s) → skip s l ≡ true →
      met w l ≡ false

module _ (skip : State → Literal → Bool) (s : State) (l : Literal) where
  pub tried_fresh : is_tried skip s l ≡ true → is_flipped s l ≡ false
  unfolding is_tried
  tried_fresh e = not-true (is_flipped s l) (and_right (not (skip s l)) (not (is_flipped s l)) e)

  pub tries : skip s l ≡ false → is_flipped s l ≡ false → is_tried skip s l ≡ true
  unfolding is_tried
  tries e e' = rw (e, e')

-- a flipped literal that is not met is met by no assignment that agrees with the flipped variables
pub agrees_unmet : (s : State) (w : ℕ) → Agrees s w → (l : Literal) → is_flipped s l ≡ true → met s.assignment l ≡ false →
    met w l ≡ false
unfolding Agrees is_flipped
agrees_unmet s w a l f e = refute (met w l) (λ m. differs s.assignment w l e m (sym (a (bit_of l) f)))

-- A dead clause is true under no assignment that agrees with the flipped variables.
pub dead_lost : (s : State) (c : Clause) → is_dead s c ≡ true → (w : ℕ) → Agrees s w → some_met w c ≡ false
unfolding some_met
dead_lost s c e w a =
    refute (some (met w) c) (λ q.
    let (l, i, m) = some_in (met w) c q in
    true≢false (sym m ∙ agrees_unmet s w a l (dead_flipped s c e l i) (false_unmet s c (dead_false s c e) l i)))

-- Lemma 6 of source 000, for clauses of any length: a literal that has a lone opposite is met by no model that agrees with the
-- flipped variables. Such a model meets a literal of the clause in which the opposite is alone, and no flipped one.
pub lone_unmet : (cs : List Clause) (s : State) (l : Literal) → has_lone_opposite cs s l ≡ true →
    (w : ℕ) → all_true w cs ≡ true → Agrees s w → met w l ≡ false
unfolding has_lone_opposite all_true some_met
lone_unmet cs s l e w model a =
    let (c, i, lone) = some_in (is_lone s l) cs e in
    let (x, j, m) = some_in (met w) c (every_in (some_met w) cs model c i) in
    let fresh : is_flipped s x ≡ false = refute (is_flipped s x) (λ f.
    true≢false (sym m ∙ agrees_unmet s w a x f (lone_flipped s l c lone x j f))) in
    let opp = only_passes (is_opposite l) (restricted s c) (le_of_eq (lone_one s l c lone)) (lone_left s l c lone) x (in_left s c x j fresh) in
    not-true (met w l) (sym (opposite_met l x opp w) ∙ m)

-- ---- the engine's rule

-- a clause that is taken before the first false one
abbrev pub preferred : List Clause → State → Clause → Bool
preferred cs s c = meets_s s c || meets_l cs s c

pub preferred_false : (cs : List Clause) (s : State) (c : Clause) → preferred cs s c ≡ true → is_true s c ≡ false
preferred_false cs s c e = ⊎_elim (short_false s c) (lone_false cs s c) (or_cases (meets_s s c) (meets_l cs s c) e)

-- a literal that is tried has no lone opposite
pub tried_kept : (cs : List Clause) (s : State) (l : Literal) → is_tried (skip cs) s l ≡ true → has_lone_opposite cs s l ≡ false
unfolding is_tried skip
tried_kept cs s l e = not-true _ (and_left (not (has_lone_opposite cs s l)) (not (is_flipped s l)) e)

-- The engine's rule: no literal where some clause is dead, and otherwise those of the clause selected.
pub rule_dead : (cs : List Clause) (s : State) → some (is_dead s) cs ≡ true → rule cs s ≡ []
unfolding rule
rule_dead cs s e = rw e

pub rule_tried : (cs : List Clause) (s : State) → some (is_dead s) cs ≡ false → rule cs s ≡ tried (skip cs) s (select cs s)
unfolding rule branch
rule_tried cs s e = rw e

module _ (n : ℕ) (cs : List Clause) (known : Known n cs) where
  pub rule_fair : (s : State) → every (is_true s) cs ≡ false → Fair cs (select cs) (skip cs) s
  unfolding select skip
  rule_fair s g =
      let (i, e) = selected (some (preferred cs s) cs) refl in
      record {
        chosen = i;
        failing = e;
        spared = λ w model a l i' e'. lone_unmet cs s l e' w model a;
      }
    where
      selected : (b : Bool) → some (preferred cs s) cs ≡ b → In (select cs s) cs × (is_true s (select cs s) ≡ false)
      selected true e = let (i, p) = first_has (preferred cs s) cs _ e in (i, preferred_false cs s _ p)
      selected false e =
          let (i, p) = first_has (λ c. not (is_true s c)) cs [] (some_fails (is_true s) cs g) in
          rw (first_none (preferred cs s) cs _ e) (i, not-true _ p)

  -- Where a clause is dead no model agrees with the flipped variables, and no literal is owed.
  pub dead_branches : (k : ℕ) (s : State) → some (is_dead s) cs ≡ true → Branches n k cs s []
  unfolding all_true
  dead_branches k s e =
      record {
        few = omega arith;
        known = λ l i. absurd (Memᴰ.not-nil i);
        unmet = λ l i. absurd (Memᴰ.not-nil i);
        fresh = λ l i. absurd (Memᴰ.not-nil i);
        hits = λ w model a.
            let (c, i, dead) = some_in (is_dead s) cs e in
            absurd (true≢false (sym (every_in (some_met w) cs model c i) ∙ dead_lost s c dead w a));
      }
