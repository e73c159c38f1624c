-- A run decides: what it finds is a model, and where there is a model it finds one; and its calls are within the bound. All that is
-- cited of its rule is that it is lawful, and of its codes that they cover.
use Rattle.std.specs.Prelude.{◌≡◌, ◌⊎◌, Bool, List, [], ◌∷◌, ℕ, ◌*◌, ◌^◌, ◌≤◌, ◌<◌, leb, length}
use Rattle.std.proofs.Math.Path.{refl}
use Rattle.std.proofs.Common.{sym, ◌∙◌, inl, inr, ⊎_elim, arith, leb-true, leb-false}
use Rattle.std.proofs.Math.Bool.{true, false, true≢false}
use Rattle.std.proofs.lemmas.Bool.{false≢true}
use mathlib.Core.List.Memᴰ
use Rattle.std.proofs.Math.Nat.{le_trans}
use Rattle.words.specs.Lists.{In, span, some, every}
use Rattle.words.proofs.ListLaws.{in_span, length_span, every_in, some_in, keep_in, in_keep, length_keep, refute}
use Rattle.words.proofs.BitLaws.{bit_zero}
use Rattle.formula.specs.Formula.{Literal, Clause, Formula, WellFormed, bit_of, met, some_met, all_true, Satisfiable}
use Rattle.formula.proofs.ModelLaws.{Known, well_formed_known}
use Rattle.tree.specs.Explore.{found, calls, powers}
use Rattle.tree.proofs.TreeLaws.{Finds, try_gives, try_hit, try_calls}
use Rattle.tree.proofs.Decides.{Decides}
use Rattle.ball.specs.Ball.{State, is_true, is_dead, is_flipped, is_tried, tried, branch, select, skip, rule}
use Rattle.ball.proofs.ReadingLaws.{false_unmet}
use Rattle.ball.proofs.RuleLaws.{Lawful, Agrees, Branches, Fair, ball_gives, ball_hit, ball_calls, tried_fresh, tries, agrees_unmet, rule_dead, rule_tried, rule_fair, dead_branches}
use Rattle.search.specs.Run.{Plan, Block, Code, Search, blocks, search_of, summed_radius, centre_count, centre_at, ball, run, longest}
use Rattle.search.proofs.CentreLaws.{Covered, Covering, summed_size, centre_lt, centre_near, blocks_size, blocks_covered}

-- ---- the longest clause

-- k is the length of the longest clause: no clause is longer,
pub longest_in : (cs : List Clause) (c : Clause) → In c cs → length c ≤ longest cs
unfolding longest
longest_in [] c i = absurd (Memᴰ.not-nil i)
longest_in (d ∷ cs) c i =
    ⊎_elim (λ e. rw e (omega arith)) (λ i'. let h = longest_in cs c i' in omega arith) (Memᴰ.cases_cons i)

-- and some clause has that length, or it is 0.
pub longest_reached : (cs : List Clause) → (longest cs ≡ 0) ⊎ ((c : Clause) × In c cs × (length c ≡ longest cs))
unfolding longest
longest_reached [] = inl refl
longest_reached (d ∷ cs) =
    ⊎_elim (λ l. inr (d, Memᴰ.head refl, omega arith))
    (λ l. ⊎_elim (λ z. absurd (omega arith)) (λ (c, i, e). inr (c, Memᴰ.tail i, omega arith)) (longest_reached cs))
    (order (leb (longest cs) (length d)) refl)
  where
    order : (b : Bool) → leb (longest cs) (length d) ≡ b → (longest cs ≤ length d) ⊎ (length d < longest cs)
    order true l = inl (leb-true (longest cs) (length d) l)
    order false l = inr (leb-false (longest cs) (length d) l)

-- ---- the engine's rule is lawful, with the longest clause's length

module _ (n : ℕ) (cs : List Clause) (known : Known n cs) where
  pub branch_lawful : (select : State → Clause) (skip : State → Literal → Bool) →
      ((s : State) → every (is_true s) cs ≡ false → Fair cs select skip s) →
      Lawful n (longest cs) cs (branch select skip)
  unfolding Lawful branch tried Known some_met all_true
  branch_lawful select skip fair s g =
      record {
        few = le_trans (length_keep (is_tried skip s) (select s)) (longest_in cs (select s) f.chosen);
        known = λ l i. unfold bit_of in let h = known (select s) f.chosen l (here l i).0 in omega arith;
        unmet = λ l i. unmet l (here l i).0;
        fresh = λ l i. tried_fresh skip s l (here l i).1;
        hits = λ w model a.
            let (l, i, m) = some_in (met w) (select s) (every_in (some_met w) cs model (select s) f.chosen) in
            let unskipped : skip s l ≡ false = refute (skip s l) (λ e. true≢false (sym m ∙ f.spared w model a l i e)) in
            let still : is_flipped s l ≡ false =
            refute (is_flipped s l) (λ e. true≢false (sym m ∙ agrees_unmet s w a l e (unmet l i))) in
            (l, in_keep (is_tried skip s) (select s) l i (tries skip s l unskipped still), m);
      }
    where
      f : Fair cs select skip s
      f = fair s g

      here : (l : Literal) → In l (branch select skip s) → In l (select s) × (is_tried skip s l ≡ true)
      here l i = keep_in (is_tried skip s) (select s) l i

      unmet : (l : Literal) → In l (select s) → met s.assignment l ≡ false
      unmet l i = false_unmet s (select s) f.failing l i

  -- The engine's rule is lawful.
  pub rule_lawful : Lawful n (longest cs) cs (rule cs)
  unfolding Lawful branch
  rule_lawful s g = go (some (is_dead s) cs) refl
    where
      go : (b : Bool) → some (is_dead s) cs ≡ b → Branches n (longest cs) cs s (rule cs s)
      go true e = rw (rule_dead cs s e) (dead_branches n cs known (longest cs) s e)
      go false e = rw (rule_tried cs s e) (branch_lawful (select cs) (skip cs) (rule_fair n cs known) s g)

-- ---- a run

-- What is known of a search: its rule is lawful, and its blocks hold the n variables and are covered.
pub record Fit (n : ℕ) (q : Search) : Type 0 where
  pub lawful : Lawful n (longest q.clauses) q.clauses q.rule
  pub size : summed_size q.blocks ≡ n
  pub covered : (b : Block) → In b q.blocks → Covered b

module _ (n : ℕ) (q : Search) (fit : Fit n q) where
  -- Every centre is an assignment.
  pub start_lt : (i : ℕ) → centre_at q.blocks i < 2 ^ n
  start_lt i = rw fit.size at (centre_lt q.blocks fit.covered i)

  run_sound : (m c : ℕ) → run q ≡ found m c → (m < 2 ^ n) × (all_true m q.clauses ≡ true)
  unfolding run ball
  run_sound m c e =
      let (i, j, g) = try_gives (ball q) _ m c e in
      ball_gives n (longest q.clauses) q.clauses q.rule fit.lawful _ _ (start_lt i) m g.0 g.1

  -- a model is within R of a centre, and its ball finds it or another
  run_complete : Satisfiable n q.clauses → Finds (run q)
  unfolding run ball Satisfiable Agrees
  run_complete (w, below, model) =
      let (i, l, near) = centre_near q.blocks fit.covered w (rw fit.size below) in
      try_hit (ball q) _ i (in_span 0 _ i (omega arith) (omega arith))
      (ball_hit n (longest q.clauses) q.clauses q.rule fit.lawful w below model _ _ (start_lt i) near
      (λ v e. absurd (false≢true (sym (bit_zero v) ∙ e))))

  pub run_decides : Decides n q.clauses (run q)
  run_decides = record { sound = run_sound; complete = run_complete }

  pub run_bounded : calls (run q) ≤ centre_count q.blocks * powers (longest q.clauses) (summed_radius q.blocks)
  unfolding run ball
  run_bounded =
      rw (length_span 0 (centre_count q.blocks)) at
      (try_calls (ball q) (powers (longest q.clauses) (summed_radius q.blocks)) (span 0 (centre_count q.blocks))
      (λ i j. ball_calls n (longest q.clauses) q.clauses q.rule fit.lawful _ _))

-- ---- the same for a formula, a plan and any covering code

module _ (code : Code) (covering : Covering code) (p : Plan) (f : Formula) (formed : WellFormed f) where
  pub fit : Fit f.n (search_of code p f)
  unfolding search_of
  fit =
      record {
        lawful = rule_lawful f.n f.clauses (well_formed_known f formed);
        size = blocks_size code p f.n;
        covered = blocks_covered code covering p f.n;
      }

  pub formula_decides : Decides f.n f.clauses (run (search_of code p f))
  unfolding search_of
  formula_decides = run_decides f.n (search_of code p f) fit

  pub formula_bounded : calls (run (search_of code p f)) ≤
      centre_count (blocks code p f.n) * powers (longest f.clauses) (summed_radius (blocks code p f.n))
  unfolding search_of
  formula_bounded = run_bounded f.n (search_of code p f) fit
