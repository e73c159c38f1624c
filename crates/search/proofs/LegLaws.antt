-- What a leg over balls has shown, for a formula, a plan and any covering code: a ball in which nothing is found has no model in reach,
-- what is found is one, and a ball takes no more calls than a tree of its depth can.
use Rattle.std.specs.Prelude.{◌≡◌, refl, Bool, true, false, List, ℕ, ◌^◌, ◌≤◌, ◌<◌, ltb}
use Rattle.std.proofs.Common.{sym, ◌∙◌, ⊎_elim, arith, pow_pos, ltb-true, ltb-false}
use Rattle.std.proofs.Math.Bool.{true≢false}
use Rattle.std.proofs.lemmas.Bool.{false≢true}
use Rattle.words.specs.Lists.{In}
use Rattle.words.proofs.BitLaws.{bit_zero}
use Rattle.words.proofs.ListLaws.{refute}
use Rattle.formula.specs.Formula.{Clause, Formula, WellFormed, all_true, Satisfiable, once}
use Rattle.formula.specs.Sets.{stands}
use Rattle.formula.proofs.SetLaws.{stands_means, stands_model, within_length}
use Rattle.tree.specs.Explore.{found, calls, powers}
use Rattle.tree.proofs.TreeLaws.{try_gives}
use Rattle.tree.proofs.BudgetLaws.{rest}
use Rattle.tree.proofs.LegLaws.{Nothing}
use Rattle.search.specs.Run.{Plan, Code, blocks, search_of, summed_radius, centre_count, ball, longest, Emptied}
use Rattle.ball.proofs.RuleLaws.{Agrees, ball_gives, ball_hit, ball_calls}
use Rattle.search.proofs.CentreLaws.{Covering, centre_near, blocks_size, blocks_covered}
use Rattle.search.proofs.RunLaws.{Fit, start_lt, fit, longest_in, longest_reached}

module _ (code : Code) (covering : Covering code) (p : Plan) (f : Formula) (formed : WellFormed f) where
  -- Balls in which nothing is found are emptied.
  pub nothing_empties : (i j : ℕ) → Nothing (ball (search_of code p f)) i j → Emptied code p f i j
  unfolding Emptied ball search_of Agrees
  nothing_empties i j nothing x w l b below near =
      let known : Fit f.n (search_of code p f) = fit code covering p f formed in
      refute (all_true w f.clauses) (λ model.
      nothing x l b
      (ball_hit f.n (longest f.clauses) f.clauses _ known.lawful w below model _ _ (start_lt f.n _ known x) near
      (λ v e. absurd (false≢true (sym (bit_zero v) ∙ e)))))

  -- Where all balls are, there is no model.
  pub emptied_all : Emptied code p f 0 (centre_count (blocks code p f.n)) → Satisfiable f.n f.clauses → ⊥
  unfolding Emptied Satisfiable
  emptied_all empty (w, below, model) =
      let (x, l, near) = centre_near (blocks code p f.n) (blocks_covered code covering p f.n) w (rw (blocks_size code p f.n) below) in
      true≢false (sym model ∙ empty x w (omega arith) l below near)

  -- What is found from some ball on is a model.
  pub found_model : (i E m c : ℕ) → rest (ball (search_of code p f)) E i ≡ found m c → (m < 2 ^ f.n) × (all_true m f.clauses ≡ true)
  unfolding rest ball search_of
  found_model i E m c e =
      let known : Fit f.n (search_of code p f) = fit code covering p f formed in
      let (x, _, g) = try_gives (ball (search_of code p f)) _ m c e in
      ball_gives f.n (longest f.clauses) f.clauses _ known.lawful _ _ (start_lt f.n _ known x) m g.0 g.1

  -- A ball takes at most 1 + k + … + k^R calls.
  pub ball_most : (x : ℕ) → calls (ball (search_of code p f) x) ≤ powers (longest f.clauses) (summed_radius (blocks code p f.n))
  unfolding ball search_of
  ball_most x = ball_calls f.n (longest f.clauses) f.clauses _ (fit code covering p f formed).lawful _ _

-- There is a ball.
pub some_centre : (code : Code) → Covering code → (p : Plan) (n : ℕ) → 0 < centre_count (blocks code p n)
some_centre code covering p n =
    let (x, l, near) = centre_near (blocks code p n) (blocks_covered code covering p n) 0 (pow_pos _) in omega arith

-- Balls that are emptied stay so for further clauses,
pub emptied_further : (code : Code) (p : Plan) (f g : Formula) (i j : ℕ) → f.n ≡ g.n → stands f.clauses g.clauses ≡ true →
    Emptied code p f i j → Emptied code p g i j
unfolding Emptied
emptied_further code p f g i j same st empty x w l b below near =
    refute (all_true w g.clauses) (λ model.
    let here = empty x w l b (rw same below) (rw same near) in
    true≢false (sym (stands_model f.clauses g.clauses st w model) ∙ here))

-- and those before them with those after them are emptied together.
pub emptied_join : (code : Code) (p : Plan) (f : Formula) (i j k : ℕ) → Emptied code p f i j → Emptied code p f j k → Emptied code p f i k
unfolding Emptied
emptied_join code p f i j k low high x w l b below near = go (ltb x j) refl
  where
    go : (t : Bool) → ltb x j ≡ t → all_true w f.clauses ≡ false
    go true e = low x w l (ltb-true x j e) below near
    go false e = high x w (ltb-false x j e) b below near

-- Further clauses do not make the longest one shorter.
pub stands_longest : (cs ds : List Clause) → ((c : Clause) → In c cs → once c ≡ true) → stands cs ds ≡ true → longest cs ≤ longest ds
stands_longest cs ds single st =
    ⊎_elim
    (λ none. omega arith)
    (λ (c, i, e).
    let (d, j, same) = (stands_means cs ds).0 st c i in
    let short = within_length c d (single c i) (λ l. (same l).0) in
    let most = longest_in ds d j in
    omega arith)
    (longest_reached cs)
