-- What a reply says of a Horn sheet (02, paper 9): its road, at most n + 1 rounds, the same by every plan, and the least model.
use Rattle.std.specs.Prelude.{◌≡◌, ◌⊎◌, Bool, true, cond, List, ℕ, ◌+◌, ◌≤◌}
use Rattle.std.proofs.Math.Path.{refl}
use Rattle.std.proofs.Common.{sym, ap, ◌∙◌, inl, inr, le_trans}
use Rattle.std.proofs.Math.Bool.{false}
use Rattle.words.specs.Bits.{bit}
use Rattle.formula.specs.Formula.{Formula, all_true}
use Rattle.formula.proofs.ParseAccepted.{parse_well_formed}
use Rattle.tree.specs.Explore.{Outcome, calls}
use Rattle.tree.specs.Budget.{answer}
use Rattle.code.specs.Code.{code}
use Rattle.search.specs.Run.{Plan, search_of, run, longest}
use Rattle.search.proofs.RunLaws.{longest_in}
use Rattle.horn.specs.Horn.{is_horn, rounds}
use Rattle.horn.proofs.HornLaws.{Subset, short_horn, small_horn, rounds_bounded, rounds_least}
use Rattle.decision.specs.declared.Method.TheVariants.{Horn, Balls}
use Rattle.decision.specs.declared.Reply.{Reply}
use Rattle.decision.specs.Answers.{method_of, outcome, answered, method_number, numbers_of, marks_of, reply_to, CLEAR, HORN, BALLS}
use Rattle.decision.specs.Right.{Accepted, decided_by}
use Rattle.decision.specs.DemandLaws.{outcome_decides, reply_accepted, clear_marks, method_number_lem}

-- The reply to an accepted sheet says which road it took: rounds where the sheet is Horn, and balls otherwise.
pub method_told : (p : Plan) (A : ℕ) (s : List ℕ) (f : Formula) → Accepted p s f →
    (reply_to p A s).road ≡ cond (is_horn f.clauses) HORN BALLS
unfolding method_of
method_told p A s f h =
    ap (λ (r : Reply). r.road) (reply_accepted p A s f h) ∙ method_number_lem f.batch (decided_by f) _ ∙ go (is_horn f.clauses)
  where
    go : (b : Bool) → method_number (cond b Horn Balls) ≡ cond b HORN BALLS
    go true = unfold method_number in refl
    go false = unfold method_number in refl

-- A Horn sheet is decided by rounds,
pub by_rounds : (p : Plan) (f : Formula) → is_horn f.clauses ≡ true → outcome p f ≡ rounds f.n f.clauses
unfolding outcome
by_rounds p f horn = rw horn

-- and every other is searched as before.
pub by_balls : (p : Plan) (f : Formula) → is_horn f.clauses ≡ false → outcome p f ≡ run (search_of code p f)
unfolding outcome
by_balls p f other = rw other

-- With n 0 or 1, without clauses, and without a clause of two literals, a sheet is Horn.
pub edges_horn : (p : Plan) (s : List ℕ) (f : Formula) → Accepted p s f → (f.n ≤ 1) ⊎ (longest f.clauses ≤ 1) →
    is_horn f.clauses ≡ true
edges_horn p s f h (inl l) = small_horn f.n f.clauses (parse_well_formed s f h.sheet).each l
edges_horn p s f h (inr l) = short_horn f.clauses (λ c i. le_trans (longest_in f.clauses c i) l)

module _ (p : Plan) (s : List ℕ) (f : Formula) (h : Accepted p s f) (horn : is_horn f.clauses ≡ true) where
  -- On a Horn sheet the calls needed are rounds, at most n + 1;
  pub horn_rounds : calls (outcome p f) ≤ f.n + 1
  horn_rounds = rw (by_rounds p f horn) (rounds_bounded f.n f.clauses horn)

  -- every accepted plan gets the same reply;
  pub horn_plan : (q : Plan) → Accepted q s f → (A : ℕ) → reply_to q A s ≡ reply_to p A s
  horn_plan q h' A =
      reply_accepted q A s f h'
      ∙ ap (λ (o : Outcome). numbers_of f.batch (decided_by f) (answered (answer A o))) (by_rounds q f horn ∙ sym (by_rounds p f horn))
      ∙ sym (reply_accepted p A s f h)

  -- and the marks of a clear are the least: each variable set there is set in every model.
  pub horn_least : (A : ℕ) → (reply_to p A s).verdict ≡ CLEAR → (w : ℕ) → all_true w f.clauses ≡ true →
      (v : ℕ) → bit (marks_of (reply_to p A s)) v ≡ true → bit w v ≡ true
  unfolding Subset
  horn_least A c w model =
      let formed = parse_well_formed s f h.sheet in
      let (d, o) = clear_marks A f.batch (decided_by f) (outcome_decides p f formed) formed.variables (reply_accepted p A s f h) c in
      rounds_least f.n f.clauses horn _ d (sym (by_rounds p f horn) ∙ o) w model
