-- What the operations on a tally say to a host: a refusal leaves what was lent, and on the sheet that began it a tally agrees with
-- `clause_counts` and with `run`.
use Rattle.std.specs.Prelude.{◌≡◌, Bool, true, false, List, ℕ, ◌≤◌, ltb, get_or}
use Rattle.std.proofs.Math.Path.{refl, sym}
use Rattle.std.proofs.Common.{ap, ◌∙◌, arith, ltb-true, ltb-false}
use Rattle.words.specs.Machine.{Lent}
use Rattle.words.proofs.WordLaws.{from_words_same}
use Rattle.words.proofs.ListLaws.{refute}
use Rattle.formula.specs.Formula.{Formula, Satisfiable}
use Rattle.formula.specs.Sheet.{Result, accepted, refused, parse}
use Rattle.tree.specs.Explore.{calls}
use Rattle.ball.specs.Ball.{reading}
use Rattle.search.specs.Run.{Plan}
use Rattle.tally.specs.Tally.{Tally, tally_begin, tally_holds, tally_toggles, left, tally_in}
use Rattle.tally.proofs.Promises.{tally_kept, tally_met, tally_holds_lem}
use Rattle.engine.specs.declared.exports.TallyReply.{TallyReply}
use Rattle.decision.specs.Answers.{outcome, reply_to, marks_of, REFUSED, CLEAR, NONE}
use Rattle.engine.specs.Replies.{clause_counts_of, clause_counts_to, tally_reply_of, TallyMade}
use Rattle.decision.specs.Right.{Right}
use Rattle.decision.specs.DemandLaws.{reply_plan}
use Rattle.decision.specs.Demands.{demand_2}

-- At any refusal, which a host tells by its number, everything that was lent is as it came.
pub refused_leaves : (f : Tally → Result Tally) (marks met : List ℕ) (unmet : ℕ) (r : TallyReply) (marks' met' : List ℕ) (unmet' : ℕ) →
    TallyMade f (tally_in marks met unmet) r (tally_in marks' met' unmet') → Lent marks → Lent marks' → (r.number ≡ 0 → ⊥) →
    (marks' ≡ marks) × (met' ≡ met) × (unmet' ≡ unmet)
unfolding tally_in
refused_leaves f marks met unmet r marks' met' unmet' h a b told =
    let same = h.tally ∙ go (f (tally_in marks met unmet)) h.reply in (
      from_words_same marks' marks b a (ap (λ (t : Tally). t.assignment) same),
      ap (λ (t : Tally). t.met) same,
      ap (λ (t : Tally). t.unmet) same,
    )
  where
    go : (x : Result Tally) → r ≡ tally_reply_of x → left (tally_in marks met unmet) x ≡ tally_in marks met unmet
    go (accepted u) e = unfold tally_reply_of in absurd (told (ap (λ (q : TallyReply). q.number) e))
    go (refused number place) e = unfold left in refl

-- On the sheet that began it, after any toggles:
module _ (s : List ℕ) (f : Formula) (read : parse s ≡ accepted f) (lent : Tally) (vs : List ℕ) where
  abbrev t : Tally
  t = tally_toggles s vs (left lent (tally_begin s))

  -- each number is the first that `clause_counts` gives for its clause, whatever is flipped;
  pub tally_counts : (i flipped : ℕ) →
      get_or t.met i 0 ≡ (clause_counts_to s i (record { assignment = t.assignment; flipped = flipped })).met
  unfolding clause_counts_to clause_counts_of reading
  tally_counts i flipped = tally_met s f read lent vs i ∙ sym (rw read)

  module _ (p : Plan) (A : ℕ) where
    right : ((reply_to p A s).verdict ≡ REFUSED → ⊥) → Right f (calls (outcome p f)) A (reply_to p A s)
    right h = demand_2 p A s f (record { plan = reply_plan p A s h; sheet = read })

    -- where `run` says clear, it holds with the marks given;
    pub tally_clear : (reply_to p A s).verdict ≡ CLEAR → t.assignment ≡ marks_of (reply_to p A s) → tally_holds t.unmet ≡ true
    tally_clear c m = tally_holds_lem s f read lent vs ∙ rw m ((right (λ r. omega arith)).model c).1

    -- where it says none, it never holds.
    pub tally_none : (reply_to p A s).verdict ≡ NONE → tally_holds t.unmet ≡ false
    unfolding Satisfiable
    tally_none c =
        refute _ (λ e.
        let model = sym (tally_holds_lem s f read lent vs) ∙ e in
        (answered.none enough).0 c (t.assignment, (tally_kept s f read lent vs).1, model))
      where
        answered : Right f (calls (outcome p f)) A (reply_to p A s)
        answered = right (λ r. omega arith)

        enough : calls (outcome p f) ≤ A
        enough = go (ltb A (calls (outcome p f))) refl
          where
            go : (b : Bool) → ltb A (calls (outcome p f)) ≡ b → calls (outcome p f) ≤ A
            go true e = absurd (omega (arith, c, answered.spent.1 (ltb-true A _ e)))
            go false e = ltb-false A _ e
