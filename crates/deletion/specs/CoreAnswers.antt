-- What `clash` answers and leaves (02, paper 13), for every plan, budget, sheet and list: case by case; of a none the clauses kept; larger budgets, and a
-- budget that is enough.
use Rattle.std.specs.Prelude.{◌≡◌, ◌↔◌, Bool, cond, ℕ, ◌*◌, ◌≤◌, ◌<◌, drop}
use Rattle.std.proofs.Math.Path.{refl, subst}
use Rattle.std.proofs.Common.{sym, ap, ◌∙◌}
use Rattle.std.proofs.Math.Bool.{true, false}
use mathlib.Core.List.{List, [], ◌∷◌, ◌++◌}
use Rattle.std.proofs.Math.Nat.{le_trans}
use native.Mathlib.Omega.{arith}
use Rattle.std.proofs.Math.Dec.{ltb}
use Rattle.std.proofs.Math.ListN.{length}
use Rattle.std.proofs.Math.Pow.{pow_pos}
use borrow.Author.Tests.{ltb-true, ltb-false, lt-ltb, le-ltb}
use Rattle.words.specs.Lists.{In, every}
use Rattle.words.proofs.ListLaws.{apart}
use Rattle.formula.specs.Formula.{Formula, WellFormed, all_true, Satisfiable}
use Rattle.formula.specs.Sheet.{Result, accepted, parse, encode}
use Rattle.formula.specs.Refusals.{Reason}
use Rattle.formula.proofs.ParseEncode.{parse_encode}
use Rattle.formula.proofs.ParseAccepted.{parse_well_formed}
use Rattle.formula.proofs.ParseRefused.{parse_refused}
use Rattle.code.specs.Code.{code}
use Rattle.code.specs.Operations.{coded?}
use Rattle.tree.specs.Explore.{powers}
use Rattle.tree.specs.Budget.{answer}
use Rattle.tree.proofs.BudgetLaws.{spent_calls}
use Rattle.tree.proofs.Decides.{IsNone, IsSpent}
use Rattle.search.specs.Run.{Plan, blocks, centre_count, summed_radius, longest}
use Rattle.decision.specs.declared.Reply.{Reply}
use Rattle.decision.specs.Answers.{outcome, refusal, judged, numbers_of, reply_of, reply_to, counts, declines, BAD_PLAN, NONE, SPENT}
use Rattle.decision.specs.Right.{Accepted, decided_by}
use Rattle.decision.specs.DemandLaws.{outcome_bounded, reply_accepted, none_number, spent_number}
use Rattle.deletion.specs.Core.{pick, only, Core, ended, core, deletion, core_read, core_to, clash_to, list_after, SHORT_LIST}
use Rattle.deletion.specs.CoreLaws.{Rising, without, run_of, IsCore, Sifted, to_core, to_spent, Deleted, run_clear, run_spent, sifted, SaysNone, rising_length, only_formed, deletion_comes, core_unsat, never_spent, deletion_stays}

-- ---- case by case

-- a list with a cell for each clause
abbrev Room : Formula → List ℕ → Type 0
Room f list = length f.clauses ≤ length list

-- The reply, and what the list then holds. Only a none writes it.
pub data ClashAnswered (p : Plan) (A : ℕ) (s list : List ℕ) : Reply → List ℕ → Type 0 where
  bad_plan_lem : coded? p.size p.radius ≡ false → ClashAnswered p A s list (declines BAD_PLAN 0) list
  bad_sheet : {number place : ℕ} → coded? p.size p.radius ≡ true → Reason s number place →
      ClashAnswered p A s list (declines number place) list
  short_list : {f : Formula} → Accepted p s f → length list < length f.clauses → ClashAnswered p A s list (declines SHORT_LIST 0) list
  -- the run of the sheet is clear or spent: what it gave
  as_run : {f : Formula} → Accepted p s f → Room f list → ((reply_to p A s).verdict ≡ NONE → ⊥) → ClashAnswered p A s list (reply_to p A s) list
  -- the run of some of its clauses is spent: what that gave
  is_spent : {f : Formula} {numbers : List ℕ} → Accepted p s f → Room f list → (reply_to p A s).verdict ≡ NONE →
      Rising (length f.clauses) 0 numbers → IsSpent (run_of p A f numbers) →
      ClashAnswered p A s list (counts SPENT f.batch (decided_by (only f numbers)) 0 A) list
  is_none : {f : Formula} {kept : List ℕ} → Accepted p s f → Room f list → (reply_to p A s).verdict ≡ NONE → IsCore p A f kept →
      ClashAnswered p A s list (counts NONE f.batch (decided_by f) 0 (length kept)) (kept ++ drop (length kept) list)

-- what a core comes to in the reply and in the list
abbrev Case : Plan → ℕ → (s list : List ℕ) → Core → Type 0
Case p A s list c = ClashAnswered p A s list (reply_of c.decision) (list_after c.kept list)

module _ (p : Plan) (A : ℕ) (s : List ℕ) (f : Formula) (h : Accepted p s f) where
  -- the reply of a run in its answer
  run_none : ((reply_to p A s).verdict ≡ NONE) ↔ IsNone (answer A (outcome p f))
  run_none =
      let number = none_number f.batch (decided_by f) (answer A (outcome p f)) in
      (λ v. number.0 (rw (reply_accepted p A s f h) at v), λ e. ap (λ (r : Reply). r.verdict) (reply_accepted p A s f h) ∙ number.1 e)

  module _ (list : List ℕ) (room : Room f list) where
    by_run : (IsNone (answer A (outcome p f)) → ⊥) → Case p A s list (ended (judged p A f))
    unfolding list_after ended judged reply_of
    by_run other =
        subst (λ (r : Reply). ClashAnswered p A s list r list) (reply_accepted p A s f h) (as_run h room (λ v. other (run_none.0 v)))

    by_sifted : (reply_to p A s).verdict ≡ NONE → (c : Core) → Sifted p A f c → Case p A s list c
    unfolding list_after core ended judged reply_of
    by_sifted none c (to_core k) = unfold numbers_of in is_none h room none k
    by_sifted none c (to_spent r (k, e)) =
        let same = (spent_calls A _ k e).1 in
        rw (e, same) (unfold numbers_of in is_spent h room none r (k, e))

    by_deleted : (c : Core) → Deleted p A f c → Case p A s list c
    by_deleted c (run_clear (m, k, e)) = by_run (λ (x, n). apart (cc))
    by_deleted c (run_spent (k, e)) = by_run (λ (x, n). apart (cc))
    by_deleted c (sifted none d) = by_sifted (run_none.1 none) c d

-- For any bytes, plan, budget and list.
pub clash_answered : (p : Plan) (A : ℕ) (s list : List ℕ) →
    ClashAnswered p A s list (clash_to p A s (length list)) (list_after (core_to p A s (length list)).kept list)
unfolding clash_to core_to
clash_answered p A s list = by_plan (coded? p.size p.radius) refl
  where
    by_room : (f : Formula) → Accepted p s f → (b : Bool) → ltb (length list) (length f.clauses) ≡ b →
        Case p A s list (cond b (ended (refusal SHORT_LIST 0)) (deletion p A f))
    by_room f h true e = unfold ended refusal reply_of numbers_of list_after in short_list h (ltb-true _ _ e)
    by_room f h false e = by_deleted p A s f h list (ltb-false _ _ e) _ (deletion_comes p A f (parse_well_formed s f h.sheet))

    by_sheet : coded? p.size p.radius ≡ true → (r : Result Formula) → parse s ≡ r → Case p A s list (core_read p A (length list) r)
    by_sheet h (accepted f) e = unfold core_read in by_room f (record { plan = h; sheet = e }) _ refl
    by_sheet h (Result.refused number place) e =
        unfold core_read ended refusal reply_of numbers_of list_after in bad_sheet h (parse_refused s number place e)

    by_plan : (b : Bool) → coded? p.size p.radius ≡ b →
        Case p A s list (cond b (core_read p A (length list) (parse s)) (ended (refusal BAD_PLAN 0)))
    by_plan true h = by_sheet h (parse s) refl
    by_plan false h = unfold ended refusal reply_of numbers_of list_after in bad_plan_lem h

-- ---- a none

-- What a none of `clash` says of an accepted formula and the clauses kept.
pub record Clashes (p : Plan) (A : ℕ) (s : List ℕ) (f : Formula) (kept : List ℕ) : Type 0 where
  -- They are a part of the sheet: their numbers rise and are below the number of clauses.
  pub part : Rising (length f.clauses) 0 kept
  -- A run of just them, with the same plan and budget, says none,
  pub none : (reply_to p A (encode (only f kept))).verdict ≡ NONE
  -- so that they have no model;
  pub no_model : Satisfiable f.n (pick f.clauses kept) → ⊥
  -- without any one of them the others have one.
  pub needed : (i : ℕ) → In i kept → Satisfiable f.n (pick f.clauses (without i kept))
  -- The run of the whole sheet says none.
  pub whole : (reply_to p A s).verdict ≡ NONE

module _ (p : Plan) (A : ℕ) (s : List ℕ) (f : Formula) (h : Accepted p s f) (cells : ℕ) where
  -- a list with a cell for each clause
  pub core_room : length f.clauses ≤ cells → core_to p A s cells ≡ deletion p A f
  unfolding core_to core_read
  core_room room = rw (h.plan, h.sheet, le-ltb cells (length f.clauses) room)

  core_short : cells < length f.clauses → core_to p A s cells ≡ ended (refusal SHORT_LIST 0)
  unfolding core_to core_read
  core_short short = rw (h.plan, h.sheet, lt-ltb cells (length f.clauses) short)

  -- a short list gets no none
  none_room : (clash_to p A s cells).verdict ≡ NONE → length f.clauses ≤ cells
  unfolding clash_to
  none_room v = go (ltb cells (length f.clauses)) refl
    where
      go : (b : Bool) → ltb cells (length f.clauses) ≡ b → length f.clauses ≤ cells
      go false e = ltb-false _ _ e
      go true e =
          unfold ended refusal reply_of numbers_of in
          let short = rw (core_short (ltb-true _ _ e)) at v in absurd (omega arith)

-- what comes of a formula with a none in its reply
record Cored (p : Plan) (A : ℕ) (f : Formula) (c : Core) : Type 0 where
  none : IsNone (answer A (outcome p f))
  core : IsCore p A f c.kept
  says : SaysNone c
  count : (reply_of c.decision).calls ≡ length c.kept

module _ (p : Plan) (A : ℕ) (f : Formula) where
  -- the run of a formula has no none in its reply where its answer has none
  no_none : (g : Formula) → (IsNone (answer A (outcome p g)) → ⊥) → (reply_of (judged p A g)).verdict ≡ NONE → ⊥
  unfolding reply_of judged
  no_none g other v = other ((none_number g.batch (decided_by g) _).0 v)

  cored : (c : Core) → Deleted p A f c → (reply_of c.decision).verdict ≡ NONE → Cored p A f c
  unfolding ended
  cored c (run_clear (m, k, e)) v = absurd (no_none f (λ (x, n). apart (cc)) v)
  cored c (run_spent (k, e)) v = absurd (no_none f (λ (x, n). apart (cc)) v)
  cored c (sifted none (to_core k)) v =
      unfold core reply_of numbers_of in record { none = none; core = k; says = (_, refl); count = refl }
  cored c (sifted none (to_spent {numbers} r (k, e))) v = absurd (no_none (only f numbers) (λ (x, n). apart (cc)) v)

module _ (p : Plan) (A : ℕ) (s : List ℕ) (f : Formula) (h : Accepted p s f) (cells : ℕ) (v : (clash_to p A s cells).verdict ≡ NONE) where
  formed : WellFormed f
  formed = parse_well_formed s f h.sheet

  none_cored : Cored p A f (core_to p A s cells)
  unfolding clash_to
  none_cored =
      let same = core_room p A s f h cells (none_room p A s f h cells v) in
      cored p A f (core_to p A s cells) (subst (Deleted p A f) (sym same) (deletion_comes p A f formed)) v

  pub clash_none : Clashes p A s f (core_to p A s cells).kept
  clash_none =
      let k = none_cored.core in
      let own = only_formed f formed k.part in
      record {
        part = k.part;
        none = (run_none p A _ _ (record { plan = h.plan; sheet = parse_encode _ own })).1 k.none;
        no_model = core_unsat p A f formed k;
        needed = k.needed;
        whole = (run_none p A s f h).1 none_cored.none;
      }

  -- The count is the number of clauses kept, which the list has room for.
  pub clash_count : ((clash_to p A s cells).calls ≡ length (core_to p A s cells).kept) × (length (core_to p A s cells).kept ≤ cells)
  unfolding clash_to
  clash_count = (none_cored.count, le_trans (rising_length none_cored.core.part) (none_room p A s f h cells v))

  -- Some clause is kept.
  pub clash_some : 0 < length (core_to p A s cells).kept
  unfolding Satisfiable pick all_true every
  clash_some = go (core_to p A s cells).kept clash_none.no_model
    where
      go : (kept : List ℕ) → (Satisfiable f.n (pick f.clauses kept) → ⊥) → 0 < length kept
      go [] no_model = absurd (no_model (0, pow_pos f.n, refl))
      go (i ∷ kept) no_model = omega arith

-- ---- budgets

-- A none and its list stay the same under every larger budget.
pub clash_stays : (p : Plan) (A B : ℕ) (s : List ℕ) (f : Formula) → Accepted p s f → (cells : ℕ) → A ≤ B → (clash_to p A s cells).verdict ≡ NONE →
    core_to p B s cells ≡ core_to p A s cells
clash_stays p A B s f h cells more v =
    let room = none_room p A s f h cells v in
    let says = subst SaysNone (core_room p A s f h cells room) (none_cored p A s f h cells v).says in
    core_room p B s f h cells room ∙ deletion_stays p A B f more says ∙ sym (core_room p A s f h cells room)

-- With a budget of at least M × (1 + k + … + k^R) nothing is spent.
pub clash_enough : (p : Plan) (A : ℕ) (s : List ℕ) (f : Formula) → Accepted p s f → (cells : ℕ) →
    centre_count (blocks code p f.n) * powers (longest f.clauses) (summed_radius (blocks code p f.n)) ≤ A →
    (clash_to p A s cells).verdict ≡ SPENT → ⊥
unfolding clash_to
clash_enough p A s f h cells enough v = by_room (ltb cells (length f.clauses)) refl
  where
    own : WellFormed f
    own = parse_well_formed s f h.sheet

    run_is : (g : Formula) → (reply_of (judged p A g)).verdict ≡ SPENT → IsSpent (answer A (outcome p g))
    run_is g w = unfold reply_of judged in (spent_number g.batch (decided_by g) _).0 w

    go : (c : Core) → Deleted p A f c → (reply_of c.decision).verdict ≡ SPENT → ⊥
    go c (run_clear (m, k, e)) w = unfold ended in let (x, n) = run_is f w in apart (cc)
    go c (run_spent (k, e)) w = omega (arith, (spent_calls A _ k e).0, le_trans (outcome_bounded p f own) enough)
    go c (sifted none (to_core k)) w = unfold core reply_of numbers_of in omega arith
    go c (sifted none (to_spent r k)) w = never_spent p A f own enough r k

    by_room : (b : Bool) → ltb cells (length f.clauses) ≡ b → ⊥
    by_room true e =
        unfold ended refusal reply_of numbers_of in
        let short = rw (core_short p A s f h cells (ltb-true _ _ e)) at v in omega arith
    by_room false e = go _ (deletion_comes p A f own) (rw (core_room p A s f h cells (ltb-false _ _ e)) at v)
