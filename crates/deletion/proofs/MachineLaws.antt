-- The laws that the machine of deletion cites.
use Rattle.std.specs.Prelude.{◌≡◌, refl, Bool, true, false, List, [], ◌∷◌, ◌++◌, map, ℕ, suc, ◌+◌, ◌≤◌, ◌<◌, length, get_or, take}
use Rattle.std.proofs.Common.{sym, ap, ap₂, ◌∙◌, subst, true≢false, zero-add, arith, length-append, ext_get_or, take-take, take_all}
use Rattle.std.proofs.Math.ListN.{length-map, get_or-map, get_or-eq_default}
use Rattle.std.proofs.lemmas.List.{length-take-le, get_or-take, take_more, append-nil, append_assoc, take-append-le}
use Rattle.words.specs.Lists.{span}
use Rattle.words.proofs.ListLaws.{length_span, get_or_span, every_in, in_every}
use Rattle.formula.specs.Formula.{Clause, Formula}
use Rattle.tree.specs.Budget.{clear, none}
use Rattle.search.specs.Run.{Plan, plan}
use Rattle.horn.specs.Horn.{is_horn}
use Rattle.decision.specs.Answers as Spec
use Rattle.decision.specs.declared.Method.{Method}
use Rattle.decision.specs.declared.Verdict.{Verdict}
use Rattle.decision.specs.declared.Verdict.TheVariants.{Clear, None, Spent, Refused}
use Rattle.decision.specs.Machine.{verdict_in}
use Rattle.decision.specs.Answers.{answered, judged, method_of, refusal, BAD_PLAN}
use Rattle.code.specs.Operations.{coded?}
use Rattle.formula.specs.Sheet.{accepted, refused, parse}
use borrow.Author.Tests.{lt-ltb, le-ltb}
use Rattle.deletion.specs.Core.{pick, only, Core, core, ended, by_verdict, sift, deletion, core_read, core_to, list_after, SHORT_LIST}
use Rattle.deletion.specs.CoreLaws.{Rising, no_more, next, rising_in, rising_lower, rising_span, rising_few, in_get_or, pick_length, pick_in}
use Rattle.deletion.specs.Machine.{Begins, Trying, Onward, left_out, stays, Ends, Sifting, Leaves}

-- ---- the clauses with some numbers

module _ (cs : List Clause) where
  at : ℕ → Clause
  at i = get_or cs i []

  -- the first of them
  pub pick_first : (i : ℕ) → i ≤ length cs → pick cs (span 0 i) ≡ take i cs
  unfolding pick at
  pick_first i h =
      let numbers = span 0 i in
      let long : length (map at numbers) ≡ i = length-map numbers at ∙ length_span 0 i in
      let short : length (take i cs) ≡ i = length-take-le i cs h in
      ext_get_or [] (map at numbers) (take i cs) (long ∙ sym short) (λ j l.
      let past : at (length cs) ≡ [] = get_or-eq_default cs [] (omega arith) in
      let inside : j < i = rw long at l in
      ap (λ (d : Clause). get_or (map at numbers) j d) (sym past)
      ∙ get_or-map at numbers j (length cs)
      ∙ ap at (get_or_span 0 i j (length cs) inside ∙ zero-add j)
      ∙ sym (get_or-take i cs j [] inside))

  pub pick_both : (numbers more : List ℕ) → pick cs (numbers ++ more) ≡ pick cs numbers ++ pick cs more
  unfolding pick at
  pick_both [] more = refl
  pick_both (i ∷ numbers) more = ap (λ (ds : List Clause). at i ∷ ds) (pick_both numbers more)

-- any part of Horn clauses is Horn
pub part_balls : (cs : List Clause) {numbers : List ℕ} → Rising (length cs) 0 numbers → is_horn (pick cs numbers) ≡ false → is_horn cs ≡ false
unfolding is_horn
part_balls cs {numbers} r e = go (is_horn cs) refl
  where
    go : (b : Bool) → is_horn cs ≡ b → b ≡ false
    go false q = refl
    go true q = absurd (true≢false (sym (in_every _ (pick cs numbers) (λ c i. every_in _ cs q c (pick_in cs r c i))) ∙ e))

-- ---- a trial

module _ (f : Formula) (i : ℕ) (later : List ℕ) (t : Formula) (h : Trying f i later t) where
  room : suc i + length later ≤ length f.clauses
  room = rising_few (omega (arith, h.inside)) h.rising

  -- It begins with the clauses before i,
  pub rest_start : (t' : Formula) → t' ≡ record { batch = t.batch; n = t.n; clauses = take i t.clauses } → t' ≡ only f (span 0 i ++ take 0 later)
  rest_start t' e =
      let rows = h.begins.rows ∙ sym (pick_first f.clauses i (omega (arith, h.inside))) in
      e ∙ rw (h.begins.batch, h.begins.n, rows, append-nil (span 0 i))

  -- and those kept come behind them, one after the other,
  pub rest_next : (j : ℕ) → j < length later → (t' u : Formula) → t' ≡ only f (span 0 i ++ take j later) → (c : Clause) →
      c ≡ get_or f.clauses (get_or later j 0) [] → u ≡ record { batch = t'.batch; n = t'.n; clauses = t'.clauses ++ (c ∷ []) } →
      u ≡ only f (span 0 i ++ take (j + 1) later)
  rest_next j l t' u e c same made =
      let more : span 0 i ++ take (j + 1) later ≡ (span 0 i ++ take j later) ++ (get_or later j 0 ∷ []) =
      ap (λ (xs : List ℕ). span 0 i ++ xs) (take_more later j 0 l) ∙ sym (append_assoc (span 0 i) (take j later) (get_or later j 0 ∷ [])) in
      let one : pick f.clauses (get_or later j 0 ∷ []) ≡ c ∷ [] = unfold pick in rw same refl in
      made ∙ rw (e, more, pick_both f.clauses (span 0 i ++ take j later) (get_or later j 0 ∷ []), one)

  -- for which there is room.
  pub rest_few : (j : ℕ) → j < length later → (t' : Formula) → t' ≡ only f (span 0 i ++ take j later) → length t'.clauses < length f.clauses
  rest_few j l t' e =
      let long : length t'.clauses ≡ i + j =
      ap (λ (g : Formula). length g.clauses) e
      ∙ pick_length f.clauses (span 0 i ++ take j later)
      ∙ length-append (span 0 i) (take j later)
      ∙ ap₂ (λ (x y : ℕ). x + y) (length_span 0 i) (length-take-le j later (omega arith)) in
      omega (arith, long, room)

  pub rest_known : (j : ℕ) → j < length later → get_or later j 0 < length f.clauses
  rest_known j l = (rising_in h.rising _ (in_get_or later j 0 l)).1

  pub rest_done : (j : ℕ) → length later ≤ j → (t' : Formula) → t' ≡ only f (span 0 i ++ take j later) → t' ≡ only f (span 0 i ++ later)
  rest_done j l t' e = e ∙ ap (λ (xs : List ℕ). only f (span 0 i ++ xs)) (take_all j later l)

-- ---- going through the clauses

pub sifting_start : (p : Plan) (A : ℕ) (f : Formula) → Sifting p A f [] f (length f.clauses)
sifting_start p A f =
    record { begins = record { batch = refl; n = refl; rows = refl }; inside = omega arith; rising = no_more; same = refl }

module _ (p : Plan) (A : ℕ) (f : Formula) (later : List ℕ) (t : Formula) (i : ℕ) (s : Sifting p A f later t (suc i)) where
  pub sifting_tries : Trying f i later t
  sifting_tries =
      record {
        begins = record { batch = s.begins.batch; n = s.begins.n; rows = sym (take-take i (suc i) t.clauses (omega arith)) ∙ ap (take i) s.begins.rows ∙ take-take i (suc i) f.clauses (omega arith) };
        inside = omega (arith, s.inside);
        rising = s.rising;
      }

  abbrev numbers : List ℕ
  numbers = span 0 i ++ later

  part : Rising (length f.clauses) 0 numbers
  part = rising_span 0 i (omega (arith, s.inside)) (rising_lower (omega arith) s.rising)

  -- a part that is not Horn is one of clauses that are not
  pub sifting_balls : (u : Formula) → u ≡ only f numbers → is_horn u.clauses ≡ false → is_horn f.clauses ≡ false
  sifting_balls u e h = part_balls f.clauses part (ap (λ (g : Formula). is_horn g.clauses) (sym e) ∙ h)

  pub sifting_room : length later < length f.clauses
  sifting_room = let few = rising_few s.inside s.rising in omega arith

  module _ (u : Formula) (rest : u ≡ only f numbers) (d : Spec.Decision) (run : d ≡ judged p A u) where
    said : d ≡ judged p A (only f numbers)
    said = run ∙ ap (judged p A) rest

    begins : Begins f i u
    begins =
        let first : take i (pick f.clauses numbers) ≡ take i f.clauses =
        ap (take i) (pick_both f.clauses (span 0 i) later ∙ ap (λ (cs : List Clause). cs ++ pick f.clauses later) (pick_first f.clauses i (omega (arith, s.inside))))
        ∙ take-append-le i (take i f.clauses) (pick f.clauses later) (rw (length-take-le i f.clauses (omega (arith, s.inside))) (omega arith))
        ∙ take-take i i f.clauses (omega arith) in
        record {
          batch = ap (λ (g : Formula). g.batch) rest;
          n = ap (λ (g : Formula). g.n) rest;
          rows = ap (λ (g : Formula). take i g.clauses) rest ∙ first;
        }

    -- A clause without which there is none is left out,
    sifting_out : (c : ℕ) → d.verdict ≡ answered (none c) → Sifting p A f later u i
    unfolding sift by_verdict
    sifting_out c v =
        record {
          begins = begins;
          inside = omega (arith, s.inside);
          rising = rising_lower (omega arith) s.rising;
          same = sym (rw (sym (ap (λ (e : Spec.Decision). e.verdict) said) ∙ v)) ∙ s.same;
        }

    -- one without which there is a model is kept,
    sifting_kept : (m c : ℕ) → d.verdict ≡ answered (clear m c) → Sifting p A f (i ∷ later) u i
    unfolding sift by_verdict
    sifting_kept m c v =
        record {
          begins = begins;
          inside = omega (arith, s.inside);
          rising = next {low = i} {i = i} (omega arith) (omega (arith, s.inside)) s.rising;
          same = sym (rw (sym (ap (λ (e : Spec.Decision). e.verdict) said) ∙ v)) ∙ s.same;
        }

    pub sifting_onward : (later' : List ℕ) → Onward d.verdict i later later' → Sifting p A f later' u i
    sifting_onward _ (left_out c v) = sifting_out c v
    sifting_onward _ (stays m c v) = sifting_kept m c v

    -- and anything else ends the work.
    pub sifting_ends : Ends d.verdict → ended d ≡ sift p A f (length f.clauses) []
    unfolding sift
    sifting_ends other =
        let rest = ended (judged p A (only f numbers)) in
        let stop : by_verdict (judged p A (only f numbers)).verdict (sift p A f i later) (sift p A f i (i ∷ later)) rest ≡ rest =
        subst (λ (e : Spec.Decision). by_verdict e.verdict (sift p A f i later) (sift p A f i (i ∷ later)) rest ≡ rest) said (other _ _ _) in
        ap ended said ∙ sym stop ∙ s.same

-- All are gone through.
pub sifting_done : (p : Plan) (A : ℕ) (f : Formula) (later : List ℕ) (t : Formula) (i : ℕ) → Sifting p A f later t i → i ≡ 0 →
    core f later ≡ sift p A f (length f.clauses) []
unfolding sift
sifting_done p A f later t i s e = sym (ap (λ (x : ℕ). sift p A f x later) e) ∙ s.same

-- and no more are kept than there are
pub sifting_few : (p : Plan) (A : ℕ) (f : Formula) (later : List ℕ) (t : Formula) (i : ℕ) → Sifting p A f later t i → length later ≤ length f.clauses
sifting_few p A f later t i s = let few = rising_few s.inside s.rising in omega arith

-- ---- what is left of the list

-- an answer without a core leaves it
pub ended_leaves : (c : Core) (d : Spec.Decision) (list : List ℕ) → c ≡ ended d → Leaves c list d list
unfolding ended list_after
ended_leaves c d list e = rw e (record { decided = refl; holds = refl })

-- and the numbers kept go to it.
pub kept_leaves : (c : Core) (f : Formula) (later : List ℕ) → c ≡ core f later → (list₀ : List ℕ) (m : Method) → m ≡ method_of f →
    (k : ℕ) → k ≡ length later → (list : List ℕ) → list ≡ list_after later list₀ →
    Leaves c list₀ (record { batch = f.batch; method = m; verdict = answered (none k) }) list
unfolding core
kept_leaves c f later e list₀ m same k count list stored = rw (e, same, count) (record { decided = refl; holds = stored })

-- ---- the whole sheet

module _ (p : Plan) (A : ℕ) (f : Formula) (list : List ℕ) (d : Spec.Decision) (run : d ≡ judged p A f) where
  -- by the method of the formula
  pub method_whole : d.method ≡ method_of f
  unfolding judged
  method_whole = ap (λ (e : Spec.Decision). e.method) run

  -- a none is gone into,
  pub none_leaves : (c : ℕ) → d.verdict ≡ answered (none c) → (e : Spec.Decision) (list' : List ℕ) →
      Leaves (sift p A f (length f.clauses) []) list e list' → Leaves (deletion p A f) list e list'
  unfolding deletion by_verdict
  none_leaves c v e list' h = rw (sym (ap (λ (x : Spec.Decision). x.verdict) run) ∙ v) h

  -- and whatever else it said is the answer.
  pub other_leaves : ((x y : Core) → by_verdict d.verdict x y y ≡ y) → Leaves (deletion p A f) list d list
  unfolding deletion
  other_leaves other =
      let whole = ended (judged p A f) in
      let first = sift p A f (length f.clauses) [] in
      let ends : deletion p A f ≡ whole =
      subst (λ (e : Spec.Decision). by_verdict e.verdict first whole whole ≡ whole) run (other first whole) in
      ended_leaves _ d list (ends ∙ ap ended (sym run))

-- What is no none is not gone into.
pub other_said : (v : Verdict) → ((c : ℕ) → v ≡ None c → ⊥) → (x y : Core) → by_verdict (verdict_in v) x y y ≡ y
unfolding by_verdict verdict_in
other_said (Clear m c) h x y = refl
other_said (None c) h x y = absurd (h c refl)
other_said (Spent c) h x y = refl
other_said (Refused r) h x y = refl

-- ---- a plan and the bytes of a sheet

module _ (size radius A : ℕ) (s list : List ℕ) where
  -- a bad plan goes first;
  pub core_bad : coded? size radius ≡ false → Leaves (core_to (plan size radius) A s (length list)) list (refusal BAD_PLAN 0) list
  unfolding core_to
  core_bad e = ended_leaves _ _ list (rw e)

  module _ (good : coded? size radius ≡ true) where
    -- then the sheet's refusal;
    pub core_declined : (number place : ℕ) → refused number place ≡ parse s →
        Leaves (core_to (plan size radius) A s (length list)) list (refusal number place) list
    unfolding core_to core_read
    core_declined number place e = ended_leaves _ _ list (rw (good, ← e))

    module _ (f : Formula) (e : accepted f ≡ parse s) where
      -- then that of a short list;
      pub core_short : length list < length f.clauses → Leaves (core_to (plan size radius) A s (length list)) list (refusal SHORT_LIST 0) list
      unfolding core_to core_read
      core_short short = ended_leaves _ _ list (rw (good, ← e, lt-ltb (length list) (length f.clauses) short))

      -- and otherwise what deletion comes to.
      pub core_judged : length f.clauses ≤ length list → (d : Spec.Decision) (list' : List ℕ) → (own : ℕ) → own ≡ size → (reach : ℕ) → reach ≡ radius →
          Leaves (deletion (plan own reach) A f) list d list' → Leaves (core_to (plan size radius) A s (length list)) list d list'
      unfolding core_to core_read
      core_judged room d list' own same-size reach same-radius l =
          rw (good, ← e, le-ltb (length list) (length f.clauses) room) (rw (same-size, same-radius) at l)
