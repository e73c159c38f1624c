-- The variables that clauses force to stay as they are: which they are at a centre, and how a flip adds to them.
use Rattle.std.specs.Prelude.{◌≡◌, Bool, ◌||◌, List, [], ◌∷◌, ℕ, ◌+◌, ◌-◌, ◌≤◌, ◌<◌, eqb, ltb, Option, Some, None, IfSome, MatchOption}
use Rattle.std.proofs.Math.Path.{refl, ap}
use Rattle.std.proofs.Common.{sym, ◌∙◌, subst, inl, inr, eq-or-lt_of_le, arith, eqb-true, ltb-true, ltb-false}
use Rattle.std.proofs.Math.Logic.{⊎_elim}
use Rattle.std.proofs.Math.Bool.{true, false, not, beq, and-true, and-false, true≢false}
use Rattle.std.proofs.lemmas.Bool.{not-true}
use Rattle.words.specs.Lists.{In, some, every, keep, count}
use Rattle.words.proofs.ListLaws.{some_in, in_some, and_left, and_right, and_both, beq_true, both_ways, or_left, or_right, or_cases, refute}
use Rattle.words.specs.Bits.{bit, width}
use Rattle.words.proofs.BitLaws.{bit_zero}
use Rattle.words.proofs.CountLaws.{count_some}
use Rattle.formula.specs.Formula.{Literal, Clause, bit_of, met, is_opposite, names, literal_of}
use Rattle.formula.specs.Counts.{opposite}
use Rattle.formula.specs.Machine.{Table, IsLiteral, held, clause_at}
use Rattle.formula.proofs.TableLaws.{held_in}
use Rattle.formula.proofs.HeldLaws.{held_some}
use Rattle.planes.specs.Machine.{lane_count, one_zero, test_of, FirstFound}
use Rattle.ball.specs.Ball.{State, is_flipped, is_open, reading, true?, is_true, is_dead, is_lone, has_lone_opposite, flip}
use Rattle.ball.proofs.ReadingLaws.{lone_reading}
use Rattle.ball.proofs.FlipLaws.{dead_after, fresh_before, unmet_before, lone_stays, lone_new}
use Rattle.ball.specs.Machine.{centred, Tryable, Forced, Standing, Gathered, Forces}

-- a variable's bit, and back
pub bit_variable : (l : Literal) → 1 ≤ l.variable → bit_of l + 1 ≡ l.variable
unfolding bit_of
bit_variable l h = omega arith

pub bit_of_lem : (l : Literal) (v : ℕ) → l.variable ≡ v + 1 → bit_of l ≡ v
unfolding bit_of
bit_of_lem l v e = omega arith

pub bit_known : (l : Literal) → 1 ≤ l.variable → l.variable ≤ width → bit_of l < width
unfolding bit_of
bit_known l h h' = omega arith

-- A literal that is neither met nor flipped, and a clause with one literal met and none open: it names the literal's variable exactly if
-- it holds the opposite, which is then alone in it.
module _ (s : State) (l : Literal) (unmet : met s.assignment l ≡ false) (fresh : is_flipped s l ≡ false) (c : Clause) where
  opposite_named : some (is_opposite l) c ≡ true → names l.variable c ≡ true
  unfolding names is_opposite
  opposite_named e =
      let (x, i, o) = some_in _ c e in
      in_some _ c x i (and_left (eqb x.variable l.variable) (not (beq x.positive l.positive)) o)

  named_opposite : (reading s c).«open» ≡ 0 → names l.variable c ≡ true → some (is_opposite l) c ≡ true
  unfolding names is_opposite reading is_open is_flipped met
  named_opposite none e =
      let (x, i, q) = some_in _ c e in
      in_some _ c x i (and_both _ _ q (ap not (go x i (eqb-true x.variable l.variable q))))
    where
      go : (x : Literal) → In x c → x.variable ≡ l.variable → beq x.positive l.positive ≡ false
      go x i e' =
          refute _ (λ same.
          let bits : bit_of x ≡ bit_of l = unfold bit_of in ap (λ (v : ℕ). v - 1) e' in
          let signs : x.positive ≡ l.positive = beq_true _ _ same in
          let open_here : is_open s x ≡ true = rw (bits, signs, unmet, fresh) refl in
          absurd (omega (arith, none, count_some (is_open s) c (in_some (is_open s) c x i open_here))))

  alone_numbers : is_lone s l c ≡ true → (one_zero (reading s c).met (reading s c).«open» ≡ true) × (names l.variable c ≡ true)
  alone_numbers e =
      let told = sym (lone_reading s l unmet fresh c) ∙ e in
      (and_right (some (is_opposite l) c) _ told, opposite_named (and_left (some (is_opposite l) c) _ told))

  numbers_alone : one_zero (reading s c).met (reading s c).«open» ≡ true → names l.variable c ≡ true → is_lone s l c ≡ true
  numbers_alone e h =
      let none = eqb-true (reading s c).«open» 0 (and_right (eqb (reading s c).met 1) _ e) in
      lone_reading s l unmet fresh c ∙ and_both _ _ (named_opposite none h) e

-- ---- gathering

-- the number of a clause is one of a lane
pub below_lanes : (from : ℕ) (r : Option ℕ) → IfSome r (λ i. (from ≤ i) × (i < lane_count)) → IfSome r (λ i. i < lane_count)
below_lanes from None h = h
below_lanes from (Some i) h = h.1

module _ {cells : List ℕ} {test : ℕ → Bool} {b : ℕ} where
  -- no clause passes before r
  pub gathered_none : (r : ℕ) → ((j : ℕ) → j < r → test j ≡ false) → Gathered r cells test b b
  gathered_none r none =
      record {
        kept = λ v h e. e;
        named = λ v j h l t n. absurd (true≢false (sym t ∙ none j l));
        only = λ v h e. inl e;
      }

  -- clause i does, and none between it and r
  pub gathered_next : {g : ℕ} (i : ℕ) → Gathered i cells test b g → test i ≡ true → (q g' : ℕ) →
      ((v : ℕ) → v < width → bit q v ≡ names (v + 1) (clause_at cells i)) →
      ((v : ℕ) → v < width → bit g' v ≡ (bit g v || bit q v)) → (r : ℕ) → i < r →
      ((j : ℕ) → i + 1 ≤ j → j < r → test j ≡ false) → Gathered r cells test b g'
  gathered_next {g} i f here q g' own sum r inside none =
      record {
        kept = λ v h e. sum v h ∙ or_left (bit g v) (bit q v) (f.kept v h e);
        named = λ v j h l t n. sum v h ∙ go v h j l t n (ltb j i) refl;
        only = λ v h e.
            ⊎_elim
            (λ old. ⊎_elim inl (λ (j, l, t, n). inr (j, omega arith, t, n)) (f.only v h old))
            (λ new. inr (i, inside, here, sym (own v h) ∙ new))
            (or_cases (bit g v) (bit q v) (sym (sum v h) ∙ e));
      }
    where
      go : (v : ℕ) → v < width → (j : ℕ) → j < r → test j ≡ true → names (v + 1) (clause_at cells j) ≡ true →
          (x : Bool) → ltb j i ≡ x → (bit g v || bit q v) ≡ true
      go v h j l t n true e = or_left (bit g v) (bit q v) (f.named v j h (ltb-true j i e) t n)
      go v h j l t n false e =
          ⊎_elim
          (λ (same : i ≡ j). or_right (bit g v) (bit q v) (own v h ∙ rw same n))
          (λ later. absurd (true≢false (sym t ∙ none j (omega arith) l)))
          (eq-or-lt_of_le (ltb-false j i e))

-- The same up to a clause that was looked for, the first one and the next.
module _ (k : ℕ) (cells : List ℕ) (test : ℕ → Bool) (b : ℕ) where
  abbrev GatheredTo : Option ℕ → ℕ → Type 0
  GatheredTo r g = MatchOption r (Gathered k cells test b g) (λ i. (i < k) × (test i ≡ true) × Gathered i cells test b g)

  pub gathered_start : (r : Option ℕ) → FirstFound 0 k test r → GatheredTo r b
  gathered_start None f = gathered_none _ (λ j h. f.before j (omega arith) h)
  gathered_start (Some i) f = (f.0, f.1.here f.0, gathered_none _ (λ j h. f.1.before j (omega arith) h))

  pub gathered_on : {g : ℕ} (i : ℕ) → i < k → Gathered i cells test b g → test i ≡ true → (q g' : ℕ) →
      ((v : ℕ) → v < width → bit q v ≡ names (v + 1) (clause_at cells i)) →
      ((v : ℕ) → v < width → bit g' v ≡ (bit g v || bit q v)) → (r : Option ℕ) → FirstFound (i + 1) k test r →
      IfSome r (λ j. (i + 1 ≤ j) × (j < lane_count)) → GatheredTo r g'
  gathered_on i inside g here q g' own sum None f later = gathered_next i g here q g' own sum _ inside f.before
  gathered_on i inside g here q g' own sum (Some j) f later =
      (f.0, f.1.here f.0, gathered_next i g here q g' own sum j (omega (arith, later.0)) f.1.before)

-- the state and the set before may be said in another way
pub forces_same : {k : ℕ} {cells : List ℕ} {s s' : State} {u b b' q : ℕ} → s ≡ s' → b ≡ b' → Forces k cells s u b q → Forces k cells s' u b' q
forces_same {k} {cells} {s} {u = u} {b' = b'} {q = q} e e' f =
    subst (λ (x : State). Forces k cells x u b' q) e (subst (λ (x : ℕ). Forces k cells s u x q) e' f)

-- ---- what is forced

-- Where nothing is flipped they are those of the clauses with one literal met and none open.
module _ (k : ℕ) (cells : List ℕ) (table : Table width k cells) where
  abbrev cs : List Clause
  cs = held k cells

  module _ {s : State} {u b q : ℕ} (f : Forces k cells s u b q) where
    -- no flipped variable is among them
    clean : (v : ℕ) → v < width → bit q v ≡ true → bit s.flipped v ≡ false
    clean v h e = not-true _ (and_right (bit f.sum v) _ (sym (f.without v h) ∙ e))

    -- the variable of a literal that is not flipped is among them exactly if it was gathered
    stays : (l : Literal) → 1 ≤ l.variable → l.variable ≤ width → is_flipped s l ≡ false → bit q (bit_of l) ≡ bit f.sum (bit_of l)
    unfolding is_flipped
    stays l known below fresh = f.without (bit_of l) (bit_known l known below) ∙ rw fresh (and-true _)

  forced_centre : (m q : ℕ) → Forces k cells (centred m) 0 0 q → Forced k cells (centred m) q
  unfolding has_lone_opposite test_of
  forced_centre m q f =
      let g = f.gathered in
      record {
        each = λ l known below unmet fresh.
            stays f l known below fresh
            ∙ both_ways _ _
            (λ e. ⊎_elim (λ z. absurd (true≢false (sym z ∙ bit_zero (bit_of l))))
            (λ (i, h, new, n). in_some (is_lone s l) cs _ (held_in k cells i h)
            (numbers_alone s l unmet fresh _ (and_left _ _ new) (rw (bit_variable l known) at n)))
            (g.only (bit_of l) (bit_known l known below) e))
            (λ e. let (i, h, lone) = held_some k cells (is_lone s l) e in
            let (new, n) = alone_numbers s l unmet fresh _ lone in
            g.named (bit_of l) i (bit_known l known below) h (and_both _ _ new refl) (rw (bit_variable l known) n));
        clean = clean f;
      }
    where
      s : State
      s = centred m

  pub standing_centre : (m q : ℕ) → ((i : ℕ) → i < k → is_dead (centred m) (clause_at cells i) ≡ false) →
      Forces k cells (centred m) 0 0 q → Standing k cells (centred m) q
  standing_centre m q alive f = record { alive = alive; forced = forced_centre m q f }

  -- The flip of a literal that may be tried adds those of the clauses that hold its opposite and have these numbers now.
  module _ (w : ℕ) (lit : IsLiteral w) (s : State) (t : Tryable s (literal_of w)) where
    abbrev next : State
    next = flip s (literal_of w)

    forced_flip : (b q : ℕ) → Forced k cells s b → Forces k cells next (opposite w) b q → Forced k cells next q
    unfolding has_lone_opposite test_of
    forced_flip b q f more =
        let g = more.gathered in
        record {
          each = λ x known below unmet fresh.
              let fresh₀ = fresh_before w lit s t x unmet fresh in
              let unmet₀ = unmet_before w lit s t x unmet fresh in
              let v = bit_known x known below in
              stays more x known below fresh
              ∙ both_ways _ _
              (λ e. ⊎_elim
              (λ z. let (i, h, lone) = held_some k cells (is_lone s x) (sym (f.each x known below unmet₀ fresh₀) ∙ z) in
              in_some (is_lone next x) cs _ (held_in k cells i h) (lone_stays w lit s t x unmet fresh _ (table.each i h) lone))
              (λ (i, h, new, n). in_some (is_lone next x) cs _ (held_in k cells i h)
              (numbers_alone next x unmet fresh _ (and_left _ _ new) (rw (bit_variable x known) at n)))
              (g.only (bit_of x) v e))
              (λ e. let (i, h, lone) = held_some k cells (is_lone next x) e in
              ⊎_elim
              (λ before. g.kept (bit_of x) v
              (f.each x known below unmet₀ fresh₀ ∙ in_some (is_lone s x) cs _ (held_in k cells i h) before))
              (λ holds. let (new, n) = alone_numbers next x unmet fresh _ lone in
              g.named (bit_of x) i v h (and_both _ _ new (or_right (eqb (opposite w) 0) _ holds)) (rw (bit_variable x known) n))
              (lone_new w lit s t x unmet fresh _ (table.each i h) lone));
          clean = clean more;
        }

    -- No clause gets dead where the literal has no lone opposite.
    alive_flip : ((i : ℕ) → i < k → is_dead s (clause_at cells i) ≡ false) → has_lone_opposite cs s (literal_of w) ≡ false →
        (i : ℕ) → i < k → is_dead next (clause_at cells i) ≡ false
    unfolding has_lone_opposite
    alive_flip alive e i h =
        dead_after w lit s t _ (table.each i h) (alive i h)
        ∙ refute _ (λ lone. true≢false (sym (in_some (is_lone s (literal_of w)) cs _ (held_in k cells i h) lone) ∙ e))

    pub standing_flip : (b q : ℕ) → Standing k cells s b → has_lone_opposite cs s (literal_of w) ≡ false →
        Forces k cells next (opposite w) b q → Standing k cells next q
    standing_flip b q stand e more =
        record { alive = alive_flip stand.alive e; forced = forced_flip b q stand.forced more }

-- At a centre only a clause without literals is dead, at whichever centre.
pub dead_centred : (m m' : ℕ) (c : Clause) → is_dead (centred m) c ≡ is_dead (centred m') c
unfolding is_dead is_true true? reading every is_flipped count keep
dead_centred m m' [] = refl
dead_centred m m' (l ∷ c) =
    rw (bit_zero (bit_of l)) (and-false (not (is_true (centred m) (l ∷ c))) ∙ sym (and-false (not (is_true (centred m') (l ∷ c)))))
