-- What a flip does to dead clauses and lone opposites: a literal that has a lone opposite is one whose flip leaves a clause dead.
use Rattle.std.specs.Prelude.{◌≡◌, ◌⊎◌, Bool, ◌&&◌, List, ℕ, ◌+◌, ◌≤◌, eqb}
use Rattle.std.proofs.Math.Path.{refl, sym, ap}
use Rattle.std.proofs.Common.{ap₂, ◌∙◌, arith, eq-eqb, ne_eqb, eqb-true}
use Rattle.std.proofs.Math.Logic.{inl, inr}
use Rattle.std.proofs.Math.Bool.{true, false, not, beq, true≢false}
use Rattle.words.specs.Lists.{In, some, count}
use Rattle.words.proofs.ListLaws.{some_in, in_some, and_left, and_right, and_both}
use Rattle.words.specs.Bits.{bit, toggle}
use Rattle.words.proofs.BitLaws.{digit, same_test, bit_toggle_same, bit_toggle_other}
use Rattle.words.proofs.CountLaws.{some_same, count_some}
use Rattle.formula.specs.Formula.{Literal, Clause, WellFormedClause, bit_of, met, is_opposite, literal_of}
use Rattle.formula.specs.Counts.{holds, opposite, Steps}
use Rattle.formula.proofs.CountLaws.{holds_opposite, holds_digit, met_steps, none_count, opposite_met}
use Rattle.formula.specs.Machine.{IsLiteral}
use Rattle.ball.specs.Ball.{State, is_flipped, reading, is_dead, is_lone, has_lone_opposite, flip}
use Rattle.ball.proofs.ReadingLaws.{dead_reading, lone_reading}
use Rattle.ball.proofs.CountLaws.{open_steps}
use Rattle.ball.specs.Machine.{Tryable}

-- a clause in which an opposite is alone, by its numbers
numbers : {a : Bool} {p q : ℕ} → (a && (eqb p 1 && eqb q 0)) ≡ true → (a ≡ true) × (p ≡ 1) × (q ≡ 0)
numbers {a} {p} {q} e =
    let both = and_right a (eqb p 1 && eqb q 0) e in
    (and_left a (eqb p 1 && eqb q 0) e, eqb-true p 1 (and_left (eqb p 1) (eqb q 0) both), eqb-true q 0 (and_right (eqb p 1) (eqb q 0) both))

-- The flip of a literal that may be tried, given by its word.
module _ (w : ℕ) (known : IsLiteral w) (s : State) (t : Tryable s (literal_of w)) where
  abbrev l : Literal
  l = literal_of w

  -- In one clause: it has one literal met more if it holds the literal, one less if it holds the opposite; the literal is no longer open.
  module _ {n : ℕ} (c : Clause) (well : WellFormedClause n c) where
    met_step : Steps w (opposite w) (λ x. (reading s x).met) (λ x. (reading (flip s l) x).met) c
    unfolding reading flip
    met_step = met_steps w known.0 c well s.assignment t.unmet

    open_step : Steps 0 w (λ x. (reading s x).«open») (λ x. (reading (flip s l) x).«open») c
    unfolding reading
    open_step = open_steps w known c well s t

    no_word : digit (holds 0 c) ≡ 0
    no_word = holds_digit 0 c well ∙ none_count c well

    -- A clause that was not dead is dead after the flip exactly if the opposite was alone in it.
    pub dead_after : is_dead s c ≡ false → is_dead (flip s l) c ≡ is_lone s l c
    dead_after alive =
        dead_reading (flip s l) c
        ∙ go (holds w c) (holds (opposite w) c) refl refl
        ∙ ap (λ (b : Bool). b && (eqb met 1 && eqb «open» 0)) (holds_opposite w c)
        ∙ sym (lone_reading s l t.unmet t.fresh c)
      where
        met : ℕ
        met = (reading s c).met

        «open» : ℕ
        «open» = (reading s c).«open»

        met' : ℕ
        met' = (reading (flip s l) c).met

        open' : ℕ
        open' = (reading (flip s l) c).«open»

        go : (a b : Bool) → holds w c ≡ a → holds (opposite w) c ≡ b →
            (eqb met' 0 && eqb open' 0) ≡ (b && (eqb met 1 && eqb «open» 0))
        go true true p q = absurd (omega (arith, met_step.apart, ap digit p, ap digit q))
        go true false p q =
            let more : met' ≡ met + 1 = omega (arith, met_step.sum, ap digit p, ap digit q) in
            rw (ne_eqb met' 0 (λ e. omega arith))
        go false true p q =
            let less : met' + 1 ≡ met = omega (arith, met_step.sum, ap digit p, ap digit q) in
            let same : open' ≡ «open» = omega (arith, open_step.sum, ap digit p, no_word) in
            ap₂ ◌&&◌ (same_test met' 0 met 1 (λ e. omega arith) (λ e. omega arith)) (ap (λ (x : ℕ). eqb x 0) same)
        go false false p q =
            let same : met' ≡ met = omega (arith, met_step.sum, ap digit p, ap digit q) in
            let same' : open' ≡ «open» = omega (arith, open_step.sum, ap digit p, no_word) in
            rw (same, same') (sym (dead_reading s c) ∙ alive)

  -- A literal that is neither met nor flipped after the flip was so before: it is of another variable.
  module _ (x : Literal) (unmet : met (flip s l).assignment x ≡ false) (fresh : is_flipped (flip s l) x ≡ false) where
    other : bit_of l ≡ bit_of x → ⊥
    unfolding is_flipped flip
    other e =
        true≢false
        (sym (ap not t.fresh) ∙ sym (bit_toggle_same s.flipped (bit_of l)) ∙ ap (bit (toggle s.flipped (bit_of l))) e ∙ fresh)

    pub fresh_before : is_flipped s x ≡ false
    unfolding is_flipped flip
    fresh_before = sym (bit_toggle_other s.flipped (bit_of l) (bit_of x) other) ∙ fresh

    pub unmet_before : met s.assignment x ≡ false
    unfolding met flip
    unmet_before =
        ap (λ (b : Bool). beq b x.positive) (sym (bit_toggle_other s.assignment (bit_of l) (bit_of x) other)) ∙ unmet

    -- Its opposite is alone in a clause after the flip if it was so before, or if the clause holds the opposite of the literal flipped.
    module _ {n : ℕ} (c : Clause) (well : WellFormedClause n c) where
      -- the opposite is met before and after
      some_met_lem : (m : ℕ) → met m x ≡ false → some (is_opposite x) c ≡ true → 1 ≤ count (met m) c
      some_met_lem m u e =
          let (y, i, o) = some_in (is_opposite x) c e in
          count_some (met m) c (in_some (met m) c y i (opposite_met x y o m ∙ ap not u))

      abbrev met₀ : ℕ
      met₀ = (reading s c).met

      abbrev open₀ : ℕ
      open₀ = (reading s c).«open»

      abbrev met₁ : ℕ
      met₁ = (reading (flip s l) c).met

      abbrev open₁ : ℕ
      open₁ = (reading (flip s l) c).«open»

      -- the numbers of a clause in which it is so
      alone₀ : is_lone s x c ≡ true → (some (is_opposite x) c ≡ true) × (met₀ ≡ 1) × (open₀ ≡ 0)
      alone₀ e = numbers (sym (lone_reading s x unmet_before fresh_before c) ∙ e)

      alone₁ : is_lone (flip s l) x c ≡ true → (some (is_opposite x) c ≡ true) × (met₁ ≡ 1) × (open₁ ≡ 0)
      alone₁ e = numbers (sym (lone_reading (flip s l) x unmet fresh c) ∙ e)

      pub lone_stays : is_lone s x c ≡ true → is_lone (flip s l) x c ≡ true
      unfolding reading flip
      lone_stays e =
          let (o, one, none) = alone₀ e in
          let still : 1 ≤ met₁ = some_met_lem (flip s l).assignment unmet o in
          lone_reading (flip s l) x unmet fresh c
          ∙ and_both _ _ o (and_both _ _
          (eq-eqb met₁ 1 (omega (arith, (met_step c well).sum, (open_step c well).sum, no_word c well)))
          (eq-eqb open₁ 0 (omega (arith, (open_step c well).sum, no_word c well))))

      pub lone_new : is_lone (flip s l) x c ≡ true → (is_lone s x c ≡ true) ⊎ (holds (opposite w) c ≡ true)
      unfolding reading
      lone_new e = go (holds (opposite w) c) refl
        where
          go : (b : Bool) → holds (opposite w) c ≡ b → (is_lone s x c ≡ true) ⊎ (holds (opposite w) c ≡ true)
          go true q = inr q
          go false q =
              let (o, one, none) = alone₁ e in
              let then : 1 ≤ met₀ = some_met_lem s.assignment unmet_before o in
              inl (lone_reading s x unmet_before fresh_before c
              ∙ and_both _ _ o (and_both _ _
              (eq-eqb met₀ 1 (omega (arith, (met_step c well).sum, ap digit q)))
              (eq-eqb open₀ 0 (omega (arith, (met_step c well).sum, (open_step c well).sum, no_word c well, ap digit q)))))

  -- So in a call with no clause dead, what is skipped are the literals whose calls would find one.
  pub lone_dead : {n : ℕ} (cs : List Clause) → ((c : Clause) → In c cs → WellFormedClause n c × (is_dead s c ≡ false)) →
      has_lone_opposite cs s l ≡ some (is_dead (flip s l)) cs
  unfolding has_lone_opposite
  lone_dead cs each = some_same _ _ cs (λ c i. let (well, alive) = each c i in sym (dead_after c well alive))
