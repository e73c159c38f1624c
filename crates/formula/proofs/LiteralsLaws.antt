-- The loop over a clause's literals: its invariant, and what each way out of it comes to.
use Rattle.std.specs.Prelude.{◌≡◌, refl, Bool, true, false, ◌||◌, eqb, get_or, take, drop, set}
use Rattle.std.proofs.Common.{sym, ◌∙◌, add-zero, add-one, length-drop, drop-cons, take-suc-set, eqb-true}
use Rattle.std.proofs.Math.Bool.{or-false}
use mathlib.Core.List.{List, [], ◌∷◌, ◌++◌, map, map-append}
use Prim.Native.Nat.{ℕ, suc, ◌+◌, ◌-◌, ◌≤◌, ◌<◌}
use Rattle.std.proofs.Math.Nat.{sub-zero}
use native.Mathlib.Omega.{arith}
use Rattle.std.proofs.Math.ListN.{length, length-set, drop_of_length-le}
use Rattle.std.proofs.lemmas.List.{drop-set-add}
use Rattle.std.proofs.Math.Seq.{take-set-le}
use Rattle.std.proofs.lemmas.Bool.{eqb-false}
use Rattle.words.specs.Bits.{bit, toggle}
use Rattle.words.proofs.BitLaws.{bit_zero, bit_toggle_same, bit_toggle_other}
use Rattle.words.specs.Lists.{some}
use Rattle.formula.specs.Formula.{Literal, Clause, bit_of, names, literal_of}
use Rattle.formula.specs.Sheet.{Result, accepted, refused, ◌>>=◌, take_literal, take_literals, TRUNCATED_CLAUSE}
use Rattle.formula.proofs.SheetLaws.{names_snoc}
use Rattle.formula.proofs.ParseAccepted.{take_literal_accepted}
use Rattle.formula.specs.Machine.{Named}
use Rattle.formula.proofs.ResultLaws.{prepend, prepend_nil, prepend_cons, prepend_end}

-- ---- the set of variables

named_none : (n : ℕ) → Named n 0 []
unfolding names some
named_none n = record { same = λ v p q. bit_zero (v - 1) }

named_more : (n m : ℕ) (c : Clause) (l : Literal) → (1 ≤ l.variable) × (l.variable ≤ n) →
    names l.variable c ≡ false → Named n m c → Named n (toggle m (l.variable - 1)) (c ++ (l ∷ []))
named_more n m c l known new h = record { same = λ v p q. rw (names_snoc v c l) (go v p q (eqb l.variable v) refl) }
  where
    go : (v : ℕ) → 1 ≤ v → v ≤ n → (b : Bool) → eqb l.variable v ≡ b →
        bit (toggle m (l.variable - 1)) (v - 1) ≡ (names v c || b)
    go v p q true e =
        let same : l.variable ≡ v = eqb-true l.variable v e in
        rw (← same, bit_toggle_same, h.same l.variable known.0 known.1, new)
    go v p q false e =
        let apart : l.variable - 1 ≡ v - 1 → ⊥ = λ x. eqb-false l.variable v e (omega arith) in
        bit_toggle_other m (l.variable - 1) (v - 1) apart ∙ h.same v p q ∙ sym (or-false (names v c))

-- ---- the invariant

-- the literals that the first j cells from `from` on stand for
abbrev pub done : ℕ → ℕ → List ℕ → Clause
done from j cells = map literal_of (take j (drop from cells))

-- one literal more
done_more : (from j : ℕ) (cells : List ℕ) (v : ℕ) → from + j < length cells →
    done from (j + 1) (set cells (from + j) v) ≡ done from j cells ++ (literal_of v ∷ [])
done_more from j cells v room =
    let inside : j < length (drop from cells) = rw length-drop (omega arith) in
    rw (add-one, drop-set-add from cells j v, take-suc-set (drop from cells) j v inside, map-append literal_of)

module _ (n c at from : ℕ) (ws cells₀ : List ℕ) where
  abbrev all : Result Clause
  all = take_literals n c [] (at + 3) (drop at ws)

  -- j literals are read, into these cells, and their variables are the set m
  pub record LiteralsSofar (cells : List ℕ) (m j : ℕ) : Type 0 where
    pub most : j ≤ c
    pub size : length cells ≡ length cells₀
    pub kept : take from cells ≡ take from cells₀
    pub named : Named n m (done from j cells)
    pub same : all ≡ prepend (done from j cells) (take_literals n (c - j) (done from j cells) (at + j + 3) (drop (at + j) ws))

  pub start : LiteralsSofar cells₀ 0 0
  start = record { most = omega arith; size = refl; kept = refl; named = named_none n; same = rw (prepend_nil, sub-zero, add-zero) }

  module _ (cells : List ℕ) (m j : ℕ) (h : LiteralsSofar cells m j) where
    -- nothing is left to read
    pub finish : c ≤ j → accepted (done from c cells) ≡ all
    unfolding take_literals
    finish e =
        let none : c - j ≡ 0 = omega arith in
        let last : j ≡ c = omega (arith, h.most) in
        sym (h.same ∙ rw (none, last) (prepend_end (done from c cells)))

    module _ (more : j < c) where
      left : c - j ≡ suc (c - (j + 1))
      left = omega arith

      -- the words ran out
      pub torn : length ws ≤ at + j → refused TRUNCATED_CLAUSE (at + j + 3) ≡ all
      unfolding take_literals prepend ◌>>=◌
      torn r = sym (h.same ∙ rw (left, drop_of_length-le ws r))

      module _ (inside : at + j < length ws) where
        next : drop (at + j) ws ≡ get_or ws (at + j) 0 ∷ drop (suc (at + j)) ws
        next = drop-cons ws (at + j) 0 inside

        abbrev here : Result Literal
        here = take_literal n (done from j cells) (at + j + 3) (get_or ws (at + j) 0)

        -- the next literal is refused
        pub stop : (x y : ℕ) → refused x y ≡ here → refused x y ≡ all
        unfolding take_literals prepend ◌>>=◌
        stop x y e = sym (h.same ∙ rw (left, next, ← e))

        -- the next literal is read
        pub go_on : (v b : ℕ) → accepted (literal_of v) ≡ here → b ≡ bit_of (literal_of v) → from + j < length cells →
            LiteralsSofar (set cells (from + j) v) (toggle m b) (j + 1)
        unfolding take_literals ◌>>=◌ bit_of
        go_on v b e is room =
            let before = done from j cells in
            let read = take_literal_accepted n before (at + j + 3) (get_or ws (at + j) 0) (literal_of v) (sym e) in
            let step : suc (at + j) ≡ at + (j + 1) = omega arith in
            let place : at + j + 3 + 1 ≡ at + (j + 1) + 3 = omega arith in
            let longer = done_more from j cells v room in
            record {
              most = omega arith;
              size = length-set cells (from + j) v ∙ h.size;
              kept = take-set-le from cells (from + j) v (omega arith) ∙ h.kept;
              named = rw (longer, is) (named_more n m before (literal_of v) read.known read.new h.named);
              same = h.same ∙ rw (left, next, ← e, step, place, longer) (prepend_cons before (literal_of v) _);
            }
