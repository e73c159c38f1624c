use mathlib.Core.Path.{◌≡◌, sym, ap, ◌∙◌}
use mathlib.Core.Bool.{Bool, true, ◌&&◌, ◌||◌}
use mathlib.Core.List.{List}
use Prim.Native.Nat.{ℕ, ◌+◌, ◌*◌, ◌%◌, ◌^◌, ◌<◌}
use native.Mathlib.Omega.{arith}
use borrow.Author.Rules.{rules}
use lib.Bits.{bit_and, and_le_l}
use lib.Count.{count_trailing_zeros, trailing_le}
use borrow.Author.Tests.{leb-true}
use lib.Dec.{eqb, leb}
use Rattle.words.proofs.ListLaws.{and_right}
use Rattle.words.specs.Bits.{bit}
use Rattle.words.proofs.BitLaws.{trailing_at}
use Rattle.formula.specs.Formula.{Clause}
use Rattle.planes.specs.Machine.{lanes, first_counter, second_counter, Counts, Passing, wanted, Occurs}
use Rattle.planes.proofs.LaneLaws.{same_order, bit-bit_and, bit_from}
use Rattle.planes.proofs.CountsLaws.{passing_none, passing_lowest, passing_told, passing_also, kind_past, bit_held, first_end, first_from}
use Rattle.planes.proofs.occurrences.Occurrences.next.Goals as goal
use Rattle.planes.proofs.occurrences.Occurrences.next.Goals.{After-holding}

pub loop-w-init : goal.loop-w-init
loop-w-init c = (omega arith, c.past-seen.ensures, λ cells count count' o s s' r f. first_from (omega arith) f)

-- the clauses of the word that was read
module _ (c : After-holding) where
  abbrev all : ℕ
  all = bit_and c.lanes_of.result c.holding.result

  abbrev z : ℕ
  z = bit_and all c.loop-w.seen

  fits : z < 2 ^ lanes
  fits =
      let small : c.lanes_of.result < 2 ^ lanes = search rules in
      omega (arith, and_le_l c.lanes_of.result c.holding.result, and_le_l all c.loop-w.seen)

  module _ {cells : List ℕ} {count count' : Clause → ℕ} (o : Occurs c.args.self.now.count cells c.args.self.now.table)
      (s : Counts c.args.self.now.count cells first_counter count c.args.planes.now)
      (s' : Counts c.args.self.now.count cells second_counter count' c.args.planes.now) where
    found : let a = c.args in
        Passing a.self.now.count (λ i. wanted a.kind a.row.word cells count count' i && leb a.from i) c.loop-w.w z
    found =
        passing_also
        (passing_also
        (passing_told s s' (kind_past c.args.kind) (omega arith) c.lanes_of.ensures)
        c.holding.result
        (λ i h e.
        c.holding.ensures (i % lanes) (omega arith)
        ∙ ap (λ (b : Bool). eqb c.args.row.word 0 || b) (bit_held o c.args.row.word i c.args.row.within h c.args.self.now.within e)))
        c.loop-w.seen
        (λ i h e.
        let back : lanes * c.loop-w.w + i % lanes ≡ i = omega arith in
        rw back at (c.loop-w.invariant.1 (i % lanes) (omega arith)))

pub overflow_cast-result : goal.overflow_cast-result
overflow_cast-result c = omega (arith, trailing_le lanes (z c.before))

pub overflow_add-result : goal.overflow_add-result
overflow_add-result c = omega (arith, trailing_le lanes (z c.before))

pub returns-then-found-ne0 : goal.returns-then-found-ne0
returns-then-found-ne0 c =
    let d = c.before in
    let l = d.loop-w in
    let (inside, set) = trailing_at lanes (z d) c.if-found-ne0.true (fits d) in
    let t = count_trailing_zeros lanes (z d) in
    let seen : bit l.seen t ≡ true = and_right (bit (all d) t) _ (sym (bit-bit_and (all d) l.seen t) ∙ set) in
    record {
      within = (leb-true d.args.from (lanes * l.w + t) (sym (l.invariant.1 t inside) ∙ seen), omega (arith, d.args.self.now.within));
      by_index = λ cells count count' o s s'.
          let (used, f) = passing_lowest (found d o s s') c.if-found-ne0.true (fits d) in
          (used, l.invariant.2 cells count count' o s s' _ f);
    }

pub loop-w-preserved : goal.loop-w-preserved
loop-w-preserved c =
    let d = c.before in
    let w = d.loop-w.w in (
      omega arith,
      λ j l. bit_from 0 j (omega arith) l ∙ same_order 0 j d.args.from (lanes * (w + 1) + j) (λ h. omega arith) (λ h. omega arith),
      λ cells count count' o s s' r f. d.loop-w.invariant.2 cells count count' o s s' r (passing_none (found d o s s') c.if-found-ne0.false r f),
    )

pub returns-clause-by_index : goal.returns-clause-by_index
returns-clause-by_index c cells count count' o s s' = c.loop-w.invariant.2 cells count count' o s s' _ (first_end (omega arith))
