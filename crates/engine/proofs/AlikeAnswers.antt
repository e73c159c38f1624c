-- What the numbers of an answer say of the two sheets: for any bytes, and for alike sheets.
use Rattle.std.specs.Prelude.{◌≡◌, ◌↔◌, Bool, true, cond, List, ℕ}
use Rattle.std.proofs.Math.Path.{refl}
use Rattle.std.proofs.Math.Bool.{false}
use Rattle.std.proofs.Common.{arith}
use Rattle.formula.specs.Formula.{Formula, all_true}
use Rattle.formula.specs.Sheet.{Result, accepted, refused, parse}
use Rattle.formula.specs.Refusals.{Reason}
use Rattle.formula.proofs.ParseRefused.{parse_refused}
use Rattle.alike.specs.Alike.{alike, are_alike as told_alike, are_different as told_different, compared, comparison, FIRST, SECOND}
use Rattle.alike.proofs.AlikeLaws.{alike_refl, alike_sym, alike_trans, alike_models}
use Rattle.engine.specs.declared.exports.AlikeReply.{AlikeReply}
use Rattle.decision.specs.Answers.{REFUSED}
use Rattle.engine.specs.Replies.{comparison_of, alike_to, ALIKE, DIFFERENT}

-- ---- any bytes

-- A refusal of the first sheet; of the second, if the first is accepted; alike or different, if both are.
pub data AlikeAnswered (s t : List ℕ) : AlikeReply → Type 0 where
  first_refused : {number place : ℕ} → Reason s number place →
      AlikeAnswered s t (record { answer = REFUSED; sheet = FIRST; number = number; place = place })
  second_refused : {f : Formula} {number place : ℕ} → parse s ≡ accepted f → Reason t number place →
      AlikeAnswered s t (record { answer = REFUSED; sheet = SECOND; number = number; place = place })
  are_alike : {f g : Formula} → parse s ≡ accepted f → parse t ≡ accepted g → alike f g ≡ true →
      AlikeAnswered s t (record { answer = ALIKE; sheet = 0; number = 0; place = 0 })
  are_different : {f g : Formula} → parse s ≡ accepted f → parse t ≡ accepted g → alike f g ≡ false →
      AlikeAnswered s t (record { answer = DIFFERENT; sheet = 0; number = 0; place = 0 })

pub alike_answered : (s t : List ℕ) → AlikeAnswered s t (alike_to s t)
unfolding alike_to comparison
alike_answered s t = by_sheets (parse s) (parse t) refl refl
  where
    by_test : (f g : Formula) → parse s ≡ accepted f → parse t ≡ accepted g → (b : Bool) → alike f g ≡ b →
        AlikeAnswered s t (comparison_of (cond b told_alike told_different))
    by_test f g p q true e = unfold comparison_of in are_alike p q e
    by_test f g p q false e = unfold comparison_of in are_different p q e

    by_sheets : (a b : Result Formula) → parse s ≡ a → parse t ≡ b → AlikeAnswered s t (comparison_of (compared a b))
    by_sheets (refused number place) b p q = unfold compared comparison_of in first_refused (parse_refused s number place p)
    by_sheets (accepted f) (refused number place) p q = unfold compared comparison_of in second_refused p (parse_refused t number place q)
    by_sheets (accepted f) (accepted g) p q = unfold compared in by_test f g p q (alike f g) refl

-- ---- alike sheets

-- Both sheets are accepted, and what they mean is alike.
pub record AlikeSheets (s t : List ℕ) : Type 0 where
  pub f : Formula
  pub g : Formula
  pub first : parse s ≡ accepted f
  pub second : parse t ≡ accepted g
  pub same : alike f g ≡ true

pub alike_number : (s t : List ℕ) → ((alike_to s t).answer ≡ ALIKE) ↔ AlikeSheets s t
alike_number s t = (by_answer (alike_answered s t), says)
  where
    by_answer : {r : AlikeReply} → AlikeAnswered s t r → r.answer ≡ ALIKE → AlikeSheets s t
    by_answer (first_refused reason) e = absurd (omega arith)
    by_answer (second_refused p reason) e = absurd (omega arith)
    by_answer (are_alike {f} {g} p q same) e = record { f = f; g = g; first = p; second = q; same = same }
    by_answer (are_different p q same) e = absurd (omega arith)

    says : AlikeSheets s t → (alike_to s t).answer ≡ ALIKE
    says h = unfold alike_to comparison compared comparison_of in rw (h.first, h.second, h.same)

-- Alike is an equivalence on accepted sheets.
pub sheets_refl : (s : List ℕ) (f : Formula) → parse s ≡ accepted f → (alike_to s s).answer ≡ ALIKE
sheets_refl s f e = (alike_number s s).1 (record { f = f; g = f; first = e; second = e; same = alike_refl f })

pub sheets_sym : (s t : List ℕ) → (alike_to s t).answer ≡ ALIKE → (alike_to t s).answer ≡ ALIKE
sheets_sym s t e =
    let h = (alike_number s t).0 e in
    let back = alike_sym h.f h.g h.same in
    (alike_number t s).1 (record { f = h.g; g = h.f; first = h.second; second = h.first; same = back })

one_formula : (s : List ℕ) (f g : Formula) → parse s ≡ accepted f → parse s ≡ accepted g → f ≡ g
one_formula s f g p q = cc

pub sheets_trans : (s t u : List ℕ) → (alike_to s t).answer ≡ ALIKE → (alike_to t u).answer ≡ ALIKE → (alike_to s u).answer ≡ ALIKE
sheets_trans s t u e e' =
    let h = (alike_number s t).0 e in
    let h' = (alike_number t u).0 e' in
    let middle : h.g ≡ h'.f = one_formula t h.g h'.f h.second h'.first in
    let same = alike_trans h.f h.g h'.g h.same (rw middle h'.same) in
    (alike_number s u).1 (record { f = h.f; g = h'.g; first = h.first; second = h'.second; same = same })

-- Alike sheets have the same models.
pub sheets_models : (s t : List ℕ) (f g : Formula) → parse s ≡ accepted f → parse t ≡ accepted g →
    (alike_to s t).answer ≡ ALIKE → (m : ℕ) → all_true m f.clauses ≡ all_true m g.clauses
sheets_models s t f g p q e =
    let h = (alike_number s t).0 e in
    alike_models f g (rw (one_formula s f h.f p h.first, one_formula t g h.g q h.second) h.same)
