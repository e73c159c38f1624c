-- The rate of one step: the ball of the word that joins the code next holds at least the average of what is uncovered.
use Rattle.std.specs.Prelude.{◌≡◌, List, length}
use Rattle.std.proofs.Math.Path.{refl}
use Rattle.std.proofs.Common.{sym, ap, ◌∙◌, arith, leb-true}
use Prim.Native.Nat.{ℕ, ◌+◌, ◌-◌, ◌*◌, ◌^◌, ◌≤◌, ◌<◌}
use Rattle.std.proofs.Math.Nat.{le_of_eq, mul-sub}
use Rattle.std.proofs.lemmas.Nat.{xor_comm}
use Rattle.std.specs.Int.Count.{ones}
use Rattle.words.specs.Lists.{some, keep, count, span}
use Rattle.words.proofs.ListLaws.{length_span}
use Rattle.words.specs.Bits.{distance}
use Rattle.code.specs.Covering.{Within}
use Rattle.code.specs.Code.{words_of, near, ball, gain, beats, best, chosen, without, greedy, code, outside, uncovered}
use Rattle.code.specs.Volume.{choose, volume}
use Rattle.code.specs.Closing.{Rate}
use Rattle.code.proofs.KeepLaws.{keep_same, keep_split, words_within, total_le, total_same, total_swap}
use Rattle.code.proofs.VolumeLaws.{ball_size}
use Rattle.code.proofs.ChosenLaws.{best_most}

-- The first two words of the code (4, 1): 11 × 16 ≤ 16 × 11 and 6 × 16 ≤ 11 × 11. (Were the first uncovered word, 3, to join next, it
-- would be 8 × 16.)
rate_4_1 : Rate 4 1 (uncovered 4 1 0) (uncovered 4 1 1) × Rate 4 1 (uncovered 4 1 1) (uncovered 4 1 2)
unfolding Rate uncovered code greedy chosen best beats gain without outside near words_of distance ones volume choose some keep span
rate_4_1 = (leb-true _ _ refl, leb-true _ _ refl)

-- A word is in V(t, s) balls.
balls_holding : (t s x : ℕ) → x < 2 ^ t → length (keep (λ w. near s w x) (words_of t)) ≡ volume t s
unfolding near distance ball
balls_holding t s x h = ap length (keep_same _ _ (words_of t) (λ w i. rw (xor_comm w x) refl)) ∙ ball_size t s x h

-- No ball holds more of what is left than that of the word that joins,
chosen_most : (t s : ℕ) (left : List ℕ) (w : ℕ) → w < 2 ^ t → gain s left w ≤ gain s left (chosen t s left)
unfolding chosen
chosen_most t s left w l = best_most (gain s left) (2 ^ t) w l

-- and so that one holds at least the average.
chosen_average : (t s : ℕ) (left : List ℕ) → Within t left → length left * volume t s ≤ 2 ^ t * gain s left (chosen t s left)
unfolding gain count words_of Within
chosen_average t s left h =
    let each = total_le _ _ left (λ x i. le_of_eq (sym (balls_holding t s x (h x i)))) in
    let most = total_le _ _ (words_of t) (λ w i. chosen_most t s left w (words_within t w i)) in
    let all = rw (length_span 0 (2 ^ t)) at (total_same (gain s left (chosen t s left)) (words_of t)) in
    omega (arith, total_same (volume t s) left, total_swap (near s) (words_of t) left)

-- of g + u words g get covered, at least the average of n balls of v words
rest_most : (n v g u : ℕ) → (g + u) * v ≤ n * g → u * n ≤ (g + u) * (n - v)
rest_most n v g u h = rw mul-sub (omega arith)

pub step_rate : (t s : ℕ) (left : List ℕ) → Within t left → Rate t s (length left) (length (without s (chosen t s left) left))
unfolding Rate without gain
step_rate t s left h =
    let split = keep_split (near s (chosen t s left)) left in
    rw (← split) (rest_most _ _ _ _ (rw split (chosen_average t s left h)))
