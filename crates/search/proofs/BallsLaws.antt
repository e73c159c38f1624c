-- The laws of the loop over the balls: the planes move from centre to centre, one toggle after the other.
use Rattle.std.specs.Prelude.{◌≡◌, refl, Bool, true, not, List, ℕ, zero, suc, ◌+◌, ◌^◌, ◌≤◌, ◌<◌, length}
use Rattle.std.proofs.Math.Path.{sym}
use Rattle.std.proofs.Common.{◌∙◌, subst, ⊎_elim, lt_of_not-le, eq-or-lt_of_le, arith, pow_pos}
use Rattle.std.proofs.Math.Bool.{false, and-true}
use Rattle.words.specs.Lists.{every}
use Rattle.words.proofs.ListLaws.{in_some}
use Rattle.words.specs.Bits.{bit, toggle, width}
use Rattle.words.proofs.BitLaws.{not_same, bit_toggle_same, bit_toggle_other, bits_ext}
use Rattle.words.specs.Machine.{bits_of, set_of, FirstDifference}
use Rattle.formula.specs.Counts.{sign_word}
use Rattle.formula.proofs.SignLaws.{sign_bit, sign_unmet}
use Rattle.formula.specs.Machine.{Table, held, clause_at}
use Rattle.formula.proofs.TableLaws.{held_in}
use Rattle.formula.proofs.HeldLaws.{held_fails}
use Rattle.tree.specs.Explore.{none, plus, try, call, explore}
use Rattle.tree.specs.declared.Found.{Found}
use Rattle.tree.specs.declared.Found.TheVariants.{None}
use Rattle.tree.specs.Budget.{Answer, clear, spent}
use Rattle.tree.specs.Budget.{settle}
use Rattle.tree.proofs.BudgetLaws.{none_made}
use Rattle.tree.specs.Legs.{progress, turn}
use Rattle.tree.proofs.LegLaws.{leg_from_lem, leg_ends, leg_goes_on}
use Rattle.tree.specs.Machine.{answer_in}
use Rattle.planes.specs.declared.Kind.TheVariants.{Both}
use Rattle.planes.specs.Machine.{plane_cells, First, test_of, wanted}
use Rattle.words.specs.declared.Assignment.{Assignment}
use Rattle.ball.specs.declared.path.Path.{Path}
use Rattle.ball.specs.Ball.{State, reading, is_true, is_dead, ball_tree, ball_search}
use Rattle.search.specs.Run.{Block, Search, ball, centre_at, centre_count, summed_radius, leg_of}
use Rattle.ball.proofs.ReadingLaws.{dead_false, dead_reading}
use Rattle.ball.proofs.RuleLaws.{rule_dead}
use Rattle.ball.proofs.ForcedLaws.{dead_centred, standing_centre}
use Rattle.search.proofs.CallLaws.{ball_some}
use Rattle.ball.specs.Machine.{state_in, centred, call_from, Shows, Standing, Forces, Toggles}
use Rattle.search.specs.Machine.{Moves, Reaching, search_in, balls_from, Before}

-- ---- one bit

module _ (k : ℕ) (occ planes : List ℕ) (m : ℕ) where
  pub stays : length planes ≡ plane_cells → Moves k occ m planes m planes
  stays e = record { size = e; shows = λ cells r h. h }

  pub toggles : (b : Bool) (v : ℕ) → not (bit m v) ≡ b → (next : List ℕ) → Toggles k (sign_word b v) occ planes next →
      Moves k occ m planes (toggle m v) next
  toggles b v e next f =
      record {
        size = f.size;
        shows = λ cells r h.
            let moved = f.shows cells m r (sign_unmet b v m e) h in
            subst (λ (u : ℕ). Shows k cells (centred (toggle m u)) next) (sign_bit b v) moved;
      }

pub moves_on : (k : ℕ) (occ planes : List ℕ) (m m' : ℕ) (planes' : List ℕ) (m'' : ℕ) (planes'' : List ℕ) →
    Moves k occ m planes m' planes' → Moves k occ m' planes' m'' planes'' → Moves k occ m planes m'' planes''
moves_on k occ planes m m' planes' m'' planes'' a b =
    record { size = b.size; shows = λ cells r h. b.shows cells r (a.shows cells r h) }

-- ---- all bits

module _ (w m v : ℕ) (d : FirstDifference width m w v) where
  -- once its bit is toggled, the first difference lies further on
  pub difference_later : (v' : ℕ) → v < width → FirstDifference width (toggle m v) w v' → v < v'
  difference_later v' l d' = lt_of_not-le (λ p. d'.here (omega arith) (same v' p))
    where
      same : (u : ℕ) → u ≤ v → bit (toggle m v) u ≡ bit w u
      same u p =
          ⊎_elim
          (λ e. rw e (bit_toggle_same m v ∙ sym (not_same _ _ (d.here l))))
          (λ p'. bit_toggle_other m v u (λ e. omega arith) ∙ d.before u p')
          (eq-or-lt_of_le p)

  -- where it is past n, two numbers of n bits are the same
  pub difference_none : (n : ℕ) → n ≤ v → m < 2 ^ n → w < 2 ^ n → m ≡ w
  difference_none n l p q = bits_ext n m w p q (λ u h. d.before u (omega arith))

-- ---- the flips of a ball

module _ (k : ℕ) (cells : List ℕ) where
  -- Where a clause is dead a call makes no branch, however many flips it has.
  call_dead : (s : State) (i : ℕ) → i < k → is_dead s (clause_at cells i) ≡ true → (r : ℕ) → call_from k cells r s ≡ none 1
  unfolding call_from ball_search ball_tree explore call plus try
  call_dead s i h e r = go r
    where
      failing : every (is_true s) (held k cells) ≡ false
      failing = held_fails k cells (is_true s) i h (dead_false s _ e)

      go : (n : ℕ) → call_from k cells n s ≡ none 1
      go zero = rw failing
      go (suc n) = rw (failing, rule_dead (held k cells) s (in_some (is_dead s) (held k cells) _ (held_in k cells i h) e))

  module _ (radius i : ℕ)
      (f : First 0 k (wanted Both 0 cells (λ c. (reading (centred 0) c).met) (λ c. (reading (centred 0) c).«open»)) i) where
    -- both numbers of a clause are 0 exactly if it is dead, at whichever centre
    told : (m j : ℕ) → is_dead (centred m) (clause_at cells j)
        ≡ wanted Both 0 cells (λ c. (reading (centred 0) c).met) (λ c. (reading (centred 0) c).«open») j
    unfolding test_of
    told m j =
        dead_centred m 0 (clause_at cells j) ∙ dead_reading (centred 0) (clause_at cells j) ∙ sym (and-true _)

    pub reaching_all : i ≡ k → Reaching k cells radius radius
    reaching_all e = record { same = λ m. refl; alive = λ some m j h. told m j ∙ f.before j (omega arith) (omega arith) }

    pub reaching_none : (i ≡ k → ⊥) → Reaching k cells radius 0
    reaching_none e =
        let inside : i < k = omega (arith, f.within) in
        record {
          same = λ m. let dead = call_dead (centred m) i inside (told m i ∙ f.here inside) in dead 0 ∙ sym (dead radius);
          alive = λ some m j h. absurd (omega arith);
        }

-- ---- the path at a centre

pub path_centred : (p : Path) → set_of p.flipped ≡ 0 → state_in p ≡ centred (bits_of p.assignment)
unfolding state_in
path_centred p e = rw e

-- what its call asks for, where nothing was forced before
pub path_stands : {k : ℕ} {cells : List ℕ} {radius r m : ℕ} → Table width k cells → Reaching k cells radius r → 0 < r →
    (s : State) → s ≡ centred m → (b q : ℕ) → b ≡ 0 → Forces k cells s 0 b q → Standing k cells (centred m) q
path_stands {k} {cells} {m = m} table reach some s e b q z forces =
    standing_centre k cells table m q (reach.alive some m) (rw (e, z) at forces)

-- ---- the balls

module _ (k : ℕ) (cells : List ℕ) (bs : List Block) where
  abbrev q : Search
  q = search_in k cells bs

  -- a call at the centre is the ball's search
  pub ball_call : (i m reach : ℕ) → m ≡ centre_at bs i → Reaching k cells (summed_radius bs) reach →
      call_from k cells reach (centred m) ≡ ball q i
  unfolding call_from ball search_in
  ball_call i m reach e f = f.same m ∙ rw e

  module _ (n budget start : ℕ) where
    pub before_start : (planes : List ℕ) → length planes ≡ plane_cells → Shows k cells (centred 0) planes →
        Before q k cells planes n 0 start budget 0 start
    before_start planes e h =
        record { size = e; shows = h; below = pow_pos n; each = omega arith; enough = omega arith; same = refl }

    module _ (planes : List ℕ) (m calls i : ℕ) (b : Before q k cells planes n m start budget calls i) where
      pub before_end : centre_count bs ≤ i → progress (Answer.none calls) (centre_count bs) ≡ leg_of q budget start
      unfolding balls_from search_in leg_of
      before_end past =
          sym (leg_ends (ball q) budget (centre_count bs) calls i past) ∙ b.same ∙ sym (leg_from_lem _ _ _ _)

      module _ (r : Found) (inside : i < centre_count bs) (gave : answer_in r ≡ settle budget calls (ball q i)) where
        onwards : turn (centre_count bs) i calls (answer_in r) (λ d. balls_from q budget d (i + 1)) ≡ balls_from q budget 0 start
        unfolding balls_from search_in
        onwards = rw gave (sym (leg_goes_on (ball q) budget (centre_count bs) calls i inside)) ∙ b.same

        -- Where a ball does not find nothing the leg ends at it.
        pub before_clear : (a : Assignment) (made : ℕ) → r ≡ Found.Clear a made →
            progress (clear (bits_of a) made) (centre_count bs) ≡ leg_of q budget start
        unfolding balls_from search_in leg_of turn answer_in
        before_clear a made e = rw e at onwards ∙ sym (leg_from_lem _ _ _ _)

        pub before_spent : (made : ℕ) → r ≡ Found.Spent made → progress (spent calls) i ≡ leg_of q budget start
        unfolding balls_from search_in leg_of turn answer_in
        before_spent made e = rw e at onwards ∙ sym (leg_from_lem _ _ _ _)

        pub before_next : (made : ℕ) → r ≡ None made → (planes' : List ℕ) (m' : ℕ) → length planes' ≡ plane_cells →
            Shows k cells (centred m') planes' → m' < 2 ^ n → Before q k cells planes' n m' start budget made (i + 1)
        unfolding turn answer_in
        before_next made f planes' m' e h l =
            let counted = none_made r budget calls made (ball q i) gave f in
            record {
              size = e;
              shows = h;
              below = l;
              each = omega (arith, counted.0, ball_some q i, b.each);
              enough = counted.1;
              same = rw f at onwards;
            }
