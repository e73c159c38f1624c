-- Splitting decides: what it finds is a model, the first of all, and where there is a model it finds one. It takes at most
-- 2^(n+1) − 1 calls.
use Rattle.std.specs.Prelude.{◌≡◌, ◌⊎◌, Bool, cond, ◌&&◌}
use Rattle.std.proofs.Math.Path.{refl, sym, ap}
use Rattle.std.proofs.Common.{◌∙◌, inl, inr, le_of_suc-le-suc, eq-or-lt_of_le, pow_mono}
use Rattle.std.proofs.Math.Logic.{⊎_elim}
use Rattle.std.proofs.Math.Bool.{true, false, not, beq, false≢true}
use mathlib.Core.List.Memᴰ
use mathlib.Core.List.{List, [], ◌∷◌}
use Prim.Native.Nat.{ℕ, zero, suc, ◌+◌, ◌-◌, ◌^◌, ◌≤◌, ◌<◌}
use Rattle.std.proofs.Math.Nat.{le_refl, le_trans}
use native.Mathlib.Omega.{arith}
use Rattle.std.proofs.Math.Dec.{leb, ltb}
use Rattle.std.proofs.Math.ListN.{length}
use Rattle.std.proofs.Math.Pow.{pow_pos}
use borrow.Author.Tests.{le-leb, leb-true, ltb-true, ltb-false, not-true}
use Rattle.words.specs.Lists.{In, some, every}
use Rattle.words.proofs.ListLaws.{apart, and_left, and_right, and_both, refute, every_in, in_every, some_in, in_some, some_fails}
use Rattle.words.proofs.CountLaws.{some_same}
use Rattle.words.specs.Bits.{bit, toggle}
use Rattle.words.proofs.BitLaws.{digit, bit_high, bit_toggle_same, bit_toggle_other, toggle_lt}
use Rattle.formula.specs.Formula.{Literal, Clause, bit_of, met, some_met, all_true, Satisfiable}
use Rattle.formula.proofs.ModelLaws.{Known}
use Rattle.tree.specs.Explore.{Outcome, found, none, calls, after, try, Tree, explore}
use Rattle.tree.proofs.TreeLaws.{Finds, Gives, powers_two, after_gives, after_nothing, call_gives, explore_gives, explore_hit, explore_calls, explore_room}
use Rattle.tree.proofs.Decides.{Decides}
use Rattle.splitting.specs.Splitting.{Node, is_set, is_lost, is_sure, start, set_next, split_tree, split, weight}

-- ---- the tests of a clause

-- in a clause with only set variables, one of them meets it just where it is true
closed_sure : (x : Node) (c : Clause) → every (is_set x.set) c ≡ true → is_sure x c ≡ some_met x.assignment c
unfolding is_sure some_met
closed_sure x c e = some_same _ (met x.assignment) c (λ l i. rw (every_in (is_set x.set) c e l i))

-- a lost clause has only set variables, none of which meets it
pub lost_unsure : (x : Node) (c : Clause) → is_lost x c ≡ (every (is_set x.set) c && not (is_sure x c))
unfolding is_lost
lost_unsure x c = go (every (is_set x.set) c) refl
  where
    go : (b : Bool) → every (is_set x.set) c ≡ b → (b && not (some_met x.assignment c)) ≡ (b && not (is_sure x c))
    go true e = ap not (sym (closed_sure x c e))
    go false e = refl

-- No clause is both lost and sure, so that the order of the two tests makes no difference.
pub never_both : (x : Node) (cs : List Clause) → some (is_lost x) cs ≡ true → every (is_sure x) cs ≡ false
never_both x cs e =
    let (c, i, lost) = some_in (is_lost x) cs e in
    let unsure = not-true (is_sure x c) (and_right (every (is_set x.set) c) _ (sym (lost_unsure x c) ∙ lost)) in
    refute _ (λ g. false≢true (sym unsure ∙ every_in (is_sure x) cs g c i))

-- ---- the next variable

module _ (x : Node) (b : Bool) where
  pub next_below : (v : ℕ) → v < x.set → bit (set_next x b).assignment v ≡ bit x.assignment v
  unfolding set_next
  next_below v l = go b
    where
      go : (b : Bool) → bit (cond b (toggle x.assignment x.set) x.assignment) v ≡ bit x.assignment v
      go true = bit_toggle_other x.assignment x.set v (λ e. omega arith)
      go false = refl

  module _ (small : x.assignment < 2 ^ x.set) where
    pub next_here : bit (set_next x b).assignment x.set ≡ b
    unfolding set_next
    next_here = go b
      where
        go : (b : Bool) → bit (cond b (toggle x.assignment x.set) x.assignment) x.set ≡ b
        go true = bit_toggle_same x.assignment x.set ∙ ap not (bit_high x.set x.assignment small)
        go false = bit_high x.set x.assignment small

    pub next_small : (set_next x b).assignment < 2 ^ suc x.set
    unfolding set_next
    next_small = go b
      where
        wider : x.assignment < 2 ^ suc x.set
        wider = le_trans small (pow_mono (omega arith))

        go : (b : Bool) → cond b (toggle x.assignment x.set) x.assignment < 2 ^ suc x.set
        go true = toggle_lt (suc x.set) x.assignment x.set wider (omega arith)
        go false = wider

-- ---- assignments that agree with a call

-- w has the set variables as the call has them
unfoldable Agrees : Node → ℕ → Type 0
Agrees x w = (v : ℕ) → v < x.set → bit x.assignment v ≡ bit w v

-- what agrees with the next variable set agrees before
agrees_back : (x : Node) (b : Bool) (w : ℕ) → Agrees (set_next x b) w → Agrees x w
unfolding Agrees set_next
agrees_back x b w h v l = sym (next_below x b v l) ∙ h v (omega arith)

agrees_next : (x : Node) (b : Bool) (w : ℕ) → x.assignment < 2 ^ x.set → Agrees x w → bit w x.set ≡ b → Agrees (set_next x b) w
unfolding Agrees set_next
agrees_next x b w small h e v l =
    ⊎_elim
    (λ q. ap (bit (set_next x b).assignment) q ∙ next_here x b small ∙ sym e ∙ ap (bit w) (sym q))
    (λ q. next_below x b v q ∙ h v q)
    (eq-or-lt_of_le (omega arith))

module _ (n : ℕ) (cs : List Clause) (known : Known n cs) (x : Node) (w : ℕ) (h : Agrees x w) (c : Clause) (i : In c cs) where
  -- a set variable's literal is met by both or by neither
  met_alike : (l : Literal) → In l c → is_set x.set l ≡ true → met x.assignment l ≡ met w l
  unfolding met is_set Agrees Known bit_of
  met_alike l j e =
      let above = known c i l j in
      ap (λ (b : Bool). beq b l.positive) (h (l.variable - 1) (omega (arith, leb-true l.variable x.set e)))

  -- A sure clause is true under w,
  sure_true : is_sure x c ≡ true → some_met w c ≡ true
  unfolding is_sure some_met
  sure_true e =
      let (l, j, q) = some_in _ c e in
      let set = and_left (is_set x.set l) _ q in
      in_some (met w) c l j (sym (met_alike l j set) ∙ and_right (is_set x.set l) _ q)

  -- a lost one is not,
  lost_false : is_lost x c ≡ true → some_met w c ≡ true → ⊥
  unfolding is_lost some_met
  lost_false e true-there =
      let (l, j, q) = some_in (met w) c true-there in
      let set = every_in (is_set x.set) c (and_left _ (not (some_met x.assignment c)) e) l j in
      let unmet = not-true (some_met x.assignment c) (and_right (every (is_set x.set) c) _ e) in
      false≢true (sym unmet ∙ in_some (met x.assignment) c l j (met_alike l j set ∙ q))

  -- and with all n variables set a clause that is true under w is sure.
  true_sure : x.set ≡ n → some_met w c ≡ true → is_sure x c ≡ true
  unfolding is_sure some_met is_set Known
  true_sure all e =
      let (l, j, q) = some_in (met w) c e in
      let set : leb l.variable x.set ≡ true = le-leb l.variable x.set (omega (arith, (known c i l j).1)) in
      in_some _ c l j (and_both _ _ set (met_alike l j set ∙ q))

-- ---- all calls

-- with n variables set all of a formula's are
pub all_set : (n : ℕ) (cs : List Clause) → Known n cs → (c : Clause) → In c cs → every (is_set n) c ≡ true
unfolding is_set Known
all_set n cs known c i = in_every _ c (λ l j. le-leb l.variable n (known c i l j).1)

-- a call that is reached with r variables left
abbrev Reached : ℕ → ℕ → Node → Type 0
Reached n r x = (x.set + r ≡ n) × (x.assignment < 2 ^ x.set)

reached_next : (n r : ℕ) (x : Node) (b : Bool) → Reached n (suc r) x → Reached n r (set_next x b)
unfolding set_next
reached_next n r x b (e, small) = (omega arith, next_small x b small)

-- the moves of a call that is not lost
module _ (cs : List Clause) (x : Node) where
  pub moves_lost : some (is_lost x) cs ≡ true → (split_tree cs).moves x ≡ []
  unfolding split_tree
  moves_lost e = rw e

  pub moves_two : some (is_lost x) cs ≡ false → (split_tree cs).moves x ≡ false ∷ true ∷ []
  unfolding split_tree
  moves_two e = rw e

  moves_few : length ((split_tree cs).moves x) ≤ 2
  unfolding split_tree
  moves_few = go (some (is_lost x) cs)
    where
      go : (b : Bool) → length (cond b [] (false ∷ true ∷ [])) ≤ 2
      go true = omega arith
      go false = le_refl 2

-- ---- the order of assignments

-- what is set in a is set in w, among the first n variables
weight_least : (n a w : ℕ) → ((v : ℕ) → v < n → bit a v ≡ true → bit w v ≡ true) → weight n a ≤ weight n w
unfolding weight
weight_least zero a w h = le_refl 0
weight_least (suc n) a w h =
    let below = weight_least n a w (λ v l. h v (omega arith)) in
    omega (arith, below, go (bit a n) (bit w n) (h n (omega arith)))
  where
    go : (b b' : Bool) → (b ≡ true → b' ≡ true) → digit b ≤ digit b'
    go true true q = le_refl 1
    go true false q = absurd (false≢true (q refl))
    go false b' q = omega arith

weight_same : (n a w : ℕ) → ((v : ℕ) → v < n → bit a v ≡ bit w v) → weight n a ≤ weight n w
weight_same n a w h = weight_least n a w (λ v l e. sym (h v l) ∙ e)

digit_most : (b : Bool) → digit b ≤ 1
digit_most true = le_refl 1
digit_most false = omega arith

-- The first variable in which a and w differ decides.
weight_less : (n j a w : ℕ) → j < n → ((v : ℕ) → v < j → bit a v ≡ bit w v) → bit a j ≡ false → bit w j ≡ true →
    weight n a ≤ weight n w
unfolding weight
weight_less n j a w l h e e' = let q : weight n a < weight n w = less n l in omega arith
  where
    less : (n : ℕ) → j < n → weight n a < weight n w
    less zero l = absurd (omega arith)
    less (suc n) l = go (less n) (eq-or-lt_of_le (le_of_suc-le-suc l))
      where
        go : (j < n → weight n a < weight n w) → (j ≡ n) ⊎ (j < n) → weight (suc n) a < weight (suc n) w
        go below (inl q) =
            let same = weight_same j a w h in
            rw (← q, e, e') (omega arith)
        go below (inr q) = let more = below q in omega (arith, digit_most (bit a n))

-- ---- a formula over n variables

module _ (n : ℕ) (cs : List Clause) (known : Known n cs) where
  abbrev tree : Tree Node Bool
  tree = split_tree cs

  -- where a model agrees, no clause is lost, and of the two moves the one that the model has agrees
  agrees_open : (x : Node) (w : ℕ) → Agrees x w → all_true w cs ≡ true → some (is_lost x) cs ≡ false
  unfolding all_true
  agrees_open x w h model =
      refute _ (λ e.
      let (c, i, lost) = some_in (is_lost x) cs e in
      lost_false n cs known x w h c i lost (every_in (some_met w) cs model c i))

  -- a model that agrees can be reached from a call
  abbrev Live : ℕ → ℕ → Node → Type 0
  Live w r x = Reached n r x × Agrees x w

  split_hits : (w : ℕ) → all_true w cs ≡ true → (r : ℕ) (x : Node) → Live w r x → Finds (explore tree r x)
  unfolding all_true split_tree
  split_hits w model = explore_hit tree (Live w) here there
    where
      here : (x : Node) → Live w 0 x → every (is_sure x) cs ≡ true
      here x ((e, small), h) =
          in_every (is_sure x) cs
          (λ c i. true_sure n cs known x w h c i (omega arith) (every_in (some_met w) cs model c i))

      stands : (b : Bool) → In b (false ∷ true ∷ [])
      stands false = Memᴰ.head refl
      stands true = Memᴰ.tail (Memᴰ.head refl)

      there : (r : ℕ) (x : Node) → Live w (suc r) x → every (is_sure x) cs ≡ false →
          (b : Bool) × In b ((split_tree cs).moves x) × Live w r (set_next x b)
      there r x (reached, h) g =
          let b = bit w x.set in (
            b,
            rw (moves_two cs x (agrees_open x w h model)) (stands b),
            (reached_next n r x b reached, agrees_next x b w reached.1 h refl),
          )

  split_complete : Satisfiable n cs → Finds (split n cs)
  unfolding split Satisfiable Agrees
  split_complete (w, below, model) = split_hits w model n start ((omega arith, pow_pos 0), λ v l. absurd (omega arith))

  -- What is found is a model of n variables,
  split_sound : (m c : ℕ) → split n cs ≡ found m c → (m < 2 ^ n) × (all_true m cs ≡ true)
  unfolding split split_tree all_true Agrees
  split_sound m c e =
      let (r, y, (p, small), g, o) =
      explore_gives tree (Reached n) (λ r x b p g i. reached_next n r x b p) n start (omega arith, pow_pos 0) m c e in
      rw o (
        le_trans small (pow_mono (omega arith)),
        in_every (some_met y.assignment) cs
            (λ c i. sure_true n cs known y y.assignment (λ v l. refl) c i (every_in (is_sure y) cs g c i)),
      )

  -- Splitting decides.
  pub split_decides : Decides n cs (split n cs)
  split_decides = record { sound = split_sound; complete = split_complete }

  -- What is found from a call agrees with it, and no model that agrees with it comes before.
  abbrev FirstFrom : Node → ℕ → Type 0
  FirstFrom x a = Agrees x a × ((w : ℕ) → all_true w cs ≡ true → Agrees x w → weight n a ≤ weight n w)

  -- at a goal
  first_goal : (r : ℕ) (x : Node) → Reached n r x → (a : ℕ) → a ≡ x.assignment → FirstFrom x a
  unfolding Agrees
  first_goal r x (e, small) a q = rw q (λ v l. refl, λ w model h. weight_least n x.assignment w (λ v l s. go w h v s (ltb v x.set) refl))
    where
      go : (w : ℕ) → ((v : ℕ) → v < x.set → bit x.assignment v ≡ bit w v) → (v : ℕ) → bit x.assignment v ≡ true →
          (b : Bool) → ltb v x.set ≡ b → bit w v ≡ true
      go w h v s true u = sym (h v (ltb-true v x.set u)) ∙ s
      go w h v s false u =
          let zero = bit_high v x.assignment (le_trans small (pow_mono (ltb-false v x.set u))) in
          absurd (false≢true (sym zero ∙ s))

  module _ (r : ℕ) (x : Node) (reached : Reached n (suc r) x) (a : ℕ) where
    -- with the next variable 0, which comes before 1
    first_hold : FirstFrom (set_next x false) a → FirstFrom x a
    first_hold (h, least) = (agrees_back x false a h, λ w model g. go w model g (bit w x.set) refl)
      where
        here : bit a x.set ≡ false
        here = unfold Agrees set_next in sym (h x.set (omega arith)) ∙ next_here x false reached.1

        go : (w : ℕ) → all_true w cs ≡ true → Agrees x w → (b : Bool) → bit w x.set ≡ b → weight n a ≤ weight n w
        go w model g false e = least w model (agrees_next x false w reached.1 g e)
        go w model g true e =
            let same : (v : ℕ) → v < x.set → bit a v ≡ bit w v =
            λ v l. unfold Agrees in sym (agrees_back x false a h v l) ∙ g v l in
            weight_less n x.set a w (omega arith) same here e

    -- with the next variable 1, where none with 0 is a model
    first_pay : (Finds (explore tree r (set_next x false)) → ⊥) → FirstFrom (set_next x true) a → FirstFrom x a
    first_pay missing (h, least) = (agrees_back x true a h, λ w model g. go w model g (bit w x.set) refl)
      where
        go : (w : ℕ) → all_true w cs ≡ true → Agrees x w → (b : Bool) → bit w x.set ≡ b → weight n a ≤ weight n w
        go w model g true e = least w model (agrees_next x true w reached.1 g e)
        go w model g false e =
            absurd (missing (split_hits w model r (set_next x false)
            (reached_next n r x false reached, agrees_next x false w reached.1 g e)))

    -- as the moves are made
    abbrev from : Bool → Outcome
    from b = explore tree r (set_next x b)

    first_moves : ((b : Bool) (d : ℕ) → from b ≡ found a d → FirstFrom (set_next x b) a) →
        (t : Bool) → Gives (try from (cond t [] (false ∷ true ∷ []))) a → FirstFrom x a
    unfolding try
    first_moves below true (d, f) = apart (cc)
    first_moves below false (d, f) =
        ⊎_elim
        (λ (d', f'). first_hold (below false d' f'))
        (λ (missing, (d', f')). first_pay missing (below true d' (sym (after_nothing (from true)) ∙ f')))
        (after_gives (from false) (after (from true) (none 0)) a d f)

  first_from : (r : ℕ) (x : Node) → Reached n r x → (a c : ℕ) → explore tree r x ≡ found a c → FirstFrom x a
  unfolding explore split_tree
  first_from zero x reached a c e =
      ⊎_elim (λ g. first_goal 0 x reached a g.1) (λ g. apart (cc g.1.1)) (call_gives (tree.goal x) (tree.out x) (none 0) a c e)
  first_from (suc r) x reached a c e =
      ⊎_elim
      (λ g. first_goal (suc r) x reached a g.1)
      (λ g.
      first_moves r x reached a (λ b d f. first_from r (set_next x b) (reached_next n r x b reached) a d f) (some (is_lost x) cs) g.1)
      (call_gives (tree.goal x) (tree.out x) _ a c e)

  -- Its model is the first of all: every model has the same weight or more.
  pub split_first : (m c : ℕ) → split n cs ≡ found m c → (w : ℕ) → all_true w cs ≡ true → weight n m ≤ weight n w
  unfolding split Agrees
  split_first m c e w model = (first_from n start (omega arith, pow_pos 0) m c e).1 w model (λ v l. absurd (omega arith))

  -- It ends by itself: with all n variables set, every clause is lost or sure.
  pub split_room : (r : ℕ) → n ≤ r → explore tree r start ≡ split n cs
  unfolding split split_tree
  split_room r l = explore_room tree (Reached n) ends (λ q x b p g i. reached_next n q x b p) n r l start (omega arith, pow_pos 0)
    where
      ends : (x : Node) (b : Bool) → Reached n 0 x → every (is_sure x) cs ≡ false → In b ((split_tree cs).moves x) → ⊥
      ends x b (e, small) g i = go (some (is_lost x) cs) refl
        where
          -- a clause that is not sure is lost
          lost : some (is_lost x) cs ≡ true
          lost =
              let (c, j, u) = some_in (λ c. not (is_sure x c)) cs (some_fails (is_sure x) cs g) in
              let all : n ≡ x.set = omega arith in
              let set : every (is_set x.set) c ≡ true = rw all at (all_set n cs known c j) in
              in_some (is_lost x) cs c j (lost_unsure x c ∙ rw (set, u))

          go : (b : Bool) → some (is_lost x) cs ≡ b → ⊥
          go true q = Memᴰ.not-nil (rw (moves_lost cs x q) at i)
          go false q = false≢true (sym q ∙ lost)

-- ---- how many calls

-- There are at most 2^(n+1) − 1.
pub split_bounded : (n : ℕ) (cs : List Clause) → calls (split n cs) ≤ 2 ^ (n + 1) - 1
unfolding split
split_bounded n cs =
    omega (arith, powers_two n, explore_calls (split_tree cs) 2 (λ x g. moves_few cs x) n start)
