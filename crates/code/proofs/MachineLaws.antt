-- Laws of the greedy construction's arrays, one for each turn of its loops.
use Rattle.std.specs.Prelude.{◌≡◌, refl, ◌≢◌, ◌⊎◌, Bool, true, false, cond, not, ◌&&◌, ◌||◌, List, [], ◌∷◌, ◌++◌, leb, eqb, length, get_or, take, set}
use Rattle.std.proofs.Common.{sym, ap, ◌∙◌, inl, inr, ⊎_elim, append-nil, eq-or-lt_of_le, lt_of_not-le, add-zero, div-add-mod', mod-lt, le_of_lt, le_of_suc-le-suc, not-suc-le-zero, arith, lit<, length-set, take_all, take-suc, get_or-set_same, get_or-set_other}
use Rattle.std.proofs.Math.Bool.{or-false, or-true, and-true, and-false}
use mathlib.Core.List.Memᴰ
use Prim.Native.Nat.{ℕ, zero, suc, ◌+◌, ◌≤◌, ◌<◌, max, zero-le, suc-le-suc, ◌-◌, ◌/◌, ◌%◌}
use Rattle.std.proofs.Math.Nat.{add_right_cancel, zero-add, max-eq_left, max-eq_right}
use Rattle.std.proofs.Math.Numerals.{add-one}
use Rattle.std.proofs.Math.Decide.{ℕ_discrete, dec_le}
use borrow.Author.Tests.{le-leb, lt-leb, eq-eqb, ne_eqb}
use Rattle.std.proofs.Math.Arith.{bin_ind}
use Rattle.std.specs.List.{fold}
use Rattle.std.specs.Int.Bits.{bit_xor, differ, xor_step, xor_zero_l}
use Rattle.std.proofs.lemmas.Nat.{xor_shr, xor_mod, xor_comm}
use Rattle.std.specs.Int.Count.{ones}
use Rattle.std.proofs.Math.Seq.{take-suc-set}
use Rattle.words.specs.Lists.{some, keep, span, In}
use Rattle.words.proofs.ListLaws.{in_some, some_last, span_in, in_span, in_keep}
use Rattle.words.specs.Bits.{distance}
use Rattle.code.specs.Code.{near, beats, best}
use Rattle.code.proofs.ChosenLaws.{beats_true, beats_false}
use Rattle.code.proofs.KeepLaws.{keep_same, keep_keep, length_in, keep_append, span_append}
use Rattle.code.specs.Machine.{peak, flagged, listed, Offsets, Counts, Lowerable, Lowered, Joining}

-- ---- the largest gain

module _ (f : ℕ → ℕ) where
  larger : (m n : ℕ) → max (f m) (f n) ≡ f (cond (beats (f n) (f m)) n m)
  larger m n = go (beats (f n) (f m)) refl
    where
      go : (b : Bool) → beats (f n) (f m) ≡ b → max (f m) (f n) ≡ f (cond b n m)
      go true e = max-eq_right (le_of_lt (beats_true (f n) (f m) e))
      go false e = max-eq_left (beats_false (f n) (f m) e)

  -- the largest f is that of the best number
  pub peak_best : (n : ℕ) → 0 < n → peak f n ≡ f (best f n)
  unfolding peak best
  peak_best zero l = absurd (not-suc-le-zero l)
  peak_best (suc zero) l = omega (arith, larger 0 0)
  peak_best (suc (suc n)) l = rw (peak_best (suc n) (suc-le-suc zero-le)) (larger (best f (suc n)) (suc n))

-- taken from the other end
peak_first : (f : ℕ → ℕ) (n : ℕ) → peak f (suc n) ≡ max (f 0) (peak (λ v. f (suc v)) n)
unfolding peak
peak_first f zero = omega arith
peak_first f (suc n) = rw (peak_first f n) (omega arith)

peak_fold : (a : ℕ) (xs : List ℕ) → fold max a xs ≡ max a (peak (λ v. get_or xs v 0) (length xs))
unfolding peak
peak_fold a [] = omega arith
peak_fold a (x ∷ xs) = rw (peak_fold (max a x) xs, peak_first (λ v. get_or (x ∷ xs) v 0) (length xs)) (omega arith)

pub peak_all : (xs : List ℕ) → fold max 0 xs ≡ peak (λ v. get_or xs v 0) (length xs)
peak_all xs = peak_fold 0 xs ∙ omega arith

-- two first places of a value are one
pub first_same : (f : ℕ → ℕ) (m a b : ℕ) → f a ≡ m → ((v : ℕ) → v < a → f v ≡ m → ⊥) →
    f b ≡ m → ((v : ℕ) → v < b → f v ≡ m → ⊥) → a ≡ b
first_same f m a b p p' q q' = go (dec_le a b)
  where
    go : Dec (a ≤ b) → a ≡ b
    go (yes l) = ⊎_elim (λ e. e) (λ l'. absurd (q' a l' p)) (eq-or-lt_of_le l)
    go (no d) = absurd (p' b (lt_of_not-le d) q)

-- ---- the ball around 0

pub near_zero : (s x : ℕ) → near s 0 x ≡ leb (ones x) s
unfolding near distance
near_zero s x = rw (xor_zero_l x) refl

keep_next : (p : ℕ → Bool) (x : ℕ) → keep p (span 0 (x + 1)) ≡ keep p (span 0 x) ++ keep p (x ∷ [])
unfolding span
keep_next p x = rw (span_append 0 x 1, zero-add x, keep_append) refl

module _ (s x : ℕ) where
  pub ball_skip : s < ones x → keep (near s 0) (span 0 (x + 1)) ≡ keep (near s 0) (span 0 x)
  unfolding keep
  ball_skip h = rw (keep_next, near_zero s x, lt-leb _ _ h) (append-nil _)

  pub ball_next : (cells : List ℕ) (m : ℕ) → m < length cells → ones x ≤ s → take m cells ≡ keep (near s 0) (span 0 x) →
      take (m + 1) (set cells m x) ≡ keep (near s 0) (span 0 (x + 1))
  unfolding keep
  ball_next cells m l h e = rw (keep_next, near_zero s x, le-leb _ _ h, add-one, take-suc-set cells m x l, e)

-- ---- differences

differ_back : (a b : ℕ) → a < 2 → b < 2 → differ a (bit_xor a b) ≡ b
differ_back zero b p q = refl
differ_back (suc zero) zero p q = refl
differ_back (suc zero) (suc zero) p q = refl
differ_back (suc zero) (suc (suc b)) p q = absurd (omega arith)
differ_back (suc (suc a)) b p q = absurd (omega arith)

-- what leads from x to y leads back
xor_back : (x y : ℕ) → bit_xor x (bit_xor x y) ≡ y
xor_back =
    bin_ind (λ (n : ℕ). (y : ℕ) → bit_xor n (bit_xor n y) ≡ y) (λ y. refl)
    (λ n below y.
    let digit = differ_back (n % 2) (y % 2) (mod-lt n (lit< tt)) (mod-lt y (lit< tt)) in
    rw (xor_step n (bit_xor n y), xor_shr n y 1, xor_mod n y 1, below (y / 2), digit) (div-add-mod' y 2))

-- one word more is listed
listed_next : (ball : List ℕ) (j x w : ℕ) → j < length ball →
    listed (take (j + 1) ball) x w ≡ (listed (take j ball) x w || eqb (bit_xor x w) (get_or ball j 0))
unfolding listed some
listed_next ball j x w l =
    rw (add-one, take-suc ball j 0 l, some_last)

pub get_or_in : (xs : List ℕ) (j : ℕ) → j < length xs → In (get_or xs j 0) xs
get_or_in [] j l = absurd (not-suc-le-zero l)
get_or_in (x ∷ xs) zero l = Memᴰ.head refl
get_or_in (x ∷ xs) (suc j) l = Memᴰ.tail (get_or_in xs j (le_of_suc-le-suc l))

-- w is where the j-th word of the ball leads to from x
module _ {ball : List ℕ} {n j w : ℕ} (x : ℕ) (o : Offsets ball n) (l : j < length ball)
    (q : w ≡ bit_xor x (get_or ball j 0)) where
  leads : bit_xor x w ≡ get_or ball j 0
  leads = rw q (xor_back x (get_or ball j 0))

  reach_lt : x < n → w < n
  reach_lt h = rw q (o.inside x (get_or ball j 0) h (get_or_in ball j l))

  reach_listed : listed ball x w ≡ true
  unfolding listed
  reach_listed = in_some (eqb (bit_xor x w)) ball (get_or ball j 0) (get_or_in ball j l) (eq-eqb _ _ leads)

  -- it is listed from j on,
  reach_new : listed (take j ball) x w ≡ false
  unfolding listed
  reach_new = rw leads (o.fresh j l)

  reach_next : listed (take (j + 1) ball) x w ≡ true
  reach_next = rw (listed_next ball j x w l, leads, eq-eqb (get_or ball j 0) _ refl, or-true) refl

  -- and the others as before
  reach_other : (u : ℕ) → u ≢ w → listed (take (j + 1) ball) x u ≡ listed (take j ball) x u
  reach_other u d =
      let other : bit_xor x u ≢ get_or ball j 0 = λ e. d (sym (xor_back x u) ∙ ap (bit_xor x) e ∙ sym q) in
      rw (listed_next ball j x u l, ne_eqb _ _ other) (or-false _)

-- ---- lowering the gains around x

pub lower_start : (x : ℕ) (gains : List ℕ) → Lowered [] x gains gains
unfolding listed some
lower_start x gains = record { size = refl; cells = λ w l. add-zero _ }

module _ {ball before gains : List ℕ} {j x w : ℕ} (r : Lowerable ball x before) (l : j < length ball)
    (q : w ≡ bit_xor x (get_or ball j 0)) (done : Lowered (take j ball) x before gains) where
  in_range : w < length before
  in_range = reach_lt x r.offsets l q r.place

  pub lower_lt : w < length gains
  lower_lt = rw done.size in_range

  same : get_or gains w 0 ≡ get_or before w 0
  same = sym (add-zero _) ∙ (rw (reach_new x r.offsets l q) at (done.cells w in_range))

  pub lower_pos : 0 < get_or gains w 0
  lower_pos = rw same (r.positive w in_range (reach_listed x r.offsets l q))

  pub lower_next : Lowered (take (j + 1) ball) x before (set gains w (get_or gains w 0 - 1))
  lower_next = record { size = length-set gains w _ ∙ done.size; cells = λ u b. go u b (ℕ_discrete u w) }
    where
      less : ℕ
      less = get_or gains w 0 - 1

      go : (u : ℕ) → u < length before → Dec (u ≡ w) →
          get_or (set gains w less) u 0 + cond (listed (take (j + 1) ball) x u) 1 0 ≡ get_or before u 0
      go u b (yes i) =
          rw (i, reach_next x r.offsets l q, get_or-set_same gains w less 0 lower_lt, ← same) (omega (arith, lower_pos))
      go u b (no d) = rw (get_or-set_other gains w u less 0 d, reach_other x r.offsets l q u d) (done.cells u b)

-- ---- clearing the flags around w

listed_comm : (ball : List ℕ) (x w : ℕ) → listed ball x w ≡ listed ball w x
unfolding listed
listed_comm ball x w = rw (xor_comm x w)

-- a test that fails at x besides passes one less there
one_less : (a b : ℕ → Bool) (i n x : ℕ) → i ≤ x → x < i + n → b x ≡ false → ((u : ℕ) → u ≢ x → a u ≡ b u) →
    length (keep a (span i n)) ≡ length (keep b (span i n)) + cond (a x) 1 0
unfolding keep span
one_less a b i zero x l h f s = absurd (omega arith)
one_less a b i (suc n) x l h f s = go (eq-or-lt_of_le l) (λ l'. one_less a b (suc i) n x l' (omega arith) f s)
  where
    rest : i ≡ x → keep a (span (suc i) n) ≡ keep b (span (suc i) n)
    rest e = keep_same a b (span (suc i) n) (λ u m. s u (λ e'. let l' = span_in (suc i) n u m in omega arith))

    here : (c : Bool) →
        length (cond c (i ∷ keep b (span (suc i) n)) (keep b (span (suc i) n))) ≡ length (keep b (span (suc i) n)) + cond c 1 0
    here true = omega arith
    here false = omega arith

    later : (c : Bool) → length (keep a (span (suc i) n)) ≡ length (keep b (span (suc i) n)) + cond (a x) 1 0 →
        length (cond c (i ∷ keep a (span (suc i) n)) (keep a (span (suc i) n)))
        ≡ length (cond c (i ∷ keep b (span (suc i) n)) (keep b (span (suc i) n))) + cond (a x) 1 0
    later true e = omega arith
    later false e = e

    go : (i ≡ x) ⊎ (i < x) →
        (i < x → length (keep a (span (suc i) n)) ≡ length (keep b (span (suc i) n)) + cond (a x) 1 0) →
        length (cond (a i) (i ∷ keep a (span (suc i) n)) (keep a (span (suc i) n)))
        ≡ length (cond (b i) (i ∷ keep b (span (suc i) n)) (keep b (span (suc i) n))) + cond (a x) 1 0
    go (inl e) below = rw (rest e, ← e, ap b e ∙ f) (here (a i))
    go (inr l') below = rw (s i (λ e. let l'' = l' in omega arith)) (later (b i) (below l'))

-- a flag less is one less that passes, if its place does
unflag : (p : ℕ → Bool) (left : List Bool) (x : ℕ) → x < length left → get_or left x false ≡ true →
    length (keep p (flagged left)) ≡ length (keep p (flagged (set left x false))) + cond (p x) 1 0
unfolding flagged
unflag p left x l e =
    rw (length-set left x false, keep_keep, keep_keep)
    (one_less (λ u. get_or left u false && p u) (λ u. get_or (set left x false) u false && p u) 0 (length left) x zero-le (rw zero-add l)
    (rw (get_or-set_same left x false false l) refl)
    (λ u d. rw (get_or-set_other left x u false false d) refl)
    ∙ rw e refl)

module _ {ball gains : List ℕ} {left : List Bool} {x : ℕ} (s : Counts ball gains left) (l : x < length left)
    (set? : get_or left x false ≡ true) where
  -- around a place whose flag is set no gain is 0,
  pub flag_lowers : Lowerable ball x gains
  unfolding flagged
  flag_lowers =
      let here : In x (flagged left) = in_keep _ (span 0 (length left)) x (in_span 0 _ x zero-le (rw zero-add l)) set? in
      record {
        offsets = rw s.size s.offsets;
        place = rw s.size l;
        positive = λ w b e.
            rw (s.counted w (rw s.size at b))
            (length_in (in_keep (listed ball w) (flagged left) x here (listed_comm ball w x ∙ e)));
      }

  -- and with the flag cleared and those gains lowered the others count again
  flag_counts : {after : List ℕ} → Lowered ball x gains after → Counts ball after (set left x false)
  flag_counts h = record {
    offsets = rw (length-set left x false) s.offsets;
    size = h.size ∙ s.size ∙ sym (length-set left x false);
    counted = λ w b.
        let b' : w < length left = rw (length-set left x false) at b in
        add_right_cancel (cond (listed ball x w) 1 0)
        (h.cells w (rw s.size b') ∙ s.counted w b' ∙ unflag (listed ball w) left x l set?
        ∙ ap (λ (c : Bool). length (keep (listed ball w) (flagged (set left x false))) + cond c 1 0) (listed_comm ball w x));
  }

-- ---- the word w joins

pub join_start : {ball gains : List ℕ} {left : List Bool} {w : ℕ} → Counts ball gains left → Joining ball gains left left w 0
unfolding listed some
join_start s = record { passed = zero-le; size = refl; counts = s; cleared = λ x l. sym (and-true _) }

module _ {ball gains : List ℕ} {before left : List Bool} {w j x : ℕ} (s : Joining ball gains before left w j)
    (l : j < length ball) (q : x ≡ bit_xor w (get_or ball j 0)) (h : w < length before) where
  pub join_lt : x < length left
  join_lt = reach_lt w s.counts.offsets l q (rw s.size h)

  -- the flag at x is cleared now, whether or not it was set
  clear_next : (after : List Bool) → get_or after x false ≡ false →
      ((u : ℕ) → u ≢ x → get_or after u false ≡ get_or left u false) →
      (u : ℕ) → u < length before → get_or after u false ≡ (get_or before u false && not (listed (take (j + 1) ball) w u))
  clear_next after here others u b = go (ℕ_discrete u x)
    where
      go : Dec (u ≡ x) → get_or after u false ≡ (get_or before u false && not (listed (take (j + 1) ball) w u))
      go (yes i) = rw (i, here, reach_next w s.counts.offsets l q) (sym (and-false (get_or before x false)))
      go (no d) = rw (others u d, reach_other w s.counts.offsets l q u d) (s.cleared u b)

  pub join_set : get_or left x false ≡ true → {after : List ℕ} → Lowered ball x gains after →
      Joining ball after before (set left x false) w (j + 1)
  join_set f d = record {
    passed = omega arith;
    size = length-set left x false ∙ s.size;
    counts = flag_counts s.counts join_lt f d;
    cleared = clear_next (set left x false) (get_or-set_same left x false false join_lt) (λ u n. get_or-set_other left x u false false n);
  }

  pub join_clear : get_or left x false ≡ false → Joining ball gains before left w (j + 1)
  join_clear f = record { passed = omega arith; size = s.size; counts = s.counts; cleared = clear_next left f (λ u n. refl) }

-- once it has joined, what is left is what its ball does not hold
pub join_end : {ball gains : List ℕ} {before left : List Bool} {w j : ℕ} → Joining ball gains before left w j →
    length ball ≤ j → flagged left ≡ keep (λ x. not (listed ball w x)) (flagged before)
unfolding flagged
join_end {ball} {gains} {before} {left} {w} {j} s l =
    rw (s.size, keep_keep)
    (keep_same _ _ (span 0 (length before))
    (λ x i. let l' = span_in 0 (length before) x i in rw (take_all j ball l) at (s.cleared x (omega arith))))
