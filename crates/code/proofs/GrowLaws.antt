-- Laws of the greedy construction as a whole: how its arrays start, what a word that joins does to them, and what they say in
-- the end.
use Rattle.std.specs.Prelude.{◌≡◌, refl, Bool, true, false, cond, List, [], ◌∷◌, ◌++◌, ℕ, zero, suc, ◌+◌, ◌-◌, ◌^◌, ◌≤◌, ◌<◌, eqb, take, drop, set, replicate}
use Rattle.std.proofs.Math.Path.{sym, ap}
use Rattle.std.proofs.Common.{◌∙◌, append-nil, zero-le, suc-le-suc, le_refl, zero-add, le_of_suc-le-suc, not-suc-le-zero, add-one, arith, eqb-true, eq-eqb, ne_eqb, pow_pos, length-set, take-append-drop, take-suc-set, drop-set-lt, drop-drop, length-take-le, get_or-take}
use Rattle.std.proofs.Math.Bool.{not}
use Rattle.std.proofs.lemmas.Bool.{false≢true}
use mathlib.Core.List.Memᴰ
use Rattle.std.proofs.Math.Nat.{le_step, sub-zero}
use Rattle.std.specs.Int.Bits.{bit_xor}
use Rattle.std.proofs.lemmas.Nat.{xor_lt}
use Rattle.std.proofs.Math.ListN.{length, get_or}
use Rattle.std.proofs.lemmas.List.{length-replicate, get_or-replicate}
use Rattle.std.proofs.Math.Seq.{append_snoc}
use Rattle.words.specs.Lists.{some, keep, span, In}
use Rattle.words.proofs.ListLaws.{keep_in, in_keep, in_span, span_in, in_some, some_in, length_span, length_keep}
use Rattle.words.specs.Bits.{distance}
use Rattle.code.specs.Covering.{Within}
use Rattle.code.specs.Code.{words_of, near, ball, gain, beats, best, chosen, without, greedy, code}
use Rattle.code.proofs.KeepLaws.{words_within, keep_all, keep_same, keep_split}
use Rattle.code.proofs.ChosenLaws.{best_le, chosen_lt, chosen_gains}
use Rattle.code.proofs.VolumeLaws.{ball_size}
use Rattle.code.specs.Machine.{flagged, listed, Offsets, Counts, Growing, Filled}
use Rattle.code.specs.Operations.{written}
use Rattle.code.proofs.MachineLaws.{near_zero, get_or_in}

-- ---- the ball around 0 serves for every word

keep_fresh : (p : ℕ → Bool) (i n j : ℕ) → j < length (keep p (span i n)) →
    some (eqb (get_or (keep p (span i n)) j 0)) (take j (keep p (span i n))) ≡ false
unfolding keep span some
keep_fresh p i zero j l = absurd (not-suc-le-zero l)
keep_fresh p i (suc n) j l = go (p i) j l (keep_fresh p (suc i) n)
  where
    rest : List ℕ
    rest = keep p (span (suc i) n)

    above : (k : ℕ) → k < length rest → get_or rest k 0 ≡ i → ⊥
    above k h e = let l' = span_in (suc i) n _ (keep_in p (span (suc i) n) _ (get_or_in rest k h)).0 in omega arith

    go : (b : Bool) (k : ℕ) → k < length (cond b (i ∷ rest) rest) →
        ((k' : ℕ) → k' < length rest → some (eqb (get_or rest k' 0)) (take k' rest) ≡ false) →
        some (eqb (get_or (cond b (i ∷ rest) rest) k 0)) (take k (cond b (i ∷ rest) rest)) ≡ false
    go true zero h below = refl
    go true (suc k) h below = rw (ne_eqb _ _ (above k (le_of_suc-le-suc h))) (below k (le_of_suc-le-suc h))
    go false k h below = below k h

keep_has : (p : ℕ → Bool) (n z : ℕ) → z < n → some (eqb z) (keep p (span 0 n)) ≡ p z
keep_has p n z l = go (p z) refl (some (eqb z) (keep p (span 0 n))) refl
  where
    go : (b : Bool) → p z ≡ b → (a : Bool) → some (eqb z) (keep p (span 0 n)) ≡ a → a ≡ b
    go true e true h = refl
    go false e false h = refl
    go true e false h =
        let kept = in_keep p (span 0 n) z (in_span 0 n z zero-le (rw zero-add l)) e in
        absurd (false≢true (sym h ∙ in_some (eqb z) _ z kept (eq-eqb z z refl)))
    go false e true h =
        let (y, i, q) = some_in (eqb z) (keep p (span 0 n)) h in
        absurd (false≢true (sym e ∙ ap p (eqb-true z y q) ∙ (keep_in p (span 0 n) y i).1))

ball_offsets : (t s : ℕ) → Offsets (ball t s 0) (2 ^ t)
unfolding ball words_of Within
ball_offsets t s = record {
  inside = λ x y h i. xor_lt t x y h (words_within t y (keep_in (near s 0) (words_of t) y i).0);
  fresh = keep_fresh (near s 0) 0 (2 ^ t);
}

ball_listed : (t s w x : ℕ) → w < 2 ^ t → x < 2 ^ t → listed (ball t s 0) w x ≡ near s w x
unfolding ball words_of listed near distance
ball_listed t s w x h l = keep_has (near s 0) (2 ^ t) (bit_xor w x) (xor_lt t w x h l) ∙ near_zero s (bit_xor w x)

ball_kept : (t s w : ℕ) → w < 2 ^ t → ball t s w ≡ keep (listed (ball t s 0) w) (words_of t)
unfolding ball Within
ball_kept t s w h = keep_same _ _ (words_of t) (λ x i. sym (ball_listed t s w x h (words_within t x i)))

-- ---- the start

-- a part of an array that holds one value throughout
module _ {A : Type 0} (m n : ℕ) (a : A) {xs : List A} (e : xs ≡ replicate m a) (l : n ≤ m) where
  pub part_length : length (take n xs) ≡ n
  part_length = length-take-le n xs (rw (e, length-replicate) l)

  pub part_at : (d : A) (k : ℕ) → k < n → get_or (take n xs) k d ≡ a
  part_at d k h = get_or-take n xs k d h ∙ rw e (get_or-replicate m k a d (omega arith))

-- every word is flagged, and every gain is the size of the ball
pub grow_start : {t s : ℕ} {offsets gains : List ℕ} {left : List Bool} {table : List ℕ} →
    2 ^ t ≤ 4096 → 2 ^ t ≤ length table → offsets ≡ ball t s 0 → length gains ≡ 2 ^ t → length left ≡ 2 ^ t →
    ((w : ℕ) → w < 2 ^ t → get_or gains w 0 ≡ length offsets) → ((x : ℕ) → x < 2 ^ t → get_or left x false ≡ true) →
    Growing t s offsets gains left table table 0
unfolding flagged words_of Within code
grow_start {t} {s} {offsets} {gains} {left} {table} a b o g f full flags = record {
  counts = record { offsets = rw (f, o) (ball_offsets t s); size = g ∙ sym f; counted = counted };
  words = f;
  small = a;
  fits = b;
  same = λ w x h l. rw o (ball_listed t s w x h l);
  room = rw (all, zero-add, length_span) (le_refl (2 ^ t));
  size = refl;
  rest = rw (all, sub-zero) refl;
  others = refl;
}
  where
    all : flagged left ≡ words_of t
    all = keep_all _ _ (λ x i. flags x (let l = span_in 0 (length left) x i in omega arith)) ∙ ap (span 0) f

    counted : (w : ℕ) → w < length left → get_or gains w 0 ≡ length (keep (listed offsets w) (flagged left))
    counted w l =
        let h : w < 2 ^ t = omega arith in
        rw (full w h, all, o) (ball_size t s 0 (pow_pos t) ∙ sym (ball_size t s w h) ∙ ap length (ball_kept t s w h))

-- ---- a turn

-- the best number depends on the numbers below n alone
best_same : (f g : ℕ → ℕ) (n : ℕ) → ((v : ℕ) → v < n → f v ≡ g v) → best f n ≡ best g n
unfolding best
best_same f g zero h = refl
best_same f g (suc n) h = go (best f n) (best g n) (best_same f g n (λ v l. h v (le_step l))) (best_le f n)
  where
    go : (a b : ℕ) → a ≡ b → a ≤ n → cond (beats (f n) (f a)) n a ≡ cond (beats (g n) (g b)) n b
    go a b e l = rw (h a (suc-le-suc l), h n (le_refl (suc n)), e) refl

greedy_step : (t s n : ℕ) (left : List ℕ) → 0 < length left →
    greedy t s (suc n) left ≡ chosen t s left ∷ greedy t s n (without s (chosen t s left) left)
unfolding greedy
greedy_step t s n [] l = absurd (not-suc-le-zero l)
greedy_step t s n (x ∷ left) l = refl

greedy_stop : (t s n : ℕ) → greedy t s n [] ≡ []
unfolding greedy
greedy_stop t s zero = refl
greedy_stop t s (suc n) = refl

module _ {t s : ℕ} {ball gains : List ℕ} {left : List Bool} {before table : List ℕ} {count w : ℕ}
    (g : Growing t s ball gains left before table count) (q : w ≡ best (λ v. get_or gains v 0) (length gains)) where
  left_within : Within t (flagged left)
  unfolding Within flagged
  left_within x i = let l = span_in 0 (length left) x (keep_in _ (span 0 (length left)) x i).0 in omega (arith, g.words)

  gains_are : (v : ℕ) → v < 2 ^ t → get_or gains v 0 ≡ gain s (flagged left) v
  unfolding gain Within
  gains_are v l =
      g.counts.counted v (rw g.words l)
      ∙ ap length (keep_same _ _ (flagged left) (λ x i. g.same v x l (left_within x i)))

  -- w is the word that greedy chooses
  is_chosen : w ≡ chosen t s (flagged left)
  unfolding chosen
  is_chosen = q ∙ ap (best (λ v. get_or gains v 0)) (g.counts.size ∙ g.words) ∙ best_same _ _ (2 ^ t) gains_are

  word_lt : w < 2 ^ t
  word_lt = rw is_chosen (chosen_lt t s (flagged left))

  pub grow_lt : w < length left
  grow_lt = rw g.words word_lt

  -- while its gain is not 0, something is left
  module _ (p : 0 < get_or gains w 0) where
    gaining : 0 < length (keep (near s w) (flagged left))
    unfolding gain
    gaining = rw (gains_are w word_lt) at p

    pub grow_room : count < 2 ^ t
    grow_room = omega (arith, gaining, length_keep (near s w) (flagged left), g.room)

    pub grow_fits : count < length table
    grow_fits = omega (arith, grow_room, g.fits, g.size)

    module _ {gains' : List ℕ} {left' : List Bool} (counts' : Counts ball gains' left')
        (joined : flagged left' ≡ keep (λ x. not (listed ball w x)) (flagged left)) (size' : length left' ≡ length left) where
      left_next : flagged left' ≡ without s w (flagged left)
      unfolding without Within
      left_next = joined ∙ keep_same _ _ (flagged left) (λ x i. ap not (g.same w x word_lt (left_within x i)))

      fewer : length (flagged left') < length (flagged left)
      unfolding without
      fewer = rw left_next (omega (arith, gaining, keep_split (near s w) (flagged left)))

      goes_on : w ∷ greedy t s (2 ^ t - suc count) (flagged left') ≡ greedy t s (2 ^ t - count) (flagged left)
      goes_on =
          let e : 2 ^ t - count ≡ suc (2 ^ t - suc count) = omega (arith, grow_room) in
          rw (left_next, e, greedy_step t s _ (flagged left) (omega (arith, fewer)), ← is_chosen) refl

      pub grow_next : Growing t s ball gains' left' before (set table count w) (count + 1)
      grow_next =
          let later : drop (count + 1) table ≡ drop (count + 1) before =
          sym (drop-drop 1 count table) ∙ ap (drop 1) g.others ∙ drop-drop 1 count before in
          record {
            counts = counts';
            words = size' ∙ g.words;
            small = g.small;
            fits = g.fits;
            same = g.same;
            room = omega (arith, g.room, fewer);
            size = length-set table count w ∙ g.size;
            rest =
                rw (add-one, take-suc-set table count w grow_fits, append_snoc)
                (ap (λ (l : List ℕ). take count table ++ l) goes_on ∙ g.rest);
            others = drop-set-lt (count + 1) table count w (omega arith) ∙ later;
          }

  -- once its gain is 0, nothing is left
  module _ (z : get_or gains w 0 ≡ 0) where
    nothing : flagged left ≡ []
    nothing = go (flagged left) refl
      where
        go : (l : List ℕ) → flagged left ≡ l → l ≡ []
        go [] e = refl
        go (x ∷ l) e =
            let here : In x (flagged left) = rw e (Memᴰ.head refl) in
            let gains-some = chosen_gains t s (flagged left) left_within x here in
            absurd (omega (arith, z, gains_are w word_lt, ap (gain s (flagged left)) is_chosen))

    first_cells : take count table ≡ code t s
    first_cells = sym (append-nil (take count table)) ∙ (rw (nothing, greedy_stop) at g.rest)

    counted : count ≡ length (code t s)
    counted = sym (length-take-le count table (omega (arith, g.room, g.fits, g.size))) ∙ ap length first_cells

    pub grow_end : Filled t s count before table
    unfolding written
    grow_end = record {
      count = counted;
      most = omega (arith, g.room);
      cells = sym (take-append-drop count table) ∙ rw (first_cells, g.others, counted) refl;
    }
