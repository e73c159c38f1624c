-- The laws of planes: `moved` counts one up or down, and the planes of a slot stored in their array.
use Rattle.std.specs.Prelude.{◌≡◌, refl, Bool, true, false, not, ◌&&◌, ◌||◌, List, ℕ, ◌+◌, ◌*◌, ◌%◌, ◌≤◌, ◌<◌, eqb, leb, set}
use Rattle.std.proofs.Common.{sym, ◌∙◌, arith, ne_eqb, le-leb, below_more}
use Rattle.std.proofs.Math.Bool.{xor}
use Rattle.std.proofs.Math.ListN.{length, get_or, length-set}
use Rattle.std.proofs.Math.Seq.{get_or-set_same, get_or-set_other}
use Rattle.std.proofs.lemmas.Bool.{lt-leb}
use Rattle.words.proofs.BitLaws.{digit, same_test}
use Rattle.planes.specs.declared.Planes.{Planes}
use Rattle.planes.specs.Machine.{row_words, first_counter, second_counter, slots, plane_cells, number, planes_at, Stored}

-- ---- one more or one less

-- One digit: where c is set, the digit a changes, up or (where d is set) down, and what is left to do goes to the next digit.
digit_moves : (a c d : Bool) →
    digit (xor a c) + digit (c && d) + 2 * digit ((xor a d && c) && not d)
    ≡ digit a + digit (c && not d) + 2 * digit ((xor a d && c) && d)
unfolding xor
digit_moves true true true = refl
digit_moves true true false = refl
digit_moves true false true = refl
digit_moves true false false = refl
digit_moves false true true = refl
digit_moves false true false = refl
digit_moves false false true = refl
digit_moves false false false = refl

-- up and down at once are no change
change_moves : (u d : Bool) → digit (xor u d && d) + digit u ≡ digit (xor u d && not d) + digit d
unfolding xor
change_moves true true = refl
change_moves true false = refl
change_moves false true = refl
change_moves false false = refl

digit_le : (b : Bool) → digit b ≤ 1
digit_le true = omega arith
digit_le false = omega arith

-- Four digits: where u is set the number counts one up, where d is set one down, to n.
module _ (a b c e u d : Bool) where
  abbrev change0 : Bool
  change0 = xor u d

  abbrev change1 : Bool
  change1 = xor a d && change0

  abbrev change2 : Bool
  change2 = xor b d && change1

  abbrev change3 : Bool
  change3 = xor c d && change2

  pub number_moves : (n : ℕ) → n < 16 → n + digit d ≡ number a b c e + digit u →
      number (xor a change0) (xor b change1) (xor c change2) (xor e change3) ≡ n
  number_moves n l h =
      omega (
        arith,
        change_moves u d,
        digit_moves a change0 d,
        digit_moves b change1 d,
        digit_moves c change2 d,
        digit_moves e change3 d,
        digit_le (xor a change0),
        digit_le (xor b change1),
        digit_le (xor c change2),
        digit_le (xor e change3),
      )

-- a number is 0 where no digit is set
pub zero_number : (a b c d : Bool) → not (((a || b) || c) || d) ≡ eqb (number a b c d) 0
zero_number true b c d = sym (ne_eqb (number true b c d) 0 (λ e. omega arith))
zero_number false true c d = sym (ne_eqb (number false true c d) 0 (λ e. omega arith))
zero_number false false true d = sym (ne_eqb (number false false true d) 0 (λ e. omega arith))
zero_number false false false true = refl
zero_number false false false false = refl

-- it is 1 where the first digit alone is set
pub one_number : (a b c d : Bool) → (a && not ((b || c) || d)) ≡ eqb (number a b c d) 1
one_number false b c d = sym (ne_eqb (number false b c d) 1 (λ e. omega arith))
one_number true true c d = sym (ne_eqb (number true true c d) 1 (λ e. omega arith))
one_number true false true d = sym (ne_eqb (number true false true d) 1 (λ e. omega arith))
one_number true false false true = refl
one_number true false false false = refl

-- it is at most 2 where neither the first two digits nor a higher one are set
pub few_number : (a b c d : Bool) → not (((a && b) || c) || d) ≡ leb (number a b c d) 2
few_number true true c d = sym (lt-leb (number true true c d) 2 (omega arith))
few_number true false true d = sym (lt-leb (number true false true d) 2 (omega arith))
few_number true false false true = refl
few_number true false false false = refl
few_number false b true d = sym (lt-leb (number false b true d) 2 (omega arith))
few_number false b false true = sym (lt-leb (number false b false true) 2 (omega arith))
few_number false b false false = sym (le-leb (number false b false false) 2 (omega (arith, digit_le b)))

-- Four digits: the number that `number_moves` speaks of is 0 where these digits are.
pub zero_moves : (a b c e u d : Bool) (n : ℕ) → digit u + digit d ≤ 1 → n + digit d ≡ number a b c e + digit u →
    eqb (number (xor a d || u) b c e) 0 ≡ eqb n 0
unfolding xor
zero_moves a b c e true true n l h = absurd (omega arith)
zero_moves true b c e true false n l h = same_test (number true b c e) 0 n 0 (λ q. omega arith) (λ q. omega arith)
zero_moves false b c e true false n l h = same_test (number true b c e) 0 n 0 (λ q. omega arith) (λ q. omega arith)
zero_moves true b c e false true n l h = same_test (number false b c e) 0 n 0 (λ q. omega arith) (λ q. omega arith)
zero_moves false b c e false true n l h = same_test (number true b c e) 0 n 0 (λ q. omega arith) (λ q. omega arith)
zero_moves true b c e false false n l h = same_test (number true b c e) 0 n 0 (λ q. omega arith) (λ q. omega arith)
zero_moves false b c e false false n l h = same_test (number false b c e) 0 n 0 (λ q. omega arith) (λ q. omega arith)

-- ---- the planes of a slot

same_planes : {a b c d a' b' c' d' : ℕ} → a ≡ a' → b ≡ b' → c ≡ c' → d ≡ d' →
    ◌≡◌ {A = Planes} (record { p0 = a; p1 = b; p2 = c; p3 = d }) (record { p0 = a'; p1 = b'; p2 = c'; p3 = d' })
same_planes e f g h = rw (e, f, g, h)

module _ (xs : List ℕ) (w : ℕ) (p : Planes) where
  abbrev stored0 : List ℕ
  stored0 = set xs w p.p0

  abbrev stored1 : List ℕ
  stored1 = set stored0 (w + slots) p.p1

  abbrev stored2 : List ℕ
  stored2 = set stored1 (w + 2 * slots) p.p2

  abbrev stored : List ℕ
  stored = set stored2 (w + 3 * slots) p.p3

  stored_length : length stored ≡ length xs
  stored_length = simp length-set

  -- the places of other words
  aside : (i : ℕ) → (i % slots ≡ w % slots → ⊥) → get_or stored i 0 ≡ get_or xs i 0
  aside i d =
      get_or-set_other stored2 (w + 3 * slots) i _ 0 (λ e. d (omega arith))
      ∙ get_or-set_other stored1 (w + 2 * slots) i _ 0 (λ e. d (omega arith))
      ∙ get_or-set_other stored0 (w + slots) i _ 0 (λ e. d (omega arith))
      ∙ get_or-set_other xs w i _ 0 (λ e. d (omega arith))

  module _ (l : w < slots) where
    stored_other : (v : ℕ) → v < slots → (v ≡ w → ⊥) → planes_at stored v ≡ planes_at xs v
    unfolding planes_at
    stored_other v h d =
        same_planes
        (aside v (λ e. d (omega arith)))
        (aside (v + slots) (λ e. d (omega arith)))
        (aside (v + 2 * slots) (λ e. d (omega arith)))
        (aside (v + 3 * slots) (λ e. d (omega arith)))

    stored_same : length xs ≡ plane_cells → planes_at stored w ≡ p
    unfolding planes_at
    stored_same h =
        let room1 : w + slots < length stored0 = simp length-set (omega arith) in
        let room2 : w + 2 * slots < length stored1 = simp length-set (omega arith) in
        let room3 : w + 3 * slots < length stored2 = simp length-set (omega arith) in
        same_planes
        (past3 w (λ e. omega arith) ∙ past2 w (λ e. omega arith) ∙ past1 w (λ e. omega arith)
        ∙ get_or-set_same xs w _ 0 (omega arith))
        (past3 (w + slots) (λ e. omega arith) ∙ past2 (w + slots) (λ e. omega arith)
        ∙ get_or-set_same stored0 (w + slots) _ 0 room1)
        (past3 (w + 2 * slots) (λ e. omega arith) ∙ get_or-set_same stored1 (w + 2 * slots) _ 0 room2)
        (get_or-set_same stored2 (w + 3 * slots) _ 0 room3)
      where
        past3 : (i : ℕ) → (i ≡ w + 3 * slots → ⊥) → get_or stored i 0 ≡ get_or stored2 i 0
        past3 i d = get_or-set_other stored2 (w + 3 * slots) i _ 0 d

        past2 : (i : ℕ) → (i ≡ w + 2 * slots → ⊥) → get_or stored2 i 0 ≡ get_or stored1 i 0
        past2 i d = get_or-set_other stored1 (w + 2 * slots) i _ 0 d

        past1 : (i : ℕ) → (i ≡ w + slots → ⊥) → get_or stored1 i 0 ≡ get_or stored0 i 0
        past1 i d = get_or-set_other stored0 (w + slots) i _ 0 d

  pub stored_slot : w < slots → length xs ≡ plane_cells → Stored w p xs stored
  stored_slot l h = record { size = stored_length ∙ h; here = stored_same l h; other = stored_other l }

-- Of so many words the first w hold what P says of them in the first counter, and Q in the second: the invariant of a loop that
-- stores word by word.
pub record FirstWords (P Q : ℕ → Planes → Type 0) (xs : List ℕ) (w : ℕ) : Type 0 where
  pub size : length xs ≡ plane_cells
  pub first : (v : ℕ) → v < w → P v (planes_at xs (first_counter + v))
  pub second : (v : ℕ) → v < w → Q v (planes_at xs (second_counter + v))

pub words_none : {P Q : ℕ → Planes → Type 0} {xs : List ℕ} → length xs ≡ plane_cells → FirstWords P Q xs 0
words_none size = record { size = size; first = λ v l. absurd (omega arith); second = λ v l. absurd (omega arith) }

-- with word w stored in both counters
pub words_step : {P Q : ℕ → Planes → Type 0} {w : ℕ} {xs ys zs : List ℕ} {p q : Planes} →
    FirstWords P Q xs w → w < row_words →
    Stored (first_counter + w) p xs ys → P w p → Stored (second_counter + w) q ys zs → Q w q →
    FirstWords P Q zs (w + 1)
words_step {P} {Q} {w} {xs} {ys} {zs} {p} {q} f l a here b here' =
    record {
      size = b.size;
      first = below_more (λ v. P v (planes_at zs (first_counter + v))) w
          (λ v h. rw (other (first_counter + v) (omega arith) (λ e. omega arith) (λ e. omega arith)) (f.first v h))
          (rw (b.other (first_counter + w) (omega arith) (λ e. omega arith), a.here) here);
      second = below_more (λ v. Q v (planes_at zs (second_counter + v))) w
          (λ v h. rw (other (second_counter + v) (omega arith) (λ e. omega arith) (λ e. omega arith)) (f.second v h))
          (rw b.here here');
    }
  where
    other : (s : ℕ) → s < slots → (s ≡ first_counter + w → ⊥) → (s ≡ second_counter + w → ⊥) → planes_at zs s ≡ planes_at xs s
    other s h d d' = b.other s h d' ∙ a.other s h d
