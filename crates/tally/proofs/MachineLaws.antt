-- The laws that the code's proofs cite: one step of each loop, and each way through `recounted`, `begin` and `toggle`.
use Rattle.std.proofs.Math.Path.{◌≡◌, refl, sym, ap}
use Rattle.std.proofs.Common.{◌∙◌, add-one, arith, take-append-drop}
use Rattle.std.specs.Prelude.{◌⊎◌, Bool, true, false, cond, ◌||◌, eqb, ℕ, zero, suc, ◌+◌, ◌-◌, ◌/◌, ◌≤◌, ◌<◌, min, map, get_or, drop, set, replicate, Some, None, Ok, Err}
use Rattle.std.specs.List.{find}
use mathlib.Core.List.Memᴰ
use Rattle.std.proofs.lemmas.Option.{same_Some, none-some}
use mathlib.Core.List.{List, [], ◌∷◌, ◌++◌, append_assoc}
use Rattle.std.proofs.Math.ListN.{length, take, length-set, drop_of_length-le}
use Rattle.std.proofs.Math.Seq.{drop-cons, drop-set-lt, take-suc-set}
use mir.Val.{bool_byte}
use Rattle.words.specs.Lists.{In, some, keep, count}
use Rattle.words.specs.Bits.{toggle, width}
use Rattle.words.proofs.BitLaws.{digit}
use Rattle.words.specs.declared.Refused.{Refused}
use Rattle.words.specs.declared.Reason.TheVariants.{NoSuchVariable}
use Rattle.words.specs.Refusals.{number_of}
use Rattle.formula.specs.Formula.{Literal, Clause, met, names, literal_of, clause_limit, WellFormedClause}
use Rattle.formula.specs.Sheet.{Result, accepted, refused, parse}
use Rattle.formula.specs.Machine.{IsLiteral, held}
use Rattle.formula.proofs.TableLaws.{length_held}
use Rattle.formula.proofs.CountLaws.{names?}
use Rattle.words.proofs.CountLaws.{count_cons}
use Rattle.formula.specs.declared.sheet.Sheet.{Sheet}
use Rattle.formula.specs.Reading.{formula_of}
use Rattle.tally.specs.Tally.{Tally, tally_of, moved, recounted, renumber, recount, toggled, tally_begin, tally_toggle, left}
use Rattle.tally.proofs.TallyLaws.{count_met, count_unmet}
use Rattle.tally.proofs.OperationLaws.{begin_declined, toggle_declined, begin_done, toggle_done, toggle_unknown}
use Rattle.tally.specs.Machine.{Comes, Passed, Passing}

-- ---- the number of a clause

-- word j stands for a literal of the clause,
pub word_in : (ws : List ℕ) (j : ℕ) → j < length ws → In (literal_of (get_or ws j 0)) (map literal_of ws)
word_in [] j h = absurd (omega arith)
word_in (w ∷ ws) zero h = Memᴰ.head refl
word_in (w ∷ ws) (suc j) h = Memᴰ.tail (word_in ws j (omega arith))

-- and such a word is a literal's.
pub word_known : (ws : List ℕ) → WellFormedClause width (map literal_of ws) → (w : ℕ) → In (literal_of w) (map literal_of ws) → IsLiteral w
unfolding literal_of
word_known ws f w i = let v = f.known (literal_of w) i in (omega arith, omega arith)

-- The literals that pass a test are counted word by word.
pub word_counted : (p : Literal → Bool) (ws : List ℕ) (j : ℕ) → j < length ws →
    count p (map literal_of (drop j ws)) ≡ digit (p (literal_of (get_or ws j 0))) + count p (map literal_of (drop (suc j) ws))
word_counted p ws j h = ap (λ (vs : List ℕ). count p (map literal_of vs)) (drop-cons ws j 0 h) ∙ count_cons p _ _

pub none_counted : (p : Literal → Bool) (ws : List ℕ) (j : ℕ) → length ws ≤ j → count p (map literal_of (drop j ws)) ≡ 0
unfolding count keep
none_counted p ws j h = ap (λ (vs : List ℕ). count p (map literal_of vs)) (drop_of_length-le ws {i = j} h)

-- the first word that names v is of a literal that names it,
abbrev Named : ℕ → List ℕ → ℕ → Type 0
Named v ws w = In (literal_of w) (map literal_of ws) × (names? v (literal_of w) ≡ true)

pub word_found : (v : ℕ) (ws : List ℕ) (w : ℕ) → Some w ≡ find (λ x. eqb (x / 2) v) ws → Named v ws w
unfolding literal_of
word_found v [] w h = absurd (none-some w (sym h))
word_found v (x ∷ ws) w h = go (eqb (x / 2) v) refl h
    (λ e. let (i, named) = word_found v ws w e in (Memᴰ.tail i, named))
  where
    go : (b : Bool) → eqb (x / 2) v ≡ b → Some w ≡ cond b (Some x) (find (λ y. eqb (y / 2) v) ws) →
        (Some w ≡ find (λ y. eqb (y / 2) v) ws → Named v (x ∷ ws) w) → Named v (x ∷ ws) w
    go true e h rest = let same : w ≡ x = same_Some w x h in rw same (Memᴰ.head refl, e)
    go false e h rest = rest h

-- and where there is none, no literal does.
pub word_lacking : (v : ℕ) (ws : List ℕ) → None ≡ find (λ x. eqb (x / 2) v) ws → names v (map literal_of ws) ≡ false
unfolding names some literal_of
word_lacking v [] h = refl
word_lacking v (x ∷ ws) h = go (eqb (x / 2) v) h (word_lacking v ws)
  where
    go : (b : Bool) → None ≡ cond b (Some x) (find (λ y. eqb (y / 2) v) ws) →
        (None ≡ find (λ y. eqb (y / 2) v) ws → names v (map literal_of ws) ≡ false) → (b || names v (map literal_of ws)) ≡ false
    go true h rest = absurd (none-some _ h)
    go false h rest = rest h

-- a truth value as the machine adds it
pub byte_digit : (b : Bool) → bool_byte b ≡ digit b
byte_digit true = refl
byte_digit false = refl

-- ---- the number of false clauses

pub recounted_none : (x y u : ℕ) → x ≡ 0 → y ≡ 0 → u ≡ recounted x y u
unfolding recounted
recounted_none x y u p q = rw (p, q) refl

pub recounted_leaves : (x y u : ℕ) → x ≡ 0 → (y ≡ 0 → ⊥) → min (u - 1) clause_limit ≡ recounted x y u
unfolding recounted
recounted_leaves zero zero u p q = absurd (q refl)
recounted_leaves zero (suc y) u p q = refl
recounted_leaves (suc x) y u p q = absurd (omega arith)

pub recounted_stays : (x y u : ℕ) → (x ≡ 0 → ⊥) → (y ≡ 0 → ⊥) → u ≡ recounted x y u
unfolding recounted
recounted_stays zero y u p q = absurd (p refl)
recounted_stays (suc x) zero u p q = absurd (q refl)
recounted_stays (suc x) (suc y) u p q = refl

pub recounted_falls : (x y u : ℕ) → (x ≡ 0 → ⊥) → y ≡ 0 → min (u + 1) clause_limit ≡ recounted x y u
unfolding recounted
recounted_falls zero y u p q = absurd (p refl)
recounted_falls (suc x) zero u p q = refl
recounted_falls (suc x) (suc y) u p q = absurd (omega arith)

-- ---- a pass over the clauses

module _ (g : Clause → ℕ → ℕ) (cs : List Clause) (xs₀ : List ℕ) (u₀ : ℕ) where
  pub passing_start : Passing g cs xs₀ u₀ 0 xs₀ u₀
  passing_start = record { size = refl; met = refl; unmet = refl }

  module _ (i : ℕ) (xs : List ℕ) (u : ℕ) (p : Passing g cs xs₀ u₀ i xs u) where
    pub passing_next : (c : Clause) → drop i cs ≡ c ∷ drop (suc i) cs → i < length xs₀ →
        (y : ℕ) → y ≡ g c (get_or xs i 0) → Passing g cs xs₀ u₀ (i + 1) (set xs i y) (recounted (get_or xs i 0) y u)
    unfolding renumber recount
    passing_next c here room y e =
        let inside : i < length xs = omega (arith, p.size) in
        let rest = drop-set-lt (suc i) xs i y (omega arith) in
        let number : renumber g (drop i cs) (drop i xs) ≡ y ∷ renumber g (drop (suc i) cs) (drop (suc i) xs) =
        rw (here, drop-cons xs i 0 inside, e) refl in
        let false_now : recount g (drop i cs) (drop i xs) u ≡ recount g (drop (suc i) cs) (drop (suc i) xs) (recounted (get_or xs i 0) y u) =
        rw (here, drop-cons xs i 0 inside, e) refl in
        record {
          size = length-set xs i y ∙ p.size;
          met = rw (add-one, take-suc-set xs i y inside, rest, append_assoc) (ap (λ (r : List ℕ). take i xs ++ r) (sym number) ∙ p.met);
          unmet = rw (add-one, rest) (sym false_now ∙ p.unmet);
        }

    pub passing_end : length cs ≤ i → Passed g cs xs₀ u₀ xs u
    unfolding renumber recount
    passing_end h =
        let none = drop_of_length-le cs {i = i} h in
        record {
          met = sym (take-append-drop i xs) ∙ (rw none at p.met);
          unmet = rw none at p.unmet;
        }

-- ---- the operations, one law for each way through them

module _ (f : Tally → Result Tally) (t : Tally) where
  comes_refused : (x : Refused) → refused (number_of x.reason) x.place ≡ f t → Comes f t (Err x) t
  unfolding left
  comes_refused x e = record { answer = e; tally = rw (← e) }

  comes_done : (u : Tally) → f t ≡ accepted u → Comes f t (Ok tt) u
  unfolding left
  comes_done u e = record { answer = sym e; tally = rw e }

module _ (s : List ℕ) (t : Tally) where
  -- the sheet's refusal,
  module _ (x : Refused) (e : refused (number_of x.reason) x.place ≡ parse s) where
    pub begin_stops : Comes (λ _. tally_begin s) t (Err x) t
    begin_stops = comes_refused _ t x (sym (begin_declined s _ _ (sym e)))

    pub toggle_stops : (v : ℕ) → Comes (tally_toggle s v) t (Err x) t
    toggle_stops v = comes_refused _ t x (sym (toggle_declined s _ _ (sym e) v t))

  module _ (sheet : Sheet) (e : accepted (formula_of sheet) ≡ parse s) where
    read : parse s ≡ accepted (formula_of sheet)
    read = sym e

    abbrev cs : List Clause
    cs = held sheet.count sheet.cells

    room : length cs ≤ clause_limit
    room = rw (length_held sheet.count sheet.cells) sheet.holds.room

    -- a tally that begins,
    pub begin_made : (w m : ℕ) → w ≡ m → m ≡ 0 → (xs : List ℕ) (u : ℕ) →
        Passed (λ c x. count (met m) c) cs (replicate clause_limit 0) sheet.count xs u →
        Comes (λ _. tally_begin s) t (Ok tt) (record { assignment = w; met = xs; unmet = u })
    unfolding tally_of
    begin_made w m stored z xs u p =
        let size : sheet.count ≡ length cs = sym (length_held sheet.count sheet.cells) in
        let same : ◌≡◌ {A = Tally} (record { assignment = w; met = xs; unmet = u }) (tally_of cs m) =
        λ i.
        record {
          assignment = stored i;
          met = (p.met ∙ count_met m cs room) i;
          unmet = (p.unmet ∙ ap (recount (λ c x. count (met m) c) cs (replicate clause_limit 0)) size ∙ count_unmet m cs room) i;
        } in
        comes_done _ t _ (begin_done s _ read ∙ ap accepted (sym (same ∙ ap (tally_of cs) z)))

    -- the refusal of a variable,
    pub toggle_none : (v : ℕ) → (v ≡ 0) ⊎ (sheet.n < v) →
        Comes (tally_toggle s v) t (Err (record { reason = NoSuchVariable; place = 0 })) t
    unfolding number_of
    toggle_none v w = comes_refused _ t _ (sym (toggle_unknown s _ read v t w))

    -- and the toggle.
    pub toggle_made : (v : ℕ) → 1 ≤ v → v ≤ sheet.n → (w m : ℕ) → w ≡ m → m ≡ toggle t.assignment (v - 1) → (xs : List ℕ) (u : ℕ) →
        Passed (moved m v) cs t.met t.unmet xs u →
        Comes (tally_toggle s v) t (Ok tt) (record { assignment = w; met = xs; unmet = u })
    unfolding toggled
    toggle_made v low high w m stored z xs u p =
        let q : Passed (moved (toggle t.assignment (v - 1)) v) cs t.met t.unmet xs u = rw z at p in
        let same : ◌≡◌ {A = Tally} (record { assignment = w; met = xs; unmet = u }) (toggled v cs t) =
        λ i. record { assignment = (stored ∙ z) i; met = q.met i; unmet = q.unmet i } in
        comes_done _ t _ (toggle_done s _ read v t low high ∙ ap accepted (sym same))
