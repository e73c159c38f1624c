-- Laws of the sheet's small parts: results in sequence, bytes and words, kind and value, one word read.
use Rattle.std.specs.Prelude.{◌≡◌, Bool, ◌||◌, List, [], ◌∷◌, ◌++◌, ℕ, zero, suc, ◌+◌, ◌-◌, ◌*◌, ◌/◌, ◌%◌, ◌^◌, ◌≤◌, ◌<◌, eqb, ltb, length, get_or, take, drop}
use Rattle.std.proofs.Math.Path.{refl}
use Rattle.std.proofs.Common.{sym, ap, ◌∙◌, subst, ⊎_elim, le_refl, arith, length-drop, take_all, drop-drop, ltb-false, eqb-true, ne_eqb, eq-eqb}
use Rattle.std.proofs.Math.Bool.{true, false}
use Rattle.std.proofs.lemmas.Bool.{false≢true, eqb-false, not-false}
use mathlib.Core.List.Memᴰ
use Rattle.std.proofs.Math.Nat.{div-div-eq-div-mul}
use Rattle.words.specs.Lists.{In}
use Rattle.words.proofs.ListLaws.{apart, some_last}
use Rattle.formula.specs.Formula.{Literal, Clause, names}
use Rattle.std.specs.Int.{w32, from_le_bytes}
use Rattle.formula.specs.Sheet.{Result, accepted, refused, ◌>>=◌, ◌>>◌, refuse_when, word_of, words, kind, value, take_word, word, bytes, WRONG_KIND}

-- ---- results in sequence, taken apart

-- no result is both
pub clash : {A P : Type 0} {t : Result A} {a : A} {x y : ℕ} → t ≡ accepted a → t ≡ refused x y → P
clash p q = apart (cc)

module _ {A B : Type 0} where
  pub bind_accepted : {P : Type 0} (m : Result A) (f : A → Result B) {b : B} → (m >>= f) ≡ accepted b →
      ((a : A) → m ≡ accepted a → f a ≡ accepted b → P) → P
  unfolding ◌>>=◌
  bind_accepted (accepted a) f e k = k a refl e
  bind_accepted (refused x y) f e k = clash e refl

  pub bind_refused : {P : Type 0} (m : Result A) (f : A → Result B) {x y : ℕ} → (m >>= f) ≡ refused x y →
      (m ≡ refused x y → P) → ((a : A) → m ≡ accepted a → f a ≡ refused x y → P) → P
  unfolding ◌>>=◌
  bind_refused (accepted a) f e j k = k a refl e
  bind_refused (refused x' y') f e j k = j (cc)

module _ {B : Type 0} where
  pub when_accepted : {P : Type 0} (t : Bool) (n p : ℕ) (r : Result B) {b : B} → (refuse_when t n p >> r) ≡ accepted b →
      (t ≡ false → r ≡ accepted b → P) → P
  unfolding ◌>>◌ refuse_when
  when_accepted true n p r e k = clash e refl
  when_accepted false n p r e k = k refl e

  pub when_refused : {P : Type 0} (t : Bool) (n p : ℕ) (r : Result B) {x y : ℕ} → (refuse_when t n p >> r) ≡ refused x y →
      (t ≡ true → n ≡ x → p ≡ y → P) → (t ≡ false → r ≡ refused x y → P) → P
  unfolding ◌>>◌ refuse_when
  when_refused true n p r e j k = j refl (cc) (cc)
  when_refused false n p r e j k = k refl e

-- ---- results in sequence, put together

pub bind_pure : {A : Type 0} (m : Result A) → (m >>= accepted) ≡ m
unfolding ◌>>=◌
bind_pure (accepted a) = refl
bind_pure (refused x y) = refl

pub bind_assoc : {A B C : Type 0} (m : Result A) (f : A → Result B) (g : B → Result C) → (m >>= f >>= g) ≡ (m >>= λ a. f a >>= g)
unfolding ◌>>=◌
bind_assoc (accepted a) f g = refl
bind_assoc (refused x y) f g = refl

-- ---- a fact of every element

module _ {A : Type 0} (P : A → Type 0) where
  pub all_nil : (y : A) → In y [] → P y
  all_nil y i = absurd (Memᴰ.not-nil i)

  pub all_cons : {x : A} {xs : List A} → P x → ((y : A) → In y xs → P y) → (y : A) → In y (x ∷ xs) → P y
  all_cons p h y i = ⊎_elim (λ e. subst P (sym e) p) (h y) (Memᴰ.cases_cons i)

  pub all_append : (xs : List A) {ys : List A} → ((y : A) → In y xs → P y) → ((y : A) → In y ys → P y) →
      (y : A) → In y (xs ++ ys) → P y
  all_append xs h k y i = ⊎_elim (h y) (k y) (Memᴰ.append_cases xs i)

-- ---- bytes and words

word_bytes : (w : ℕ) → w < 2 ^ 32 → word_of (w % 256) (w / 256 % 256) (w / 65536 % 256) (w / 16777216 % 256) ≡ w
unfolding word_of
word_bytes w h = rw (← div-div-eq-div-mul w 256 256, ← div-div-eq-div-mul w 65536 256, ← div-div-eq-div-mul w 256 256) (omega arith)

pub words_bytes : (ws : List ℕ) → ((w : ℕ) → In w ws → w < 2 ^ 32) → words (bytes ws) ≡ ws
unfolding words bytes
words_bytes [] h = refl
words_bytes (w ∷ ws) h = rw (word_bytes w (h w (Memᴰ.head refl)), words_bytes ws (λ x i. h x (Memᴰ.tail i)))

pub length_words : (s : List ℕ) → length (words s) ≡ length s / 4
unfolding words
length_words [] = refl
length_words (a ∷ []) = refl
length_words (a ∷ b ∷ []) = refl
length_words (a ∷ b ∷ c ∷ []) = refl
length_words (a ∷ b ∷ c ∷ d ∷ s) = omega (arith, length_words s)

pub length_bytes : (ws : List ℕ) → length (bytes ws) ≡ 4 * length ws
unfolding bytes
length_bytes [] = refl
length_bytes (w ∷ ws) = omega (arith, length_bytes ws)

-- the machine's number of four bytes
pub four_bytes : (a b c d : ℕ) → from_le_bytes w32 (a ∷ b ∷ c ∷ d ∷ []) ≡ word_of a b c d
unfolding word_of
four_bytes a b c d = omega arith

-- the bytes of a word of four bytes
bytes_word : (a b c d : ℕ) → a < 256 → b < 256 → c < 256 → d < 256 → let w = word_of a b c d in
    (w % 256 ≡ a) × (w / 256 % 256 ≡ b) × (w / 65536 % 256 ≡ c) × (w / 16777216 % 256 ≡ d)
unfolding word_of
bytes_word a b c d ha hb hc hd =
    let w : ℕ = a + 256 * b + 65536 * c + 16777216 * d in
    let q₁ : w / 256 ≡ b + 256 * c + 65536 * d = omega arith in
    let q₂ : w / 65536 ≡ c + 256 * d = omega arith in
    let q₃ : w / 16777216 ≡ d = omega arith in
    (omega arith, rw q₁ (omega arith), rw q₂ (omega arith), rw q₃ (omega arith))

pub bytes_words : (s : List ℕ) → length s % 4 ≡ 0 → ((b : ℕ) → In b s → b < 256) → bytes (words s) ≡ s
unfolding words bytes
bytes_words [] e h = refl
bytes_words (a ∷ []) e h = absurd (omega arith)
bytes_words (a ∷ b ∷ []) e h = absurd (omega arith)
bytes_words (a ∷ b ∷ c ∷ []) e h = absurd (omega arith)
bytes_words (a ∷ b ∷ c ∷ d ∷ s) e h =
    let small-a = h a (Memᴰ.head refl) in
    let small_b = h b (Memᴰ.tail (Memᴰ.head refl)) in
    let small-c = h c (Memᴰ.tail (Memᴰ.tail (Memᴰ.head refl))) in
    let small-d = h d (Memᴰ.tail (Memᴰ.tail (Memᴰ.tail (Memᴰ.head refl)))) in
    let q = bytes_word a b c d small-a small_b small-c small-d in
    let small : (x : ℕ) → In x s → x < 256 =
    λ x i. h x (Memᴰ.tail (Memᴰ.tail (Memᴰ.tail (Memᴰ.tail i)))) in
    rw (q.0, q.1, q.2, q.3, bytes_words s (omega arith) small)

-- the word at an index, by its bytes
pub words_at : (s : List ℕ) (i : ℕ) → i < length (words s) →
    get_or (words s) i 0 ≡ word_of (get_or s (4 * i) 0) (get_or s (4 * i + 1) 0) (get_or s (4 * i + 2) 0) (get_or s (4 * i + 3) 0)
unfolding words
words_at [] i h = absurd (omega arith)
words_at (a ∷ []) i h = absurd (omega arith)
words_at (a ∷ b ∷ []) i h = absurd (omega arith)
words_at (a ∷ b ∷ c ∷ []) i h = absurd (omega arith)
words_at (a ∷ b ∷ c ∷ d ∷ s) zero h = refl
words_at (a ∷ b ∷ c ∷ d ∷ s) (suc i) h =
    let first : 4 * suc i ≡ suc (suc (suc (suc (4 * i)))) = omega arith in
    rw (next 1, next 2, next 3, first) (words_at s i (omega arith))
  where
    next : (j : ℕ) → 4 * suc i + j ≡ suc (suc (suc (suc (4 * i + j))))
    next j = omega arith

-- the words of the part that follows the first word, and of the part that follows the third
words_tail : (s : List ℕ) → words (drop 4 s) ≡ drop 1 (words s)
unfolding words
words_tail [] = refl
words_tail (a ∷ []) = refl
words_tail (a ∷ b ∷ []) = refl
words_tail (a ∷ b ∷ c ∷ []) = refl
words_tail (a ∷ b ∷ c ∷ d ∷ s) = refl

pub words_part : (s : List ℕ) → words (take (length s - 12) (drop 12 s)) ≡ drop 3 (words s)
words_part s =
    rw (
      take_all (length s - 12) (drop 12 s) (rw length-drop (le_refl _)),
      ← drop-drop 4 8 s,
      words_tail,
      ← drop-drop 4 4 s,
      words_tail,
      words_tail,
      drop-drop 1 1 (words s),
      drop-drop 1 2 (words s),
    )

-- ---- kind and value

pub kind_word : (k v : ℕ) → v < 2 ^ 30 → kind (word k v) ≡ k
unfolding kind word
kind_word k v h = omega arith

pub value_word : (k v : ℕ) → v < 2 ^ 30 → value (word k v) ≡ v
unfolding value word
value_word k v h = omega arith

pub word_kind_value : (w : ℕ) → word (kind w) (value w) ≡ w
unfolding kind value word
word_kind_value w = omega arith

-- ---- one word

-- a word of the kind due there, and one of another kind
pub take_word_right : (k p w : ℕ) → kind w ≡ k → take_word k p w ≡ accepted (value w)
unfolding take_word ◌>>◌ refuse_when
take_word_right k p w e = rw (eq-eqb (kind w) k e)

pub take_word_wrong : (k p w : ℕ) → (kind w ≡ k → ⊥) → take_word k p w ≡ refused WRONG_KIND p
unfolding take_word ◌>>◌ refuse_when
take_word_wrong k p w e = rw (ne_eqb (kind w) k e)

pub take_word_word : (k p v : ℕ) → v < 2 ^ 30 → take_word k p (word k v) ≡ accepted v
take_word_word k p v h = take_word_right k p (word k v) (kind_word k v h) ∙ ap accepted (value_word k v h)

pub take_word_accepted : (k p w v : ℕ) → take_word k p w ≡ accepted v → (kind w ≡ k) × (value w ≡ v)
unfolding take_word
take_word_accepted k p w v e = when_accepted _ _ _ _ e (λ t q. (eqb-true _ _ (not-false _ t), cc))

pub neither : (a b : Bool) → (a || b) ≡ false → (a ≡ false) × (b ≡ false)
neither true b e = absurd (false≢true (sym e))
neither false b e = (refl, e)

-- a variable that is not refused with 6
pub known : (n x : ℕ) → (eqb x 0 || ltb n x) ≡ false → (1 ≤ x) × (x ≤ n)
known n x e = let h = neither (eqb x 0) (ltb n x) e in omega (arith, eqb-false x 0 h.0, ltb-false n x h.1)

pub differ_sym : (a b : ℕ) → eqb a b ≡ false → eqb b a ≡ false
differ_sym a b e = ne_eqb b a (λ h. eqb-false a b e (sym h))

-- ---- the variables of a clause

pub names_snoc : (v : ℕ) (c : Clause) (l : Literal) → names v (c ++ (l ∷ [])) ≡ (names v c || eqb l.variable v)
unfolding names
names_snoc v c l = some_last (λ m. eqb m.variable v) c l
