-- One word: what each way out of the word reader, the number reader and the literal reader comes to in the definitions.
use Rattle.std.specs.Prelude.{◌≡◌, refl, Bool, true, false, cond, not, ℕ, ◌-◌, ◌/◌, ◌≤◌, ◌<◌, eqb, Some, None}
use Rattle.std.proofs.Common.{arith}
use borrow.Author.Tests.{lt-ltb, le-ltb, eq-eqb, ne_eqb}
use Rattle.words.specs.Bits.{bit}
use Rattle.words.proofs.ListLaws.{apart}
use Rattle.formula.specs.Formula.{Clause, names, literal_of}
use Rattle.formula.specs.Sheet.{accepted, refused, ◌>>=◌, ◌>>◌, refuse_when, kind, value, take_word, take_number, take_literal, LITERAL, WRONG_KIND, ABOVE_LIMIT, UNKNOWN_VARIABLE, REPEATED_VARIABLE}
use Rattle.formula.specs.Machine.{word_taken, Named}

-- a word that is not of the kind due, and one that is
module _ (due p w : ℕ) where
  pub word_other : None ≡ word_taken due w → refused WRONG_KIND p ≡ take_word due p w
  unfolding word_taken take_word ◌>>◌ refuse_when
  word_other e = go (eqb (kind w) due) e
    where
      go : (b : Bool) → None ≡ cond b (Some (value w)) None →
          refused WRONG_KIND p ≡ (refuse_when (not b) WRONG_KIND p >> accepted (value w))
      go true q = apart (cc)
      go false q = refl

  pub word_value : (v : ℕ) → Some v ≡ word_taken due w → accepted v ≡ take_word due p w
  unfolding word_taken take_word ◌>>◌ refuse_when
  word_value v e = go (eqb (kind w) due) e
    where
      go : (b : Bool) → Some v ≡ cond b (Some (value w)) None →
          accepted v ≡ (refuse_when (not b) WRONG_KIND p >> accepted (value w))
      go true q = cc
      go false q = apart (cc)

module _ (due limit p w : ℕ) where
  pub number_other : None ≡ word_taken due w → refused WRONG_KIND p ≡ take_number due limit p w
  unfolding take_number ◌>>=◌
  number_other e = rw (← word_other due p w e) refl

  module _ (v : ℕ) (e : Some v ≡ word_taken due w) where
    pub number_above : limit < v → refused ABOVE_LIMIT p ≡ take_number due limit p w
    unfolding take_number ◌>>=◌ ◌>>◌ refuse_when
    number_above h = rw (← word_value due p w v e, lt-ltb limit v h) refl

    pub number_read : v ≤ limit → accepted v ≡ take_number due limit p w
    unfolding take_number ◌>>=◌ ◌>>◌ refuse_when
    number_read h = rw (← word_value due p w v e, le-ltb limit v h) refl

module _ (n : ℕ) (before : Clause) (p w : ℕ) where
  pub literal_other : None ≡ word_taken LITERAL w → refused WRONG_KIND p ≡ take_literal n before p w
  unfolding take_literal ◌>>=◌
  literal_other e = rw (← word_other LITERAL p w e) refl

  module _ (v : ℕ) (e : Some v ≡ word_taken LITERAL w) where
    pub literal_zero : v / 2 ≡ 0 → refused UNKNOWN_VARIABLE p ≡ take_literal n before p w
    unfolding take_literal ◌>>=◌ ◌>>◌ refuse_when
    literal_zero h = rw (← word_value LITERAL p w v e, eq-eqb (v / 2) 0 h) refl

    module _ (pos : v / 2 ≡ 0 → ⊥) where
      pub literal_unknown : n < v / 2 → refused UNKNOWN_VARIABLE p ≡ take_literal n before p w
      unfolding take_literal ◌>>=◌ ◌>>◌ refuse_when
      literal_unknown h = rw (← word_value LITERAL p w v e, ne_eqb (v / 2) 0 pos, lt-ltb n (v / 2) h) refl

      module _ (known : v / 2 ≤ n) (m : ℕ) (set : Named n m before) where
        test_is : bit m (v / 2 - 1) ≡ names (v / 2) before
        test_is = set.same (v / 2) (omega arith) known

        pub literal_repeated : bit m (v / 2 - 1) ≡ true → refused REPEATED_VARIABLE p ≡ take_literal n before p w
        unfolding take_literal ◌>>=◌ ◌>>◌ refuse_when
        literal_repeated h = rw (← word_value LITERAL p w v e, ne_eqb (v / 2) 0 pos, le-ltb n (v / 2) known, ← test_is, h) refl

        pub literal_read : bit m (v / 2 - 1) ≡ false → accepted (literal_of v) ≡ take_literal n before p w
        unfolding take_literal ◌>>=◌ ◌>>◌ refuse_when
        literal_read h = rw (← word_value LITERAL p w v e, ne_eqb (v / 2) 0 pos, le-ltb n (v / 2) known, ← test_is, h) refl
