-- What the tests of the operations' inputs say.
use Rattle.std.specs.Prelude.{◌≡◌, Bool, true, false, ◌&&◌, List, ℕ, ◌^◌, ◌≤◌, ◌<◌, leb, length}
use Rattle.std.proofs.Math.Path.{refl}
use borrow.Author.Tests.{leb-true, le-leb, lt-leb}
use Rattle.words.proofs.ListLaws.{and_left, and_right}
use Rattle.code.specs.Code.{code}
use Rattle.code.specs.Operations.{given, block_limit, bad_plan, short_table, coded?, fits?, code_answer, written, code_table, measured?}

pub measured_le : (t s : ℕ) → measured? t s ≡ true → (t ≤ block_limit) × (s ≤ block_limit)
unfolding measured?
measured_le t s e = (
  leb-true t block_limit (and_left (leb t block_limit) (leb s block_limit) e),
  leb-true s block_limit (and_right (leb t block_limit) (leb s block_limit) e),
)

pub coded_bounds : (t s : ℕ) → coded? t s ≡ true → (1 ≤ t) × (t ≤ block_limit) × (s ≤ t)
unfolding coded?
coded_bounds t s e =
    let rest = and_right (leb 1 t) (leb t block_limit && leb s t) e in (
      leb-true 1 t (and_left (leb 1 t) (leb t block_limit && leb s t) e),
      leb-true t block_limit (and_left (leb t block_limit) (leb s t) rest),
      leb-true s t (and_right (leb t block_limit) (leb s t) rest),
    )

pub coded_le : (t s : ℕ) → coded? t s ≡ true → t ≤ block_limit
coded_le t s e = (coded_bounds t s e).1

-- the three cases of `code`
module _ (t s : ℕ) (table : List ℕ) where
  pub code_bad : coded? t s ≡ false → (bad_plan ≡ code_answer t s table) × (table ≡ code_table t s table)
  unfolding code_answer code_table
  code_bad e = (rw e refl, rw e refl)

  pub code_short : coded? t s ≡ true → length table < 2 ^ t → (short_table ≡ code_answer t s table) × (table ≡ code_table t s table)
  unfolding code_answer code_table fits?
  code_short e l = (rw (e, lt-leb _ _ l) refl, rw (e, lt-leb _ _ l) refl)

  pub code_fits : coded? t s ≡ true → 2 ^ t ≤ length table →
      (given (length (code t s)) ≡ code_answer t s table) × (written t s table ≡ code_table t s table)
  unfolding code_answer code_table fits?
  code_fits e l = (rw (e, le-leb _ _ l) refl, rw (e, le-leb _ _ l) refl)

-- and the inputs that a test declines
pub measured_not : (t s : ℕ) → (t ≤ block_limit → s ≤ block_limit → ⊥) → measured? t s ≡ false
measured_not t s h = go (measured? t s) refl
  where
    go : (b : Bool) → measured? t s ≡ b → b ≡ false
    go true e = let l = measured_le t s e in absurd (h l.0 l.1)
    go false e = refl

pub coded_not : (t s : ℕ) → (1 ≤ t → t ≤ block_limit → s ≤ t → ⊥) → coded? t s ≡ false
coded_not t s h = go (coded? t s) refl
  where
    go : (b : Bool) → coded? t s ≡ b → b ≡ false
    go true e = let l = coded_bounds t s e in absurd (h l.0 l.1 l.2)
    go false e = refl
