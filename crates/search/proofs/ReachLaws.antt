-- Few centres with a small radius do not reach all assignments: n + 1 ≤ M × (R + 1) for codes that cover. So the rounds of a Horn
-- formula, at most n + 1, are within the bound on the calls by any plan.
use Rattle.std.specs.Prelude.{◌≡◌, List, ℕ, zero, suc, ◌+◌, ◌-◌, ◌*◌, ◌/◌, ◌%◌, ◌^◌, ◌≤◌, ◌<◌}
use Rattle.std.proofs.Common.{sym, ap, ◌∙◌, ⊎_elim, mod-lt, eq-or-lt_of_le, le_of_suc-le-suc, arith, pow_pos, pow-add}
use Rattle.words.specs.Lists.{In}
use Rattle.words.specs.Bits.{distance}
use Rattle.words.proofs.BitLaws.{distance_comm, distance_opposite}
use Rattle.search.specs.Run.{Block, summed_radius, centre_count, centre_at}
use Rattle.search.proofs.CentreLaws.{Covered, summed_size, digits_lt, distance_low, centre_near}

-- With a group of r + 1 variables for each of K centres c there is an assignment that is within r of none: on the group of a centre it
-- differs from that centre in every variable. The last centre's group has the lowest bits.
away : (r : ℕ) (c : ℕ → ℕ) (K n : ℕ) → K * (r + 1) ≤ n → (x : ℕ) × (x < 2 ^ n) × ((i : ℕ) → i < K → r < distance x (c i))
away r c zero n h = (0, pow_pos n, λ i l. absurd (omega arith))
away r c (suc K) n h =
    let q : ℕ = r + 1 in
    let room : K * q ≤ n - q = omega arith in
    let (y, below, far) = away r (λ i. c i / 2 ^ q) K (n - q) room in
    let own : ℕ = 2 ^ q - 1 - c K % 2 ^ q in
    let small : c K % 2 ^ q < 2 ^ q = mod-lt (c K) (pow_pos q) in
    let fits : own < 2 ^ q = omega arith in
    let all : q + (n - q) ≡ n = omega arith in
    let whole : 2 ^ q * 2 ^ (n - q) ≡ 2 ^ n = sym (pow-add 2 q (n - q)) ∙ ap (λ (x : ℕ). 2 ^ x) all in
    let sum : (i : ℕ) → distance (y * 2 ^ q + own) (c i) ≡ distance y (c i / 2 ^ q) + distance own (c i % 2 ^ q) =
    λ i. distance_low q y own (c i) fits in (
      y * 2 ^ q + own,
      rw whole at (digits_lt (2 ^ (n - q)) (2 ^ q) y own below fits),
      λ i l. ⊎_elim
          (λ e. let last : distance own (c i % 2 ^ q) ≡ q = rw e (distance_opposite q (c K % 2 ^ q) small) in omega (arith, sum i))
          (λ l'. omega (arith, sum i, far i l'))
          (eq-or-lt_of_le (le_of_suc-le-suc l)),
    )

-- Of centres that cover there are so many.
pub centres_reach : (bs : List Block) → ((b : Block) → In b bs → Covered b) →
    summed_size bs + 1 ≤ centre_count bs * (summed_radius bs + 1)
centres_reach bs each = omega (arith, not_fewer)
  where
    not_fewer : centre_count bs * (summed_radius bs + 1) ≤ summed_size bs → ⊥
    not_fewer h =
        let (x, below, far) = away (summed_radius bs) (centre_at bs) (centre_count bs) (summed_size bs) h in
        let (i, l, near) = centre_near bs each x below in
        omega (arith, far i l, distance_comm x (centre_at bs i))
