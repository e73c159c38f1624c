-- `Assignment::toggled` meets its contract: in either half the change is the power of two of its bit.
use Rattle.std.specs.Prelude.{◌≡◌, ℕ, ◌+◌, ◌*◌, ◌%◌, ◌^◌}
use Rattle.std.proofs.Common.{sym, ap, ◌∙◌, arith, mod-eq_of_lt}
use Rattle.std.proofs.Math.Pow.{pow-add, pow-lt}
use Rattle.std.specs.Int.Bits.{bit_xor}
use Rattle.words.specs.Bits.{toggle, width}
use Rattle.words.proofs.BitLaws.{one_shl}
use Rattle.words.proofs.Assignment.toggled.Goals as goal
use Rattle.words.proofs.Assignment.toggled.Goals.{then-v-lt-HALF, else-v-lt-HALF}

pub returns : goal.returns
unfolding toggle
returns c =
    let v = c.args.v in
    let own : c.from-own.result ≡ 2 ^ (v % 64) = c.from-own.ensures ∙ one_shl 64 (v % 64) (omega arith) in
    let change : c.if-v-lt-HALF.change ≡ 2 ^ v =
    elim c.if-v-lt-HALF.branch [
      | then-v-lt-HALF w ↦
          let at : v % 64 ≡ v = omega arith in
          w.change-is ∙ own ∙ ap (λ (x : ℕ). 2 ^ x) at
      | else-v-lt-HALF w ↦
          let at : v % 64 + 64 ≡ v = omega arith in
          let whole : 2 ^ (v % 64) * 2 ^ 64 ≡ 2 ^ v = sym (pow-add 2 (v % 64) 64) ∙ ap (λ (x : ℕ). 2 ^ x) at in
          w.change-is ∙ ap (λ (x : ℕ). x * 2 ^ 64 % 2 ^ width) own ∙ ap (λ (x : ℕ). x % 2 ^ width) whole ∙ mod-eq_of_lt (pow-lt c.requires)
    ] in
    ap (bit_xor c.args.self.bits) change
