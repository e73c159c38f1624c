-- How the programs read their input (paper 01, "Settled examples"): a plan, a budget and a sheet.
use Rattle.std.specs.Prelude.{◌≡◌, ℕ, ◌≤◌, List, length, drop, slice_index}
use Rattle.formula.specs.Sheet.{words}
use Rattle.line.specs.declared.Request.{Request}

-- word i of the input
abbrev pub word_of_input : List ℕ → ℕ → ℕ
word_of_input input i = slice_index (words input) i

-- Block length, radius and budget are the first three words, and the rest is a sheet.
abbrev pub IsRequest : List ℕ → Request → Type 0
IsRequest input r =
    (12 ≤ length input)
    × (r.size ≡ word_of_input input 0)
    × (r.radius ≡ word_of_input input 1)
    × (r.budget ≡ word_of_input input 2)
    × (r.sheet.now ≡ drop 12 input)
