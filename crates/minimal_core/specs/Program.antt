-- What the program answers to any input, and which clauses it keeps (02, paper 13).
use Rattle.std.specs.Prelude.{ℕ, cond, List, length, drop, nat_lt}
use Rattle.search.specs.Run.{plan}
use Rattle.decision.specs.Answers.{refusal, BAD_PLAN}
use Rattle.deletion.specs.Core.{Core, ended, core_to}
use Rattle.line.specs.Request.{word_of_input}

-- Block length, radius and budget are the first three words, and the rest is a sheet; the list has so many cells. Fewer than 12 bytes are a bad plan.
unfoldable pub program_core : List ℕ → (cells : ℕ) → Core
program_core input cells =
    cond (nat_lt (length input) 12)
    (ended (refusal BAD_PLAN 0))
    (core_to (plan (word_of_input input 0) (word_of_input input 1)) (word_of_input input 2) (drop 12 input) cells)
