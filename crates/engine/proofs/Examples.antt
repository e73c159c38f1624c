-- The settled examples of paper 01 as papers 7 and 9 of 02 amend them, the one of paper 4, one over four words
-- by each road, one for each of paper 6's two rules, two of paper 7's, four of paper 9's, eight of splitting (paper 10), thirteen of legs
-- (paper 11, two of them a none of a record that did not come from the start, and the clear from there) and thirteen of legs on two sheets (paper
-- 12), proved from the definitions by one joint statement about one table.
use Rattle.std.specs.Prelude.{◌≡◌, refl, true, false, List, [], ◌∷◌, ◌++◌, map, ℕ, ◌-◌, ◌^◌, take, replicate}
use Rattle.words.specs.Lists.{some, every, keep, count, first, span}
use Rattle.words.specs.Bits.{bit, toggle, distance, word_at}
use Rattle.formula.specs.Formula as Formula
use Rattle.formula.specs.Formula.{Literal, Clause, Formula}
use Rattle.formula.specs.Sheet as Sheet
use Rattle.formula.specs.Sets as Sets
use Rattle.formula.specs.Sheet.{encode}
use Rattle.code.specs.Code as Code
use Rattle.code.specs.Volume as Volume
use Rattle.code.specs.Operations as Operations
use Rattle.code.specs.Operations.{Answer, given, declined, code_answer, code_table, volume_answer, floor_answer}
use Rattle.tree.specs.Explore as Explore
use Rattle.tree.specs.Budget as Budget
use Rattle.tree.specs.Legs as Balls
use Rattle.ball.specs.Ball as Ball
use Rattle.search.specs.Run as Search
use Rattle.horn.specs.Horn as Horn
use Rattle.splitting.specs.Splitting as Splitting
use Rattle.decision.specs.declared.Reply.{Reply}
use Rattle.legs.specs.declared.Checkpoint.{Checkpoint}
use Rattle.legs.specs.declared.LegEnd.{LegEnd}
use Rattle.decision.specs.Answers as Answers
use Rattle.decision.specs.Answers.{reply_to, split_to, REFUSED, CLEAR, NONE, SPENT, NO_ROAD, HORN, BALLS}
use Rattle.legs.specs.Legs as Legs
use Rattle.legs.specs.Legs.{takes, alone, grown}

-- a positive and a negative literal
abbrev pos : ℕ → Literal
pos v = record { variable = v; positive = true }

abbrev neg : ℕ → Literal
neg v = record { variable = v; positive = false }

-- What is asked of the library: a run, by its plan, budget and sheet; splitting, by its budget and sheet; a leg, by its plan, budget, sheet
-- and record, or with an old sheet and a longer one; a code, a volume or a floor, by length and radius.
pub data Question : Type 0 where
  run_of : (size radius budget : ℕ) → Formula → Question
  split_of : (budget : ℕ) → Formula → Question
  leg_of_lem : (size radius budget : ℕ) → Formula → Checkpoint → Question
  longer_of : (size radius budget : ℕ) → (old longer : Formula) → Checkpoint → Question
  code_of : (t s : ℕ) → Question
  volume_of : (t s : ℕ) → Question
  floor_of : (t s : ℕ) → Question

-- the numbers of an answer
numbers : Reply → List ℕ
numbers r =
    r.verdict ∷ r.batch ∷ r.road ∷ r.marks0 ∷ r.marks1 ∷ r.marks2 ∷ r.marks3 ∷ r.calls ∷ r.number ∷ r.place ∷ []

-- of a leg those of its reply, the sheet that a refusal is about, and the next ball in the record
leg_numbers : LegEnd → List ℕ
leg_numbers e =
    let r = e.reply in
    r.verdict ∷ r.batch ∷ r.road ∷ r.marks0 ∷ r.marks1 ∷ r.marks2 ∷ r.marks3 ∷ r.calls ∷ r.number ∷ r.place ∷ r.sheet ∷ e.checkpoint.next ∷ []

answer_numbers : Answer → List ℕ
answer_numbers (given n) = n ∷ []
answer_numbers (declined n p) = n ∷ p ∷ []

-- the words of a code that was written to a table of zeros
words_in : Answer → List ℕ → List ℕ
words_in (given n) table = take n table
words_in (declined n p) table = []

-- The library's answer, in numbers: of a code its words.
pub ask : Question → List ℕ
ask (run_of size radius budget f) = numbers (reply_to (Search.plan size radius) budget (encode f))
ask (split_of budget f) = numbers (split_to budget (encode f))
ask (leg_of_lem size radius budget f r) = leg_numbers (takes r (alone (Search.plan size radius) budget (encode f)))
ask (longer_of size radius budget g f r) = leg_numbers (takes r (grown (Search.plan size radius) budget (encode g) (encode f)))
ask (code_of t s) = let table : List ℕ = replicate (2 ^ t) 0 in words_in (code_answer t s table) (code_table t s table)
ask (volume_of t s) = answer_numbers (volume_answer t s)
ask (floor_of t s) = answer_numbers (floor_answer t s)

-- ---- the table

-- a sheet of batch 0
abbrev sheet : ℕ → List Clause → Formula
sheet n cs = record { batch = 0; n = n; clauses = cs }

abbrev sample : Formula
sample = sheet 3 ((pos 1 ∷ pos 2 ∷ []) ∷ (neg 1 ∷ neg 3 ∷ []) ∷ (neg 3 ∷ []) ∷ [])

abbrev opposites : Formula
opposites = sheet 1 ((pos 1 ∷ []) ∷ (neg 1 ∷ []) ∷ [])

abbrev all_four : Formula
all_four = sheet 2 ((pos 1 ∷ pos 2 ∷ []) ∷ (pos 1 ∷ neg 2 ∷ []) ∷ (neg 1 ∷ pos 2 ∷ []) ∷ (neg 1 ∷ neg 2 ∷ []) ∷ [])

-- each round but the last sets a variable, and the second one finds a clause before the first one's
abbrev chain : Formula
chain = sheet 3 ((neg 1 ∷ pos 3 ∷ []) ∷ (pos 1 ∷ []) ∷ (neg 3 ∷ neg 1 ∷ pos 2 ∷ []) ∷ [])

abbrev no_marks : List ℕ
no_marks = 0 ∷ 0 ∷ 0 ∷ 0 ∷ []

abbrev the_clear : ℕ → List ℕ → ℕ → List ℕ
the_clear road marks calls = CLEAR ∷ 0 ∷ road ∷ marks ++ (calls ∷ 0 ∷ 0 ∷ [])

abbrev the_none : ℕ → ℕ → List ℕ
the_none road calls = NONE ∷ 0 ∷ road ∷ no_marks ++ (calls ∷ 0 ∷ 0 ∷ [])

abbrev the_spent : ℕ → ℕ → List ℕ
the_spent road calls = SPENT ∷ 0 ∷ road ∷ no_marks ++ (calls ∷ 0 ∷ 0 ∷ [])

-- one more clause than `all_four`, which no assignment meets; and one fewer
abbrev hopeless : Formula
hopeless = sheet 2 ((pos 1 ∷ pos 2 ∷ []) ∷ (pos 1 ∷ neg 2 ∷ []) ∷ (neg 1 ∷ pos 2 ∷ []) ∷ (neg 1 ∷ neg 2 ∷ []) ∷ [] ∷ [])

abbrev three : Formula
three = sheet 2 ((pos 1 ∷ pos 2 ∷ []) ∷ (pos 1 ∷ neg 2 ∷ []) ∷ (neg 1 ∷ pos 2 ∷ []) ∷ [])

abbrev one : Formula
one = sheet 2 ((pos 1 ∷ pos 2 ∷ []) ∷ [])

-- a record of batch b, with its next ball; what a leg that is refused leaves
abbrev at : (b n size radius next : ℕ) → Checkpoint
at b n size radius next = record { batch = b; n = n; size = size; radius = radius; next = next }

abbrev no_leg : (number place sheet next : ℕ) → List ℕ
no_leg number place sheet next = REFUSED ∷ 0 ∷ 0 ∷ no_marks ++ (0 ∷ number ∷ place ∷ sheet ∷ next ∷ [])

pub record Row : Type 0 where
  pub question : Question
  pub answer : List ℕ

abbrev row : Question → List ℕ → Row
row q a = record { question = q; answer = a }

pub examples : List Row
examples =
    row (run_of 3 1 1 (sheet 0 [])) (the_clear HORN no_marks 1)
    ∷ row (run_of 3 1 9 (sheet 0 ([] ∷ []))) (the_none HORN 1)
    ∷ row (run_of 3 1 9 sample) (the_clear BALLS (1 ∷ 0 ∷ 0 ∷ 0 ∷ []) 2)
    ∷ row (run_of 1 1 2 opposites) (the_none HORN 2)
    ∷ row (run_of 1 1 1 opposites) (the_spent HORN 1)
    ∷ row (run_of 1 0 2 opposites) (the_none HORN 2)
    ∷ row (run_of 2 1 6 all_four) (the_none BALLS 6)
    ∷ row (run_of 2 2 5 all_four) (the_none BALLS 3)
    ∷ row (run_of 2 2 2 all_four) (the_spent BALLS 2)
    ∷ row (run_of 3 3 2 (sheet 3 ((pos 1 ∷ []) ∷ (pos 2 ∷ pos 3 ∷ []) ∷ (neg 1 ∷ []) ∷ []))) (the_none BALLS 1)
    ∷ row (run_of 1 1 9 (sheet 128 ((pos 128 ∷ []) ∷ (pos 33 ∷ []) ∷ (neg 32 ∷ []) ∷ []))) (the_clear HORN (0 ∷ 1 ∷ 0 ∷ 2 ^ 31 ∷ []) 3)
    ∷ row (run_of 1 1 9 (sheet 128 ((pos 33 ∷ pos 128 ∷ []) ∷ (neg 33 ∷ []) ∷ (pos 64 ∷ []) ∷ []))) (the_clear BALLS (0 ∷ 2 ^ 31 ∷ 0 ∷ 2 ^ 31 ∷ []) 3)
    ∷ row (run_of 1 1 3 (sheet 5 ((pos 1 ∷ pos 2 ∷ pos 3 ∷ []) ∷ (pos 4 ∷ pos 5 ∷ []) ∷ (neg 1 ∷ neg 4 ∷ []) ∷ [])))
    (the_clear BALLS (10 ∷ 0 ∷ 0 ∷ 0 ∷ []) 3)
    ∷ row (run_of 1 1 2 (sheet 3 ((pos 1 ∷ pos 2 ∷ pos 3 ∷ []) ∷ (neg 1 ∷ []) ∷ []))) (the_clear BALLS (2 ∷ 0 ∷ 0 ∷ 0 ∷ []) 2)
    ∷ row (run_of 1 1 2 (sheet 2 ((pos 1 ∷ pos 2 ∷ []) ∷ (neg 1 ∷ []) ∷ []))) (the_clear BALLS (2 ∷ 0 ∷ 0 ∷ 0 ∷ []) 2)
    ∷ row (run_of 3 3 3 (sheet 5
    ((neg 3 ∷ neg 2 ∷ pos 1 ∷ [])
    ∷ (pos 2 ∷ pos 1 ∷ pos 5 ∷ neg 3 ∷ neg 4 ∷ [])
    ∷ (pos 5 ∷ [])
    ∷ (pos 4 ∷ neg 5 ∷ pos 3 ∷ pos 2 ∷ [])
    ∷ (pos 3 ∷ [])
    ∷ [])))
    (the_clear BALLS (20 ∷ 0 ∷ 0 ∷ 0 ∷ []) 3)
    ∷ row (run_of 3 1 3 (sheet 3 ((pos 1 ∷ []) ∷ (pos 2 ∷ []) ∷ (neg 1 ∷ []) ∷ []))) (the_none HORN 3)
    ∷ row (run_of 3 1 3 (sheet 3 ((pos 1 ∷ []) ∷ (neg 1 ∷ []) ∷ (pos 2 ∷ []) ∷ []))) (the_none HORN 2)
    ∷ row (run_of 2 2 4 chain) (the_clear HORN (7 ∷ 0 ∷ 0 ∷ 0 ∷ []) 4)
    ∷ row (run_of 2 2 3 chain) (the_spent HORN 3)
    ∷ row (split_of 1 (sheet 0 [])) (the_clear NO_ROAD no_marks 1)
    ∷ row (split_of 1 (sheet 0 ([] ∷ []))) (the_none NO_ROAD 1)
    ∷ row (split_of 5 sample) (the_clear NO_ROAD (2 ∷ 0 ∷ 0 ∷ 0 ∷ []) 5)
    ∷ row (split_of 4 sample) (the_spent NO_ROAD 4)
    ∷ row (split_of 3 opposites) (the_none NO_ROAD 3)
    ∷ row (split_of 7 all_four) (the_none NO_ROAD 7)
    ∷ row (split_of 3 (sheet 2 ((neg 2 ∷ []) ∷ []))) (the_clear NO_ROAD no_marks 3)
    ∷ row (split_of 35 (sheet 33 ((pos 33 ∷ []) ∷ []))) (the_clear NO_ROAD (0 ∷ 1 ∷ 0 ∷ 0 ∷ []) 35)
    ∷ row (leg_of_lem 2 1 5 all_four (at 0 2 2 1 0)) (the_spent BALLS 3 ++ (0 ∷ 1 ∷ []))
    ∷ row (leg_of_lem 2 1 3 all_four (at 0 2 2 1 1)) (the_none BALLS 3 ++ (0 ∷ 2 ∷ []))
    ∷ row (leg_of_lem 2 1 2 all_four (at 0 2 2 1 1)) (the_spent BALLS 0 ++ (0 ∷ 1 ∷ []))
    ∷ row (leg_of_lem 2 1 0 all_four (at 0 2 2 1 0)) (the_spent BALLS 0 ++ (0 ∷ 0 ∷ []))
    ∷ row (leg_of_lem 2 2 3 all_four (at 0 2 2 2 0)) (the_none BALLS 3 ++ (0 ∷ 1 ∷ []))
    ∷ row (leg_of_lem 3 1 9 sample (at 0 3 3 1 0)) (the_clear BALLS (1 ∷ 0 ∷ 0 ∷ 0 ∷ []) 2 ++ (0 ∷ 2 ∷ []))
    ∷ row (leg_of_lem 2 0 9 (sheet 2 ((pos 1 ∷ pos 2 ∷ []) ∷ (neg 2 ∷ []) ∷ [])) (at 0 2 2 0 2)) (the_none BALLS 2 ++ (0 ∷ 4 ∷ []))
    ∷ row (leg_of_lem 2 0 9 (sheet 2 ((pos 1 ∷ pos 2 ∷ []) ∷ (neg 2 ∷ []) ∷ [])) (at 0 2 2 0 0)) (the_clear BALLS (1 ∷ 0 ∷ 0 ∷ 0 ∷ []) 2 ++ (0 ∷ 4 ∷ []))
    ∷ row (leg_of_lem 2 1 9 all_four (at 0 2 2 1 2)) (no_leg 12 0 1 2)
    ∷ row (leg_of_lem 2 1 9 all_four (at 5 2 2 1 2)) (no_leg 11 0 1 2)
    ∷ row (leg_of_lem 1 1 1 opposites (at 5 2 2 1 2)) (the_spent HORN 1 ++ (0 ∷ 2 ∷ []))
    ∷ row (leg_of_lem 1 0 9 (sheet 63 ((pos 1 ∷ pos 2 ∷ []) ∷ [])) (at 5 2 2 1 2)) (no_leg 8 0 1 2)
    ∷ row (leg_of_lem 1 0 9 (sheet 62 ((pos 1 ∷ pos 2 ∷ []) ∷ [])) (at 0 62 1 0 (2 ^ 62 - 1))) (the_clear BALLS ((2 ^ 32 - 1) ∷ (2 ^ 30 - 1) ∷ 0 ∷ 0 ∷ []) 1 ++ (0 ∷ 2 ^ 62 ∷ []))
    -- The first leg empties ball 0 in 3 calls, and the second ball 1 of the longer sheet in 1; a run of that sheet takes 2 calls in all.
    ∷ row (longer_of 2 1 5 one all_four (at 0 2 2 1 0)) (the_spent BALLS 3 ++ (0 ∷ 1 ∷ []))
    ∷ row (longer_of 2 1 9 all_four hopeless (at 0 2 2 1 1)) (the_none BALLS 1 ++ (0 ∷ 2 ∷ []))
    ∷ row (run_of 2 1 9 hopeless) (the_none BALLS 2)
    ∷ row (longer_of 2 1 9 (sheet 2 ((pos 1 ∷ pos 2 ∷ []) ∷ (pos 2 ∷ pos 1 ∷ []) ∷ [])) (sheet 2 ((neg 2 ∷ neg 1 ∷ []) ∷ (pos 1 ∷ pos 2 ∷ []) ∷ [])) (at 0 2 2 1 0))
    (the_clear BALLS (1 ∷ 0 ∷ 0 ∷ 0 ∷ []) 2 ++ (0 ∷ 2 ∷ []))
    ∷ row (longer_of 2 1 9 all_four three (at 0 2 2 1 1)) (no_leg 13 12 1 1)
    ∷ row (longer_of 2 1 9 all_four three (at 0 2 2 1 2)) (no_leg 12 0 2 2)
    ∷ row (longer_of 3 1 9 (sheet 3 ((pos 1 ∷ pos 2 ∷ pos 3 ∷ []) ∷ (neg 2 ∷ []) ∷ [])) (sheet 3 ((neg 1 ∷ []) ∷ (pos 3 ∷ pos 2 ∷ pos 1 ∷ []) ∷ [])) (at 0 3 3 1 0))
    (no_leg 13 7 1 0)
    ∷ row (longer_of 2 1 9 one all_four (at 5 2 2 2 2)) (no_leg 11 0 2 2)
    ∷ row (longer_of 2 1 9 one all_four (at 5 2 2 1 2)) (no_leg 11 0 1 2)
    ∷ row (longer_of 2 1 9 one sample (at 0 2 2 1 2)) (no_leg 11 0 2 2)
    ∷ row (longer_of 1 1 1 all_four opposites (at 5 2 2 1 2)) (the_spent HORN 1 ++ (0 ∷ 2 ∷ []))
    ∷ row (longer_of 0 0 9 (sheet 0 one.clauses) all_four (at 0 2 2 1 0)) (no_leg 8 0 2 0)
    ∷ row (longer_of 2 1 9 (sheet 1 one.clauses) (sheet 0 one.clauses) (at 0 2 2 1 0)) (no_leg 6 5 1 0)
    ∷ row (code_of 2 1) (0 ∷ 1 ∷ [])
    ∷ row (code_of 3 1) (0 ∷ 7 ∷ [])
    ∷ row (code_of 4 1) (0 ∷ 7 ∷ 8 ∷ 15 ∷ [])
    ∷ row (volume_of 4 2) (11 ∷ [])
    ∷ row (volume_of 12 6) (2510 ∷ [])
    ∷ row (floor_of 4 1) (4 ∷ [])
    ∷ []

-- Each answer is the one that the definitions give.
pub examples_hold : map (λ r. ask r.question) examples ≡ map (λ r. r.answer) examples
unfolding examples ask numbers leg_numbers answer_numbers words_in
    some every keep count first span bit toggle distance word_at
    Formula.bit_of Formula.met Formula.is_opposite Formula.some_met Formula.all_true Formula.names Formula.literal_word Formula.literal_of
    Sheet.word_of Sheet.words Sheet.kind Sheet.value Sheet.◌>>=◌ Sheet.◌>>◌ Sheet.refuse_when
    Sheet.take_word Sheet.take_number Sheet.take_literal
    Sheet.take_literals Sheet.take_clause Sheet.take_clauses Sheet.take_header Sheet.take_formula Sheet.parse
    Sheet.word Sheet.literal_words Sheet.clause_words Sheet.formula_words Sheet.bytes encode
    Code.words_of Code.near Code.gain Code.beats Code.best Code.chosen Code.without Code.greedy Code.code
    Volume.choose Volume.volume Volume.floor
    Operations.coded? Operations.fits? code_answer Operations.written code_table Operations.measured? volume_answer floor_answer
    Explore.calls Explore.plus Explore.after Explore.try Explore.call Explore.explore
    Ball.is_flipped Ball.is_open Ball.reading Ball.true? Ball.is_true Ball.is_dead
    Ball.restricted Ball.meets_s Ball.flipped_met Ball.is_lone Ball.has_lone_opposite Ball.meets_l
    Ball.flip Ball.is_tried Ball.tried Ball.branch Ball.select Ball.skip Ball.rule Ball.ball_tree Ball.ball_search
    Search.block_of Search.short_block Search.blocks Search.summed_radius Search.centre_count Search.centre_at
    Search.search_of Search.ball Search.run Search.leg_of Balls.turn Balls.leg_over Balls.leg
    Horn.positives Horn.is_horn Horn.first_false Horn.horn_tree Horn.rounds
    Splitting.is_set Splitting.is_lost Splitting.is_sure Splitting.set_next Splitting.split_tree Splitting.split
    Budget.whole Budget.answer
    Answers.method_of Answers.outcome Answers.refusal Answers.judged Answers.decided Answers.decision
    Answers.split_judged Answers.split_decision
    Answers.method_number Answers.numbers_of Answers.reply_of reply_to split_to
    Sets.same_literal Sets.within Sets.same_set Sets.first_lacking
    Legs.about Legs.refused_leg Legs.decided_leg Legs.of_plan Legs.of_batch Legs.decline_when Legs.all_kept Legs.◌then◌ Legs.checks
    Legs.balls_leg Legs.unless_declined Legs.leg_on Legs.leg_read takes
    lib.Count.ones lib.Count.ones_in
examples_hold = refl
