-- What a work that may be refused comes to: its answer, and how many slices the table then holds.
use Rattle.std.specs.Prelude.{ℕ, Result, Ok, Err}
use Rattle.rules.specs.declared.Answer.{Answer}
use Rattle.rules.specs.declared.faults.Fault.{Fault}
use Rattle.rules.specs.Answers.{refused}
use Rattle.rules.specs.Faults.{refusal_of}
use Rattle.answer_work.specs.declared.Worked.{Worked}

-- "zeros for line, tip, shaft, capacity, uplift and kept" under a refusal
abbrev pub answer_in : Result Worked Fault → Answer
answer_in (Ok work) = work.answer
answer_in (Err fault) = refused (refusal_of fault)

abbrev pub used_in : Result Worked Fault → ℕ
used_in (Ok work) = work.used
used_in (Err fault) = 0
