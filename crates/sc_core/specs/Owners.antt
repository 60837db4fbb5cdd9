-- Answers that several keep.
use Rattle.std.specs.Prelude.{◌≡◌, Bool, true, false}
use Rattle.sc_core.specs.declared.answers.Answer.{Answer}
use Rattle.sc_core.specs.declared.answers.Answer.TheVariants as says
use Rattle.sc_core.specs.declared.answers.Stepped.{Stepped}

-- an answer hands out a task
abbrev pub has_task : Answer → Bool
has_task (says.Task h) = true
has_task answer = false

-- three owners have this answer
pub record IsThrice (stepped : Stepped) (said : Answer) : Type 0 where
  pub answer : stepped.answer ≡ said
  pub twin : stepped.twin ≡ said
  pub log : stepped.log ≡ said
