-- What an executor pushes, and whether it is this that it waits to hear of.
use Rattle.std.specs.Prelude.{ℕ, ◌≡◌, ◌⊎◌, List, [], ◌∷◌, ◌++◌, Option, Some, None, Result, Ok, Err, length, suc}
use Rattle.sc_ids.specs.declared.attempts.AttemptId.{AttemptId}
use Rattle.sc_core.specs.declared.answers.Answer.TheVariants as says
use Rattle.sc_queue.specs.declared.rules.Posted.{Posted}
use Rattle.sc_net.specs.Reports.{ReportData}
use Rattle.sc_desk.specs.Posts.{attempt_of}
use Rattle.sc_logs.specs.declared.logs.ExecLog.{ExecLog}
use Rattle.sc_exec.specs.Lefts.{WasTold}
use Rattle.sc_exec.specs.declared.lefts.Left.{Left}
use Rattle.sc_exec.specs.declared.lefts.Left.TheVariants as lefts
use Rattle.sc_exec.specs.declared.work.Turn.{Turn}
use Rattle.sc_exec.specs.declared.work.Turn.TheVariants as turns

-- ---- in one attempt

-- what an executor pushes behind what it has pushed, under the next number
abbrev pub next_post : ℕ → ReportData → List (Posted ReportData) → Posted ReportData
next_post exec report before =
    record { exec = exec; number = suc (length before); report = report }

-- a report is pushed where the executor waits to hear of it, and it alone; else nothing is
abbrev pub Pushes : ℕ → ReportData → Result (Option AttemptId) Left → List (Posted ReportData)
    → List (Posted ReportData) → Type 0
Pushes exec report (Ok (Some a)) before after =
    (after ≡ before ++ next_post exec report before ∷ []) × (attempt_of report ≡ a)
Pushes exec report (Ok None) before after = after ≡ before
Pushes exec report (Err left) before after = after ≡ before

-- what was pushed last is a report of this attempt, and it is all that was pushed behind the rest
abbrev pub PushesOf : AttemptId → List (Posted ReportData) → List (Posted ReportData) → Type 0
PushesOf a before after =
    (p : Posted ReportData) × (after ≡ before ++ p ∷ []) × (attempt_of p.report ≡ a)

-- of what it waits to hear it has pushed the report, and nothing else
abbrev pub IsSent : Option AttemptId → List (Posted ReportData) → List (Posted ReportData)
    → Type 0
IsSent (Some a) before after = PushesOf a before after
IsSent None before after = after ≡ before

-- the same of an attempt that was done, or couldn't be
abbrev pub Sends : Result (Option AttemptId) Left → List (Posted ReportData)
    → List (Posted ReportData) → Type 0
Sends (Ok sent) before after = IsSent sent before after
Sends (Err left) before after = after ≡ before

-- ---- in a turn

-- a turn ends as what was done in it
abbrev pub EndsAs : Result (Option AttemptId) Left → Turn → Type 0
EndsAs (Ok sent) turn = turn ≡ turns.Again sent
EndsAs (Err left) turn = turn ≡ turns.Over left

abbrev pub SendsInTurn : Turn → List (Posted ReportData) → List (Posted ReportData) → Type 0
SendsInTurn (turns.Again sent) before after = IsSent sent before after
SendsInTurn (turns.Over left) before after = after ≡ before

-- in it nothing was pushed
abbrev pub SendsNothing : Turn → Type 0
SendsNothing turn = (pushed : List (Posted ReportData)) → SendsInTurn turn pushed pushed

-- ---- why it leaves

-- who leaves as busy was told so, or had waited to hear of this
abbrev pub IsBusyWith : Option AttemptId → Left → ExecLog → Type 0
IsBusyWith sent (lefts.Busy held) log = WasTold (says.Busy held) log ⊎ (sent ≡ Some held)
IsBusyWith sent left log = Unit {0}

abbrev pub EndsBusyWith : Option AttemptId → Turn → ExecLog → Type 0
EndsBusyWith sent (turns.Again next) log = Unit {0}
EndsBusyWith sent (turns.Over left) log = IsBusyWith sent left log

-- the report that it waits to hear of is the last one that it has pushed
abbrev pub IsLastSent : Option AttemptId → List (Posted ReportData) → Type 0
IsLastSent None pushed = Unit {0}
IsLastSent (Some a) pushed = (before : List (Posted ReportData)) × PushesOf a before pushed

-- it was told so, or the last report that it has pushed is of this attempt
abbrev pub IsBusyAfter : Left → ExecLog → List (Posted ReportData) → Type 0
IsBusyAfter (lefts.Busy held) log pushed =
    WasTold (says.Busy held) log ⊎ IsLastSent (Some held) pushed
IsBusyAfter left log pushed = Unit {0}
