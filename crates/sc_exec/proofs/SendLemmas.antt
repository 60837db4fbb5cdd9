-- What an executor pushes in a turn, and why it leaves as busy.
use Rattle.std.proofs.Common.{ℕ, ◌≡◌, ◌∙◌, ◌⊎◌, List, inl, inr, Option, Some, None, Result, Ok, Err, IfErr, IfOk, ap, is_some, refl, subst, sym, true≢false}
use Rattle.sc_ids.specs.declared.attempts.AttemptId.{AttemptId}
use Rattle.sc_lineage.specs.ScriptData.{WorkData}
use Rattle.sc_queue.specs.declared.rules.Posted.{Posted}
use Rattle.sc_net.specs.Reports.{ReportData}
use Rattle.sc_logs.specs.declared.logs.ExecLog.{ExecLog}
use Rattle.sc_exec.specs.Lefts.{HasDrained, IsHindrance, IsToldTheSame}
use Rattle.sc_exec.specs.Receipts.{IsUnheard}
use Rattle.sc_exec.specs.Sending.{EndsAs, EndsBusyWith, IsBusyAfter, IsBusyWith, IsLastSent, IsSent, Pushes, Sends, SendsInTurn, SendsNothing, next_post}
use Rattle.sc_exec.specs.declared.lefts.Left.{Left}
use Rattle.sc_exec.specs.declared.lefts.Left.TheVariants as lefts
use Rattle.sc_exec.specs.declared.work.Turn.{Turn}
use Rattle.sc_exec.specs.declared.work.Turn.TheVariants as turns

-- ---- what it pushes

pub pushes_sends : (exec : ℕ) (report : ReportData) (r : Result (Option AttemptId) Left)
    (before after : List (Posted ReportData)) → Pushes exec report r before after
    → Sends r before after
pushes_sends exec report (Ok (Some a)) before after (is, of) =
    (next_post exec report before, is, of)
pushes_sends exec report (Ok None) before after same = same
pushes_sends exec report (Err left) before after same = same

-- nothing is pushed at the desk
pub pushes_none : (exec : ℕ) (report : ReportData) (r : Result (Option AttemptId) Left)
    (pushed : List (Posted ReportData)) → IfOk r (λ sent. sent ≡ None)
    → Pushes exec report r pushed pushed
pushes_none exec report (Ok (Some a)) pushed none = absurd (true≢false (ap is_some none))
pushes_none exec report (Ok None) pushed none = refl
pushes_none exec report (Err left) pushed none = refl

pub pushes_nothing : (exec : ℕ) (report : ReportData) (r : Result (Option AttemptId) Left)
    (left : Left) (before after : List (Posted ReportData)) → r ≡ Err left → after ≡ before
    → Pushes exec report r before after
pushes_nothing exec report r left before after is same =
    subst (λ (x : Result (Option AttemptId) Left). Pushes exec report x before after) (sym is)
    same

-- a turn pushes what was pushed in it
pub sends_turn : (went : Result (Option AttemptId) Left) (turn : Turn)
    (before after : List (Posted ReportData)) → EndsAs went turn → Sends went before after
    → SendsInTurn turn before after
sends_turn (Ok sent) turn before after ends sends =
    subst (λ (t : Turn). SendsInTurn t before after) (sym ends) sends
sends_turn (Err left) turn before after ends sends =
    subst (λ (t : Turn). SendsInTurn t before after) (sym ends) sends

-- who leaves pushes nothing
pub over_sends : (left : Left) (turn : Turn) → turn ≡ turns.Over left → SendsNothing turn
over_sends left turn over =
    subst SendsNothing (sym over) (λ (pushed : List (Posted ReportData)). refl)

-- what it waits to hear of is what it has pushed last
pub sent_last : (sent : Option AttemptId) (before after : List (Posted ReportData))
    → IsSent sent before after → IsLastSent sent after
sent_last None before after sends = tt
sent_last (Some a) before after sends = (before, sends)

-- ---- who leaves as busy

pub busy_still : (sent : Option AttemptId) (log then : ExecLog) (left : Left)
    → IsToldTheSame log then → IsBusyWith sent left log → IsBusyWith sent left then
busy_still sent log then (lefts.Busy held) same (inl told) = inl (same ∙ told)
busy_still sent log then (lefts.Busy held) same (inr awaited) = inr awaited
busy_still sent log then (lefts.Drained strange) same free = tt
busy_still sent log then lefts.NoMemory same free = tt
busy_still sent log then (lefts.Stranger stranger) same free = tt
busy_still sent log then (lefts.Absent absence) same free = tt
busy_still sent log then (lefts.Early early) same free = tt
busy_still sent log then lefts.JobEnded same free = tt
busy_still sent log then (lefts.Stopped first) same free = tt
busy_still sent log then lefts.Lost same free = tt

pub over_busy : (sent : Option AttemptId) (log then : ExecLog) (left : Left) (turn : Turn)
    → turn ≡ turns.Over left → IsToldTheSame log then → IsBusyWith sent left log
    → EndsBusyWith sent turn then
over_busy sent log then left turn over same busy =
    subst (λ (t : Turn). EndsBusyWith sent t then) (sym over)
    (busy_still sent log then left same busy)

-- whatever keeps an executor from going on isn't this
pub hinders_free : (work : WorkData) (log then : ExecLog) (sent : Option AttemptId) (left : Left)
    → IsHindrance work log left → IsBusyWith sent left then
hinders_free work log then sent (lefts.Busy held) why = absurd why
hinders_free work log then sent (lefts.Drained strange) why = tt
hinders_free work log then sent lefts.NoMemory why = tt
hinders_free work log then sent (lefts.Stranger stranger) why = tt
hinders_free work log then sent (lefts.Absent absence) why = tt
hinders_free work log then sent (lefts.Early early) why = tt
hinders_free work log then sent lefts.JobEnded why = tt
hinders_free work log then sent (lefts.Stopped first) why = tt
hinders_free work log then sent lefts.Lost why = tt

pub over_free : (work : WorkData) (log then : ExecLog) (sent : Option AttemptId) (left : Left)
    (turn : Turn) → turn ≡ turns.Over left → IsHindrance work log left
    → EndsBusyWith sent turn then
over_free work log then sent left turn over why =
    subst (λ (t : Turn). EndsBusyWith sent t then) (sym over)
    (hinders_free work log then sent left why)

pub ends_free : (work : WorkData) (log then : ExecLog) (sent : Option AttemptId)
    (went : Result (Option AttemptId) Left) (turn : Turn) → EndsAs went turn
    → IfErr went (IsHindrance work log) → EndsBusyWith sent turn then
ends_free work log then sent (Ok next) turn ends why =
    subst (λ (t : Turn). EndsBusyWith sent t then) (sym ends) tt
ends_free work log then sent (Err left) turn ends why =
    over_free work log then sent left turn ends why

-- nor is it what comes of a drain
pub drained_free : {T : Type 0} (log : ExecLog) (sent : Option AttemptId) (r : Result T Left)
    → IfErr r HasDrained → IfErr r (λ left. IsBusyWith sent left log)
drained_free log sent (Ok x) met = met
drained_free log sent (Err (lefts.Busy held)) met = absurd met
drained_free log sent (Err (lefts.Drained strange)) met = tt
drained_free log sent (Err lefts.NoMemory) met = tt
drained_free log sent (Err (lefts.Stranger stranger)) met = tt
drained_free log sent (Err (lefts.Absent absence)) met = tt
drained_free log sent (Err (lefts.Early early)) met = tt
drained_free log sent (Err lefts.JobEnded) met = tt
drained_free log sent (Err (lefts.Stopped first)) met = tt
drained_free log sent (Err lefts.Lost) met = tt

-- who doesn't hear of its report is
pub unheard_busy : {T : Type 0} (log : ExecLog) (sent : Option AttemptId) (r : Result T Left)
    → IfErr r (IsUnheard sent log) → IfErr r (λ left. IsBusyWith sent left log)
unheard_busy log sent (Ok x) unheard = unheard
unheard_busy log sent (Err (lefts.Busy held)) unheard = inr unheard.0
unheard_busy log sent (Err (lefts.Drained strange)) unheard = tt
unheard_busy log sent (Err lefts.NoMemory) unheard = tt
unheard_busy log sent (Err (lefts.Stranger stranger)) unheard = tt
unheard_busy log sent (Err (lefts.Absent absence)) unheard = tt
unheard_busy log sent (Err (lefts.Early early)) unheard = tt
unheard_busy log sent (Err lefts.JobEnded) unheard = tt
unheard_busy log sent (Err (lefts.Stopped first)) unheard = tt
unheard_busy log sent (Err lefts.Lost) unheard = tt

-- so the report that it waited for is the last one that it has pushed
pub busy_after : (sent : Option AttemptId) (left : Left) (log : ExecLog)
    (before after : List (Posted ReportData)) → IsLastSent sent before → after ≡ before
    → IsBusyWith sent left log → IsBusyAfter left log after
busy_after sent (lefts.Busy held) log before after last same (inl told) = inl told
busy_after sent (lefts.Busy held) log before after last same (inr awaited) =
    inr (subst (λ (pushed : List (Posted ReportData)). IsLastSent (Some held) pushed) (sym same)
    (subst (λ (s : Option AttemptId). IsLastSent s before) awaited last))
busy_after sent (lefts.Drained strange) log before after last same busy = tt
busy_after sent lefts.NoMemory log before after last same busy = tt
busy_after sent (lefts.Stranger stranger) log before after last same busy = tt
busy_after sent (lefts.Absent absence) log before after last same busy = tt
busy_after sent (lefts.Early early) log before after last same busy = tt
busy_after sent lefts.JobEnded log before after last same busy = tt
busy_after sent (lefts.Stopped first) log before after last same busy = tt
busy_after sent lefts.Lost log before after last same busy = tt
