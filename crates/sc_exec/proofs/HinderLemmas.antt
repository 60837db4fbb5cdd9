-- What keeps an executor from going on, as its log tells.
use Rattle.std.proofs.Common.{ℕ, ◌≡◌, ◌∙◌, inl, inr, None, Option, Result, Ok, Err, IfErr, ap, sym, subst}
use Rattle.sc_lineage.specs.ScriptData.{WorkData}
use Rattle.sc_ids.specs.declared.attempts.AttemptId.{AttemptId}
use Rattle.sc_core.specs.HandOuts.{HandOutData}
use Rattle.sc_core.specs.declared.answers.Answer.TheVariants as says
use Rattle.sc_net.specs.Reports.{IsTrueReport, ReportData, loc_at}
use Rattle.sc_net.specs.Tasks.{TaskData}
use Rattle.sc_net.specs.declared.findings.Finding.{Finding}
use Rattle.sc_net.specs.declared.findings.Finding.TheVariants as findings
use Rattle.sc_desk.specs.DeskData.{DeskData}
use Rattle.sc_logs.specs.Folds.{last_take}
use Rattle.sc_logs.specs.declared.logs.ExecLog.{ExecLog}
use Rattle.sc_exec.specs.Lefts.{HasDrained, IsHindrance, IsSentWith, IsToldTheSame, ReadsAt, WasSent, WasTold}
use Rattle.sc_exec.specs.Logging.{IsSameLog, PostsBoth, TellsEarly}
use Rattle.sc_exec.specs.Receipts.{IsUnheard}
use Rattle.sc_exec.specs.Working.{IsReasonToLeave}
use Rattle.sc_exec.specs.declared.calls.Delivery.{Delivery}
use Rattle.sc_exec.specs.declared.calls.Delivery.TheVariants as deliveries
use Rattle.sc_exec.specs.declared.calls.Refused.{Refused}
use Rattle.sc_exec.specs.declared.calls.TooEarly.{TooEarly}
use Rattle.sc_exec.specs.declared.lefts.Left.{Left}
use Rattle.sc_exec.specs.declared.lefts.Left.TheVariants as lefts
use Rattle.sc_exec.specs.declared.lefts.Stranger.TheVariants as strangers

-- ---- its report was refused

same_told : (log then : ExecLog) → IsSameLog log then → IsToldTheSame log then
same_told log then same = ap (last_take None) same.1

pub refused_hinders : {W : _} (work : WorkData) (d after : DeskData) (log then : ExecLog)
    (report back : ReportData) (delivery : Delivery W) (refused : Refused)
    → delivery ≡ deliveries.Stranger back refused
    → WasTold (says.Task report.task.hand_out) log
    → PostsBoth work d log report delivery after then
    → IsHindrance work then (lefts.Stranger (strangers.Report refused))
refused_hinders {W = W} work d after log then report back delivery refused is told posts =
    by (subst (λ (x : Delivery W). PostsBoth work d log report x after then) is posts)
  where
    by : PostsBoth {W = W} work d log report (deliveries.Stranger back refused) after then
        → IsHindrance work then (lefts.Stranger (strangers.Report refused))
    by (stranger, of, same_report, stays, same) =
        (report.task.hand_out, same_told log then same ∙ told, of)

-- a report that is early is of a store at which its task reads
reads_there : (work : WorkData) (t : TaskData) (f : Finding) (due : ℕ) (early : TooEarly)
    → IsTrueReport work t f → TellsEarly f due early → ReadsAt t.hand_out early.exec
reads_there work t (findings.Gone exec wanted found) due early (given, past) tells =
    (loc_at exec wanted, given, sym tells.0)
reads_there work t (findings.Map loc) due early is tells = absurd tells
reads_there work t (findings.Result given) due early is tells = absurd tells
reads_there work t findings.Planned due early is tells = absurd tells
reads_there work t (findings.Raised raise) due early is tells = absurd tells
reads_there work t (findings.Metadata last) due early is tells = absurd tells
reads_there work t (findings.Device fault) due early is tells = absurd tells
reads_there work t findings.Denied due early is tells = absurd tells

pub early_hinders : {W : _} (work : WorkData) (d after : DeskData) (log then : ExecLog)
    (report back : ReportData) (delivery : Delivery W) (early : TooEarly)
    → delivery ≡ deliveries.Early back early → WasTold (says.Task report.task.hand_out) log
    → IsTrueReport work report.task report.finding
    → PostsBoth work d log report delivery after then → IsHindrance work then (lefts.Early early)
early_hinders {W = W} work d after log then report back delivery early is told true_of posts =
    by (subst (λ (x : Delivery W). PostsBoth work d log report x after then) is posts)
  where
    by : PostsBoth {W = W} work d log report (deliveries.Early back early) after then
        → IsHindrance work then (lefts.Early early)
    by (known, why, same_report, stays, same) = (
      report.task.hand_out,
      same_told log then same ∙ told,
      reads_there work report.task report.finding early.due early true_of why.tells,
      why.before,
    )

-- ---- the queue was drained

-- what keeps who drained it from going on
pub drained_hinders : {T : Type 0} (work : WorkData) (log : ExecLog) (r : Result T Left)
    → IfErr r HasDrained → IfErr r (IsHindrance work log)
drained_hinders work log (Ok x) met = met
drained_hinders work log (Err (lefts.Drained strange)) met = met
drained_hinders work log (Err lefts.NoMemory) met = tt
drained_hinders work log (Err (lefts.Stranger stranger)) met = absurd met
drained_hinders work log (Err (lefts.Absent absence)) met = absurd met
drained_hinders work log (Err (lefts.Early early)) met = absurd met
drained_hinders work log (Err lefts.JobEnded) met = absurd met
drained_hinders work log (Err (lefts.Stopped first)) met = absurd met
drained_hinders work log (Err lefts.Lost) met = absurd met
drained_hinders work log (Err (lefts.Busy held)) met = absurd met

-- so it leaves
pub drained_reason : {T : Type 0} (work : WorkData) (log : ExecLog) (r : Result T Left)
    → IfErr r HasDrained → IfErr r (IsReasonToLeave work log)
drained_reason work log (Ok x) met = met
drained_reason work log (Err (lefts.Drained strange)) met = met
drained_reason work log (Err lefts.NoMemory) met = tt
drained_reason work log (Err (lefts.Stranger stranger)) met = absurd met
drained_reason work log (Err (lefts.Absent absence)) met = absurd met
drained_reason work log (Err (lefts.Early early)) met = absurd met
drained_reason work log (Err lefts.JobEnded) met = absurd met
drained_reason work log (Err (lefts.Stopped first)) met = absurd met
drained_reason work log (Err lefts.Lost) met = absurd met
drained_reason work log (Err (lefts.Busy held)) met = absurd met

-- and so does who doesn't hear of its report
pub unheard_reason : {T : Type 0} (work : WorkData) (log : ExecLog) (sent : Option AttemptId)
    (r : Result T Left) → IfErr r (IsUnheard sent log) → IfErr r (IsReasonToLeave work log)
unheard_reason work log sent (Ok x) unheard = unheard
unheard_reason work log sent (Err (lefts.Busy held)) unheard = inr unheard.1
unheard_reason work log sent (Err (lefts.Drained strange)) unheard = absurd unheard
unheard_reason work log sent (Err lefts.NoMemory) unheard = absurd unheard
unheard_reason work log sent (Err (lefts.Stranger stranger)) unheard = absurd unheard
unheard_reason work log sent (Err (lefts.Absent absence)) unheard = absurd unheard
unheard_reason work log sent (Err (lefts.Early early)) unheard = absurd unheard
unheard_reason work log sent (Err lefts.JobEnded) unheard = absurd unheard
unheard_reason work log sent (Err (lefts.Stopped first)) unheard = absurd unheard
unheard_reason work log sent (Err lefts.Lost) unheard = absurd unheard

-- ---- later on

reads_for : (P : HandOutData → Type 0) (log then : ExecLog) → IsToldTheSame log then
    → (h : HandOutData) × WasTold (says.Task h) log × P h
    → (h : HandOutData) × WasTold (says.Task h) then × P h
reads_for P log then same (h, told, is) = (h, same ∙ told, is)

sent_still : (work : WorkData) (log then : ExecLog) (place : ℕ) → then.exec ≡ log.exec
    → IsToldTheSame log then → WasSent work log place → WasSent work then place
sent_still work log then place exec same (inl (h, told, sent)) =
    inl (h, same ∙ told, subst (λ (e : ℕ). IsSentWith h e place) (sym exec) sent)
sent_still work log then place exec same (inr ordered) = inr ordered

-- what kept an executor from going on is told by its log still
pub hinders_still : (work : WorkData) (log then : ExecLog) (left : Left)
    → then.exec ≡ log.exec → IsToldTheSame log then → IsHindrance work log left
    → IsHindrance work then left
hinders_still work log then (lefts.Stranger (strangers.Store m)) exec same (is, sent) =
    (is, sent_still work log then m.place exec same sent)
hinders_still work log then (lefts.Stranger (strangers.Report refused)) exec same why =
    reads_for (λ h. refused.attempt ≡ h.attempt) log then same why
hinders_still work log then (lefts.Early early) exec same (h, told, reads, before) =
    (h, same ∙ told, reads, before)
hinders_still work log then (lefts.Absent absence) exec same (h, told, contains) =
    (h, same ∙ told, contains)
hinders_still work log then lefts.NoMemory exec same why = tt
hinders_still work log then lefts.JobEnded exec same why = absurd why
hinders_still work log then (lefts.Stopped first) exec same why = absurd why
hinders_still work log then lefts.Lost exec same why = absurd why
hinders_still work log then (lefts.Busy held) exec same why = absurd why
hinders_still work log then (lefts.Drained strange) exec same met = met
