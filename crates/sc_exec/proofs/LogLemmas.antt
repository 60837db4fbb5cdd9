-- What a call at a desk leaves in the log beside it.
use Rattle.std.proofs.Common.{ℕ, ◌≡◌, ◌<◌, ◌∙◌, List, [], ◌∷◌, ◌++◌, refl, ap, subst, sym, Bool, true, false, Some, true≢false}
use Rattle.sc_ids.specs.declared.attempts.AttemptId.{AttemptId}
use Rattle.sc_ids.specs.declared.attempts.Mark.{Mark}
use Rattle.sc_ids.specs.declared.attempts.Mark.TheVariants.{Exec}
use Rattle.sc_lineage.specs.ScriptData.{WorkData}
use Rattle.sc_staging.specs.StagingData.{StagingData}
use Rattle.sc_core.specs.CoreData.{job_runs}
use Rattle.sc_core.specs.Journals.{entry}
use Rattle.sc_core.specs.Sides.{LeavesIf}
use Rattle.sc_core.specs.declared.answers.Answer.{Answer}
use Rattle.sc_core.specs.declared.answers.Answer.TheVariants as says
use Rattle.sc_core.specs.declared.answers.SideAnswer.{SideAnswer}
use Rattle.sc_core.specs.declared.entries.Entry.{Entry}
use Rattle.sc_core.specs.declared.events.Event.{Event}
use Rattle.sc_core.specs.declared.events.Event.TheVariants as events
use Rattle.sc_core.specs.declared.events.Outcome.{Outcome}
use Rattle.sc_net.specs.Reports.{ReportData, outcome_of}
use Rattle.sc_net.specs.declared.findings.Finding.{Finding}
use Rattle.sc_net.specs.declared.findings.Finding.TheVariants as findings
use Rattle.sc_core.specs.declared.events.SideEvent.TheVariants.{Leave}
use Rattle.sc_desk.specs.Asides.{Leaves, Notes}
use Rattle.sc_desk.specs.DeskData.{DeskData, core_of}
use Rattle.sc_desk.specs.Dues.{IsEarly}
use Rattle.sc_desk.specs.Posts.{Posts, attempt_of}
use Rattle.sc_desk.specs.Saving.{MovesPart, StagesPart}
use Rattle.sc_desk.specs.declared.posts.Posted.{Posted}
use Rattle.sc_desk.specs.declared.posts.Posted.TheVariants as posteds
use Rattle.sc_desk.specs.declared.receipts.Noted.{Noted}
use Rattle.sc_exec.specs.JobDesks.{job_desk_data}
use Rattle.sc_exec.specs.Logging.{IsDelivered, IsEarlyFor, IsLogged, IsLoggedLast, IsPossible, IsSaid, IsSameLog, LeavesBoth, MovesBoth, PostsAs, PostsBoth, StagesBoth, TellsEarly, leave_answer, leave_answer_if}
use Rattle.sc_exec.specs.declared.calls.Delivery.{Delivery}
use Rattle.sc_exec.specs.declared.calls.Delivery.TheVariants as deliveries
use Rattle.sc_exec.specs.declared.calls.TooEarly.{TooEarly}
use Rattle.sc_logs.specs.declared.logs.ExecLog.{ExecLog}

-- an entry of a log with the same entries, under another name of its event
relogged : (log mid then : ExecLog) (said event : Event) (answer : Answer) → said ≡ event
    → IsSameLog log mid → IsLogged mid said answer then → IsLogged log event answer then
relogged log mid then said event answer is same logged =
    record {
      exec = logged.exec ∙ same.0;
      entries = logged.entries
          ∙ ap (λ (es : List Entry). es ++ entry (Exec mid.exec) said answer ∷ []) same.1
          ∙ ap (λ (exec : ℕ). log.entries.items ++ entry (Exec exec) said answer ∷ []) same.0
          ∙ ap (λ (e : Event). log.entries.items ++ entry (Exec log.exec) e answer ∷ []) is;
    }

pub log_stage : (d : DeskData) (log mid : ExecLog) (a : AttemptId) (text : List ℕ)
    (before behind : StagingData) (noted : Noted) (after : DeskData) (then : ExecLog)
    (entries : List Entry) → StagesPart d (Exec log.exec) a text before behind noted after
    → (answer : SideAnswer) → noted.answer ≡ answer → IsLoggedLast mid entries answer then
    → entries ≡ after.journal.entries → mid.exec ≡ log.exec
    → mid.entries.items ≡ log.entries.items
    → StagesBoth (job_desk_data d (Some before.dir) before.files) log a text answer
    (job_desk_data after (Some behind.dir) behind.files) then
log_stage d log mid a text before behind noted after then entries stages answer same
    (said, last, logged) is exec items =
    record {
      dir = before.dir;
      saves_to = refl;
      stays = ap Some stages.dir;
      noted = noted;
      answer_is = same;
      stages = record {
        wrote = stages.wrote;
        notes = stages.notes;
        dir = refl;
        later = stages.later;
        calls = stages.calls;
      };
      logged = relogged log mid then said _ (says.Side answer)
          (last d.journal.entries _ (is ∙ stages.notes.enters.entries)) (exec, items) logged;
    }

pub log_move : (d : DeskData) (log mid : ExecLog) (a : AttemptId)
    (before behind : StagingData) (noted : Noted) (after : DeskData) (then : ExecLog)
    (entries : List Entry) → MovesPart d (Exec log.exec) a before behind noted after
    → (answer : SideAnswer) → noted.answer ≡ answer → IsLoggedLast mid entries answer then
    → entries ≡ after.journal.entries → mid.exec ≡ log.exec
    → mid.entries.items ≡ log.entries.items
    → MovesBoth (job_desk_data d (Some before.dir) before.files) log a answer
    (job_desk_data after (Some behind.dir) behind.files) then
log_move d log mid a before behind noted after then entries moves answer same
    (said, last, logged) is exec items =
    record {
      dir = before.dir;
      saves_to = refl;
      stays = ap Some moves.dir;
      noted = noted;
      answer_is = same;
      moves = record {
        renamed = moves.renamed;
        notes = moves.notes;
        dir = refl;
        later = moves.later;
        calls = moves.calls;
      };
      logged = relogged log mid then said _ (says.Side answer)
          (last d.journal.entries _ (is ∙ moves.notes.enters.entries)) (exec, items) logged;
    }

same_log : (log mid then : ExecLog) → IsSameLog log mid → IsSameLog mid then → IsSameLog log then
same_log log mid then x y = (y.0 ∙ x.0, y.1 ∙ x.1)

-- why a report is refused as early, by what it tells
early_for : (work : WorkData) (told : ℕ) (finding : Finding) (due : ℕ) (early : TooEarly)
    → IsEarly work told finding due → TellsEarly finding due early
    → IsEarlyFor work told finding early
early_for work told (findings.Gone exec wanted found) due early (due_is, less)
    (exec_is, found_is, same) =
    record {
      is_early = (
        same ∙ due_is,
        subst (λ (n : ℕ). n < found) (sym same) less,
      );
      tells = (exec_is, found_is, refl);
      before = subst (λ (n : ℕ). n < early.found) (sym same)
          (subst (λ (n : ℕ). due < n) (sym found_is) less);
    }
early_for work told (findings.Map loc) due early bad tells = absurd bad
early_for work told (findings.Result given) due early bad tells = absurd bad
early_for work told findings.Planned due early bad tells = absurd bad
early_for work told (findings.Raised raise) due early bad tells = absurd bad
early_for work told (findings.Metadata last) due early bad tells = absurd bad
early_for work told (findings.Device fault) due early bad tells = absurd bad
early_for work told findings.Denied due early bad tells = absurd bad

-- only an early report is handed back so
pub possible : {W : _} (work : WorkData) (d : DeskData) (by : Mark) (report : ReportData)
    (p : Posted W) (after : DeskData) → Posts work d by report p after → IsPossible work p
possible work d by report (posteds.Receipt receipt) after posts = tt
possible work d by report (posteds.Stranger back) after posts = tt
possible work d by report (posteds.Early back due) after (known, early, back_is, stays) = (
  (core_of d).told,
  subst (λ (r : ReportData). IsEarly work (core_of d).told r.finding due) (sym back_is) early,
)

-- what is said of a report that was posted, where nothing is logged of it yet
pub said_post : {W : _} (work : WorkData) (d : DeskData) (exec : ℕ) (report : ReportData)
    (p : Posted W) (delivery : Delivery W) (after : DeskData)
    → Posts work d (Exec exec) report p after → IsSaid p delivery
    → PostsAs work d exec report delivery after
said_post work d exec report (posteds.Receipt receipt) deliveries.Received after h said =
    (receipt, h)
said_post work d exec report (posteds.Stranger back) (deliveries.Stranger given refused) after
    (unknown, back_is, stays) (same, attempt) =
    (unknown, attempt ∙ ap attempt_of back_is, same ∙ back_is, stays)
said_post work d exec report (posteds.Early back due) (deliveries.Early given early) after
    (known, is_early, back_is, stays) (same, tells) = (
      known,
      early_for work (core_of d).told report.finding due early is_early
          (subst (λ (r : ReportData). TellsEarly r.finding due early) back_is tells),
      same ∙ back_is,
      stays,
    )
said_post work d exec report p delivery after h bad = absurd bad

pub log_post : {W : _} (work : WorkData) (d : DeskData) (log mid : ExecLog)
    (report : ReportData) (attempt : AttemptId) (outcome : Outcome) (p : Posted W)
    (delivery : Delivery W) (after : DeskData) (then : ExecLog)
    → Posts work d (Exec log.exec) report p after
    → IsDelivered mid (events.Post attempt outcome) p delivery then
    → attempt ≡ attempt_of report → outcome ≡ outcome_of report.finding
    → mid.exec ≡ log.exec → mid.entries.items ≡ log.entries.items
    → PostsBoth work d log report delivery after then
log_post {W = W} work d log mid report attempt outcome p delivery after then posts delivered
    attempt_is outcome_is exec items =
    by p delivery posts delivered
  where
    event_is : events.Post attempt outcome
        ≡ events.Post (attempt_of report) (outcome_of report.finding)
    event_is =
        ap (λ (a : AttemptId). events.Post a outcome) attempt_is
        ∙ ap (λ (o : Outcome). events.Post (attempt_of report) o) outcome_is

    by : (p : Posted W) (x : Delivery W) → Posts work d (Exec log.exec) report p after
        → IsDelivered mid (events.Post attempt outcome) p x then
        → PostsBoth work d log report x after then
    by (posteds.Receipt receipt) deliveries.Received h l = (
      receipt,
      h,
      relogged log mid then _ _ receipt.answer event_is (exec, items) l,
    )
    by (posteds.Stranger back) (deliveries.Stranger given refused) (unknown, back_is, stays)
        (same, attempt, logged) = (
          unknown,
          attempt ∙ ap attempt_of back_is,
          same ∙ back_is,
          stays,
          same_log log mid then (exec, items) logged,
        )
    by (posteds.Early back due) (deliveries.Early given early) (known, is_early, back_is, stays)
        (same, tells, logged) = (
          known,
          early_for work (core_of d).told report.finding due early is_early
              (subst (λ (r : ReportData). TellsEarly r.finding due early) back_is tells),
          same ∙ back_is,
          stays,
          same_log log mid then (exec, items) logged,
        )
    by p x h bad = absurd bad

-- what an executor is answered that leaves
leave_answer_is : (d after : DeskData) (exec : ℕ) (noted : Noted)
    → Notes d (Exec exec) (Leave exec) noted after → noted.answer ≡ leave_answer (core_of d)
leave_answer_is d after exec noted notes = of notes.enters.step
  where
    by : (b : Bool) (said : SideAnswer) → LeavesIf b (core_of d) exec said (core_of after)
        → said ≡ leave_answer_if b
    by true said h = h.0
    by false said h = h.0

    of : (said : SideAnswer) × (says.Side noted.answer ≡ says.Side said)
        × LeavesIf (job_runs (core_of d)) (core_of d) exec said (core_of after)
        → noted.answer ≡ leave_answer (core_of d)
    of (said, is, leaves) =
        let same : noted.answer ≡ said = cc in
        same ∙ by (job_runs (core_of d)) said leaves

pub log_leave : (d after : DeskData) (log then : ExecLog) (left : Bool) (answer : SideAnswer)
    → left ≡ true → Leaves d log.exec left after → answer ≡ leave_answer (core_of d)
    → IsLogged log (events.Side (Leave log.exec)) (says.Side answer) then
    → LeavesBoth d log true after then
log_leave d after log then true answer is (stayed, (noted, notes)) told logged = (
  stayed,
  noted,
  notes,
  record {
    exec = logged.exec;
    entries = logged.entries
        ∙ ap (λ (said : SideAnswer). log.entries.items
        ++ entry (Exec log.exec) (events.Side (Leave log.exec)) (says.Side said) ∷ [])
        (told ∙ sym (leave_answer_is d after log.exec noted notes));
  },
)
log_leave d after log then false answer is leaves told logged = absurd (true≢false (sym is))
