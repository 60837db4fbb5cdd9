-- Calls at a desk, or at one with its files, in step with the log of an executor.
use Rattle.std.specs.Prelude.{ℕ, ◌≡◌, ◌<◌, List, [], ◌∷◌, ◌++◌, vec_capacity, vec_len, Bool, true, false, Some}
use Rattle.sc_base.specs.Trees.{Path}
use Rattle.sc_ids.specs.declared.attempts.AttemptId.{AttemptId}
use Rattle.sc_ids.specs.declared.attempts.Mark.TheVariants.{Exec}
use Rattle.sc_lineage.specs.ScriptData.{WorkData}
use Rattle.sc_staging.specs.StagingData.{staging_data}
use Rattle.sc_core.specs.CoreData.{CoreData, job_runs}
use Rattle.sc_core.specs.Journals.{entry}
use Rattle.sc_core.specs.declared.answers.Answer.{Answer}
use Rattle.sc_core.specs.declared.answers.Answer.TheVariants as says
use Rattle.sc_core.specs.declared.answers.SideAnswer.{SideAnswer}
use Rattle.sc_core.specs.declared.answers.SideAnswer.TheVariants as sides
use Rattle.sc_core.specs.declared.entries.Entry.{Entry}
use Rattle.sc_core.specs.declared.events.Event.{Event}
use Rattle.sc_core.specs.declared.events.Event.TheVariants as events
use Rattle.sc_core.specs.declared.events.SideEvent.TheVariants.{Ask, Leave, Move, Stage, Tick}
use Rattle.sc_net.specs.Reports.{ReportData, outcome_of}
use Rattle.sc_net.specs.declared.findings.Finding.{Finding}
use Rattle.sc_net.specs.declared.findings.Finding.TheVariants as findings
use Rattle.sc_desk.specs.Asides.{Notes}
use Rattle.sc_desk.specs.DeskData.{DeskData, core_of}
use Rattle.sc_desk.specs.Dues.{IsEarly}
use Rattle.sc_desk.specs.Leaving.{has_left}
use Rattle.sc_desk.specs.Posts.{IsKnown, Receives, attempt_of}
use Rattle.sc_desk.specs.Saving.{MovesPart, StagesPart}
use Rattle.sc_desk.specs.Takes.{TakesLogged}
use Rattle.sc_desk.specs.Tellings.{Releases, TellsLost}
use Rattle.sc_desk.specs.declared.posts.Posted.{Posted}
use Rattle.sc_desk.specs.declared.posts.Posted.TheVariants as posteds
use Rattle.sc_desk.specs.declared.receipts.Noted.{Noted}
use Rattle.sc_desk.specs.declared.receipts.Receipt.{Receipt}
use Rattle.sc_desk.specs.declared.takes.Taken.{Taken}
use Rattle.sc_exec.specs.JobDesks.{JobDeskData}
use Rattle.sc_exec.specs.declared.calls.Delivery.{Delivery}
use Rattle.sc_exec.specs.declared.calls.Delivery.TheVariants as deliveries
use Rattle.sc_exec.specs.declared.calls.TooEarly.{TooEarly}
use Rattle.sc_logs.specs.declared.logs.ExecLog.{ExecLog}

-- ---- logs

-- a log has room for one more entry, which is kept for its executor's leave
abbrev pub HasRoom : ExecLog → Type 0
HasRoom log = vec_len log.entries < vec_capacity log.entries

-- one event more of a log's executor, with what it was answered
pub record IsLogged (log : ExecLog) (event : Event) (answer : Answer) (then : ExecLog)
    : Type 0 where
  pub exec : then.exec ≡ log.exec
  pub entries : then.entries.items ≡ log.entries.items ++ entry (Exec log.exec) event answer ∷ []

-- a log with the same entries
abbrev pub IsSameLog : ExecLog → ExecLog → Type 0
IsSameLog log then = (then.exec ≡ log.exec) × (then.entries.items ≡ log.entries.items)

-- what happened last, by the entries of a journal
abbrev pub IsLastEvent : List Entry → Event → Type 0
IsLastEvent entries event =
    (before : List Entry) (e : Entry) → entries ≡ before ++ e ∷ [] → event ≡ e.event

-- what happened last, by the entries of a journal, is logged with this answer
abbrev pub IsLoggedLast : ExecLog → List Entry → SideAnswer → ExecLog → Type 0
IsLoggedLast log entries answer then =
    (event : Event) × IsLastEvent entries event × IsLogged log event (says.Side answer) then

-- ---- reports that are refused as early

-- a finding speaks of a generation that no wipe had brought, where so many wipes were due
abbrev pub IsTooEarly : WorkData → Finding → ℕ → Type 0
IsTooEarly work finding due = (told : ℕ) × IsEarly work told finding due

-- what is posted is handed back as early only where it is
abbrev pub IsPossible : {W : _} → WorkData → Posted W → Type 0
IsPossible work (posteds.Receipt receipt) = Unit {0}
IsPossible work (posteds.Stranger report) = Unit {0}
IsPossible work (posteds.Early report due) = IsTooEarly work report.finding due

-- it tells what was found at which executor, and how many wipes were due
abbrev pub TellsEarly : Finding → ℕ → TooEarly → Type 0
TellsEarly (findings.Gone exec wanted found) due early =
    (early.exec ≡ exec) × (early.found ≡ found) × (early.due ≡ due)
TellsEarly finding due early = ⊥

-- a report is refused for such a finding
pub record IsEarlyFor (work : WorkData) (told : ℕ) (finding : Finding) (early : TooEarly)
    : Type 0 where
  pub is_early : IsEarly work told finding early.due
  pub tells : TellsEarly finding early.due early
  pub before : early.due < early.found

-- ---- what is logged of a report

-- what becomes of a report that was posted in an event: one that is received is logged
abbrev pub IsDelivered : {W : _} → ExecLog → Event → Posted W → Delivery W → ExecLog → Type 0
IsDelivered log event (posteds.Receipt receipt) deliveries.Received then =
    IsLogged log event receipt.answer then
IsDelivered log event (posteds.Stranger report) (deliveries.Stranger back refused) then =
    (back ≡ report) × (refused.attempt ≡ attempt_of report) × IsSameLog log then
IsDelivered log event (posteds.Early report due) (deliveries.Early back early) then =
    (back ≡ report) × TellsEarly report.finding due early × IsSameLog log then
IsDelivered log event posted delivery then = ⊥

-- what becomes of a report that was posted, where nothing is logged of it yet
abbrev pub IsSaid : {W : _} → Posted W → Delivery W → Type 0
IsSaid (posteds.Receipt receipt) deliveries.Received = Unit {0}
IsSaid (posteds.Stranger report) (deliveries.Stranger back refused) =
    (back ≡ report) × (refused.attempt ≡ attempt_of report)
IsSaid (posteds.Early report due) (deliveries.Early back early) =
    (back ≡ report) × TellsEarly report.finding due early
IsSaid posted delivery = ⊥

-- ---- reports that were on their way

-- a report comes, and is received under the mark of this executor, or is handed back with no entry
abbrev pub PostsAs : {W : _} → WorkData → DeskData → ℕ → ReportData → Delivery W → DeskData
    → Type 0
PostsAs work d exec report deliveries.Received after =
    (receipt : Receipt) × Receives work d (Exec exec) report receipt after
PostsAs work d exec report (deliveries.Stranger back refused) after =
    (IsKnown d report → ⊥) × (refused.attempt ≡ attempt_of report) × (back ≡ report)
    × (after ≡ d)
PostsAs work d exec report (deliveries.Early back early) after =
    IsKnown d report × IsEarlyFor work (core_of d).told report.finding early × (back ≡ report)
    × (after ≡ d)

-- ---- calls: each makes one entry, which the log has too

-- the executor asks for a task
abbrev pub TakesBoth : {W : _} → DeskData → ExecLog → Taken W → DeskData → ExecLog → Type 0
TakesBoth d log taken after then =
    (answer : Answer) × TakesLogged d (Exec log.exec) log.exec taken answer after
    × IsLogged log (events.Take log.exec) answer then

-- it posts a report, which is received, or is handed back with no entry
abbrev pub PostsBoth : {W : _} → WorkData → DeskData → ExecLog → ReportData → Delivery W
    → DeskData → ExecLog → Type 0
PostsBoth work d log report deliveries.Received after then =
    (receipt : Receipt) × Receives work d (Exec log.exec) report receipt after
    × IsLogged log (events.Post (attempt_of report) (outcome_of report.finding)) receipt.answer then
PostsBoth work d log report (deliveries.Stranger back refused) after then =
    (IsKnown d report → ⊥) × (refused.attempt ≡ attempt_of report) × (back ≡ report)
    × (after ≡ d) × IsSameLog log then
PostsBoth work d log report (deliveries.Early back early) after then =
    IsKnown d report × IsEarlyFor work (core_of d).told report.finding early × (back ≡ report)
    × (after ≡ d) × IsSameLog log then

-- it has a report told that was to be told later
abbrev pub ReleasesBoth : DeskData → ExecLog → ℕ → DeskData → ExecLog → Type 0
ReleasesBoth d log key after then =
    (receipt : Receipt) × Releases d (Exec log.exec) key receipt after
    × IsLogged log (events.Release key) receipt.answer then

-- it has an executor told lost
abbrev pub LosesBoth : DeskData → ExecLog → ℕ → DeskData → ExecLog → Type 0
LosesBoth d log exec after then =
    (receipt : Receipt) × TellsLost d (Exec log.exec) exec receipt after
    × IsLogged log (events.TellLost exec) receipt.answer then

-- it has the time entered
abbrev pub TicksBoth : DeskData → ExecLog → ℕ → DeskData → ExecLog → Type 0
TicksBoth d log now after then =
    (noted : Noted) × Notes d (Exec log.exec) (Tick now) noted after
    × IsLogged log (events.Side (Tick now)) (says.Side noted.answer) then

-- it has the time entered once, where slow tasks get copies, and else nothing
pub record IsTimed (d : DeskData) (log : ExecLog) (after : DeskData) (then : ExecLog) : Type 0
  where
    pub ticks : (core_of d).dag.limits.speculation ≡ true
        → (now : ℕ) × TicksBoth d log now after then
    pub rests : (core_of d).dag.limits.speculation ≡ false → (after ≡ d) × IsSameLog log then

-- its attempt asks whether it may commit
abbrev pub AsksBoth : DeskData → ExecLog → AttemptId → SideAnswer → DeskData → ExecLog → Type 0
AsksBoth d log attempt answer after then =
    (noted : Noted) × (noted.answer ≡ answer) × Notes d (Exec log.exec) (Ask attempt) noted after
    × IsLogged log (events.Side (Ask attempt)) (says.Side answer) then

-- its attempt, where it comes next, writes its part, which has this text
pub record StagesBoth (h : JobDeskData) (log : ExecLog) (attempt : AttemptId) (text : List ℕ)
    (answer : SideAnswer) (after : JobDeskData) (then : ExecLog) : Type 0 where
  pub dir : Path
  pub saves_to : h.dir ≡ Some dir
  pub stays : after.dir ≡ Some dir
  pub noted : Noted
  pub answer_is : noted.answer ≡ answer
  pub stages : StagesPart h.desk (Exec log.exec) attempt text (staging_data dir h.files)
      (staging_data dir after.files) noted after.desk
  pub logged : IsLogged log (events.Side (Stage attempt stages.wrote)) (says.Side answer) then

-- its attempt, where it comes next, gives its part the name of a committed one
pub record MovesBoth (h : JobDeskData) (log : ExecLog) (attempt : AttemptId) (answer : SideAnswer)
    (after : JobDeskData) (then : ExecLog) : Type 0 where
  pub dir : Path
  pub saves_to : h.dir ≡ Some dir
  pub stays : after.dir ≡ Some dir
  pub noted : Noted
  pub answer_is : noted.answer ≡ answer
  pub moves : MovesPart h.desk (Exec log.exec) attempt (staging_data dir h.files)
      (staging_data dir after.files) noted after.desk
  pub logged : IsLogged log (events.Side (Move attempt moves.renamed)) (says.Side answer) then

-- what an executor is answered that leaves: after the job's end nothing changes
abbrev pub leave_answer_if : Bool → SideAnswer
leave_answer_if true = sides.Left
leave_answer_if false = sides.Ignored

abbrev pub leave_answer : CoreData → SideAnswer
leave_answer c = leave_answer_if (job_runs c)

-- the executor leaves; where it left before nothing changes
abbrev pub LeavesBoth : DeskData → ExecLog → Bool → DeskData → ExecLog → Type 0
LeavesBoth d log true after then =
    (has_left log.exec d.journal.entries ≡ false) × (noted : Noted)
    × Notes d (Exec log.exec) (Leave log.exec) noted after
    × IsLogged log (events.Side (Leave log.exec)) (says.Side noted.answer) then
LeavesBoth d log false after then =
    (has_left log.exec d.journal.entries ≡ true) × (after ≡ d) × IsSameLog log then
