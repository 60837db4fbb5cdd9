-- What became of a report that an executor has pushed.
use Rattle.std.specs.Prelude.{ℕ, ◌≡◌, ◌+◌, ◌<◌, List, [], ◌∷◌, Option, Some, None, if◌then◌else◌, vec_capacity, vec_len}
use Rattle.sc_ids.specs.declared.attempts.AttemptId.{AttemptId}
use Rattle.sc_core.specs.Owners.{has_task}
use Rattle.sc_core.specs.declared.answers.Answer.{Answer}
use Rattle.sc_core.specs.declared.entries.Entry.{Entry}
use Rattle.sc_core.specs.declared.events.Event.{Event}
use Rattle.sc_core.specs.declared.events.Event.TheVariants.{Post, Take}
use Rattle.sc_core.specs.declared.events.Outcome.{Outcome}
use Rattle.sc_logs.specs.Logs.{is_by}
use Rattle.sc_logs.specs.declared.logs.ExecLog.{ExecLog}
use Rattle.sc_exec.specs.Lefts.{HasTask, IsAtWork, IsUnheardOf}
use Rattle.sc_exec.specs.Logging.{HasRoom, IsLogged, IsSameLog}
use Rattle.sc_exec.specs.declared.lefts.Left.{Left}
use Rattle.sc_exec.specs.declared.lefts.Left.TheVariants as lefts
use Rattle.sc_exec.specs.declared.receipts.News.{News}
use Rattle.sc_exec.specs.declared.receipts.News.TheVariants as news

-- ---- by the journal

-- the entry of the last report of who made this one: a report is the last, and of none is told
-- behind a task that was handed out
abbrev pub told_of : Event → Entry → Option Entry → Option Entry
told_of (Post a outcome) e last = Some e
told_of (Take exec) e last = if has_task e.answer then None else last
told_of event e last = last

-- the same of an executor, whoever made this entry
abbrev pub told_by : ℕ → Entry → Option Entry → Option Entry
told_by exec e last = if is_by exec e then told_of e.event e last else last

-- the entry of the last report of an executor, where it was posted since its last task
abbrev pub last_post : ℕ → Option Entry → List Entry → Option Entry
last_post exec last [] = last
last_post exec last (e ∷ entries) = last_post exec (told_by exec e last) entries

-- what an entry tells of the last report of an executor: it is that report's; or there was none
-- since; or nothing
abbrev pub TellsNews : ℕ → Entry → News → Type 0
TellsNews exec e news.Report = (last : Option Entry) → told_by exec e last ≡ Some e
TellsNews exec e news.Task = (last : Option Entry) → told_by exec e last ≡ None
TellsNews exec e news.Nothing = (last : Option Entry) → told_by exec e last ≡ last

-- ---- by the log

-- what an executor waits to hear of: nothing, and it is at work; or the report of its last task,
-- which it has pushed, and which its log has room for, beside a leave
abbrev pub Awaits : Option AttemptId → ExecLog → Type 0
Awaits None log = IsAtWork [] log × HasRoom log
Awaits (Some a) log =
    IsAtWork (a ∷ []) log × HasTask a log × (vec_len log.entries + 1 < vec_capacity log.entries)

-- an entry is of the report of this attempt, and is logged
abbrev pub LogsPost : Entry → ExecLog → AttemptId → ExecLog → Type 0
LogsPost e log a after =
    (outcome : Outcome) × (answer : Answer) × (e.event ≡ Post a outcome) × (e.answer ≡ answer)
    × IsLogged log (Post a outcome) answer after

-- it hears of it: the Post that the journal has of it is logged
abbrev pub Hears : List Entry → ExecLog → Option AttemptId → ExecLog → Type 0
Hears entries log None after = IsSameLog log after
Hears entries log (Some a) after =
    (e : Entry) × (last_post log.exec None entries ≡ Some e) × LogsPost e log a after

-- or it doesn't, and that report was the one that it waited for
abbrev pub IsUnheard : Option AttemptId → ExecLog → Left → Type 0
IsUnheard sent log (lefts.Busy held) = (sent ≡ Some held) × IsUnheardOf held log
IsUnheard sent log left = ⊥
