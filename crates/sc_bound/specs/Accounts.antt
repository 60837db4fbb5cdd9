-- How often a partition is handed out in a task set, may be still, and is freed.
use Rattle.std.specs.Prelude.{ℕ, ◌+◌, ◌*◌, ◌-◌, ◌==◌, ◌≡◌, ◌≤◌, ◌&&◌, ◌||◌, not, Bool, true, false, List, [], ◌∷◌, Option, Some, None, if◌then◌else◌, count_by, is_some, nat_lt}
use Rattle.std.specs.List.{list_any}
use Rattle.sc_ids.specs.Graphs.{StageData}
use Rattle.sc_ids.specs.declared.failures.FailureCause.{FailureCause}
use Rattle.sc_ids.specs.declared.limits.Limits.{Limits}
use Rattle.sc_plan.specs.declared.lines.PlanLine.{PlanLine}
use Rattle.sc_taskset.specs.Accounting.{left_of}
use Rattle.sc_taskset.specs.Offers.{given_of}
use Rattle.sc_taskset.specs.Reports.{is_counted_in}
use Rattle.sc_taskset.specs.TaskSetData.{TaskSetData}
use Rattle.sc_core.specs.CoreData.{CoreData}
use Rattle.sc_core.specs.Journals.{Replays}
use Rattle.sc_core.specs.Openings.{IsOpening}
use Rattle.sc_core.specs.Posts.{is_denied}
use Rattle.sc_core.specs.Sound.{IsSoundCore, has_grant}
use Rattle.sc_core.specs.Steps.{Steps}
use Rattle.sc_core.specs.declared.answers.Answer.{Answer}
use Rattle.sc_core.specs.declared.entries.Entry.{Entry}
use Rattle.sc_core.specs.declared.events.Event.{Event}
use Rattle.sc_core.specs.declared.events.Event.TheVariants.{TellLost}
use Rattle.sc_core.specs.declared.events.Outcome.{Outcome}
use Rattle.sc_core.specs.declared.events.Outcome.TheVariants as outcomes
use Rattle.sc_core.specs.declared.running.Running.{Running}
use Rattle.sc_history.specs.Evidence.{is_of_task}
use Rattle.sc_history.specs.Tellings.{Telling, is_heard, tellings_in}
use Rattle.sc_bound.specs.Numbered.{set_at}
use Rattle.sc_bound.specs.Sets.{is_open}

-- ---- what may still be handed out

-- an attempt of a partition runs, in this attempt of its stage, and wasn't denied
abbrev pub runs_for : ℕ → ℕ → ℕ → Running → Bool
runs_for stage number partition r =
    is_of_task stage number partition r.hand_out.attempt && not (is_denied r.phase)

abbrev pub running_for : CoreData → ℕ → ℕ → ℕ → ℕ
running_for c stage number partition = count_by (runs_for stage number partition) c.running

-- how many attempts of a partition a set lacks of two, where it hands it out
abbrev pub need_of : CoreData → ℕ → ℕ → ℕ → ℕ
need_of c stage number partition =
    if is_open (set_at c.dag stage number) partition
    then 2 - running_for c stage number partition else 0

-- how often a set has handed a partition out, and what it needs; two where it is yet to begin
abbrev pub account_in : Option TaskSetData → ℕ → ℕ → ℕ
account_in None partition need = 2
account_in (Some set) partition need = given_of set partition + need

abbrev pub account_of : CoreData → ℕ → ℕ → ℕ → ℕ
account_of c stage number partition =
    account_in (set_at c.dag stage number) partition (need_of c stage number partition)

-- ---- what frees a partition

-- an attempt has failed, for a cause that passes a test
abbrev pub fails_so : (FailureCause → Bool) → Outcome → Bool
fails_so test (outcomes.Failed cause) = test cause
fails_so test outcome = false

-- failures of a cause count in a set that may be there
abbrev pub counts_in : Option TaskSetData → FailureCause → Bool
counts_in None cause = false
counts_in (Some set) cause = is_counted_in set cause

-- a report is of a failure of the partition that counts
abbrev pub counts_for : CoreData → ℕ → ℕ → ℕ → Telling → Bool
counts_for c stage number partition t =
    is_of_task stage number partition t.attempt
    && fails_so (counts_in (set_at c.dag stage number)) t.outcome

-- it is of a failure in an older set, by which the grant of the partition is given back
abbrev pub gives_back : CoreData → ℕ → ℕ → ℕ → Telling → Bool
gives_back c stage number partition t =
    ((t.attempt.stage == stage) && (t.attempt.partition == partition))
    && (nat_lt t.attempt.stage_attempt number
    && (has_grant c t.attempt && fails_so (λ cause. true) t.outcome))

abbrev pub frees_by : CoreData → ℕ → ℕ → ℕ → Telling → Bool
frees_by c stage number partition t =
    is_heard t.answer
    && (counts_for c stage number partition t || gives_back c stage number partition t)

-- a loss frees all partitions, and a report one
abbrev pub frees_in : CoreData → Event → Answer → ℕ → ℕ → ℕ → Bool
frees_in c (TellLost exec) answer stage number partition = true
frees_in c event answer stage number partition =
    list_any (frees_by c stage number partition) (tellings_in c event answer)

-- an event frees a partition of a set that has begun
abbrev pub frees : CoreData → Event → Answer → ℕ → ℕ → ℕ → Bool
frees c event answer stage number partition =
    is_some (set_at c.dag stage number) && frees_in c event answer stage number partition

-- how many entries of a journal do
abbrev pub times_freed : (stage number partition : ℕ) (opening : CoreData) (entries : List Entry)
    (end : CoreData) → Replays opening entries end → ℕ
times_freed stage number partition opening [] end is = 0
times_freed stage number partition opening (entry ∷ entries) end (mid, step, rest) =
    (if frees opening entry.event entry.answer stage number partition then 1 else 0)
    + times_freed stage number partition mid entries end rest

-- ---- the laws

-- an event adds nothing to an account, but two where it frees the partition
abbrev pub StepsKeepAccounts : Type 0
StepsKeepAccounts =
    (c after : CoreData) (event : Event) (answer : Answer) (stage number partition : ℕ)
    → IsSoundCore c → Steps c event answer after
    → account_of after stage number partition
    ≤ account_of c stage number partition
    + 2 * (if frees c event answer stage number partition then 1 else 0)

-- so a partition is handed out in a set twice, and twice more for each entry that frees it
abbrev pub AccountsAreKept : Type 0
AccountsAreKept =
    (graph : List StageData) (limits : Limits) (saves : Bool) (plan : List PlanLine)
    (last : Option CoreData) (opening end : CoreData) (entries : List Entry)
    (stage number partition : ℕ)
    → IsOpening graph limits saves plan last opening → IsSoundCore opening
    → (replays : Replays opening entries end)
    → account_of end stage number partition
    ≤ 2 * (1 + times_freed stage number partition opening entries end replays)

-- What a set may hand out of a partition before anything is told is no more than it needs.
abbrev pub LeftIsNeeded : Type 0
LeftIsNeeded =
    (c : CoreData) (stage number partition : ℕ) (set : TaskSetData) → IsSoundCore c
    → set_at c.dag stage number ≡ Some set
    → left_of set partition ≤ need_of c stage number partition

-- so what it has handed out, and may still, are two together, and two for each entry that frees it
abbrev pub LeftIsBounded : Type 0
LeftIsBounded =
    (graph : List StageData) (limits : Limits) (saves : Bool) (plan : List PlanLine)
    (last : Option CoreData) (opening end : CoreData) (entries : List Entry)
    (stage number partition : ℕ) (set : TaskSetData)
    → IsOpening graph limits saves plan last opening → IsSoundCore opening
    → (replays : Replays opening entries end) → set_at end.dag stage number ≡ Some set
    → given_of set partition + left_of set partition
    ≤ 2 * (1 + times_freed stage number partition opening entries end replays)
