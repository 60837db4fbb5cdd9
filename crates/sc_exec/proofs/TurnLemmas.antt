-- What a log tells once it has one entry more.
use Rattle.std.proofs.Common.{ℕ, ◌≡◌, ◌∙◌, ◌<◌, ◌==◌, ◌&&◌, ◌||◌, All, Bool, Contains, true, false, List, [], ◌∷◌, Option, Some, None, Result, Ok, Err, IfOk, OnErr, OnOk, length, refl, ap, sym, subst, arith, rules}
use Rattle.std.proofs.lemmas.Bool.Decides.{nat_tests}
use Rattle.std.proofs.lemmas.List.Elements.{All-contains, Contains-push}
use Rattle.std.specs.List.{slice_index_or}
use Rattle.sc_ids.specs.declared.attempts.AttemptId.{AttemptId}
use Rattle.sc_ids.specs.declared.attempts.Mark.TheVariants.{Exec}
use Rattle.sc_tracker.specs.TrackerData.{TrackerData}
use Rattle.sc_tracker.specs.declared.outputs.Location.{Location}
use Rattle.sc_tracker.specs.declared.outputs.Location.TheVariants.{Here, Missing}
use Rattle.sc_lineage.specs.ScriptData.{WorkData}
use Rattle.sc_plan.specs.declared.orders.Order.{Order}
use Rattle.sc_core.specs.CoreData.{CoreData, job_runs}
use Rattle.sc_core.specs.HandOuts.{HandOutData}
use Rattle.sc_core.specs.Journals.{entry}
use Rattle.sc_core.specs.Sound.{IsInput, IsSoundCore, RunsWell}
use Rattle.sc_core.specs.Takes.{Takes, running_on, with_task}
use Rattle.sc_core.specs.declared.answers.Answer.{Answer}
use Rattle.sc_core.specs.declared.answers.Answer.TheVariants as says
use Rattle.sc_core.specs.declared.entries.Entry.{Entry}
use Rattle.sc_core.specs.declared.events.Event.{Event}
use Rattle.sc_core.specs.declared.events.Event.TheVariants as events
use Rattle.sc_core.specs.declared.events.SideEvent.TheVariants.{Tick}
use Rattle.sc_core.specs.declared.running.Running.{Running}
use Rattle.sc_jobs.specs.JobData.{JobData}
use Rattle.sc_net.specs.Tasks.{TaskData}
use Rattle.sc_causes.specs.Inputs.{IsThereOrLost}
use Rattle.sc_causes.proofs.InputLemmas.{missing_inputs_were_lost}
use Rattle.sc_desk.specs.DeskData.{DeskData, core_of}
use Rattle.sc_desk.specs.Dues.{IsOrdered, IsOrderedIf}
use Rattle.sc_desk.specs.Orders.{NextOrdersAreDue}
use Rattle.sc_desk.specs.Takes.{IsTaken}
use Rattle.sc_desk.specs.declared.takes.Taken.{Taken}
use Rattle.sc_desk.specs.declared.takes.Taken.TheVariants as takes
use Rattle.sc_logs.specs.Folds.{asks_as, given, has_asked_as, has_left, is_leave, last_take, owed_after, owing}
use Rattle.sc_exec.specs.Lefts.{IsAtWork, IsDue, WasTold}
use Rattle.sc_exec.specs.Logging.{IsLogged, IsSameLog, LosesBoth, ReleasesBoth, TakesBoth, TicksBoth}
use Rattle.sc_exec.specs.Turns.{IsTold, LiesOrLay}
use Rattle.sc_logs.specs.declared.logs.ExecLog.{ExecLog}
use Rattle.sc_logs.proofs.FoldLemmas.{asks_more, last_take_more, left_more, owed_more}

-- an executor is at work still behind an event by which it doesn't leave
pub works_on : (log then : ExecLog) (event : Event) (answer : Answer) (owed : List AttemptId)
    → IsLogged log event answer then → is_leave event ≡ false → asks_as log.exec event ≡ true
    → IsAtWork owed log → IsAtWork (owing event answer owed) then
works_on log then event answer owed logged no_leave own w =
    record {
      owes = ap (owed_after []) logged.entries ∙ owed_more [] log.entries.items e
          ∙ ap (owing event answer) w.owes;
      stays = ap has_left logged.entries ∙ left_more log.entries.items e
          ∙ ap (λ (b : Bool). b || is_leave event) w.stays ∙ no_leave;
      asks = ap (λ (exec : ℕ). has_asked_as exec then.entries.items) logged.exec
          ∙ ap (has_asked_as log.exec) logged.entries ∙ asks_more log.exec log.entries.items e
          ∙ ap (λ (b : Bool). b && asks_as log.exec event) w.asks ∙ own;
    }
  where
    e : Entry
    e = entry (Exec log.exec) event answer

-- a block that is there lies on an executor of the run, and one that isn't was lost
lies_or_lay : (t after : TrackerData) (born epoch : ℕ) (l : Location) → IsThereOrLost t l
    → IsInput after born epoch l → LiesOrLay (length after.trust) l
lies_or_lay t after born epoch (Here loc) h input = input.0
lies_or_lay t after born epoch (Missing (Some last)) h input = tt
lies_or_lay t after born epoch (Missing None) h input = h

-- what was handed out last runs, with its inputs
runs_now : (c after : CoreData) (exec : ℕ) (h : HandOutData) → IsSoundCore after
    → after ≡ with_task c exec h → RunsWell after (running_on h exec)
runs_now c after exec h sound is =
    All-contains (RunsWell after) after.running (running_on h exec) sound.job.running
    (subst (λ (xs : List Running). Contains xs (running_on h exec))
    (sym (ap (λ (x : CoreData). x.running) is))
    (Contains-push c.running (running_on h exec)))

same_self : (n : ℕ) → (n == n) ≡ true
same_self n = grind (arith, nat_tests)

-- what an executor was told stands in its log
pub told_so : {W : _} (work : WorkData) (d after : DeskData) (log then : ExecLog)
    (job : JobData) (t : Taken W) → d.job ≡ job → IsSoundCore (core_of d)
    → IsSoundCore (core_of after)
    → length (core_of after).dag.tracker.trust ≡ work.limits.executors → IsAtWork [] log
    → TakesBoth d log t after then → IsTold work job t then
told_so {W = W} work d after log then job t same sound left execs w (answer, takes_it, logged) =
    by t answer takes_it.0 takes_it.1.step logged
  where
    lay : (h : HandOutData) → Takes (core_of d) log.exec (says.Task h) (core_of after)
        → All (LiesOrLay work.limits.executors) h.inputs
    lay h takes = subst (λ (n : ℕ). All (LiesOrLay n) h.inputs) execs (λ k x lt.
        lies_or_lay (core_of d).dag.tracker (core_of after).dag.tracker runs.handed_out.born
        h.epoch (slice_index_or h.inputs k x)
        (missing_inputs_were_lost (core_of d) log.exec h sound takes.1 k x lt)
        (runs.handed_out.inputs k x lt))
      where
        runs : RunsWell (core_of after) (running_on h log.exec)
        runs = runs_now (core_of d) (core_of after) log.exec h left takes.3

    on : (a : Answer) → IsLogged log (events.Take log.exec) a then → IsAtWork (given a []) then
    on a l = works_on log then (events.Take log.exec) a [] l refl (same_self log.exec) w

    last : (a : Answer) → IsLogged log (events.Take log.exec) a then → WasTold a then
    last a l =
        ap (last_take None) l.entries
        ∙ last_take_more None log.entries.items (entry (Exec log.exec) (events.Take log.exec) a)

    by : (t : Taken W) (a : Answer) → IsTaken d.job t a
        → Takes (core_of d) log.exec a (core_of after)
        → IsLogged log (events.Take log.exec) a then → IsTold work job t then
    by (takes.Task t) (says.Task h) e k l = (
      ap (λ (x : TaskData). x.job) e ∙ same,
      subst (λ (x : TaskData). WasTold (says.Task x.hand_out) then) (sym e)
          (last (says.Task h) l),
      subst (λ (x : TaskData). IsAtWork (x.hand_out.attempt ∷ []) then) (sym e)
          (on (says.Task h) l),
      subst (λ (x : TaskData). All (LiesOrLay work.limits.executors) x.hand_out.inputs) (sym e)
          (lay h k),
    )
    by (takes.Wait out) (says.Wait attempt) e k l = on (says.Wait attempt) l
    by (takes.Busy held) (says.Busy attempt) e k l = (
      subst (λ (x : AttemptId). WasTold (says.Busy x) then) (sym e)
          (last (says.Busy attempt) l),
      on (says.Busy attempt) l,
    )
    by takes.Lost says.Lost e k l = (last says.Lost l, on says.Lost l)
    by (takes.Stopped exec) (says.Stopped first) e k l = (
      subst (λ (x : ℕ). WasTold (says.Stopped x) then) (sym e) (last (says.Stopped first) l),
      on (says.Stopped first) l,
    )
    by takes.Ended says.Ended e k l = (last says.Ended l, on says.Ended l)
    by (takes.Aborted why) (says.Aborted cause) e k l = on (says.Aborted cause) l
    by t a bad k l = absurd bad

-- a log with the same entries tells the same
pub works_same : (log then : ExecLog) (owed : List AttemptId) → IsSameLog log then
    → IsAtWork owed log → IsAtWork owed then
works_same log then owed same w =
    record {
      owes = ap (owed_after []) same.1 ∙ w.owes;
      stays = ap has_left same.1 ∙ w.stays;
      asks = ap (λ (exec : ℕ). has_asked_as exec then.entries.items) same.0
          ∙ ap (has_asked_as log.exec) same.1 ∙ w.asks;
    }

-- ---- calls that may be refused

-- what came of telling a loss leaves an executor at work
pub loses_on : {T E : Type 0} (d after : DeskData) (log then : ExecLog) (exec : ℕ)
    (came : Result T E) → IsAtWork [] log → OnOk came (LosesBoth d log exec after then)
    → OnErr came (IsSameLog log then) → IsAtWork [] then
loses_on d after log then exec (Ok x) w (receipt, loses, logged) same =
    works_on log then (events.TellLost exec) receipt.answer [] logged refl refl w
loses_on d after log then exec (Err e) w lost same = works_same log then [] same w

-- and what came of telling a report
pub releases_on : {T E : Type 0} (d after : DeskData) (log then : ExecLog) (key : ℕ)
    (came : Result T E) → IsAtWork [] log → OnOk came (ReleasesBoth d log key after then)
    → OnErr came (IsSameLog log then) → IsAtWork [] then
releases_on d after log then key (Ok x) w (receipt, releases, logged) same =
    works_on log then (events.Release key) receipt.answer [] logged refl refl w
releases_on d after log then key (Err e) w released same = works_same log then [] same w

-- and of having the time entered
pub ticks_on : {T E : Type 0} (d after : DeskData) (log then : ExecLog) (now : ℕ)
    (came : Result T E) → IsAtWork [] log → OnOk came (TicksBoth d log now after then)
    → OnErr came (IsSameLog log then) → IsAtWork [] then
ticks_on d after log then now (Ok x) w (noted, notes, logged) same =
    works_on log then (events.Side (Tick now)) (says.Side noted.answer) [] logged refl refl w
ticks_on d after log then now (Err e) w ticked same = works_same log then [] same w

-- and of asking for a task
pub told_if : {W : _} {E : Type 0} (work : WorkData) (d after : DeskData) (log then : ExecLog)
    (job : JobData) (came : Result (Taken W) E) → d.job ≡ job → IsSoundCore (core_of d)
    → IsSoundCore (core_of after)
    → length (core_of after).dag.tracker.trust ≡ work.limits.executors → IsAtWork [] log
    → IfOk came (λ t. TakesBoth d log t after then) → IfOk came (λ t. IsTold work job t then)
told_if work d after log then job (Ok t) same sound left execs w takes =
    told_so work d after log then job t same sound left execs w takes
told_if work d after log then job (Err e) same sound left execs w takes = takes

-- ---- orders

-- an order that is handed out is due
pub ordered_due : (work : WorkData) (d after : DeskData) (came : Option Order) (order : Order)
    → NextOrdersAreDue → length d.ordered ≡ work.limits.executors → came ≡ Some order
    → IsOrdered work d came after → IsDue work order
ordered_due work d after came order law many is ordered =
    by (job_runs (core_of d)) (subst (λ (o : Option Order). IsOrdered work d o after) is ordered)
  where
    some≢none : Some order ≡ None → ⊥
    some≢none e = search (rules, e)

    by : (b : Bool) → IsOrderedIf b work d (Some order) after → IsDue work order
    by true (next, is) =
        record {
          known = subst (λ (n : ℕ). order.exec < n) many next.known;
          told = (core_of d).told;
          due = (law work.plan (core_of d).told d.ordered order next).due;
        }
    by false (none, is) = absurd (some≢none none)
