-- What came of a job that began: its executors worked to its end, or gave it up.
use Rattle.std.proofs.Common.{◌≡◌, ◌∙◌, ◌⊎◌, inl, inr, ◌||◌, Bool, true, false, Global, List, [], Option, Some, None, option_map, length, refl, ap, sym, subst}
use Rattle.std.specs.Prelude.{IsSomeAnd, Result, Vec}
use Rattle.std.proofs.lemmas.List.{append-nil}
use Rattle.std.proofs.lemmas.List.Elements.{All-nil, All-weaker}
use Rattle.sc_base.specs.Outside.{FilesState}
use Rattle.sc_base.specs.Trees.{Path}
use Rattle.sc_base.specs.declared.refusals.OrMemory.{OrMemory}
use Rattle.sc_ids.specs.declared.attempts.Mark.TheVariants.{Driver}
use Rattle.sc_compute.specs.declared.results.TaskResult.{TaskResult}
use Rattle.sc_lineage.specs.ScriptData.{WorkData}
use Rattle.sc_core.specs.CoreData.{CoreData}
use Rattle.sc_core.specs.Openings.{IsOpening, unregistered_core}
use Rattle.sc_core.specs.Journals.{Replays}
use Rattle.sc_core.specs.declared.entries.Entry.{Entry}
use Rattle.sc_core.specs.declared.journals.JobHistory.{JobHistory}
use Rattle.sc_jobs.specs.JobData.{JobData, saves}
use Rattle.sc_jobs.specs.declared.goals.Goal.{Goal}
use Rattle.sc_logs.specs.Logs.{Interleaves, IsLogIn, is_known, marks_driver}
use Rattle.sc_logs.specs.declared.logs.ExecLog.{ExecLog}
use Rattle.sc_desk.specs.Begins.{Begins, BeginsAgain}
use Rattle.sc_desk.specs.DeskData.{DeskData, PassedData}
use Rattle.sc_desk.specs.Files.{AreCounted, FilesStand, faults_of}
use Rattle.sc_desk.specs.declared.orders.Ordered.{Ordered}
use Rattle.sc_desk.specs.Sound.{AreEvident}
use Rattle.sc_desk.proofs.AgainLemmas.{again_is_begun}
use Rattle.sc_desk.proofs.CountLemmas.{counted_then}
use Rattle.sc_exec.specs.JobDesks.{IsJobOf, job_desk_data, opening_of}
use Rattle.sc_exec.specs.Openings.{OpeningData, opening_data}
use Rattle.sc_exec.specs.Verdicts as judging
use Rattle.sc_exec.specs.Workers.{AreInPlace, lefts_of, logs_of}
use Rattle.sc_exec.specs.declared.lefts.Left.{Left}
use Rattle.sc_exec.specs.declared.verdicts.Verdict.{Verdict}
use Rattle.sc_exec.specs.declared.verdicts.Verdict.TheVariants as verdicts
use Rattle.sc_exec.specs.declared.workers.Worker.{Worker}
use Rattle.sc_context.specs.Goings.{BeganBehind, CameFrom, ComesFrom, GivesUp, GoesFrom, HasRun, IsSoFar, IsTrial, RunsAgain, RunsFrom, RunsRenewed}
use Rattle.sc_context.specs.Histories.{AreDrivers}
use Rattle.sc_context.specs.Outputs.{CountsIn, IsNotBegun, IsRenewedIn}
use Rattle.sc_context.specs.Records.{HaveStopped, IsLogged, WasGivenUp}
use Rattle.sc_context.specs.declared.records.GaveUp.{GaveUp}
use Rattle.sc_context.specs.declared.running.Run.{Run}
use Rattle.sc_context.specs.declared.running.Run.TheVariants as runs
use Rattle.sc_context.specs.declared.stops.JobFault.{JobFault}
use Rattle.sc_context.specs.declared.went.Went.{Went}
use Rattle.sc_context.proofs.AloneLemmas.{comes_along, goes_self}
use Rattle.sc_context.proofs.CountingLemmas.{counts_then, later_none, renewed_counted}

-- ---- what executors wrote down

-- the entries of a job are logged as they were judged
pub logged_so : (h : JobHistory) (entries : List Entry) (workers : List Worker)
    (logs : List ExecLog) → h.entries.items ≡ entries → logs ≡ logs_of workers
    → judging.AreLogged entries workers → IsLogged h logs
logged_so h entries workers logs same are logged =
    subst (λ (es : List Entry). Interleaves es logs) (sym same)
    (subst (Interleaves entries) (sym are) logged)

-- and that is so where it ended or memory ran out
pub logged_by : (core : CoreData) (entries : List Entry) (workers : List Worker)
    (how : Verdict) → (how ≡ verdicts.Ended) ⊎ (how ≡ verdicts.NoMemory)
    → judging.IsVerdict core entries workers how → judging.AreLogged entries workers
logged_by core entries workers how (inl is) judged =
    (subst (judging.IsVerdict core entries workers) is judged).0
logged_by core entries workers how (inr is) judged =
    (subst (judging.IsVerdict core entries workers) is judged).0

-- what the judgement of a job that is given up says
pub given_by : (core : CoreData) (entries : List Entry) (workers : List Worker)
    (how : Verdict) → how ≡ verdicts.GivenUp → judging.IsVerdict core entries workers how
    → judging.IsGivenUp entries workers
given_by core entries workers how is judged =
    (subst (judging.IsVerdict core entries workers) is judged).0

-- or why it is given up
pub given_up_so : (entries : List Entry) (workers : List Worker) (logs : List ExecLog)
    (lefts : List Left) → logs ≡ logs_of workers → lefts ≡ lefts_of workers
    → judging.IsGivenUp entries workers → WasGivenUp entries logs lefts
given_up_so entries workers logs lefts are whys given =
    subst (λ (ls : List ExecLog). WasGivenUp entries ls lefts) (sym are)
    (subst (WasGivenUp entries (logs_of workers)) (sym whys) given)

-- the driver alone needs no log
known_alone : (e : Entry) → marks_driver e.by ≡ true → is_known [] e ≡ true
known_alone e is = ap (λ (b : Bool). b || false) is

pub logged_alone : (h : JobHistory) (logs : List ExecLog) → logs ≡ [] → AreDrivers h.entries.items
    → IsLogged h logs
logged_alone h logs none drivers =
    subst (Interleaves h.entries.items) (sym none) (
      All-nil (IsLogIn h.entries.items),
      All-weaker (λ e. e.by ≡ Driver) (λ e. is_known [] e ≡ true)
          (λ e is. known_alone e (ap marks_driver is)) h.entries.items drivers,
    )

-- as many executors as before
pub as_many : (executors : _) (before after : List Worker) → AreInPlace executors before
    → AreInPlace executors after → length after ≡ length before
as_many executors before after was is = is.many ∙ sym was.many

-- ---- a job that is run

-- A job begins with a desk, and its executors leave another one.
module _ (work : WorkData) (passed : PassedData) (last : Option CoreData) (goal : Goal)
    (first d : DeskData) (dir then : Option Path) (opened files : FilesState)
    (is : IsJobOf work (opening_of (job_desk_data first dir opened))
    (job_desk_data d then files)) where
  -- it went so to its end
  pub has_run : (h : JobHistory) (next : PassedData)
      (results : Result (Vec TaskResult Global) (OrMemory JobFault)) (closed : FilesState)
      → Begins work passed last goal first
      → ((o : OpeningData) → ComesFrom work o (job_desk_data d then files)
      → GoesFrom work o h next results closed)
      → ((begun : FilesState)
      → AreCounted begun (faults_of d.journal.entries) files
      → CountsIn (faults_of h.entries.items) begun closed results)
      → HasRun work passed last goal dir opened None h next results closed
  has_run h next results closed begins goes counts =
      record {
        desk = first;
        from = last;
        begins = begins;
        behind = refl;
        was_tried = tt;
        begun = opened;
        began = refl;
        goes = goes (opening_of (job_desk_data first dir opened))
            (comes_along work (opening_of (job_desk_data first dir opened))
            (job_desk_data d then files) is);
        counted = counts opened is.counted;
      }

  -- it is given up, and may begin again
  pub came_from : (orders : List Ordered) → BeganBehind work last first
      → orders ≡ first.ordered → CameFrom work last orders d
  came_from orders (passed_on, for_goal, begins) same =
      record {
        passed = passed_on;
        goal = for_goal;
        first = first;
        begins = begins;
        job = is.job;
        carried = is.carried;
        orders_are = same ∙ begins.ordered;
      }

  -- how it went until then
  trial_of : (tried : JobHistory) → Begins work passed last goal first → IsSoFar work d tried
      → IsTrial work last goal first.job tried
  trial_of tried begins so =
      record {
        opening = subst (IsOpening first.job.graph work.limits (saves work goal) work.plan last)
            (sym (so.opening ∙ is.core)) begins.opening;
        replays = so.replays;
        evidence = subst (λ (j : JobData).
            AreEvident work j tried.opening tried.entries.items tried.end so.replays) is.job
            so.evidence;
      }

  -- and what its files had counted
  told_of : (tried : JobHistory) → IsSoFar work d tried
      → AreCounted opened (faults_of tried.entries.items) files
  told_of tried so =
      subst (λ (es : List Entry). AreCounted opened (faults_of es) files) (sym so.entries)
      is.counted

  -- it began again
  went_again : {F : Type 0} (state : F → FilesState) (orders : List Ordered) (went : Went F)
      (gave_up : GaveUp) → Begins work passed last goal first → orders ≡ first.ordered
      → (after : DeskData) → BeginsAgain work d last orders after → (begun : FilesState)
      → IsRenewedIn then files begun → FilesStand work after then begun
      → ((o : OpeningData) → ComesFrom work o (job_desk_data after then begun)
      → GoesFrom work o went.history went.passed went.results (state went.files))
      → CountsIn (faults_of went.history.entries.items) begun (state went.files) went.results
      → AreDrivers went.history.entries.items → IsSoFar work d gave_up.history
      → HasRun work passed last goal dir opened (Some gave_up.history) went.history went.passed
      went.results (state went.files)
  went_again state orders went gave_up begins same after again begun renewed stand goes counted
      drivers so =
      record {
        desk = after;
        from = option_map unregistered_core last;
        begins = again_is_begun work passed last last goal first d after orders begins is.job
            is.carried (same ∙ begins.ordered) again;
        behind = (refl, drivers);
        was_tried = subst (λ (j : JobData). IsTrial work last goal j gave_up.history)
            (sym (again.job ∙ is.job)) (trial_of gave_up.history begins so);
        begun = begun;
        began = (
          files,
          (is.later, is.goes),
          subst (λ (p : Option Path). IsRenewedIn p files begun) is.dir renewed,
        );
        goes = goes (opening_data after.journal.opening after.job after.carried dir begun)
            (record {
              core = refl;
              job = refl;
              carried = refl;
              dir = is.dir;
              stand = stand;
              later = later_none begun;
              goes = goes_self dir begun;
            });
        counted = counts_then (faults_of gave_up.history.entries.items)
            (faults_of went.history.entries.items) opened begun (state went.files) went.results
            (subst (λ l. AreCounted opened l begun)
            (append-nil (faults_of gave_up.history.entries.items))
            (counted_then opened files begun (faults_of gave_up.history.entries.items) []
            (told_of gave_up.history so) (renewed_counted then files begun renewed)))
            counted;
      }

  -- and did, or didn't
  pub has_run_again : {W F : Type 0} (state : F → FilesState) (orders : List Ordered)
      (run : Run W F)
      → Begins work passed last goal first → orders ≡ first.ordered
      → RunsAgain work state d last orders then files run
      → RunsFrom work state passed last goal dir opened run
  has_run_again state orders (runs.Went went logs None stores) begins same
      (again, drivers, logged, given) = absurd given
  has_run_again state orders (runs.Went went logs (Some gave_up) stores) begins same
      ((after, again, (begun, renewed, stand, goes, counted)), drivers, logged, given) = (
        went_again state orders went gave_up begins same after again begun renewed stand goes
            counted drivers given.1,
        logged,
        given.0,
      )
  has_run_again state orders (runs.Refused gave_up why after) begins same (given, not_begun) = (
    given.0,
    record {
      desk = first;
      begins = begins;
      was_tried = trial_of gave_up.history begins given.1;
      left = files;
      left_open = (is.later, is.goes);
      counted = told_of gave_up.history given.1;
      not_begun = subst (λ (p : Option Path). IsNotBegun p files (state after) why) is.dir
          not_begun;
    },
  )

-- ---- a job that begins again

-- how it went before, and why it was given up
pub gives_up : (work : WorkData) (d : DeskData) (g : GaveUp)
    → g.history.opening ≡ d.journal.opening → g.history.entries.items ≡ d.journal.entries
    → (is : Replays g.history.opening g.history.entries.items g.history.end)
    → AreEvident work d.job g.history.opening g.history.entries.items g.history.end is
    → HaveStopped work g.logs.items g.lefts.items
    → WasGivenUp d.journal.entries g.logs.items g.lefts.items → GivesUp work d g
gives_up work d g opening entries replays evidence stopped cause = (
  record {
    replays = replays;
    stopped = stopped;
    cause = subst (λ (es : List Entry). WasGivenUp es g.logs.items g.lefts.items) (sym entries)
        cause;
  },
  record { opening = opening; entries = entries; replays = replays; evidence = evidence },
)

-- what came of a job with nothing in its staging area came of it since it was given up
pub renewed_again : {W F : Type 0} (work : WorkData) (state : F → FilesState) (d after : DeskData)
    (last : Option CoreData) (orders : List Ordered) (dir there : Option Path)
    (files begun : FilesState) (gave_up : GaveUp) (run : Run W F) → GivesUp work d gave_up
    → BeginsAgain work d last orders after → there ≡ dir → IsRenewedIn dir files begun
    → FilesStand work after dir begun
    → RunsRenewed work state after there begun gave_up run
    → RunsAgain work state d last orders dir files run
renewed_again work state d after last orders dir there files begun gave_up
    (runs.Went went logs given stores) gives again same renewed stand
    (goes, counted, drivers, logged, is) = (
      (
        after,
        again,
        (
          begun,
          renewed,
          stand,
          subst (λ (p : Option Path). (o : OpeningData)
              → ComesFrom work o (job_desk_data after p begun)
              → GoesFrom work o went.history went.passed went.results (state went.files)) same
              goes,
          counted,
        ),
      ),
      drivers,
      logged,
      subst (λ (o : Option GaveUp). IsSomeAnd o (GivesUp work d)) (sym is) gives,
    )
renewed_again work state d after last orders dir there files begun gave_up
    (runs.Refused given why left) gives again same renewed stand (is, none, still) = (
      subst (GivesUp work d) (sym is) gives,
      inl (
        none,
        inr (subst (λ (f : FilesState). IsRenewedIn dir files f) (sym still) renewed),
      ),
    )

-- it begins like any other, behind a job of which nothing is registered
pub begins_again : (work : WorkData) (last : Option CoreData) (orders : List Ordered)
    (d after : DeskData) → CameFrom work last orders d → BeginsAgain work d last orders after
    → BeganBehind work (option_map unregistered_core last) after
begins_again work last orders d after came again = (
  came.passed,
  came.goal,
  again_is_begun work came.passed last last came.goal came.first d after orders came.begins
      came.job came.carried came.orders_are again,
)
