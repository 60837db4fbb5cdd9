-- What a job that is over leads to.
use Rattle.std.specs.declared.alloc.Global.{Global}
use Rattle.std.proofs.Common.{◌≡◌, ◌∙◌, inl, inr, ◌<◌, List, ◌++◌, Option, Some, None, length, refl, ap, subst, sym, Vec}
use Rattle.std.specs.Prelude.{All, Result, Ok, Err}
use Rattle.std.specs.List.{AllZip}
use Rattle.std.specs.Option.{option_to_list}
use Rattle.std.proofs.lemmas.List.{map-append}
use Rattle.sc_base.specs.Outside.{FilesState}
use Rattle.sc_base.specs.Trees.{Path}
use Rattle.sc_base.specs.declared.refusals.OrMemory.{OrMemory}
use Rattle.sc_compute.specs.declared.results.TaskResult.{TaskResult}
use Rattle.sc_lineage.specs.ScriptData.{WorkData, IsSoundScript, IsSoundWork}
use Rattle.sc_laws.specs.Skips.{OutcomeLaw}
use Rattle.sc_stagecut.specs.Carrying.{IsCarriedFor}
use Rattle.sc_staging.specs.Laws.{WaysGoOn}
use Rattle.sc_core.specs.CoreData.{CoreData}
use Rattle.sc_core.specs.declared.journals.JobHistory.{JobHistory}
use Rattle.sc_jobs.specs.JobData.{IsGoal}
use Rattle.sc_jobs.specs.declared.goals.Goal.{Goal}
use Rattle.sc_desk.specs.DeskData.{PassedData}
use Rattle.sc_desk.specs.Files.{dir_of_job}
use Rattle.sc_logs.specs.declared.logs.ExecLog.{ExecLog}
use Rattle.sc_context.specs.Contexts.{ContextData, IsEnded, Stops}
use Rattle.sc_context.specs.Endings.{CanBeKept, IsOver, IsRecorded}
use Rattle.sc_context.specs.Goings.{RunsFrom}
use Rattle.sc_context.specs.Histories.{HasCome}
use Rattle.sc_context.specs.Outputs.{IsOpenIn}
use Rattle.sc_context.specs.Progress.{IsNext, first_progress}
use Rattle.sc_context.specs.Records.{AreKept, IsGivenUp, IsLogged, IsSame, histories_of, tried_in}
use Rattle.sc_context.specs.declared.records.GaveUp.{GaveUp}
use Rattle.sc_context.specs.declared.records.Records.{Records}
use Rattle.sc_context.specs.declared.running.Run.{Run}
use Rattle.sc_context.specs.declared.running.Run.TheVariants as runs
use Rattle.sc_context.specs.declared.stops.JobFault.{JobFault}
use Rattle.sc_context.proofs.AbortLemmas.{AreCauses}
use Rattle.sc_context.proofs.ChainLemmas.{stops_given_up}
use Rattle.sc_context.proofs.CountingLemmas.{done_counts, stop_counts}
use Rattle.sc_context.proofs.FilesLemmas.{went_stops}
use Rattle.sc_context.proofs.GivenLemmas.{own_trial}
use Rattle.sc_context.proofs.JobLemmas.{HasWent, ended_is, given_for, has_went, left_for, none_for, stops_job}
use Rattle.sc_context.proofs.SaveLemmas.{went_leaves}

-- ---- records

-- what is kept is kept in records of the same jobs
pub same_kept : (work : WorkData) (r after : Records) → IsSame r after → AreKept work r
    → AreKept work after
same_kept work r after same kept =
    record {
      logged = subst (λ hs. AllZip logged hs after.logs.items) (sym same.histories)
          (subst (λ (ls : List (Vec ExecLog Global)). AllZip logged r.histories.items ls)
          (sym same.logs) kept.logged);
      given_up = subst (All (IsGivenUp work)) (sym same.given_up) kept.given_up;
    }
  where
    logged : JobHistory → Vec ExecLog Global → Type 0
    logged h logs = IsLogged h logs.items

-- how one job more went that was given up, if it was
pub histories_more : (given : List GaveUp) (one : Option GaveUp) (all : List GaveUp)
    → all ≡ given ++ option_to_list one
    → histories_of all ≡ histories_of given ++ option_to_list (tried_in one)
histories_more given one all is =
    ap histories_of is
    ∙ map-append (λ (g : GaveUp). g.history) given (option_to_list one)
    ∙ ap (λ hs. histories_of given ++ hs) (in_one one)
  where
    in_one : (one : Option GaveUp)
        → histories_of (option_to_list one) ≡ option_to_list (tried_in one)
    in_one None = refl
    in_one (Some g) = refl

-- what came of a job that began can be recorded
pub can_be_kept : {W F : Type 0} → (work : WorkData) (state : F → FilesState) (passed : PassedData)
    (last : Option CoreData) (goal : Goal) (dir : Option Path) (opened : FilesState)
    (run : Run W F) → RunsFrom work state passed last goal dir opened run → CanBeKept work run
can_be_kept work state passed last goal dir opened (runs.Went went logs gave_up stores) from =
    (from.1, from.2)
can_be_kept work state passed last goal dir opened (runs.Refused gave_up why files) from = from.0

-- ---- a job that is over, behind a context

-- what is recorded is so wherever it began
pub recorded_at : (work : WorkData) (passed next : PassedData) (last then : Option CoreData)
    (goal : Goal) (dir at : Option Path) (opened : FilesState)
    (before front given given_front histories given_up : List JobHistory)
    (results : Result (Vec TaskResult Global) (OrMemory JobFault)) (files : FilesState)
    → last ≡ then → dir ≡ at → before ≡ front → given ≡ given_front
    → IsRecorded work passed last goal dir opened before given histories given_up next results
    files
    → IsRecorded work passed then goal at opened front given_front histories given_up next results
    files
recorded_at work passed next last then goal dir at opened before front given given_front histories
    given_up results files same_last same_dir same_before same_given is =
    subst (λ gs. IsRecorded work passed then goal at opened front gs histories given_up next
    results files) same_given
    (subst (λ hs. IsRecorded work passed then goal at opened hs given histories given_up next
    results files) same_before
    (subst (λ d. IsRecorded work passed then goal d opened before given histories given_up next
    results files) same_dir
    (subst (λ l. IsRecorded work passed l goal dir opened before given histories given_up next
    results files) same_last is)))

pub over_at : (work : WorkData) (passed : PassedData) (last then : Option CoreData)
    (goal : Goal) (dir at : Option Path) (opened : FilesState)
    (before front given given_front histories given_up : List JobHistory)
    (why : OrMemory JobFault) (files : FilesState) → last ≡ then → dir ≡ at → before ≡ front
    → given ≡ given_front
    → IsOver work passed last goal dir opened before given histories given_up why files
    → IsOver work passed then goal at opened front given_front histories given_up why files
over_at work passed last then goal dir at opened before front given given_front histories given_up
    why files same_last same_dir same_before same_given is =
    subst (λ gs. IsOver work passed then goal at opened front gs histories given_up why files)
    same_given
    (subst (λ hs. IsOver work passed then goal at opened hs given histories given_up why files)
    same_before
    (subst (λ d. IsOver work passed then goal d opened before given histories given_up why files)
    same_dir
    (subst (λ l. IsOver work passed l goal dir opened before given histories given_up why files)
    same_last is)))

-- A job that went so behind a context, and what goes on.
module _ (ways : WaysGoOn) (work : WorkData) (c : ContextData) (goal : Goal)
    (passed : PassedData) (opened : FilesState) (comes : IsNext work c.progress goal)
    (same : passed.carried ≡ c.progress.carried)
    (is_open : IsOpenIn (dir_of_job work goal) c.files opened) (known : IsGoal work goal) where
  abbrev Recorded : List JobHistory → List JobHistory → PassedData
      → Result (Vec TaskResult Global) (OrMemory JobFault) → FilesState → Type 0
  Recorded histories given_up next results files =
      IsRecorded work passed c.progress.last goal (dir_of_job work goal) opened c.histories
      c.given_up histories given_up next results files

  went_of : (histories given_up : List JobHistory) (next : PassedData)
      (results : Result (Vec TaskResult Global) (OrMemory JobFault)) (files : FilesState)
      → (is : Recorded histories given_up next results files)
      → HasWent work c.progress goal is.tried is.history next
  went_of histories given_up next results files is =
      has_went work c.progress goal passed next (dir_of_job work goal) opened files is.tried
      is.history results is.run comes same is.began

  -- it is done
  pub ended_recorded : OutcomeLaw → IsSoundScript work.script
      → (histories given_up : List JobHistory) (next : PassedData)
      (given : Vec TaskResult Global) (files : FilesState)
      → Recorded histories given_up next (Ok given) files
      → IsEnded work c goal next histories given_up given.items files
  ended_recorded law sound histories given_up next given files is =
      let h = is.history in
      let tried = is.tried in
      let dir = dir_of_job work goal in
      let results : Result (Vec TaskResult Global) (OrMemory JobFault) = Ok given in
      let are = given_for work c.progress goal passed next dir opened files tried h results is.run
      in
      let left = left_for work c.progress goal passed next dir opened files tried h results is.run
      in
      ended_is work c goal tried h next histories given_up given.items files
      (went_of histories given_up next results files is) is.all is.all_given are.done
      (record { passed_on = is.run.goes.passed_on; fits = is.run.goes.fits }) are.all
      (record {
        left = went_leaves ways law work goal tried h given.items dir c.files opened is.run.begun
            files given results refl sound known refl are.all is_open is.run.began left;
        counted = done_counts dir tried h c.files opened files given results refl is_open
            is.run.counted;
      })

  -- or it has no results
  module _ (known_causes : AreCauses) (sound : IsSoundWork work)
      (come : HasCome work (first_progress work) c.histories c.given_up c.progress)
      (within : c.progress.actions < length work.script.actions)
      (carried : IsCarriedFor work.script.nodes c.progress.carried) where
    stops_recorded : (histories given_up : List JobHistory) (next : PassedData)
        (why : OrMemory JobFault) (files : FilesState)
        → Recorded histories given_up next (Err why) files
        → Stops work c why histories given_up files
    stops_recorded histories given_up next why files is =
        let h = is.history in
        let tried = is.tried in
        let dir = dir_of_job work goal in
        let results : Result (Vec TaskResult Global) (OrMemory JobFault) = Err why in
        let none = none_for work c.progress goal passed next dir opened files tried h results
        is.run in
        let left = left_for work c.progress goal passed next dir opened files tried h results
        is.run in
        stops_job known_causes work sound c goal tried h histories given_up
        (went_of histories given_up next results files is).is is.ended is.run.goes.fits come is.all
        is.all_given within carried known why files none
        (went_stops ways dir work goal (option_to_list tried) tried h.end c.files opened
        is.run.begun files why results refl is_open is.run.began
        (own_trial work c.progress.last goal is.run.desk.job dir tried refl is.run.was_tried) left)
        (stop_counts dir tried h c.files opened files why results refl is_open is.run.counted)

    pub stops_over : (histories given_up : List JobHistory) (why : OrMemory JobFault)
        (files : FilesState)
        → IsOver work passed c.progress.last goal (dir_of_job work goal) opened c.histories
        c.given_up histories given_up why files → Stops work c why histories given_up files
    stops_over histories given_up why files (inl (next, is)) =
        stops_recorded histories given_up next why files is
    stops_over histories given_up why files (inr (all, (tried, all_given, left))) =
        stops_given_up ways work c goal passed why histories given_up tried opened files comes same
        come is_open left all all_given
