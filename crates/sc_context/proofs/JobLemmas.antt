-- What a job leaves that went somehow.
use Rattle.std.specs.declared.alloc.Global.{Global}
use Rattle.std.proofs.Common.{◌≡◌, ◌∙◌, inl, inr, ℕ, ◌<◌, ◌≤◌, List, [], ◌∷◌, ◌++◌, Option, Some, length, refl, ap, sym, subst, Vec}
use Rattle.std.specs.Option.{option_to_list}
use Rattle.std.specs.Prelude.{IfErr, IfOk, Result}
use Rattle.sc_base.specs.Outside.{FilesState}
use Rattle.sc_base.specs.Trees.{Path}
use Rattle.sc_base.specs.declared.refusals.OrMemory.{OrMemory}
use Rattle.sc_base.specs.declared.refusals.OrMemory.TheVariants.{Fault, OutOfMemory}
use Rattle.sc_compute.specs.declared.results.TaskResult.{TaskResult}
use Rattle.sc_lineage.specs.ScriptData.{WorkData, IsSoundWork}
use Rattle.sc_stagecut.specs.Carrying.{IsCarriedFor, after_job}
use Rattle.sc_stagecut.specs.Cuts.{IsCut}
use Rattle.sc_core.specs.Openings.{IsOpening}
use Rattle.sc_core.specs.Sound.{IsSoundCore}
use Rattle.sc_core.specs.declared.answers.Abort.{Abort}
use Rattle.sc_core.specs.declared.answers.JobState.{JobState}
use Rattle.sc_core.specs.declared.answers.JobState.TheVariants as jobs
use Rattle.sc_core.specs.declared.journals.JobHistory.{JobHistory}
use Rattle.sc_jobs.specs.JobData.{IsGoal, JobData, goal_node, saves}
use Rattle.sc_jobs.specs.declared.goals.Goal.{Goal}
use Rattle.sc_desk.specs.Begins.{FitsRun, IsPassedFor}
use Rattle.sc_desk.specs.DeskData.{PassedData}
use Rattle.sc_desk.specs.Files.{dir_of_job}
use Rattle.sc_desk.specs.Sound.{AreEvident}
use Rattle.sc_context.specs.Aborts.{IsAborted, IsHalted}
use Rattle.sc_context.specs.Contexts.{ContextData, IsContext, IsEnded, IsReady, ShowsStop, Stops, context_data}
use Rattle.sc_context.specs.Files.{HasCounted, LeavesFiles, StopsIn}
use Rattle.sc_context.specs.Goings.{HasRun}
use Rattle.sc_context.specs.Histories.{HasCome, IsCutShort, IsHistory, IsUnaborted, last_end}
use Rattle.sc_context.specs.Jobs.{AreResultsFor, HasNoResults, HasResults, IsUnabortedOrSave}
use Rattle.sc_context.specs.Outputs.{WentIn}
use Rattle.sc_context.specs.Progress.{IsNext, Progress, actions_behind, behind_job, carried_behind, first_progress, progress}
use Rattle.sc_context.specs.declared.stops.JobFault.{JobFault}
use Rattle.sc_context.specs.declared.stops.JobFault.TheVariants as faults
use Rattle.sc_context.proofs.AbortLemmas.{AreCauses, is_aborted, saves_itself}
use Rattle.sc_context.proofs.BehindLemmas.{job_is, tried_if}
use Rattle.sc_context.proofs.ChainLemmas.{ended_come, ended_short, last_more}
use Rattle.sc_context.proofs.DoneLemmas.{aborted_undone, running_unaborted}
use Rattle.sc_context.proofs.FilesLemmas.{HaveGone, gone_once, stops_for}

-- a job went somehow behind others, and this goes on
pub record HasWent (work : WorkData) (p : Progress) (goal : Goal) (tried : Option JobHistory)
    (h : JobHistory) (after : PassedData) : Type 0 where
  pub is : IsHistory work p goal tried h
  pub carried : after.carried ≡ after_job p.carried is.graph

-- A job that went so from a desk that began.
module _ (work : WorkData) (p : Progress) (goal : Goal) (passed next : PassedData)
    (dir : Option Path) (opened files : FilesState) (tried : Option JobHistory) (h : JobHistory)
    (results : Result (Vec TaskResult Global) (OrMemory JobFault))
    (run : HasRun work passed p.last goal dir opened tried h next results files) where
  pub has_went : IsNext work p goal → passed.carried ≡ p.carried → IsSoundCore h.opening
      → HasWent work p goal tried h next
  has_went comes same core =
      record {
        is = record {
          next = comes;
          graph = run.desk.job.graph;
          cut = subst (λ c. IsCut work c (goal_node work goal) run.desk.job.graph) same
              run.begins.cut;
          from = run.from;
          behind = run.behind;
          opening = subst
              (IsOpening run.desk.job.graph work.limits (saves work goal) work.plan run.from)
              (sym run.goes.opening) run.begins.opening;
          began = core;
          replays = run.goes.replays;
          evidence = subst (λ (j : JobData).
              AreEvident work j h.opening h.entries.items h.end run.goes.replays)
              (job_is goal run.desk.job run.begins.goal_is)
              (run.goes.evidence run.goes.replays);
          was_tried = tried_if work p goal run.desk.job tried run.begins.goal_is run.was_tried;
        };
        carried = run.goes.carried
            ∙ run.begins.carried_on
            ∙ ap (λ c. after_job c run.desk.job.graph) same;
      }

  -- its results, or why there are none, and what is left of its files
  pub given_for : IfOk results (λ rs. HasResults work goal h.end rs.items)
  given_for =
      subst (λ g. IfOk results (λ rs. HasResults work g h.end rs.items)) run.begins.goal_is
      run.goes.given

  pub none_for : IfErr results (HasNoResults work goal h.end)
  none_for =
      subst (λ g. IfErr results (HasNoResults work g h.end)) run.begins.goal_is run.goes.none

  pub left_for : WentIn dir work goal h.end run.begun files results
  left_for =
      subst (λ g. WentIn dir work g h.end run.begun files results) run.begins.goal_is run.goes.left

-- a job that is done
pub ended_is : (work : WorkData) (c : ContextData) (goal : Goal) (tried : Option JobHistory)
    (h : JobHistory) (passed : PassedData) (histories given_up : List JobHistory)
    (given : List TaskResult) (files : FilesState) → HasWent work c.progress goal tried h passed
    → histories ≡ c.histories ++ h ∷ [] → given_up ≡ c.given_up ++ option_to_list tried
    → h.end.job ≡ jobs.Done → IsReady work passed (Some h.end) → AreResultsFor work goal given
    → LeavesFiles work goal tried h c.files files
    → IsEnded work c goal passed histories given_up given files
ended_is work c goal tried h passed histories given_up given files went all all_given done ready
    given_are left =
    record {
      history = h;
      all = all;
      tried = tried;
      all_given = all_given;
      is = went.is;
      done = done;
      carried = went.carried;
      ready = ready;
      results = given_are;
      left = left;
    }

-- one that has no results
module _ (known_causes : AreCauses) (work : WorkData) (sound : IsSoundWork work)
    (c : ContextData) (goal : Goal) (tried : Option JobHistory) (h : JobHistory)
    (histories given_up : List JobHistory) (is : IsHistory work c.progress goal tried h)
    (core : IsSoundCore h.end) (fits : FitsRun work h.end)
    (come : HasCome work (first_progress work) c.histories c.given_up c.progress)
    (all : histories ≡ c.histories ++ h ∷ [])
    (all_given : given_up ≡ c.given_up ++ option_to_list tried)
    (within : c.progress.actions < length work.script.actions)
    (carried : IsCarriedFor work.script.nodes c.progress.carried)
    (known : IsGoal work goal) where
  aborts : (abort : Abort) → h.end.job ≡ jobs.Aborted abort
      → IsAborted work c.progress.actions histories given_up abort
  aborts abort e =
      is_aborted known_causes work sound c.progress goal tried h is core fits histories given_up
      c.histories c.given_up abort come all all_given within carried known e

  cut_short : IsUnaborted h.end → IsCutShort work c.progress.actions histories given_up
  cut_short unaborted =
      ended_short work c.progress c.histories c.given_up histories given_up tried h goal come is
      unaborted all all_given

  halts : IsUnabortedOrSave work goal h.end
      → IsHalted work c.progress.actions histories given_up
  halts (inl unaborted) = inl (cut_short unaborted)
  halts (inr saved) = by h.end.job refl
    where
      by : (job : JobState) → h.end.job ≡ job
          → IsHalted work c.progress.actions histories given_up
      by (jobs.Aborted abort) e =
          inr (saves_itself work c.progress goal is.next saved, (abort, aborts abort e))
      by jobs.Done e =
          inl (cut_short (λ abort aborted. aborted_undone h.end.job abort aborted e))
      by jobs.Running e =
          inl (cut_short (λ abort aborted. running_unaborted h.end.job abort e aborted))

  shows_stop : (why : OrMemory JobFault) → HasNoResults work goal h.end why
      → ShowsStop work c.progress.actions why histories given_up
  shows_stop (Fault (faults.Aborted abort)) e = aborts abort e
  shows_stop (Fault (faults.Exists path)) e = absurd e
  shows_stop (Fault (faults.Device path)) e = halts e
  shows_stop OutOfMemory e = halts e

  pub stops_job : (why : OrMemory JobFault) (files : FilesState)
      → HasNoResults work goal h.end why
      → StopsIn work (option_to_list tried) (dir_of_job work goal) c.files files why
      → HasCounted (h ∷ []) (option_to_list tried) why c.files files
      → Stops work c why histories given_up files
  stops_job why files none stops counted =
      record {
        behind = record {
          more = h ∷ [];
          all = all;
          given = option_to_list tried;
          all_given = all_given;
        };
        shows = shows_stop why none;
        over = stops_for work (option_to_list tried) c.progress goal c.files files why is.next
            stops;
        counted = counted;
      }

-- ---- the context behind a job

-- A job that is done, and what goes on behind it.
module _ (work : WorkData) (c : ContextData) (goal : Goal) (passed after : PassedData)
    (histories given_up : List JobHistory) (given : List TaskResult) (actions : ℕ)
    (files : FilesState)
    (come : HasCome work (first_progress work) c.histories c.given_up c.progress)
    (ended : IsEnded work c goal passed histories given_up given files)
    (carried : after.carried ≡ carried_behind work goal ended.is.graph c.progress.carried)
    (many : actions ≡ actions_behind goal c.progress.actions) where
  abbrev behind : ContextData
  behind = context_data actions after.carried histories given_up files

  last_is : last_end histories ≡ Some ended.history.end
  last_is = ap last_end ended.all ∙ last_more c.histories ended.history

  progress_is : progress actions after.carried (last_end histories)
      ≡ behind_job work c.progress goal ended.is.graph ended.history.end
  progress_is =
      ap (λ l. progress actions after.carried l) last_is
      ∙ ap (λ k. progress actions k (Some ended.history.end)) carried
      ∙ ap (λ n. progress n (carried_behind work goal ended.is.graph c.progress.carried)
      (Some ended.history.end)) many

  abbrev given_then : List JobHistory
  given_then = c.given_up ++ option_to_list ended.tried

  -- a context stands behind it
  pub context_behind : actions ≤ length work.script.actions → IsPassedFor work after
      → length after.carried.bounds ≡ length work.script.nodes
      → IsContext work after behind
  context_behind within serves places =
      record {
        come = subst (λ gs. HasCome work (first_progress work) histories gs
            (progress actions after.carried (last_end histories))) (sym ended.all_given)
            (subst (λ hs. HasCome work (first_progress work) hs given_then
            (progress actions after.carried (last_end histories))) (sym ended.all)
            (subst (HasCome work (first_progress work) (c.histories ++ ended.history ∷ [])
            given_then) (sym progress_is)
            (ended_come work c.progress c.histories c.given_up ended.tried ended.history goal come
            ended.is ended.done)));
        within = within;
        ready = subst (IsReady work after) (sym last_is)
            (record { passed_on = serves; fits = ended.ready.fits });
        places = places;
      }

  -- and it left the files so
  pub gone_behind : HaveGone work c.progress (ended.history ∷ []) (option_to_list ended.tried)
      behind.progress c.files files
  gone_behind =
      gone_once work c.progress behind.progress ended.tried ended.history c.files files
      (record { goal = goal; is = ended.is; done = ended.done; behind = progress_is })
      ended.left
