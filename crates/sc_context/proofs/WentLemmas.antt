-- How a job went: what is left of its files, and why it has no results.
use Rattle.std.proofs.Common.{◌≡◌, ◌∙◌, inl, inr, true, Option, Some, None, refl, sym, subst}
use Rattle.std.specs.Prelude.{IfErr, IfOk, Result, Ok, Err}
use Rattle.std.proofs.lemmas.Result.{IfErr-weaker}
use Rattle.sc_base.specs.Outside.{FilesState, IsLaterFiles}
use Rattle.sc_base.specs.Trees.{Path}
use Rattle.sc_base.specs.declared.refusals.OrMemory.{OrMemory}
use Rattle.sc_base.specs.declared.refusals.OrMemory.TheVariants.{Fault, OutOfMemory}
use Rattle.sc_lineage.specs.ScriptData.{WorkData}
use Rattle.sc_output.proofs.CallLemmas.{later-then}
use Rattle.sc_output.specs.Commits.{commit_calls}
use Rattle.sc_staging.specs.Laws.{CommitSaves}
use Rattle.sc_staging.specs.Outputs.{GoesOnIn}
use Rattle.sc_core.specs.CoreData.{CoreData}
use Rattle.sc_core.specs.Posts.{is_save}
use Rattle.sc_core.specs.declared.answers.JobState.TheVariants as jobs
use Rattle.sc_jobs.specs.JobData.{goal_action, saves}
use Rattle.sc_jobs.specs.JobLaws.{JobsGiveResults}
use Rattle.sc_jobs.specs.Plans.{IsJobFor}
use Rattle.sc_jobs.specs.declared.goals.Goal.{Goal}
use Rattle.sc_desk.specs.DeskData.{DeskData, core_of}
use Rattle.sc_desk.specs.Files.{FilesGoOn, FilesStand, HasReplay}
use Rattle.sc_desk.specs.Sound.{IsSoundDesk}
use Rattle.sc_context.specs.Jobs.{HasNoResults}
use Rattle.sc_context.specs.Outputs.{EndsOutput, LacksBy, WentIn}
use Rattle.sc_context.specs.declared.stops.JobFault.{JobFault}
use Rattle.sc_context.specs.declared.stops.JobFault.TheVariants as faults
use Rattle.sc_context.proofs.OutputLemmas.{commit_saved, lacks_none, made, save_commits, save_fails, saves_to}

-- ---- why there are no results

none_by : (work : WorkData) (goal : Goal) (end : CoreData)
    (ended : Result (Unit {0}) (OrMemory Path)) (why : OrMemory JobFault)
    → ((fault : OrMemory Path) → ended ≡ Err fault → saves work goal ≡ true)
    → LacksBy ended end why → HasNoResults work goal end why
none_by work goal end (Ok u) (Fault (faults.Aborted abort)) saved lacks = lacks
none_by work goal end (Ok u) (Fault (faults.Exists path)) saved lacks = absurd lacks
none_by work goal end (Ok u) (Fault (faults.Device path)) saved lacks = absurd lacks
none_by work goal end (Ok u) OutOfMemory saved lacks = inl lacks
none_by work goal end (Err (Fault path)) why saved lacks =
    subst (HasNoResults work goal end) (sym lacks) (inr (saved (Fault path) refl))
none_by work goal end (Err OutOfMemory) why saved lacks =
    subst (HasNoResults work goal end) (sym lacks) (inr (saved OutOfMemory refl))

-- only the files of a save end with a fault
ended_saves : (work : WorkData) (d : DeskData) (dir : Option Path) (mid after : FilesState)
    (end : CoreData) (ended : Result (Unit {0}) (OrMemory Path)) → FilesStand work d dir mid
    → EndsOutput dir end mid after ended → (fault : OrMemory Path) → ended ≡ Err fault
    → saves work d.job.goal ≡ true
ended_saves work d None mid after end ended stand ends fault is =
    let ok : ended ≡ Ok tt = ends.1 in absurd cc
ended_saves work d (Some dir) mid after end ended stand ends fault is =
    saves_to (goal_action work d.job.goal) dir stand.opened_for

pub went_none : {A : Type 0} (work : WorkData) (d : DeskData) (dir : Option Path)
    (mid after : FilesState) (end : CoreData) (ended : Result (Unit {0}) (OrMemory Path))
    (results : Result A (OrMemory JobFault)) → FilesStand work d dir mid
    → EndsOutput dir end mid after ended → IfErr results (LacksBy ended end)
    → IfErr results (HasNoResults work d.job.goal end)
went_none work d dir mid after end ended results stand ends lacks =
    IfErr-weaker results (LacksBy ended end) (HasNoResults work d.job.goal end)
    (λ why. none_by work d.job.goal end ended why
    (ended_saves work d dir mid after end ended stand ends))
    lacks

-- ---- what is left of the files

module _ (law : FilesGoOn) (gives : JobsGiveResults) (commits : CommitSaves) (work : WorkData)
    (d : DeskData) (sound : IsSoundDesk work d) (replay : HasReplay d)
    (job : IsJobFor work d.job)
    (saving : is_save (core_of d).committers ≡ saves work d.job.goal) where
  went_core : {A : Type 0} (dir : Option Path) (opened mid after : FilesState)
      (ended : Result (Unit {0}) (OrMemory Path)) (results : Result A (OrMemory JobFault))
      → IsLaterFiles opened mid → GoesOnIn dir opened mid → FilesStand work d dir mid
      → IsLaterFiles mid after → EndsOutput dir (core_of d) mid after ended
      → IfOk results (λ a. (core_of d).job ≡ jobs.Done) → IfOk results (λ a. ended ≡ Ok tt)
      → IfErr results (LacksBy ended (core_of d))
      → WentIn dir work d.job.goal (core_of d) opened after results
  went_core None opened mid after ended (Ok a) later goes stand more ends done ok lacks =
      ends.0 ∙ goes
  went_core None opened mid after ended (Err why) later goes stand more ends done ok lacks = (
    ends.0 ∙ goes,
    lacks_none (core_of d) why (subst (λ r. LacksBy r (core_of d) why) ends.1 lacks),
  )
  went_core (Some dir) opened mid after ended (Ok a) later goes stand more ends done ok lacks =
      let m = save_commits (core_of d).committers dir mid after (core_of d).job ended done ok ends
      in (
        later-then opened mid after later more,
        record {
          winners = m.winners;
          are_winners = m.are_winners;
          made = made dir opened mid after (core_of d) later goes (commit_calls dir m.winners)
              (Ok tt) m.makes;
          saved = commit_saved law gives work d sound replay job saving commits dir opened mid
              after goes stand done m;
        },
      )
  went_core (Some dir) opened mid after ended (Err why) later goes stand more ends done ok
      lacks = (
        later-then opened mid after later more,
        save_fails dir opened mid after (core_of d) later goes (core_of d).committers
            (core_of d).job ended why refl ends lacks,
      )

  -- by the end that was told
  pub went_files : {A : Type 0} (dir : Option Path) (opened mid after : FilesState)
      (end : CoreData) (ended : Result (Unit {0}) (OrMemory Path))
      (results : Result A (OrMemory JobFault)) → end ≡ core_of d
      → IsLaterFiles opened mid → GoesOnIn dir opened mid → FilesStand work d dir mid
      → IsLaterFiles mid after → EndsOutput dir end mid after ended
      → IfOk results (λ a. end.job ≡ jobs.Done) → IfOk results (λ a. ended ≡ Ok tt)
      → IfErr results (LacksBy ended end)
      → WentIn dir work d.job.goal end opened after results
  went_files dir opened mid after end ended results is later goes stand more =
      subst (λ (e : CoreData). EndsOutput dir e mid after ended
      → IfOk results (λ a. e.job ≡ jobs.Done) → IfOk results (λ a. ended ≡ Ok tt)
      → IfErr results (LacksBy ended e) → WentIn dir work d.job.goal e opened after results)
      (sym is) (went_core dir opened mid after ended results later goes stand more)
