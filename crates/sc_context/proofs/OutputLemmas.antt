-- What the end of a job makes of its files.
use Rattle.std.proofs.Common.{◌≡◌, ◌∙◌, inl, inr, ℕ, true, List, Option, Some, None, length, refl, sym, subst}
use Rattle.std.specs.Prelude.{IfSome, Result, Ok, Err}
use Rattle.std.proofs.lemmas.List.{length-map}
use Rattle.sc_base.specs.Outside.{FilesState, IsLaterFiles}
use Rattle.sc_base.specs.Trees.{Path, Tree}
use Rattle.sc_base.specs.Saves.{IsApart, saved_tree}
use Rattle.sc_base.specs.declared.refusals.OrMemory.{OrMemory}
use Rattle.sc_base.specs.declared.refusals.OrMemory.TheVariants.{Fault, OutOfMemory}
use Rattle.sc_base.proofs.ChangeLemmas.{changes-after, changes-none, if_some-weaker}
use Rattle.sc_ids.specs.declared.attempts.AttemptId.{AttemptId}
use Rattle.sc_value.specs.Printing.{printed_lines}
use Rattle.sc_lineage.specs.Actions.{local_results}
use Rattle.sc_lineage.specs.Saves.{dir_of_action}
use Rattle.sc_lineage.specs.ScriptData.{ActionData, WorkData, collect_action, count_action, reduce_action, save_action}
use Rattle.sc_lineage.specs.declared.streams.Stream.{Stream}
use Rattle.sc_compute.proofs.OutcomeLemmas.{length-results}
use Rattle.sc_output.specs.Calls.{Call, MakesCalls}
use Rattle.sc_output.specs.Commits.{AreCommitted, abort_calls, commit_calls}
use Rattle.sc_output.specs.Saved.{IsUnderWay}
use Rattle.sc_staging.specs.Done.{HasFiles}
use Rattle.sc_staging.specs.Laws as staging
use Rattle.sc_staging.specs.Laws.{CommitSaves, StaysUnderWay}
use Rattle.sc_staging.specs.Outputs.{GoesOnIn}
use Rattle.sc_commit.specs.declared.committers.Committer.{Committer}
use Rattle.sc_core.specs.CoreData.{CoreData}
use Rattle.sc_core.specs.Posts.{is_save}
use Rattle.sc_core.specs.declared.answers.JobState.{JobState}
use Rattle.sc_core.specs.declared.answers.JobState.TheVariants as jobs
use Rattle.sc_jobs.specs.JobData.{goal_action, is_saving, saves}
use Rattle.sc_jobs.specs.JobLaws.{JobsGiveResults}
use Rattle.sc_jobs.specs.Plans.{IsJobFor}
use Rattle.sc_desk.specs.DeskData.{DeskData, core_of}
use Rattle.sc_desk.specs.Files.{AreWinners, FilesGoOn, FilesStand, HasReplay, deeds_of, part_texts}
use Rattle.sc_desk.specs.Sound.{IsSoundDesk}
use Rattle.sc_context.specs.Files.{IsEnding, IsOfNoFiles}
use Rattle.sc_context.specs.Outputs.{CanCommit, EndsSave, FailsAtEnd, HaveWinners, LacksBy, LacksResults, MakesAtEnd, MakesCommit}
use Rattle.sc_context.specs.declared.stops.JobFault.{JobFault}
use Rattle.sc_context.specs.declared.stops.JobFault.TheVariants as faults
use Rattle.sc_context.proofs.DoneLemmas.{aborted_undone}
use Rattle.sc_context.proofs.ResultLemmas.{places_are}
use Rattle.sc_context.proofs.WinnerLemmas.{winners_there}

-- ---- what saves

-- an action that saves to a directory is a save
pub saves_to : (action : ActionData) (dir : Path) → Some dir ≡ dir_of_action action
    → is_saving action ≡ true
saves_to (save_action node other) dir is = refl
saves_to (collect_action node) dir is = absurd cc
saves_to (count_action node) dir is = absurd cc
saves_to (reduce_action node e) dir is = absurd cc

-- ---- what a job did that is over

-- A desk whose core knows by its committers whether the job saves, and the files of its job.
module _ (law : FilesGoOn) (gives : JobsGiveResults) (work : WorkData) (d : DeskData)
    (sound : IsSoundDesk work d) (replay : HasReplay d) (job : IsJobFor work d.job)
    (saving : is_save (core_of d).committers ≡ saves work d.job.goal) where
  abbrev texts : List (List ℕ)
  texts = part_texts work d.job.goal

  -- where it is done it has its winners
  done_winners : saves work d.job.goal ≡ true → (core_of d).job ≡ jobs.Done
      → HaveWinners (core_of d)
  done_winners saved done =
      winners_there d.journal.opening (core_of d) d.journal.entries sound.began sound.opened.job
      replay done (saving ∙ saved)

  -- one for each part
  as_many : (winners : List AttemptId) → HaveWinners (core_of d)
      → AreWinners (core_of d).committers winners → length winners ≡ length texts
  as_many winners have are =
      let action = goal_action work d.job.goal in
      are.0 ∙ have.places ∙ sym sound.places ∙ places_are gives work d sound job
      ∙ sym (length-results work action)
      ∙ sym (length-map (local_results work action) (λ (s : Stream). printed_lines s.rows))

  -- and can be committed
  pub can_commit : (law_of : staging.FilesStand) (dir : Option Path) (files : FilesState)
      → FilesStand work d dir files → (core_of d).job ≡ jobs.Done
      → IfSome dir (λ p. CanCommit p (core_of d) files)
  can_commit law_of None files stand done = tt
  can_commit law_of (Some dir) files stand done =
      record {
        winners = done_winners
            (saves_to (goal_action work d.job.goal) dir stand.opened_for) done;
        there = λ winners are order.
            if_some-weaker (HasFiles dir texts (deeds_of d.journal.entries))
            (AreCommitted dir winners) files.shown
            (λ t has. law_of.may_win dir texts (deeds_of d.journal.entries) winners t order
            (law.won work d winners sound replay are) has)
            stand.standing;
      }

  -- a commit that was through leaves what a save leaves
  pub commit_saved : CommitSaves → (dir : Path) (opened mid after : FilesState)
      → GoesOnIn (Some dir) opened mid → FilesStand work d (Some dir) mid
      → (core_of d).job ≡ jobs.Done
      → (m : MakesCommit dir (core_of d).committers mid after (Ok tt)) → (opening : Tree)
      → IsApart dir opening → IfSome opened.shown (IsUnderWay dir opening)
      → IfSome after.shown (λ t. t ≡ saved_tree dir texts opening)
  commit_saved law_of dir opened mid after goes stand done m opening apart under =
      law_of dir texts (deeds_of d.journal.entries) m.winners opening mid after apart m.in_order
      (as_many m.winners
      (done_winners (saves_to (goal_action work d.job.goal) dir stand.opened_for) done)
      m.are_winners)
      (law.won work d m.winners sound replay m.are_winners)
      (changes-after (StaysUnderWay dir) (IsUnderWay dir opening) (IsUnderWay dir opening)
      opened.shown mid.shown (λ t u was stays. stays opening was) under goes)
      stand.standing m.makes

-- ---- ends

-- A save that was opened, and was under way up to its end.
module _ (dir : Path) (opened mid after : FilesState) (end : CoreData)
    (later : IsLaterFiles opened mid) (goes : GoesOnIn (Some dir) opened mid) where
  pub made : (calls : List Call) (ended : Result (Unit {0}) (OrMemory Path))
      → MakesCalls calls mid after ended → MakesAtEnd dir opened after calls ended
  made calls ended makes =
      record { mid = mid; later = later; goes = goes; makes = makes }

  -- calls that end it, and why there are no results then
  calls_fail : (calls : List Call) (ended : Result (Unit {0}) (OrMemory Path))
      (why : OrMemory JobFault) → IsEnding dir calls → MakesCalls calls mid after ended
      → ((abort : _) → end.job ≡ jobs.Aborted abort → calls ≡ abort_calls dir)
      → LacksBy ended end why → FailsAtEnd dir opened after why
  calls_fail calls (Ok u) (Fault (faults.Aborted abort)) ending makes alone lacks =
      subst (λ cs. MakesAtEnd dir opened after cs (Ok u)) (alone abort lacks)
      (made calls (Ok u) makes)
  calls_fail calls (Ok u) (Fault (faults.Exists path)) ending makes alone lacks = absurd lacks
  calls_fail calls (Ok u) (Fault (faults.Device path)) ending makes alone lacks = absurd lacks
  calls_fail calls (Ok u) OutOfMemory ending makes alone lacks =
      (calls, ending, inl (made calls (Ok u) makes))
  calls_fail calls (Err (Fault path)) why ending makes alone lacks =
      subst (FailsAtEnd dir opened after) (sym lacks)
      (calls, ending, made calls (Err (Fault path)) makes)
  calls_fail calls (Err OutOfMemory) why ending makes alone lacks =
      subst (FailsAtEnd dir opened after) (sym lacks)
      (calls, ending, inr (made calls (Err OutOfMemory) makes))

  -- no call was made, since memory ran out
  none_fails : (why : OrMemory JobFault) → after ≡ mid → why ≡ OutOfMemory
      → FailsAtEnd dir opened after why
  none_fails why same none =
      subst (FailsAtEnd dir opened after) (sym none) (
        abort_calls dir,
        inl refl,
        inr (made (abort_calls dir) (Err OutOfMemory)
            (subst (λ s. MakesCalls (abort_calls dir) mid s (Err OutOfMemory)) (sym same) (
              record { faults = refl; clashes = refl },
              changes-none _ mid.shown (λ t. inl refl),
            ))),
      )

  running_fails : (why : OrMemory JobFault) → end.job ≡ jobs.Running → after ≡ mid
      → LacksResults end why → FailsAtEnd dir opened after why
  running_fails (Fault (faults.Aborted abort)) runs same lacks = absurd cc
  running_fails (Fault (faults.Exists path)) runs same lacks = absurd lacks
  running_fails (Fault (faults.Device path)) runs same lacks = absurd lacks
  running_fails OutOfMemory runs same lacks = none_fails OutOfMemory same refl

  -- so a save without results failed
  pub save_fails : (committers : List Committer) (job : JobState)
      (ended : Result (Unit {0}) (OrMemory Path)) (why : OrMemory JobFault) → end.job ≡ job
      → EndsSave dir committers job mid after ended → LacksBy ended end why
      → FailsAtEnd dir opened after why
  save_fails committers jobs.Done ended why is (inl m) lacks =
      calls_fail (commit_calls dir m.winners) ended why (inr (m.winners, refl)) m.makes
      (λ abort aborted. absurd (aborted_undone end.job abort aborted is)) lacks
  save_fails committers jobs.Done ended why is (inr (same, none)) lacks =
      none_fails why same (subst (λ r. LacksBy r end why) none lacks)
  save_fails committers (jobs.Aborted abort) ended why is makes lacks =
      calls_fail (abort_calls dir) ended why (inl refl) makes (λ other aborted. refl) lacks
  save_fails committers jobs.Running ended why is (same, done) lacks =
      running_fails why is same (subst (λ r. LacksBy r end why) done lacks)

-- a job that saves nothing fails by no call on its files
pub lacks_none : (end : CoreData) (why : OrMemory JobFault) → LacksResults end why → IsOfNoFiles why
lacks_none end (Fault (faults.Aborted abort)) lacks = tt
lacks_none end (Fault (faults.Exists path)) lacks = absurd lacks
lacks_none end (Fault (faults.Device path)) lacks = absurd lacks
lacks_none end OutOfMemory lacks = tt

-- what is left by a save that is done and was committed
pub save_commits : (committers : List Committer) (dir : Path) (mid after : FilesState)
    (job : JobState) (ended : Result (Unit {0}) (OrMemory Path)) → job ≡ jobs.Done
    → ended ≡ Ok tt → EndsSave dir committers job mid after ended
    → MakesCommit dir committers mid after (Ok tt)
save_commits committers dir mid after jobs.Done ended done ok (inl m) =
    subst (MakesCommit dir committers mid after) ok m
save_commits committers dir mid after jobs.Done ended done ok (inr (same, none)) =
    absurd cc
save_commits committers dir mid after (jobs.Aborted abort) ended done ok ends = absurd cc
save_commits committers dir mid after jobs.Running ended done ok ends = absurd cc
