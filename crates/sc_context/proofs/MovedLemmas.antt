-- An attempt of a save that has moved its part wins its partition, once its success is told.
use Rattle.std.proofs.Common.{◌≡◌, ◌∙◌, ℕ, ◌||◌, Bool, true, false, if◌then◌else◌, not, List, [], is_some, length, true≢false, refl, ap, sym, subst}
use Rattle.sc_ids.specs.declared.attempts.AttemptId.{AttemptId}
use Rattle.sc_commit.specs.CommitFacts.{IsSoundCommit}
use Rattle.sc_commit.specs.CommitLaws.{winner_of}
use Rattle.sc_commit.specs.Committers.{committer_at}
use Rattle.sc_commit.specs.Committing.{after_end, holds}
use Rattle.sc_commit.specs.declared.committers.Committer.{Committer}
use Rattle.sc_commit.specs.declared.committers.Ending.TheVariants.{Succeeded}
use Rattle.sc_commit.specs.Committing as commit
use Rattle.sc_taskset.proofs.FindLemmas.{found_is}
use Rattle.sc_dag.specs.DagData.{DagData, stage_at}
use Rattle.sc_dag.specs.Outputs.{is_done}
use Rattle.sc_dag.specs.Reports.{after_hold, after_result_success}
use Rattle.sc_dag.specs.Submission.{is_map}
use Rattle.sc_dag.proofs.CalmCalls.{others_go_on}
use Rattle.sc_dag.proofs.SoundCalls.{calls_keep_sound}
use Rattle.sc_dag.proofs.Tests.{both_right}
use Rattle.sc_core.specs.CoreData.{CoreData, is_of, job_runs, result_stage, taken_off}
use Rattle.sc_core.specs.HandOuts.{HandOutData}
use Rattle.sc_core.specs.Posts.{has_moved, is_save}
use Rattle.sc_core.specs.Sound.{IsAsFar, IsSoundCore, IsSoundJob, IsSoundSave, SavesWell, has_grant}
use Rattle.sc_core.specs.Tells.{released, with_result_of}
use Rattle.sc_core.specs.declared.answers.Answer.{Answer}
use Rattle.sc_core.specs.declared.events.Event.{Event}
use Rattle.sc_core.specs.declared.events.Outcome.TheVariants as outcomes
use Rattle.sc_core.specs.declared.running.Phase.{Phase}
use Rattle.sc_core.specs.declared.running.Phase.TheVariants as phases
use Rattle.sc_core.specs.declared.running.Running.{Running}
use Rattle.sc_core.proofs.LeftLemmas.{same_saves}
use Rattle.sc_core.proofs.ResultLemmas.{Frees, frees}
use Rattle.sc_core.proofs.SaveLemmas.{SavesBut}
use Rattle.sc_core.proofs.SaveResultLemmas.{won_saves}
use Rattle.sc_core.proofs.SaveTellLemmas.{calm_saves, rest_of}
use Rattle.sc_core.proofs.TakeLemmas.{calm_sound}
use Rattle.sc_history.proofs.Events.{IsKnown}

-- each winner is of its own partition, and a partition has one exactly where it has its result
pub record AreWon (ks : List Committer) (d : DagData) : Type 0 where
  pub commit : IsSoundCommit ks
  pub places : length ks ≡ (stage_at d (result_stage d)).tasks
  pub won : (p : ℕ) → is_some (winner_of ks p) ≡ is_done d (result_stage d) p

moved_is : (phase : Phase) → has_moved phase ≡ true → phase ≡ phases.Moved
moved_is phases.Moved e = refl
moved_is phases.Given e = absurd (true≢false (sym e))
moved_is phases.Staged e = absurd (true≢false (sym e))
moved_is phases.Granted e = absurd (true≢false (sym e))
moved_is phases.Denied e = absurd (true≢false (sym e))
moved_is (phases.Faulted fault) e = absurd (true≢false (sym e))

never_given : (phase : Phase) → phase ≡ phases.Moved → phase ≡ phases.Given → ⊥
never_given phase moved given =
    true≢false (ap has_moved (sym moved ∙ given))

-- what stands once an attempt of a partition has succeeded
abbrev pub WonWith : List Committer → DagData → ℕ → AttemptId → Type 0
WonWith ks d now a =
    AreWon (after_end ks a Succeeded)
    (after_result_success
    (if holds a (committer_at ks a.partition) then after_hold d a.stage a.partition false else d)
    a now)

-- An attempt of a save that has moved its part, and has succeeded.
module _ (c : CoreData) (event : Event) (answer : Answer) (r : Running) (now : ℕ)
    (sound : IsSoundCore c) (runs : job_runs c ≡ true) (saves : is_save c.committers ≡ true)
    (known : IsKnown c event answer r outcomes.Result) where
  save : IsSoundSave c
  save = sound.save runs

  abbrev a : AttemptId
  a = r.hand_out.attempt

  moved : r.phase ≡ phases.Moved
  moved =
      moved_is r.phase
      (drop (is_save c.committers) saves
      (both_right (not (is_map (stage_at c.dag r.hand_out.attempt.stage).target))
      (not (is_save c.committers) || has_moved r.phase) known.fit))
    where
      drop : (b : Bool) → b ≡ true → (not b || has_moved r.phase) ≡ true
          → has_moved r.phase ≡ true
      drop true e h = h
      drop false e h = absurd (true≢false (sym e))

  ran_moved : known.ran.phase ≡ phases.Moved
  ran_moved = sym known.phase ∙ moved

  well : SavesWell c known.ran
  well =
      found_is (SavesWell c) (is_of known.ran.hand_out.attempt) c.running known.ran save.phases
      known.found

  same : known.ran.hand_out.attempt ≡ r.hand_out.attempt
  same = ap (λ (h : HandOutData). h.attempt) known.hand

  stage : r.hand_out.attempt.stage ≡ result_stage c.dag
  stage =
      ap (λ (b : AttemptId). b.stage) (sym same)
      ∙ (well.saver (λ given. never_given known.ran.phase ran_moved given)).1

  has : has_grant c r.hand_out.attempt ≡ true
  has =
      subst (λ (b : AttemptId). has_grant c b ≡ true) same
      (subst (λ phase. IsAsFar phase (has_grant c known.ran.hand_out.attempt)) ran_moved well.far)

  abbrev at : CoreData
  at = record c { now = now }

  at_job : IsSoundJob at
  at_job =
      calm_sound c at sound.job refl refl refl sound.job.goes_on sound.job.done

  at_save : IsSoundSave at
  at_save = calm_saves c at sound.job refl refl refl save

  frees_all : Frees at.dag (released (taken_off at a) a Succeeded).dag
  frees_all = frees calls_keep_sound others_go_on (taken_off at a) a Succeeded

  won_but : SavesBut [] (rest_of a at) (with_result_of (released (taken_off at a) a Succeeded) a)
  won_but =
      won_saves at a r.exec at_job at_save known.in_set stage has (frees_all.sound at_job.dag)
      (frees_all.calm.runners a ∙ known.in_set)

  still : is_save (after_end c.committers a Succeeded) ≡ true
  still = same_saves c.committers a.partition (commit.ended a Succeeded) ∙ saves

  pub told_won : WonWith c.committers c.dag now r.hand_out.attempt
  told_won =
      record { commit = won_but.commit; places = won_but.places still; won = won_but.won still }
