-- What holds of a world holds on, once an executor has asked for a task.
use Rattle.std.proofs.Common.{◌≡◌, ℕ, ◌<◌, All, Bool, true, false, if◌then◌else◌, Option, Some, None, IfSome, find, length, nat_lt, option_map, refl, ap, sym, subst, ◌∙◌, arith, rules, true≢false}
use Rattle.std.proofs.lemmas.Bool.Decides.{nat_tests}
use Rattle.sc_ids.specs.Changes.{change_at}
use Rattle.sc_ids.specs.declared.attempts.AttemptId.{AttemptId}
use Rattle.sc_taskset.proofs.FindLemmas.{found_is, found_passes}
use Rattle.sc_commit.specs.Committing.{is_same}
use Rattle.sc_dag.specs.DagData.{DagData}
use Rattle.sc_dag.specs.Offers.{handed_out, newest_number}
use Rattle.sc_dag.specs.Openings.{AreNumbered}
use Rattle.sc_dag.specs.Sound.{runner_of}
use Rattle.sc_dag.proofs.Tests.{clash}
use Rattle.sc_core.specs.CoreData.{CoreData, ended, held_by, is_of, is_out_on, job_runs, running_of}
use Rattle.sc_core.specs.HandOuts.{HandOutData}
use Rattle.sc_core.specs.Sound.{IsSoundCore, RunsWell, given_among, given_in, was_given}
use Rattle.sc_core.specs.Takes.{Takes as CoreTakes}
use Rattle.sc_core.specs.Takes.{IsAsking, IsHandOut, with_task}
use Rattle.sc_core.specs.declared.answers.Abort.TheVariants as aborts
use Rattle.sc_core.specs.declared.answers.Answer.{Answer}
use Rattle.sc_core.specs.declared.answers.Answer.TheVariants as says
use Rattle.sc_core.specs.declared.answers.JobState.TheVariants as jobs
use Rattle.sc_core.specs.declared.running.Running.{Running}
use Rattle.sc_core.proofs.LookupLemmas.{is_itself, same_is, set_of_newest}
use Rattle.sc_core.proofs.MoveLemmas.{Moves}
use Rattle.sc_core.proofs.OfferLemmas.{IsOffered, handed_out_moves, offered, offered_new}
use Rattle.sc_core.proofs.ShelfLemmas.{runs_given}
use Rattle.sc_lineage.specs.ScriptData.{WorkData}
use Rattle.sc_net.specs.Reports.{ReportData}
use Rattle.sc_net.specs.Tasks.{task_data}
use Rattle.sc_net.specs.declared.shelved.ShelvedReport.{ShelvedReport}
use Rattle.sc_task.specs.Attempts.{AttemptData, assigned, task_of}
use Rattle.sc_desk.specs.DeskData.{DeskData, core_of}
use Rattle.sc_world.specs.Sound.{IsSoundWorld, Says}
use Rattle.sc_world.specs.Steps.{Takes, given_to}
use Rattle.sc_world.specs.WorldData.{WorldData, core_in, held_at, with_desk, with_held}
use Rattle.sc_world.proofs.InputLemmas.{given_stand}
use Rattle.sc_world.proofs.BehindLemmas.{IsBehind, ended_behind, itself_behind}
use Rattle.sc_world.proofs.LeaveLemmas.{same_sound, kept_sound, placed_sound, shelf_all, was_out}
use Rattle.sc_world.proofs.OutLemmas.{AreOut, more_out}

-- ---- what is handed out

-- what is handed out wasn't before
offered_fresh : (d : DagData) (exec now : ℕ) (a : AttemptId) → IsOffered d exec now a
    → a.stage_attempt ≡ newest_number d a.stage → was_given d a ≡ false
offered_fresh d exec now a o number =
    ap (λ s. given_in s a) (set_of_newest d a number ∙ o.newest)
    ∙ ap (λ t. given_among t a.nth) o.is_task
    ∙ ap (λ (n : ℕ). nat_lt n o.task.given) o.nth ∙ itself o.task.given
  where
    itself : (n : ℕ) → nat_lt n n ≡ false
    itself n = grind (arith, nat_tests)

-- and doesn't run yet
new_attempt : (c : CoreData) (exec : ℕ) (h : HandOutData) → IsSoundCore c → IsHandOut c exec h
    → running_of c h.attempt ≡ None
new_attempt c exec h sound out = by (running_of c h.attempt) refl
  where
    fresh : runner_of c.dag h.attempt ≡ None
    fresh =
        offered_new c.dag exec c.now h.attempt
        (offered c.dag exec c.now h.attempt sound.job.dag out.offer) out.offer.newest

    by : (o : Option Running) → running_of c h.attempt ≡ o → o ≡ None
    by None e = refl
    by (Some r) e =
        let well : RunsWell c r =
        found_is (RunsWell c) (is_of h.attempt) c.running r sound.job.running e in
        let same : r.hand_out.attempt ≡ h.attempt =
        same_is r.hand_out.attempt h.attempt (found_passes (is_of h.attempt) c.running r e) in
        absurd (search (
          rules,
          well.in_set,
          subst (λ a. runner_of c.dag a ≡ None) (sym same) fresh,
        ))

-- nothing is out on an executor that may ask
none_out : (c : CoreData) (exec : ℕ) → held_by c exec ≡ None
    → find (is_out_on exec) c.running ≡ None
none_out c exec free = by (find (is_out_on exec) c.running) refl free
  where
    by : (o : Option Running) → find (is_out_on exec) c.running ≡ o
        → option_map (λ r. r.hand_out.attempt) o ≡ None → o ≡ None
    by None e h = refl
    by (Some r) e h = absurd (search (rules, h))

-- ---- a task

pub task_sound : (work : WorkData) (w : WorldData) (exec : ℕ) (h : HandOutData) (desk : DeskData)
    → IsSoundWorld work w → IsSoundCore (core_in w) → IsSoundCore (core_of desk)
    → AreNumbered w.desk.job.graph (core_in w).dag.stages
    → IsAsking (core_in w) exec → IsHandOut (core_in w) exec h
    → core_of desk ≡ with_task (core_in w) exec h → desk.job ≡ w.desk.job
    → All (λ s. Says w.stores s.report.task s.report.finding) desk.shelf → exec < length w.held
    → IsSoundWorld work
    (with_held (with_desk w desk) exec (Some (assigned (task_data w.desk.job h) 0)))
task_sound work w exec h desk sound core later numbered asks out is job shelved place =
    placed_sound work w desk exec (Some new) sound
    (record {
      job = job;
      behind = subst (λ c. IsBehind w c) (sym is) behind;
      shelved = shelved;
    })
    (record {
      of_job = refl;
      given = subst (λ (c : CoreData). was_given c.dag h.attempt ≡ true) (sym is) given;
      right = record { inputs = given_stand w exec h core out numbered sound.tied; brings = tt };
      rests = tt;
    })
    (λ r. subst (λ (c : CoreData). AreOut work (change_at w.held exec (λ _. Some new)) c.running)
    (sym is)
    (more_out work w.held exec new c.running place (λ s. refl) (new_attempt c exec h core out)
    (none_out c exec asks.free) (λ e. other (held_at w e) (sound.given e))
    (was_out work w sound asks.runs)))
  where
    c : CoreData
    c = core_in w

    new : AttemptData
    new = assigned (task_data w.desk.job h) 0

    o : IsOffered (core_in w).dag exec (core_in w).now h.attempt
    o = offered (core_in w).dag exec (core_in w).now h.attempt core.job.dag out.offer

    moves : Moves (is_same h.attempt) (Some exec) (core_in w).dag
        (handed_out (core_in w).dag h.attempt exec (core_in w).now)
    moves = handed_out_moves c.dag exec c.now h.attempt o out.offer.newest

    behind : IsBehind w (with_task (core_in w) exec h)
    behind =
        record {
          told = omega arith;
          stages = refl;
          tied = sound.tied;
          given = moves.given;
          saves = refl;
          stays = sound.stays;
        }

    given : was_given (with_task (core_in w) exec h).dag h.attempt ≡ true
    given =
        runs_given (with_task c exec h).dag h.attempt exec (subst IsSoundCore is later).job.dag
        (moves.runners h.attempt
        ∙ ap (λ b. if b then Some exec else runner_of c.dag h.attempt) (is_itself h.attempt))

    other : (held : Option AttemptData)
        → IfSome held (λ a. was_given (core_in w).dag (task_of a).hand_out.attempt ≡ true)
        → IfSome held (λ a. is_same h.attempt (task_of a).hand_out.attempt ≡ false)
    other None g = tt
    other (Some a) g = by (is_same h.attempt (task_of a).hand_out.attempt) refl
      where
        by : (b : Bool) → is_same h.attempt (task_of a).hand_out.attempt ≡ b
            → is_same h.attempt (task_of a).hand_out.attempt ≡ false
        by false e = e
        by true e =
            absurd (clash g
            (subst (λ n. was_given c.dag n ≡ false)
            (same_is h.attempt (task_of a).hand_out.attempt e)
            (offered_fresh c.dag exec c.now h.attempt o out.offer.newest)))

-- ---- any answer

pub takes_sound : (work : WorkData) (w : WorldData) (exec : ℕ) (answer : Answer)
    (after : WorldData) → IsSoundWorld work w → IsSoundCore (core_in w)
    → AreNumbered w.desk.job.graph (core_in w).dag.stages → exec < length w.held
    → (takes : Takes w exec answer after) → IsSoundCore (core_of takes.desk)
    → IsSoundWorld work after
takes_sound work w exec answer after sound core numbered place takes later =
    subst (IsSoundWorld work) (sym takes.is) (by answer takes.enters.step)
  where
    c : CoreData
    c = core_in w

    desk : DeskData
    desk = takes.desk

    Right : ShelvedReport ReportData → Type 0
    Right s = Says w.stores s.report.task s.report.finding

    shelved : All (λ s. Says w.stores s.report.task s.report.finding) takes.desk.shelf
    shelved =
        subst (λ shelf. All Right shelf) (sym takes.shelf)
        (shelf_all Right (core_of takes.desk) w.desk.shelf sound.shelved)

    -- the job ends
    ends : core_of takes.desk ≡ ended (core_in w) (jobs.Aborted aborts.Budget)
        → IsSoundWorld work (with_desk w takes.desk)
    ends is =
        kept_sound work w desk sound
        (record {
          job = takes.enters.job;
          behind = subst (λ x. IsBehind w x) (sym is)
              (ended_behind w c (jobs.Aborted aborts.Budget) (itself_behind work w sound));
          shelved = shelved;
        })
        (subst (λ (x : CoreData). job_runs x ≡ true → AreOut work w.held x.running) (sym is)
        (λ r. absurd (true≢false (sym r))))

    same : core_of takes.desk ≡ core_in w → IsSoundWorld work (with_desk w takes.desk)
    same is = same_sound work w desk sound is takes.enters.job shelved

    by : (answer : Answer) → CoreTakes (core_in w) exec answer (core_of takes.desk)
        → IsSoundWorld work (given_to w exec takes.desk answer)
    by (says.Task h) (asks, out, below, is) =
        task_sound work w exec h takes.desk sound core later numbered asks out is
        takes.enters.job shelved place
    by (says.Aborted aborts.Budget) (a, asks, o, above, is) = ends is
    by says.Ended (e, is) = same is
    by (says.Stopped first) (e, f, is) = same is
    by says.Lost (e, f, g, is) = same is
    by (says.Busy held) (e, f, g, h, is) = same is
    by (says.Wait out) (e, f, g, is) = same is
    by (says.Aborted (aborts.TaskLimit s k p)) bad = absurd bad
    by (says.Aborted (aborts.StageLimit s)) bad = absurd bad
    by (says.Aborted aborts.NoExecutor) bad = absurd bad
    by says.Ignored bad = absurd bad
    by says.Repeated bad = absurd bad
    by says.Registered bad = absurd bad
    by says.Bogus bad = absurd bad
    by says.Finished bad = absurd bad
    by says.Again bad = absurd bad
    by says.Resubmitted bad = absurd bad
    by says.Shelved bad = absurd bad
    by says.Told bad = absurd bad
    by (says.Side said) bad = absurd bad
