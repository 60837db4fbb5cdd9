-- What holds of every core holds once a map success was told.
use Rattle.std.proofs.Common.{◌≡◌, ℕ, ◌==◌, Bool, true, false, if◌then◌else◌, Some, None, refl, ap, sym, subst, ◌∙◌, arith, rules}
use Rattle.std.proofs.lemmas.Bool.Decides.{nat_tests}
use Rattle.sc_ids.specs.declared.attempts.AttemptId.{AttemptId}
use Rattle.sc_ids.specs.declared.blocks.Loc.{Loc}
use Rattle.sc_ids.specs.declared.failures.FailureCause.TheVariants as causes
use Rattle.sc_commit.specs.Committing.{is_same}
use Rattle.sc_tracker.specs.Tracking.{is_bogus}
use Rattle.sc_dag.specs.DagData.{DagData, stage_at}
use Rattle.sc_dag.specs.Laws.{CallsKeepSound, MapSuccessesGoOn, OthersGoOn}
use Rattle.sc_dag.specs.Laws as dag
use Rattle.sc_dag.specs.Outputs.{is_complete}
use Rattle.sc_dag.specs.Reports.{after_map_success, ended_in_own, is_finished_short, is_repeat, map_success_of, succeeded_in_both, succeeded_in_own, with_output}
use Rattle.sc_dag.specs.Settled.{IsSettled}
use Rattle.sc_dag.specs.Sound.{IsSoundDag, runner_of}
use Rattle.sc_dag.specs.Submission.{is_map, this_stage}
use Rattle.sc_dag.specs.declared.reports.Success.{Success}
use Rattle.sc_dag.specs.declared.reports.Success.TheVariants as successes
use Rattle.sc_dag.proofs.Tests.{both_left, both_right, clash}
use Rattle.sc_core.specs.CoreData.{CoreData, is_running_job, job_runs, taken_off, with_dag}
use Rattle.sc_core.specs.Posts.{fits}
use Rattle.sc_core.specs.Sound.{IsLive, IsSoundJob, RunsWell}
use Rattle.sc_core.specs.Tells.{FollowsUp, LooksAgain, TellsMap}
use Rattle.sc_core.specs.declared.answers.Answer.{Answer}
use Rattle.sc_core.specs.declared.events.Outcome.TheVariants as outcomes
use Rattle.sc_core.specs.declared.running.Running.{Running}
use Rattle.sc_core.proofs.StageCallLemmas.{completes_calm, completes_results, submitted_calm, submitted_results}
use Rattle.sc_core.proofs.TaskCallLemmas.{map_moves, map_results}
use Rattle.sc_core.proofs.MoveLemmas.{Calm, SameResults, moves_then, results_then, still}
use Rattle.sc_core.proofs.ToldLemmas.{goes_same, told_sound}
use Rattle.sc_core.proofs.CarryLemmas.{Carries, carries_same, carries_then}
use Rattle.sc_core.proofs.CallCarryLemmas.{completes_carries, map_carries, submitted_carries}

-- an attempt that ends and changes nothing else is one whose failure doesn't count
pub ends_go_on : OthersGoOn → (d : DagData) (a : AttemptId) → IsSoundDag d → IsSettled d
    → dag.GoesOn d (ended_in_own d a)
ends_go_on others d a sound settled = (others d sound settled).1 a causes.Denied

-- what follows a map success
record Follows (d mid after : DagData) : Type 0 where
  calm : Calm mid after
  carries : Carries mid after
  results : SameResults mid after
  sound : IsSoundDag after
  goes : IsSettled d → dag.GoesOn d after

follows :
    CallsKeepSound → MapSuccessesGoOn → OthersGoOn → (d after : DagData) (a : AttemptId) (loc : Loc)
    (epoch now : ℕ) → IsSoundDag d → is_map (stage_at d a.stage).target ≡ true
    → runner_of d a ≡ Some loc.exec
    → FollowsUp (map_success_of d a loc epoch) (after_map_success d a loc epoch now) a.stage after
    → Follows d (after_map_success d a loc epoch now) after
follows calls maps others d after a loc epoch now sound kind runs up =
    by (map_success_of d a loc epoch) refl up
  where
    mid : DagData
    mid = after_map_success d a loc epoch now

    mid_sound : IsSoundDag mid
    mid_sound = (calls d sound).2 a loc epoch now kind runs

    -- a repeated success ends the attempt alone
    repeated : map_success_of d a loc epoch ≡ successes.Repeated → mid ≡ ended_in_own d a
    repeated e = one (is_repeat d a) (is_bogus d.tracker loc epoch) e
      where
        one : (x y : Bool)
            → (if x then successes.Repeated
            else if y then successes.Bogus else successes.Registered) ≡ successes.Repeated
            → (if x then ended_in_own d a else if y then succeeded_in_own d a now
            else succeeded_in_both (with_output d a loc) a now) ≡ ended_in_own d a
        one true y h = refl
        one false true h = absurd (search (rules, h))
        one false false h = absurd (search (rules, h))

    looks : (x y : Bool) → is_complete mid a.stage ≡ x → is_finished_short mid a.stage ≡ y
        → LooksAgain x y mid a.stage after → Follows d mid after
    looks true y e f is =
        record {
          calm = completes_calm mid a.stage after is;
          carries = completes_carries mid a.stage after is;
          results = completes_results mid a.stage after is;
          sound = (calls mid mid_sound).6 a.stage after is;
          goes = λ s. (maps d a loc epoch now after sound s kind runs).0 e is;
        }
    looks false true e f is =
        record {
          calm = submitted_calm mid after (this_stage a.stage) is;
          carries = submitted_carries mid after (this_stage a.stage) is;
          results = submitted_results mid after (this_stage a.stage) is;
          sound = (calls mid mid_sound).0 (this_stage a.stage) after is;
          goes = λ s. (maps d a loc epoch now after sound s kind runs).1 f is;
        }
    looks false false e f is =
        subst (λ x. Follows d mid x) (sym is)
        (record {
          calm = still mid;
          carries = carries_same mid;
          results = λ s. refl;
          sound = mid_sound;
          goes = λ s. (maps d a loc epoch now after sound s kind runs).2 e f;
        })

    by : (s : Success) → map_success_of d a loc epoch ≡ s → FollowsUp s mid a.stage after
        → Follows d mid after
    by successes.Repeated e is =
        subst (λ x. Follows d mid x) (sym is)
        (record {
          calm = still mid;
          carries = carries_same mid;
          results = λ s. refl;
          sound = mid_sound;
          goes = λ s. subst (λ x. dag.GoesOn d x) (sym (repeated e))
              (ends_go_on others d a sound s);
        })
    by successes.Registered e is =
        looks (is_complete mid a.stage) (is_finished_short mid a.stage) refl refl is
    by successes.Bogus e is =
        looks (is_complete mid a.stage) (is_finished_short mid a.stage) refl refl is
    by successes.Finished e is =
        looks (is_complete mid a.stage) (is_finished_short mid a.stage) refl refl is

pub map_keeps :
    CallsKeepSound → MapSuccessesGoOn → OthersGoOn → (c after : CoreData) (r : Running)
    (loc : Loc) (answer : Answer) → IsSoundJob c → job_runs c ≡ true → RunsWell c r
    → fits c r (outcomes.Map loc) ≡ true
    → TellsMap (taken_off c r.hand_out.attempt) r loc answer after → IsSoundJob after
map_keeps calls maps others c after r loc answer sound job well fit (next, up, says, is) =
    let kind : is_map (stage_at c.dag a.stage).target ≡ true =
    both_left (is_map (stage_at c.dag r.hand_out.attempt.stage).target) (loc.exec == r.exec) fit in
    let on : (loc.exec == r.exec) ≡ true =
    both_right (is_map (stage_at c.dag r.hand_out.attempt.stage).target) (loc.exec == r.exec) fit in
    let exec : loc.exec ≡ r.exec = grind (arith, nat_tests, on) in
    let runs : runner_of c.dag a ≡ Some loc.exec =
    well.in_set ∙ ap (λ (e : ℕ). Some e) (sym exec) in
    let f =
    follows calls maps others c.dag next a loc r.hand_out.epoch c.now sound.dag kind runs up in
    subst IsSoundJob (sym is)
    (told_sound c (with_dag (taken_off c a) next) a sound
    (moves_then (is_same a) None c.dag mid next
    (map_moves c.dag a loc r.hand_out.epoch c.now) f.calm)
    (carries_then c.dag mid next
    (map_carries c.dag a loc r.hand_out.epoch c.now sound.dag kind runs
    (subst (IsLive c.dag.tracker) (sym exec)
    (record { there = well.there; live = well.live }))) f.carries)
    refl refl f.sound
    (λ h. goes_same c (with_dag (taken_off c a) next) sound (sound.goes_on job)
    (f.calm.stages ∙ (map_moves c.dag a loc r.hand_out.epoch c.now).stages)
    (results_then c.dag mid next (map_results c.dag a loc r.hand_out.epoch c.now) f.results)
    (f.goes (sound.goes_on job).settled))
    (λ e. absurd (clash job (ap is_running_job e))))
  where
    a : AttemptId
    a = r.hand_out.attempt

    mid : DagData
    mid = after_map_success c.dag r.hand_out.attempt loc r.hand_out.epoch c.now
