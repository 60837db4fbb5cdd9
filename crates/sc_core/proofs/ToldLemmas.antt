-- What holds of every core holds once a report was told, if its stages go on.
use Rattle.std.proofs.Common.{◌≡◌, ◌≢◌, ℕ, ◌-◌, not, All, Bool, true, false, cond, if◌then◌else◌, List, [], ◌∷◌, length, Some, None, slice_get, refl, ap, sym, subst, ◌∙◌, arith, rules, true≢false, ◌<◌}
use Rattle.std.specs.List.{AllPairs, filter, list_all}
use Rattle.std.proofs.lemmas.List.Elements.{All-cons, All-head, All-tail}
use Rattle.std.proofs.lemmas.List.Kept.{AllPairs-filter}
use Rattle.sc_base.specs.Lists.{at_or, numbers_below}
use Rattle.sc_ids.specs.Graphs.{StageData}
use Rattle.sc_ids.specs.declared.attempts.AttemptId.{AttemptId}
use Rattle.sc_ids.specs.declared.blocks.Target.{Target}
use Rattle.sc_ids.specs.declared.blocks.Target.TheVariants as targets
use Rattle.sc_commit.specs.Committing.{is_same}
use Rattle.sc_tracker.specs.TrackerData.{TrackerData}
use Rattle.sc_dag.specs.DagData.{DagData, no_stage, stage_at}
use Rattle.sc_dag.specs.Laws as dag
use Rattle.sc_dag.specs.Outputs.{is_complete, is_complete_by, is_done_by, results_in}
use Rattle.sc_dag.specs.Settled.{IsSettled, IsUnderWay}
use Rattle.sc_dag.specs.Sound.{IsSoundDag, runner_of}
use Rattle.sc_dag.specs.Submission.{is_map}
use Rattle.sc_core.specs.CoreData.{CoreData, is_of, job_runs, result_stage, running_of}
use Rattle.sc_core.specs.Sound.{AreTwo, GoesOn, IsSoundJob, RunsWell}
use Rattle.sc_core.specs.declared.answers.JobState.TheVariants as jobs
use Rattle.sc_core.specs.declared.running.Running.{Running}
use Rattle.sc_core.proofs.MoveLemmas.{Moves, SameResults}
use Rattle.sc_core.proofs.RunningLemmas.{found_beside, same_sym}
use Rattle.sc_core.proofs.CarryLemmas.{Carries, handed_still}

-- a stage of results is complete by its results alone
pub complete_by_results :
    (t u : TrackerData) (stage : StageData) (results : List Bool) → is_map stage.target ≡ false
    → is_complete_by t stage results ≡ is_complete_by u stage results
complete_by_results t u stage results kind = by stage.target kind
  where
    by : (target : Target) → is_map target ≡ false
        → list_all (is_done_by t target results) (numbers_below stage.tasks)
        ≡ list_all (is_done_by u target results) (numbers_below stage.tasks)
    by (targets.Map shuffle) e = absurd (true≢false e)
    by (targets.Result node) e = refl

pub complete_same :
    (d after : DagData) (s : ℕ) → after.stages ≡ d.stages
    → results_in (slice_get after.states s) ≡ results_in (slice_get d.states s)
    → is_map (stage_at d s).target ≡ false → is_complete after s ≡ is_complete d s
complete_same d after s stages results kind =
    ap (λ rs. is_complete_by after.tracker (stage_at after s) rs) results
    ∙ ap (λ (stages : List StageData). is_complete_by after.tracker (at_or stages s no_stage)
    (results_in (slice_get d.states s))) stages
    ∙ complete_by_results after.tracker d.tracker (stage_at d s)
    (results_in (slice_get d.states s)) kind

-- a stage of results that is under way is still, where no result is won
pub under_kept :
    (d after : DagData) (r : ℕ) → after.stages ≡ d.stages → SameResults d after
    → is_map (stage_at d r).target ≡ false → dag.GoesOn d after → IsUnderWay d r
    → IsUnderWay after r
under_kept d after r stages results kind on under =
    let lacks : is_complete after r ≡ false =
    complete_same d after r stages (results r) kind ∙ under.0 in
    (lacks, on.1 r under lacks)

-- a job whose result stage is under way goes on
pub goes_with :
    (c after : CoreData) → after.dag.stages ≡ c.dag.stages → IsSettled after.dag
    → IsUnderWay after.dag (result_stage c.dag) → GoesOn after
goes_with c after stages settled under =
    record {
      settled = settled;
      result = subst (λ (s : ℕ). IsUnderWay after.dag s)
          (ap (λ (all : List StageData). length all - 1) (sym stages)) under;
    }

-- where no result is won, it does
pub goes_same :
    (c after : CoreData) → IsSoundJob c → GoesOn c → after.dag.stages ≡ c.dag.stages
    → SameResults c.dag after.dag → dag.GoesOn c.dag after.dag → GoesOn after
goes_same c after sound goes stages results on =
    goes_with c after stages on.0
    (under_kept c.dag after.dag (result_stage c.dag) stages results sound.result on goes.result)

-- what is left of a core is sound, once an attempt's report is told
pub told_sound :
    (c after : CoreData) (a : AttemptId) → IsSoundJob c → Moves (is_same a) None c.dag after.dag
    → Carries c.dag after.dag → after.running ≡ filter (λ r. not (is_of a r)) c.running
    → after.handed ≡ c.handed → IsSoundDag after.dag → (job_runs after ≡ true → GoesOn after)
    → (after.job ≡ jobs.Done → is_complete after.dag (result_stage after.dag) ≡ true)
    → IsSoundJob after
told_sound c after a sound moves carries running handed dag_sound goes done =
    record {
      dag = dag_sound;
      result = rw moves.stages sound.result;
      maps = rw moves.stages sound.maps;
      running = subst (λ rs. All (RunsWell after) rs) (sym running) left;
      known = λ b exec h. known b exec (is_same a b) refl (sym (moves.runners b) ∙ h);
      placed = carries.placed sound.placed;
      apart = subst (λ rs. AllPairs AreTwo rs) (sym running)
          (AllPairs-filter AreTwo (λ r. not (is_of a r)) c.running sound.apart);
      budget = rw (handed, moves.limits) sound.budget;
      goes_on = goes;
      done = done;
    }
  where
    rest : List Running
    rest = filter (λ r. not (is_of a r)) c.running

    runs : (r : Running) → is_of a r ≡ false → RunsWell c r → RunsWell after r
    runs r other well =
        record {
          in_set = moves.runners r.hand_out.attempt
              ∙ (rw (same_sym a r.hand_out.attempt, other) well.in_set);
          there = subst (λ n. r.exec < n) (sym carries.many) well.there;
          live = moves.lost r.exec ∙ well.live;
          handed_out = handed_still c.dag after.dag r.hand_out carries well.handed_out;
        }

    left_in : (rs : List Running) → All (RunsWell c) rs
        → All (RunsWell after) (filter (λ r. not (is_of a r)) rs)
    left_in [] all = λ i r l. absurd (omega (arith, l))
    left_in (r ∷ rs) all = by (is_of a r) refl (left_in rs (All-tail (RunsWell c) r rs all))
      where
        by : (x : Bool) → is_of a r ≡ x
            → All (RunsWell after) (filter (λ q. not (is_of a q)) rs)
            → All (RunsWell after) (cond (not x) (r ∷ filter (λ q. not (is_of a q)) rs)
            (filter (λ q. not (is_of a q)) rs))
        by true e h = h
        by false e h =
            All-cons (RunsWell after) r (filter (λ q. not (is_of a q)) rs)
            (runs r e (All-head (RunsWell c) r rs all)) h

    left : All (RunsWell after) (filter (λ r. not (is_of a r)) c.running)
    left = left_in c.running sound.running

    known : (b : AttemptId) (exec : ℕ) (x : Bool) → is_same a b ≡ x
        → (if x then None else runner_of c.dag b) ≡ Some exec → running_of after b ≢ None
    known b exec true e h = absurd (search (rules, h))
    known b exec false e h =
        rw (running, found_beside a b c.running e) (sound.known b exec h)
