-- What an attempt hands over, and what it reports in place of that.
use Rattle.std.proofs.Common.{◌≡◌, ◌∙◌, ℕ, Bool, true, false, List, [], ◌∷◌, Option, Some, None, All, true≢false, refl, ap, sym, subst}
use Rattle.std.proofs.lemmas.List.Elements.{All-cons, All-nil}
use Rattle.sc_value.specs.Datum.{Datum}
use Rattle.sc_ids.specs.Graphs.{StageData}
use Rattle.sc_ids.specs.declared.blocks.BlockId.{BlockId}
use Rattle.sc_ids.specs.declared.blocks.Target.{Target}
use Rattle.sc_ids.specs.declared.blocks.Target.TheVariants as targets
use Rattle.sc_lineage.specs.ScriptData.{ActionData, WorkData}
use Rattle.sc_lineage.specs.Streams.{whole_stream}
use Rattle.sc_lineage.specs.Targets.{own_value, result_target}
use Rattle.sc_lineage.specs.declared.streams.Stream.{Stream}
use Rattle.sc_dag.specs.Submission.{is_map}
use Rattle.sc_compute.specs.Results.{HandsOver, result_by, result_for}
use Rattle.sc_compute.specs.declared.results.TaskResult.{TaskResult}
use Rattle.sc_jobs.specs.JobData.{goal_action, stage_in, target_among, target_by}
use Rattle.sc_jobs.specs.declared.goals.Goal.{Goal}
use Rattle.sc_net.specs.Reports.{IsWithoutRaise, ReportData, report_data}
use Rattle.sc_net.specs.Tasks.{TaskData, is_map_stage, is_map_task, is_planned, target_of_task}
use Rattle.sc_net.specs.declared.findings.Finding.TheVariants as findings
use Rattle.sc_task.specs.States.{AreOf}
use Rattle.sc_task.specs.Steps.{FailsAs}

-- ---- what it hands over

-- a task that is none of a map stage is to compute a result
result_among : (work : WorkData) (goal : Goal) (o : Option StageData) (p : ℕ)
    → is_map_stage o ≡ false
    → target_among work goal o p ≡ result_target (goal_action work goal) p
result_among work goal None p kind = refl
result_among work goal (Some stage) p kind = by stage.target kind
  where
    by : (target : Target) → is_map target ≡ false
        → target_by work goal target p ≡ result_target (goal_action work goal) p
    by (targets.Map shuffle) k = absurd (true≢false k)
    by (targets.Result node) k = refl

-- what the action of its job takes of the rows is what it hands over
pub hands_over : (work : WorkData) (t : TaskData) (action : ActionData) (rows : List Datum)
    (given : TaskResult) → is_map_task t ≡ false
    → own_value work (target_of_task work t) ≡ whole_stream rows
    → action ≡ goal_action work t.job.goal → given ≡ result_by action rows
    → HandsOver work (target_of_task work t) given
hands_over work t action rows given kind own same is =
    let a = t.hand_out.attempt in
    record {
      rows = rows;
      own = own;
      told = is
          ∙ ap (λ x. result_by x rows) same
          ∙ ap (λ x. result_for x rows)
          (sym (result_among work t.job.goal (stage_in t.job.graph a.stage) a.partition kind));
    }

-- ---- what it reports else

-- nothing that was read raises
pub read_whole : (work : WorkData) (blocks : List BlockId) (got : List (List (List Datum)))
    → AreOf work blocks got → All (IsWithoutRaise work) blocks
read_whole work [] [] are = All-nil (IsWithoutRaise work)
read_whole work [] (output ∷ got) are = absurd are
read_whole work (block ∷ blocks) [] are = absurd are
read_whole work (block ∷ blocks) (output ∷ got) are =
    All-cons (IsWithoutRaise work) block blocks (ap (λ (s : Stream). s.raise) are.0.own)
    (read_whole work blocks got are.1)

-- a planned failure is reported
pub planned_did : (work : WorkData) (t s : TaskData) (report : ReportData) (planned : Bool)
    → report ≡ report_data s findings.Planned → s ≡ t → planned ≡ is_planned work s
    → planned ≡ true → (report.task ≡ t) × FailsAs work t report.finding
planned_did work t s report planned is same tells holds = (
  ap (λ (r : ReportData). r.task) is ∙ same,
  subst (λ (r : ReportData). FailsAs work t r.finding) (sym is)
      (ap (is_planned work) (sym same) ∙ sym tells ∙ holds),
)
