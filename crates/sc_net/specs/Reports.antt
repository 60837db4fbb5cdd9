-- Reports, and when they are true.
use Rattle.std.specs.Prelude.{ℕ, ◌≡◌, ◌<◌, true, false, Option, Some, None, All, Contains, refl}
use Rattle.std.specs.Coded.{Coded, code_by, coded×}
use Rattle.sc_expr.specs.declared.exprs.Raise.{Raise}
use Rattle.sc_ids.specs.Failures.{HasRisen}
use Rattle.sc_ids.specs.declared.blocks.BlockId.{BlockId}
use Rattle.sc_ids.specs.declared.blocks.Loc.{Loc}
use Rattle.sc_ids.specs.declared.failures.FailureCause.TheVariants as causes
use Rattle.sc_lineage.specs.ScriptData.{WorkData}
use Rattle.sc_lineage.specs.Targets.{map_target, own_value}
use Rattle.sc_compute.specs.Results.{HandsOver}
use Rattle.sc_compute.specs.declared.results.TaskResult.{TaskResult}
use Rattle.sc_tracker.specs.declared.outputs.Location.{Location}
use Rattle.sc_tracker.specs.declared.outputs.Location.TheVariants as locations
use Rattle.sc_core.specs.declared.events.Outcome.{Outcome}
use Rattle.sc_core.specs.declared.events.Outcome.TheVariants as outcomes
use Rattle.sc_jobs.specs.JobData.{saves}
use Rattle.sc_net.specs.Tasks.{TaskData, blocks_of_task, is_map_task, is_planned, target_of_task, task_code}
use Rattle.sc_net.specs.contracts.findings.Finding.{the_row as finding_row}
use Rattle.sc_net.specs.declared.findings.Finding.{Finding}
use Rattle.sc_net.specs.declared.findings.Finding.TheVariants as findings

-- a report
pub record ReportData : Type 0 where
  -- the task that it is of
  pub task : TaskData
  -- what it says
  pub finding : Finding

abbrev pub report_data : TaskData → Finding → ReportData
report_data task finding = record { task = task; finding = finding }

-- the code of a report, by which proofs tell two of them apart
abbrev pub report_code : Coded ReportData
report_code =
    code_by (TaskData × Finding) (coded× task_code finding_row.coded)
    (λ r. (r.task, r.finding)) (λ p. report_data p.0 p.1) (λ _. refl)

-- where a block lies
abbrev pub loc_at : ℕ → ℕ → Loc
loc_at exec generation = record { exec = exec; generation = generation }

-- a task was given this for one of its inputs
abbrev pub WasGiven : TaskData → Location → Type 0
WasGiven t location = Contains t.hand_out.inputs location

-- what the map task of a block is to have computed doesn't raise
abbrev pub IsWithoutRaise : WorkData → BlockId → Type 0
IsWithoutRaise work b =
    (own_value work (map_target b.shuffle.node b.shuffle.side b.map)).raise ≡ None

-- what a task is to compute raises, and nothing that it reads does
pub record Raises (work : WorkData) (t : TaskData) (r : Raise) : Type 0 where
  pub own : (own_value work (target_of_task work t)).raise ≡ Some r
  pub inputs : All (IsWithoutRaise work) (blocks_of_task t)

-- what is handed over is the result of a task, which doesn't raise
pub record IsResultOf (work : WorkData) (t : TaskData) (given : TaskResult) : Type 0 where
  pub result : is_map_task t ≡ false
  pub own : HandsOver work (target_of_task work t) given

-- a finding is true of a task: it has its evidence
abbrev pub IsTrueReport : WorkData → TaskData → Finding → Type 0
IsTrueReport work t (findings.Map loc) = is_map_task t ≡ true
IsTrueReport work t (findings.Result given) = IsResultOf work t given
IsTrueReport work t findings.Planned = is_planned work t ≡ true
IsTrueReport work t (findings.Raised r) = Raises work t r
IsTrueReport work t (findings.Gone exec wanted found) =
    WasGiven t (locations.Here (loc_at exec wanted)) × (wanted < found)
IsTrueReport work t (findings.Metadata last) = WasGiven t (locations.Missing (Some last))
IsTrueReport work t (findings.Device fault) = HasRisen fault × (saves work t.job.goal ≡ true)
IsTrueReport work t findings.Denied = saves work t.job.goal ≡ true

-- what the scheduler is told of a finding
abbrev pub outcome_of : Finding → Outcome
outcome_of (findings.Map loc) = outcomes.Map loc
outcome_of (findings.Result given) = outcomes.Result
outcome_of findings.Planned = outcomes.Failed causes.Planned
outcome_of (findings.Raised r) = outcomes.Failed (causes.Raised r)
outcome_of (findings.Gone exec wanted found) = outcomes.Failed (causes.Gone exec wanted found)
outcome_of (findings.Metadata last) = outcomes.Failed (causes.Metadata last)
outcome_of (findings.Device fault) = outcomes.Failed (causes.Device fault)
outcome_of findings.Denied = outcomes.Failed causes.Denied

-- the result that a finding hands over
abbrev pub result_in : Finding → Option TaskResult
result_in (findings.Result given) = Some given
result_in finding = None
