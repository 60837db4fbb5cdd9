use Rattle.std.proofs.Common.{drop, take, All}
use Rattle.std.specs.List.{flat_map}
use Rattle.sc_compute.specs.Inputs.{IsUnmade}
use Rattle.sc_compute.specs.Stages.{AreRight}
use Rattle.sc_jobs.specs.JobData.{blocks_left, stage_in}
use Rattle.sc_task.specs.Handing.{IsHandedBy}
use Rattle.sc_task.specs.States.{AreOf}
use Rattle.sc_task.proofs.computing.handed.Given as goal

-- what was read is left of the stages that are left, and was handed in for the others
abbrev pub invariant-loop-parent : goal.invariant-loop-parent
invariant-loop-parent g l = record {
  right : AreRight l.work l.stages;
  unmade : IsUnmade l.stages;
  handed : All (IsHandedBy l.task.job.graph l.stages) (take l.parent-index l.parent-items);
  left : AreOf l.work (flat_map (λ id. blocks_left (stage_in l.task.job.graph id))
      (drop l.parent-index l.parent-items)) l.rest;
}
