use Rattle.std.proofs.Common.{◌∙◌, ap, subst, sym}
use Rattle.std.proofs.lemmas.Result.{IfOk-weaker}
use Rattle.sc_compute.specs.Asking.{node_taken}
use Rattle.sc_compute.specs.Inputs.{HasInputs}
use Rattle.sc_compute.specs.Tasks.{target_data_of}
use Rattle.sc_jobs.specs.Plans.{IsJobFor}
use Rattle.sc_task.proofs.FetchLemmas.{handed_stay}
use Rattle.sc_task.proofs.HandingLemmas.{maps_into}
use Rattle.sc_task.proofs.InputLemmas.{task_inputs}
use Rattle.sc_task.proofs.computing.made_for.Goals as goal

pub made_to_map-requires-clause-inputs : goal.made_to_map-requires-clause-inputs
made_to_map-requires-clause-inputs g c =
    let work = c.args.work.now in
    let t = c.args.task.now in
    let is = subst (IsJobFor work) c.job.ensures
    (subst (λ w. IsJobFor w c.job.result.now) (sym c.requires.named) c.is_job.ensures) in
    subst (HasInputs work c.in_ok-stages.stages)
    (ap (node_taken work) (sym c.requires.target ∙ ap target_data_of c.in-Map.is))
    (task_inputs work t c.in_ok-stages.stages is c.is_task.ensures c.in_ok-stages.ensures.handed)

pub made_to_map-requires-clause-maps : goal.made_to_map-requires-clause-maps
made_to_map-requires-clause-maps g c =
    let t = c.args.task.now in
    maps_into c.args.work.now t.job.goal t.job.graph t.hand_out.attempt.stage
    t.hand_out.attempt.partition c.in-Map.node c.in-Map.side _
    (sym (ap target_data_of c.in-Map.is) ∙ c.requires.target)

pub prepare-requires-clause-inputs : goal.prepare-requires-clause-inputs
prepare-requires-clause-inputs g c =
    let work = c.args.work.now in
    let t = c.args.task.now in
    let is = subst (IsJobFor work) c.job.ensures
    (subst (λ w. IsJobFor w c.job.result.now) (sym c.requires.named) c.is_job.ensures) in
    subst (HasInputs work c.in_ok-stages.stages)
    (ap (node_taken work) (sym c.requires.target ∙ ap target_data_of c.in-Result.is)
    ∙ sym c.node_of.ensures)
    (task_inputs work t c.in_ok-stages.stages is c.is_task.ensures c.in_ok-stages.ensures.handed)

pub returns-in-Map-clause-handed : goal.returns-in-Map-clause-handed
returns-in-Map-clause-handed g c =
    IfOk-weaker c.made_to_map.result _ _
    (λ s same. handed_stay c.args.task.now c.args.got.now c.in_ok-stages.stages s same
    c.in_ok-stages.ensures.got)
    c.made_to_map.ensures.handed

pub returns-in_ok-prepare-in-Result-clause-handed :
    goal.returns-in_ok-prepare-in-Result-clause-handed
returns-in_ok-prepare-in-Result-clause-handed g c =
    handed_stay c.args.task.now c.args.got.now c.in_ok-stages.stages c.prepare.new.self
    c.prepare.ensures.grows.handed c.in_ok-stages.ensures.got
