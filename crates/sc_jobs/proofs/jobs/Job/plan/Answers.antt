use Rattle.std.proofs.Common.{◌≡◌, ◌∙◌, ap, subst, sym}
use Rattle.sc_lineage.specs.ScriptData.{collect_action}
use Rattle.sc_lineage.specs.Views.{action_data_of}
use Rattle.sc_stagecut.specs.Carrying.{CarriedData, IsCarriedFor, after_job}
use Rattle.sc_jobs.specs.JobData.{goal_node, job_data}
use Rattle.sc_jobs.specs.Plans.{IsJobFor, KnowsBounds}
use Rattle.sc_jobs.specs.declared.jobs.Plan.{Plan}
use Rattle.sc_jobs.proofs.KnownLemmas.{holds}
use Rattle.sc_jobs.proofs.jobs.Job.plan.Goals as goal

pub invariant_of-result : goal.invariant_of-result
invariant_of-result g c =
    let work = g.W.Naming.work in
    let Holds : Plan → Type 0 = λ p.
    IsJobFor work (job_data p.goal p.graph) × KnowsBounds work p.graph p.bounds.items
    × (action_data_of p.collect ≡ collect_action (goal_node work p.goal)) in
    subst Holds (sym c.in_ok-plan.ensures.ok)
    (holds work c.get-work.result.now c.script.result.now c.args.carried.now c.args.goal
    c.goal_node-node.result c.in_ok-graph.graph c.in_ok-bounds.bounds.items
    (c.get-work.ensures ∙ c.is_named.ensures) c.script.ensures c.goal_node-node.ensures
    c.is_sound.ensures.script c.requires.goal c.requires.carried c.requires.bounds
    c.requires.right c.in_ok-graph.ensures c.in_ok-bounds.ensures).0

pub returns-clause-carried_on : goal.returns-clause-carried_on
returns-clause-carried_on g c =
    let Carries : CarriedData → Type 0 = λ x. IsCarriedFor g.W.Naming.work.script.nodes x in
    let kept = c.in_ok-keep.ensures.kept
    ∙ ap (λ (p : Plan). after_job c.args.carried.now p.graph)
    (c.deref.ensures ∙ c.in_ok-plan.ensures.ok) in
    subst Carries (sym kept)
    (holds g.W.Naming.work c.get-work.result.now c.script.result.now c.args.carried.now
    c.args.goal c.goal_node-node.result c.in_ok-graph.graph c.in_ok-bounds.bounds.items
    (c.get-work.ensures ∙ c.is_named.ensures) c.script.ensures c.goal_node-node.ensures
    c.is_sound.ensures.script c.requires.goal c.requires.carried c.requires.bounds
    c.requires.right c.in_ok-graph.ensures c.in_ok-bounds.ensures).1
