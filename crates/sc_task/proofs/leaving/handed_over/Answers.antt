use Rattle.std.proofs.Common.{◌∙◌, ap}
use Rattle.sc_lineage.specs.Views.{action_data_of}
use Rattle.sc_jobs.specs.JobData.{JobData, goal_action}
use Rattle.sc_task.proofs.LeavingLemmas.{hands_over}
use Rattle.sc_task.proofs.leaving.handed_over.Goals as goal

pub returns : goal.returns
returns g c =
    let work = g.W.Naming.work in
    hands_over work c.args.task.now (action_data_of c.action.result.now) c.args.rows c.of.result
    c.requires.result c.requires.own
    (c.action.ensures ∙ ap (λ (j : JobData). goal_action work j.goal) c.job.ensures)
    c.of.ensures
