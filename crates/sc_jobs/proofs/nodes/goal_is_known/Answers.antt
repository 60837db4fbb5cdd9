use Rattle.sc_jobs.proofs.NodeLemmas.{goal_known}
use Rattle.sc_jobs.proofs.nodes.goal_is_known.Goals as goal

pub returns : goal.returns
returns c = goal_known c.args.work.now c.args.goal c.is_sound.ensures.script c.requires
