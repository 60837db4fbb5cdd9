use Rattle.sc_dag.proofs.CalmCalls.{others_go_on}
use Rattle.sc_dag.proofs.GoingOn.{failures_go_on}
use Rattle.sc_dag.proofs.Stuck.{nothing_is_stuck}
use Rattle.sc_dag.proofs.MapsGoOn.{map_successes_go_on}
use Rattle.sc_dag.proofs.ResultsGoOn.{result_successes_go_on}
use Rattle.sc_dag.proofs.laws.no_stage_is_forgotten.Goals as goal

pub returns-clause-never_stuck : goal.returns-clause-never_stuck
returns-clause-never_stuck c = nothing_is_stuck

pub returns-clause-others : goal.returns-clause-others
returns-clause-others c = others_go_on

pub returns-clause-failures : goal.returns-clause-failures
returns-clause-failures c = failures_go_on

pub returns-clause-maps : goal.returns-clause-maps
returns-clause-maps c = map_successes_go_on

pub returns-clause-results : goal.returns-clause-results
returns-clause-results c = result_successes_go_on
