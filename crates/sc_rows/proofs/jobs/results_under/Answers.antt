use Rattle.sc_rows.proofs.JobLemmas.{results_alone_fits, results_alone_job}
use Rattle.sc_rows.proofs.jobs.results_under.Goals as goal

pub begun-requires-clause-job : goal.begun-requires-clause-job
begun-requires-clause-job g c =
    rw c.results_alone-graph.ensures (results_alone_job c.args.tasks c.requires)

pub begun-requires-clause-fits : goal.begun-requires-clause-fits
begun-requires-clause-fits g c =
    rw c.results_alone-graph.ensures (results_alone_fits c.args.limits c.args.tasks)
