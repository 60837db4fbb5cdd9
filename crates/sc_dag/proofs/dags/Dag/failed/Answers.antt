use Rattle.sc_dag.proofs.dags.Dag.failed.Goals as goal

pub returns-clause-limit : goal.returns-clause-limit
returns-clause-limit c =
    rw (← c.self.view_is) (c.fail_at.ensures.limit c.self.inside.tracker c.self.inside.limits)
