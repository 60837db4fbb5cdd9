use Rattle.sc_dag.proofs.dags.Dag.submit_all.Goals as goal

pub returns : goal.returns
returns c = rw (← c.self.view_is) c.submit.ensures.submitted
