use Rattle.std.proofs.Common.{◌≡◌, false, subst, sym, ◌∙◌}
use Rattle.sc_dag.specs.Reports.{has_failed_often}
use Rattle.sc_dag.specs.Submission.{IsSubmitted, this_stage}
use Rattle.sc_dag.proofs.dags.Dag.stage_failed.Goals as goal

pub returns : goal.returns
returns c =
    let stage = c.args.stage in
    subst (λ d. (has_failed_often d stage ≡ false)
    × IsSubmitted d (this_stage stage) c.submit_all.new.self.0)
    c.change.ensures.state
    (sym c.has_failed_often.ensures ∙ c.if-has_failed_often.false, c.submit_all.ensures)
