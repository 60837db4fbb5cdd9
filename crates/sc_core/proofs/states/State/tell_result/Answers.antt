use Rattle.std.proofs.Common.{◌≡◌, ◌∙◌, ap, false, not, sym}
use Rattle.sc_dag.specs.Reports.{is_repeat}
use Rattle.sc_core.proofs.TellLemmas.{result_told}
use Rattle.sc_core.proofs.states.State.tell_result.Goals as goal

pub returns-clause-tells : goal.returns-clause-tells
returns-clause-tells c =
    let fresh : is_repeat c.args.self.now.0.dag c.attempt-attempt.result ≡ false =
    rw (← c.self.view_is)
    (ap not (sym (rw c.dag.ensures at c.wants.ensures) ∙ c.if-not-wants.false)) in
    result_told c.args.self.now.0 c.args.running.now c.attempt-attempt.result
    c.release.new.self.0 c.put_result-2.new.self.0 c.end_if_complete.new.self.0
    c.attempt-attempt.ensures fresh c.release.ensures.state c.put_result-2.ensures
    c.end_if_complete.ensures
