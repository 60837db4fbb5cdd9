use Rattle.sc_dag.specs.Reports.{after_map_success}
use Rattle.sc_core.proofs.TellLemmas.{follows_up}
use Rattle.sc_core.proofs.stages.Stages.map_success.Goals as goal

pub returns-in-Registered : goal.returns-in-Registered
returns-in-Registered c =
    let a = c.args in
    record {
      answer = c.register-success.ensures.answer;
      state =
          follows_up c.register-success.result
          (after_map_success a.self.now.0 a.attempt a.loc a.epoch a.now) a.attempt.stage
          c.look_again.new.self.0 c.in-Registered.is
          (rw (← c.register-success.ensures.state) c.look_again.ensures);
    }
