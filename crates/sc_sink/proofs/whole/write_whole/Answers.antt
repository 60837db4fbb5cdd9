use Rattle.std.proofs.Common.{◌∙◌}
use Rattle.std.proofs.lemmas.List.{take_rest}
use Rattle.sc_sink.proofs.WriteLemmas.{left_more}
use Rattle.sc_sink.proofs.whole.write_whole.Goals as goal

pub loop-rest-preserved : goal.loop-rest-preserved
loop-rest-preserved g c =
    let wrote = c.in_ok-count.ensures.wrote in
    record {
      left = left_more _ _ _ _ _ _ c.in_ok-count.count wrote.within
          (take_rest c.loop-rest.rest.now c.in_ok-count.count)
          c.loop-rest.invariant.left wrote.taken;
      faults = wrote.faults ∙ c.loop-rest.invariant.faults;
    }
