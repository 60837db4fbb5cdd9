use Rattle.std.proofs.Common.{◌∙◌, refl}
use Rattle.sc_context.proofs.RunningLemmas.{logged_alone}
use Rattle.sc_context.proofs.running.run_renewed.Goals as goal

pub returns-in-Ok : goal.returns-in-Ok
returns-in-Ok g c =
    record {
      runs = (
        c.in-Ok.ensures.went,
        c.in-Ok.ensures.counted,
        c.in-Ok.ensures.drivers,
        logged_alone c.in-Ok.alone.went.history c.new.result.items c.new.ensures.items
            c.in-Ok.ensures.drivers,
        refl,
      );
    }

pub returns-in-Err : goal.returns-in-Err
returns-in-Err g c = record { runs = (refl, refl, c.close.ensures ∙ c.in-Err.ensures.back) }
