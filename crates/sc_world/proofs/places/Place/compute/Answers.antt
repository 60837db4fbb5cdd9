use Rattle.std.proofs.Common.{Some, ap, sym, ◌∙◌}
use Rattle.std.specs.Option.{option_map}
use Rattle.sc_task.specs.Attempts.{attempt_data_of}
use Rattle.sc_world.proofs.CodeGo.{computes_at}
use Rattle.sc_world.proofs.places.Place.compute.Goals as goal

pub returns-in-Ok-clause-computes : goal.returns-in-Ok-clause-computes
returns-in-Ok-clause-computes g c =
    computes_at g.W.Naming.work c.args.self.now c.in-Assigned.state.task c.in-Assigned.state.got
    (attempt_data_of c.in-Ok.next) c.in-Ok.kept c.args.store.now c.compute_next.new.store
    (sym c.self.view_is
    ∙ ap (option_map attempt_data_of)
    (sym c.take.ensures.value ∙ c.in-Some.is ∙ ap Some c.in-Assigned.is))
    c.requires.computes c.in-Ok.ensures.makes c.in-Ok.ensures.caches
