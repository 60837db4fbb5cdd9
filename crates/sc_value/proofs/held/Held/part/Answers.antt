use Rattle.std.specs.Arc.{arc_value}
use Rattle.sc_value.proofs.SpanLemmas.{slice_range-slice_range}
use Rattle.sc_value.proofs.held.Held.part.Goals as goal

pub returns : goal.returns
returns g c =
    rw c.in_ok-try_clone.ensures
    (slice_range-slice_range (arc_value c.self.inside.shared).items c.args.self.now
    c.self.inside.first c.self.inside.end c.args.from c.args.to c.self.view_is
    c.self.invariant.0 c.self.invariant.1 c.requires.ordered c.requires.within)
