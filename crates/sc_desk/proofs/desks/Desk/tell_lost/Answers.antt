use Rattle.std.proofs.Common.{◌≡◌, refl, subst}
use Rattle.sc_core.specs.Sound.{IsSoundCore}
use Rattle.sc_desk.specs.DeskData.{desk_data}
use Rattle.sc_desk.specs.Shelves.{shelf_in}
use Rattle.sc_desk.proofs.ReleaseLemmas.{lost_keeps}
use Rattle.sc_desk.proofs.desks.Desk.tell_lost.Goals as goal

pub invariant_of-self : goal.invariant_of-self
invariant_of-self g c =
    let d = desk_data c.self.inside.job c.self.inside.carried c.self.inside.journal.0
    c.self.inside.results.items c.self.inside.shelf.items c.self.inside.ordered in
    let after = desk_data c.self.inside.job c.self.inside.carried c.enter.new.self.0
    c.self.inside.results.items c.clear_after_end.new.shelf.items c.self.inside.ordered in
    lost_keeps g.W.Naming.work d after c.args.by c.args.exec c.in-Ok.answer c.self.invariant
    (subst IsSoundCore c.core.ensures c.is_sound.ensures) c.is_replay.ensures
    (record {
      step = c.in-Ok.ensures.step;
      entries = c.in-Ok.ensures.entry;
      opening = c.in-Ok.ensures.opening;
      job = refl;
      carried = refl;
      ordered = refl;
    })
    refl
    (subst (λ core. c.clear_after_end.new.shelf.items ≡ shelf_in core c.self.inside.shelf.items)
    c.core-in-Ok.ensures c.clear_after_end.ensures)
