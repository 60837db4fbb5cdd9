use Rattle.std.proofs.Common.{◌≡◌, ◌∙◌, ap, refl, subst}
use Rattle.sc_core.specs.Sound.{IsSoundCore}
use Rattle.sc_desk.specs.DeskData.{desk_data}
use Rattle.sc_desk.specs.Shelves.{shelf_in}
use Rattle.sc_desk.specs.Tellings.{results_with}
use Rattle.sc_desk.proofs.ReleaseLemmas.{desk_rises, released_keeps}
use Rattle.sc_desk.proofs.desks.Desk.release.Goals as goal

pub take_off-requires : goal.take_off-requires
take_off-requires g c =
    record {
      rising =
          desk_rises g.W.Naming.work
          (desk_data c.self.inside.job c.self.inside.carried c.self.inside.journal.0
          c.self.inside.results.items c.self.inside.shelf.items c.self.inside.ordered)
          c.self.invariant (subst IsSoundCore c.core.ensures c.is_sound.ensures);
    }

pub invariant_of-self : goal.invariant_of-self
invariant_of-self g c =
    let d = desk_data c.self.inside.job c.self.inside.carried c.self.inside.journal.0
    c.self.inside.results.items c.self.inside.shelf.items c.self.inside.ordered in
    let after = desk_data c.self.inside.job c.self.inside.carried c.enter.new.self.0
    c.keep_late.new.results.items c.clear_after_end.new.shelf.items c.self.inside.ordered in
    released_keeps g.W.Naming.work d after c.args.by c.args.key c.in-Ok.answer c.self.invariant
    (subst IsSoundCore c.core.ensures c.is_sound.ensures) c.is_replay.ensures
    (record {
      step = c.in-Ok.ensures.step;
      entries = c.in-Ok.ensures.entry;
      opening = c.in-Ok.ensures.opening;
      job = refl;
      carried = refl;
      ordered = refl;
    })
    (c.keep_late.ensures
    ∙ ap (λ o. results_with c.self.inside.results.items o c.in-Ok.answer)
    c.take_off.ensures.report)
    (subst (λ core. c.clear_after_end.new.shelf.items ≡ shelf_in core c.take_off.new.shelf.items)
    c.core-in-Ok.ensures c.clear_after_end.ensures
    ∙ ap (λ ss. shelf_in c.enter.new.self.0.core ss) c.take_off.ensures.shelf)
