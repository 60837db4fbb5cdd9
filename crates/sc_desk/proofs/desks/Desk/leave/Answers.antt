use Rattle.std.proofs.Common.{◌≡◌, ◌∙◌, true, refl, subst, sym}
use Rattle.sc_ids.specs.declared.attempts.Mark.TheVariants.{Exec}
use Rattle.sc_core.specs.Sound.{IsSoundCore}
use Rattle.sc_core.specs.declared.events.SideEvent.TheVariants.{Leave}
use Rattle.sc_desk.specs.Asides.{Leaves}
use Rattle.sc_desk.specs.DeskData.{DeskData, desk_data}
use Rattle.sc_desk.specs.Shelves.{shelf_in}
use Rattle.sc_desk.proofs.LeaveLemmas.{left_notes}
use Rattle.sc_desk.proofs.ReleaseLemmas.{noted_keeps}
use Rattle.sc_desk.proofs.desks.Desk.leave.Goals as goal

pub invariant_of-self : goal.invariant_of-self
invariant_of-self g c =
    let d = desk_data c.self.inside.job c.self.inside.carried c.self.inside.journal.0
    c.self.inside.results.items c.self.inside.shelf.items c.self.inside.ordered in
    let after = desk_data c.self.inside.job c.self.inside.carried c.leave.new.self.0
    c.self.inside.results.items c.clear_after_end.new.shelf.items c.self.inside.ordered in
    noted_keeps g.W.Naming.work d after (Exec c.args.exec) (Leave c.args.exec) c.leave.result
    c.self.invariant (subst IsSoundCore c.core.ensures c.is_sound.ensures) c.is_replay.ensures
    (record {
      step = c.leave.ensures.step;
      entries = c.leave.ensures.entry;
      opening = c.leave.ensures.opening;
      job = refl;
      carried = refl;
      ordered = refl;
    })
    tt refl
    (subst (λ core. c.clear_after_end.new.shelf.items ≡ shelf_in core c.self.inside.shelf.items)
    c.core-2.ensures c.clear_after_end.ensures)

pub returns : goal.returns
returns g c =
    let d = desk_data c.self.inside.job c.self.inside.carried c.self.inside.journal.0
    c.self.inside.results.items c.self.inside.shelf.items c.self.inside.ordered in
    let after = desk_data c.self.inside.job c.self.inside.carried c.leave.new.self.0
    c.self.inside.results.items c.clear_after_end.new.shelf.items c.self.inside.ordered in
    subst (λ (x : DeskData). Leaves x c.args.exec true after) c.self.view_is (
      sym c.has_left.ensures ∙ c.if-has_left.false,
      left_notes d after c.args.exec c.leave.result
          (record {
            step = c.leave.ensures.step;
            entries = c.leave.ensures.entry;
            opening = c.leave.ensures.opening;
            job = refl;
            carried = refl;
            ordered = refl;
          })
          refl
          (subst (λ core. c.clear_after_end.new.shelf.items
          ≡ shelf_in core c.self.inside.shelf.items) c.core-2.ensures c.clear_after_end.ensures),
    )
