use Rattle.std.proofs.Common.{◌≡◌, refl, subst}
use Rattle.sc_core.proofs.LawLemmas.{steps_keep_sound}
use Rattle.sc_core.specs.Sound.{IsSoundCore}
use Rattle.sc_core.specs.declared.events.Event.TheVariants.{Take}
use Rattle.sc_desk.specs.DeskData.{DeskData, desk_data}
use Rattle.sc_desk.specs.Shelves.{shelf_in}
use Rattle.sc_desk.specs.Takes.{WaitsForOthers}
use Rattle.sc_desk.proofs.ReleaseLemmas.{taken_keeps}
use Rattle.sc_desk.proofs.TaskLemmas.{givable}
use Rattle.sc_desk.proofs.WaitLemmas.{waits_for_others}
use Rattle.sc_desk.proofs.desks.Desk.take_logged.Goals as goal

pub told-requires : goal.told-requires
told-requires g c =
    let sound : IsSoundCore c.self.inside.journal.0.core =
    subst IsSoundCore c.core.ensures c.is_sound.ensures in
    let before = c.self.inside.journal.0.core in
    let after = c.enter_logged.new.self.0.core in
    rw c.in_ok-job.ensures
    (givable c.self.inside.job before after c.args.exec c.in-Ok.entered.answer
    c.self.invariant.stages
    (steps_keep_sound before after (Take c.args.exec) c.in-Ok.entered.answer sound
    c.in-Ok.ensures.step) c.in-Ok.ensures.step)

pub returns-in-Ok-clause-waits : goal.returns-in-Ok-clause-waits
returns-in-Ok-clause-waits g c =
    let d = desk_data c.self.inside.job c.self.inside.carried c.self.inside.journal.0
    c.self.inside.results.items c.self.inside.shelf.items c.self.inside.ordered in
    subst (λ (x : DeskData). WaitsForOthers x c.args.exec c.told.result) c.self.view_is
    (waits_for_others c.in_ok-job.job d c.enter_logged.new.self.0.core c.args.exec c.told.result
    c.in-Ok.entered.answer (subst IsSoundCore c.core.ensures c.is_sound.ensures)
    c.in-Ok.ensures.step c.told.ensures)

pub invariant_of-self : goal.invariant_of-self
invariant_of-self g c =
    let d = desk_data c.self.inside.job c.self.inside.carried c.self.inside.journal.0
    c.self.inside.results.items c.self.inside.shelf.items c.self.inside.ordered in
    let after = desk_data c.self.inside.job c.self.inside.carried c.enter_logged.new.self.0
    c.self.inside.results.items c.clear_after_end.new.shelf.items c.self.inside.ordered in
    taken_keeps g.W.Naming.work d after c.args.by c.args.exec c.in-Ok.entered.answer
    c.self.invariant (subst IsSoundCore c.core.ensures c.is_sound.ensures) c.is_replay.ensures
    (record {
      step = c.in-Ok.ensures.step;
      entries = c.in-Ok.ensures.entry;
      opening = c.in-Ok.ensures.opening;
      job = refl;
      carried = refl;
      ordered = refl;
    })
    refl
    (subst (λ core. c.clear_after_end.new.shelf.items ≡ shelf_in core c.self.inside.shelf.items)
    c.core-in-Ok.ensures c.clear_after_end.ensures)
