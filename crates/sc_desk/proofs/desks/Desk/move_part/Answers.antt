use Rattle.std.proofs.Common.{refl, subst, sym}
use Rattle.sc_core.specs.Sound.{IsSoundCore}
use Rattle.sc_core.specs.declared.events.SideEvent.TheVariants.{Move}
use Rattle.sc_desk.specs.Sound.{HasFailedFor}
use Rattle.sc_staging.specs.Parts.{part_rename}
use Rattle.sc_desk.specs.DeskData.{desk_data}
use Rattle.sc_desk.proofs.AsideLemmas.{aside_keeps, ended_evident}
use Rattle.sc_desk.proofs.desks.Desk.move_part.Goals as goal

pub invariant_of-self-2 : goal.invariant_of-self-2
invariant_of-self-2 g c =
    let d = desk_data c.self.inside.job c.self.inside.carried c.self.inside.journal.0
    c.self.inside.results.items c.self.inside.shelf.items c.self.inside.ordered in
    let after = desk_data c.self.inside.job c.self.inside.carried
    c.enter_aside-answer.new.journal.0 c.self.inside.results.items
    c.enter_aside-answer.new.shelf.items c.self.inside.ordered in
    aside_keeps g.W.Naming.work d after c.args.by (Move c.args.attempt c.told_of-renamed.result)
    c.enter_aside-answer.result
    c.reserve.new.self.0 c.reserve.ensures.same c.self.invariant
    (subst IsSoundCore c.core-2.ensures c.is_sound.ensures) c.is_replay.ensures
    c.enter_aside-answer.ensures.step c.enter_aside-answer.ensures.entry
    c.enter_aside-answer.ensures.opening refl refl refl
    (subst HasFailedFor (sym c.told_of-renamed.ensures)
    (ended_evident (part_rename c.args.staging.now.dir c.args.attempt)
    c.args.staging.now.files c.rename_part.new.self.files c.in_ok-rename_part.field-0
    c.in_ok-rename_part.ensures.ends)) refl
    c.enter_aside-answer.ensures.shelf
