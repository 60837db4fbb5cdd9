use Rattle.std.proofs.Common.{ℕ, ◌<◌, subst, sym}
use Rattle.sc_core.specs.Journals.{JournalData}
use Rattle.sc_core.specs.declared.journals.Entered.{Entered}
use Rattle.sc_desk.proofs.JournalLemmas.{room_entered}
use Rattle.sc_desk.proofs.journals.DeskJournal.enter_logged.Goals as goal

pub invariant_of-self : goal.invariant_of-self
invariant_of-self c =
    room_entered (λ (e : Entered). e.answer) c.enter_logged.result c.self.inside.journal.0
    c.enter_logged.new.self.0 c.self.inside.left.items c.self.inside.journal.1
    c.enter_logged.new.self.1 c.args.by c.args.event c.self.invariant c.requires.stays
    c.enter_logged.ensures.entry c.enter_logged.ensures.unchanged c.enter_logged.ensures.opening
    (subst (λ (v : JournalData × ℕ). 0 < v.1) (sym c.self.view_is) c.in_ok-reserve.ensures.room)
    c.enter_logged.ensures.room
