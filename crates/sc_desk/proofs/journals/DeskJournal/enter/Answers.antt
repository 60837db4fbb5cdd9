use Rattle.std.proofs.Common.{ℕ, ◌<◌, subst, sym}
use Rattle.sc_core.specs.Journals.{JournalData}
use Rattle.sc_core.specs.declared.answers.Answer.{Answer}
use Rattle.sc_desk.proofs.JournalLemmas.{room_entered}
use Rattle.sc_desk.proofs.journals.DeskJournal.enter.Goals as goal

pub invariant_of-self : goal.invariant_of-self
invariant_of-self c =
    room_entered (λ (a : Answer). a) c.enter.result c.self.inside.journal.0 c.enter.new.self.0
    c.self.inside.left.items c.self.inside.journal.1 c.enter.new.self.1 c.args.by c.args.event
    c.self.invariant c.requires.stays c.enter.ensures.entry c.enter.ensures.unchanged
    c.enter.ensures.opening
    (subst (λ (v : JournalData × ℕ). 0 < v.1) (sym c.self.view_is) c.in_ok-reserve.ensures.room)
    c.enter.ensures.room
