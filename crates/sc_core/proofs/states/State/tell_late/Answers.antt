use Rattle.std.proofs.Common.{◌≡◌, ◌∙◌, None, sym}
use Rattle.sc_taskset.proofs.FindLemmas.{none_placed}
use Rattle.sc_core.specs.CoreData.{is_of, running_of}
use Rattle.sc_core.proofs.PlaceLemmas.{place_found}
use Rattle.sc_core.proofs.TellLemmas.{unknown_told}
use Rattle.sc_core.proofs.states.State.tell_late.Goals as goal

pub tell_at-requires-clause-runs : goal.tell_at-requires-clause-runs
tell_at-requires-clause-runs c =
    let i = c.self.inside in
    rw (← c.self.view_is)
    (place_found i.running.items c.args.report.attempt c.in-Some.place
    (rw (← c.self.view_is) at c.requires.apart)
    (sym c.in-Some.is ∙ (rw c.deref.ensures.value at c.place_of.ensures)))

pub returns-in-None-clause-tells : goal.returns-in-None-clause-tells
returns-in-None-clause-tells c =
    let now = c.args.self.now.0 in
    let none : running_of now c.args.report.attempt ≡ None =
    rw (← c.self.view_is)
    (none_placed (is_of c.args.report.attempt) c.self.inside.running.items
    (sym c.in-None.is ∙ (rw c.deref.ensures.value at c.place_of.ensures))) in
    unknown_told now c.args.report.attempt c.args.report.outcome c.count.new.self.0 none
    c.count.ensures
