use Rattle.std.proofs.Common.{◌≡◌, ◌∙◌, None, sym}
use Rattle.sc_taskset.proofs.FindLemmas.{none_placed}
use Rattle.sc_core.specs.CoreData.{is_of, running_of}
use Rattle.sc_core.proofs.PlaceLemmas.{place_found}
use Rattle.sc_core.proofs.TellLemmas.{unknown_posted}
use Rattle.sc_core.proofs.states.State.post.Goals as goal

pub post_running-requires : goal.post_running-requires
post_running-requires c =
    let i = c.self.inside in
    rw (← c.self.view_is)
    (place_found i.running.items c.args.attempt c.in-Some.place
    (rw (← c.self.view_is) at c.requires)
    (sym c.in-Some.is ∙ (rw c.deref.ensures.value at c.place_of.ensures)))

pub returns-in-None-clause-answered : goal.returns-in-None-clause-answered
returns-in-None-clause-answered c =
    let now = c.args.self.now.0 in
    let none : running_of now c.args.attempt ≡ None =
    rw (← c.self.view_is)
    (none_placed (is_of c.args.attempt) c.self.inside.running.items
    (sym c.in-None.is ∙ (rw c.deref.ensures.value at c.place_of.ensures))) in
    unknown_posted now c.args.attempt c.args.outcome c.plain-in-None.result.answer
    c.count.new.self.0 (sym c.runs.ensures ∙ c.if-not-runs.false) none
    c.plain-in-None.ensures.answer c.count.ensures
