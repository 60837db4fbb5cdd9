use Rattle.std.proofs.Common.{◌∙◌, ap, sym, subst}
use Rattle.sc_core.specs.CoreData.{CoreData, shelved_if}
use Rattle.sc_core.specs.Posts.{comes_twice}
use Rattle.sc_core.specs.Rooms.{IsRunningAt}
use Rattle.sc_core.proofs.TellLemmas.{running_if}
use Rattle.sc_core.proofs.states.State.post_now.Goals as goal

pub tell_at-requires-clause-runs : goal.tell_at-requires-clause-runs
tell_at-requires-clause-runs c =
    let a = c.args in
    subst (λ (x : CoreData). IsRunningAt x.running a.attempt a.place)
    (sym (c.in_ok-shelve_copy.ensures.answered
    ∙ ap (λ (x : CoreData). shelved_if (comes_twice x a.attempt) x a.attempt a.outcome 0)
    c.in_ok-make_room.ensures.same))
    (running_if (comes_twice a.self.now.0 a.attempt) a.self.now.0 a.attempt a.outcome a.place
    c.requires)
