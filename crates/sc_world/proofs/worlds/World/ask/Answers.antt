use Rattle.std.proofs.Common.{◌≡◌, List, Option, None, subst, sym}
use Rattle.sc_base.specs.Lists.{at_or}
use Rattle.sc_task.specs.Attempts.{AttemptData}
use Rattle.sc_world.specs.Places.{IsAttemptOf}
use Rattle.sc_world.specs.Steps.{AsksOne, phase_of}
use Rattle.sc_world.specs.WorldData.{WorldData, held_at, world_data}
use Rattle.sc_world.specs.declared.places.AttemptState.TheVariants as phases
use Rattle.sc_world.proofs.CodeSaves.{asks_in, asks_keep}
use Rattle.sc_world.proofs.worlds.World.ask.Goals as goal

pub invariant_of-self-2 : goal.invariant_of-self-2
invariant_of-self-2 g c =
    let w = world_data c.self.inside.desk c.self.inside.stores.items c.self.inside.held.items in
    asks_keep g.W.Naming.work w c.args.exec c.attempt_among-attempt.result c.in_ok-noted.noted
    c.note.new.self c.settle_among.new.held.items c.self.invariant
    (subst (λ (x : WorldData). phase_of (held_at x c.args.exec) ≡ phases.Asks)
    (sym c.self.view_is) c.requires.asks)
    (subst (λ (h : List (Option AttemptData)). IsAttemptOf (at_or h c.args.exec None)
    c.attempt_among-attempt.result) c.as_slice.ensures.value c.attempt_among-attempt.ensures)
    c.in_ok-noted.ensures.noted c.settle_among.ensures c.is_sound.ensures

pub returns-clause-asks : goal.returns-clause-asks
returns-clause-asks g c =
    let w = world_data c.self.inside.desk c.self.inside.stores.items c.self.inside.held.items in
    subst (λ (x : WorldData). AsksOne x c.args.exec c.in_ok-noted.noted.answer
    (world_data c.note.new.self c.self.inside.stores.items c.settle_among.new.held.items))
    c.self.view_is
    (asks_in w c.args.exec c.attempt_among-attempt.result c.in_ok-noted.noted c.note.new.self
    c.settle_among.new.held.items
    (subst (λ (x : WorldData). phase_of (held_at x c.args.exec) ≡ phases.Asks)
    (sym c.self.view_is) c.requires.asks)
    (subst (λ (h : List (Option AttemptData)). IsAttemptOf (at_or h c.args.exec None)
    c.attempt_among-attempt.result) c.as_slice.ensures.value c.attempt_among-attempt.ensures)
    c.in_ok-noted.ensures.noted c.settle_among.ensures)
