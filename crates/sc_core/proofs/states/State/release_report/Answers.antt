use Rattle.sc_core.proofs.states.State.release_report.Goals as goal

pub tell_late-requires-clause-apart : goal.tell_late-requires-clause-apart
tell_late-requires-clause-apart c =
    rw (c.unshelve.ensures.state, c.make_room.ensures.same) c.requires.apart
