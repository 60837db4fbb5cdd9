use Rattle.sc_dag.proofs.SubmitLemmas.{told_submitted, told_suit}
use Rattle.sc_dag.proofs.fates.submit.Goals as goal

pub carry_out-requires-clause-suit : goal.carry_out-requires-clause-suit
carry_out-requires-clause-suit c =
    told_suit c.args.rows.now.items c.deref.result.now c.args.tracker.now c.args.limits
    c.args.submitted c.note_fates.new.fates.items c.deref-2.result.now c.deref.ensures.value
    c.deref-2.ensures.value c.note_fates.ensures.are

pub returns-clause-submitted : goal.returns-clause-submitted
returns-clause-submitted c =
    told_submitted c.args.rows.now.items c.deref.result.now c.carry_out.new.rows.items
    c.args.tracker.now c.args.limits c.args.submitted c.note_fates.new.fates.items
    c.deref-2.result.now c.deref.ensures.value c.deref-2.ensures.value c.note_fates.ensures.are
    c.carry_out.ensures.states c.carry_out.ensures.stages
