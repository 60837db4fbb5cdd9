use Rattle.std.proofs.Common.{sym, arith}
use Rattle.sc_ids.proofs.ChangeLemmas.{change_at_past, set_changed}
use Rattle.sc_dag.specs.Changes.{attempt_by}
use Rattle.sc_dag.proofs.attempts.change_in.Goals as goal

pub returns-then-place-len-clause-items : goal.returns-then-place-len-clause-items
returns-then-place-len-clause-items c =
    let v = c.args.attempts.now in
    set_changed v.items c.args.place c.index_mut.result.now c.change.new.self
    (attempt_by c.args.change) (omega (arith, v.ok.0)) c.index_mut.ensures.value c.change.ensures

pub returns-else-place-len-clause-items : goal.returns-else-place-len-clause-items
returns-else-place-len-clause-items c =
    let v = c.args.attempts.now in
    sym (change_at_past v.items c.args.place (attempt_by c.args.change) (omega (arith, v.ok.0)))
