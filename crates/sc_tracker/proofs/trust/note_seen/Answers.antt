use Rattle.std.proofs.Common.{sym, arith}
use Rattle.sc_ids.proofs.ChangeLemmas.{set_changed, change_at_past}
use Rattle.sc_tracker.specs.Trust.{seen_at}
use Rattle.sc_tracker.proofs.trust.note_seen.Goals as goal

pub returns-then-exec-len : goal.returns-then-exec-len
returns-then-exec-len c =
    let v = c.args.trust.now in
    set_changed v.items c.args.exec c.index_mut.result.now c.see.new.self
    (seen_at c.args.found c.args.epoch) (omega (arith, v.ok.0))
    c.index_mut.ensures.value c.see.ensures

pub returns-else-exec-len : goal.returns-else-exec-len
returns-else-exec-len c =
    let v = c.args.trust.now in
    sym (change_at_past v.items c.args.exec (seen_at c.args.found c.args.epoch)
    (omega (arith, v.ok.0)))
