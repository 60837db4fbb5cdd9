use Rattle.std.proofs.Common.{◌≡◌, ◌↔◌, drop, filter}
use Rattle.sc_logs.specs.Logs.{is_by}
use Rattle.sc_logs.proofs.agrees.is_run.Given as goal

abbrev pub invariant-loop-e : goal.invariant-loop-e
invariant-loop-e l =
    ((filter (is_by l.exec) l.fn.entries ≡ l.fn.log)
    ↔ (filter (is_by l.exec) (drop l.e-index l.fn.entries) ≡ l.rest))
    × (l.exec ≡ l.fn.exec) × (l.entries ≡ l.fn.entries)
