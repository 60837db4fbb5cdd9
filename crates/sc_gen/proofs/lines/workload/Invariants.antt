use Rattle.std.proofs.Common.{◌≡◌, ◌*◌}
use Rattle.std.specs.String.{string_bytes}
use Rattle.sc_gen.specs.Workload.{number_after, workload}
use Rattle.sc_gen.proofs.lines.workload.Given as goal

-- so far as many lines were drawn
abbrev pub invariant-loop : goal.invariant-loop
invariant-loop l =
    (l.number ≡ number_after l.fn.seed (2 * l.counter))
    × (string_bytes l.text ≡ workload l.fn.seed l.counter)
