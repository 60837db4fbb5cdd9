use Rattle.std.proofs.Common.{ap, sym, ◌∙◌}
use Rattle.std.specs.Option.{option_map}
use Rattle.sc_taskset.specs.Rows.{task_of}
use Rattle.sc_taskset.proofs.scans.offered.Goals as goal

pub returns-then-speculation-clause-pending : goal.returns-then-speculation-clause-pending
returns-then-speculation-clause-pending g c = λ failures some.
    absurd (some (sym (c.first_pending.ensures failures)
    ∙ ap (option_map (task_of failures)) c.in-None.is))
