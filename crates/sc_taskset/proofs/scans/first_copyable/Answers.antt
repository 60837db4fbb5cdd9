use Rattle.std.proofs.Common.{refl, ap, ◌∙◌}
use Rattle.std.specs.Option.{option_map}
use Rattle.sc_taskset.proofs.ViewLemmas.{find_viewed}
use Rattle.sc_taskset.specs.Rows.{task_of}
use Rattle.sc_taskset.specs.Offers.{is_copyable_task}
use Rattle.sc_taskset.specs.Paces.{slow_at}
use Rattle.sc_taskset.specs.Tables.{is_copyable_row}
use Rattle.sc_taskset.proofs.scans.first_copyable.Goals as goal

pub returns-clause-first : goal.returns-clause-first
returns-clause-first g c = λ failures.
    ap (option_map (task_of failures)) c.first_copyable.ensures.first
    ∙ find_viewed (task_of failures) (is_copyable_row (slow_at c.args.pace) c.args.exec)
    (is_copyable_task (slow_at c.args.pace) c.args.exec) (λ r. refl) c.args.rows.now
