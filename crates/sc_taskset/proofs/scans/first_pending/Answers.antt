use Rattle.std.proofs.Common.{refl, ap, ◌∙◌}
use Rattle.std.specs.Option.{option_map}
use Rattle.sc_taskset.proofs.ViewLemmas.{find_viewed}
use Rattle.sc_taskset.specs.Offers.{is_pending_task}
use Rattle.sc_taskset.specs.Rows.{task_of}
use Rattle.sc_taskset.specs.Marks.{is_pending_row}
use Rattle.sc_taskset.proofs.scans.first_pending.Goals as goal

pub returns : goal.returns
returns c = λ failures.
    ap (option_map (task_of failures)) c.first_pending.ensures
    ∙ find_viewed (task_of failures) is_pending_row is_pending_task (λ r. refl) c.args.rows.now
