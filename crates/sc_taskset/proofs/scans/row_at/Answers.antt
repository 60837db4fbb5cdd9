use Rattle.std.proofs.Common.{refl, ap, ◌∙◌}
use Rattle.std.specs.Option.{option_map}
use Rattle.sc_taskset.proofs.ViewLemmas.{find_viewed}
use Rattle.sc_taskset.specs.Rows.{task_of, is_row_of}
use Rattle.sc_taskset.specs.Lookups.{is_task_of}
use Rattle.sc_taskset.proofs.scans.row_at.Goals as goal

pub returns : goal.returns
returns c = λ failures.
    ap (option_map (task_of failures)) c.row_of.ensures
    ∙ find_viewed (task_of failures) (is_row_of c.args.partition) (is_task_of c.args.partition)
    (λ r. refl) c.args.rows.now
