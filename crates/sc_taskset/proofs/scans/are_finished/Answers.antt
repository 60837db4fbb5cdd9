use Rattle.std.proofs.Common.{refl, ◌∙◌}
use Rattle.sc_taskset.proofs.ViewLemmas.{all_viewed}
use Rattle.sc_taskset.specs.Lookups.{is_finish, is_finished}
use Rattle.sc_taskset.specs.Rows.{task_of}
use Rattle.sc_taskset.proofs.scans.are_finished.Goals as goal

pub returns : goal.returns
returns c = λ failures.
    c.are_finished.ensures
    ∙ all_viewed (task_of failures) (λ r. is_finish r.finish) is_finished (λ r. refl)
    c.args.rows.now
