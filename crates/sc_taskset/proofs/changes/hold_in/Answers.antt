use Rattle.std.proofs.Common.{refl, ap, sym, ◌∙◌}
use Rattle.sc_taskset.specs.Lists.{IsOnFewer}
use Rattle.sc_taskset.proofs.FewerLemmas.{fewer_by, found_changed}
use Rattle.sc_taskset.proofs.TableLemmas.{none_replaced, task_replaced}
use Rattle.sc_taskset.specs.Lookups.{is_task_of}
use Rattle.sc_taskset.specs.Reports.{held_task}
use Rattle.sc_taskset.specs.Rows.{is_row_of, task_of, tasks_of}
use Rattle.sc_taskset.proofs.changes.hold_in.Goals as goal

pub returns-in-Some : goal.returns-in-Some
returns-in-Some c = λ failures.
    ap (tasks_of failures) c.replace.ensures
    ∙ task_replaced failures c.args.rows.now c.args.partition c.in-Some.row c.held.result
    (held_task c.args.denied) (λ t. refl) (sym c.in-Some.is ∙ c.row_of.ensures) c.held.ensures

pub returns-in-None : goal.returns-in-None
returns-in-None c = λ failures.
    none_replaced (task_of failures) (is_row_of c.args.partition) (is_task_of c.args.partition)
    (held_task c.args.denied) (λ r. refl) c.args.rows.now (sym c.in-None.is ∙ c.row_of.ensures)

pub replace-requires : goal.replace-requires
replace-requires c =
    found_changed c.args.rows.now c.args.partition c.in-Some.row c.held.result
    (held_task c.args.denied) (λ before. IsOnFewer before c.held.result) (λ t. refl)
    (sym c.in-Some.is ∙ c.row_of.ensures) c.held.ensures
    (fewer_by c.in-Some.row c.held.result (held_task c.args.denied) c.held.ensures
    (λ e t on. on))
