use Rattle.std.proofs.Common.{refl, ap, sym, ◌∙◌}
use Rattle.std.proofs.lemmas.Result.{on_ok_weaker}
use Rattle.sc_taskset.specs.Lists.{IsOnOneMore}
use Rattle.sc_taskset.proofs.FewerLemmas.{found_changed, more_by}
use Rattle.sc_taskset.proofs.TableLemmas.{none_replaced, task_replaced}
use Rattle.sc_taskset.specs.Lookups.{is_task_of}
use Rattle.sc_taskset.specs.Offers.{handed_task}
use Rattle.sc_taskset.specs.Rows.{is_row_of, task_of, tasks_of}
use Rattle.sc_taskset.proofs.changes.hand_in.Goals as goal

pub returns-in-None-clause-handed : goal.returns-in-None-clause-handed
returns-in-None-clause-handed c = λ failures.
    none_replaced (task_of failures) (is_row_of c.args.partition) (is_task_of c.args.partition)
    (handed_task c.args.exec c.args.now) (λ r. refl) c.args.rows.now
    (sym c.in-None.is ∙ c.row_of.ensures)

pub handed-requires-clause-room : goal.handed-requires-clause-room
handed-requires-clause-room c = rw (sym c.row_of.ensures ∙ c.in-Some.is) at c.requires

pub returns-in-Some-checked_add-clause-handed : goal.returns-in-Some-checked_add-clause-handed
returns-in-Some-checked_add-clause-handed c = λ failures.
    on_ok_weaker c.hand_over.result
    (λ same. ap (tasks_of failures) same
    ∙ task_replaced failures c.args.rows.now c.args.partition c.in-Some.row c.handed.result
    (handed_task c.args.exec c.args.now) (λ t. refl) (sym c.in-Some.is ∙ c.row_of.ensures)
    c.handed.ensures)
    c.hand_over.ensures.handed

pub hand_over-requires : goal.hand_over-requires
hand_over-requires c =
    found_changed c.args.rows.now c.args.partition c.in-Some.row c.handed.result
    (handed_task c.args.exec c.args.now)
    (λ before. IsOnOneMore c.args.exec before c.handed.result) (λ t. refl)
    (sym c.in-Some.is ∙ c.row_of.ensures) c.handed.ensures
    (more_by c.in-Some.row c.handed.result c.args.exec c.args.now c.handed.ensures)
