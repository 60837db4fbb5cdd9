use Rattle.std.proofs.Common.{◌∙◌, ap, arith, rules, of_calls, ltb}
use Rattle.std.proofs.lemmas.List.Sorted.{IsPartitionPoint-from_clause, IsPartitionedBy-ltb}
use Rattle.sc_taskset.proofs.TableLemmas.{IsParted, get_same, parted_from, rows_rise, sought, unsought}
use Rattle.sc_taskset.proofs.tables.sought_in.Goals.{else-place-rows-via-then-place-rows+else-rows-place, else-place-rows-via-else-place-rows}
use Rattle.sc_taskset.proofs.tables.sought_in.Goals as goal

pub returns-then-rows-place : goal.returns-then-rows-place
returns-then-rows-place c =
    let rows = c.args.rows.now in
    let parted : IsParted rows c.args.partition c.partition_point-place.result =
    parted_from rows c.args.partition c.partition_point-place.result
    (IsPartitionPoint-from_clause (λ r. ltb r.partition c.args.partition) rows
    c.partition_point-place.result c.partition_point-place.ensures.partitioned
    (IsPartitionedBy-ltb (λ r. r.partition) rows c.args.partition (rows_rise rows c.requires))
    (λ a r f' k. search (rules, of_calls))) in
    sought rows c.args.partition c.partition_point-place.result
    c.partition_point-place.ensures.bound parted
    (λ d l. ap (λ r. r.partition) (get_same rows c.partition_point-place.result d _ l)
    ∙ c.if-rows-place.true)

pub returns-else-place-rows : goal.returns-else-place-rows
returns-else-place-rows c =
    let rows = c.args.rows.now in
    let parted : IsParted rows c.args.partition c.partition_point-place.result =
    parted_from rows c.args.partition c.partition_point-place.result
    (IsPartitionPoint-from_clause (λ r. ltb r.partition c.args.partition) rows
    c.partition_point-place.result c.partition_point-place.ensures.partitioned
    (IsPartitionedBy-ltb (λ r. r.partition) rows c.args.partition (rows_rise rows c.requires))
    (λ a r f' k. search (rules, of_calls))) in
    unsought rows c.args.partition c.partition_point-place.result c.requires parted
    (λ d l e. elim c.else-place-rows.branch [
      | else-place-rows-via-then-place-rows+else-rows-place w ↦
          w.if-rows-place.false
          (ap (λ r. r.partition) (get_same rows c.partition_point-place.result _ d l) ∙ e)
      | else-place-rows-via-else-place-rows w ↦ absurd (omega (arith, l, w.if-place-rows.false))
    ])
