use Rattle.sc_value.specs.Datum.{truth}
use Rattle.sc_columns.specs.Columns.{rows_in}
use Rattle.sc_columns.proofs.RangeLemmas.{part_behind}
use Rattle.sc_columns.proofs.VariantLemmas.{at-Bools}
use Rattle.sc_columns.proofs.ranges.add_bools.Goals as goal

pub returns-in_ok-extend_from_slice-in-Bools : goal.returns-in_ok-extend_from_slice-in-Bools
returns-in_ok-extend_from_slice-in-Bools c =
    part_behind truth c.in-Bools.v c.range_of.result.now c.args.out.now.items
    c.extend_from_slice.new.self.items
    (rows_in c.args.column.now) c.args.from c.args.to
    (at-Bools c.args.column.now c.in-Bools.v c.in-Bools.is)
    c.range_of.ensures c.in_ok-extend_from_slice-in-Bools.ensures.items
