use Rattle.sc_value.specs.Datum.{number}
use Rattle.sc_columns.specs.Columns.{rows_in}
use Rattle.sc_columns.proofs.RangeLemmas.{part_behind}
use Rattle.sc_columns.proofs.VariantLemmas.{at-Ints}
use Rattle.sc_columns.proofs.ranges.add_ints.Goals as goal

pub returns-in_ok-extend_from_slice-in-Ints : goal.returns-in_ok-extend_from_slice-in-Ints
returns-in_ok-extend_from_slice-in-Ints c =
    part_behind number c.in-Ints.v c.range_of.result.now c.args.out.now.items
    c.extend_from_slice.new.self.items
    (rows_in c.args.column.now) c.args.from c.args.to
    (at-Ints c.args.column.now c.in-Ints.v c.in-Ints.is)
    c.range_of.ensures c.in_ok-extend_from_slice-in-Ints.ensures.items
