use Rattle.sc_value.specs.Datum.{text}
use Rattle.sc_columns.specs.Columns.{rows_in}
use Rattle.sc_columns.proofs.RangeLemmas.{part_behind}
use Rattle.sc_columns.proofs.VariantLemmas.{at-Texts}
use Rattle.sc_columns.proofs.ranges.add_texts.Goals as goal

pub returns-in_ok-append-in-Texts : goal.returns-in_ok-append-in-Texts
returns-in_ok-append-in-Texts c =
    part_behind text c.in-Texts.t c.in_ok-texts_of-in-Texts.field-0 c.args.out.now
    c.append-in-Texts.new.self
    (rows_in c.args.column.now) c.args.from c.args.to
    (at-Texts c.args.column.now c.in-Texts.t c.in-Texts.is)
    c.in_ok-texts_of-in-Texts.ensures c.in_ok-append-in-Texts.ensures
