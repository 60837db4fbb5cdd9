use Rattle.std.proofs.Common.{ap, ◌∙◌, arith, length, set}
use Rattle.sc_taskset.proofs.FewerLemmas.{found_there}
use Rattle.sc_taskset.proofs.TableLemmas.{found_at, found_past, place_passes}
use Rattle.sc_taskset.specs.Rows.{is_row_of}
use Rattle.sc_taskset.proofs.changes.replace.Goals as goal

pub put-requires-clause-same : goal.put-requires-clause-same
put-requires-clause-same c =
    place_passes c.args.rows.now c.args.row.partition c.place_of-place.result c.args.row
    c.place_of-place.ensures
    (omega (arith, c.if-place-as_slice.true, ap length c.as_slice.ensures))

pub returns-then-place-as_slice : goal.returns-then-place-as_slice
returns-then-place-as_slice c =
    let q = is_row_of c.args.row.partition in
    let rows = c.args.rows.now in
    c.put.ensures ∙ ap (λ i. set rows i c.args.row) c.place_of-place.ensures
    ∙ found_at q rows c.args.row
    (omega (
      arith,
      c.if-place-as_slice.true,
      ap length c.as_slice.ensures,
      c.place_of-place.ensures,
    ))

pub returns-else-place-as_slice : goal.returns-else-place-as_slice
returns-else-place-as_slice c =
    found_past (is_row_of c.args.row.partition) c.args.rows.now c.args.row
    (omega (
      arith,
      c.if-place-as_slice.false,
      ap length c.as_slice.ensures,
      c.place_of-place.ensures,
    ))

pub put-requires-clause-fewer : goal.put-requires-clause-fewer
put-requires-clause-fewer c =
    rw (found_there (is_row_of c.args.row.partition) c.args.rows.now c.place_of-place.result
    c.args.row c.place_of-place.ensures
    (omega (arith, c.if-place-as_slice.true, ap length c.as_slice.ensures))) at c.requires
