use Rattle.std.proofs.Common.{ap, ◌∙◌, arith, length, set}
use Rattle.sc_taskset.proofs.FewerLemmas.{found_there}
use Rattle.sc_taskset.proofs.TableLemmas.{found_at, found_past, place_passes}
use Rattle.sc_taskset.specs.Rows.{is_row_of}
use Rattle.sc_taskset.proofs.changes.hand_over.Goals as goal

pub hand-requires-clause-same : goal.hand-requires-clause-same
hand-requires-clause-same c =
    place_passes c.args.rows.now c.args.row.partition c.place_of-place.result c.args.row
    c.place_of-place.ensures
    (omega (arith, c.if-place-as_slice.true, ap length c.as_slice.ensures))

pub hand-requires-clause-more : goal.hand-requires-clause-more
hand-requires-clause-more c =
    rw (found_there (is_row_of c.args.row.partition) c.args.rows.now c.place_of-place.result
    c.args.row c.place_of-place.ensures
    (omega (arith, c.if-place-as_slice.true, ap length c.as_slice.ensures))) at c.requires

pub returns-in_ok-hand-clause-handed : goal.returns-in_ok-hand-clause-handed
returns-in_ok-hand-clause-handed c =
    let q = is_row_of c.args.row.partition in
    let rows = c.args.rows.now in
    c.in_ok-hand.ensures.handed ∙ ap (λ i. set rows i c.args.row) c.place_of-place.ensures
    ∙ found_at q rows c.args.row
    (omega (
      arith,
      c.if-place-as_slice.true,
      ap length c.as_slice.ensures,
      c.place_of-place.ensures,
    ))

pub returns-else-place-as_slice-clause-handed : goal.returns-else-place-as_slice-clause-handed
returns-else-place-as_slice-clause-handed c =
    found_past (is_row_of c.args.row.partition) c.args.rows.now c.args.row
    (omega (
      arith,
      c.if-place-as_slice.false,
      ap length c.as_slice.ensures,
      c.place_of-place.ensures,
    ))
