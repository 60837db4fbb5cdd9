use Rattle.std.proofs.Common.{length, ap, arith}
use Rattle.sc_batch.specs.Outcomes.{of_two, outcomes_at}
use Rattle.sc_columns.proofs.ListLemmas.{length-zip_with}
use Rattle.sc_batch.proofs.by_rows.AtRows.len.Goals as goal

pub returns-in-Two : goal.returns-in-Two
returns-in-Two c =
    omega (
      arith,
      ap (λ w. length (outcomes_at w)) c.in-Two.is,
      length-zip_with (of_two c.in-Two.field-0) c.in-Two.first.now c.in-Two.second.now,
    )
