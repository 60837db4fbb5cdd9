use Rattle.sc_lineage.specs.Shuffles.{reduce_side, shuffled_stream}
use Rattle.sc_lineage.specs.Views.{shuffling_data_of}
use Rattle.sc_compute.proofs.SideLemmas.{gives, shuffled_rows}
use Rattle.sc_compute.proofs.shuffles.shuffled_side.Goals as goal

pub returns : goal.returns
returns c = λ dealing streams read.
    let kind = shuffling_data_of c.args.kind.now in
    let rows = c.in_ok-rows.ensures dealing streams read in
    gives c.reduce_side.result (reduce_side kind c.in_ok-rows.rows)
    (shuffled_stream kind dealing c.args.p streams) c.reduce_side.ensures
    (shuffled_rows kind dealing c.args.p streams rows.0 c.in_ok-rows.rows rows.1 rows.2)
