use Rattle.sc_lineage.specs.Views.{shuffling_data_of}
use Rattle.sc_compute.proofs.SideLemmas.{read_dealt}
use Rattle.sc_compute.proofs.shuffles.bucket_rows.Goals as goal

pub returns-in_ok-rows_of_bucket-in-Dealt : goal.returns-in_ok-rows_of_bucket-in-Dealt
returns-in_ok-rows_of_bucket-in-Dealt c = λ dealing streams read.
    read_dealt (shuffling_data_of c.args.kind.now) dealing c.args.n c.args.p c.args.from
    c.in-Dealt.dealt streams c.in_ok-rows_of_bucket-in-Dealt.field-0 c.in-Dealt.is read
    c.in_ok-rows_of_bucket-in-Dealt.ensures
