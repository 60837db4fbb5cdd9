use Rattle.std.proofs.Common.{◌≡◌, arith, length, subst}
use Rattle.sc_taskset.specs.Tables.{IsIndexed}
use Rattle.sc_taskset.proofs.TableLemmas.{fresh_indexed}
use Rattle.sc_taskset.proofs.tables.Table.new.Goals as goal

pub invariant_of-result : goal.invariant_of-result
invariant_of-result c =
    let rows = c.args.rows in
    let many : length rows.items ≡ c.len-unfinished.result =
    omega (arith, c.len-unfinished.ensures, rows.ok.0) in
    subst (λ n. IsIndexed rows.items n 0 c.args.marks) many
    (fresh_indexed rows.items c.args.marks c.requires.fresh c.requires.marked c.requires.fit)
