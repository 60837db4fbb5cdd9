use Rattle.std.proofs.Common.{length, ap, arith}
use Rattle.sc_keys.proofs.CutLemmas.{length-cut_from}
use Rattle.sc_keys.proofs.cuts.CutRows.len.Goals as goal

pub returns : goal.returns
returns c =
    let inside = c.self.inside in
    let count = length-cut_from inside.rows 0 inside.ends.items in
    let size = ap length c.self.view_is in
    let is = c.len.ensures in
    omega (arith, count, size, is)
