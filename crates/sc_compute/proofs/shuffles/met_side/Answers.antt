use Rattle.std.proofs.Common.{◌∙◌, ap, sym}
use Rattle.std.proofs.lemmas.Result.{err_from_is_err_and}
use Rattle.sc_lineage.specs.Shuffles.{by_hash}
use Rattle.sc_lineage.specs.Streams.{whole_stream}
use Rattle.sc_compute.proofs.SideLemmas.{gives_right, met_rows}
use Rattle.sc_compute.proofs.shuffles.met_side.Goals as goal

pub returns-in_err-second : goal.returns-in_err-second
returns-in_err-second c = λ lefts rights from_left from_right.
    let first = c.in_ok-first.ensures (by_hash c.args.n) lefts from_left in
    let p = err_from_is_err_and c.from_residual-in_err-second.result
    c.from_residual-in_err-second.ensures.1 in
    rw (p.1, p.2)
    (gives_right c.args.kind c.args.n c.args.p lefts rights first.0 c.in_err-second.field-0.0
    first.1 (c.in_err-second.ensures (by_hash c.args.n) rights from_right))

pub returns : goal.returns
returns c = λ lefts rights from_left from_right.
    let first = c.in_ok-first.ensures (by_hash c.args.n) lefts from_left in
    let second = c.in_ok-second.ensures (by_hash c.args.n) rights from_right in
    met_rows c.args.kind c.args.n c.args.p lefts rights first.0 second.0 c.in_ok-first.first
    c.in_ok-second.second first.1 second.1 first.2 second.2
    ∙ ap whole_stream (sym c.in_ok-meet.ensures)
