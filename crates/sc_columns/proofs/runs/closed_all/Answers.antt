use Rattle.std.proofs.Common.{rules, ◌∙◌, ap, sym}
use Rattle.std.proofs.lemmas.Iterator.Adapters.{YieldsList-from_vec}
use Rattle.std.proofs.lemmas.Iterator.Consumers.{YieldsList-end}
use Rattle.std.proofs.lemmas.List.{map-id}
use Rattle.std.specs.List.{flat_map}
use Rattle.sc_columns.specs.Runs.{run_rows}
use Rattle.sc_columns.proofs.runs.closed_all.Goals as goal

pub returns : goal.returns
returns c =
    let ended = YieldsList-end
    (YieldsList-from_vec {s = c.into_iter-run-iterator.result} c.args.runs.items
    (search rules) (search rules))
    c.loop-run.yielded c.loop-run.run-iterator c.loop-run.yielded_by c.next.result c.next.new.self
    c.in-None.is c.next.ensures.steps in
    c.loop-run.invariant ∙ ap (flat_map run_rows) (sym (map-id c.loop-run.yielded) ∙ ended.0)
