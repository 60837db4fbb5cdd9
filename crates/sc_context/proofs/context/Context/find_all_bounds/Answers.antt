use Rattle.std.proofs.Common.{◌<◌, None, length, arith, subst}
use Rattle.std.specs.List.{slice_get}
use Rattle.std.proofs.lemmas.Result.{err_from_is_err_and}
use Rattle.sc_base.specs.Lists.{at_or}
use Rattle.sc_compute.specs.Stages.{bounds_at}
use Rattle.sc_stagecut.specs.Carrying.{IsFirstLacking}
use Rattle.sc_context.specs.Progress.{next_node}
use Rattle.sc_context.specs.Records.{histories_of}
use Rattle.sc_context.proofs.BoundLemmas.{fewer_behind, lacks_none, lacks_within}
use Rattle.sc_context.proofs.ChainLemmas.{goes_on, stays, stops_behind, stops_short}
use Rattle.sc_context.proofs.context.Context.find_all_bounds.Goals as goal

pub loop-sort-smaller : goal.loop-sort-smaller
loop-sort-smaller g c =
    let work = g.W.Naming.work in
    let p = c.loop-sort.context.progress in
    let sort = c.in-Ok-Some.sort in
    let first = subst (IsFirstLacking work.script.nodes p.carried (next_node work p))
    c.in-Ok-Some.field-0-is c.in-Ok-Some.ensures in
    let there = lacks_within work.script.nodes sort (at_or p.carried.bounds sort None)
    first.0.unbounded in
    let within : sort < length p.carried.bounds = omega (arith, there, c.is_sound.ensures.places) in
    fewer_behind p.carried.bounds c.in_ok-context-in-Ok-Some.context.progress.carried.bounds sort
    (bounds_at work sort) c.in_ok-context-in-Ok-Some.ensures.finds.bounds within
    (lacks_none (slice_get work.script.nodes sort) (at_or p.carried.bounds sort None)
    first.0.unbounded)

pub returns-in_err-context-in-Ok-Some-clause-stops :
    goal.returns-in_err-context-in-Ok-Some-clause-stops
returns-in_err-context-in-Ok-Some-clause-stops g c =
    let p = err_from_is_err_and c.from_residual.result c.from_residual.ensures.1 in
    let stopped = c.in_err-context-in-Ok-Some.field-0.0 in
    rw (p.1, p.2)
    (stops_behind g.W.Naming.work c.args.self c.loop-sort.context stopped.why
    stopped.records.histories.items (histories_of stopped.records.gave_up.items)
    (g.F.Files.state stopped.files) c.loop-sort.invariant
    c.in_err-context-in-Ok-Some.ensures.stops)

pub returns-in-Err-clause-stops : goal.returns-in-Err-clause-stops
returns-in-Err-clause-stops g c =
    let left = c.without_memory.result in
    let files = g.F.Files.state left.files in
    let histories = left.records.histories.items in
    let given_up = histories_of left.records.gave_up.items in
    stops_behind g.W.Naming.work c.args.self c.loop-sort.context left.why histories given_up
    files c.loop-sort.invariant
    (stops_short g.W.Naming.work c.loop-sort.context left.why histories given_up files
    c.is_sound.ensures.come c.without_memory.ensures.why c.without_memory.ensures.histories
    c.without_memory.ensures.given_up c.without_memory.ensures.files)

pub loop-sort-init : goal.loop-sort-init
loop-sort-init g c = stays g.W.Naming.work c.args.self

pub loop-sort-preserved : goal.loop-sort-preserved
loop-sort-preserved g c =
    goes_on g.W.Naming.work c.args.self c.loop-sort.context c.in_ok-context-in-Ok-Some.context
    c.loop-sort.invariant c.in_ok-context-in-Ok-Some.ensures.finds.on
